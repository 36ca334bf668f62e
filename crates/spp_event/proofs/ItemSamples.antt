-- Where items begin, told by how many begin before.
use Rattle.std.proofs.Common.{◌≡◌, ℕ, zero, suc, ◌+◌, ◌-◌, ◌*◌, ◌<◌, ◌≤◌, Bool, nat_le, cond, List, [], ◌∷◌, ◌++◌, length, take, drop, get_or, slice_get, Some, refl, sym, ap, subst, ◌∙◌, ◌⊎◌, arith, inl, inr}
use Rattle.std.proofs.lemmas.Bool.{cases_lt, le-leb, lt-leb}
use Rattle.std.proofs.lemmas.List.{take-append-drop, length-append, take_all}
use Rattle.std.proofs.Math.Seq.{drop-append_seam}
use Rattle.spp_event.specs.Items.{in_front, items}
use Rattle.spp_event.specs.Places.{GoesOn, IsItemPlace}
use Rattle.spp_event.proofs.ItemNumbers.{drop_more}
use Rattle.spp_event.proofs.ItemPlaces.{starts_by, in_front_high, in_front_low, on_high, first_place, slice_get_last}
use Rattle.spp_event.proofs.ItemCounts.{leads, between, items_begun, leads_cons, counted_on}

-- bytes, and behind them others that begin with an item
pub items_parted : (xs ys : List ℕ) → GoesOn ys → items (xs ++ ys) ≡ items xs ++ items ys
items_parted [] ys g = refl
items_parted (b ∷ []) [] g = refl
items_parted (b ∷ []) (y ∷ ys) g =
    let s = starts_by y (items ys) in
    ap (in_front b) s.are ∙ in_front_high b s.first s.others (omega (arith, s.begins, g)) ∙ ap (λ (l : List (List ℕ)). (b ∷ []) ∷ l) (sym s.are)
items_parted (b ∷ c ∷ cs) ys g =
    let s = starts_by c (items cs) in
    let more : items ((c ∷ cs) ++ ys) ≡ s.first ∷ (s.others ++ items ys) = items_parted (c ∷ cs) ys g ∙ ap (λ (l : List (List ℕ)). l ++ items ys) s.are in
    elim (cases_lt c 128) [
      | inl low ↦
          ap (in_front b) more ∙ in_front_low b s.first (s.others ++ items ys) (omega (arith, s.begins))
          ∙ ap (λ (l : List (List ℕ)). l ++ items ys) (sym (ap (in_front b) s.are ∙ in_front_low b s.first s.others (omega (arith, s.begins))))
      | inr high ↦
          ap (in_front b) more ∙ in_front_high b s.first (s.others ++ items ys) (omega (arith, s.begins))
          ∙ ap (λ (l : List (List ℕ)). l ++ items ys) (sym (ap (in_front b) s.are ∙ in_front_high b s.first s.others (omega (arith, s.begins))))
    ]

-- an item that begins at a place is behind those that begin before
pub begins_at : (body : List ℕ) (place : ℕ) → place ≤ length body → GoesOn (drop place body) → IsItemPlace body (length (items (take place body))) place
begins_at body place le g = record {
  within = le;
  rest =
      ap (λ (l : List (List ℕ)). drop (length (items (take place body))) l) (sym (ap items (take-append-drop place body)) ∙ items_parted (take place body) (drop place body) g)
      ∙ drop-append_seam (items (take place body)) (items (drop place body));
}

one_byte : (body : List ℕ) (k : ℕ) → k < length body → leads (between body k (k + 1)) ≡ cond (nat_le 128 (get_or body k 0)) 1 0
one_byte body k l =
    let b = get_or body k 0 in
    ap (λ (n : ℕ). leads (take n (drop k body))) (let s : k + 1 - k ≡ 1 = omega arith in s)
    ∙ ap (λ (bs : List ℕ). leads (take 1 bs)) (drop_more body k b l refl)
    ∙ leads_cons b []
    ∙ (let s : cond (nat_le 128 b) 1 0 + 0 ≡ cond (nat_le 128 b) 1 0 = omega arith in s)

-- at the first byte one begins
first_begun : (body : List ℕ) → 0 < length body → length (items (take 1 body)) ≡ 1
first_begun [] l = absurd (omega arith)
first_begun (b ∷ bs) l = items_begun (b ∷ [])

-- none begins at a later byte below 128
pub none_begun : (body : List ℕ) (k : ℕ) → 0 < k → k < length body → get_or body k 0 < 128 → length (items (take (k + 1) body)) ≡ length (items (take k body))
none_begun body k some l low =
    omega (arith, counted_on body k (k + 1) some (omega arith) (omega arith), one_byte body k l, ap {B = ℕ} (λ (t : Bool). cond t 1 0) (lt-leb 128 (get_or body k 0) low))

-- one does at the first byte and at each other one
pub one_begun : (body : List ℕ) (k : ℕ) → k < length body → (k ≡ 0) ⊎ (128 ≤ get_or body k 0) → length (items (take (k + 1) body)) ≡ length (items (take k body)) + 1
one_begun body zero l h = first_begun body l
one_begun body (suc k) l (inl z) = absurd (omega arith)
one_begun body (suc k) l (inr high) =
    omega (arith, counted_on body (suc k) (suc k + 1) (omega arith) (omega arith) (omega arith), one_byte body (suc k) l, ap {B = ℕ} (λ (t : Bool). cond t 1 0) (le-leb 128 (get_or body (suc k) 0) high))

pub begun_at : (body : List ℕ) (k : ℕ) → k < length body → (k ≡ 0) ⊎ (128 ≤ get_or body k 0) → IsItemPlace body (length (items (take k body))) k
begun_at body zero l h = first_place body
begun_at body (suc k) l (inl z) = absurd (omega arith)
begun_at body (suc k) l (inr high) = begins_at body (suc k) (omega arith) (on_high body (suc k) l high)

leads_few : (bs : List ℕ) → leads bs ≤ length bs
leads_few [] = omega arith
leads_few (b ∷ bs) = elim (cases_lt b 128) [
  | inl low ↦ omega (arith, leads_few bs, leads_cons b bs, ap {B = ℕ} (λ (t : Bool). cond t 1 0) (lt-leb 128 b low))
  | inr high ↦ omega (arith, leads_few bs, leads_cons b bs, ap {B = ℕ} (λ (t : Bool). cond t 1 0) (le-leb 128 b high))
]

taken_few : (n : ℕ) (bs : List ℕ) → length (take n bs) ≤ n
taken_few zero bs = omega arith
taken_few (suc n) [] = omega arith
taken_few (suc n) (b ∷ bs) = omega (arith, taken_few n bs)

-- no more begin than there are bytes
pub few_begun : (body : List ℕ) (from to : ℕ) → from ≤ to → length (items (take to body)) ≤ length (items (take from body)) + (to - from)
few_begun [] zero zero le = omega arith
few_begun [] zero (suc to) le = omega arith
few_begun [] (suc from) zero le = absurd (omega arith)
few_begun [] (suc from) (suc to) le = omega arith
few_begun (b ∷ body) zero zero le = omega arith
few_begun (b ∷ body) zero (suc to) le = omega (arith, items_begun (b ∷ take to body), leads_few (take to body), taken_few to body)
few_begun (b ∷ body) (suc from) to le =
    omega (arith, counted_on (b ∷ body) (suc from) to (omega arith) le (omega arith), leads_few (between (b ∷ body) (suc from) to), taken_few (to - suc from) (drop (suc from) (b ∷ body)))

-- ---- samples

-- the places that were noted of the items that begin before a place
pub record Sampled (body places : List ℕ) (begun from : ℕ) : Type 0 where
  pub is : begun ≡ length (items (take from body))
  pub each : (j at : ℕ) → slice_get places j ≡ Some at → IsItemPlace body (j * 64) at
  pub many : begun ≤ 64 * length places
  pub few : 64 * length places < begun + 64

pub none_sampled : (body : List ℕ) → Sampled body [] 0 0
none_sampled body = record { is = refl; each = λ j at e. absurd cc; many = omega arith; few = omega arith }

-- one more
pub each_sampled : (body places more : List ℕ) (place : ℕ) → ((j at : ℕ) → slice_get places j ≡ Some at → IsItemPlace body (j * 64) at) → IsItemPlace body (length places * 64) place → more ≡ places ++ place ∷ []
    → (j at : ℕ) → slice_get more j ≡ Some at → IsItemPlace body (j * 64) at
each_sampled body places more place each here is j at e = elim (slice_get_last places place at j (ap (λ (l : List ℕ). slice_get l j) (sym is) ∙ e)) [
  | inl old ↦ each j at old
  | inr new ↦ subst (λ (k : ℕ). IsItemPlace body (k * 64) at) (sym new.0) (subst (λ (k : ℕ). IsItemPlace body (length places * 64) k) (sym new.1) here)
]

-- bytes up to a place behind the end are all
pub taken_all : (body : List ℕ) (to next : ℕ) → (to ≡ next) ⊎ ((to ≡ length body) × (length body ≤ next)) → take to body ≡ take next body
taken_all body to next (inl same) = ap (λ (n : ℕ). take n body) same
taken_all body to next (inr all) =
    ap (λ (n : ℕ). take n body) all.0 ∙ take_all _ body (omega arith) ∙ sym (take_all _ body all.1)

-- the next bytes, where no sample lies in them and where one does
pub passed : (body places : List ℕ) (begun from more to next : ℕ) → Sampled body places begun from → length (items (take from body)) + more ≡ length (items (take to body)) → take to body ≡ take next body
    → begun + more ≤ 64 * length places → Sampled body places (begun + more) next
passed body places begun from more to next h counted same few = record {
  is = (let s : begun + more ≡ length (items (take to body)) = (let i = h.is in omega (arith, counted)) in s ∙ ap (λ (bs : List ℕ). length (items bs)) same);
  each = h.each;
  many = few;
  few = (let f = h.few in omega arith);
}

pub passed_one : (body places ones : List ℕ) (place begun from more to next : ℕ) → Sampled body places begun from → length (items (take from body)) + more ≡ length (items (take to body)) → take to body ≡ take next body
    → 64 * length places < begun + more → more ≤ 32 → IsItemPlace body (length places * 64) place → ones ≡ places ++ place ∷ [] → Sampled body ones (begun + more) next
passed_one body places ones place begun from more to next h counted same lies few here is =
    let long : length ones ≡ length places + 1 = ap (λ (l : List ℕ). length l) is ∙ length-append places (place ∷ []) in
    record {
      is = (let s : begun + more ≡ length (items (take to body)) = (let i = h.is in omega (arith, counted)) in s ∙ ap (λ (bs : List ℕ). length (items bs)) same);
      each = each_sampled body places ones place h.each here is;
      many = (let m = h.many in omega (arith, long));
      few = omega (arith, long);
    }
