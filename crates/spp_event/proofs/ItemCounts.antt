-- How many items begin in bytes.
use Rattle.std.proofs.Common.{◌≡◌, ℕ, zero, suc, ◌+◌, ◌-◌, ◌<◌, ◌≤◌, Bool, nat_le, cond, List, [], ◌∷◌, ◌++◌, length, take, drop, get_or, refl, sym, ap, ◌∙◌, arith, inl, inr}
use Rattle.std.specs.List.{count_by}
use Rattle.std.proofs.lemmas.Bool.{cases_lt, le-leb, lt-leb}
use Rattle.std.proofs.lemmas.List.{take-append-drop, take_all}
use Rattle.std.proofs.lemmas.List.Sums.{sum_by-cons, sum_by-append}
use Rattle.spp_event.specs.Items.{in_front, items}
use Rattle.spp_event.proofs.ItemPlaces.{starts_by, in_front_high, in_front_low}

abbrev pub leads : List ℕ → ℕ
leads bs = count_by (λ x. nat_le 128 x) bs

-- one begins at the first byte, and at each later one of 128 or more
abbrev pub begun : List ℕ → ℕ
begun [] = 0
begun (b ∷ bs) = 1 + leads bs

pub leads_cons : (c : ℕ) (cs : List ℕ) → leads (c ∷ cs) ≡ cond (nat_le 128 c) 1 0 + leads cs
leads_cons c cs = sum_by-cons (λ (x : ℕ). cond (nat_le 128 x) 1 0) c cs

-- one byte more
pub leads_more : (bs : List ℕ) (k : ℕ) → k < length bs → leads (take (k + 1) bs) ≡ leads (take k bs) + cond (nat_le 128 (get_or bs k 0)) 1 0
leads_more [] k l = absurd (omega arith)
leads_more (b ∷ bs) zero l = omega (arith, leads_cons b [])
leads_more (b ∷ bs) (suc k) l =
    let first : leads (take (suc k + 1) (b ∷ bs)) ≡ cond (nat_le 128 b) 1 0 + leads (take (k + 1) bs) =
    ap (λ (n : ℕ). leads (take n (b ∷ bs))) (let e : suc k + 1 ≡ suc (k + 1) = omega arith in e) ∙ leads_cons b (take (k + 1) bs) in
    let second : leads (take (suc k) (b ∷ bs)) ≡ cond (nat_le 128 b) 1 0 + leads (take k bs) = leads_cons b (take k bs) in
    let more : leads (take (k + 1) bs) ≡ leads (take k bs) + cond (nat_le 128 (get_or (b ∷ bs) (suc k) 0)) 1 0 = leads_more bs k (omega arith) in
    omega (arith, first, second, more)

pub leads_all : (bs : List ℕ) (k : ℕ) → length bs ≤ k → leads (take k bs) ≡ leads bs
leads_all bs k l = ap leads (take_all k bs l)

pub items_begun : (xs : List ℕ) → length (items xs) ≡ begun xs
items_begun [] = refl
items_begun (b ∷ []) = refl
items_begun (b ∷ c ∷ cs) =
    let s = starts_by c (items cs) in
    let n : length (items (c ∷ cs)) ≡ 1 + leads cs = items_begun (c ∷ cs) in
    elim (cases_lt c 128) [
      | inl low ↦
          let is : items (b ∷ c ∷ cs) ≡ (b ∷ s.first) ∷ s.others = ap (in_front b) s.are ∙ in_front_low b s.first s.others (omega (arith, s.begins)) in
          omega (arith, ap (λ (l : List (List ℕ)). length l) is, ap (λ (l : List (List ℕ)). length l) s.are, n, leads_cons c cs, ap {B = ℕ} (λ (t : Bool). cond t 1 0) (lt-leb 128 c low))
      | inr high ↦
          let is : items (b ∷ c ∷ cs) ≡ (b ∷ []) ∷ s.first ∷ s.others = ap (in_front b) s.are ∙ in_front_high b s.first s.others (omega (arith, s.begins)) in
          omega (arith, ap (λ (l : List (List ℕ)). length l) is, ap (λ (l : List (List ℕ)). length l) s.are, n, leads_cons c cs, ap {B = ℕ} (λ (t : Bool). cond t 1 0) (le-leb 128 c high))
    ]

-- more bytes behind some
begun_more : (x : ℕ) (xs ys : List ℕ) → begun ((x ∷ xs) ++ ys) ≡ begun (x ∷ xs) + leads ys
begun_more x xs ys = omega (arith, sum_by-append (λ (z : ℕ). cond (nat_le 128 z) 1 0) xs ys)

-- the bytes of a body from one place up to another
abbrev pub between : List ℕ → ℕ → ℕ → List ℕ
between body from to = take (to - from) (drop from body)

parted : (body : List ℕ) (from to : ℕ) → from ≤ to → take to body ≡ take from body ++ between body from to
parted body zero to le = ap (λ (k : ℕ). take k body) (let s : to ≡ to - 0 = omega arith in s)
parted [] (suc from) zero le = absurd (omega arith)
parted [] (suc from) (suc to) le = sym (nothing (suc to - suc from))
  where
    nothing : (n : ℕ) → take {A = ℕ} n [] ≡ []
    nothing zero = refl
    nothing (suc n) = refl
parted (b ∷ body) (suc from) zero le = absurd (omega arith)
parted (b ∷ body) (suc from) (suc to) le = ap (λ (l : List ℕ). b ∷ l) (parted body from to (omega arith) ∙ ap (λ (k : ℕ). take from body ++ take k (drop from body)) (let s : to - from ≡ suc to - suc from = omega arith in s))

-- the bytes from one place up to another are added
pub leads_between : (body : List ℕ) (from to : ℕ) → from ≤ to → leads (take to body) ≡ leads (take from body) + leads (between body from to)
leads_between body from to le = ap leads (parted body from to le) ∙ sum_by-append (λ (z : ℕ). cond (nat_le 128 z) 1 0) (take from body) (between body from to)

-- behind other bytes an item begins at each byte of 128 or more
pub counted_on : (body : List ℕ) (from to : ℕ) → 0 < from → from ≤ to → 0 < length body → length (items (take from body)) + leads (between body from to) ≡ length (items (take to body))
counted_on [] from to some le h = absurd (omega arith)
counted_on (b ∷ body) zero to some le h = absurd (omega arith)
counted_on (b ∷ body) (suc from) to some le h =
    omega (
      arith,
      items_begun (take (suc from) (b ∷ body)),
      items_begun (take to (b ∷ body)),
      ap begun (parted (b ∷ body) (suc from) to le),
      begun_more b (take from body) (between (b ∷ body) (suc from) to),
    )

-- from the beginning, where the first byte is 128 or more, and where it isn't
pub counted_high : (body : List ℕ) (to : ℕ) → 0 < to → 0 < length body → 128 ≤ get_or body 0 0 → leads (between body 0 to) ≡ length (items (take to body))
counted_high [] to some h high = absurd (omega arith)
counted_high (b ∷ body) zero some h high = absurd (omega arith)
counted_high (b ∷ body) (suc to) some h high = omega (arith, items_begun (take (suc to) (b ∷ body)), leads_cons b (take to body), ap {B = ℕ} (λ (t : Bool). cond t 1 0) (le-leb 128 b high), ap (λ (k : ℕ). leads (take k (b ∷ body))) (let s : suc to - 0 ≡ suc to = omega arith in s))

pub counted_low : (body : List ℕ) (to : ℕ) → 0 < to → 0 < length body → get_or body 0 0 < 128 → leads (between body 0 to) + 1 ≡ length (items (take to body))
counted_low [] to some h low = absurd (omega arith)
counted_low (b ∷ body) zero some h low = absurd (omega arith)
counted_low (b ∷ body) (suc to) some h low = omega (arith, items_begun (take (suc to) (b ∷ body)), leads_cons b (take to body), ap {B = ℕ} (λ (t : Bool). cond t 1 0) (lt-leb 128 b low), ap (λ (k : ℕ). leads (take k (b ∷ body))) (let s : suc to - 0 ≡ suc to = omega arith in s))

-- there are no more in front than in all
pub fewer_in_front : (body : List ℕ) (to : ℕ) → length (items (take to body)) ≤ length (items body)
fewer_in_front [] zero = omega arith
fewer_in_front [] (suc to) = omega arith
fewer_in_front (b ∷ body) zero = omega arith
fewer_in_front (b ∷ body) (suc to) =
    let whole : leads (take to body ++ drop to body) ≡ leads (take to body) + leads (drop to body) = sum_by-append (λ (z : ℕ). cond (nat_le 128 z) 1 0) (take to body) (drop to body) in
    omega (arith, items_begun (b ∷ take to body), items_begun (b ∷ body), whole, ap leads (take-append-drop to body))

-- ---- as they are counted, from a place on

pub from_low : (body : List ℕ) (from to n : ℕ) → from ≡ 0 → from < to → to ≤ length body → get_or body 0 0 < 128 → n ≡ leads (between body from to)
    → length (items (take from body)) + (n + 1) ≡ length (items (take to body))
from_low body zero to n z lt within low is = let h = counted_low body to (omega arith) (omega arith) low in omega arith
from_low body (suc from) to n z lt within low is = absurd (omega arith)

pub from_high : (body : List ℕ) (from to n : ℕ) → from ≡ 0 → from < to → to ≤ length body → 128 ≤ get_or body 0 0 → n ≡ leads (between body from to)
    → length (items (take from body)) + n ≡ length (items (take to body))
from_high body zero to n z lt within high is = let h = counted_high body to (omega arith) (omega arith) high in omega arith
from_high body (suc from) to n z lt within high is = absurd (omega arith)

pub from_none : (body : List ℕ) (from to n : ℕ) → from ≡ 0 → from ≤ to → to ≤ from → n ≡ leads (between body from to)
    → length (items (take from body)) + n ≡ length (items (take to body))
from_none body zero zero n z le ge is = omega arith
from_none body zero (suc to) n z le ge is = absurd (omega arith)
from_none body (suc from) to n z le ge is = absurd (omega arith)

pub from_later : (body : List ℕ) (from to n : ℕ) → 0 < from → from ≤ to → to ≤ length body → n ≡ leads (between body from to)
    → length (items (take from body)) + n ≡ length (items (take to body))
from_later body from to n some le within is = let h = counted_on body from to some le (omega arith) in omega arith
