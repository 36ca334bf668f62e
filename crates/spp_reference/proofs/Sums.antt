-- Sums and tests over ranges, taken one number at a time.
use Rattle.std.proofs.Common.{◌≡◌, ℕ, zero, suc, ◌+◌, ◌-◌, ◌≤◌, ◌<◌, Bool, true, false, ◌&&◌, get_or, refl, sym, ◌∙◌, ap, subst, arith, inl, inr, List, [], ◌∷◌, length, nat_eq, nat_le, ◌||◌, Option}
use Rattle.std.specs.List.{list_any}
use Rattle.std.proofs.lemmas.Bool.{cases_lt, both_ways}
use Rattle.spp_event.specs.declared.records.Event.{Event}
use Rattle.spp_dag.specs.Ranges.{sum_where, none_below}
use Rattle.spp_dag.specs.Trace.{closing, is_frame, owner, weight}
use Rattle.spp_dag.specs.Rows.{contains, is_of, is_top_site, is_top_caller, work}
use Rattle.spp_dag.specs.Shares.{plus}
use Rattle.spp_dag.specs.Limits.{IsSmallRow}
use Rattle.spp_dag.proofs.Ranges.{least_from_spec, greatest_to_spec}
use Rattle.spp_dag.proofs.Sums.{none-true, none_from}
use Rattle.spp_reference.specs.Dags.{Lists, IsDag}
use Rattle.spp_reference.specs.Sums.{row_below, term}
use Rattle.std.proofs.lemmas.Option.{get_or_from_slice_get}

pub none_more : (p : ℕ → Bool) (n : ℕ) → none_below p n ≡ true → p n ≡ false → none_below p (n + 1) ≡ true
none_more p n h e = none_from p (n + 1) (λ k l. elim (cases_lt k n) [
  | inl m ↦ none-true p n h k m
  | inr m ↦ subst (λ j. p j ≡ false) (let q : n ≡ k = omega arith in q) e
])

not_none : (p : ℕ → Bool) (k n : ℕ) (b : Bool) → none_below p n ≡ b → k < n → p k ≡ true → b ≡ false
not_none p k n true h l e = absurd (both_ways (p k) (none-true p n h k l) e)
not_none p k n false h l e = refl

pub none_some : (p : ℕ → Bool) (k n : ℕ) → k < n → p k ≡ true → none_below p n ≡ false
none_some p k n l e = not_none p k n (none_below p n) refl l e

-- where each frame ends is a position
pub closing_within : (es : List Event) (f : ℕ) → f ≤ length es → closing es f ≤ length es
closing_within es zero h = omega arith
closing_within es (suc o) h = (least_from_spec _ (suc o) (length es) h).upper

le_refl : (n : ℕ) → n ≤ n
le_refl n = omega arith

sum_more : (p : ℕ → Bool) (f : ℕ → ℕ) (m n : ℕ) → m ≤ sum_where p f n → m ≤ sum_where p f (suc n)
sum_more p f m n h = omega arith

sum_adds : (p : ℕ → Bool) (f : ℕ → ℕ) (n k : ℕ) → sum_where p f n ≤ sum_where p f (k + n)
sum_adds p f n zero = subst (λ k. sum_where p f n ≤ sum_where p f k) (let q : n ≡ 0 + n = omega arith in q) (le_refl (sum_where p f n))
sum_adds p f n (suc k) =
    subst (λ j. sum_where p f n ≤ sum_where p f j) (let q : suc (k + n) ≡ suc k + n = omega arith in q) (sum_more p f (sum_where p f n) (k + n) (sum_adds p f n k))

pub sum_grows : (p : ℕ → Bool) (f : ℕ → ℕ) (n m : ℕ) → n ≤ m → sum_where p f n ≤ sum_where p f m
sum_grows p f n m l = subst (λ x. sum_where p f n ≤ sum_where p f x) (let q : (m - n) + n ≡ m = omega arith in q) (sum_adds p f n (m - n))

trans_le : {a b c : ℕ} → a ≤ b → b ≤ c → a ≤ c
trans_le {a} {b} {c} g h = omega arith

below : {a b c : ℕ} → a ≤ b → b < c → a < c
below {a} {b} {c} g h = omega arith

-- the first positions add no more to a row than all do
pub row_fits : (es : List Event) (root : ℕ) (span : ℕ → ℕ) (frames places : ℕ → Bool) (n m : ℕ) → n ≤ m
    → IsSmallRow (row_below es root span frames places m) → IsSmallRow (row_below es root span frames places n)
row_fits es root span frames places n m l h = record {
  count = trans_le (sum_grows frames (λ _. 1) n m l) h.count;
  local = below (sum_grows places (weight es) n m l) h.local;
  site_count = trans_le (sum_grows (λ f. frames f && is_top_site es f) (λ _. 1) n m l) h.site_count;
  site_work = below (sum_grows (λ f. frames f && is_top_site es f) (work es) n m l) h.site_work;
  site_span = below (sum_grows (λ f. frames f && is_top_site es f) span n m l) h.site_span;
  caller_count = trans_le (sum_grows (λ f. frames f && is_top_caller es root f) (λ _. 1) n m l) h.caller_count;
  caller_work = below (sum_grows (λ f. frames f && is_top_caller es root f) (work es) n m l) h.caller_work;
  caller_span = below (sum_grows (λ f. frames f && is_top_caller es root f) span n m l) h.caller_span;
}

-- a list has a position where one of its items is that position
pub any_contains : (ps : List ℕ) (i : ℕ) → list_any (λ y. nat_eq y i) ps ≡ contains ps i
any_contains [] i = refl
any_contains (p ∷ ps) i = ap (λ b. nat_eq p i || b) (any_contains ps i)

-- what is read at a place of such a list
pub listed : (n : ℕ) (f : ℕ → ℕ) (xs : List ℕ) (i x : ℕ) → Lists n f xs → i < n → x ≡ get_or xs i x → x ≡ f i
listed n f xs i x h l e = e ∙ get_or_from_slice_get xs i (f i) x (h.1 i l)

-- the row after one position more
pub row_next : (es : List Event) (root : ℕ) (span : ℕ → ℕ) (on : ℕ → Bool) (key : Option ℕ) (n : ℕ)
    → plus (row_below es root span (λ f. on f && is_of es key f) (λ k. on k && is_of es key (owner es k)) n) (term es root span on key n)
    ≡ row_below es root span (λ f. on f && is_of es key f) (λ k. on k && is_of es key (owner es k)) (suc n)
row_next es root span on key n = refl

le_from : {x y n : ℕ} → x ≡ y → y ≤ n → x ≤ n
le_from {x} {y} {n} e h = omega arith

owner_before : (es : List Event) (k : ℕ) → owner es k ≤ k
owner_before es k = (greatest_to_spec (λ f. is_frame es f && nat_le k (closing es f)) k).upper

-- what the tables of a dag give are positions
pub read_closing : (es bs : List Event) (ends frames : List ℕ) (f x : ℕ) → IsDag es ends frames → es ≡ bs → f ≤ length bs → x ≡ get_or ends f x → x ≤ length bs
read_closing es bs ends frames f x d e l r =
    let k : f ≤ length es = subst (λ cs. f ≤ length cs) (sym e) l in
    subst (λ cs. x ≤ length cs) e (le_from (listed (suc (length es)) (closing es) ends f x d.closings (omega arith) r) (closing_within es f k))

pub read_owner : (es bs : List Event) (ends frames : List ℕ) (k x : ℕ) → IsDag es ends frames → es ≡ bs → k ≤ length bs → x ≡ get_or frames k x → x ≤ k
read_owner es bs ends frames k x d e l r =
    let l2 : k ≤ length es = subst (λ cs. k ≤ length cs) (sym e) l in
    le_from (listed (suc (length es)) (owner es) frames k x d.owners (omega arith) r) (owner_before es k)
