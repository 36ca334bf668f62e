-- Each step keeps the rule.
use Rattle.std.proofs.Common.{◌≡◌, ℕ, refl, ◌∙◌, ap₂, ◌+◌, ◌-◌, ◌<◌, ◌≤◌, ◌^◌, ◌%◌, false, List, [], ◌∷◌, ◌++◌, ap, sym, subst, arith, set, slice_index, slice_set, ⊎_elim}
use Rattle.std.proofs.Math.Nat.{mod-eq_of_lt}
use Rattle.std.specs.Prelude.{cond, nat_lt}
use Rattle.std.proofs.lemmas.Bool.Decides.{nat_tests}
use mathlib.Core.Option.{some}
use lib.ListN.{get_elem?}
use Rattle.atomic_table.proofs.Lists.{at_set, at_snoc}
use Rattle.spp_book.specs.declared.counter.Hand.{Hand}
use Rattle.spp_book.specs.Counters.{hand, total, Kept, past, has_past, is_one, IsEachBelow}
use Rattle.spp_book.proofs.Totals.{total_append, sum_set, sum_le, below_next, past_most, past_count, none_past, one_has_all, one_below, total_at}

-- the word is at most the parts and the workers together
pub word_bound : (parts all : ℕ) (words : List ℕ) (views : List Hand) (k : Kept parts all words views) → k.next ≤ parts + all
word_bound parts all words views k =
    let a = k.drawn (past parts) in
    let b = past_count parts k.next in
    let c = sum_le (λ (v : Hand). total (past parts) v.drawn) (λ (v : Hand). v.workers) views k.few in
    omega (arith, a, b, c, k.workers)

-- the next number is none of those that a view holds
pub draw_new : (parts all : ℕ) (words : List ℕ) (views : List Hand) (id : ℕ) (v : Hand) (k : Kept parts all words views) → get_elem? views id ≡ some v → total (is_one (slice_index words 0)) v.drawn ≡ 0
draw_new parts all words views id v k at =
    let n = k.next in
    let none : ◌≡◌ {A = ℕ} (cond (nat_lt n n) 1 0) 0 = grind (arith, nat_tests) in
    let own = total_at (λ (u : Hand). total (is_one n) u.drawn) views id v at in
    let fresh : total (is_one n) v.drawn ≡ 0 = omega (arith, own, k.drawn (is_one n), one_below n n, none) in
    subst (λ ws. total (is_one (slice_index ws 0)) v.drawn ≡ 0) (sym k.word) fresh

-- a fact of each view
abbrev Each : (Hand → Type 0) → List Hand → Type 0
Each P views = (id : ℕ) (v : Hand) → get_elem? views id ≡ some v → P v

-- one view is changed
each_set : (P : Hand → Type 0) (views : List Hand) (id : ℕ) (w : Hand) → Each P views → P w → Each P (set views id w)
each_set P views id w each new i v e = ⊎_elim (λ t. subst P t.1 new) (λ t. each i v t.1) (at_set views id i w v e)

-- one view is added
each_snoc : (P : Hand → Type 0) (views : List Hand) (w : Hand) → Each P views → P w → Each P (views ++ w ∷ [])
each_snoc P views w each new i v e = ⊎_elim (λ t. each i v t) (λ t. subst P t new) (at_snoc views w v i e)

-- at most as many numbers past the parts as its allowance
abbrev Few : ℕ → Hand → Type 0
Few parts v = total (past parts) v.drawn ≤ v.workers

abbrev Idle : Hand → Type 0
Idle v = v.workers ≡ 0 → v.drawn ≡ []

pub draws_kept : (parts all : ℕ) (words : List ℕ) (views : List Hand) (id : ℕ) (v : Hand) (k : Kept parts all words views) → get_elem? views id ≡ some v → has_past parts v.drawn ≡ false → 0 < v.workers
    → Kept parts all (slice_set words 0 ((slice_index words 0 + 1) % 2 ^ 64)) (set views id (hand v.workers (v.drawn ++ slice_index words 0 ∷ [])))
draws_kept parts all words views id v k at free some_worker =
    let n = k.next in
    let w = hand v.workers (v.drawn ++ n ∷ []) in
    let bound = word_bound parts all words views k in
    let small : n + 1 < 2 ^ 64 = omega (arith, bound, k.small) in
    let next : (n + 1) % 2 ^ 64 ≡ n + 1 = mod-eq_of_lt small in
    let none = none_past parts v.drawn free in
    let P : List ℕ → Type 0 = λ ws. Kept parts all (slice_set ws 0 ((slice_index ws 0 + 1) % 2 ^ 64)) (set views id (hand v.workers (v.drawn ++ slice_index ws 0 ∷ []))) in
    subst P (sym k.word) (record {
      next = n + 1;
      word = ap (λ m. m ∷ []) next;
      workers = (let s = sum_set (λ (u : Hand). u.workers) views id v w at in omega (arith, s, k.workers));
      drawn = λ h. (
          let s = sum_set (λ (u : Hand). total h u.drawn) views id v w at in
          let a = total_append h v.drawn (n ∷ []) in
          let b = below_next h n in
          omega (arith, s, a, b, k.drawn h));
      few = each_set (Few parts) views id w k.few (let a = total_append (past parts) v.drawn (n ∷ []) in let m = past_most parts n in omega (arith, a, m, none, some_worker));
      idle = each_set Idle views id w k.idle (λ z. absurd (omega (arith, z, some_worker)));
      small = k.small;
    })

pub splits_kept : (parts all : ℕ) (words : List ℕ) (views : List Hand) (id : ℕ) (v : Hand) (n : ℕ) (k : Kept parts all words views) → get_elem? views id ≡ some v → has_past parts v.drawn ≡ false → 0 < n → n < v.workers
    → Kept parts all words (set views id (hand (v.workers - n) v.drawn) ++ hand n [] ∷ [])
splits_kept parts all words views id v n k at free some_given le =
    let left = hand (v.workers - n) v.drawn in
    let right = hand n [] in
    let none = none_past parts v.drawn free in
    record {
      next = k.next;
      word = k.word;
      workers = (
          let s = sum_set (λ (u : Hand). u.workers) views id v left at in
          let a = total_append (λ (u : Hand). u.workers) (set views id left) (right ∷ []) in
          omega (arith, s, a, k.workers, le));
      drawn = λ h. (
          let s = sum_set (λ (u : Hand). total h u.drawn) views id v left at in
          let a = total_append (λ (u : Hand). total h u.drawn) (set views id left) (right ∷ []) in
          omega (arith, s, a, k.drawn h));
      few = each_snoc (Few parts) (set views id left) right (each_set (Few parts) views id left k.few (omega (arith, none))) (omega arith);
      idle = each_snoc Idle (set views id left) right (each_set Idle views id left k.idle (λ z. absurd (omega (arith, z, le)))) (λ z. refl);
      small = k.small;
    }

pub joins_kept : (parts all : ℕ) (words : List ℕ) (views : List Hand) (id : ℕ) (v : Hand) (other : ℕ) (w : Hand) (k : Kept parts all words views) → get_elem? views id ≡ some v → ¬ (other ≡ id)
    → get_elem? (set views id (hand (v.workers + w.workers) (v.drawn ++ w.drawn))) other ≡ some w
    → Kept parts all words (set (set views id (hand (v.workers + w.workers) (v.drawn ++ w.drawn))) other (hand 0 []))
joins_kept parts all words views id v other w k at apart there =
    let both = hand (v.workers + w.workers) (v.drawn ++ w.drawn) in
    let spent = hand 0 [] in
    let was : get_elem? views other ≡ some w = ⊎_elim (λ t. absurd (apart t.0)) (λ t. t.1) (at_set views id other both w there) in
    record {
      next = k.next;
      word = k.word;
      workers = (
          let s = sum_set (λ (u : Hand). u.workers) views id v both at in
          let t = sum_set (λ (u : Hand). u.workers) (set views id both) other w spent there in
          omega (arith, s, t, k.workers));
      drawn = λ h. (
          let s = sum_set (λ (u : Hand). total h u.drawn) views id v both at in
          let t = sum_set (λ (u : Hand). total h u.drawn) (set views id both) other w spent there in
          let a = total_append h v.drawn w.drawn in
          omega (arith, s, t, a, k.drawn h));
      few = each_set (Few parts) (set views id both) other spent
          (each_set (Few parts) views id both k.few (let a = total_append (past parts) v.drawn w.drawn in let x = k.few id v at in let y = k.few other w was in omega (arith, a, x, y)))
          (omega arith);
      idle = each_set Idle (set views id both) other spent
          (each_set Idle views id both k.idle (λ z. ap₂ (λ xs ys. xs ++ ys) (k.idle id v at (omega (arith, z))) (k.idle other w was (omega (arith, z)))))
          (λ z. refl);
      small = k.small;
    }

-- the seat with the whole allowance holds all numbers that were drawn
pub whole_drawn : (parts all : ℕ) (words : List ℕ) (views : List Hand) (id : ℕ) (v : Hand) (k : Kept parts all words views) → get_elem? views id ≡ some v → v.workers ≡ all → IsEachBelow k.next v.drawn
whole_drawn parts all words views id v k at whole x =
    let nil : Each (λ u. u.workers ≡ 0 → total (is_one x) u.drawn ≡ 0) views = λ i u e z. ap (total (is_one x)) (k.idle i u e z) in
    sym (one_has_all (λ (u : Hand). u.workers) (λ (u : Hand). total (is_one x) u.drawn) views id v at nil (k.workers ∙ sym whole)) ∙ (k.drawn (is_one x) ∙ one_below x k.next)
