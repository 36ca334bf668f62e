-- A set of numbers as one is put in, and as one is taken out where no other stands for it.
use Rattle.std.proofs.Common.{◌≡◌, ℕ, Bool, true, false, not, ◌&&◌, ◌||◌, nat_eq, refl, sym, ap, ◌∙◌, inl, inr}
use Rattle.std.proofs.lemmas.Bool.{eq-eqb, ne_eqb, cases_eq}
use Rattle.spp_site.specs.Marks.{with_mark, without}

pub marked_more : (x : ℕ) (old rest : ℕ → Bool) → ((y : ℕ) → old y ≡ rest y) → (y : ℕ) → with_mark x old y ≡ (nat_eq x y || rest y)
marked_more x old rest same y = ap (λ b. nat_eq x y || b) (same y)

-- of a number that is taken out exactly where it is in no more than once
pub marked_less : (top : Bool) (x : ℕ) (old rest : ℕ → Bool) → top ≡ not (rest x) → ((y : ℕ) → old y ≡ (nat_eq x y || rest y)) → (y : ℕ) → without top x old y ≡ rest y
marked_less true x old rest h same y = elim (cases_eq y x) [
  | inl e ↦
      let q : nat_eq x y ≡ true = eq-eqb x y (sym e) in
      ap (λ b. not b && old y) q ∙ clear (rest x) h ∙ sym (ap rest e)
  | inr n ↦
      let q : nat_eq x y ≡ false = ne_eqb x y (λ e. n (sym e)) in
      ap (λ b. not b && old y) q ∙ same y ∙ ap (λ b. b || rest y) q
]
  where
    clear : (b : Bool) → true ≡ not b → false ≡ b
    clear true q = absurd cc
    clear false q = refl
marked_less false x old rest h same y = elim (cases_eq y x) [
  | inl e ↦
      let q : nat_eq x y ≡ true = eq-eqb x y (sym e) in
      same y ∙ ap (λ b. b || rest y) q ∙ set (rest x) h ∙ sym (ap rest e)
  | inr n ↦
      let q : nat_eq x y ≡ false = ne_eqb x y (λ e. n (sym e)) in
      same y ∙ ap (λ b. b || rest y) q
]
  where
    set : (b : Bool) → false ≡ not b → true ≡ b
    set true q = refl
    set false q = absurd cc
