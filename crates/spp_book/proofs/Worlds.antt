-- What each step of a world keeps, and how runs of steps are put together.
use Rattle.std.proofs.Common.{◌≡◌, ℕ, List, [], ◌∷◌, ◌++◌, Bool, true, false, length, ap, sym, ◌∙◌, subst, refl, arith}
use Rattle.std.specs.Prelude.{MatchBool, nat_lt}
use Rattle.std.proofs.lemmas.List.{append_assoc}
use Rattle.spp_book.specs.declared.piece.Piece.{Piece}
use Rattle.spp_book.specs.declared.world.Step.{Step}
use Rattle.spp_book.specs.declared.world.Step.TheVariants as step
use Rattle.spp_book.specs.declared.world.Answer.{Answer}
use Rattle.spp_book.specs.declared.world.Answer.TheVariants as answer
use Rattle.spp_book.specs.Worlds.{WorldView, is_gone, is_done, PutIs, StepIs, AreSteps}

-- what follows in either case
either : {P Q R : Type 0} (b : Bool) → (P → R) → (Q → R) → MatchBool b P Q → R
either true f g h = f h
either false f g h = g h

same_name : (s t : WorldView) → t ≡ s → t.book.name ≡ s.book.name
same_name s t e = ap (λ (w : WorldView). w.book.name) e

put_name : {C : Type 0} (parts : ℕ) (range : ℕ → ℕ × ℕ) (s t : WorldView) (p : Piece C) (a : Answer C) → PutIs parts range s p a t → t.book.name ≡ s.book.name
put_name parts range s t p answer.Accepted h = ap (λ (w : WorldView). w.book.name) h.2
put_name parts range s t p (answer.Refused r) h = same_name s t h.1
put_name parts range s t p (answer.Drawn o) h = absurd h
put_name parts range s t p answer.Stopped h = absurd h
put_name parts range s t p answer.Ended h = absurd h

-- no step changes the job
pub step_name : {C : Type 0} (parts : ℕ) (range : ℕ → ℕ × ℕ) (s t : WorldView) (x : Step C) (a : Answer C) → StepIs parts range s x a t → t.book.name ≡ s.book.name
step_name parts range s t (step.Draw w) a h =
    either (is_done s w) (λ e. same_name s t e.1)
    (λ d. either (nat_lt (length s.draws) parts) (λ e. ap (λ (v : WorldView). v.book.name) e.1) (λ e. ap (λ (v : WorldView). v.book.name) e.1) d) h
step_name parts range s t (step.Put w p) a h = either (is_gone s w) (λ e. same_name s t e.1) (λ e. put_name parts range s t p a e) h
step_name parts range s t (step.Stop w) a h = either (is_gone s w) (λ e. same_name s t e.1) (λ e. ap (λ (v : WorldView). v.book.name) e.1) h

-- the answers to the remaining steps, whatever they are, appended to those so far answer all steps
abbrev pub AnswersAll : {C : Type 0} → ℕ → (ℕ → ℕ × ℕ) → WorldView → List (Step C) → List (Answer C) → WorldView → List (Step C) → Type 0
AnswersAll {C} parts range start steps answers s rest =
    (more : List (Answer C)) (t : WorldView) → AreSteps parts range s rest more t → AreSteps parts range start steps (answers ++ more) t

pub one_more : {C : Type 0} (parts : ℕ) (range : ℕ → ℕ × ℕ) (start s mid : WorldView) (steps items rest : List (Step C)) (answers later : List (Answer C)) (x : Step C) (a : Answer C)
    → items ≡ x ∷ rest → StepIs parts range s x a mid → later ≡ answers ++ a ∷ [] → AnswersAll parts range start steps answers s items
    → AnswersAll parts range start steps later mid rest
one_more parts range start s mid steps items rest answers later x a items_are is later_are all = λ more t h.
    subst (λ as'. AreSteps parts range start steps as' t) (sym (ap (λ as'. as' ++ more) later_are ∙ append_assoc answers (a ∷ []) more))
    (all (a ∷ more) t (subst (λ xs. AreSteps parts range s xs (a ∷ more) t) (sym items_are) (mid, is, h)))

pub none_left : {X : Type 0} (xs : List X) → length xs ≡ 0 → xs ≡ []
none_left [] e = refl
none_left (x ∷ xs) e = absurd (omega (arith, e))
