-- The steps of workers on one book.
use Rattle.std.specs.Prelude.{◌≡◌, ℕ, List, [], ◌∷◌, ◌++◌, Bool, true, false, ◌||◌, MatchBool, nat_lt, length, get_or, set, None, Some}
use Rattle.spp_book.specs.declared.piece.Piece.{Piece}
use Rattle.spp_book.specs.declared.world.Step.{Step}
use Rattle.spp_book.specs.declared.world.Step.TheVariants as step
use Rattle.spp_book.specs.declared.world.Answer.{Answer}
use Rattle.spp_book.specs.declared.world.Answer.TheVariants as answer
use Rattle.spp_book.specs.Jobs.{IsOurs, IsPieceOf}
use Rattle.spp_book.specs.Books.{BookView, is_accepted, WhyIs, IsPut}

-- A book, the worker of each part that was drawn, in order from the first part, and of each worker whether it drew None and
-- whether it has stopped.
pub record WorldView : Type 0 where
  pub book : BookView
  pub draws : List ℕ
  pub none : List Bool
  pub stopped : List Bool

-- the worker has stopped, or there is none of this number
abbrev pub is_gone : WorldView → ℕ → Bool
is_gone s w = get_or s.stopped w true

-- the worker is gone, or drew None
abbrev pub is_done : WorldView → ℕ → Bool
is_done s w = is_gone s w || get_or s.none w true

-- a draw gives the next part and notes its worker; where there is none, it gives None, and that is noted
abbrev pub DrawIs : {C : Type 0} → ℕ → WorldView → ℕ → Answer C → WorldView → Type 0
DrawIs parts s w a t =
    MatchBool (nat_lt (length s.draws) parts)
    ((a ≡ answer.Drawn (Some (length s.draws))) × (t ≡ record s { draws = s.draws ++ w ∷ [] }))
    ((a ≡ answer.Drawn None) × (t ≡ record s { none = set s.none w true }))

-- a put adds a piece of the job that wasn't accepted before to the book, or hands the piece back and changes nothing
abbrev pub PutIs : {C : Type 0} → ℕ → (ℕ → ℕ × ℕ) → WorldView → Piece C → Answer C → WorldView → Type 0
PutIs parts range s p answer.Accepted t =
    IsOurs parts range p.number p.first p.events
    × (is_accepted s.book.accepted p.number ≡ false)
    × (t ≡ record s { book = record s.book { accepted = set s.book.accepted p.number true; runs = t.book.runs } })
    × IsPut p.number s.book.runs t.book.runs
PutIs parts range s p (answer.Refused r) t =
    (r.piece ≡ p) × (t ≡ s) × WhyIs r.why (IsOurs parts range p.number p.first p.events) (is_accepted s.book.accepted p.number)
PutIs parts range s p (answer.Drawn o) t = ⊥
PutIs parts range s p answer.Stopped t = ⊥
PutIs parts range s p answer.Ended t = ⊥

-- what one step is answered, and what it leaves
abbrev pub StepIs : {C : Type 0} → ℕ → (ℕ → ℕ × ℕ) → WorldView → Step C → Answer C → WorldView → Type 0
StepIs parts range s (step.Draw w) a t = MatchBool (is_done s w) ((a ≡ answer.Ended) × (t ≡ s)) (DrawIs parts s w a t)
StepIs parts range s (step.Put w p) a t = MatchBool (is_gone s w) ((a ≡ answer.Ended) × (t ≡ s)) (PutIs parts range s p a t)
StepIs parts range s (step.Stop w) a t = MatchBool (is_gone s w) ((a ≡ answer.Ended) × (t ≡ s)) ((a ≡ answer.Stopped) × (t ≡ record s { stopped = set s.stopped w true }))

-- what is asked of a step: where its piece is of the job, the content is the job's value of that part
abbrev pub MayStep : {C : Type 0} → ℕ → (ℕ → ℕ × ℕ) → (ℕ → ℕ → C → Type 0) → Step C → Type 0
MayStep parts range value (step.Draw w) = Unit {0}
MayStep parts range value (step.Put w p) = IsPieceOf parts range value p.number p.first p.events p.content
MayStep parts range value (step.Stop w) = Unit {0}

-- what is asked of each of these steps
abbrev pub MayRun : {C : Type 0} → ℕ → (ℕ → ℕ × ℕ) → (ℕ → ℕ → C → Type 0) → List (Step C) → Type 0
MayRun parts range value [] = Unit {0}
MayRun parts range value (x ∷ xs) = MayStep parts range value x × MayRun parts range value xs

-- there is an answer to each step, and each step begins where the one before left the world
abbrev pub AreSteps : {C : Type 0} → ℕ → (ℕ → ℕ × ℕ) → WorldView → List (Step C) → List (Answer C) → WorldView → Type 0
AreSteps parts range s [] [] t = s ≡ t
AreSteps parts range s [] (a ∷ more) t = ⊥
AreSteps parts range s (x ∷ xs) [] t = ⊥
AreSteps parts range s (x ∷ xs) (a ∷ more) t = (mid : WorldView) × StepIs parts range s x a mid × AreSteps parts range mid xs more t
