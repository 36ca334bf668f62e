-- The open frames as far as their spans go, and what each event does to them.
use Rattle.std.specs.Prelude.{ℕ, ◌+◌, ◌<◌, ◌^◌, List, [], ◌∷◌, reverse}
use Rattle.spp_maxplus.specs.declared.weights.Weights.{Weights}
use Rattle.spp_maxplus.specs.State.{unburdened}
use Rattle.spp_maxplus.specs.Weights.{start, after_strand, after_sync, after_call, after_spawn}
use Rattle.spp_dag.specs.declared.stack.FrameKind.{FrameKind}
use Rattle.spp_dag.specs.declared.stack.FrameKind.TheVariants.{Root, Called, Spawned}
use Rattle.spp_path.specs.declared.spans.OpenSpan.{OpenSpan}
use Rattle.spp_path.specs.declared.spans.OpenSpans.{OpenSpans}

-- the open frames, innermost first
abbrev pub spans : OpenSpans → List OpenSpan
spans s = reverse s.frames.items

-- a frame that was just opened
abbrev pub open_span : FrameKind → OpenSpan
open_span kind = record { weights = start; kind = kind }

-- the innermost frame is as P says; there is one
abbrev pub OnTop : (OpenSpan → Type 0) → List OpenSpan → Type 0
OnTop P [] = ⊥
OnTop P (f ∷ fs) = P f

-- there are two, and the one below the innermost is as P says
abbrev pub OnBelow : (OpenSpan → Type 0) → List OpenSpan → Type 0
OnBelow P [] = ⊥
OnBelow P (f ∷ fs) = OnTop P fs

-- some frame is open
abbrev pub HasOpen : List OpenSpan → Type 0
HasOpen fs = OnTop (λ f. Unit {0}) fs

-- a strand of that many instructions fits
abbrev pub CanRun : ℕ → OpenSpan → Type 0
CanRun count f = f.weights.spine + count < 2 ^ 128

abbrev pub strand_spans : ℕ → List OpenSpan → List OpenSpan
strand_spans count [] = []
strand_spans count (f ∷ fs) = record f { weights = after_strand count f.weights } ∷ fs

abbrev pub sync_spans : List OpenSpan → List OpenSpan
sync_spans [] = []
sync_spans (f ∷ fs) = record f { weights = after_sync f.weights } ∷ fs

abbrev pub open_spans : FrameKind → List OpenSpan → List OpenSpan
open_spans kind fs = open_span kind ∷ fs

-- the return of a frame with that span fits
abbrev pub CanReturn : ℕ → OpenSpan → Type 0
CanReturn span f = f.weights.spine + span < 2 ^ 128

-- what the return of a frame that was entered so, and closes with that span, does to the weights of the one below it
abbrev pub returned_weights : FrameKind → ℕ → Weights → Weights
returned_weights Root span w = w
returned_weights Called span w = after_call span w
returned_weights Spawned span w = after_spawn span unburdened w

abbrev pub return_spans : ℕ → List OpenSpan → List OpenSpan
return_spans span [] = []
return_spans span (f ∷ []) = []
return_spans span (f ∷ g ∷ fs) = record g { weights = returned_weights f.kind span g.weights } ∷ fs
