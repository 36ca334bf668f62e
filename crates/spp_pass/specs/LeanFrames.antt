-- The stack machine with weights alone: of a child that is waited for only its weight is kept, 0 where there is none,
-- and not the position of its spawn. Figures need no more.
use Rattle.std.specs.Prelude.{ℕ, ◌+◌, List, [], ◌∷◌, Option, Some, None}
use Rattle.spp_event.specs.declared.records.Event.{Event}
use Rattle.spp_event.specs.declared.records.Event.TheVariants.{Strand, Call, Spawn, Ret, Sync}
use Rattle.spp_maxplus.specs.declared.state.Burdens.{Burdens}
use Rattle.spp_maxplus.specs.declared.weights.Weights.{Weights}
use Rattle.spp_maxplus.specs.State.{unburdened}
use Rattle.spp_maxplus.specs.Weights.{start, close, after_strand, after_sync, after_call, after_spawn, weights_of}
use Rattle.spp_dag.specs.declared.stack.OpenFrame.{OpenFrame}
use Rattle.spp_dag.specs.declared.stack.FrameKind.{FrameKind}
use Rattle.spp_dag.specs.declared.stack.FrameKind.TheVariants.{Root, Called, Spawned}

-- a child of that kind has returned, which closed with that weight
abbrev pub after_child : Burdens → FrameKind → ℕ → Weights → Weights
after_child burdens Root weight w = w
after_child burdens Called weight w = after_call weight w
after_child burdens Spawned weight w = after_spawn weight burdens w

-- ---- the open frames

-- what figures need of an open frame: how it was entered, and its weights without burdens and with them
pub record LeanFrame : Type 0 where
  pub kind : FrameKind
  pub plain : Weights
  pub burdened : Weights

abbrev pub new_frame : FrameKind → LeanFrame
new_frame kind = record { kind = kind; plain = start; burdened = start }

abbrev pub after_return : Burdens → LeanFrame → LeanFrame → LeanFrame
after_return burdens f g = record {
  kind = g.kind;
  plain = after_child unburdened f.kind (close f.plain) g.plain;
  burdened = after_child burdens f.kind (close f.burdened) g.burdened;
}

-- what an event makes of the open frames, innermost first; nothing where it is a return of the last one
abbrev pub advance : Burdens → Event → List LeanFrame → Option (List LeanFrame)
advance burdens e [] = None
advance burdens (Strand count) (f ∷ fs) =
    Some (record { kind = f.kind; plain = after_strand count f.plain; burdened = after_strand count f.burdened } ∷ fs)
advance burdens (Call site func) (f ∷ fs) = Some (new_frame Called ∷ f ∷ fs)
advance burdens (Spawn site func) (f ∷ fs) = Some (new_frame Spawned ∷ f ∷ fs)
advance burdens Sync (f ∷ fs) = Some (record { kind = f.kind; plain = after_sync f.plain; burdened = after_sync f.burdened } ∷ fs)
advance burdens Ret (f ∷ []) = None
advance burdens Ret (f ∷ g ∷ fs) = Some (after_return burdens f g ∷ fs)

-- what the frames close with, all together
abbrev pub plain_sum : List LeanFrame → ℕ
plain_sum [] = 0
plain_sum (f ∷ fs) = close f.plain + plain_sum fs

abbrev pub burdened_sum : List LeanFrame → ℕ
burdened_sum [] = 0
burdened_sum (f ∷ fs) = close f.burdened + burdened_sum fs

-- what is kept of a frame of the machine
abbrev pub kept : OpenFrame → LeanFrame
kept f = record { kind = f.kind; plain = weights_of f.plain; burdened = weights_of f.burdened }
