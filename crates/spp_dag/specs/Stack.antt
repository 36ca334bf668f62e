-- The stack machine: the open frames as the events run, each with its two weights, without burdens and with them.
use Rattle.std.specs.Prelude.{ℕ, suc, List, [], ◌∷◌, Option, Some, None}
use Rattle.spp_event.specs.declared.records.Event.{Event}
use Rattle.spp_event.specs.declared.records.Event.TheVariants.{Strand, Call, Spawn, Ret, Sync}
use Rattle.spp_maxplus.specs.declared.state.State.{State}
use Rattle.spp_maxplus.specs.declared.state.Burdens.{Burdens}
use Rattle.spp_maxplus.specs.State.{unburdened, start, close, after_strand, after_call, after_spawn, after_sync}
use Rattle.spp_dag.specs.declared.stack.OpenFrame.{OpenFrame}
use Rattle.spp_dag.specs.declared.stack.FrameKind.{FrameKind}
use Rattle.spp_dag.specs.declared.stack.FrameKind.TheVariants.{Root, Called, Spawned}

-- the root frame before the first event, in that function
abbrev pub root_frame : ℕ → OpenFrame
root_frame func = record { kind = Root; at = 0; site = 0; func = func; plain = start; burdened = start }

-- a frame that is opened at a position
abbrev pub new_frame : FrameKind → ℕ → ℕ → ℕ → OpenFrame
new_frame kind at site func = record { kind = kind; at = at; site = site; func = func; plain = start; burdened = start }

-- what a child's return does to a state of its parent, where the child closes with that weight
abbrev pub after_child : Burdens → FrameKind → ℕ → ℕ → State → State
after_child burdens Root at weight s = s
after_child burdens Called at weight s = after_call weight s
after_child burdens Spawned at weight s = after_spawn at weight burdens s

-- the parent, after the child's return
abbrev pub after_return : Burdens → OpenFrame → OpenFrame → OpenFrame
after_return burdens child parent = record parent {
  plain = after_child unburdened child.kind child.at (close child.plain) parent.plain;
  burdened = after_child burdens child.kind child.at (close child.burdened) parent.burdened;
}

-- what the event at i makes of the open frames, innermost first; nothing where it is a return of the last frame
abbrev pub advance : Burdens → ℕ → Event → List OpenFrame → Option (List OpenFrame)
advance burdens i e [] = None
advance burdens i (Strand count) (f ∷ fs) =
    Some (record f { plain = after_strand count f.plain; burdened = after_strand count f.burdened } ∷ fs)
advance burdens i (Call site func) (f ∷ fs) = Some (new_frame Called i site func ∷ f ∷ fs)
advance burdens i (Spawn site func) (f ∷ fs) = Some (new_frame Spawned i site func ∷ f ∷ fs)
advance burdens i Sync (f ∷ fs) = Some (record f { plain = after_sync f.plain; burdened = after_sync f.burdened } ∷ fs)
advance burdens i Ret (f ∷ []) = None
advance burdens i Ret (f ∷ g ∷ fs) = Some (after_return burdens f g ∷ fs)

-- what the events from position i on make of the open frames
abbrev pub run : Burdens → ℕ → List Event → List OpenFrame → Option (List OpenFrame)
run burdens i [] fs = Some fs
run burdens i (e ∷ es) fs = elim (advance burdens i e fs) [ None ↦ None | Some gs ↦ run burdens (suc i) es gs ]
