-- The open frames that a piece meets, as its events run.
use Rattle.std.specs.Prelude.{ℕ, ◌+◌, List, [], ◌∷◌, Result, Ok, Err}
use Rattle.spp_maxplus.specs.declared.state.Burdens.{Burdens}
use Rattle.spp_event.specs.declared.records.Event.{Event}
use Rattle.spp_event.specs.declared.records.Event.TheVariants.{Strand, Call, Spawn, Ret, Sync}
use Rattle.spp_event.specs.declared.records.EventFault.{EventFault}
use Rattle.spp_frame.specs.declared.Why.TheVariants.{Event as Record, RootReturn}
use Rattle.spp_frame.specs.declared.Fault.{Fault}
use Rattle.spp_maxplus.specs.declared.child.ChildKind.{ChildKind}
use Rattle.spp_maxplus.specs.declared.child.ChildKind.TheVariants.{Called, Spawned}
use Rattle.spp_piece.specs.declared.states.States.{States}
use Rattle.spp_piece.specs.declared.pieces.Frame.{Frame}
use Rattle.spp_piece.specs.Pair.{start, after_strand, after_sync, after_return}

-- the open frames but the root, the innermost first; the root's states; the work so far
pub record Stack : Type 0 where
  pub frames : List Frame
  pub root : States
  pub work : ℕ

abbrev pub with_states : States → Frame → Frame
with_states states f =
    record { kind = f.kind; at = f.at; site = f.site; func = f.func; before = f.before; states = states }

abbrev pub touch_by : List Frame → (States → States) → Stack → Stack
touch_by [] change s = record { frames = []; root = change s.root; work = s.work }
touch_by (f ∷ fs) change s = record { frames = with_states (change f.states) f ∷ fs; root = s.root; work = s.work }

-- changes the innermost frame's states
abbrev pub touch : (States → States) → Stack → Stack
touch change s = touch_by s.frames change s

abbrev pub opened : ChildKind → ℕ → ℕ → ℕ → Stack → Stack
opened kind at site func s =
    record {
      frames = record { kind = kind; at = at; site = site; func = func; before = s.work; states = start } ∷ s.frames;
      root = s.root;
      work = s.work;
    }

-- the innermost frame returns; the root can't
abbrev pub closed_by : List Frame → Burdens → ℕ → Stack → Result Stack Fault
closed_by [] burdens at s = Err (record { at = at; why = RootReturn })
closed_by (f ∷ fs) burdens at s =
    Ok (touch (after_return burdens f) (record { frames = fs; root = s.root; work = s.work }))

-- one event, or a record that is bad, at a position
abbrev pub step : Burdens → ℕ → Result Event EventFault → Stack → Result Stack Fault
step burdens at (Ok (Strand count)) s =
    let t = touch (after_strand count) s in Ok (record { frames = t.frames; root = t.root; work = t.work + count })
step burdens at (Ok (Call site func)) s = Ok (opened Called at site func s)
step burdens at (Ok (Spawn site func)) s = Ok (opened Spawned at site func s)
step burdens at (Ok Ret) s = closed_by s.frames burdens at s
step burdens at (Ok Sync) s = Ok (touch after_sync s)
step burdens at (Err fault) s = Err (record { at = at; why = Record fault })

-- nothing follows a fault
abbrev pub step_from : Burdens → ℕ → Result Event EventFault → Result Stack Fault → Result Stack Fault
step_from burdens at e (Ok s) = step burdens at e s
step_from burdens at e (Err fault) = Err fault

-- the events from a position on
abbrev pub run : Burdens → ℕ → List (Result Event EventFault) → Result Stack Fault → Result Stack Fault
run burdens at [] r = r
run burdens at (e ∷ es) r = run burdens (at + 1) es (step_from burdens at e r)
