-- What has the actions of a stack: a stack itself, or a summary.
use Rattle.std.specs.Prelude.{ℕ, ◌+◌, List, [], ◌∷◌, Result, Ok, Err}
use Rattle.spp_event.specs.declared.records.Event.{Event}
use Rattle.spp_event.specs.declared.records.Event.TheVariants.{Strand, Call, Spawn, Ret, Sync}
use Rattle.spp_event.specs.declared.records.EventFault.{EventFault}
use Rattle.spp_maxplus.specs.declared.child.ChildKind.{ChildKind}
use Rattle.spp_maxplus.specs.declared.child.ChildKind.TheVariants.{Called, Spawned}
use Rattle.spp_piece.specs.declared.segs.Segs.{Segs}
use Rattle.spp_piece.specs.declared.pieces.Frame.{Frame}
use Rattle.spp_piece.specs.Pair.{start, strand, sync}

pub record Ops (X : Type 0) : Type 0 where
  -- the innermost frame's states change
  pub along : Segs → X → X
  -- the innermost frame returns, at a position
  pub ret : ℕ → X → X
  -- a frame is opened; its work before counts from that so far
  pub push : Frame → X → X
  pub worked : ℕ → X → X
  -- no event after this is read
  pub fail : ℕ × EventFault → X → X

abbrev pub entered : ChildKind → ℕ → ℕ → ℕ → Frame
entered kind at site func = record { kind = kind; at = at; site = site; func = func; before = 0; states = start }

abbrev pub event : {X : Type 0} → Ops X → ℕ → Result Event EventFault → X → X
event o at (Ok (Strand count)) x = o.worked count (o.along (strand count) x)
event o at (Ok (Call site func)) x = o.push (entered Called at site func) x
event o at (Ok (Spawn site func)) x = o.push (entered Spawned at site func) x
event o at (Ok Ret) x = o.ret at x
event o at (Ok Sync) x = o.along sync x
event o at (Err fault) x = o.fail (at, fault) x

abbrev pub events : {X : Type 0} → Ops X → ℕ → List (Result Event EventFault) → X → X
events o at [] x = x
events o at (e ∷ es) x = events o (at + 1) es (event o at e x)
