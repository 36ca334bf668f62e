-- The steps that settle a path from its end.
use Rattle.std.specs.Prelude.{◌≡◌, ℕ, ◌-◌, ◌≤◌, ◌<◌, ◌++◌, reverse, Contains, List, [], ◌∷◌, length, slice_get, Bool, true, false, Option, Some, None, nat_eq, nat_le, nat_lt, cond}
use Rattle.spp_dag.specs.declared.choices.End.{End}
use Rattle.spp_dag.specs.declared.choices.Choice.{Choice}
use Rattle.spp_dag.specs.declared.stack.EntryFrame.{EntryFrame}
use Rattle.spp_dag.specs.declared.stack.FrameKind.{FrameKind}
use Rattle.spp_dag.specs.declared.stack.FrameKind.TheVariants.{Root, Called, Spawned}
use Rattle.spp_path.specs.declared.flags.Flag.{Flag}
use Rattle.spp_path.specs.declared.settling.WayBack.{WayBack}
use Rattle.spp_path.specs.Flags.{beside, flags_within}
use Rattle.spp_path.specs.declared.settling.Note.{Note}
use Rattle.spp_path.specs.declared.settling.Note.TheVariants as note
use Rattle.spp_path.specs.declared.settling.Onward.{Onward}
use Rattle.spp_path.specs.declared.settling.Onward.TheVariants.{Live, Skip, Seek}

-- the last of a list, if it has any
abbrev pub last : {X : Type 0} → List X → Option X
last xs = slice_get xs (length xs - 1)

-- the note at the higher position, and at one position the end
abbrev pub later : Option End → Option Choice → Option Note
later None None = None
later None (Some j) = Some (note.Join j)
later (Some e) None = Some (note.End e)
later (Some e) (Some j) = cond (nat_lt e.at j.at) (Some (note.Join j)) (Some (note.End e))

-- whether a path that goes so after a position comes to it
abbrev pub runs_to : ℕ → Onward → Bool
runs_to at Live = true
runs_to at (Skip s) = nat_le at s
runs_to at (Seek s) = false

-- How the path goes before the return of a child: that child was sought, or the path came to here and so goes beside
-- the child, or nothing changes.
abbrev pub ended : End → Onward → Onward
ended e Live = Skip e.spawn
ended e (Skip s) = cond (nat_le e.at s) (Skip e.spawn) (Skip s)
ended e (Seek s) = cond (nat_eq s e.spawn) Live (Seek s)

-- ---- the children that were found

-- some of them that were spawned at `at` or after it were passed, the last first
pub record IsLeft (at : ℕ) (old new : WayBack) : Type 0 where
  pub onward : new.onward ≡ old.onward
  pub moved : List ℕ
  pub were_ahead : old.ahead.items ≡ new.ahead.items ++ moved
  pub are_behind : new.behind.items ≡ old.behind.items ++ reverse moved
  pub late : (s : ℕ) → Contains moved s → at ≤ s

-- and all of them were, where they rise
pub record IsLeaving (at : ℕ) (old new : WayBack) : Type 0 where
  pub left : IsLeft at old new
  pub early : (s : ℕ) → last new.ahead.items ≡ Some s → s < at

-- one more was found
pub record IsEntering (spawn : ℕ) (old new : WayBack) : Type 0 where
  pub before : WayBack
  pub leaves : IsLeaving spawn old before
  pub onward : new.onward ≡ Seek spawn
  pub ahead : new.ahead.items ≡ before.ahead.items ++ (spawn ∷ [])
  pub behind : new.behind.items ≡ before.behind.items

-- a path that comes to the join goes on from there
abbrev pub IsTaken : Option ℕ → WayBack → WayBack → Type 0
IsTaken None old new = new ≡ record old { onward = Live }
IsTaken (Some s) old new = IsEntering s old new

-- a join was taken
pub record IsJoined (j : Choice) (old new : WayBack) : Type 0 where
  pub comes : runs_to j.at old.onward ≡ true → IsTaken j.taken old new
  pub passes : runs_to j.at old.onward ≡ false → new ≡ old

-- ---- what is open at a position, after which the path goes so

-- the frame was opened by an event at s or after it; the root was by none
abbrev pub opened_from : ℕ → FrameKind → ℕ → Bool
opened_from s Root at = false
opened_from s Called at = nat_le s at
opened_from s Spawned at = nat_le s at

-- The path doesn't enter the open frame f: it is the child beside which the path goes, or lies within that child, or
-- was opened after the child that is sought has returned.
abbrev pub lies_beside : Onward → EntryFrame → Bool
lies_beside Live f = false
lies_beside (Skip s) f = opened_from s f.kind f.at
lies_beside (Seek s) f = opened_from s f.kind f.at

-- whether the innermost frame that it enters runs on
abbrev pub runs_on : Onward → Bool
runs_on Live = true
runs_on (Skip s) = true
runs_on (Seek s) = false

-- the flags of the open frames, innermost first
abbrev pub flags_by : Onward → List EntryFrame → List Flag
flags_by w [] = []
flags_by w (f ∷ fs) = elim (lies_beside w f) [ true ↦ beside ∷ flags_by w fs | false ↦ flags_within (runs_on w) (f ∷ fs) ]
