-- What is told of a path in a part of a run.
use Rattle.std.specs.Prelude.{◌≡◌, ℕ, suc, ◌+◌, ◌<◌, ◌++◌, ◌∷◌, List, length, Option}
use Rattle.spp_event.specs.declared.records.Event.{Event}
use Rattle.spp_event.specs.Recordings.{Recording}
use Rattle.spp_frame.specs.Nesting.{AreEvents}
use Rattle.spp_cut.specs.Parts.{PartOf}
use Rattle.spp_maxplus.specs.declared.state.Burdens.{Burdens}
use Rattle.spp_dag.specs.declared.stack.EntryFrame.{EntryFrame}
use Rattle.spp_dag.specs.Dag.{IsPath}
use Rattle.spp_dag.specs.Rows.{AreSpans, contains}
use Rattle.spp_dag.specs.Shares.{share}
use Rattle.spp_site.specs.Table.{Sums}
use Rattle.spp_site.specs.Profiles.{key_row}
use Rattle.spp_stack.specs.Chain.{StackOf, HasFrames, IsStart}
use Rattle.spp_path.specs.declared.trail.Trail.{Trail}
use Rattle.spp_path.specs.Settled.{PathOf, position, IsSettled}
use Rattle.spp_path.specs.Entered.{AreEnteredIn}
use Rattle.spp_path.specs.Flags.{AreFlags, flags_of}

-- Where a range of positions begins, the frames of the stack `all` are open, and of these the path enters those of the
-- stack `live`; the trail tells how it goes on; and these are the spawns in the range of the children that it enters.
pub record GoesIn (es : List Event) (burdens : Burdens) (from end : ℕ) (all live : StackOf) (trail : Trail) (spawns : List ℕ) : Type 0 where
  pub outs : List EntryFrame
  pub ks : List EntryFrame
  pub frames : HasFrames all (outs ++ ks)
  pub entered : HasFrames live ks
  pub skipped : trail.skipped ≡ length outs
  pub flags : AreFlags es burdens from (outs ++ ks) (flags_of outs trail.running ks)
  pub work : live.work ≡ all.work
  pub spawns_are : AreEnteredIn es burdens from end spawns

-- so goes the path under the burdens where the part begins, and in it
abbrev pub GoesOn : PartOf → Burdens → StackOf → StackOf → Trail → List ℕ → Type 0
GoesOn part burdens all live trail spawns = (es : List Event) → AreEvents part.trace.records es → GoesIn es burdens part.first (part.first + part.count) all live trail spawns

-- the path was settled, of all events of the trace
abbrev pub IsSettledIn : Recording → Burdens → PathOf → Type 0
IsSettledIn trace burdens s = (es : List Event) → AreEvents trace.records es → IsSettled es burdens s

-- the part is that of its number where the path was settled, and the stack has the frames that are open where it begins
pub record IsPlaced (part : PartOf) (all : StackOf) (s : PathOf) : Type 0 where
  pub frames : List EntryFrame
  pub start : IsStart s.stacks part.number part.first frames all.work
  pub are : HasFrames all frames
  pub within : suc part.number < length s.starts
  pub end : position s.stacks (suc part.number) ≡ part.first + part.count

-- each row is the share of the range in that of the path, where the root frame runs the function `root`
abbrev pub IsPathShare : List Event → Burdens → ℕ → ℕ → ℕ → Sums → Type 0
IsPathShare es burdens root from end t = (span : ℕ → ℕ) × AreSpans es span
    × ((rest : List ℕ) × IsPath es burdens 0 (length es) rest × ((key : Option ℕ) → key_row t key ≡ share es root span (contains (0 ∷ rest)) key from end))
