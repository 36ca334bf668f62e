-- The marks of a path, part by part, and marking some neighbouring parts of a cut.
use Rattle.std.specs.Prelude.{◌≡◌, ℕ, ◌<◌, ◌≤◌, List, length, take}
use Rattle.spp_event.specs.declared.records.Event.{Event}
use Rattle.spp_event.specs.Recordings.{Recording}
use Rattle.spp_frame.specs.Nesting.{AreEvents}
use Rattle.spp_cut.specs.Parts.{CutOf, events_in}
use Rattle.spp_maxplus.specs.declared.state.Burdens.{Burdens}
use Rattle.spp_stack.specs.Chain.{Stacks}
use Rattle.spp_path.specs.Marks.{AreMarksOf}
use Rattle.spp_path.specs.Parts.{IsSettledIn}
use Rattle.spp_path.specs.Settled.{PathOf}
use Rattle.spp_jobs.specs.Names.{parts_from}
use Rattle.spp_jobs.specs.Paths.{IsSettledOver}

-- each byte is the mark of its event on the path under the burdens, of the events from part i on
abbrev pub AreMarksFrom : CutOf → Burdens → ℕ → List ℕ → Type 0
AreMarksFrom cut burdens i marks =
    (es : List Event) → AreEvents cut.trace.records es → AreMarksOf es burdens (events_in (take i cut.parts)) marks

-- each byte is the mark of its event, of all events of the trace
abbrev pub AreMarks : Recording → Burdens → List ℕ → Type 0
AreMarks trace burdens marks = (es : List Event) → AreEvents trace.records es → AreMarksOf es burdens 0 marks

-- there is a part from number i up to, not including, k, a path was settled over the stacks of the cut, and these parts
-- have an event for each byte
pub record CanMark (cut : CutOf) (s : Stacks) (path : PathOf) (i k : ℕ) (buffer : List ℕ) : Type 0 where
  pub some : i < k
  pub parts : k ≤ length cut.parts
  pub bytes : length buffer ≡ events_in (parts_from cut i k)
  pub settled : IsSettledOver cut s path

-- each byte is the mark of its event on the settled path, of the events from part i on
abbrev pub AreMarked : CutOf → PathOf → ℕ → List ℕ → Type 0
AreMarked cut path i marks = (burdens : Burdens) → IsSettledIn cut.trace burdens path → AreMarksFrom cut burdens i marks
