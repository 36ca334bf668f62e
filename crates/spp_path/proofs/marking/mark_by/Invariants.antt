use Rattle.std.proofs.Common.{◌≡◌, ◌<◌, ◌+◌, ℕ, length, List, Some}
use Rattle.std.specs.Prelude.{slice_get}
use Rattle.spp_event.specs.declared.records.Event.{Event}
use Rattle.spp_frame.specs.Nesting.{AreEvents}
use Rattle.spp_maxplus.specs.declared.state.Burdens.{Burdens}
use Rattle.spp_dag.specs.Dag.{IsPath}
use Rattle.spp_path.specs.Marks.{marked, IsMark}
use Rattle.spp_path.specs.Outside.{HasEntry}
use Rattle.spp_path.proofs.MarkPass.{SeenAt}
use Rattle.spp_path.proofs.PartPass.{Goes}
use Rattle.spp_path.proofs.PathPass.{Left}
use Rattle.spp_path.proofs.marking.mark_by.Given as goal

-- as far as the event at `k` of the part its bytes are right, and the spawns from there on are left
abbrev pub invariant-loop-k : goal.invariant-loop-k
invariant-loop-k g l = record {
  size : length l.marks ≡ l.part.count;
  seen : (eb : Burdens) → HasEntry l.part.trace eb l.part.first l.fn.entry
      → SeenAt l.part.trace eb (Goes l.part.first (l.part.first + l.part.count) l.fn.entry l.fn.live l.fn.trail l.entered-2) (l.first + l.k) (marked l.pass);
  left : Left l.part.trace (Goes l.part.first (l.part.first + l.part.count) l.fn.entry l.fn.live l.fn.trail l.entered-2) (l.part.first + l.part.count) (l.first + l.k) l.entered;
  right : (es : List Event) → AreEvents l.part.trace.records es → (bd : Burdens) → Goes l.part.first (l.part.first + l.part.count) l.fn.entry l.fn.live l.fn.trail l.entered-2 es bd
      → (ps : List ℕ) → IsPath es bd 0 (length es) ps → (j b : ℕ) → j < l.k → slice_get l.marks j ≡ Some b → IsMark ps (l.part.first + j) b;
  next : g.R.Reader.stands l.events l.part.trace (l.part.first + l.k);
}
