use Rattle.std.proofs.Common.{◌≡◌, ℕ, List, length}
use Rattle.spp_event.specs.declared.records.Event.{Event}
use Rattle.spp_frame.specs.Nesting.{AreEvents}
use Rattle.spp_advice.specs.Counts.{counts_at, counts_before, is_marked, AreFew}
use Rattle.spp_advice.proofs.counting.counts_by.Given as goal

-- The events before `at` are counted.
abbrev pub invariant-loop-at : goal.invariant-loop-at
invariant-loop-at g l = record {
  sites : length l.counts ≡ length l.trace.sites;
  counts : (es : List Event) → AreEvents l.trace.records es → (site : ℕ) → counts_at l.counts site ≡ counts_before es (is_marked l.marks) site l.at;
  few : (site : ℕ) → AreFew l.at (counts_at l.counts site);
  next : g.R.Reader.stands l.events l.trace l.at;
}
