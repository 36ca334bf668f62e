use Rattle.std.proofs.Common.{◌≡◌, ℕ, ◌+◌, ◌<◌, ◌≤◌, List, length, take, Some}
use Rattle.std.specs.Prelude.{slice_get}
use Rattle.spp_event.specs.declared.records.Event.{Event}
use Rattle.spp_maxplus.specs.declared.state.Burdens.{Burdens}
use Rattle.spp_stack.specs.declared.stacks.Start.{Start}
use Rattle.spp_stack.specs.Parts.{AreOfParts, IsEntryOf, begin_of, open_count}
use Rattle.spp_stack.specs.StackBuilder.{IsKept}
use Rattle.spp_stack.proofs.PartsPassed.{Gone}
use Rattle.spp_stack.proofs.part_by_part.entries.Given as goal

abbrev pub invariant-loop-summary : goal.invariant-loop-summary
invariant-loop-summary l =
    record {
      gone : (es : List Event) (burdens : Burdens) → AreOfParts es burdens l.summaries → Gone es burdens l.root l.summaries l.summary-index l.builder;
      told : (es : List Event) (burdens : Burdens) → AreOfParts es burdens l.summaries → (k : ℕ) → k ≤ l.summary-index
          → IsEntryOf es burdens l.root l.summaries (record { nodes = l.builder.nodes.items; starts = l.starts.items }) k;
      at : l.at ≡ begin_of l.summaries l.summary-index;
      kept : IsKept l.builder;
      starts : length l.starts.items ≡ l.summary-index + 1;
      nodes : length l.builder.nodes.items ≡ 1 + l.summary-index + open_count (take l.summary-index l.summaries);
      tops : (k : ℕ) (start : Start) → slice_get l.starts.items k ≡ Some start → start.top < length l.builder.nodes.items;
    }
