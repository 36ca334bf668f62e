use Rattle.std.proofs.Common.{ℕ, ◌<◌, take, length}
use Rattle.std.specs.Prelude.{IsOk}
use Rattle.std.specs.String.{string_bytes}
use Rattle.spp_event.specs.Recordings.{record_at}
use Rattle.spp_text.specs.Printed.{PrintsEvents}
use Rattle.spp_text.proofs.print.push_events_by.Given as goal

abbrev pub invariant-loop-at : goal.invariant-loop-at
invariant-loop-at g l = record {
  printed : PrintsEvents (length l.trace.sites) (length l.trace.funcs) (string_bytes l.fn.text) (take l.at l.trace.records) (string_bytes l.text);
  good : (i : ℕ) → i < l.at → IsOk (record_at l.trace.records i);
  next : g.R.Reader.stands l.events l.trace l.at;
}
