use Rattle.std.proofs.Common.{Bool, ◌≤◌, List, length}
use Rattle.spp_ways.specs.Ways.{Ways}
use Rattle.spp_ways.specs.OpenWays.{IsLaid, AreWays}
use Rattle.spp_pass.specs.Passes.{Notes, seen_with}
use Rattle.spp_serial.proofs.Reading.{Led}
use Rattle.spp_serial.proofs.profile_by.Given as goal

-- The run is read as far as `at`. A pass that notes choices would have noted some.
abbrev pub invariant-loop-at : goal.invariant-loop-at
invariant-loop-at g l = record {
  led : (n : Notes) × (ways : Bool → List Ways) × Led l.trace l.burdens l.at (seen_with l.counting n) ways × ((on : Bool) → AreWays on l.ways (ways on));
  laid : IsLaid l.ways;
  few : length l.ways.log.rows.items ≤ l.at;
  next : g.R.Reader.stands l.events l.trace l.at;
}
