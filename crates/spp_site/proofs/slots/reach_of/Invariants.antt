use Rattle.std.specs.Prelude.{ℕ, ◌<◌, ◌≤◌, get_or}
use Rattle.spp_site.specs.Slots.{blank}
use Rattle.spp_site.proofs.slots.reach_of.Given as goal

abbrev pub invariant-loop-entry : goal.invariant-loop-entry
invariant-loop-entry l = record {
  reached : (k : ℕ) → k < l.entry-index → (get_or l.fn.rows k blank).site < l.reach;
  small : l.reach ≤ 65536;
}
