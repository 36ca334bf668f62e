use Rattle.std.proofs.Common.{◌≡◌, ◌<◌, ◌≤◌, ◌+◌, ℕ}
use Rattle.spp_path.specs.Beside.{open_at}
use Rattle.spp_path.proofs.part.stays_beside_by.Given as goal

-- so many are open after the first k events, and some were all along
abbrev pub invariant-loop-k : goal.invariant-loop-k
invariant-loop-k g l = record {
  is : l.open ≡ open_at l.part l.skipped l.k;
  few : l.open ≤ l.skipped + l.k;
  some : (j : ℕ) → j ≤ l.k → 0 < open_at l.part l.skipped j;
  next : g.R.Reader.stands l.events l.part.trace (l.part.first + l.k);
}
