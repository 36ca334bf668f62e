use Rattle.std.proofs.Common.{◌≡◌, ◌-◌, length, map, []}
use Rattle.spp_event.specs.Checks.{funcs_at}
use Rattle.spp_event.proofs.header.funcs_of.Given as goal

abbrev pub invariant-loop-number : goal.invariant-loop-number
invariant-loop-number l = record {
  rest : funcs_at (l.count - l.number) (map (λ s. s.now) l.names.items) l.rest ≡ funcs_at l.count [] l.bytes;
  count : length l.names.items ≡ l.number;
}
