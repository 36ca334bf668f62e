use Rattle.std.proofs.Common.{◌≡◌, ◌-◌, length, map, [], List, ℕ}
use Rattle.std.specs.List.{list_any}
use Rattle.std.specs.Str.{bytes_eq}
use Rattle.spp_event.specs.Checks.{sites_at}
use Rattle.spp_event.specs.NameKeys.{has_by_key}
use Rattle.spp_event.proofs.header.sites_of.Given as goal

abbrev pub invariant-loop-number : goal.invariant-loop-number
invariant-loop-number l = record {
  rest : sites_at (l.count - l.number) l.first (map (λ s. s.now) l.names.items) l.rest ≡ sites_at l.count l.first [] l.bytes;
  count : length l.names.items ≡ l.number;
  seen : (q : List ℕ) → has_by_key l.seen q ≡ list_any (λ n. bytes_eq q n) (map (λ s. s.now) l.names.items);
}
