use Rattle.std.proofs.Common.{◌≡◌, ℕ, ◌*◌, ◌/◌, ◌<◌, length, slice_index_or}
use Rattle.spp_cut.specs.Parts.{PartOf, Cover}
use Rattle.spp_cut.proofs.cutting.cut_even.Given as goal

-- the parts so far hold the events before the next step
abbrev pub invariant-loop-number : goal.invariant-loop-number
invariant-loop-number l = record {
  count : length l.cut.items ≡ l.number;
  cover : Cover l.trace 0 0 l.cut.items l.first;
  step : l.first ≡ l.number * l.events / l.count;
  begins : (k : ℕ) (p : PartOf) → k < l.number → (slice_index_or l.cut.items k p).first ≡ k * l.events / l.count;
}
