use Rattle.std.proofs.Common.{◌≡◌, ◌+◌, ◌*◌, ◌-◌, ◌≤◌, ℕ, List, length, take, drop, nat_le, ap, ◌∙◌, arith, inl, inr}
use Rattle.std.proofs.lemmas.Bool.{cases_lt}
use Rattle.std.proofs.lemmas.List.{length-take}
use Rattle.std.proofs.lemmas.List.Sums.{count_by-le-length}
use Rattle.spp_event.proofs.ItemCounts.{leads, leads_all, leads_between, between}
use Rattle.spp_event.proofs.ItemSamples.{taken_all}
use Rattle.spp_event.proofs.places.count_leads.Goals as goal

pub loop-block-preserved : goal.loop-block-preserved
loop-block-preserved c =
    let bytes : List ℕ = c.args.bytes.now in
    let from = c.loop-block.block * 128 in
    let to = c.min-to.result in
    let rising : from ≤ to = omega (arith, c.min-to.ensures, c.div_ceil-block-end.ensures, c.loop-block-test.true) in
    let same : take to bytes ≡ take ((c.loop-block.block + 1) * 128) bytes = taken_all bytes to _ (elim (cases_lt (length bytes) (from + 128)) [ inl lt ↦ inr (omega (arith, c.min-to.ensures), omega (arith, lt)) | inr le ↦ inl (omega (arith, c.min-to.ensures, le)) ]) in
    let more : leads (take to bytes) ≡ leads (take from bytes) + leads (between bytes from to) = leads_between bytes from to rising in
    record {
      counted = omega (arith, c.loop-block.invariant.counted, c.count_few.ensures, c.from-leads.ensures, more, ap {B = ℕ} (λ (l : List ℕ). leads l) same);
      few = omega (arith, c.loop-block.invariant.few, c.count_few.ensures, c.from-leads.ensures, c.min-to.ensures, count_by-le-length (λ (b : ℕ). nat_le 128 b) (between bytes from to), length-take (to - from) (drop from bytes));
    }

pub returns : goal.returns
returns c = c.loop-block.invariant.counted ∙ leads_all c.args.bytes.now (c.loop-block.block * 128) (omega (arith, c.loop-block-test.false, c.div_ceil-block-end.ensures))
