use Rattle.std.proofs.Common.{◌≡◌, ◌<◌, ℕ, drop, subst, arith}
use Rattle.std.specs.List.{AllByRecursion}
use Rattle.spp_event.proofs.LastItems.{low_items, low_at_end, low_before, last_at}
use Rattle.spp_event.proofs.stretches.last_item.Goals as goal

pub loop-k-init : goal.loop-k-init
loop-k-init c = low_at_end c.args.bytes.now

pub returns-then-bytes-k-ge128-clause-last : goal.returns-then-bytes-k-ge128-clause-last
returns-then-bytes-k-ge128-clause-last c = last_at c.args.bytes.now c.loop-k.k (omega arith) (omega arith) c.loop-k.invariant

pub loop-k-preserved : goal.loop-k-preserved
loop-k-preserved c = low_before c.args.bytes.now c.loop-k.k (omega arith) (omega arith) (omega arith) c.loop-k.invariant

pub returns-clause-last : goal.returns-clause-last
returns-clause-last c =
    let e : c.loop-k.k ≡ 0 = omega arith in
    low_items c.args.bytes.now (subst (λ (k : ℕ). AllByRecursion (λ b. b < 128) (drop k c.args.bytes.now)) e c.loop-k.invariant)
