use Rattle.std.proofs.Common.{◌≡◌, ◌<◌, ℕ, length, sym, subst, arith}
use Rattle.std.specs.List.{AllByRecursion}
use Rattle.spp_event.proofs.ItemPlaces.{behind, behind_more, low_more, item_between, on_high, on_end}
use Rattle.spp_event.proofs.places.behind_item.Goals as goal

pub returns-then-body-k-ge128 : goal.returns-then-body-k-ge128
returns-then-body-k-ge128 c =
    let body = c.args.body.now in
    let k = c.loop-k.k in
    item_between body c.args.place k (omega arith) (omega arith) c.loop-k.invariant (on_high body k (omega arith) (omega arith))

pub loop-k-preserved : goal.loop-k-preserved
loop-k-preserved c =
    let body = c.args.body.now in
    let k = c.loop-k.k in
    subst (AllByRecursion (λ b. b < 128)) (sym (behind_more body c.args.place k (omega arith) (omega arith))) (low_more (behind body c.args.place k) _ c.loop-k.invariant (omega arith))

pub returns : goal.returns
returns c =
    let body = c.args.body.now in
    let e : c.loop-k.k ≡ length body = omega arith in
    item_between body c.args.place (length body) (omega arith) (omega arith) (subst (λ (k : ℕ). AllByRecursion (λ b. b < 128) (behind body c.args.place k)) e c.loop-k.invariant) (on_end body (length body) (omega arith))
