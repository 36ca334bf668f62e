use Rattle.std.proofs.Common.{subst}
use Rattle.spp_cut.specs.Cuts.{AreInOrder}
use Rattle.spp_cut.proofs.Orders.{good_in_order}
use Rattle.spp_cut.proofs.cutting.cut_at.Goals as goal

pub parts_at-requires-clause-in_order : goal.parts_at-requires-clause-in_order
parts_at-requires-clause-in_order c =
    subst (λ e. AreInOrder 0 c.args.cuts.now e) c.count.ensures.count (good_in_order c.count.result c.args.cuts.now c.in_ok-check_cuts.ensures.good.0)
