use Rattle.std.proofs.Common.{arith}
use Rattle.spp_path.proofs.Lived.{over_next}
use Rattle.spp_path.proofs.placing.Lives.find.Goals as goal

pub loop-next-preserved : goal.loop-next-preserved
loop-next-preserved c =
    let i = c.loop-next.invariant in
    record {
      there = omega (arith, c.in-Some.ensures.less);
      over = λ enters permits known.
          let here = i.over enters permits known in
          over_next enters c.args.self.now.nodes.now c.args.top c.loop-next.number c.in-Some.next here
          (c.in-Some.ensures.over enters (permits c.loop-next.number here.0 here.1) known);
    }
