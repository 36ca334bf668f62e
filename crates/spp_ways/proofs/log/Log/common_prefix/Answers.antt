use Rattle.std.proofs.Common.{Bool, List, reverse, arith}
use Rattle.spp_ways.specs.declared.log.LogRow.{LogRow}
use Rattle.spp_ways.proofs.Leading.{leads_on}
use Rattle.spp_ways.proofs.log.Log.common_prefix.Goals as goal

pub loop-at-preserved : goal.loop-at-preserved
loop-at-preserved c =
    let on : Bool = c.args.burdened in
    let log : List LogRow = reverse c.args.self.now.rows.items in
    record {
      one = leads_on on log c.args.one c.loop-at.at c.led_before-next.result c.loop-at.invariant.one c.led_before-next.ensures.leads;
      other = leads_on on log c.args.other c.loop-at.to c.led_before-to.result c.loop-at.invariant.other c.led_before-to.ensures.leads;
      at = omega (arith, c.loop-at.invariant.at, c.led_before-next.ensures.no_longer);
      to = omega (arith, c.loop-at.invariant.to, c.led_before-to.ensures.no_longer);
    }
