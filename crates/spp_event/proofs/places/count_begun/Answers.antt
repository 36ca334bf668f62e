use Rattle.std.proofs.Common.{arith}
use Rattle.spp_event.proofs.ItemCounts.{from_low, from_high, from_none, from_later}
use Rattle.spp_event.proofs.places.count_begun.Goals as goal
use Rattle.spp_event.proofs.places.count_begun.Goals.{else-from-eq0-via-then-from-eq0+then-from-to+else-body-lt128, else-from-eq0-via-then-from-eq0+else-from-to, else-from-eq0-via-else-from-eq0}

pub returns-then-body-lt128 : goal.returns-then-body-lt128
returns-then-body-lt128 c = from_low c.args.body.now c.args.from c.args.to c.count_leads-leads.result c.if-from-eq0.true c.if-from-to.true c.requires.within c.if-body-lt128.true c.count_leads-leads.ensures

pub returns-else-from-eq0 : goal.returns-else-from-eq0
returns-else-from-eq0 c =
    let body = c.args.body.now in
    let is = c.count_leads-leads.ensures in
    elim c.else-from-eq0.branch [
      | else-from-eq0-via-then-from-eq0+then-from-to+else-body-lt128 w ↦ from_high body c.args.from c.args.to c.count_leads-leads.result (omega arith) (omega arith) c.requires.within (omega arith) is
      | else-from-eq0-via-then-from-eq0+else-from-to w ↦ from_none body c.args.from c.args.to c.count_leads-leads.result (omega arith) c.requires.rising (omega arith) is
      | else-from-eq0-via-else-from-eq0 w ↦ from_later body c.args.from c.args.to c.count_leads-leads.result (omega arith) c.requires.rising c.requires.within is
    ]
