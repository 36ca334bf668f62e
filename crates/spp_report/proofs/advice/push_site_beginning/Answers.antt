use Rattle.std.proofs.Common.{◌≡◌, false, sym}
use Rattle.std.specs.Prelude.{nat_lt}
use Rattle.std.proofs.lemmas.Bool.{le-ltb}
use Rattle.spp_report.specs.Advice.{cost_of}
use Rattle.spp_report.proofs.advice.push_site_beginning.Goals as goal

pub returns-else-own-cost : goal.returns-else-own-cost
returns-else-own-cost c =
    let own = c.args.site.now.burdened_path.local in
    let cost = cost_of c.args.burdens c.args.site.now in
    let no : nat_lt own cost ≡ false = le-ltb own cost (rw c.cost-cost.ensures.value at c.if-own-cost.false) in
    rw (no, sym c.per_cent-share-else-own-cost.ensures) c.push_beginning-else-own-cost.ensures
