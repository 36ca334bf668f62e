use Rattle.std.proofs.lemmas.Result.{IfOk-weaker}
use Rattle.spp_advice.specs.Ranking.{weight_of}
use Rattle.spp_shell.proofs.Advised.{first_below}
use Rattle.spp_shell.proofs.told_sites.told_sites.Goals as goal

pub returns-in-None-clause-within : goal.returns-in-None-clause-within
returns-in-None-clause-within c =
    let p = c.args.profile.now in
    let counts = c.args.counts.now in
    IfOk-weaker c.ranked.result _ _
    (λ told are. first_below (weight_of p counts c.args.burdens) p counts c.args.sites c.args.top told.items are)
    c.ranked.ensures
