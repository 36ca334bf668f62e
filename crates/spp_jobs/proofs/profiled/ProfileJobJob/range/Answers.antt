use Rattle.std.proofs.Common.{get_or, ap, ap₂, ◌∙◌}
use Rattle.spp_jobs.specs.Names.{profiles, JobOf}
use Rattle.spp_jobs.proofs.Spelling.{range_is}
use Rattle.spp_jobs.proofs.profiled.ProfileJobJob.range.Goals as goal

pub returns : goal.returns
returns c =
    let j : JobOf = record { kind = profiles; cut = c.args.self.now.cut.now; burdens = c.args.self.now.burdens } in
    let p = c.index-parts-number.result in
    ap₂ (λ a b. (a, b)) c.first.ensures c.count.ensures
    ∙ range_is j c.parts.ensures.cut c.args.number p c.requires (c.index-parts-number.is ∙ ap (λ ps. get_or ps c.args.number p) c.parts.ensures.parts)
