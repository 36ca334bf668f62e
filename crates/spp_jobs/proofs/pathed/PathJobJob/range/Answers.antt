use Rattle.std.proofs.Common.{◌<◌, get_or, sym, subst, ap, ap₂, ◌∙◌}
use Rattle.spp_jobs.specs.Names.{paths, JobOf, spell, parts_in, range_in}
use Rattle.spp_jobs.specs.Paths.{PathTask}
use Rattle.spp_jobs.proofs.Spelling.{range_is}
use Rattle.spp_jobs.proofs.pathed.PathJobJob.range.Goals as goal

pub returns : goal.returns
returns c =
    let j : JobOf = record { kind = paths; cut = c.self.inside.cut.now; burdens = c.self.inside.burdens } in
    let p = c.index-parts-number.result in
    let few : c.args.number < parts_in (spell j) = subst (λ (v : PathTask). c.args.number < parts_in (spell (record { kind = paths; cut = v.cut; burdens = v.burdens }))) (sym c.self.view_is) c.requires in
    ap₂ (λ a b. (a, b)) c.first.ensures c.count.ensures
    ∙ range_is j c.parts.ensures.cut c.args.number p few (c.index-parts-number.is ∙ ap (λ ps. get_or ps c.args.number p) c.parts.ensures.parts)
    ∙ ap (λ (v : PathTask). range_in (spell (record { kind = paths; cut = v.cut; burdens = v.burdens })) c.args.number) c.self.view_is
