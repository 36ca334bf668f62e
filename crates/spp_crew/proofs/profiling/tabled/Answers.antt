use Rattle.spp_crew.proofs.Profiled.{if_ok, tabled_told}
use Rattle.spp_crew.proofs.profiling.tabled.Goals as goal

pub returns : goal.returns
returns g c =
    if_ok c.run_round.result
    (λ t v. tabled_told c.args.cut.now c.args.burdens c.new-job.result.cut c.new-job.result.burdens c.parts-parts.ensures.cut c.parts-parts.ensures.few c.new-job.ensures.cut c.new-job.ensures.burdens t v)
    c.run_round.ensures
