use Rattle.std.proofs.Common.{◌≡◌, map, length, sym, ap, subst, ◌∙◌}
use Rattle.std.specs.List.{All}
use Rattle.spp_event.specs.Recordings.{Recording}
use Rattle.spp_piece.specs.Account.{Account}
use Rattle.spp_dag.proofs.EventsOfRecords.{known_small}
use Rattle.spp_summary.proofs.Totals.{told_ok, told_err}
use Rattle.spp_jobs.proofs.Accounts.{account_in, are_of_parts, accounts_burden, told_bad}
use Rattle.spp_crew.proofs.FirstRound.{surveyed}
use Rattle.spp_crew.proofs.surveying.survey.Goals as goal

pub returns-in_err-whole-clause-fault : goal.returns-in_err-whole-clause-fault
returns-in_err-whole-clause-fault g c =
    let t = c.args.cut.now.trace in
    let told =
    surveyed c.args.cut.now c.args.burdens c.new-job.result.cut.now c.new-job.result.burdens c.parts-parts.ensures.cut c.parts-parts.ensures.few
    c.new-job.ensures.cut c.new-job.ensures.burdens c.in_ok-each.field-0 c.in_ok-each.ensures in
    let fault = c.in_err-whole.field-0.0 in
    told_bad t.records fault c.from_residual-in_err-whole.result c.from_residual-in_err-whole.ensures.1
    (told_err c.args.burdens t.records c.in_ok-each.field-0.whole fault told.whole c.in_err-whole.ensures.value)

pub returns-clause-figures : goal.returns-clause-figures
returns-clause-figures g c =
    let t = c.args.cut.now.trace in
    let told =
    surveyed c.args.cut.now c.args.burdens c.new-job.result.cut.now c.new-job.result.burdens c.parts-parts.ensures.cut c.parts-parts.ensures.few
    c.new-job.ensures.cut c.new-job.ensures.burdens c.in_ok-each.field-0 c.in_ok-each.ensures in
    told_ok c.args.burdens t.records c.in_ok-each.field-0.whole c.in_ok-whole.whole told.whole c.in_ok-whole.ensures.value

pub returns-clause-burdens : goal.returns-clause-burdens
returns-clause-burdens g c =
    let told =
    surveyed c.args.cut.now c.args.burdens c.new-job.result.cut.now c.new-job.result.burdens c.parts-parts.ensures.cut c.parts-parts.ensures.few
    c.new-job.ensures.cut c.new-job.ensures.burdens c.in_ok-each.field-0 c.in_ok-each.ensures in
    let is : c.into_vec.result.items ≡ map (account_in c.args.burdens) c.args.cut.now.parts = c.into_vec.ensures.items ∙ told.each in
    subst (All (λ (a : Account). a.burdens ≡ c.args.burdens)) (sym is) (accounts_burden c.args.burdens c.args.cut.now.parts)

pub returns-clause-each : goal.returns-clause-each
returns-clause-each g c =
    let told =
    surveyed c.args.cut.now c.args.burdens c.new-job.result.cut.now c.new-job.result.burdens c.parts-parts.ensures.cut c.parts-parts.ensures.few
    c.new-job.ensures.cut c.new-job.ensures.burdens c.in_ok-each.field-0 c.in_ok-each.ensures in
    c.into_vec.ensures.items ∙ told.each

pub returns-clause-parts : goal.returns-clause-parts
returns-clause-parts g c es are =
    let t = c.args.cut.now.trace in
    let told =
    surveyed c.args.cut.now c.args.burdens c.new-job.result.cut.now c.new-job.result.burdens c.parts-parts.ensures.cut c.parts-parts.ensures.few
    c.new-job.ensures.cut c.new-job.ensures.burdens c.in_ok-each.field-0 c.in_ok-each.ensures in
    let figures = told_ok c.args.burdens t.records c.in_ok-each.field-0.whole c.in_ok-whole.whole told.whole c.in_ok-whole.ensures.value in
    let is : c.into_vec.result.items ≡ map (account_in c.args.burdens) c.args.cut.now.parts = c.into_vec.ensures.items ∙ told.each in
    let u = c.trace.result.now in
    let same : u.records ≡ t.records = ap (λ (v : Recording). v.records) c.trace.ensures in
    let small = known_small u.records (length u.sites) (length u.funcs) es c.keeps_limits.ensures.limits.events (same ∙ are) c.keeps_limits.ensures.events in
    are_of_parts t c.args.burdens c.args.cut.now.parts c.into_vec.result.items es c.parts-parts.ensures.cut is figures.well_formed are small
