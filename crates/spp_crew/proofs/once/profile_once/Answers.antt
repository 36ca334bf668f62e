use Rattle.std.proofs.Common.{length, subst}
use Rattle.spp_part.specs.Parts.{IsSoFar}
use Rattle.spp_jobs.specs.declared.profiled.ProfilePiece.{ProfilePiece}
use Rattle.spp_crew.proofs.WholePiece.{IsWhole, if_err, profiled_told}
use Rattle.spp_crew.proofs.Profiled.{if_ok}
use Rattle.spp_crew.proofs.once.profile_once.Goals as goal

pub finish-requires : goal.finish-requires
finish-requires g c =
    let told : IsWhole c.args.cut.now.trace c.args.burdens c.in_ok-so_far.field-0 =
    profiled_told c.args.cut.now c.args.burdens c.new-job.result.cut.now c.new-job.result.burdens c.parts-parts.ensures.cut c.parts-parts.ensures.few
    c.new-job.ensures.cut c.new-job.ensures.burdens c.in_ok-so_far.field-0 c.in_ok-so_far.ensures in
    let so : IsSoFar c.args.cut.now.trace c.args.burdens (length c.args.cut.now.trace.records) c.in-Begun.so_far =
    subst (λ (x : ProfilePiece). IsWhole c.args.cut.now.trace c.args.burdens x) c.in-Begun.is told in
    (c.args.cut.now.trace, c.args.burdens, so)

pub returns-in-Begun-clause-figures : goal.returns-in-Begun-clause-figures
returns-in-Begun-clause-figures g c =
    let told : IsWhole c.args.cut.now.trace c.args.burdens c.in_ok-so_far.field-0 =
    profiled_told c.args.cut.now c.args.burdens c.new-job.result.cut.now c.new-job.result.burdens c.parts-parts.ensures.cut c.parts-parts.ensures.few
    c.new-job.ensures.cut c.new-job.ensures.burdens c.in_ok-so_far.field-0 c.in_ok-so_far.ensures in
    let so : IsSoFar c.args.cut.now.trace c.args.burdens (length c.args.cut.now.trace.records) c.in-Begun.so_far =
    subst (λ (x : ProfilePiece). IsWhole c.args.cut.now.trace c.args.burdens x) c.in-Begun.is told in
    if_ok c.finish.result (λ p h. h c.args.cut.now.trace c.args.burdens so) c.finish.ensures.figures

pub returns-in-Begun-clause-dag : goal.returns-in-Begun-clause-dag
returns-in-Begun-clause-dag g c =
    let told : IsWhole c.args.cut.now.trace c.args.burdens c.in_ok-so_far.field-0 =
    profiled_told c.args.cut.now c.args.burdens c.new-job.result.cut.now c.new-job.result.burdens c.parts-parts.ensures.cut c.parts-parts.ensures.few
    c.new-job.ensures.cut c.new-job.ensures.burdens c.in_ok-so_far.field-0 c.in_ok-so_far.ensures in
    let so : IsSoFar c.args.cut.now.trace c.args.burdens (length c.args.cut.now.trace.records) c.in-Begun.so_far =
    subst (λ (x : ProfilePiece). IsWhole c.args.cut.now.trace c.args.burdens x) c.in-Begun.is told in
    if_ok c.finish.result (λ p h. h c.args.cut.now.trace c.args.burdens so) c.finish.ensures.dag

pub returns-in-Begun-clause-path : goal.returns-in-Begun-clause-path
returns-in-Begun-clause-path g c =
    let told : IsWhole c.args.cut.now.trace c.args.burdens c.in_ok-so_far.field-0 =
    profiled_told c.args.cut.now c.args.burdens c.new-job.result.cut.now c.new-job.result.burdens c.parts-parts.ensures.cut c.parts-parts.ensures.few
    c.new-job.ensures.cut c.new-job.ensures.burdens c.in_ok-so_far.field-0 c.in_ok-so_far.ensures in
    let so : IsSoFar c.args.cut.now.trace c.args.burdens (length c.args.cut.now.trace.records) c.in-Begun.so_far =
    subst (λ (x : ProfilePiece). IsWhole c.args.cut.now.trace c.args.burdens x) c.in-Begun.is told in
    if_ok c.finish.result (λ p h. h c.args.cut.now.trace c.args.burdens so) c.finish.ensures.path

pub returns-in-Begun-clause-burdened_path : goal.returns-in-Begun-clause-burdened_path
returns-in-Begun-clause-burdened_path g c =
    let told : IsWhole c.args.cut.now.trace c.args.burdens c.in_ok-so_far.field-0 =
    profiled_told c.args.cut.now c.args.burdens c.new-job.result.cut.now c.new-job.result.burdens c.parts-parts.ensures.cut c.parts-parts.ensures.few
    c.new-job.ensures.cut c.new-job.ensures.burdens c.in_ok-so_far.field-0 c.in_ok-so_far.ensures in
    let so : IsSoFar c.args.cut.now.trace c.args.burdens (length c.args.cut.now.trace.records) c.in-Begun.so_far =
    subst (λ (x : ProfilePiece). IsWhole c.args.cut.now.trace c.args.burdens x) c.in-Begun.is told in
    if_ok c.finish.result (λ p h. h c.args.cut.now.trace c.args.burdens so) c.finish.ensures.burdened_path

pub returns-in-Begun-clause-profile : goal.returns-in-Begun-clause-profile
returns-in-Begun-clause-profile g c =
    let told : IsWhole c.args.cut.now.trace c.args.burdens c.in_ok-so_far.field-0 =
    profiled_told c.args.cut.now c.args.burdens c.new-job.result.cut.now c.new-job.result.burdens c.parts-parts.ensures.cut c.parts-parts.ensures.few
    c.new-job.ensures.cut c.new-job.ensures.burdens c.in_ok-so_far.field-0 c.in_ok-so_far.ensures in
    let so : IsSoFar c.args.cut.now.trace c.args.burdens (length c.args.cut.now.trace.records) c.in-Begun.so_far =
    subst (λ (x : ProfilePiece). IsWhole c.args.cut.now.trace c.args.burdens x) c.in-Begun.is told in
    if_ok c.finish.result (λ p h. h c.args.cut.now.trace c.args.burdens so) c.finish.ensures.profile

pub returns-in-Begun-clause-fault : goal.returns-in-Begun-clause-fault
returns-in-Begun-clause-fault g c =
    let told : IsWhole c.args.cut.now.trace c.args.burdens c.in_ok-so_far.field-0 =
    profiled_told c.args.cut.now c.args.burdens c.new-job.result.cut.now c.new-job.result.burdens c.parts-parts.ensures.cut c.parts-parts.ensures.few
    c.new-job.ensures.cut c.new-job.ensures.burdens c.in_ok-so_far.field-0 c.in_ok-so_far.ensures in
    let so : IsSoFar c.args.cut.now.trace c.args.burdens (length c.args.cut.now.trace.records) c.in-Begun.so_far =
    subst (λ (x : ProfilePiece). IsWhole c.args.cut.now.trace c.args.burdens x) c.in-Begun.is told in
    if_err c.finish.result (λ e h. h c.args.cut.now.trace c.args.burdens so) c.finish.ensures.fault

pub returns-in-Bad-clause-fault : goal.returns-in-Bad-clause-fault
returns-in-Bad-clause-fault g c =
    let told : IsWhole c.args.cut.now.trace c.args.burdens c.in_ok-so_far.field-0 =
    profiled_told c.args.cut.now c.args.burdens c.new-job.result.cut.now c.new-job.result.burdens c.parts-parts.ensures.cut c.parts-parts.ensures.few
    c.new-job.ensures.cut c.new-job.ensures.burdens c.in_ok-so_far.field-0 c.in_ok-so_far.ensures in
    subst (λ (x : ProfilePiece). IsWhole c.args.cut.now.trace c.args.burdens x) c.in-Bad.is told
