use Rattle.std.proofs.Common.{[], ◌∷◌, take, inl, inr, refl}
use Rattle.spp_shell.specs.Check.{TellsHeader}
use Rattle.spp_shell.specs.Devices.{Giving, giving_of}
use Rattle.spp_shell.specs.Migrate.{IsMigrateText, IsOneMigrateLine}
use Rattle.spp_shell.specs.declared.place.Place.TheVariants.{Only}
use Rattle.spp_shell.proofs.Inputs.{err_again, refused_as, refused_unread}
use Rattle.spp_shell.proofs.Streams.{front_refused}
use Rattle.spp_shell.proofs.Told.{told_of_given, refused_of_given}
use Rattle.spp_shell.proofs.migrate_task.migrate_input.Goals as goal

pub returns-in_err-front-clause-refused : goal.returns-in_err-front-clause-refused
returns-in_err-front-clause-refused g c =
    let input : Giving = giving_of g.S.Source.answered g.S.Source.failed g.S.Source.failures c.args.source.now c.read_front.new.input in
    err_again _ c.in_err-front.field-0.0 _ c.from_residual.ensures.1 (refused_unread input Only IsOneMigrateLine c.in_err-front.field-0.0 c.in_err-front.ensures.refused)

pub returns-in-Whole-clause-text : goal.returns-in-Whole-clause-text
returns-in-Whole-clause-text g c =
    let input : Giving = giving_of g.S.Source.answered g.S.Source.failed g.S.Source.failures c.args.source.now c.read_front.new.input in
    let gave = rw c.in-Whole.is at c.in_ok-front.ensures.read in
    told_of_given input c.in-Whole.bytes.items gave (λ bytes text. IsMigrateText (bytes ∷ []) text.items) c.answer_migrate.result (rw c.as_slice.ensures.value at c.answer_migrate.ensures.text)

pub returns-in-Whole-clause-refused : goal.returns-in-Whole-clause-refused
returns-in-Whole-clause-refused g c =
    let input : Giving = giving_of g.S.Source.answered g.S.Source.failed g.S.Source.failures c.args.source.now c.read_front.new.input in
    let gave = rw c.in-Whole.is at c.in_ok-front.ensures.read in
    refused_of_given input c.in-Whole.bytes.items gave (inr (c.in-Whole.bytes.items, gave)) Only IsOneMigrateLine c.answer_migrate.result (rw c.as_slice.ensures.value at c.answer_migrate.ensures.line)

pub returns-in_err-head-clause-refused : goal.returns-in_err-head-clause-refused
returns-in_err-head-clause-refused g c =
    let input : Giving = giving_of g.S.Source.answered g.S.Source.failed g.S.Source.failures c.args.source.now c.read_front.new.input in
    let came = c.in-Part.came in
    let told = c.in_err-head.field-0.0 in
    err_again _ told _ c.from_residual-in_err-head.ensures.1
    (refused_as input Only TellsHeader IsOneMigrateLine (λ bytes line tells. (bytes, refl, inl tells)) told
    (front_refused g.S.Source.answered g.S.Source.failed g.S.Source.failures came.reads c.args.source.now c.read_front.new.input (take came.filled came.bytes.items) (rw c.in-Part.is at c.in_ok-front.ensures.read) came.turns
    Only told (rw c.as_slice-2.ensures at c.in_err-head.ensures.refused)))

pub returns-in-Some-clause-text : goal.returns-in-Some-clause-text
returns-in-Some-clause-text g c = c.migrate_records.ensures.text c.args.source.now (rw c.in-Part.is at c.in_ok-front.ensures.read)

pub returns-in-None-clause-text : goal.returns-in-None-clause-text
returns-in-None-clause-text g c = c.migrate_whole.ensures.text c.args.source.now (rw c.in-Part.is at c.in_ok-front.ensures.read)
