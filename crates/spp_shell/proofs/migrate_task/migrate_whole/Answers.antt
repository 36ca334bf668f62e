use Rattle.std.proofs.Common.{[], ◌∷◌, inr}
use Rattle.spp_shell.specs.Devices.{Giving, giving_of}
use Rattle.spp_shell.specs.Migrate.{IsMigrateText, IsOneMigrateLine}
use Rattle.spp_shell.specs.declared.place.Place.TheVariants.{Only}
use Rattle.spp_shell.proofs.Inputs.{err_again, refused_unread}
use Rattle.spp_shell.proofs.Told.{told_of_given, refused_of_given}
use Rattle.spp_shell.proofs.migrate_task.migrate_whole.Goals as goal

pub returns-in_err-bytes-clause-refused : goal.returns-in_err-bytes-clause-refused
returns-in_err-bytes-clause-refused g c = λ s h.
    let input : Giving = giving_of g.S.Source.answered g.S.Source.failed g.S.Source.failures s c.read_rest_or_refuse.new.input in
    err_again _ c.in_err-bytes.field-0.0 _ c.from_residual.ensures.1 (refused_unread input Only IsOneMigrateLine c.in_err-bytes.field-0.0 (c.in_err-bytes.ensures.refused s h))

pub returns-clause-text : goal.returns-clause-text
returns-clause-text g c = λ s h.
    let input : Giving = giving_of g.S.Source.answered g.S.Source.failed g.S.Source.failures s c.read_rest_or_refuse.new.input in
    told_of_given input c.in_ok-bytes.bytes.items (c.in_ok-bytes.ensures.read s h) (λ bytes text. IsMigrateText (bytes ∷ []) text.items) c.answer_migrate.result (rw c.as_slice.ensures.value at c.answer_migrate.ensures.text)

pub returns-clause-refused : goal.returns-clause-refused
returns-clause-refused g c = λ s h.
    let input : Giving = giving_of g.S.Source.answered g.S.Source.failed g.S.Source.failures s c.read_rest_or_refuse.new.input in
    let gave = c.in_ok-bytes.ensures.read s h in
    refused_of_given input c.in_ok-bytes.bytes.items gave (inr (c.in_ok-bytes.bytes.items, gave)) Only IsOneMigrateLine c.answer_migrate.result (rw c.as_slice.ensures.value at c.answer_migrate.ensures.line)
