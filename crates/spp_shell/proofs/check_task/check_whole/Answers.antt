use Rattle.std.proofs.Common.{inr}
use Rattle.spp_shell.specs.Check.{IsOneCheckLine}
use Rattle.spp_shell.specs.Devices.{Giving, giving_of}
use Rattle.spp_shell.specs.declared.place.Place.TheVariants.{Only}
use Rattle.spp_shell.proofs.Checks.{check_answered, check_refused}
use Rattle.spp_shell.proofs.Inputs.{err_again, refused_unread}
use Rattle.spp_shell.proofs.check_task.check_whole.Goals as goal

pub returns-in_err-bytes-clause-refused : goal.returns-in_err-bytes-clause-refused
returns-in_err-bytes-clause-refused g c = λ s h.
    let input : Giving = giving_of g.S.Source.answered g.S.Source.failed g.S.Source.failures s c.read_rest_or_refuse.new.input in
    err_again _ c.in_err-bytes.field-0.0 _ c.from_residual.ensures.1 (refused_unread input Only IsOneCheckLine c.in_err-bytes.field-0.0 (c.in_err-bytes.ensures.refused s h))

pub returns-clause-text : goal.returns-clause-text
returns-clause-text g c = λ s h.
    let input : Giving = giving_of g.S.Source.answered g.S.Source.failed g.S.Source.failures s c.read_rest_or_refuse.new.input in
    check_answered (λ text. text.items) input c.in_ok-bytes.bytes.items (c.in_ok-bytes.ensures.read s h) c.answer_check.result (rw c.as_slice.ensures.value at c.answer_check.ensures.text)

pub returns-clause-refused : goal.returns-clause-refused
returns-clause-refused g c = λ s h.
    let input : Giving = giving_of g.S.Source.answered g.S.Source.failed g.S.Source.failures s c.read_rest_or_refuse.new.input in
    let gave = c.in_ok-bytes.ensures.read s h in
    check_refused (λ text. text.items) input c.in_ok-bytes.bytes.items gave c.answer_check.result (inr (c.in_ok-bytes.bytes.items, gave)) (rw c.as_slice.ensures.value at c.answer_check.ensures.line)
