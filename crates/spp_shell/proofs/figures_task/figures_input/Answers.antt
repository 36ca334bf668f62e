use Rattle.std.proofs.Common.{[], ◌∷◌, take, inr}
use Rattle.spp_shell.specs.Check.{IsOneCheckLine}
use Rattle.spp_shell.specs.Devices.{Giving, giving_of}
use Rattle.spp_shell.specs.declared.place.Place.TheVariants.{Only}
use Rattle.spp_shell.specs.Figures.{IsFiguresText}
use Rattle.spp_shell.proofs.Checks.{check_refused}
use Rattle.spp_shell.proofs.Inputs.{err_again, refused_unread}
use Rattle.spp_shell.proofs.Told.{told_of_given}
use Rattle.spp_shell.proofs.Streams.{front_checked}
use Rattle.spp_shell.proofs.figures_task.figures_input.Goals as goal

pub returns-in_err-front-clause-refused : goal.returns-in_err-front-clause-refused
returns-in_err-front-clause-refused g c =
    let input : Giving = giving_of g.S.Source.answered g.S.Source.failed g.S.Source.failures c.args.source.now c.read_front.new.input in
    err_again _ c.in_err-front.field-0.0 _ c.from_residual.ensures.1 (refused_unread input Only IsOneCheckLine c.in_err-front.field-0.0 c.in_err-front.ensures.refused)

pub returns-in-Whole-clause-text : goal.returns-in-Whole-clause-text
returns-in-Whole-clause-text g c =
    let input : Giving = giving_of g.S.Source.answered g.S.Source.failed g.S.Source.failures c.args.source.now c.read_front.new.input in
    let gave = rw c.in-Whole.is at c.in_ok-front.ensures.read in
    told_of_given input c.in-Whole.bytes.items gave (λ bytes text. IsFiguresText c.args.request.now.burdens (bytes ∷ []) text.items) c.answer_figures.result (rw c.as_slice.ensures.value at c.answer_figures.ensures.text)

pub returns-in-Whole-clause-refused : goal.returns-in-Whole-clause-refused
returns-in-Whole-clause-refused g c =
    let input : Giving = giving_of g.S.Source.answered g.S.Source.failed g.S.Source.failures c.args.source.now c.read_front.new.input in
    let gave = rw c.in-Whole.is at c.in_ok-front.ensures.read in
    check_refused (λ text. text.items) input c.in-Whole.bytes.items gave c.answer_figures.result (inr (c.in-Whole.bytes.items, gave)) (rw c.as_slice.ensures.value at c.answer_figures.ensures.line)

pub returns-in_err-head-clause-refused : goal.returns-in_err-head-clause-refused
returns-in_err-head-clause-refused g c =
    let came = c.in-Part.came in
    err_again _ c.in_err-head.field-0.0 _ c.from_residual-in_err-head.ensures.1
    (front_checked g.S.Source.answered g.S.Source.failed g.S.Source.failures came.reads c.args.source.now c.read_front.new.input (take came.filled came.bytes.items) (rw c.in-Part.is at c.in_ok-front.ensures.read) came.turns
    Only c.in_err-head.field-0.0 (rw c.as_slice-2.ensures at c.in_err-head.ensures.refused))

pub returns-in_default-clause-text : goal.returns-in_default-clause-text
returns-in_default-clause-text g c = c.figure_whole.ensures.text c.args.source.now (rw c.in-Part.is at c.in_ok-front.ensures.read)

pub returns-in_default-records_behind-clause-text : goal.returns-in_default-records_behind-clause-text
returns-in_default-records_behind-clause-text g c =
    c.figure_whole-in_default-records_behind.ensures.text c.args.source.now (rw c.in-Part.is at c.in_ok-front.ensures.read)

pub returns-clause-text : goal.returns-clause-text
returns-clause-text g c = c.figure_records.ensures.text c.args.source.now (rw c.in-Part.is at c.in_ok-front.ensures.read)

pub returns-clause-refused : goal.returns-clause-refused
returns-clause-refused g c = c.figure_records.ensures.refused c.args.source.now (rw c.in-Part.is at c.in_ok-front.ensures.read)
