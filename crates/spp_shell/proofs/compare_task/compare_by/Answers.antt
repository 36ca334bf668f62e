use Rattle.std.proofs.Common.{[], ◌∷◌, inr, refl}
use Rattle.spp_shell.specs.Devices.{giving_of}
use Rattle.spp_shell.specs.declared.refusal.Refusal.TheVariants.{Memory}
use Rattle.spp_shell.proofs.Inputs.{before_refused, after_refused, err_again}
use Rattle.spp_shell.proofs.compare_task.compare_by.Goals as goal

pub returns-in_err-before-clause-refused : goal.returns-in_err-before-clause-refused
returns-in_err-before-clause-refused g c =
    err_again _ c.in_err-before.field-0.0 _ c.from_residual.ensures.1 (before_refused (giving_of g.S.Source.answered g.S.Source.failed g.S.Source.failures c.args.first.now c.run_of.new.input)
    (giving_of g.T.Source.answered g.T.Source.failed g.T.Source.failures c.args.second.now c.args.second.now) refl c.in_err-before.field-0.0 c.in_err-before.ensures.refused)

pub returns-in_err-after-clause-refused : goal.returns-in_err-after-clause-refused
returns-in_err-after-clause-refused g c =
    let first = c.in_ok-before.ensures.told in
    err_again _ c.in_err-after.field-0.0 _ c.from_residual-in_err-after.ensures.1 (after_refused (giving_of g.S.Source.answered g.S.Source.failed g.S.Source.failures c.args.first.now c.run_of.new.input)
    (giving_of g.T.Source.answered g.T.Source.failed g.T.Source.failures c.args.second.now c.run_of-2.new.input) first.0 first.1 first.2 c.in_err-after.field-0.0 c.in_err-after.ensures.refused)

pub returns-in_err-compare_text-clause-refused : goal.returns-in_err-compare_text-clause-refused
returns-in_err-compare_text-clause-refused g c =
    let first = c.in_ok-before.ensures.told in
    let second = c.in_ok-after.ensures.told in
    err_again _ Memory _ c.from_residual-in_err-compare_text.ensures.1 (inr ((refl, (first.0, first.1, first.2)), inr (second.0, second.1)))

pub returns-clause-text : goal.returns-clause-text
returns-clause-text g c =
    let first = c.in_ok-before.ensures.told in
    let second = c.in_ok-after.ensures.told in
    (first.0 ∷ second.0 ∷ [], (first.1, second.1), (first.0, second.0, _, _, refl, first.3, second.3, c.in_ok-compare_text.ensures))
