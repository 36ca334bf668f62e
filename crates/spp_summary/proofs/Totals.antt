-- What the summary of all records of a trace comes to.
use Rattle.std.proofs.Common.{◌≡◌, List, length, Ok, Err, IfOk, IfErr, sym, ap, subst, ◌∙◌}
use Rattle.spp_event.specs.Recordings.{Record}
use Rattle.spp_frame.specs.declared.Fault.{Fault}
use Rattle.spp_frame.specs.Nesting.{IsFirstBad}
use Rattle.spp_maxplus.specs.declared.state.Burdens.{Burdens}
use Rattle.spp_dag.specs.declared.figures.Figures.{Figures}
use Rattle.spp_dag.specs.Figures.{AreFigures}
use Rattle.spp_piece.specs.Account.{Account, account_of, at_start}
use Rattle.spp_piece.specs.Action.{action}
use Rattle.spp_piece.specs.Ends.{figures_of}
use Rattle.spp_piece.proofs.Stacks.{action_summary}
use Rattle.spp_piece.proofs.MachineRuns.{run_told}

-- it comes to the figures, or to the first bad event
pub account_told : (b : Burdens) (rs : List Record) (a : Account) → a ≡ account_of b 0 rs
    → IfOk (figures_of a.events (action a.burdens a.sum (Ok at_start))) (AreFigures rs b) × IfErr (figures_of a.events (action a.burdens a.sum (Ok at_start))) (IsFirstBad rs)
account_told b rs a is =
    let ran = ap (figures_of (length rs)) (action_summary b 0 rs (Ok at_start)) in
    let all = ap (λ (x : Account). figures_of x.events (action x.burdens x.sum (Ok at_start))) is ∙ ran in
    subst (λ r. IfOk r (AreFigures rs b) × IfErr r (IsFirstBad rs)) (sym all) (run_told rs b 0)

pub told_ok : (b : Burdens) (rs : List Record) (a : Account) (f : Figures) → a ≡ account_of b 0 rs
    → Ok f ≡ figures_of a.events (action a.burdens a.sum (Ok at_start)) → AreFigures rs b f
told_ok b rs a f is e = subst (λ r. IfOk r (AreFigures rs b)) (sym e) (account_told b rs a is).0

pub told_err : (b : Burdens) (rs : List Record) (a : Account) (f : Fault) → a ≡ account_of b 0 rs
    → Err f ≡ figures_of a.events (action a.burdens a.sum (Ok at_start)) → IsFirstBad rs f
told_err b rs a f is e = subst (λ r. IfErr r (IsFirstBad rs)) (sym e) (account_told b rs a is).1
