use Rattle.std.proofs.Common.{◌+◌, ◌-◌, ◌/◌, ◌≡◌, ◌∙◌, ap, length, sym, subst}
use Rattle.std.specs.Prelude.{OnOk}
use Rattle.std.proofs.lemmas.Result.{on_ok_weaker}
use Rattle.spp_shell.specs.Advise.{AreFoundFrom}
use Rattle.spp_shell.proofs.Advised.{found_both}
use Rattle.spp_shell.proofs.finding.+halves.Goals as goal

pub find_range-returns-clause-found : goal.find_range-returns-clause-found
find_range-returns-clause-found g t c =
    let trace = c.args.trace.now in
    let burdens = c.args.burdens in
    let changes = c.args.changes.now in
    let from = c.args.from in
    let first = c.find_halves-first_done.new.first in
    let second = c.find_halves-first_done.new.second in
    let at : from + length first ≡ from + (c.args.end - from) / 2 =
    ap (λ n. from + n) (c.find_halves-first_done.ensures.first_length ∙ c.split_at_mut-first.ensures.front_len) in
    let a : AreFoundFrom trace burdens changes from first =
    subst (λ r. OnOk r (AreFoundFrom trace burdens changes from first)) c.in_ok-first_done.was c.find_halves-first_done.ensures.first in
    on_ok_weaker c.find_halves-first_done.result.1
    (λ b. found_both trace burdens changes from first second a (subst (λ m. AreFoundFrom trace burdens changes m second) (sym at) b))
    c.find_halves-first_done.ensures.second
