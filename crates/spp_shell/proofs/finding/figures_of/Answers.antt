use Rattle.std.proofs.Common.{◌∙◌, sym, subst}
use Rattle.spp_shell.specs.Advise.{AreFound}
use Rattle.spp_shell.proofs.Advised.{found_all, written_whole}
use Rattle.spp_shell.proofs.finding.figures_of.Goals as goal

pub returns-clause-figures : goal.returns-clause-figures
returns-clause-figures g c =
    let new = c.find_range.new.figures in
    subst (AreFound c.args.trace.now c.args.burdens c.args.changes.now)
    (sym (written_whole new c.in_ok-figures.figures.items c.in_ok-figures.figures.len (c.in_ok-find_range.ensures.length ∙ c.as_mut_slice-lent.ensures.len)))
    (found_all c.args.trace.now c.args.burdens c.args.changes.now new c.in_ok-find_range.ensures.found)
