use Rattle.std.proofs.Common.{◌≡◌, ◌∙◌, length, arith}
use Rattle.std.proofs.lemmas.List.{length-set}
use Rattle.spp_shell.proofs.Advised.{found_more}
use Rattle.spp_shell.proofs.finding.find_alone.Goals as goal

pub loop-i-preserved : goal.loop-i-preserved
loop-i-preserved c =
    let f = c.loop-i.figures in
    let i = c.loop-i.i in
    let long : length f ≡ length c.args.figures.now = c.loop-i.invariant.0 in (
      length-set f i _ ∙ long,
      found_more c.args.trace.now c.args.burdens c.args.changes.now c.args.from f i c.index-changes-from.result c.in_ok-figures.field-0
          (omega (arith, c.requires.within, c.requires.each, c.loop-i-test.true)) (omega (arith, long, c.requires.each, c.loop-i-test.true)) c.loop-i.invariant.1 c.index-changes-from.is c.in_ok-figures.ensures.figures c.in_ok-figures.ensures.small,
    )

pub returns-clause-found : goal.returns-clause-found
returns-clause-found c i change f lt = c.loop-i.invariant.1 i change f (omega (arith, lt, c.loop-i.invariant.0, c.requires.each, c.loop-i-test.false))
