use Rattle.std.proofs.Common.{Ok, ap, ◌∙◌}
use Rattle.spp_cut.specs.Parts.{records_in}
use Rattle.spp_piece.specs.Action.{action}
use Rattle.spp_piece.proofs.Stacks.{action_summary}
use Rattle.spp_summary.proofs.summary.Summary.summarise.Goals as goal

pub returns-clause-acts : goal.returns-clause-acts
returns-clause-acts c = λ stack.
    let p = c.args.part.now in
    ap (λ s. action c.args.burdens s (Ok stack)) (c.finish.ensures.value ∙ c.in_ok-reading.ensures.value)
    ∙ action_summary c.args.burdens p.first (records_in p) (Ok stack)
