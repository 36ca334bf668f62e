use Rattle.spp_shell.specs.Inputs.{first_place}
use Rattle.spp_shell.proofs.Endings.{run_ends}
use Rattle.spp_shell.proofs.running.run.Goals as goal

pub returns : goal.returns
returns g c = record {
  ends = run_ends _ _ (first_place c.args.request.now.command) _ c.end.result (λ text. text.items) c.answer-answer.result c.answer-answer.ensures.text c.answer-answer.ensures.refused c.end.ensures.answered c.end.ensures.refused;
}
