use Rattle.spp_shell.specs.Advise.{IsAdviseLine, IsAdviseText}
use Rattle.spp_shell.specs.Devices.{Giving, giving_of, no_input}
use Rattle.spp_shell.specs.declared.place.Place.TheVariants.{Only}
use Rattle.spp_shell.proofs.Endings.{run_ends}
use Rattle.spp_shell.proofs.Inputs.{answered_by, told_by}
use Rattle.spp_shell.proofs.running.advise.Goals as goal

pub returns : goal.returns
returns g c =
    let input : Giving = giving_of g.S.Source.answered g.S.Source.failed g.S.Source.failures c.args.input.now c.answer_advise-answer.new.source in
    record {
      ends = run_ends _ _ Only _ c.end.result (λ text. text.items) c.answer_advise-answer.result
          (answered_by (λ text. text.items) input no_input tt (IsAdviseText c.args.request.now.burdens c.args.request.now.csv c.args.options.now) c.answer_advise-answer.result c.answer_advise-answer.ensures.text)
          (told_by (λ text. text.items) input no_input tt Only (IsAdviseLine c.args.options.now) c.answer_advise-answer.result c.answer_advise-answer.ensures.refused) c.end.ensures.answered c.end.ensures.refused;
    }
