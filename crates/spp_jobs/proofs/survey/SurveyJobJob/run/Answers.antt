use Rattle.std.proofs.Common.{◌≡◌, ◌∷◌, ◌++◌, [], ◌<◌, length, get_or, refl, ap, ap₂, ◌∙◌, arith}
use Rattle.spp_jobs.specs.Names.{surveys, JobOf}
use Rattle.spp_jobs.proofs.Spelling.{parts_told}
use Rattle.spp_jobs.proofs.Surveys.{survey_one}
use Rattle.spp_jobs.proofs.survey.SurveyJobJob.run.Goals as goal

pub returns : goal.returns
returns c =
    let j : JobOf = record { kind = surveys; cut = c.args.self.now.cut.now; burdens = c.args.self.now.burdens } in
    let p = c.index-parts-number.result in
    let within : c.args.number < length c.args.self.now.cut.now.parts = omega (arith, parts_told j, c.requires) in
    let each : c.push_back.new.self.items ≡ c.in_ok-whole.whole ∷ [] = c.in_ok-push_back.ensures.items ∙ ap₂ (λ xs x. xs ++ x ∷ []) c.in_ok-each.ensures.items c.in_ok-copy.ensures in (
      j,
      record { kind_is = refl; named = refl; cut = c.parts.ensures.cut; few = c.parts.ensures.few },
      survey_one j c.parts.ensures.cut c.args.number p within (c.index-parts-number.is ∙ ap (λ ps. get_or ps c.args.number p) c.parts.ensures.parts)
          (record { each = c.push_back.new.self; whole = c.in_ok-whole.whole }) each c.in_ok-whole.ensures.value,
    )
