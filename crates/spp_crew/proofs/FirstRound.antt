-- What the round of surveys tells of a cut trace.
use Rattle.std.proofs.Common.{◌≡◌, map, refl, sym, ap₂, subst, ◌∙◌}
use Rattle.spp_cut.specs.Parts.{CutOf, IsCut, HasFewParts}
use Rattle.spp_maxplus.specs.declared.state.Burdens.{Burdens}
use Rattle.spp_piece.specs.Account.{account_of}
use Rattle.spp_jobs.specs.declared.survey.Survey.{Survey}
use Rattle.spp_jobs.specs.Names.{JobOf, spell, surveys, parts_in}
use Rattle.spp_jobs.specs.Surveys.{IsSurvey}
use Rattle.spp_jobs.proofs.Spelling.{parts_told}
use Rattle.spp_jobs.proofs.Surveys.{survey_all}
use Rattle.spp_jobs.proofs.Accounts.{account_in}

-- the job of a survey
abbrev pub survey_of : CutOf → Burdens → JobOf
survey_of cut burdens = record { kind = surveys; cut = cut; burdens = burdens }

-- the accounts of all parts, and that of all together
pub record IsToldOf (cut : CutOf) (b : Burdens) (c : Survey) : Type 0 where
  pub each : c.each.items ≡ map (account_in b) cut.parts
  pub whole : c.whole ≡ account_of b 0 cut.trace.records

pub surveyed : (cut : CutOf) (b : Burdens) (made : CutOf) (under : Burdens) → IsCut cut → HasFewParts cut → made ≡ cut → under ≡ b → (c : Survey)
    → IsSurvey (spell (survey_of made under)) 0 (parts_in (spell (survey_of made under))) c → IsToldOf cut b c
surveyed cut b made under whole few same also c v =
    let j : JobOf = survey_of made under in
    let told =
    survey_all j refl (subst (λ (x : CutOf). IsCut x) (sym same) whole) (subst (λ (x : CutOf). HasFewParts x) (sym same) few) (parts_in (spell j)) (parts_told j) c v in
    record {
      each = told.0 ∙ ap₂ (λ (x : CutOf) (y : Burdens). map (account_in y) x.parts) same also;
      whole = told.1 ∙ ap₂ (λ (x : CutOf) (y : Burdens). account_of y 0 x.trace.records) same also;
    }
