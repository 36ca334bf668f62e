-- The value of a survey.
use Rattle.std.specs.Prelude.{◌≡◌, ℕ, List, map, flat_map, take}
use Rattle.spp_cut.specs.Parts.{events_in, records_in}
use Rattle.spp_piece.specs.Account.{account_of}
use Rattle.spp_jobs.specs.Names.{JobOf, IsNamed, surveys, parts_from}
use Rattle.spp_jobs.specs.declared.survey.Survey.{Survey}

-- for each of the parts from number i up to, not including, k its summary, and the one of all of them together
pub record IsSurveyOf (j : JobOf) (i k : ℕ) (c : Survey) : Type 0 where
  pub each : c.each.items ≡ map (λ p. account_of j.burdens p.first (records_in p)) (parts_from j.cut i k)
  pub whole : c.whole ≡ account_of j.burdens (events_in (take i j.cut.parts)) (flat_map records_in (parts_from j.cut i k))

-- the same for the job of that name
abbrev pub IsSurvey : List ℕ → ℕ → ℕ → Survey → Type 0
IsSurvey name i k c = (j : JobOf) × IsNamed surveys name j × IsSurveyOf j i k c
