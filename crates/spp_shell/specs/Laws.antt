-- The law of traces that are migrated.
use Rattle.std.specs.Prelude.{◌↔◌, Bool, List, ℕ}
use Rattle.spp_maxplus.specs.declared.state.Burdens.{Burdens}
use Rattle.spp_report.specs.Comparison.{Told}
use Rattle.spp_shell.specs.Check.{TellsWork, TellsEvent}
use Rattle.spp_shell.specs.Figures.{TellsFigures}
use Rattle.spp_shell.specs.Profiles.{TellsProfile}
use Rattle.spp_shell.specs.Compare.{IsToldOf}
use Rattle.spp_shell.specs.Migrate.{IsMigrated}

-- two inputs get the same answers of the commands over traces: the work, the line of a bad event, the figures, the
-- profile, and what is compared of a run
pub record AnswerAlike (one other : List ℕ) : Type 0 where
  pub work : (text : List ℕ) → TellsWork one text ↔ TellsWork other text
  pub event : (line : List ℕ) → TellsEvent one line ↔ TellsEvent other line
  pub figures : (burdens : Burdens) (text : List ℕ) → TellsFigures burdens one text ↔ TellsFigures burdens other text
  pub profile : (burdens : Burdens) (csv : Bool) (text : List ℕ) → TellsProfile burdens csv one text ↔ TellsProfile burdens csv other text
  pub told : (burdens : Burdens) (run : Told) → IsToldOf burdens one run ↔ IsToldOf burdens other run

-- what is migrated gets the same answers
abbrev pub MigratedAnswersAlike : Type 0
MigratedAnswersAlike = (bytes text : List ℕ) → IsMigrated bytes text → AnswerAlike bytes text
