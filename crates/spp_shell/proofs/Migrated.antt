-- What is migrated gets the same answers.
use Rattle.std.proofs.Common.{◌≡◌, ◌↔◌, ℕ, Bool, true, false, List, refl, sym, ap, subst, ◌∙◌}
use Rattle.spp_event.proofs.HeaderLaws.{trace_is_one}
use Rattle.spp_event.specs.Recordings.{Recording}
use Rattle.spp_event.specs.Migrating.{compact}
use Rattle.spp_dag.specs.Figures.{AreFigures}
use Rattle.spp_frame.specs.Nesting.{IsWellFormed, work}
use Rattle.spp_maxplus.specs.declared.state.Burdens.{Burdens}
use Rattle.spp_report.specs.Comparison.{Told, told_of}
use Rattle.spp_site.specs.declared.profile.Profile.{Profile}
use Rattle.spp_site.specs.Profiles.{IsProfileOf}
use Rattle.spp_shell.specs.Check.{IsFirstBadLine, work_text, TellsWork, TellsEvent}
use Rattle.spp_shell.specs.Figures.{TellsFigures}
use Rattle.spp_shell.specs.Profiles.{report_text, TellsProfile}
use Rattle.spp_shell.specs.Compare.{IsToldOf}
use Rattle.spp_shell.specs.Migrate.{IsMigrated}
use Rattle.spp_shell.specs.Laws.{MigratedAnswersAlike}

-- reports don't look at the version and the body
same_report : (csv : Bool) (t : Recording) (p : Profile) → report_text csv t p ≡ report_text csv (compact t) p
same_report true t p = refl
same_report false t p = refl

same_told : (t : Recording) (p : Profile) → told_of t p ≡ told_of (compact t) p
same_told t p = refl

module _ (bytes text : List ℕ) (m : IsMigrated bytes text) where
  work_alike : (told : List ℕ) → TellsWork bytes told ↔ TellsWork text told
  work_alike told = (
    (λ x. let e = trace_is_one bytes x.0 m.0 x.1 m.1 in (compact m.0, m.3, subst (λ (u : Recording). IsWellFormed u.records) e x.2, x.3 ∙ ap (λ (u : Recording). work_text (work u.records)) e)),
    (λ y. let e = trace_is_one text y.0 (compact m.0) y.1 m.3 in (m.0, m.1, subst (λ (u : Recording). IsWellFormed u.records) e y.2, y.3 ∙ ap (λ (u : Recording). work_text (work u.records)) e)),
  )

  event_alike : (line : List ℕ) → TellsEvent bytes line ↔ TellsEvent text line
  event_alike line = (
    (λ x. (compact m.0, m.3, subst (λ (u : Recording). IsFirstBadLine u.records line) (trace_is_one bytes x.0 m.0 x.1 m.1) x.2)),
    (λ y. (m.0, m.1, subst (λ (u : Recording). IsFirstBadLine u.records line) (trace_is_one text y.0 (compact m.0) y.1 m.3) y.2)),
  )

  figures_alike : (burdens : Burdens) (told : List ℕ) → TellsFigures burdens bytes told ↔ TellsFigures burdens text told
  figures_alike burdens told = (
    (λ x. (compact m.0, x.1, m.3, subst (λ (u : Recording). AreFigures u.records burdens x.1) (trace_is_one bytes x.0 m.0 x.2 m.1) x.3, x.4)),
    (λ y. (m.0, y.1, m.1, subst (λ (u : Recording). AreFigures u.records burdens y.1) (trace_is_one text y.0 (compact m.0) y.2 m.3) y.3, y.4)),
  )

  profile_alike : (burdens : Burdens) (csv : Bool) (told : List ℕ) → TellsProfile burdens csv bytes told ↔ TellsProfile burdens csv text told
  profile_alike burdens csv told = (
    (λ x. let e = trace_is_one bytes x.0 m.0 x.2 m.1 in (compact m.0, x.1, m.3, subst (λ (u : Recording). IsProfileOf u burdens x.1) e x.3, x.4 ∙ ap (λ (u : Recording). report_text csv u x.1) e ∙ same_report csv m.0 x.1)),
    (λ y. let e = trace_is_one text y.0 (compact m.0) y.2 m.3 in (m.0, y.1, m.1, subst (λ (u : Recording). IsProfileOf u burdens y.1) e y.3, y.4 ∙ ap (λ (u : Recording). report_text csv u y.1) e ∙ sym (same_report csv m.0 y.1))),
  )

  told_alike : (burdens : Burdens) (run : Told) → IsToldOf burdens bytes run ↔ IsToldOf burdens text run
  told_alike burdens run = (
    (λ x. let e = trace_is_one bytes x.0 m.0 x.2 m.1 in (compact m.0, x.1, m.3, subst (λ (u : Recording). IsProfileOf u burdens x.1) e x.3, x.4 ∙ ap (λ (u : Recording). told_of u x.1) e ∙ same_told m.0 x.1)),
    (λ y. let e = trace_is_one text y.0 (compact m.0) y.2 m.3 in (m.0, y.1, m.1, subst (λ (u : Recording). IsProfileOf u burdens y.1) e y.3, y.4 ∙ ap (λ (u : Recording). told_of u y.1) e ∙ sym (same_told m.0 y.1))),
  )

pub migrated_answers_alike : MigratedAnswersAlike
migrated_answers_alike bytes text m = record {
  work = work_alike bytes text m;
  event = event_alike bytes text m;
  figures = figures_alike bytes text m;
  profile = profile_alike bytes text m;
  told = told_alike bytes text m;
}
