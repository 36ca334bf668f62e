use Rattle.std.proofs.Common.{◌≡◌, ◌<◌, ◌∷◌, ◌∙◌, IfSome, ℕ, List, length, map, refl, sym, subst, ap}
use Rattle.std.specs.List.{All, flat_map}
use Rattle.std.proofs.lemmas.Result.{IfOk-weaker}
use Rattle.spp_change.specs.declared.change.Change.{Change}
use Rattle.spp_report.specs.declared.advised.Advice.{Advice}
use Rattle.spp_report.specs.declared.advised.ChangedRun.{ChangedRun}
use Rattle.spp_report.specs.declared.advised.ListedSite.{ListedSite}
use Rattle.spp_report.specs.Advice.{HaveSmallWork}
use Rattle.spp_report.specs.CsvWriters.{IsPlain}
use Rattle.spp_shell.specs.Advise.{AreFound, AreTold, HaveFigures, asked_name, changes_at, named_change, root_told, site_in, site_told, told_change, told_site}
use Rattle.spp_shell.proofs.Advised.{asked_within, changes_below, figures_small, profile_light, profile_small, runs_have, runs_plain, sites_plain, told_either}
use Rattle.spp_shell.proofs.advise_task.advice_of.Goals as goal

pub told_sites-requires-clause-light : goal.told_sites-requires-clause-light
told_sites-requires-clause-light g c =
    profile_light c.args.trace.now c.keeps_limits.ensures.limits c.keeps_limits.ensures.events c.args.request.now.burdens
    (record { continuation = c.are_small.ensures.continuation; join = c.are_small.ensures.join }) c.args.profile.now c.requires.profile

pub listed-requires-clause-small : goal.listed-requires-clause-small
listed-requires-clause-small g c =
    profile_small c.args.trace.now c.keeps_limits.ensures.limits c.keeps_limits.ensures.events c.args.request.now.burdens
    (record { continuation = c.are_small.ensures.continuation; join = c.are_small.ensures.join }) c.args.profile.now c.requires.profile

pub told_sites-requires-clause-within : goal.told_sites-requires-clause-within
told_sites-requires-clause-within g c =
    subst (λ n. IfSome c.args.asked (λ site. site < n)) (sym c.sites-count.ensures) (asked_within c.args.trace.now (asked_name c.args.options.now) c.args.asked c.requires.asked)

pub listed-requires-clause-sites : goal.listed-requires-clause-sites
listed-requires-clause-sites g c =
    let n = length c.args.trace.now.sites in
    subst (All (λ site. site < n)) (sym c.as_slice.ensures.value) (subst (λ m. All (λ site. site < m) c.in_ok-told.told.items) c.sites-count.ensures c.in_ok-told.ensures.within)

pub named_runs-requires-clause-sites : goal.named_runs-requires-clause-sites
named_runs-requires-clause-sites g c =
    let n = length c.args.trace.now.sites in
    let factor = c.args.options.now.factor in
    let counts = c.args.counts.now in
    let told = c.in_ok-told.told.items in
    let changes : c.as_slice-4.result.now ≡ flat_map (changes_at factor counts) told =
    c.as_slice-4.ensures.value ∙ c.in_ok-changes.ensures ∙ ap (flat_map (changes_at factor counts)) c.as_slice-2.ensures.value in
    subst (All (λ (change : Change). site_in change < n)) (sym changes)
    (changes_below n factor counts told (subst (λ m. All (λ site. site < m) told) c.sites-count.ensures c.in_ok-told.ensures.within))

pub invariant_of-advice : goal.invariant_of-advice
invariant_of-advice g c = record {
  small = figures_small c.args.trace.now c.keeps_limits.ensures.limits c.keeps_limits.ensures.events c.args.request.now.burdens
      (record { continuation = c.are_small.ensures.continuation; join = c.are_small.ensures.join }) c.args.profile.now c.requires.profile;
}

pub text_of_advice-requires-clause-works : goal.text_of_advice-requires-clause-works
text_of_advice-requires-clause-works g c =
    let trace = c.args.trace.now in
    let burdens = c.args.request.now.burdens in
    let changes = c.as_slice-4.result.now in
    let same : c.as_slice-3.result.now ≡ changes = c.as_slice-3.ensures.value ∙ sym c.as_slice-4.ensures.value in
    let long : length c.as_slice-5.result.now ≡ length changes = ap length c.as_slice-5.ensures.value ∙ c.in_ok-found.ensures.length ∙ ap length same in
    let found : AreFound trace burdens changes c.as_slice-5.result.now =
    subst (AreFound trace burdens changes) (sym c.as_slice-5.ensures.value)
    (subst (λ (cs : List Change). AreFound trace burdens cs c.in_ok-found.found.items) same c.in_ok-found.ensures.figures) in
    subst HaveSmallWork (sym c.as_slice-7.ensures.value)
    (runs_have trace burdens changes c.as_slice-5.result.now c.in_ok-runs.runs.items long found c.in_ok-runs.ensures.changes c.in_ok-runs.ensures.figures).1

pub text_of_advice-requires-clause-names : goal.text_of_advice-requires-clause-names
text_of_advice-requires-clause-names g c =
    let trace = c.args.trace.now in
    let names = c.keeps_limits.ensures.names in (
      subst (All (λ (s : ListedSite). IsPlain s.name.now)) (sym c.as_slice-6.ensures.value)
          (sites_plain trace names c.args.profile.now c.args.counts.now c.as_slice.result.now c.in_ok-sites.sites.items c.in_ok-sites.ensures),
      subst (All (λ (r : ChangedRun). IsPlain r.name.now)) (sym c.as_slice-7.ensures.value)
          (runs_plain trace names c.as_slice-4.result.now c.in_ok-runs.runs.items c.in_ok-runs.ensures.changes),
    )

pub returns : goal.returns
returns g c =
    let trace = c.args.trace.now in
    let burdens = c.args.request.now.burdens in
    let profile = c.args.profile.now in
    let counts = c.args.counts.now in
    let factor = c.args.options.now.factor in
    let top = c.args.options.now.top in
    let told = c.in_ok-told.told.items in
    let sites : map told_site c.as_slice-6.result.now ≡ root_told profile ∷ map (site_told trace profile counts) told =
    ap (map told_site) c.as_slice-6.ensures.value ∙ c.in_ok-sites.ensures ∙ ap (λ (xs : List ℕ). root_told profile ∷ map (site_told trace profile counts) xs) c.as_slice.ensures.value in
    let changes : c.as_slice-4.result.now ≡ flat_map (changes_at factor counts) told =
    c.as_slice-4.ensures.value ∙ c.in_ok-changes.ensures ∙ ap (flat_map (changes_at factor counts)) c.as_slice-2.ensures.value in
    let same : c.as_slice-3.result.now ≡ c.as_slice-4.result.now = c.as_slice-3.ensures.value ∙ sym c.as_slice-4.ensures.value in
    let long : length c.as_slice-5.result.now ≡ length c.as_slice-4.result.now =
    ap length c.as_slice-5.ensures.value ∙ c.in_ok-found.ensures.length ∙ ap length same in
    let found : AreFound trace burdens c.as_slice-4.result.now c.as_slice-5.result.now =
    subst (AreFound trace burdens c.as_slice-4.result.now) (sym c.as_slice-5.ensures.value)
    (subst (λ (cs : List Change). AreFound trace burdens cs c.in_ok-found.found.items) same c.in_ok-found.ensures.figures) in
    let have = runs_have trace burdens c.as_slice-4.result.now c.as_slice-5.result.now c.in_ok-runs.runs.items long found c.in_ok-runs.ensures.changes c.in_ok-runs.ensures.figures in
    let a : Advice = record {
      figures = profile.figures;
      burdens = burdens;
      sites = c.as_slice-6.result;
      runs = c.as_slice-7.result;
      small = figures_small trace c.keeps_limits.ensures.limits c.keeps_limits.ensures.events burdens
          (record { continuation = c.are_small.ensures.continuation; join = c.are_small.ensures.join }) profile c.requires.profile;
    } in
    IfOk-weaker c.text_of_advice.result _ _
    (λ text is. (
      a,
      record {
        profile = profile;
        is_profile = c.requires.profile;
        counts = counts;
        are_counts = c.requires.counts;
        asked = c.args.asked;
        is_asked = c.requires.asked;
        told = told;
        are_told = subst (λ m. AreTold profile counts burdens m top c.args.asked told) c.sites-count.ensures c.in_ok-told.ensures.told;
        figures = refl;
        edges = refl;
        sites = sites;
        changes = ap (map told_change) c.as_slice-7.ensures.value ∙ c.in_ok-runs.ensures.changes ∙ ap (map (named_change trace)) changes;
        runs = subst (HaveFigures trace burdens) (sym c.as_slice-7.ensures.value) have.0;
      },
      is,
    ))
    (told_either c.args.request.now.csv a c.text_of_advice.result (λ text. text.items) (λ e. c.text_of_advice.ensures.text e) (λ e. c.text_of_advice.ensures.table e))
