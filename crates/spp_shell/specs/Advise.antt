-- What `advise` answers: what is told about mending the run whose trace the input is, or the line of fault.
use Rattle.std.specs.Prelude.{◌≡◌, ◌⊎◌, ℕ, ◌+◌, ◌<◌, ◌≤◌, ◌^◌, nat_lt, cond, Bool, true, false, Contains, Option, Some, None, List, [], ◌∷◌, ◌++◌, map, length, get_or, slice_index_or, codes}
use Rattle.std.specs.List.{flat_map, All}
use Rattle.std.specs.Option.{option_map}
use Rattle.std.specs.String.{string_bytes}
use Rattle.spp_event.specs.declared.records.Event.{Event}
use Rattle.spp_event.specs.Recordings.{Recording}
use Rattle.spp_event.specs.Header.{IsTraceOf}
use Rattle.spp_frame.specs.Nesting.{AreEvents, IsWellFormed}
use Rattle.spp_maxplus.specs.declared.state.Burdens.{Burdens}
use Rattle.spp_dag.specs.declared.figures.Figures.{Figures}
use Rattle.spp_dag.specs.declared.row.Row.{Row}
use Rattle.spp_dag.specs.Figures.{AreFigures}
use Rattle.spp_dag.specs.Limits.{IsSmallRow}
use Rattle.spp_site.specs.declared.profile.Profile.{Profile}
use Rattle.spp_site.specs.Profiles.{IsProfileOf}
use Rattle.spp_site.specs.Table.{row_at}
use Rattle.spp_change.specs.declared.change.Change.{Change}
use Rattle.spp_change.specs.declared.change.Change.TheVariants.{Faster, Called, Spawned}
use Rattle.spp_change.specs.Changed.{changed}
use Rattle.spp_advice.specs.declared.counting.SiteCounts.{SiteCounts}
use Rattle.spp_advice.specs.Counts.{ArePathCounts, counts_at}
use Rattle.spp_advice.specs.Ranking.{AreFirst, met_sites, weight_of}
use Rattle.spp_report.specs.declared.advised.ListedSite.{ListedSite}
use Rattle.spp_report.specs.declared.advised.ChangedRun.{ChangedRun}
use Rattle.spp_report.specs.declared.advised.Advice.{Advice}
use Rattle.spp_report.specs.Advice.{IsAdviceText}
use Rattle.spp_report.specs.AdviceCsv.{advice_csv}
use Rattle.spp_report.specs.Figures.{line}
use Rattle.spp_shell.specs.Check.{IsFirstBadLine, TellsHeader}
use Rattle.spp_request.specs.declared.advise_options.AdviseOptions.{AdviseOptions}

-- ---- call sites

-- the name of the call site that is asked for; none where none is
abbrev pub asked_name : AdviseOptions → Option (List ℕ)
asked_name options = option_map string_bytes options.site

-- the number of that call site
abbrev pub IsAskedFor : Recording → Option (List ℕ) → Option ℕ → Type 0
IsAskedFor trace None None = Unit {0}
IsAskedFor trace None (Some site) = ⊥
IsAskedFor trace (Some name) None = ⊥
IsAskedFor trace (Some name) (Some site) = (site < length trace.sites) × (slice_index_or trace.sites site [] ≡ name)

-- the call sites that are told of: the one that is asked for, or else those that weigh most
abbrev pub AreTold : Profile → List SiteCounts → Burdens → ℕ → ℕ → Option ℕ → List ℕ → Type 0
AreTold p counts burdens sites top None told = AreFirst (weight_of p counts burdens) (met_sites p counts sites) top told
AreTold p counts burdens sites top (Some site) told = told ≡ site ∷ []

-- what is told of a call site, or of the root frame
pub record ToldSite : Type 0 where
  pub name : List ℕ
  pub dag : Row
  pub path : Row
  pub burdened_path : Row
  pub past : ℕ
  pub into : ℕ

abbrev pub told_site : ListedSite → ToldSite
told_site s = record { name = s.name.now; dag = s.dag; path = s.path; burdened_path = s.burdened_path; past = s.past; into = s.into }

-- the root frame: nothing spawns it
abbrev pub root_told : Profile → ToldSite
root_told p =
    record { name = codes "(root)"; dag = p.dag.root; path = p.path.root; burdened_path = p.burdened_path.root; past = 0; into = 0 }

-- a call site with its name, its rows, and what the burdened path does at its spawns
abbrev pub site_told : Recording → Profile → List SiteCounts → ℕ → ToldSite
site_told trace p counts site = record {
  name = slice_index_or trace.sites site [];
  dag = row_at p.dag site;
  path = row_at p.path site;
  burdened_path = row_at p.burdened_path site;
  past = (counts_at counts site).past;
  into = (counts_at counts site).into;
}

-- ---- changed runs

-- what is done to the events of a site, one after the other: its strands are faster, its spawns are calls if it has any, and
-- its calls are spawns if it has any
abbrev pub changes_at : ℕ → List SiteCounts → ℕ → List Change
changes_at factor counts site =
    Faster site factor
    ∷ cond (nat_lt 0 (counts_at counts site).spawns) (Called site ∷ []) []
    ++ cond (nat_lt 0 (counts_at counts site).calls) (Spawned site ∷ []) []

abbrev pub site_in : Change → ℕ
site_in (Faster site factor) = site
site_in (Called site) = site
site_in (Spawned site) = site

-- a change, with the name of its site
abbrev pub named_change : Recording → Change → List ℕ × Change
named_change trace change = (slice_index_or trace.sites (site_in change) [], change)

abbrev pub told_change : ChangedRun → List ℕ × Change
told_change r = (r.name.now, r.change.now)

-- each run has the figures of the changed run
abbrev pub HaveFigures : Recording → Burdens → List ChangedRun → Type 0
HaveFigures trace burdens runs = All (λ r. AreFigures (changed r.change.now trace.records) burdens r.figures) runs

-- these are the figures of the changed runs of the changes from number `from` on, and their works are below 2 ^ 92
abbrev pub AreFoundFrom : Recording → Burdens → List Change → ℕ → List Figures → Type 0
AreFoundFrom trace burdens changes from figures = (i : ℕ) (change : Change) (f : Figures) → i < length figures
    → AreFigures (changed (get_or changes (from + i) change) trace.records) burdens (get_or figures i f) × ((get_or figures i f).work < 2 ^ 92)

-- these are those of all changes
abbrev pub AreFound : Recording → Burdens → List Change → List Figures → Type 0
AreFound trace burdens changes figures = (i : ℕ) (change : Change) (f : Figures) → i < length figures
    → AreFigures (changed (get_or changes i change) trace.records) burdens (get_or figures i f) × ((get_or figures i f).work < 2 ^ 92)

-- the run is well-formed, and there is a change from number `from` up to, not including, `end`, one for each of these
pub record CanFind (trace : Recording) (changes : List Change) (from end : ℕ) (figures : List Figures) : Type 0 where
  pub formed : IsWellFormed trace.records
  pub some : from < end
  pub within : end ≤ length changes
  pub each : from + length figures ≡ end

-- ---- all of it

-- this is told about mending the run of a trace
pub record IsAdviceOf (trace : Recording) (burdens : Burdens) (options : AdviseOptions) (a : Advice) : Type 0 where
  pub profile : Profile
  pub is_profile : IsProfileOf trace burdens profile
  pub counts : List SiteCounts
  pub are_counts : (es : List Event) → AreEvents trace.records es → ArePathCounts es burdens counts
  pub asked : Option ℕ
  pub is_asked : IsAskedFor trace (asked_name options) asked
  pub told : List ℕ
  pub are_told : AreTold profile counts burdens (length trace.sites) options.top asked told
  pub figures : a.figures ≡ profile.figures
  pub edges : a.burdens ≡ burdens
  pub sites : map told_site a.sites.now ≡ root_told profile ∷ map (site_told trace profile counts) told
  pub changes : map told_change a.runs.now ≡ map (named_change trace) (flat_map (changes_at options.factor counts) told)
  pub runs : HaveFigures trace burdens a.runs.now

-- that as a text, or as comma-separated values
abbrev pub IsAdvice : Bool → Advice → List ℕ → Type 0
IsAdvice false a text = IsAdviceText a text
IsAdvice true a text = text ≡ advice_csv a

-- the bytes are those of a well-formed trace, and the text tells that
abbrev pub TellsAdvice : Burdens → Bool → AdviseOptions → List ℕ → List ℕ → Type 0
TellsAdvice burdens csv options bytes text =
    (trace : Recording) × IsTraceOf bytes trace × ((a : Advice) × IsAdviceOf trace burdens options a × IsAdvice csv a text)

-- the text for one input
abbrev pub IsAdviseText : Burdens → Bool → AdviseOptions → List (List ℕ) → List ℕ → Type 0
IsAdviseText burdens csv options inputs text = (bytes : List ℕ) × (inputs ≡ bytes ∷ []) × TellsAdvice burdens csv options bytes text

-- ---- the line of fault

-- a call site is asked for, and the trace has none of that name
abbrev pub LacksSite : Recording → Option (List ℕ) → Type 0
LacksSite trace None = ⊥
LacksSite trace (Some name) = Contains trace.sites name → ⊥

abbrev pub no_site_line : List ℕ
no_site_line = line (codes "no such call site")

-- the bytes are those of a trace: that it lacks the call site comes before its bad events
abbrev pub TellsTraceFault : AdviseOptions → List ℕ → List ℕ → Type 0
TellsTraceFault options bytes told = (trace : Recording) × IsTraceOf bytes trace
    × ((LacksSite trace (asked_name options) × (told ≡ no_site_line)) ⊎ ((LacksSite trace (asked_name options) → ⊥) × IsFirstBadLine trace.records told))

-- the line for one input that is refused
abbrev pub IsAdviseLine : AdviseOptions → List (List ℕ) → List ℕ → Type 0
IsAdviseLine options inputs told = (bytes : List ℕ) × (inputs ≡ bytes ∷ []) × (TellsHeader bytes told ⊎ TellsTraceFault options bytes told)

-- the line for these bytes alone
abbrev pub IsOneAdviseLine : AdviseOptions → List ℕ → List ℕ → Type 0
IsOneAdviseLine options bytes told = IsAdviseLine options (bytes ∷ []) told

-- ---- limits

-- the rows of a profile are within the limits of a trace
pub record IsSmallProfile (p : Profile) : Type 0 where
  pub dag_root : IsSmallRow p.dag.root
  pub path_root : IsSmallRow p.path.root
  pub burdened_path_root : IsSmallRow p.burdened_path.root
  pub dag : (site : ℕ) → IsSmallRow (row_at p.dag site)
  pub path : (site : ℕ) → IsSmallRow (row_at p.path site)
  pub burdened_path : (site : ℕ) → IsSmallRow (row_at p.burdened_path site)
