-- What is told about mending a run: what more processors bring, where the critical paths have their instructions and their
-- burdens, and what changed runs come to.
use Rattle.std.specs.Prelude.{◌≡◌, ℕ, ◌+◌, ◌-◌, ◌*◌, ◌/◌, ◌<◌, ◌≤◌, ◌^◌, ◌||◌, nat_eq, nat_lt, min, cond, List, [], ◌∷◌, ◌++◌, map, codes, decimal, Option, Some, None}
use Rattle.std.specs.List.{All, AllByRecursion, flat_map}
use Rattle.spp_dag.specs.declared.figures.Figures.{Figures}
use Rattle.spp_maxplus.specs.declared.state.Burdens.{Burdens}
use Rattle.spp_change.specs.declared.change.Change.{Change}
use Rattle.spp_change.specs.declared.change.Change.TheVariants.{Faster, Called, Spawned}
use Rattle.spp_report.specs.declared.line.Cell.{Cell}
use Rattle.spp_report.specs.declared.line.Cell.TheVariants.{Number, Ratio}
use Rattle.spp_report.specs.declared.advised.ListedSite.{ListedSite}
use Rattle.spp_report.specs.declared.advised.ChangedRun.{ChangedRun}
use Rattle.spp_report.specs.declared.advised.Advice.{Advice}
use Rattle.spp_report.specs.Figures.{line, hundredths, ratio_text, figures_text}
use Rattle.spp_report.specs.Plain.{row_line}

abbrev pub told_cell : Cell → List ℕ
told_cell (Number n) = decimal n
told_cell (Ratio h) = ratio_text h

-- ---- processors

-- the most that any scheduler reaches on p processors: the lesser of p and the parallelism
abbrev pub most : ℕ → ℕ → ℕ → Option ℕ
most p work span = hundredths (min work (p * span)) span

-- the least that a greedy scheduler reaches on p processors: the work over work / p + span (1 - 1 / p)
abbrev pub least : ℕ → ℕ → ℕ → Option ℕ
least p work span = hundredths (p * work) (work + (p - 1) * span)

abbrev pub bound_cells : Figures → ℕ → List Cell
bound_cells f p =
    Ratio (most p f.work f.span) ∷ Ratio (least p f.work f.span)
    ∷ Ratio (most p f.work f.burdened) ∷ Ratio (least p f.work f.burdened) ∷ []

-- 2 processors have a line, and others where half as many are less than the parallelism
abbrev pub bound_line : Figures → ℕ → List ℕ
bound_line f p = cond (nat_eq p 2 || nat_lt (p / 2 * f.span) f.work) (row_line (map told_cell (bound_cells f p)) (decimal p)) []

abbrev pub processors : List ℕ
processors = 2 ∷ 4 ∷ 8 ∷ 16 ∷ 32 ∷ 64 ∷ []

abbrev pub bound_columns : List (List ℕ)
bound_columns = codes "most" ∷ codes "least" ∷ codes "burden_most" ∷ codes "burden_least" ∷ []

-- an empty line, a title, the names of the columns, and lines
abbrev pub titled : List ℕ → List ℕ → List ℕ → List ℕ
titled title headings lines = (line [] ++ line title ++ headings) ++ lines

abbrev pub bounds_text : Figures → List ℕ
bounds_text f =
    titled (codes "speed-up on so many processors") (row_line bound_columns (codes "processors")) (flat_map (bound_line f) processors)

-- ---- call sites

-- a part of a whole in per cent
abbrev pub per_cent : ℕ → ℕ → Option ℕ
per_cent part whole = hundredths (100 * part) whole

-- what the burdens of the spawns cost on the burdened path
abbrev pub cost_of : Burdens → ListedSite → ℕ
cost_of burdens s = s.past * burdens.continuation + s.into * burdens.join

abbrev pub listed_cells : Figures → Burdens → ListedSite → List Cell
listed_cells f burdens s =
    Number s.dag.count ∷ Ratio (hundredths s.dag.local s.dag.count) ∷ Ratio (hundredths s.dag.site_work s.dag.site_span)
    ∷ Ratio (per_cent s.path.local f.span) ∷ Ratio (per_cent s.burdened_path.local f.burdened)
    ∷ Number (s.past + s.into) ∷ Number (cost_of burdens s) ∷ Ratio (per_cent (cost_of burdens s) f.burdened) ∷ []

abbrev pub listed_line : Figures → Burdens → ListedSite → List ℕ
listed_line f burdens s = row_line (map told_cell (listed_cells f burdens s)) s.name.now

abbrev pub site_columns : List (List ℕ)
site_columns =
    codes "frames" ∷ codes "grain" ∷ codes "parallelism" ∷ codes "span_pct" ∷ codes "burdened_pct"
    ∷ codes "burdens" ∷ codes "burdens_cost" ∷ codes "burdens_pct" ∷ []

abbrev pub sites_text : Figures → Burdens → List ListedSite → List ℕ
sites_text f burdens sites =
    titled (codes "call sites by what they add to the paths") (row_line site_columns (codes "name")) (flat_map (listed_line f burdens) sites)

-- ---- changed runs

-- what is changed, in words
abbrev pub change_words : Change → List ℕ
change_words (Faster site factor) = decimal factor ++ codes " times faster"
change_words (Called site) = codes "spawns as calls"
change_words (Spawned site) = codes "calls as spawns"

abbrev pub change_text : Change → List ℕ
change_text change = codes ": " ++ change_words change

-- the work of each run is below 2 ^ 92, as that of a run within the limits of a trace is
abbrev pub HaveSmallWork : List ChangedRun → Type 0
HaveSmallWork runs = All (λ r. r.figures.work < 2 ^ 92) runs

-- what is changed
abbrev pub changed_text : ChangedRun → List ℕ
changed_text r = r.name.now ++ change_text r.change.now

-- how much shorter the burdened span is than that of the run as recorded, in per cent; a dash where it is longer
abbrev pub saving : Figures → Figures → Option ℕ
saving recorded f = cond (nat_lt recorded.burdened f.burdened) None (per_cent (recorded.burdened - f.burdened) recorded.burdened)

abbrev pub figure_cells : Figures → Figures → List Cell
figure_cells recorded f =
    Number f.work ∷ Number f.span ∷ Ratio (hundredths f.work f.span)
    ∷ Number f.burdened ∷ Ratio (hundredths f.work f.burdened) ∷ Ratio (saving recorded f) ∷ []

abbrev pub figures_line : Figures → Figures → List ℕ → List ℕ
figures_line recorded f name = row_line (map told_cell (figure_cells recorded f)) name

abbrev pub changed_line : Figures → ChangedRun → List ℕ
changed_line recorded r = figures_line recorded r.figures (changed_text r)

abbrev pub figure_columns : List (List ℕ)
figure_columns = codes "work" ∷ codes "span" ∷ codes "parallelism" ∷ codes "burdened" ∷ codes "burdened_par" ∷ codes "saved_pct" ∷ []

abbrev pub changes_text : Figures → List ChangedRun → List ℕ
changes_text f runs =
    titled (codes "what if") (row_line figure_columns (codes "change")) (figures_line f f (codes "as recorded") ++ flat_map (changed_line f) runs)

-- ---- what to begin with

-- what the site's own strands and the burdens of its spawns come to on the burdened path
abbrev pub burdened_weight : Burdens → ListedSite → ℕ
burdened_weight burdens s = s.burdened_path.local + cost_of burdens s

-- of these sites the first of those that come to most there; none where there is no site
abbrev pub IsHeaviest : Burdens → List ListedSite → Option ListedSite → Type 0
IsHeaviest burdens sites None = sites ≡ []
IsHeaviest burdens sites (Some s) =
    (before after : List ListedSite) × (sites ≡ before ++ s ∷ after)
    × AllByRecursion (λ t. burdened_weight burdens t < burdened_weight burdens s) before
    × AllByRecursion (λ t. burdened_weight burdens t ≤ burdened_weight burdens s) after

-- a line that names a site, says what its share of the burdened span is, and what would shorten it
abbrev pub beginning_line : List ℕ → List ℕ → Option ℕ → List ℕ → List ℕ
beginning_line name what share cure = line (codes "begin with " ++ name ++ what ++ ratio_text share ++ cure)

-- of the site's burdens, where these come to more than its own strands, and else of those
abbrev pub site_beginning : Figures → Burdens → ListedSite → List ℕ
site_beginning f burdens s =
    cond (nat_lt s.burdened_path.local (cost_of burdens s))
    (beginning_line s.name.now (codes ": the burdens of its spawns are ") (per_cent (cost_of burdens s) f.burdened)
    (codes " per cent of the burdened span; larger pieces would bear fewer"))
    (beginning_line s.name.now (codes ": what it runs itself is ") (per_cent s.burdened_path.local f.burdened)
    (codes " per cent of the burdened span; less of it, or parts of it side by side, would shorten it"))

abbrev pub beginning_text : Figures → Burdens → Option ListedSite → List ℕ
beginning_text f burdens None = []
beginning_text f burdens (Some s) = site_beginning f burdens s

-- ---- what saves most

-- of the runs that have a shorter burdened span than the recorded one, the first of the shortest; none where no run has
abbrev pub IsBest : Figures → List ChangedRun → Option ChangedRun → Type 0
IsBest f runs None = AllByRecursion (λ r. f.burdened ≤ r.figures.burdened) runs
IsBest f runs (Some best) =
    (before after : List ChangedRun) × (runs ≡ before ++ best ∷ after) × (best.figures.burdened < f.burdened)
    × AllByRecursion (λ r. best.figures.burdened < r.figures.burdened) before
    × AllByRecursion (λ r. best.figures.burdened ≤ r.figures.burdened) after

abbrev pub reason : Change → List ℕ
reason (Faster site factor) = codes "what it runs itself is on the burdened path"
reason (Called site) = codes "its spawns cost more than they bring"
reason (Spawned site) = codes "it could run beside what follows, if nothing there needs it before the next sync"

abbrev pub saving_text : Figures → Option ChangedRun → List ℕ
saving_text f None = line (codes "no change that was tried makes the burdened span shorter")
saving_text f (Some r) =
    line (codes "most is saved by " ++ changed_text r ++ codes ", burdened span " ++ decimal f.burdened ++ codes " to " ++ decimal r.figures.burdened
    ++ codes ", " ++ ratio_text (saving f r.figures) ++ codes " per cent less, since " ++ reason r.change.now)

-- ---- all of it

abbrev pub IsAdviceText : Advice → List ℕ → Type 0
IsAdviceText a text =
    (heaviest : Option ListedSite) × (best : Option ChangedRun) × IsHeaviest a.burdens a.sites.now heaviest × IsBest a.figures a.runs.now best
    × (text ≡ figures_text a.figures ++ bounds_text a.figures ++ sites_text a.figures a.burdens a.sites.now
    ++ changes_text a.figures a.runs.now ++ line [] ++ beginning_text a.figures a.burdens heaviest ++ saving_text a.figures best)
