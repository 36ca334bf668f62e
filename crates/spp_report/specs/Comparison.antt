-- The comparison of two runs by call site.
use Rattle.std.specs.Prelude.{ℕ, List, [], ◌∷◌, ◌++◌, map, filter, length, slice_index_or, codes, decimal, Option, Some, None, is_none}
use Rattle.std.specs.Option.{option_map}
use Rattle.std.specs.Str.{bytes_eq}
use Rattle.std.specs.Map.{lookup}
use Rattle.std.specs.List.{flat_map, range_with_len}
use Rattle.spp_event.specs.Recordings.{Recording}
use Rattle.spp_dag.specs.declared.figures.Figures.{Figures}
use Rattle.spp_dag.specs.declared.row.Row.{Row}
use Rattle.spp_site.specs.declared.profile.Profile.{Profile}
use Rattle.spp_site.specs.Table.{row_at}
use Rattle.spp_report.specs.declared.run.Cells.{Cells}
use Rattle.spp_report.specs.Figures.{line, hundredths, ratio_text}
use Rattle.spp_report.specs.Plain.{row_line}

-- what is compared of a run: its figures, the root's cells, and the cells of each call site under its name, in order
pub record Told : Type 0 where
  pub figures : Figures
  pub root : Cells
  pub sites : List (List ℕ × Cells)

-- the cells of a row on the whole dag and its row on the first greatest path
abbrev pub cells_of : Row → Row → Cells
cells_of dag path = record { count = dag.count; local = dag.local; site_work = dag.site_work; path_local = path.local }

-- the name of a call site, with its cells
abbrev pub site_cells : Recording → Profile → ℕ → List ℕ × Cells
site_cells trace p site = (slice_index_or trace.sites site [], cells_of (row_at p.dag site) (row_at p.path site))

-- what is compared of the run of a trace with this profile
abbrev pub told_of : Recording → Profile → Told
told_of trace p =
    record { figures = p.figures; root = cells_of p.dag.root p.path.root; sites = map (site_cells trace p) (range_with_len 0 (length trace.sites)) }

-- the cells of the call site with that name; none where the run has no such site
abbrev pub cells_under : List ℕ → Told → Option Cells
cells_under name run = lookup (bytes_eq name) run.sites

-- a name, with its cells in the run before and in the run after
pub record ToldRow : Type 0 where
  pub name : List ℕ
  pub before : Option Cells
  pub after : Option Cells

-- the row of a call site of the run before, which the run after may have too
abbrev pub row_before : Told → List ℕ × Cells → ToldRow
row_before after site = record { name = site.0; before = Some site.1; after = cells_under site.0 after }

-- the row of a call site that the run after alone has
abbrev pub row_after : List ℕ × Cells → ToldRow
row_after site = record { name = site.0; before = None; after = Some site.1 }

-- the root's row, that of each call site of the run before, in order, and that of each which the run after alone has
abbrev pub compared : Told → Told → List ToldRow
compared before after =
    record { name = codes "(root)"; before = Some before.root; after = Some after.root }
    ∷ map (row_before after) before.sites
    ++ map row_after (filter (λ site. is_none (cells_under site.0 before)) after.sites)

-- ---- as text

-- a number of a run; a dash where the run doesn't have the call site
abbrev pub cell_text : Option ℕ → List ℕ
cell_text None = codes "-"
cell_text (Some n) = decimal n

-- a number of both runs
abbrev pub pair : (Cells → ℕ) → ToldRow → List (List ℕ)
pair number r = cell_text (option_map number r.before) ∷ cell_text (option_map number r.after) ∷ []

-- the cells of a row: each number of the run before, and of the run after beside it
abbrev pub row_cells : ToldRow → List (List ℕ)
row_cells r = pair (λ c. c.count) r ++ pair (λ c. c.local) r ++ pair (λ c. c.site_work) r ++ pair (λ c. c.path_local) r

abbrev pub compare_columns : List (List ℕ)
compare_columns =
    codes "count_1" ∷ codes "count_2" ∷ codes "local_1" ∷ codes "local_2"
    ∷ codes "work_1" ∷ codes "work_2" ∷ codes "path_1" ∷ codes "path_2" ∷ []

abbrev pub compare_line : ToldRow → List ℕ
compare_line r = row_line (row_cells r) r.name

-- a line with a figure of both runs
abbrev pub both_line : List ℕ → List ℕ → List ℕ → List ℕ
both_line title before after = line (title ++ codes " " ++ before ++ codes " " ++ after)

-- five lines
abbrev pub both_figures : Figures → Figures → List ℕ
both_figures b a =
    both_line (codes "work") (decimal b.work) (decimal a.work)
    ++ both_line (codes "span") (decimal b.span) (decimal a.span)
    ++ both_line (codes "burdened") (decimal b.burdened) (decimal a.burdened)
    ++ both_line (codes "parallelism") (ratio_text (hundredths b.work b.span)) (ratio_text (hundredths a.work a.span))
    ++ both_line (codes "burdened parallelism") (ratio_text (hundredths b.work b.burdened)) (ratio_text (hundredths a.work a.burdened))

-- the figures of both runs, an empty line, the names of the columns, and the rows
abbrev pub compare_text : Told → Told → List ℕ
compare_text before after =
    both_figures before.figures after.figures ++ line [] ++ row_line compare_columns (codes "name") ++ flat_map compare_line (compared before after)
