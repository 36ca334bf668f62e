-- The figures and tables of a run as text for a reader.
use Rattle.std.specs.Prelude.{ℕ, ◌-◌, nat_eq, cond, List, [], ◌++◌, length, replicate, slice_index_or, codes}
use Rattle.std.specs.List.{flat_map, range_with_len}
use Rattle.spp_event.specs.Recordings.{Recording}
use Rattle.spp_site.specs.declared.profile.Profile.{Profile}
use Rattle.spp_site.specs.Table.{Sums, row_at}
use Rattle.spp_report.specs.Csv.{cells, dag_columns}
use Rattle.spp_report.specs.Figures.{line, figures_text}

-- how many places a column has at least
abbrev pub width : ℕ
width = 12

-- a text that is shorter than its column has spaces before it
abbrev pub aligned : List ℕ → List ℕ
aligned text = replicate (width - length text) 32 ++ text

-- each cell with one space behind it
abbrev pub spaced : List (List ℕ) → List ℕ
spaced texts = flat_map (λ text. aligned text ++ codes " ") texts

-- a line of a table: eight columns, and then the name
abbrev pub row_line : List (List ℕ) → List ℕ → List ℕ
row_line texts name = line (spaced texts ++ name)

-- the line of a site; one without frames has none
abbrev pub site_line : Recording → Sums → ℕ → List ℕ
site_line trace t site =
    cond (nat_eq (row_at t site).count 0) [] (row_line (cells (row_at t site)) (slice_index_or trace.sites site []))

-- the names of the columns, the root's line, and the lines of the sites in order
abbrev pub table_text : Recording → Sums → List ℕ
table_text trace t =
    row_line dag_columns (codes "name") ++ row_line (cells t.root) (codes "(root)")
    ++ flat_map (site_line trace t) (range_with_len 0 (length trace.sites))

-- an empty line, a title, and a table
abbrev pub titled_table : List ℕ → Recording → Sums → List ℕ
titled_table title trace t = line [] ++ line title ++ table_text trace t

-- the figures, the table of the whole dag, the table of the path, and that of the burdened path
abbrev pub plain_text : Recording → Profile → List ℕ
plain_text trace p =
    figures_text p.figures ++ titled_table (codes "whole dag") trace p.dag ++ titled_table (codes "first greatest path") trace p.path
    ++ titled_table (codes "first greatest burdened path") trace p.burdened_path
