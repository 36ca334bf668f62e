-- The tables of a run as comma-separated values.
use Rattle.std.specs.Prelude.{ℕ, ◌||◌, nat_eq, cond, List, [], ◌∷◌, ◌++◌, map, length, slice_index_or, codes, decimal}
use Rattle.std.specs.List.{flat_map, list_any, range_with_len}
use Rattle.spp_event.specs.Recordings.{Recording}
use Rattle.spp_dag.specs.declared.row.Row.{Row}
use Rattle.spp_site.specs.declared.profile.Profile.{Profile}
use Rattle.spp_site.specs.Table.{row_at}

abbrev pub comma : ℕ
comma = 44

abbrev pub quote : ℕ
quote = 34

-- the field's quotes doubled
abbrev pub doubled : List ℕ → List ℕ
doubled text = flat_map (λ b. cond (nat_eq b quote) (quote ∷ quote ∷ []) (b ∷ [])) text

-- a field stands in quotes exactly where it has a comma or a quote
abbrev pub field : List ℕ → List ℕ
field text = cond (list_any (λ b. nat_eq b comma || nat_eq b quote) text) (quote ∷ doubled text ++ quote ∷ []) text

-- the fields, parted by commas
abbrev pub parted : List (List ℕ) → List ℕ
parted [] = []
parted (f ∷ []) = field f
parted (f ∷ g ∷ fs) = field f ++ comma ∷ parted (g ∷ fs)

-- a record, ended by a line feed
abbrev pub record_text : List (List ℕ) → List ℕ
record_text fields = parted fields ++ codes "\n"

-- the eight numbers of a row
abbrev pub numbers : Row → List ℕ
numbers r = r.count ∷ r.local ∷ r.site_count ∷ r.site_work ∷ r.site_span ∷ r.caller_count ∷ r.caller_work ∷ r.caller_span ∷ []

-- their digits
abbrev pub cells : Row → List (List ℕ)
cells r = map decimal (numbers r)

-- the names of the eight numbers on the whole dag, on the first greatest path, and on the first greatest burdened path
abbrev pub dag_columns : List (List ℕ)
dag_columns = codes "count" ∷ codes "local" ∷ codes "site_count" ∷ codes "site_work" ∷ codes "site_span"
    ∷ codes "caller_count" ∷ codes "caller_work" ∷ codes "caller_span" ∷ []

abbrev pub path_columns : List (List ℕ)
path_columns = map (λ name. codes "path_" ++ name) dag_columns

abbrev pub burdened_path_columns : List (List ℕ)
burdened_path_columns = map (λ name. codes "burdened_" ++ name) path_columns

-- the names of the columns
abbrev pub columns : List (List ℕ)
columns = codes "name" ∷ dag_columns ++ path_columns ++ burdened_path_columns

-- the record of a name, with its row in each table
abbrev pub named_record : List ℕ → Row → Row → Row → List ℕ
named_record name dag path burdened_path = record_text (name ∷ cells dag ++ cells path ++ cells burdened_path)

-- the record of a site
abbrev pub site_record : Recording → Profile → ℕ → List ℕ
site_record trace p site =
    named_record (slice_index_or trace.sites site []) (row_at p.dag site) (row_at p.path site) (row_at p.burdened_path site)

-- the columns, the root's rows, and the rows of each site in order
abbrev pub csv_text : Recording → Profile → List ℕ
csv_text trace p =
    record_text columns ++ named_record (codes "(root)") p.dag.root p.path.root p.burdened_path.root
    ++ flat_map (site_record trace p) (range_with_len 0 (length trace.sites))
