-- What is told about mending a run, as comma-separated values: a record for each run that figures are told of.
use Rattle.std.specs.Prelude.{ℕ, ◌+◌, List, [], ◌∷◌, ◌++◌, map, replicate, codes, decimal}
use Rattle.std.specs.List.{All, flat_map}
use Rattle.spp_dag.specs.declared.figures.Figures.{Figures}
use Rattle.spp_maxplus.specs.declared.state.Burdens.{Burdens}
use Rattle.spp_report.specs.declared.advised.ListedSite.{ListedSite}
use Rattle.spp_report.specs.declared.advised.ChangedRun.{ChangedRun}
use Rattle.spp_report.specs.declared.advised.Advice.{Advice}
use Rattle.spp_report.specs.Advice.{change_words, cost_of}
use Rattle.spp_report.specs.Csv.{record_text}
use Rattle.spp_report.specs.CsvWriters.{IsPlain}

-- the names of the columns: of what a run is and its figures, and of the numbers of a site
abbrev pub run_columns : List (List ℕ)
run_columns = codes "name" ∷ codes "change" ∷ codes "work" ∷ codes "span" ∷ codes "burdened" ∷ []

abbrev pub listed_columns : List (List ℕ)
listed_columns =
    codes "frames" ∷ codes "local" ∷ codes "site_work" ∷ codes "site_span"
    ∷ codes "path_local" ∷ codes "burdened_path_local" ∷ codes "burdens" ∷ codes "burdens_cost" ∷ []

-- a site, what is changed, and the figures of that run
abbrev pub run_cells : List ℕ → List ℕ → Figures → List (List ℕ)
run_cells name change f = name ∷ change ∷ map decimal (f.work ∷ f.span ∷ f.burdened ∷ [])

-- the eight numbers of a site
abbrev pub listed_numbers : Burdens → ListedSite → List ℕ
listed_numbers burdens s =
    s.dag.count ∷ s.dag.local ∷ s.dag.site_work ∷ s.dag.site_span
    ∷ s.path.local ∷ s.burdened_path.local ∷ (s.past + s.into) ∷ cost_of burdens s ∷ []

-- the record of a site in the run as recorded
abbrev pub listed_record : Figures → Burdens → ListedSite → List ℕ
listed_record f burdens s = record_text (run_cells s.name.now (codes "as recorded") f ++ map decimal (listed_numbers burdens s))

-- that of a changed run, without numbers of its site
abbrev pub changed_record : ChangedRun → List ℕ
changed_record r = record_text (run_cells r.name.now (change_words r.change.now) r.figures ++ replicate 8 [])

-- the columns, the sites and the changed runs, in order
abbrev pub advice_csv : Advice → List ℕ
advice_csv a =
    record_text (run_columns ++ listed_columns)
    ++ flat_map (listed_record a.figures a.burdens) a.sites.now
    ++ flat_map changed_record a.runs.now

-- no name has a byte below 32
abbrev pub HavePlainNames : Advice → Type 0
HavePlainNames a = All (λ s. IsPlain s.name.now) a.sites.now × All (λ r. IsPlain r.name.now) a.runs.now
