-- What is told of a part of a run: its share in the rows on the whole dag, and its choices.
use Rattle.std.specs.Prelude.{◌≡◌, ℕ, List, Option}
use Rattle.spp_event.specs.declared.records.Event.{Event}
use Rattle.spp_maxplus.specs.declared.state.Burdens.{Burdens}
use Rattle.spp_dag.specs.Rows.{AreSpans, everywhere}
use Rattle.spp_dag.specs.Shares.{share}
use Rattle.spp_site.specs.Table.{Sums}
use Rattle.spp_dag.specs.declared.choices.Choices.{Choices}
use Rattle.spp_dag.specs.ChoiceLists.{AreChoicesIn}
use Rattle.spp_site.specs.Profiles.{key_row}

-- each row is the share of the range in that of the dag, where the root frame runs the function `root`
abbrev pub IsShare : List Event → ℕ → ℕ → ℕ → Sums → Type 0
IsShare es root from end t =
    (span : ℕ → ℕ) × AreSpans es span × ((key : Option ℕ) → key_row t key ≡ share es root span everywhere key from end)

-- these rows are those of the range, and these its choices under the burdens
pub record IsPartOf (es : List Event) (burdens : Burdens) (root from end : ℕ) (t : Sums) (c : Choices) : Type 0 where
  pub table : IsShare es root from end t
  pub choices : AreChoicesIn es burdens from end c
