-- The choices of a run, and those of a range of its positions, as lists.
use Rattle.std.specs.Prelude.{◌≡◌, ℕ, ◌≤◌, ◌<◌, ◌↔◌, true, List, [], ◌∷◌, length, map, Contains}
use Rattle.spp_event.specs.declared.records.Event.{Event}
use Rattle.spp_maxplus.specs.declared.state.Burdens.{Burdens}
use Rattle.spp_maxplus.specs.State.{unburdened}
use Rattle.spp_dag.specs.Trace.{event_at, spawns, partner}
use Rattle.spp_dag.specs.Choices as choices
use Rattle.spp_dag.specs.declared.choices.End.{End}
use Rattle.spp_dag.specs.declared.choices.Choice.{Choice}
use Rattle.spp_dag.specs.declared.choices.Choices.{Choices}

-- each position is above the one before it
abbrev pub AreRising : List ℕ → Type 0
AreRising [] = Unit {0}
AreRising (p ∷ []) = Unit {0}
AreRising (p ∷ q ∷ ps) = (p < q) × AreRising (q ∷ ps)

-- the child spawned there returns there
abbrev pub IsEnd : List Event → End → Type 0
IsEnd es e = (spawns (event_at es e.spawn) ≡ true) × (partner es e.spawn ≡ e.at)

-- some child joins there, and the path through its parent to there comes from the child that is taken, or from none
abbrev pub IsJoin : List Event → Burdens → Choice → Type 0
IsJoin es burdens j = (j.at ≤ length es) × choices.HasChoice es j.at × choices.IsChoice es burdens j.at j.taken

-- all ends, each once and in order
pub record AreEnds (es : List Event) (ends : List End) : Type 0 where
  pub rise : AreRising (map (λ e. e.at) ends)
  pub are : (e : End) → Contains ends e ↔ IsEnd es e

-- all joins, each once and in order
pub record AreJoins (es : List Event) (burdens : Burdens) (joins : List Choice) : Type 0 where
  pub rise : AreRising (map (λ j. j.at) joins)
  pub are : (j : Choice) → Contains joins j ↔ IsJoin es burdens j

-- the choices of both paths: without burdens, and under these
pub record AreChoices (es : List Event) (burdens : Burdens) (c : Choices) : Type 0 where
  pub ends : AreEnds es c.ends.items
  pub joins : AreJoins es unburdened c.joins.items
  pub burdened_joins : AreJoins es burdens c.burdened_joins.items

-- ---- of a range of positions

-- a position from `from` on and below `end`
abbrev pub IsWithin : ℕ → ℕ → ℕ → Type 0
IsWithin from end at = (from ≤ at) × (at < end)

-- all ends at positions of the range, each once and in order
pub record AreEndsIn (es : List Event) (from end : ℕ) (ends : List End) : Type 0 where
  pub rise : AreRising (map (λ e. e.at) ends)
  pub are : (e : End) → Contains ends e ↔ (IsEnd es e × IsWithin from end e.at)

-- all joins at positions of the range, each once and in order
pub record AreJoinsIn (es : List Event) (burdens : Burdens) (from end : ℕ) (joins : List Choice) : Type 0 where
  pub rise : AreRising (map (λ j. j.at) joins)
  pub are : (j : Choice) → Contains joins j ↔ (IsJoin es burdens j × IsWithin from end j.at)

-- the choices of both paths at positions of the range: without burdens, and under these
pub record AreChoicesIn (es : List Event) (burdens : Burdens) (from end : ℕ) (c : Choices) : Type 0 where
  pub ends : AreEndsIn es from end c.ends.items
  pub joins : AreJoinsIn es unburdened from end c.joins.items
  pub burdened_joins : AreJoinsIn es burdens from end c.burdened_joins.items
