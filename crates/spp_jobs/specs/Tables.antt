-- The value of the job that counts frames on the whole dag.
use Rattle.std.specs.Prelude.{◌≡◌, ℕ, List, [], ◌∷◌, take}
use Rattle.spp_event.specs.declared.records.Event.{Event}
use Rattle.spp_frame.specs.Nesting.{AreEvents}
use Rattle.spp_cut.specs.Parts.{CutOf, events_in}
use Rattle.spp_maxplus.specs.declared.state.Burdens.{Burdens}
use Rattle.spp_dag.specs.declared.choices.Choices.{Choices}
use Rattle.spp_dag.specs.Trace.{IsWellFormed}
use Rattle.spp_dag.specs.Limits.{IsSmall}
use Rattle.spp_stack.specs.Chain.{Stacks}
use Rattle.spp_stack.specs.Parts.{AreEntriesOf}
use Rattle.spp_pass.specs.Shares.{IsShare}
use Rattle.spp_jobs.specs.Choices.{AreChoicesOf}
use Rattle.spp_jobs.specs.Names.{JobOf, IsNamed, tables, parts_from}
use Rattle.spp_jobs.specs.declared.tabled.Tabled.{Tabled}

-- the trace is that of a run: it is well-formed, and these are its events
pub record IsRun (cut : CutOf) : Type 0 where
  pub events : List Event
  pub are_events : AreEvents cut.trace.records events
  pub well_formed : IsWellFormed events
  pub small : IsSmall events

-- the position where part k begins
abbrev pub begin : CutOf → ℕ → ℕ
begin cut k = events_in (take k cut.parts)

-- of the parts from number i up to, not including, k the share in the rows on the whole dag, and the choices
pub record IsTabledOf (j : JobOf) (i k : ℕ) (c : Tabled) : Type 0 where
  pub run : IsRun j.cut
  pub rows : IsShare run.events j.cut.trace.root (begin j.cut i) (begin j.cut k) c.share
  pub choices : AreChoicesOf run.events j.burdens (parts_from j.cut i k) c.choices.items

-- the same for the job of that name
abbrev pub IsTabled : List ℕ → ℕ → ℕ → Tabled → Type 0
IsTabled name i k c = (j : JobOf) × IsNamed tables name j × IsTabledOf j i k c

-- ---- copies of choices

-- each has the same ends and joins
abbrev pub AreSame : List Choices → List Choices → Type 0
AreSame [] [] = Unit {0}
AreSame [] (d ∷ ds) = ⊥
AreSame (c ∷ cs) [] = ⊥
AreSame (c ∷ cs) (d ∷ ds) = (d.ends.items ≡ c.ends.items) × (d.joins.items ≡ c.joins.items) × (d.burdened_joins.items ≡ c.burdened_joins.items) × AreSame cs ds

-- ---- what the job is made of

-- a cut of a run, the stacks where its parts begin, and the burdens
pub record TableTask : Type 0 where
  pub cut : CutOf
  pub stacks : Stacks
  pub burdens : Burdens

-- the stacks are those of the cut
abbrev pub IsTableTask : TableTask → Type 0
IsTableTask t = AreEntriesOf t.cut t.burdens t.stacks
