-- The value of the job that counts frames on both paths.
use Rattle.std.specs.Prelude.{◌≡◌, ℕ, List, length}
use Rattle.spp_cut.specs.Parts.{CutOf}
use Rattle.spp_maxplus.specs.declared.state.Burdens.{Burdens}
use Rattle.spp_maxplus.specs.State.{unburdened}
use Rattle.spp_stack.specs.Chain.{Stacks}
use Rattle.spp_stack.specs.Parts.{AreEntriesOf}
use Rattle.spp_path.specs.Parts.{IsPathShare, IsSettledIn}
use Rattle.spp_path.specs.Settled.{PathOf}
use Rattle.spp_jobs.specs.Names.{JobOf, IsNamed, paths}
use Rattle.spp_jobs.specs.Tables.{IsRun, begin}
use Rattle.spp_jobs.specs.declared.pathed.Pathed.{Pathed}

-- of the parts from number i up to, not including, k the share in the rows on the path without burdens, and on the one
-- under the burdens
pub record IsPathedOf (j : JobOf) (i k : ℕ) (c : Pathed) : Type 0 where
  pub run : IsRun j.cut
  pub path : IsPathShare run.events unburdened j.cut.trace.root (begin j.cut i) (begin j.cut k) c.path
  pub burdened : IsPathShare run.events j.burdens j.cut.trace.root (begin j.cut i) (begin j.cut k) c.burdened_path

-- the same for the job of that name
abbrev pub IsPathed : List ℕ → ℕ → ℕ → Pathed → Type 0
IsPathed name i k c = (j : JobOf) × IsNamed paths name j × IsPathedOf j i k c

-- ---- what the job is made of

-- the stacks are those of the cut, and a path was settled over them
pub record IsSettledOver (cut : CutOf) (s : Stacks) (path : PathOf) : Type 0 where
  pub entries : (burdens : Burdens) × AreEntriesOf cut burdens s
  pub stacks : path.stacks ≡ s
  pub count : length path.starts ≡ length s.starts
  pub settled : (burdens : Burdens) × IsSettledIn cut.trace burdens path

-- a cut of a run, the stacks where its parts begin, the burdens, and its two paths
pub record PathTask : Type 0 where
  pub cut : CutOf
  pub stacks : Stacks
  pub burdens : Burdens
  pub path : PathOf
  pub burdened : PathOf

-- the paths were settled over the stacks, the one without burdens and the one under the burdens
pub record IsPathTask (t : PathTask) : Type 0 where
  pub run : IsRun t.cut
  pub over : IsSettledOver t.cut t.stacks t.path
  pub burdened_over : IsSettledOver t.cut t.stacks t.burdened
  pub path : IsSettledIn t.cut.trace unburdened t.path
  pub burdened : IsSettledIn t.cut.trace t.burdens t.burdened
