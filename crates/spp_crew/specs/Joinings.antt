-- What has come of a run whose blocks are read by threads.
use Rattle.std.specs.Prelude.{◌≡◌, ℕ, ◌+◌, List, [], ◌∷◌, length}
use Rattle.spp_event.specs.Recordings.{Recording}
use Rattle.spp_frame.specs.Answers.{IsFaultOf}
use Rattle.spp_frame.specs.declared.profile_fault.ProfileFault.TheVariants.{Bad}
use Rattle.spp_maxplus.specs.declared.state.Burdens.{Burdens}
use Rattle.spp_crew.specs.Blocks.{IsBlockAt, count_of}
use Rattle.spp_crew.specs.declared.block.Block.{Block}
use Rattle.spp_crew.specs.declared.joining.Joining.{Joining}
use Rattle.spp_crew.specs.declared.block.SoFar.{Ghosts}
use Rattle.spp_crew.specs.declared.posted.Posted.{Posted}
use Rattle.std.specs.declared.sync.Arc.{Arc}
use Rattle.std.specs.Arc.{arc_value}
use Rattle.spp_crew.specs.declared.shown.Shown.{Shown}
use Rattle.spp_crew.specs.declared.shown.Shown.TheVariants.{Good, Bad as BadEvent}

module _ {A P : Type 0} {G : Ghosts A P} where
  -- these blocks have the records of the trace from the one at i up to that at k
  abbrev pub AreBlocks : {Z : Type 0} → Recording → Burdens → ℕ → List (Arc (Posted A P G) Z) → ℕ → Type 0
  AreBlocks trace burdens i [] k = k ≡ i
  AreBlocks trace burdens i (p ∷ ps) k = IsBlockAt trace burdens i (arc_value p).block × AreBlocks trace burdens (i + count_of (arc_value p).block) ps k

  module _ (is_so_far : Recording → Burdens → ℕ → A → Type 0) where
    -- the first k records have come: those that were joined, and those of the blocks behind them
    abbrev pub HasCome : Recording → Burdens → ℕ → Joining A P G → Type 0
    HasCome trace burdens k j = (i : ℕ) × is_so_far trace burdens i j.so_far × AreBlocks trace burdens i j.waiting.items k

    -- of the first k records of a trace that is shown: what they come to, or the first bad event
    abbrev pub IsShown : Recording → Burdens → ℕ → Shown A P G → Type 0
    IsShown trace burdens k (Good joining) = HasCome trace burdens k joining
    IsShown trace burdens k (BadEvent fault) = IsFaultOf trace.records (Bad fault)

  -- how many threads that read blocks are still to be joined
  abbrev pub threads_in : Shown A P G → ℕ
  threads_in (Good joining) = length joining.pool.threads.items
  threads_in (BadEvent fault) = 0

  -- how many blocks wait to be joined
  abbrev pub waiting_in : Shown A P G → ℕ
  waiting_in (Good joining) = length joining.waiting.items
  waiting_in (BadEvent fault) = 0
