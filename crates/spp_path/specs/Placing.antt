-- Where a path goes at the beginnings of parts: the innermost open frame that it enters, and how many entered children
-- were spawned before.
use Rattle.std.specs.Prelude.{◌≡◌, ℕ, suc, ◌≤◌, ◌<◌, Bool, true, false, List, [], ◌∷◌, length, slice_get, slice_index_or, Some}
use Rattle.std.specs.List.{AllByRecursion}
use Rattle.spp_dag.specs.declared.stack.EntryFrame.{EntryFrame}
use Rattle.spp_dag.specs.declared.stack.FrameKind.TheVariants.{Root}
use Rattle.spp_stack.specs.declared.node.Node.{Node}
use Rattle.spp_stack.specs.declared.stacks.Start.{Start}
use Rattle.spp_stack.specs.Chain.{Stacks, IsChain, IsTree}
use Rattle.spp_path.specs.declared.settling.Onward.{Onward}
use Rattle.spp_path.specs.declared.settled.PathStart.{PathStart}
use Rattle.spp_path.specs.declared.placing.Lives.{Lives}
use Rattle.spp_path.specs.Settled.{IsAbove, position}
use Rattle.spp_path.specs.Settling.{lies_beside, runs_on}

-- the last frame is the root's
abbrev pub IsRooted : List EntryFrame → Type 0
IsRooted [] = ⊥
IsRooted (f ∷ []) = f.kind ≡ Root
IsRooted (f ∷ g ∷ fs) = IsRooted (g ∷ fs)

-- above the node `live` and up to the node n are frames that aren't entered
abbrev pub IsOver : (EntryFrame → Bool) → List Node → ℕ → ℕ → Type 0
IsOver enters nodes n live = (outs : List EntryFrame) × IsAbove nodes (Some n) outs live × AllByRecursion (λ f. enters f ≡ false) outs

-- what is known of a node names one below frames that aren't entered
abbrev pub AreKnown : (EntryFrame → Bool) → Lives → Type 0
AreKnown enters s = (n live : ℕ) → slice_get s.known.items n ≡ Some (Some live) → IsOver enters s.nodes.now n live

-- there is a place for each node, and what is known of one names one with a lesser number
pub record AreFalling (s : Lives) : Type 0 where
  pub count : length s.known.items ≡ length s.nodes.now
  pub falls : (n live : ℕ) → slice_get s.known.items n ≡ Some (Some live) → live < n
  pub tree : IsTree s.nodes.now

-- a path that goes on so and lies beside the frame of that node doesn't enter it
abbrev pub PermitsAt : (EntryFrame → Bool) → List Node → Onward → ℕ → Type 0
PermitsAt enters nodes onward n = (node : Node) → slice_get nodes n ≡ Some node → lies_beside onward node.frame ≡ true → enters node.frame ≡ false

-- the same of the node `top` and all nodes below it
abbrev pub Permits : (EntryFrame → Bool) → List Node → Onward → ℕ → Type 0
Permits enters nodes onward top = (n : ℕ) (outs : List EntryFrame) → IsAbove nodes (Some top) outs n → PermitsAt enters nodes onward n

-- where a whole stack lies below, the path doesn't lie beside the frame of that node
abbrev pub Comes : List Node → Onward → ℕ → Type 0
Comes nodes onward n = (f : EntryFrame) (fs : List EntryFrame) → IsChain nodes (Some n) (f ∷ fs) → IsRooted (f ∷ fs) → lies_beside onward f ≡ false

-- ---- all starts

-- whether the path enters a frame is told in the same way wherever the frame is open
abbrev pub Agrees : (EntryFrame → Bool) → Stacks → List Onward → Type 0
Agrees enters s onwards = (k : ℕ) (start : Start) (onward : Onward) → slice_get s.starts k ≡ Some start → slice_get onwards k ≡ Some onward → Permits enters s.nodes onward start.top

-- the path's start where stack k begins, after which the path goes so
pub record IsPathStart (enters : EntryFrame → Bool) (s : Stacks) (spawns : List ℕ) (k : ℕ) (onward : Onward) (p : PathStart) : Type 0 where
  pub over : (start : Start) → slice_get s.starts k ≡ Some start → IsOver enters s.nodes start.top p.live
  pub comes : Comes s.nodes onward p.live
  pub running : p.running ≡ runs_on onward
  pub some : p.before ≤ length spawns
  pub lower : (i : ℕ) → i < p.before → slice_index_or spawns i 0 < position s k
  pub upper : p.before < length spawns → position s k ≤ slice_index_or spawns p.before 0

-- positions don't fall from start to start
abbrev pub AreRisingTo : Stacks → Type 0
AreRisingTo s = (k : ℕ) → suc k < length s.starts → position s k ≤ position s (suc k)
