-- Which events of a part are on a path, and what the pass that marks them has between two events.
use Rattle.std.specs.Prelude.{◌≡◌, ℕ, ◌+◌, List, ◌∷◌, ◌++◌, length, map, reverse, slice_get, Option, Some}
use Rattle.spp_event.specs.declared.records.Event.{Event}
use Rattle.spp_maxplus.specs.declared.state.Burdens.{Burdens}
use Rattle.spp_dag.specs.declared.stack.EntryFrame.{EntryFrame}
use Rattle.spp_dag.specs.declared.stack.FrameKind.{FrameKind}
use Rattle.spp_dag.specs.Dag.{IsPath, On}
use Rattle.spp_stack.specs.Chain.{StackOf}
use Rattle.spp_path.specs.declared.marking.Marking.{Marking}
use Rattle.spp_path.specs.declared.trail.Trail.{Trail}
use Rattle.spp_path.specs.Flags.{is_called}
use Rattle.spp_path.specs.Trails.{running_trail}
use Rattle.spp_path.specs.Outside.{IsOutside}

-- the byte is 1 where the path passes position i, and 0 where it doesn't
abbrev pub IsMark : List ℕ → ℕ → ℕ → Type 0
IsMark ps i b = (On 0 ps i → b ≡ 1) × ((On 0 ps i → ⊥) → b ≡ 0)

-- each byte is the mark of its event, of those from `first` on
abbrev pub AreMarksOf : List Event → Burdens → ℕ → List ℕ → Type 0
AreMarksOf es burdens first marks = (k b : ℕ) → slice_get marks k ≡ Some b
    → (ps : List ℕ) → IsPath es burdens 0 (length es) ps → IsMark ps (first + k) b

-- Where the path goes; how the open frames were entered that it enters and that were opened in the part, innermost
-- first; and those of the frames that were open before.
pub record Marked : Type 0 where
  pub trail : Trail
  pub kinds : List FrameKind
  pub outside : Option StackOf

abbrev pub marked : Marking → Marked
marked s = record { trail = s.trail; kinds = reverse s.kinds.items; outside = s.outside }

-- how all open frames were entered that the path enters, innermost first
abbrev pub AreKinds : Marked → List FrameKind → Type 0
AreKinds s all = (fs : List EntryFrame) × IsOutside s.outside fs × (all ≡ s.kinds ++ map (λ f. f.kind) fs)

-- the path enters a frame that was just opened
abbrev pub with_kind : FrameKind → Marked → Marked
with_kind kind s = record s { kinds = kind ∷ s.kinds }

abbrev pub with_trail : Trail → Marked → Marked
with_trail trail s = record s { trail = trail }

-- the innermost entered frame has returned
abbrev pub IsBack : Marked → Marked → Type 0
IsBack old new = (kind : FrameKind) (rest : List FrameKind) → AreKinds old (kind ∷ rest)
    → (new.trail ≡ running_trail (is_called kind) old.trail) × AreKinds new rest
