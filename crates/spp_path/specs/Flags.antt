-- What of the open frames is on the path where a range of positions begins.
use Rattle.std.specs.Prelude.{◌≡◌, ℕ, ◌↔◌, Bool, true, false, List, [], ◌∷◌, length}
use Rattle.spp_event.specs.declared.records.Event.{Event}
use Rattle.spp_maxplus.specs.declared.state.Burdens.{Burdens}
use Rattle.spp_dag.specs.declared.stack.EntryFrame.{EntryFrame}
use Rattle.spp_dag.specs.declared.stack.FrameKind.{FrameKind}
use Rattle.spp_dag.specs.declared.stack.FrameKind.TheVariants.{Root, Called, Spawned}
use Rattle.spp_dag.specs.Dag.{IsPath, On}
use Rattle.spp_dag.specs.Choices.{IsRunning, first_of}
use Rattle.spp_path.specs.declared.flags.Flag.{Flag}

-- of the frame f, which is open before the event at i: whether the path enters it, and whether it runs on there
abbrev pub IsFlag : List Event → Burdens → ℕ → EntryFrame → Flag → Type 0
IsFlag es burdens i f flag = (ps : List ℕ) → IsPath es burdens 0 (length es) ps
    → ((flag.entered ≡ true) ↔ On 0 ps (first_of f.kind f.at)) × ((flag.running ≡ true) ↔ IsRunning es ps (first_of f.kind f.at) i)

-- the same of each of these frames, in their order
abbrev pub AreFlags : List Event → Burdens → ℕ → List EntryFrame → List Flag → Type 0
AreFlags es burdens i [] [] = Unit {0}
AreFlags es burdens i [] (g ∷ gs) = ⊥
AreFlags es burdens i (f ∷ fs) [] = ⊥
AreFlags es burdens i (f ∷ fs) (g ∷ gs) = IsFlag es burdens i f g × AreFlags es burdens i fs gs

-- ---- flags, innermost first

-- of a frame that the path doesn't enter
abbrev pub beside : Flag
beside = record { entered = false; running = false }

abbrev pub is_called : FrameKind → Bool
is_called Root = false
is_called Called = true
is_called Spawned = false

-- of frames that the path enters, below an entered one: each runs on where the one above it was called
abbrev pub flags_under : FrameKind → List EntryFrame → List Flag
flags_under kind [] = []
flags_under kind (f ∷ fs) = record { entered = true; running = is_called kind } ∷ flags_under f.kind fs

-- of frames that the path enters, of which the innermost runs on or doesn't
abbrev pub flags_within : Bool → List EntryFrame → List Flag
flags_within running [] = []
flags_within running (f ∷ fs) = record { entered = true; running = running } ∷ flags_under f.kind fs

-- the same, below frames that it doesn't enter
abbrev pub flags_of : List EntryFrame → Bool → List EntryFrame → List Flag
flags_of [] running ks = flags_within running ks
flags_of (o ∷ os) running ks = beside ∷ flags_of os running ks
