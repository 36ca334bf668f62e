-- Stacks of open frames that share their frames as nodes.
use Rattle.std.specs.Prelude.{◌≡◌, ℕ, zero, suc, ◌<◌, Bool, false, not, cond, List, [], ◌∷◌, length, slice_get, Option, Some, None}
use Rattle.spp_dag.specs.declared.stack.EntryFrame.{EntryFrame}
use Rattle.spp_dag.specs.declared.stack.FrameKind.{FrameKind}
use Rattle.spp_dag.specs.declared.stack.FrameKind.TheVariants.{Root, Called, Spawned}
use Rattle.spp_dag.specs.Steps.{has_site, has_func}
use Rattle.spp_stack.specs.declared.node.Node.{Node}
use Rattle.spp_stack.specs.declared.stacks.Start.{Start}

-- Whether the mark of a frame of that site tells that no frame below it was entered by the site. The root was entered
-- by none, and nothing is below it.
abbrev pub IsMarked : FrameKind → Bool → ℕ → List EntryFrame → Type 0
IsMarked Root top site fs = fs ≡ []
IsMarked Called top site fs = top ≡ not (has_site fs site)
IsMarked Spawned top site fs = top ≡ not (has_site fs site)

-- the node is that of the frame f over the frames fs
pub record IsNodeOf (node : Node) (f : EntryFrame) (fs : List EntryFrame) : Type 0 where
  pub frame : node.frame ≡ f
  pub depth : node.depth ≡ length fs
  pub top_func : node.top_func ≡ not (has_func fs f.func)
  pub top_site : IsMarked f.kind f.top_site f.site fs

-- a node names none as below it, or one with a lesser number
abbrev pub IsUnder : ℕ → Option ℕ → Type 0
IsUnder n None = Unit {0}
IsUnder n (Some b) = b < n

-- The frames of the node of that number, of the node that it names as below it, and so on: innermost first. Without a
-- number there are none.
abbrev pub IsChain : List Node → Option ℕ → List EntryFrame → Type 0
IsChain nodes None [] = Unit {0}
IsChain nodes None (f ∷ fs) = ⊥
IsChain nodes (Some n) [] = ⊥
IsChain nodes (Some n) (f ∷ fs) =
    (node : Node) × (slice_get nodes n ≡ Some node) × IsNodeOf node f fs × IsUnder n node.below × IsChain nodes node.below fs

-- a node's frame, and the frames from the node below it on
abbrev pub over : Option Node → (Option ℕ → List EntryFrame) → List EntryFrame
over None rest = []
over (Some node) rest = node.frame ∷ rest node.below

-- the same frames as a list, of so many nodes at most
abbrev pub frames_at : List Node → Option ℕ → ℕ → List EntryFrame
frames_at nodes None most = []
frames_at nodes (Some n) zero = []
frames_at nodes (Some n) (suc most) = over (slice_get nodes n) (λ o. frames_at nodes o most)

-- nodes below have lesser numbers, so there are no more than the number says
abbrev pub frames_from : List Node → Option ℕ → List EntryFrame
frames_from nodes None = []
frames_from nodes (Some n) = frames_at nodes (Some n) (suc n)

-- The nodes of all stacks; and for the beginning of each part, and the end, the number of its innermost frame's node,
-- its position and the work of the trace before.
pub record Stacks : Type 0 where
  pub nodes : List Node
  pub starts : List Start

-- Whether the frame is the lowest that was entered by its site. The root was entered by none.
abbrev pub enters : FrameKind → Bool → Bool
enters Root top = false
enters Called top = top
enters Spawned top = top

abbrev pub opens_site : Node → Bool
opens_site node = enters node.frame.kind node.frame.top_site

-- The link of a node over that one, to the nearest node with a mark: to that one where it has the mark, else where its
-- own link goes. There is none over no node.
abbrev pub IsLink : (Node → Bool) → (Node → Option ℕ) → List Node → Option ℕ → Option ℕ → Type 0
IsLink mark link_of nodes None link = link ≡ None
IsLink mark link_of nodes (Some below) link =
    (node : Node) × (slice_get nodes below ≡ Some node) × (link ≡ cond (mark node) (Some below) (link_of node))

-- both links of the node, to nodes with lesser numbers than this
pub record AreLinks (nodes : List Node) (n : ℕ) (node : Node) : Type 0 where
  pub site : IsLink opens_site (λ m. m.site_link) nodes node.below node.site_link
  pub func : IsLink (λ m. m.top_func) (λ m. m.func_link) nodes node.below node.func_link
  pub site_under : IsUnder n node.site_link
  pub func_under : IsUnder n node.func_link

-- nodes below come before those above
abbrev pub IsTree : List Node → Type 0
IsTree nodes = (n : ℕ) (node : Node) → slice_get nodes n ≡ Some node → IsUnder n node.below

-- that node is there, if one is meant, and nodes below come before those above
abbrev pub IsNextNode : List Node → Option ℕ → Type 0
IsNextNode nodes next = IsUnder (length nodes) next × IsTree nodes

-- each node has its links
abbrev pub AreLinked : List Node → Type 0
AreLinked nodes = (n : ℕ) (node : Node) → slice_get nodes n ≡ Some node → AreLinks nodes n node

-- there is a start; the nodes of the starts are there; those below come before those above; links are right
pub record AreSound (s : Stacks) : Type 0 where
  pub some : 0 < length s.starts
  pub tops : (k : ℕ) (start : Start) → slice_get s.starts k ≡ Some start → start.top < length s.nodes
  pub tree : IsTree s.nodes
  pub linked : AreLinked s.nodes

-- start k has that position, these are its frames, the innermost first, and that is the work before it
pub record IsStart (s : Stacks) (k position : ℕ) (frames : List EntryFrame) (before : ℕ) : Type 0 where
  pub start : Start
  pub is : slice_get s.starts k ≡ Some start
  pub at : position ≡ start.at
  pub chain : IsChain s.nodes (Some start.top) frames
  pub work : before ≡ start.work

-- one of the stacks, with its position and the work of the trace before
pub record StackOf : Type 0 where
  pub nodes : List Node
  pub top : ℕ
  pub at : ℕ
  pub work : ℕ

-- these are its frames, the innermost first
abbrev pub HasFrames : StackOf → List EntryFrame → Type 0
HasFrames s frames = IsChain s.nodes (Some s.top) frames

-- its node is there; nodes below come before those above; links are right
pub record IsSoundStack (s : StackOf) : Type 0 where
  pub top : s.top < length s.nodes
  pub tree : IsTree s.nodes
  pub linked : AreLinked s.nodes
