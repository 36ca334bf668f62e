-- The stack while the parts are gone through.
use Rattle.std.specs.Prelude.{◌≡◌, ℕ, ◌-◌, ◌<◌, List, [], ◌∷◌, length, slice_get, Option, Some}
use Rattle.spp_dag.specs.declared.stack.EntryFrame.{EntryFrame}
use Rattle.spp_dag.specs.Steps.{has_site, has_func}
use Rattle.spp_stack.specs.declared.node.Node.{Node}
use Rattle.spp_stack.specs.declared.stack_builder.StackBuilder.{StackBuilder}
use Rattle.spp_site.specs.Marks.{is_marked, without}
use Rattle.spp_stack.specs.Chain.{IsNodeOf, IsUnder, IsChain, AreLinks, IsTree, AreLinked}
use Rattle.spp_stack.specs.Machine.{Now, moved_by}
use Rattle.spp_piece.specs.declared.segs.Segs.{Segs}

-- the innermost frame is f, and fs are below it
pub record Holds (w : StackBuilder) (f : EntryFrame) (fs : List EntryFrame) : Type 0 where
  pub top : IsNodeOf w.top f fs
  pub under : IsUnder (length w.nodes.items) w.top.below
  pub rest : IsChain w.nodes.items w.top.below fs
  pub links : AreLinks w.nodes.items (length w.nodes.items) w.top
  pub sites : (x : ℕ) → is_marked w.sites x ≡ has_site (f ∷ fs) x
  pub funcs : (x : ℕ) → is_marked w.funcs x ≡ has_func (f ∷ fs) x

abbrev pub HoldsAll : StackBuilder → List EntryFrame → Type 0
HoldsAll w [] = ⊥
HoldsAll w (f ∷ fs) = Holds w f fs

pub record Stands (w : StackBuilder) (x : Now) : Type 0 where
  pub frames : HoldsAll w x.frames
  pub tree : IsTree w.nodes.items
  pub linked : AreLinked w.nodes.items
  pub work : w.work ≡ x.work

-- the last node is the innermost frame's
abbrev pub IsKept : StackBuilder → Type 0
IsKept w = (0 < length w.nodes.items) × (slice_get w.nodes.items (length w.nodes.items - 1) ≡ Some w.top)

-- the same with other states of the innermost frame
abbrev pub moved : Segs → StackBuilder → StackBuilder
moved g w = record w { top = record w.top { frame = moved_by g w.top.frame } }

-- all stacks of the one list of nodes are in the other
abbrev pub AreKept : List Node → List Node → Type 0
AreKept nodes more = (o : Option ℕ) (fs : List EntryFrame) → IsChain nodes o fs → IsChain more o fs

-- the site and the function of the innermost frame are no longer marked, where its own marks are set; the rest is the
-- same
pub record Unmarked (w v : StackBuilder) : Type 0 where
  pub nodes : v.nodes ≡ w.nodes
  pub top : v.top ≡ w.top
  pub work : v.work ≡ w.work
  pub sites : (y : ℕ) → is_marked v.sites y ≡ without w.top.frame.top_site w.top.frame.site (is_marked w.sites) y
  pub funcs : (y : ℕ) → is_marked v.funcs y ≡ without w.top.top_func w.top.frame.func (is_marked w.funcs) y
