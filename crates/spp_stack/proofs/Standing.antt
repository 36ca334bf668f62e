-- What the steps of the walk do to the stack that stands.
use Rattle.std.proofs.Common.{cond, ◌≡◌, ℕ, ◌+◌, ◌-◌, ◌<◌, ◌≤◌, Bool, not, ◌||◌, nat_eq, List, [], ◌∷◌, ◌++◌, length, get_or, Some, refl, sym, ap, ap₂, subst, ◌∙◌, arith}
use Rattle.std.specs.Prelude.{slice_get}
use Rattle.std.proofs.lemmas.Option.{slice_get_read}
use Rattle.spp_maxplus.specs.declared.state.Burdens.{Burdens}
use Rattle.spp_maxplus.specs.Seg.{peak}
use Rattle.spp_piece.specs.declared.segs.Segs.{Segs}
use Rattle.spp_dag.specs.declared.stack.EntryFrame.{EntryFrame}
use Rattle.spp_dag.specs.declared.stack.FrameKind.{FrameKind}
use Rattle.spp_dag.specs.declared.stack.FrameKind.TheVariants as kind
use Rattle.spp_dag.specs.Steps.{has_site, has_func, same_key, site_by, returned}
use Rattle.spp_piece.specs.declared.pieces.Frame.{Frame}
use Rattle.spp_maxplus.specs.declared.child.ChildKind.{ChildKind}
use Rattle.spp_maxplus.specs.declared.child.ChildKind.TheVariants.{Called, Spawned}
use Rattle.spp_piece.specs.Model.{kind_of}
use Rattle.spp_stack.specs.declared.node.Node.{Node}
use Rattle.spp_stack.specs.declared.stack_builder.StackBuilder.{StackBuilder}
use Rattle.spp_site.specs.Marks.{is_marked, with_mark, without}
use Rattle.spp_stack.specs.Chain.{IsNodeOf, IsUnder, IsChain, IsLink, AreLinks, IsTree, AreLinked, IsMarked, opens_site}
use Rattle.spp_stack.specs.Machine.{Now, moved_by, entered, along_by, push_by, ret_by, worked_by, IsOpen, peaks}
use Rattle.spp_stack.specs.StackBuilder.{HoldsAll, Stands, IsKept, Unmarked, moved}
use Rattle.spp_stack.proofs.Chains.{chain_more, links_more, tree_more, linked_more, under_more, under_either, chain_depth, link}
use Rattle.spp_site.proofs.Marked.{marked_more, marked_less}

-- ---- the innermost frame's state changes

pub moved_stands : (w : StackBuilder) (g : Segs) (x : Now) → Stands w x → Stands (moved g w) (along_by x.frames g x.work)
moved_stands w g x s = by x.frames s.frames
  where
    by : (fs : List EntryFrame) → HoldsAll w fs → Stands (moved g w) (along_by fs g x.work)
    by [] h = absurd h
    by (f ∷ fs) h = record {
      frames = record {
        top = record {
          frame = ap (moved_by g) h.top.frame;
          depth = h.top.depth;
          top_func = h.top.top_func;
          top_site = h.top.top_site;
        };
        under = h.under;
        rest = h.rest;
        links = record { site = h.links.site; func = h.links.func; site_under = h.links.site_under; func_under = h.links.func_under };
        sites = h.sites;
        funcs = h.funcs;
      };
      tree = s.tree;
      linked = s.linked;
      work = s.work;
    }

pub top_peak : (w : StackBuilder) (x : Now) → Stands w x → peak w.top.frame.state + peak w.top.frame.burdened ≤ peaks x.frames
top_peak w x s = by x.frames s.frames
  where
    by : (fs : List EntryFrame) → HoldsAll w fs → peak w.top.frame.state + peak w.top.frame.burdened ≤ peaks fs
    by [] h = absurd h
    by (f ∷ fs) h =
        let e : peak w.top.frame.state + peak w.top.frame.burdened ≡ peak f.state + peak f.burdened = ap (λ (z : EntryFrame). peak z.state + peak z.burdened) h.top.frame in
        omega arith

-- ---- a node is added

pub kept_stands : (w v : StackBuilder) → v.nodes.items ≡ w.nodes.items ++ w.top ∷ [] → v.top ≡ w.top → v.sites ≡ w.sites → v.funcs ≡ w.funcs → v.work ≡ w.work
    → length v.nodes.items ≡ length w.nodes.items + 1 → (x : Now) → Stands w x → Stands v x
kept_stands w v nodes top sites funcs work long x s = record {
  frames = by x.frames s.frames;
  tree = subst (λ l. IsTree l) (sym nodes) (tree_more w.nodes.items w.top s.tree (under x.frames s.frames));
  linked = subst (λ l. AreLinked l) (sym nodes) (linked_more w.nodes.items w.top s.linked (links x.frames s.frames));
  work = work ∙ s.work;
}
  where
    under : (fs : List EntryFrame) → HoldsAll w fs → IsUnder (length w.nodes.items) w.top.below
    under [] h = absurd h
    under (f ∷ fs) h = h.under

    links : (fs : List EntryFrame) → HoldsAll w fs → AreLinks w.nodes.items (length w.nodes.items) w.top
    links [] h = absurd h
    links (f ∷ fs) h = h.links

    by : (fs : List EntryFrame) → HoldsAll w fs → HoldsAll v fs
    by [] h = absurd h
    by (f ∷ fs) h = record {
      top = subst (λ (t : Node). IsNodeOf t f fs) (sym top) h.top;
      under = subst (λ (t : Node). IsUnder (length v.nodes.items) t.below) (sym top) (under_more (length w.nodes.items) (length v.nodes.items) w.top.below (omega arith) h.under);
      rest = subst (λ (t : Node). IsChain v.nodes.items t.below fs) (sym top) (subst (λ l. IsChain l w.top.below fs) (sym nodes) (chain_more w.nodes.items w.top w.top.below fs h.rest));
      links = subst (λ (t : Node). AreLinks v.nodes.items (length v.nodes.items) t) (sym top)
          (subst (λ l. AreLinks l (length v.nodes.items) w.top) (sym nodes) (links_more w.nodes.items w.top (length w.nodes.items) (length v.nodes.items) w.top (omega arith) h.links));
      sites = λ y. ap (λ (m : List Bool). is_marked m y) sites ∙ h.sites y;
      funcs = λ y. ap (λ (m : List Bool). is_marked m y) funcs ∙ h.funcs y;
    }

pub depth_fits : (w : StackBuilder) (x : Now) → IsKept w → Stands w x → w.top.depth + 1 ≤ length w.nodes.items
depth_fits w x kept s = by x.frames s.frames
  where
    by : (fs : List EntryFrame) → HoldsAll w fs → w.top.depth + 1 ≤ length w.nodes.items
    by [] h = absurd h
    by (f ∷ fs) h =
        let n = length w.nodes.items - 1 in
        let short = chain_depth w.nodes.items w.top.below n fs (s.tree n w.top kept.1) h.rest in
        let some = kept.0 in
        let depth = h.top.depth in
        omega arith

-- ---- a frame is opened

marked_kind : (k : ChildKind) (site : ℕ) (fs : List EntryFrame) → IsMarked (kind_of k) (not (has_site fs site)) site fs
marked_kind Called site fs = refl
marked_kind Spawned site fs = refl

key_kind : (k : ChildKind) (site y : ℕ) → same_key (site_by (kind_of k) site) (Some y) ≡ nat_eq site y
key_kind Called site y = refl
key_kind Spawned site y = refl

-- the frame as the walk makes it
abbrev pub made : StackBuilder → Frame → EntryFrame
made w x = record {
  kind = kind_of x.kind;
  at = x.at;
  site = x.site;
  func = x.func;
  before = w.work + x.before;
  state = x.states.plain;
  burdened = x.states.burdened;
  top_site = not (is_marked w.sites x.site);
  top_caller = w.top.top_func;
}

pub record Entered (w v : StackBuilder) (x : Frame) : Type 0 where
  pub nodes : v.nodes ≡ w.nodes
  pub work : v.work ≡ w.work
  pub frame : v.top.frame ≡ made w x
  pub below : ℕ
  pub last : below + 1 ≡ length w.nodes.items
  pub is_below : v.top.below ≡ Some below
  pub depth : v.top.depth ≡ w.top.depth + 1
  pub top_func : v.top.top_func ≡ not (is_marked w.funcs x.func)
  pub site_link : v.top.site_link ≡ cond (opens_site w.top) (Some below) w.top.site_link
  pub func_link : v.top.func_link ≡ cond w.top.top_func (Some below) w.top.func_link
  pub sites : (y : ℕ) → is_marked v.sites y ≡ with_mark x.site (is_marked w.sites) y
  pub funcs : (y : ℕ) → is_marked v.funcs y ≡ with_mark x.func (is_marked w.funcs) y

pub entered_stands : (w v : StackBuilder) (x : Frame) → IsKept w → Entered w v x → (n : Now) → Stands w n → Stands v (push_by n.frames x n.work)
entered_stands w v x kept e n s = by n.frames s.frames
  where
    by : (fs : List EntryFrame) → HoldsAll w fs → Stands v (push_by fs x n.work)
    by [] h = absurd h
    by (f ∷ fs) h =
        let all = f ∷ fs in
        let new = entered x (f ∷ fs) f fs n.work in
        let site : not (is_marked w.sites x.site) ≡ not (has_site (f ∷ fs) x.site) = ap not (h.sites x.site) in
        let caller : w.top.top_func ≡ not (has_func fs f.func) = h.top.top_func in
        let work : w.work + x.before ≡ n.work + x.before = ap (λ k. k + x.before) s.work in
        let frame : v.top.frame ≡ new = e.frame ∙ cc in
        let at : length w.nodes.items - 1 ≡ e.below = omega (arith, e.last) in
        let get : slice_get w.nodes.items e.below ≡ Some w.top = subst (λ k. slice_get w.nodes.items k ≡ Some w.top) at kept.1 in
        let down : e.below < length w.nodes.items = omega (arith, e.last) in
        let chain : IsChain w.nodes.items (Some e.below) (f ∷ fs) = (w.top, get, h.top, s.tree e.below w.top get, h.rest) in
        record {
          frames = record {
            top = record {
              frame = frame;
              depth = let d = e.depth in let z = h.top.depth in omega arith;
              top_func = e.top_func ∙ ap not (h.funcs x.func);
              top_site = subst (λ b. IsMarked (kind_of x.kind) b x.site (f ∷ fs)) refl (marked_kind x.kind x.site (f ∷ fs));
            };
            under = subst (λ o. IsUnder (length v.nodes.items) o) (sym e.is_below) (subst (λ (u : _). e.below < length u) (ap (λ z. z.items) (sym e.nodes)) down);
            rest = subst (λ o. IsChain v.nodes.items o (f ∷ fs)) (sym e.is_below) (subst (λ u. IsChain u (Some e.below) (f ∷ fs)) (ap (λ z. z.items) (sym e.nodes)) chain);
            links = subst (λ u. AreLinks u (length u) v.top) (ap (λ z. z.items) (sym e.nodes)) (record {
              site = subst (λ o. IsLink opens_site (λ m. m.site_link) w.nodes.items o v.top.site_link) (sym e.is_below) (w.top, get, e.site_link);
              func = subst (λ o. IsLink (λ m. m.top_func) (λ m. m.func_link) w.nodes.items o v.top.func_link) (sym e.is_below) (w.top, get, e.func_link);
              site_under = subst (λ o. IsUnder (length w.nodes.items) o) (sym e.site_link) (under_either (opens_site w.top) e.below (length w.nodes.items) w.top.site_link down h.links.site_under);
              func_under = subst (λ o. IsUnder (length w.nodes.items) o) (sym e.func_link) (under_either w.top.top_func e.below (length w.nodes.items) w.top.func_link down h.links.func_under);
            });
            sites = λ y. e.sites y ∙ marked_more x.site (is_marked w.sites) (has_site (f ∷ fs)) h.sites y
                ∙ ap (λ b. b || has_site (f ∷ fs) y) (sym (key_kind x.kind x.site y));
            funcs = λ y. e.funcs y ∙ marked_more x.func (is_marked w.funcs) (has_func (f ∷ fs)) h.funcs y;
          };
          tree = subst (λ u. IsTree u) (ap (λ z. z.items) (sym e.nodes)) s.tree;
          linked = subst (λ u. AreLinked u) (ap (λ z. z.items) (sym e.nodes)) s.linked;
          work = e.work ∙ s.work;
        }

-- ---- a frame returns

-- nothing stands below the root
key_marked : (k : FrameKind) (top : Bool) (site : ℕ) (g : EntryFrame) (fs : List EntryFrame) → IsMarked k top site (g ∷ fs)
    → (top ≡ not (has_site (g ∷ fs) site)) × ((y : ℕ) → same_key (site_by k site) (Some y) ≡ nat_eq site y)
key_marked kind.Root top site g fs h = absurd (cc)
key_marked kind.Called top site g fs h = (h, λ y. refl)
key_marked kind.Spawned top site g fs h = (h, λ y. refl)

pub record Closed (burdens : Burdens) (w u v : StackBuilder) : Type 0 where
  pub cleared : Unmarked w u
  pub nodes : v.nodes ≡ w.nodes
  pub work : v.work ≡ w.work
  pub sites : v.sites ≡ u.sites
  pub funcs : v.funcs ≡ u.funcs
  pub below : ℕ
  pub is_below : w.top.below ≡ Some below
  pub node : Node
  pub got : node ≡ get_or w.nodes.items below node
  pub under : v.top.below ≡ node.below
  pub depth : v.top.depth ≡ node.depth
  pub top_func : v.top.top_func ≡ node.top_func
  pub site_link : v.top.site_link ≡ node.site_link
  pub func_link : v.top.func_link ≡ node.func_link
  pub frame : v.top.frame ≡ returned burdens w.top.frame node.frame

pub closed_stands : (burdens : Burdens) (w u v : StackBuilder) → Closed burdens w u v → (x : Now) → Stands w x → IsOpen (ret_by burdens x.frames x.work).frames
    → Stands v (ret_by burdens x.frames x.work)
closed_stands burdens w u v e x s = by x.frames s.frames
  where
    by : (fs : List EntryFrame) → HoldsAll w fs → IsOpen (ret_by burdens fs x.work).frames → Stands v (ret_by burdens fs x.work)
    by [] h goes = absurd h
    by (f ∷ []) h goes = absurd goes
    by (f ∷ g ∷ fs) h goes =
        let down : e.below < length w.nodes.items = subst (λ o. IsUnder (length w.nodes.items) o) e.is_below h.under in
        let get = slice_get_read w.nodes.items _ e.below e.node refl down e.got in
        let l = link w.nodes.items w.top.below e.below g fs e.node e.is_below get h.rest in
        let links = s.linked e.below e.node get in
        let is : w.top.frame ≡ f = h.top.frame in
        let parent : e.node.frame ≡ g = l.is.frame in
        let items : w.nodes.items ≡ v.nodes.items = ap (λ z. z.items) (sym e.nodes) in
        let marked = key_marked f.kind f.top_site f.site g fs h.top.top_site in
        record {
          frames = record {
            top = record {
              frame = e.frame ∙ ap₂ (returned burdens) is parent;
              depth = e.depth ∙ l.is.depth;
              top_func = e.top_func ∙ l.is.top_func;
              top_site = l.is.top_site;
            };
            under = subst (λ o. IsUnder (length v.nodes.items) o) (sym e.under) (subst (λ u. IsUnder (length u) e.node.below) items (under_more e.below (length w.nodes.items) e.node.below (omega arith) l.under));
            rest = subst (λ o. IsChain v.nodes.items o fs) (sym e.under) (subst (λ u. IsChain u e.node.below fs) items l.rest);
            links = subst (λ u. AreLinks u (length u) v.top) items (record {
              site = subst (λ o. IsLink opens_site (λ m. m.site_link) w.nodes.items o v.top.site_link) (sym e.under) (subst (λ o. IsLink opens_site (λ m. m.site_link) w.nodes.items e.node.below o) (sym e.site_link) links.site);
              func = subst (λ o. IsLink (λ m. m.top_func) (λ m. m.func_link) w.nodes.items o v.top.func_link) (sym e.under) (subst (λ o. IsLink (λ m. m.top_func) (λ m. m.func_link) w.nodes.items e.node.below o) (sym e.func_link) links.func);
              site_under = subst (λ o. IsUnder (length w.nodes.items) o) (sym e.site_link) (under_more e.below (length w.nodes.items) e.node.site_link (omega arith) links.site_under);
              func_under = subst (λ o. IsUnder (length w.nodes.items) o) (sym e.func_link) (under_more e.below (length w.nodes.items) e.node.func_link (omega arith) links.func_under);
            });
            sites = λ y. ap (λ (m : List Bool). is_marked m y) e.sites
                ∙ subst (λ (z : EntryFrame). is_marked u.sites y ≡ without z.top_site z.site (is_marked w.sites) y) is (e.cleared.sites y)
                ∙ marked_less f.top_site f.site (is_marked w.sites) (has_site (g ∷ fs)) marked.0
                (λ z. h.sites z ∙ ap (λ b. b || has_site (g ∷ fs) z) (marked.1 z)) y;
            funcs = λ y. ap (λ (m : List Bool). is_marked m y) e.funcs
                ∙ subst (λ (z : EntryFrame). is_marked u.funcs y ≡ without w.top.top_func z.func (is_marked w.funcs) y) is (e.cleared.funcs y)
                ∙ marked_less w.top.top_func f.func (is_marked w.funcs) (has_func (g ∷ fs)) h.top.top_func
                h.funcs y;
          };
          tree = subst (λ u. IsTree u) items s.tree;
          linked = subst (λ u. AreLinked u) items s.linked;
          work = e.work ∙ s.work;
        }

-- ---- the work of a part is added

pub worked_stands : (w v : StackBuilder) (n : ℕ) → v.nodes ≡ w.nodes → v.top ≡ w.top → v.sites ≡ w.sites → v.funcs ≡ w.funcs → v.work ≡ w.work + n
    → (x : Now) → Stands w x → Stands v (worked_by x.frames n x.work)
worked_stands w v n nodes top sites funcs work x s = by x.frames s.frames
  where
    same : w.nodes.items ≡ v.nodes.items
    same = ap (λ z. z.items) (sym nodes)

    by : (fs : List EntryFrame) → HoldsAll w fs → Stands v (worked_by fs n x.work)
    by [] h = absurd h
    by (f ∷ fs) h = record {
      frames = record {
        top = subst (λ (t : Node). IsNodeOf t f fs) (sym top) h.top;
        under = subst (λ (t : Node). IsUnder (length v.nodes.items) t.below) (sym top) (subst (λ l. IsUnder (length l) w.top.below) same h.under);
        rest = subst (λ (t : Node). IsChain v.nodes.items t.below fs) (sym top) (subst (λ l. IsChain l w.top.below fs) same h.rest);
        links = subst (λ (t : Node). AreLinks v.nodes.items (length v.nodes.items) t) (sym top) (subst (λ l. AreLinks l (length l) w.top) same h.links);
        sites = λ y. ap (λ (m : List Bool). is_marked m y) sites ∙ h.sites y;
        funcs = λ y. ap (λ (m : List Bool). is_marked m y) funcs ∙ h.funcs y;
      };
      tree = subst (λ l. IsTree l) same s.tree;
      linked = subst (λ l. AreLinked l) same s.linked;
      work = work ∙ ap (λ k. k + n) s.work;
    }
