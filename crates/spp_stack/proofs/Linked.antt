-- What is marked by following links from node to node.
use Rattle.std.proofs.Common.{◌≡◌, ℕ, zero, suc, ◌+◌, ◌<◌, Bool, true, false, not, cond, ◌||◌, nat_eq, List, [], ◌∷◌, Option, Some, None, refl, sym, ap, ap₂, subst, ◌∙◌, inl, inr, arith}
use Rattle.std.specs.Prelude.{slice_get}
use Rattle.std.proofs.lemmas.Bool.{cases_eq}
use Rattle.spp_dag.specs.declared.stack.EntryFrame.{EntryFrame}
use Rattle.spp_dag.specs.declared.stack.FrameKind.{FrameKind}
use Rattle.spp_dag.specs.declared.stack.FrameKind.TheVariants.{Root, Called, Spawned}
use Rattle.spp_dag.specs.Steps.{has_site, has_func, same_key, site_by}
use Rattle.spp_stack.specs.declared.node.Node.{Node}
use Rattle.spp_site.specs.Marks.{is_marked}
use Rattle.spp_stack.specs.Chain.{IsNodeOf, IsUnder, IsChain, IsLink, IsMarked, enters, opens_site}

-- frames told by their numbers: those that are marked and those below have all numbers that the frames have
module _ (mark : Node → Bool) (link_of : Node → Option ℕ) (key : Node → ℕ) (has : List EntryFrame → ℕ → Bool)
    (law : (node : Node) (f : EntryFrame) (fs : List EntryFrame) → IsNodeOf node f fs → (x : ℕ) → has (f ∷ fs) x ≡ cond (mark node) (nat_eq (key node) x || has fs x) (has fs x)) where
  -- a link goes past frames whose numbers those below have
  pub record Past (nodes : List Node) (l : Option ℕ) (gs : List EntryFrame) : Type 0 where
    pub rest : List EntryFrame
    pub chain : IsChain nodes l rest
    pub same : (x : ℕ) → has gs x ≡ has rest x

  pub past : (nodes : List Node) → ((n : ℕ) (node : Node) → slice_get nodes n ≡ Some node → IsLink mark link_of nodes node.below (link_of node))
      → (o l : Option ℕ) (gs : List EntryFrame) → IsChain nodes o gs → IsLink mark link_of nodes o l → Past nodes l gs
  past nodes links None l [] h e = record { rest = []; chain = subst (λ o. IsChain nodes o []) (sym e) tt; same = λ x. refl }
  past nodes links None l (g ∷ gs) h e = absurd h
  past nodes links (Some b) l [] h e = absurd h
  past nodes links (Some b) l (g ∷ gs) h e = by (mark h.0) refl (past nodes links h.0.below (link_of h.0) gs h.4 (links b h.0 h.1))
    where
      is : h.0 ≡ e.0
      is = let a = h.1 in let b = e.1 in cc

      goes : l ≡ cond (mark h.0) (Some b) (link_of h.0)
      goes = e.2 ∙ sym (ap (λ n. cond (mark n) (Some b) (link_of n)) is)

      by : (m : Bool) → mark h.0 ≡ m → Past nodes (link_of h.0) gs → Past nodes l (g ∷ gs)
      by true q p = record {
        rest = g ∷ gs;
        chain = subst (λ o. IsChain nodes o (g ∷ gs)) (sym (goes ∙ ap (λ m. cond m (Some b) (link_of h.0)) q)) h;
        same = λ x. refl;
      }
      by false q p = record {
        rest = p.rest;
        chain = subst (λ o. IsChain nodes o p.rest) (sym (goes ∙ ap (λ m. cond m (Some b) (link_of h.0)) q)) p.chain;
        same = λ x. law h.0 g gs h.2 x ∙ ap (λ m. cond m (nat_eq (key h.0) x || has gs x) (has gs x)) q ∙ p.same x;
      }

  -- what is marked so far, and where the rest is
  pub record Marking (nodes : List Node) (next : Option ℕ) (old now : List Bool) (fs : List EntryFrame) : Type 0 where
    pub left : List EntryFrame
    pub chain : IsChain nodes next left
    pub same : (x : ℕ) → (is_marked now x || has left x) ≡ (is_marked old x || has fs x)

  pub marking_first : (nodes : List Node) (top : ℕ) (old : List Bool) (fs : List EntryFrame) → IsChain nodes (Some top) fs → Marking nodes (Some top) old old fs
  marking_first nodes top old fs h = record { left = fs; chain = h; same = λ x. refl }

  either : (m a b c : Bool) → ((a || cond m b false) || c) ≡ (a || cond m (b || c) c)
  either true true b c = refl
  either true false b c = refl
  either false true b c = refl
  either false false b c = refl

  pub marking_next : (nodes : List Node) → ((n : ℕ) (node : Node) → slice_get nodes n ≡ Some node → IsLink mark link_of nodes node.below (link_of node))
      → (o : Option ℕ) (n : ℕ) (node : Node) (old now more : List Bool) (fs : List EntryFrame) → o ≡ Some n → slice_get nodes n ≡ Some node
      → ((x : ℕ) → is_marked more x ≡ (is_marked now x || cond (mark node) (nat_eq (key node) x) false))
      → Marking nodes o old now fs → Marking nodes (link_of node) old more fs
  marking_next nodes links o n node old now more fs e get added h = by h.left (subst (λ o. IsChain nodes o h.left) e h.chain) h.same
    where
      by : (gs : List EntryFrame) → IsChain nodes (Some n) gs → ((x : ℕ) → (is_marked now x || has gs x) ≡ (is_marked old x || has fs x)) → Marking nodes (link_of node) old more fs
      by [] c same = absurd c
      by (g ∷ gs) c same =
          let is : c.0 ≡ node = let a = c.1 in cc in
          let p = past nodes links node.below (link_of node) gs (subst (λ (m : Node). IsChain nodes m.below gs) is c.4) (links n node get) in
          record {
            left = p.rest;
            chain = p.chain;
            same = λ x.
                ap₂ (λ a b. a || b) (added x) (sym (p.same x))
                ∙ either (mark node) (is_marked now x) (nat_eq (key node) x) (has gs x)
                ∙ ap (λ b. is_marked now x || b) (sym (law node g gs (subst (λ (m : Node). IsNodeOf m g gs) is c.2) x))
                ∙ same x;
          }

  or_none : (b : Bool) → b ≡ (b || false)
  or_none true = refl
  or_none false = refl

  pub marking_last : (nodes : List Node) (o : Option ℕ) (old now : List Bool) (fs : List EntryFrame) → ((x : ℕ) → has [] x ≡ false) → o ≡ None → Marking nodes o old now fs
      → (x : ℕ) → is_marked now x ≡ (is_marked old x || has fs x)
  marking_last nodes o old now fs none e h = by h.left (subst (λ o. IsChain nodes o h.left) e h.chain) h.same
    where
      by : (gs : List EntryFrame) → IsChain nodes None gs → ((x : ℕ) → (is_marked now x || has gs x) ≡ (is_marked old x || has fs x)) → (x : ℕ) → is_marked now x ≡ (is_marked old x || has fs x)
      by [] c same x = or_none (is_marked now x) ∙ ap (λ b. is_marked now x || b) (sym (none x)) ∙ same x
      by (g ∷ gs) c same x = absurd c

-- ---- sites and functions

-- what frames below have is no less for one more that has it
there : (a b : ℕ) (r : ℕ → Bool) → r a ≡ true → (nat_eq a b || r b) ≡ r b
there a b r h = elim (cases_eq b a) [
  | inl e ↦ let t : r b ≡ true = ap r e ∙ h in ap (λ c. nat_eq a b || c) t ∙ or_true (nat_eq a b) ∙ sym t
  | inr n ↦ ap (λ c. c || r b) (let z : nat_eq a b ≡ false = grind arith in z)
]
  where
    or_true : (b : Bool) → (b || true) ≡ true
    or_true true = refl
    or_true false = refl

not_flip : (b : Bool) → false ≡ not b → b ≡ true
not_flip true e = refl
not_flip false e = absurd (cc)

by_mark : (m : Bool) (a b : ℕ) (r : ℕ → Bool) → m ≡ not (r a) → (nat_eq a b || r b) ≡ cond m (nat_eq a b || r b) (r b)
by_mark true a b r h = refl
by_mark false a b r h = there a b r (not_flip (r a) h)

site_kind : (k : FrameKind) (top : Bool) (site : ℕ) (fs : List EntryFrame) (x : ℕ) → IsMarked k top site fs
    → (same_key (site_by k site) (Some x) || has_site fs x) ≡ cond (enters k top) (nat_eq site x || has_site fs x) (has_site fs x)
site_kind Root top site fs x h = refl
site_kind Called top site fs x h = by_mark top site x (has_site fs) h
site_kind Spawned top site fs x h = by_mark top site x (has_site fs) h

pub site_law : (node : Node) (f : EntryFrame) (fs : List EntryFrame) → IsNodeOf node f fs → (x : ℕ)
    → has_site (f ∷ fs) x ≡ cond (opens_site node) (nat_eq node.frame.site x || has_site fs x) (has_site fs x)
site_law node f fs h x =
    site_kind f.kind f.top_site f.site fs x h.top_site
    ∙ sym (ap (λ (g : EntryFrame). cond (enters g.kind g.top_site) (nat_eq g.site x || has_site fs x) (has_site fs x)) h.frame)

pub func_law : (node : Node) (f : EntryFrame) (fs : List EntryFrame) → IsNodeOf node f fs → (x : ℕ)
    → has_func (f ∷ fs) x ≡ cond node.top_func (nat_eq node.frame.func x || has_func fs x) (has_func fs x)
func_law node f fs h x =
    by_mark node.top_func f.func x (has_func fs) h.top_func
    ∙ sym (ap (λ (g : EntryFrame). cond node.top_func (nat_eq g.func x || has_func fs x) (has_func fs x)) h.frame)

-- the nodes that may be left to visit
abbrev pub count_of : Option ℕ → ℕ
count_of None = 0
count_of (Some n) = n + 1

abbrev pub SitesMarking : List Node → Option ℕ → List Bool → List Bool → List EntryFrame → Type 0
SitesMarking nodes next old now fs = Marking opens_site (λ m. m.site_link) (λ m. m.frame.site) has_site site_law nodes next old now fs

abbrev pub FuncsMarking : List Node → Option ℕ → List Bool → List Bool → List EntryFrame → Type 0
FuncsMarking nodes next old now fs = Marking (λ m. m.top_func) (λ m. m.func_link) (λ m. m.frame.func) has_func func_law nodes next old now fs

pub count_less : (n : ℕ) (l o : Option ℕ) → o ≡ Some n → IsUnder n l → count_of l < count_of o
count_less n None None e h = absurd (cc)
count_less n (Some k) None e h = absurd (cc)
count_less n None (Some m) e h = omega arith
count_less n (Some k) (Some m) e h = let same : m ≡ n = cc in let lt : k < n = h in omega arith

-- no mark is set at first
none_marked : (x : ℕ) → is_marked [] x ≡ false
none_marked zero = refl
none_marked (suc x) = refl

pub first_marks : (bits : List Bool) (b c : Bool) (x : ℕ) → bits ≡ [] → c ≡ (is_marked bits x || b) → c ≡ b
first_marks bits b c x none e = e ∙ ap (λ l. is_marked l x || b) none ∙ ap (λ y. y || b) (none_marked x)
