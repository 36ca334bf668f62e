-- Nodes above a node, and the flags of their frames.
use Rattle.std.proofs.Common.{◌≡◌, ℕ, zero, suc, ◌≤◌, ◌<◌, Bool, true, false, refl, arith, sym, ◌∙◌, ap, ap₂, subst, List, [], ◌∷◌, ◌++◌, length, slice_get, Option, Some, None, nat_le}
use Rattle.std.proofs.lemmas.Bool.{le-leb, lt-leb}
use Rattle.std.proofs.lemmas.Option.{slice_get_within}
use Rattle.spp_dag.specs.declared.stack.EntryFrame.{EntryFrame}
use Rattle.spp_dag.specs.declared.stack.FrameKind.{FrameKind}
use Rattle.spp_stack.specs.declared.node.Node.{Node}
use Rattle.spp_stack.specs.Chain.{IsUnder, IsChain, IsTree}
use Rattle.spp_path.specs.declared.flags.Flag.{Flag}
use Rattle.spp_path.specs.Flags.{beside, is_called, flags_under, flags_within, flags_of}
use Rattle.spp_path.specs.Settled.{IsAbove, flag_over, flags_down, flags_from}

-- ---- nodes above a node

-- its frames are those below
pub above_chain : (nodes : List Node) (o : Option ℕ) (outs ks : List EntryFrame) (live : ℕ) → IsChain nodes o (outs ++ ks) → IsAbove nodes o outs live → IsChain nodes (Some live) ks
above_chain nodes o [] ks live c a = subst (λ x. IsChain nodes x ks) a c
above_chain nodes None (f ∷ fs) ks live c a = absurd a
above_chain nodes (Some n) (f ∷ fs) ks live c a =
    let same : c.0 ≡ a.0 = (let z : Some c.0 ≡ Some a.0 = sym c.1 ∙ a.1 in cc) in
    above_chain nodes (a.0).below fs ks live (subst (λ (x : Node). IsChain nodes x.below (fs ++ ks)) same c.4) a.3

pub above_append : (nodes : List Node) (o : Option ℕ) (outs more : List EntryFrame) (n live : ℕ) → IsAbove nodes o outs n → IsAbove nodes (Some n) more live → IsAbove nodes o (outs ++ more) live
above_append nodes o [] more n live a b = subst (λ x. IsAbove nodes x more live) (sym a) b
above_append nodes None (f ∷ fs) more n live a b = absurd a
above_append nodes (Some m) (f ∷ fs) more n live a b = (a.0, a.1, a.2, above_append nodes (a.0).below fs more n live a.3 b)

-- nodes below have lesser numbers
pub under_more : (n m : ℕ) (o : Option ℕ) → n ≤ m → IsUnder n o → IsUnder m o
under_more n m None l u = tt
under_more n m (Some b) l u = omega (arith, u)

pub above_under : (nodes : List Node) → IsTree nodes → (m : ℕ) (o : Option ℕ) (outs : List EntryFrame) (live : ℕ) → IsUnder m o → IsAbove nodes o outs live → live < m
above_under nodes tree m o [] live u a = subst (λ x. IsUnder m x) a u
above_under nodes tree m None (f ∷ fs) live u a = absurd a
above_under nodes tree m (Some n) (f ∷ fs) live u a =
    let z = above_under nodes tree n (a.0).below fs live (tree n a.0 a.1) a.3 in
    omega (arith, u)

-- a stack is those above a node, and those from it on
pub record Parted (nodes : List Node) (fs outs : List EntryFrame) (live : ℕ) : Type 0 where
  pub ks : List EntryFrame
  pub are : fs ≡ outs ++ ks
  pub chain : IsChain nodes (Some live) ks

pub parted : (nodes : List Node) (o : Option ℕ) (fs outs : List EntryFrame) (live : ℕ) → IsChain nodes o fs → IsAbove nodes o outs live → Parted nodes fs outs live
parted nodes o fs [] live c a = record { ks = fs; are = refl; chain = subst (λ x. IsChain nodes x fs) a c }
parted nodes None fs (g ∷ gs) live c a = absurd a
parted nodes (Some n) [] (g ∷ gs) live c a = absurd c
parted nodes (Some n) (f ∷ fs) (g ∷ gs) live c a =
    let same : c.0 ≡ a.0 = (let z : Some c.0 ≡ Some a.0 = sym c.1 ∙ a.1 in cc) in
    let head : f ≡ g = sym c.2.frame ∙ ap (λ (x : Node). x.frame) same ∙ a.2 in
    let rest = parted nodes (a.0).below fs gs live (subst (λ (x : Node). IsChain nodes x.below fs) same c.4) a.3 in
    record { ks = rest.ks; are = ap₂ (λ (x : EntryFrame) (xs : List EntryFrame). x ∷ xs) head rest.are; chain = rest.chain }

pub chain_there : (nodes : List Node) (n : ℕ) (fs : List EntryFrame) → IsChain nodes (Some n) fs → n < length nodes
chain_there nodes n [] c = absurd c
chain_there nodes n (f ∷ fs) c = slice_get_within nodes n c.0 c.1

-- ---- flags

-- the flags from a node on, where the path enters its frame and where it doesn't
abbrev by_flag : Bool → Node → (Bool → Option ℕ → List Flag) → Bool → List Flag
by_flag r node F b = elim b [ true ↦ record { entered = true; running = r } ∷ F (is_called node.frame.kind) node.below | false ↦ beside ∷ F r node.below ]

-- the next flag stands on what follows from the node below
over_same : (live n : ℕ) (r : Bool) (node : Node) (F G : Bool → Option ℕ → List Flag) → ((s : Bool) → F s node.below ≡ G s node.below) → flag_over live r n (Some node) F ≡ flag_over live r n (Some node) G
over_same live n r node F G h = by (nat_le n live)
  where
    by : (b : Bool) → by_flag r node F b ≡ by_flag r node G b
    by true = ap (λ (xs : List Flag). record { entered = true; running = r } ∷ xs) (h (is_called node.frame.kind))
    by false = ap (λ (xs : List Flag). beside ∷ xs) (h r)

-- more nodes than there are make no difference
enough : (nodes : List Node) → IsTree nodes → (live m k : ℕ) (r : Bool) (o : Option ℕ) → IsUnder m o → IsUnder k o → flags_down nodes live r o m ≡ flags_down nodes live r o k
enough nodes tree live m k r None a b = refl
enough nodes tree live zero k r (Some n) a b = absurd (omega (arith, a))
enough nodes tree live (suc m) zero r (Some n) a b = absurd (omega (arith, b))
enough nodes tree live (suc m) (suc k) r (Some n) a b =
    by (slice_get nodes n) refl (λ s o under. enough nodes tree live m k s o (under_more n m o (omega (arith, a)) under) (under_more n k o (omega (arith, b)) under))
  where
    by : (x : Option Node) → slice_get nodes n ≡ x → ((s : Bool) (o : Option ℕ) → IsUnder n o → flags_down nodes live s o m ≡ flags_down nodes live s o k)
        → flag_over live r n x (λ s o. flags_down nodes live s o m) ≡ flag_over live r n x (λ s o. flags_down nodes live s o k)
    by None e rest = refl
    by (Some node) e rest = over_same live n r node (λ s o. flags_down nodes live s o m) (λ s o. flags_down nodes live s o k) (λ s. rest s node.below (tree n node e))

-- a flag, and those below it
pub flags_next : (nodes : List Node) → IsTree nodes → (live : ℕ) (r : Bool) (n : ℕ) (node : Node) → slice_get nodes n ≡ Some node
    → flags_from nodes live r (Some n) ≡ flag_over live r n (Some node) (λ s o. flags_from nodes live s o)
flags_next nodes tree live r n node is =
    ap (λ (x : Option Node). flag_over live r n x (λ s o. flags_down nodes live s o n)) is
    ∙ over_same live n r node (λ s o. flags_down nodes live s o n) (λ s o. flags_from nodes live s o) (λ s. below s node.below (tree n node is))
  where
    below : (s : Bool) (o : Option ℕ) → IsUnder n o → flags_down nodes live s o n ≡ flags_from nodes live s o
    below s None u = refl
    below s (Some b) u = enough nodes tree live n (suc b) s (Some b) u (omega arith)

-- the same, where the node lies above `live`, and where it doesn't
pub flags_out : (nodes : List Node) → IsTree nodes → (live : ℕ) (r : Bool) (n : ℕ) (node : Node) → slice_get nodes n ≡ Some node → live < n
    → flags_from nodes live r (Some n) ≡ beside ∷ flags_from nodes live r node.below
flags_out nodes tree live r n node is l =
    flags_next nodes tree live r n node is
    ∙ ap (λ (b : Bool). by_flag r node (λ s o. flags_from nodes live s o) b) (lt-leb n live l)

pub flags_in : (nodes : List Node) → IsTree nodes → (live : ℕ) (r : Bool) (n : ℕ) (node : Node) → slice_get nodes n ≡ Some node → n ≤ live
    → flags_from nodes live r (Some n) ≡ record { entered = true; running = r } ∷ flags_from nodes live (is_called node.frame.kind) node.below
flags_in nodes tree live r n node is l =
    flags_next nodes tree live r n node is
    ∙ ap (λ (b : Bool). by_flag r node (λ s o. flags_from nodes live s o) b) (le-leb n live l)

pub flags_in_by : (nodes : List Node) → IsTree nodes → (live : ℕ) (r : Bool) (n : ℕ) (node : Node) → slice_get nodes n ≡ Some node → n ≤ live → (called : Bool) → called ≡ is_called node.frame.kind
    → flags_from nodes live r (Some n) ≡ record { entered = true; running = r } ∷ flags_from nodes live called node.below
flags_in_by nodes tree live r n node is l called e =
    flags_in nodes tree live r n node is l ∙ ap (λ (s : Bool). record { entered = true; running = r } ∷ flags_from nodes live s node.below) (sym e)

under_is : (k : FrameKind) (fs : List EntryFrame) → flags_under k fs ≡ flags_within (is_called k) fs
under_is k [] = refl
under_is k (f ∷ fs) = refl

-- those from `live` on
flags_from_live : (nodes : List Node) → IsTree nodes → (live : ℕ) (r : Bool) (o : Option ℕ) (ks : List EntryFrame) → IsUnder (suc live) o → IsChain nodes o ks → flags_from nodes live r o ≡ flags_within r ks
flags_from_live nodes tree live r None [] u c = refl
flags_from_live nodes tree live r None (f ∷ fs) u c = absurd c
flags_from_live nodes tree live r (Some n) [] u c = absurd c
flags_from_live nodes tree live r (Some n) (f ∷ fs) u c =
    let node : Node = c.0 in
    let is : node.frame ≡ f = c.2.frame in
    flags_in nodes tree live r n node c.1 (omega (arith, u))
    ∙ ap (λ (xs : List Flag). record { entered = true; running = r } ∷ xs)
    (flags_from_live nodes tree live (is_called node.frame.kind) node.below fs (under_more n (suc live) node.below (omega (arith, u)) c.3) c.4
    ∙ ap (λ (g : EntryFrame). flags_within (is_called g.kind) fs) is
    ∙ sym (under_is f.kind fs))

-- all of a stack's
pub flags_split : (nodes : List Node) → IsTree nodes → (live : ℕ) (r : Bool) (n : ℕ) (outs ks : List EntryFrame) → IsChain nodes (Some n) (outs ++ ks) → IsAbove nodes (Some n) outs live
    → flags_from nodes live r (Some n) ≡ flags_of outs r ks
flags_split nodes tree live r n outs ks c a = by (Some n) outs c a
  where
    by : (o : Option ℕ) (outs : List EntryFrame) → IsChain nodes o (outs ++ ks) → IsAbove nodes o outs live → flags_from nodes live r o ≡ flags_of outs r ks
    by o [] c a = ap (λ x. flags_from nodes live r x) a ∙ flags_from_live nodes tree live r (Some live) ks (let z : live < suc live = omega arith in z) (subst (λ x. IsChain nodes x ks) a c)
    by None (f ∷ fs) c a = absurd a
    by (Some m) (f ∷ fs) c a =
        let same : c.0 ≡ a.0 = (let z : Some c.0 ≡ Some a.0 = sym c.1 ∙ a.1 in cc) in
        let l = above_under nodes tree m (a.0).below fs live (tree m a.0 a.1) a.3 in
        flags_out nodes tree live r m a.0 a.1 l
        ∙ ap (λ (xs : List Flag). beside ∷ xs) (by (a.0).below fs (subst (λ (x : Node). IsChain nodes x.below (fs ++ ks)) same c.4) a.3)
