-- Chains of nodes stay as nodes are added.
use Rattle.std.proofs.Common.{◌≡◌, ℕ, Bool, true, false, cond, zero, suc, ◌<◌, ◌≤◌, List, [], ◌∷◌, ◌++◌, length, get_or, Option, Some, None, refl, sym, ap, subst, ◌∙◌, inl, inr, arith}
use Rattle.std.specs.Prelude.{slice_get}
use Rattle.std.proofs.lemmas.Option.{slice_get_within, slice_get-get_or}
use Rattle.std.proofs.lemmas.List.{length-append}
use Rattle.std.proofs.lemmas.Bool.{cases_lt}
use Rattle.spp_dag.specs.declared.stack.EntryFrame.{EntryFrame}
use Rattle.spp_stack.specs.declared.node.Node.{Node}
use Rattle.spp_stack.specs.Chain.{IsNodeOf, IsUnder, IsChain, IsLink, AreLinks, IsTree, AreLinked, opens_site}

pub get_more : {X : Type 0} (xs ys : List X) (k : ℕ) (x : X) → slice_get xs k ≡ Some x → slice_get (xs ++ ys) k ≡ Some x
get_more [] ys k x h = let l = slice_get_within [] k x h in absurd (omega arith)
get_more (y ∷ xs) ys zero x h = h
get_more (y ∷ xs) ys (suc k) x h = get_more xs ys k x h

get_seam : {X : Type 0} (xs : List X) (x : X) → slice_get (xs ++ x ∷ []) (length xs) ≡ Some x
get_seam [] x = refl
get_seam (y ∷ xs) x = get_seam xs x

pub get_last : {X : Type 0} (xs : List X) (x : X) (n : ℕ) → n ≡ length xs → slice_get (xs ++ x ∷ []) n ≡ Some x
get_last xs x n e = ap (λ k. slice_get (xs ++ x ∷ []) k) e ∙ get_seam xs x

pub under_more : (m n : ℕ) (o : Option ℕ) → m ≤ n → IsUnder m o → IsUnder n o
under_more m n None l h = tt
under_more m n (Some b) l h = let k : b < m = h in let z : b < n = omega arith in z

pub under_either : (b : Bool) (k n : ℕ) (o : Option ℕ) → k < n → IsUnder n o → IsUnder n (cond b (Some k) o)
under_either true k n o l h = l
under_either false k n o l h = h

pub chain_more : (nodes : List Node) (n : Node) (o : Option ℕ) (fs : List EntryFrame) → IsChain nodes o fs → IsChain (nodes ++ n ∷ []) o fs
chain_more nodes n None [] h = tt
chain_more nodes n None (f ∷ fs) h = absurd h
chain_more nodes n (Some k) [] h = absurd h
chain_more nodes n (Some k) (f ∷ fs) h = (h.0, get_more nodes (n ∷ []) k h.0 h.1, h.2, h.3, chain_more nodes n h.0.below fs h.4)

pub link_more : (mark : Node → Bool) (link_of : Node → Option ℕ) (nodes : List Node) (n : Node) (o l : Option ℕ) → IsLink mark link_of nodes o l → IsLink mark link_of (nodes ++ n ∷ []) o l
link_more mark link_of nodes n None l h = h
link_more mark link_of nodes n (Some b) l h = (h.0, get_more nodes (n ∷ []) b h.0 h.1, h.2)

pub links_more : (nodes : List Node) (n : Node) (j k : ℕ) (node : Node) → j ≤ k → AreLinks nodes j node → AreLinks (nodes ++ n ∷ []) k node
links_more nodes n j k node le h = record {
  site = link_more opens_site (λ m. m.site_link) nodes n node.below node.site_link h.site;
  func = link_more (λ m. m.top_func) (λ m. m.func_link) nodes n node.below node.func_link h.func;
  site_under = under_more j k node.site_link le h.site_under;
  func_under = under_more j k node.func_link le h.func_under;
}

-- what holds of each node and of one more
each_more : (P : ℕ → Node → Type 0) (nodes : List Node) (n : Node) → ((k : ℕ) (node : Node) → slice_get nodes k ≡ Some node → P k node) → P (length nodes) n
    → (k : ℕ) (node : Node) → slice_get (nodes ++ n ∷ []) k ≡ Some node → P k node
each_more P nodes n old new k node h = elim (cases_lt k (length nodes)) [
  | inl l ↦
      let g = slice_get-get_or nodes k node l in
      let m = get_more nodes (n ∷ []) k (get_or nodes k node) g in
      let e : get_or nodes k node ≡ node = cc in
      subst (P k) e (old k (get_or nodes k node) g)
  | inr ge ↦
      let w = slice_get_within (nodes ++ n ∷ []) k node h in
      let at : k ≡ length nodes = omega (arith, length-append nodes (n ∷ [])) in
      let m = get_last nodes n k at in
      let e : n ≡ node = cc in
      subst (P k) e (subst (λ j. P j n) (sym at) new)
]

pub tree_more : (nodes : List Node) (n : Node) → IsTree nodes → IsUnder (length nodes) n.below → IsTree (nodes ++ n ∷ [])
tree_more nodes n tree under = each_more (λ k node. IsUnder k node.below) nodes n tree under

pub linked_more : (nodes : List Node) (n : Node) → AreLinked nodes → AreLinks nodes (length nodes) n → AreLinked (nodes ++ n ∷ [])
linked_more nodes n linked links =
    each_more (λ k node. AreLinks (nodes ++ n ∷ []) k node) nodes n (λ k node g. links_more nodes n k k node (omega arith) (linked k node g))
    (links_more nodes n (length nodes) (length nodes) n (omega arith) links)

-- a chain is no longer than its greatest number
pub chain_depth : (nodes : List Node) (o : Option ℕ) (n : ℕ) (fs : List EntryFrame) → IsUnder n o → IsChain nodes o fs → length fs ≤ n
chain_depth nodes None n [] u h = omega arith
chain_depth nodes None n (f ∷ fs) u h = absurd h
chain_depth nodes (Some k) n [] u h = absurd h
chain_depth nodes (Some k) n (f ∷ fs) u h =
    let l : k < n = u in
    let d = chain_depth nodes h.0.below k fs h.3 h.4 in
    omega arith

-- what a chain of one frame at least begins with
pub record Link (nodes : List Node) (k : ℕ) (f : EntryFrame) (fs : List EntryFrame) (node : Node) : Type 0 where
  pub is : IsNodeOf node f fs
  pub under : IsUnder k node.below
  pub rest : IsChain nodes node.below fs

pub link : (nodes : List Node) (o : Option ℕ) (k : ℕ) (f : EntryFrame) (fs : List EntryFrame) (node : Node) → o ≡ Some k → slice_get nodes k ≡ Some node
    → IsChain nodes o (f ∷ fs) → Link nodes k f fs node
link nodes None k f fs node e g h = absurd h
link nodes (Some j) k f fs node e g h =
    let same : j ≡ k = cc in
    let here : slice_get nodes k ≡ Some h.0 = subst (λ n. slice_get nodes n ≡ Some h.0) same h.1 in
    let is : h.0 ≡ node = cc in
    record {
      is = subst (λ (n : Node). IsNodeOf n f fs) is h.2;
      under = subst (λ (n : Node). IsUnder k n.below) is (subst (λ n. IsUnder n h.0.below) same h.3);
      rest = subst (λ (n : Node). IsChain nodes n.below fs) is h.4;
    }
