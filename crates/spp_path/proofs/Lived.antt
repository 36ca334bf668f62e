-- How the innermost frame that a path enters is found among nodes, and what is noted of it.
use Rattle.std.proofs.Common.{◌≡◌, ℕ, ◌<◌, Bool, true, false, refl, arith, sym, ◌∙◌, ap, subst, List, [], ◌∷◌, ◌++◌, length, set, get_or, slice_get, ◌⊎◌, inl, inr, Option, Some, None}
use Rattle.std.specs.List.{AllByRecursion}
use Rattle.std.specs.Option.{option_or}
use Rattle.std.proofs.lemmas.Bool.{cases_eq}
use Rattle.std.proofs.lemmas.List.{length-set, get_or-set_same, get_or-set_other}
use Rattle.std.proofs.lemmas.Option.{slice_get_within, slice_get-get_or, get_or_from_slice_get}
use Rattle.spp_dag.specs.declared.stack.EntryFrame.{EntryFrame}
use Rattle.spp_dag.specs.declared.stack.FrameKind.TheVariants.{Root}
use Rattle.spp_stack.specs.declared.node.Node.{Node}
use Rattle.spp_stack.specs.Chain.{IsChain, IsTree}
use Rattle.spp_path.specs.declared.settling.Onward.{Onward}
use Rattle.spp_path.specs.declared.settling.Onward.TheVariants.{Live, Skip, Seek}
use Rattle.spp_path.specs.declared.placing.Lives.{Lives}
use Rattle.spp_path.specs.Settling.{lies_beside, opened_from}
use Rattle.spp_path.specs.Settled.{IsAbove}
use Rattle.spp_path.specs.Placing.{IsRooted, IsOver, AreKnown, AreFalling, PermitsAt, Comes}
use Rattle.spp_path.proofs.Above.{above_append}

-- what is said of each frame of two lists
pub all_both : (P : EntryFrame → Type 0) (xs ys : List EntryFrame) → AllByRecursion P xs → AllByRecursion P ys → AllByRecursion P (xs ++ ys)
all_both P [] ys a b = b
all_both P (x ∷ xs) ys a b = (a.0, all_both P xs ys a.1 b)

-- one node further
pub over_next : (enters : EntryFrame → Bool) (nodes : List Node) (top n m : ℕ) → IsOver enters nodes top n → IsOver enters nodes n m → IsOver enters nodes top m
over_next enters nodes top n m a b = (a.0 ++ b.0, above_append nodes (Some top) a.0 b.0 n m a.1 b.1, all_both (λ f. enters f ≡ false) a.0 b.0 a.2 b.2)

-- to the node below, or to one that is known
pub next_over : (s : Lives) (n : ℕ) (node : Node) (onward : Onward) → slice_get s.nodes.now n ≡ Some node → lies_beside onward node.frame ≡ true
    → (o : Option ℕ) → slice_get s.known.items n ≡ Some o → (m : ℕ) → option_or o node.below ≡ Some m
    → (enters : EntryFrame → Bool) → PermitsAt enters s.nodes.now onward n → AreKnown enters s → IsOver enters s.nodes.now n m
next_over s n node onward is out (Some x) known m e enters permits k = subst (λ y. IsOver enters s.nodes.now n y) (let z : x ≡ m = cc in z) (k n x known)
next_over s n node onward is out None known m e enters permits k = (node.frame ∷ [], (node, is, refl, e), (permits node is out, tt))

-- there is none only where there is none below
pub none_below : (o p : Option ℕ) → option_or o p ≡ None → p ≡ None
none_below (Some x) p e = cc
none_below None p e = e

-- and where there is none, the path doesn't lie beside a stack's frame
root_out : (onward : Onward) (f : EntryFrame) → f.kind ≡ Root → lies_beside onward f ≡ false
root_out Live f e = refl
root_out (Skip s) f e = ap (λ k. opened_from s k f.at) e
root_out (Seek s) f e = ap (λ k. opened_from s k f.at) e

pub next_comes : (nodes : List Node) (n : ℕ) (node : Node) (onward : Onward) → slice_get nodes n ≡ Some node → node.below ≡ None → Comes nodes onward n
next_comes nodes n node onward is none f fs c rooted =
    let same : c.0 ≡ node = (let z : Some c.0 ≡ Some node = sym c.1 ∙ is in cc) in
    by fs (subst (λ o. IsChain nodes o fs) (ap (λ (x : Node). x.below) same ∙ none) c.4) rooted
  where
    by : (gs : List EntryFrame) → IsChain nodes None gs → IsRooted (f ∷ gs) → lies_beside onward f ≡ false
    by [] c r = root_out onward f r
    by (g ∷ gs) c r = absurd c

pub comes_to_it : (nodes : List Node) (n : ℕ) (node : Node) (onward : Onward) → slice_get nodes n ≡ Some node → lies_beside onward node.frame ≡ false → Comes nodes onward n
comes_to_it nodes n node onward is e f fs c rooted =
    let same : c.0 ≡ node = (let z : Some c.0 ≡ Some node = sym c.1 ∙ is in cc) in
    ap (λ g. lies_beside onward g) (sym c.2.frame ∙ ap (λ (x : Node). x.frame) same) ∙ e

-- ---- what is noted

-- before a node is noted
pub over_below : (enters : EntryFrame → Bool) (nodes : List Node) (n live b : ℕ) (node : Node) → slice_get nodes n ≡ Some node → node.below ≡ Some b → live < n → IsOver enters nodes n live → IsOver enters nodes b live
over_below enters nodes n live b node is below l (outs, above, out) = by outs above out
  where
    by : (xs : List EntryFrame) → IsAbove nodes (Some n) xs live → AllByRecursion (λ f. enters f ≡ false) xs → IsOver enters nodes b live
    by [] a o = absurd (let z : Some n ≡ Some live = a in let y : n ≡ live = cc in omega arith)
    by (f ∷ fs) a o =
        let same : a.0 ≡ node = (let z : Some a.0 ≡ Some node = sym a.1 ∙ is in cc) in
        (fs, subst (λ x. IsAbove nodes x fs live) (ap (λ (x : Node). x.below) same ∙ below) a.3, o.1)

-- what is in a list where one place was written
pub set_cases : {X : Type 0} (xs : List X) (n m : ℕ) (v x : X) → slice_get (set xs n v) m ≡ Some x → ((m ≡ n) × (v ≡ x)) ⊎ ((m ≡ n → ⊥) × (slice_get xs m ≡ Some x))
set_cases xs n m v x e =
    let w = slice_get_within (set xs n v) m x e in
    let l = length-set xs n v in
    let at = get_or_from_slice_get (set xs n v) m x x e in
    elim (cases_eq m n) [
      | inl q ↦ inl (q, sym (get_or-set_same xs n v x (omega arith)) ∙ ap (λ k. get_or (set xs n v) k x) (sym q) ∙ at)
      | inr q ↦ inr (q, slice_get-get_or xs m x (omega arith) ∙ ap Some (sym (get_or-set_other xs n m v x q) ∙ at))
    ]

pub falling_noted : (s new : Lives) (n live : ℕ) → new.nodes ≡ s.nodes → new.known.items ≡ set s.known.items n (Some live) → live < n → AreFalling s → AreFalling new
falling_noted s new n live same items l f = record {
  count = ap (λ (xs : List (Option ℕ)). length xs) items ∙ length-set s.known.items n (Some live) ∙ f.count ∙ sym (ap (λ x. length x.now) same);
  falls = λ m v e. elim (set_cases s.known.items n m (Some live) (Some v) (subst (λ (xs : List (Option ℕ)). slice_get xs m ≡ Some (Some v)) items e)) [
    | inl q ↦ (let z : live ≡ v = (let y : Some live ≡ Some v = q.1 in cc) in omega (arith, q.0))
    | inr q ↦ f.falls m v q.1
  ];
  tree = subst (λ x. IsTree x.now) (sym same) f.tree;
}

pub known_noted : (s new : Lives) (n live : ℕ) → new.nodes ≡ s.nodes → new.known.items ≡ set s.known.items n (Some live) → (enters : EntryFrame → Bool) → IsOver enters s.nodes.now n live → AreKnown enters s → AreKnown enters new
known_noted s new n live same items enters over k m v e =
    subst (λ x. IsOver enters x.now m v) (sym same)
    (elim (set_cases s.known.items n m (Some live) (Some v) (subst (λ (xs : List (Option ℕ)). slice_get xs m ≡ Some (Some v)) items e)) [
      | inl q ↦ (
          let z : live ≡ v = (let y : Some live ≡ Some v = q.1 in cc) in
          subst (λ y. IsOver enters s.nodes.now m y) z (subst (λ y. IsOver enters s.nodes.now y live) (sym q.0) over))
      | inr q ↦ k m v q.1
    ])
