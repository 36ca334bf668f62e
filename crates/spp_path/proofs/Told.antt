-- What a settled path tells is right.
use Rattle.std.proofs.Common.{◌≡◌, ℕ, ◌≤◌, Bool, true, false, refl, arith, sym, ◌∙◌, ap, ap₂, subst, List, [], ◌∷◌, ◌++◌, length, Option, Some, None}
use Rattle.std.specs.List.{AllByRecursion}
use Rattle.std.proofs.lemmas.Bool.{both_ways, false_from_ne_true, lt-leb, leb-false}
use Rattle.spp_event.specs.declared.records.Event.{Event}
use Rattle.spp_maxplus.specs.declared.state.Burdens.{Burdens}
use Rattle.spp_dag.specs.declared.stack.EntryFrame.{EntryFrame}
use Rattle.spp_dag.specs.declared.stack.FrameKind.{FrameKind}
use Rattle.spp_dag.specs.declared.stack.FrameKind.TheVariants.{Root, Called, Spawned}
use Rattle.spp_dag.specs.Trace.{IsWellFormed, owner}
use Rattle.spp_dag.specs.Dag.{IsPath, On}
use Rattle.spp_dag.specs.Rows.{contains}
use Rattle.spp_dag.specs.Choices.{first_of}
use Rattle.spp_dag.proofs.Crossing.{owner_le}
use Rattle.spp_dag.proofs.Profiles.{contains_passed}
use Rattle.spp_stack.specs.declared.node.Node.{Node}
use Rattle.spp_stack.specs.Chain.{IsChain}
use Rattle.spp_path.specs.declared.flags.Flag.{Flag}
use Rattle.spp_path.specs.declared.settling.Onward.{Onward}
use Rattle.spp_path.specs.declared.settling.Onward.TheVariants.{Live, Skip, Seek}
use Rattle.spp_path.specs.Flags.{AreFlags, beside, flags_within, flags_of}
use Rattle.spp_path.specs.Settling.{opened_from, lies_beside, runs_on, flags_by}
use Rattle.spp_path.specs.Placing.{IsRooted}
use Rattle.spp_path.proofs.Chains.{Under, Chain}

-- ---- the open frames

-- a stack of a node is one
pub chain_one : (nodes : List Node) (o : Option ℕ) (fs gs : List EntryFrame) → IsChain nodes o fs → IsChain nodes o gs → fs ≡ gs
chain_one nodes None [] [] a b = refl
chain_one nodes None [] (g ∷ gs) a b = absurd b
chain_one nodes None (f ∷ fs) gs a b = absurd a
chain_one nodes (Some n) [] gs a b = absurd a
chain_one nodes (Some n) (f ∷ fs) [] a b = absurd b
chain_one nodes (Some n) (f ∷ fs) (g ∷ gs) a b =
    let same : a.0 ≡ b.0 = (let z : Some a.0 ≡ Some b.0 = sym a.1 ∙ b.1 in cc) in
    ap₂ (λ (x : EntryFrame) (xs : List EntryFrame). x ∷ xs)
    (sym a.2.frame ∙ ap (λ (x : Node). x.frame) same ∙ b.2.frame)
    (chain_one nodes (b.0).below fs gs (subst (λ (x : Node). IsChain nodes x.below fs) same a.4) b.4)

-- its last frame is the root's
pub rooted_chain : (es : List Event) (p : ℕ) (fs : List EntryFrame) → Chain es p fs → IsRooted fs
rooted_chain es p [] c = absurd c
rooted_chain es p (f ∷ fs) c = by fs (λ d. rooted_chain es f.at fs d) f.kind refl c.1
  where
    by : (gs : List EntryFrame) → (Chain es f.at gs → IsRooted gs) → (k : FrameKind) → f.kind ≡ k → Under es k f.at gs (Chain es f.at gs) → IsRooted (f ∷ gs)
    by [] rec Root e u = e
    by [] rec Called e u = absurd u.2
    by [] rec Spawned e u = absurd u.1
    by (g ∷ gs) rec Root e u = cc
    by (g ∷ gs) rec Called e u = rec u.2
    by (g ∷ gs) rec Spawned e u = rec u.1

pub rooted_rest : (outs : List EntryFrame) (f : EntryFrame) (gs : List EntryFrame) → IsRooted (outs ++ f ∷ gs) → IsRooted (f ∷ gs)
rooted_rest [] f gs r = r
rooted_rest (o ∷ []) f gs r = r
rooted_rest (o ∷ p ∷ os) f gs r = rooted_rest (p ∷ os) f gs r

-- ---- the frames beside which a path goes

-- below a frame that was opened before that position all were
early_under : (es : List Event) (wf : IsWellFormed es) (s : ℕ) (p : ℕ) → p ≤ length es → (fs : List EntryFrame) → Chain es p fs → p ≤ s → AllByRecursion (λ f. opened_from s f.kind f.at ≡ false) fs
early_under es wf s p n [] c l = absurd c
early_under es wf s p n (f ∷ fs) c l = by f.kind refl c.0 c.1 (λ m h d. early_under es wf s f.at m fs d h)
  where
    by : (k : FrameKind) → f.kind ≡ k → owner es p ≡ first_of k f.at → Under es k f.at fs (Chain es f.at fs)
        → (f.at ≤ length es → f.at ≤ s → Chain es f.at fs → AllByRecursion (λ g. opened_from s g.kind g.at ≡ false) fs)
        → AllByRecursion (λ g. opened_from s g.kind g.at ≡ false) (f ∷ fs)
    by Root e o u rec = (ap (λ k. opened_from s k f.at) e, subst (λ x. AllByRecursion (λ g. opened_from s g.kind g.at ≡ false) x) (sym u) tt)
    by Called e o u rec =
        let m = owner_le es wf p n in
        (ap (λ k. opened_from s k f.at) e ∙ lt-leb s f.at (omega arith), rec (omega arith) (omega arith) u.2)
    by Spawned e o u rec =
        let m = owner_le es wf p n in
        (ap (λ k. opened_from s k f.at) e ∙ lt-leb s f.at (omega arith), rec (omega arith) (omega arith) u.1)

earlier : (es : List Event) (wf : IsWellFormed es) (s p : ℕ) → p ≤ length es → (f : EntryFrame) (fs : List EntryFrame) → Chain es p (f ∷ fs) → opened_from s f.kind f.at ≡ false → AllByRecursion (λ g. opened_from s g.kind g.at ≡ false) fs
earlier es wf s p n f fs c e = by f.kind c.0 c.1 e
  where
    by : (k : FrameKind) → owner es p ≡ first_of k f.at → Under es k f.at fs (Chain es f.at fs) → opened_from s k f.at ≡ false → AllByRecursion (λ g. opened_from s g.kind g.at ≡ false) fs
    by Root o u e = subst (λ x. AllByRecursion (λ g. opened_from s g.kind g.at ≡ false) x) (sym u) tt
    by Called o u e = let m = owner_le es wf p n in let l = leb-false s f.at e in early_under es wf s f.at (omega arith) fs u.2 (omega arith)
    by Spawned o u e = let m = owner_le es wf p n in let l = leb-false s f.at e in early_under es wf s f.at (omega arith) fs u.1 (omega arith)

-- where it doesn't go beside a frame, it goes beside none below
none_under : (es : List Event) (wf : IsWellFormed es) (o : Onward) (p : ℕ) → p ≤ length es → (f : EntryFrame) (fs : List EntryFrame) → Chain es p (f ∷ fs) → lies_beside o f ≡ false → AllByRecursion (λ g. lies_beside o g ≡ false) fs
none_under es wf Live p n f fs c e = all_live fs
  where
    all_live : (gs : List EntryFrame) → AllByRecursion (λ g. lies_beside Live g ≡ false) gs
    all_live [] = tt
    all_live (g ∷ gs) = (refl, all_live gs)
none_under es wf (Skip s) p n f fs c e = earlier es wf s p n f fs c e
none_under es wf (Seek s) p n f fs c e = earlier es wf s p n f fs c e

module _ (es : List Event) (wf : IsWellFormed es) (bd : Burdens) (ps : List ℕ) (p : IsPath es bd 0 (length es) ps) where
  -- whether the path enters a frame
  abbrev pub enters : EntryFrame → Bool
  enters f = contains (0 ∷ ps) (first_of f.kind f.at)

  -- it doesn't enter one beside which it goes
  pub beside_out : (a : ℕ) → a ≤ length es → (o : Onward) (fs : List EntryFrame) → Chain es a fs → AreFlags es bd a fs (flags_by o fs) → AllByRecursion (λ f. lies_beside o f ≡ true → enters f ≡ false) fs
  beside_out a l o fs c h = by a l fs c h
    where
      out : (f : EntryFrame) → (On 0 ps (first_of f.kind f.at) → ⊥) → enters f ≡ false
      out f n = false_from_ne_true (enters f) (λ e. n ((contains_passed 0 ps (first_of f.kind f.at)).0 e))

      none : (gs : List EntryFrame) → AllByRecursion (λ g. lies_beside o g ≡ false) gs → AllByRecursion (λ f. lies_beside o f ≡ true → enters f ≡ false) gs
      none [] h = tt
      none (g ∷ gs) h = ((λ e. absurd (both_ways (lies_beside o g) h.0 e)), none gs h.1)

      by : (q : ℕ) → q ≤ length es → (gs : List EntryFrame) → Chain es q gs → AreFlags es bd a gs (flags_by o gs) → AllByRecursion (λ f. lies_beside o f ≡ true → enters f ≡ false) gs
      by q m [] c h = absurd c
      by q m (g ∷ gs) c h = case (lies_beside o g) refl h (λ r d f. by g.at r gs d f)
        where
          case : (b : Bool) → lies_beside o g ≡ b → AreFlags es bd a (g ∷ gs) (elim b [ true ↦ beside ∷ flags_by o gs | false ↦ flags_within (runs_on o) (g ∷ gs) ])
              → (g.at ≤ length es → Chain es g.at gs → AreFlags es bd a gs (flags_by o gs) → AllByRecursion (λ f. lies_beside o f ≡ true → enters f ≡ false) gs)
              → AllByRecursion (λ f. lies_beside o f ≡ true → enters f ≡ false) (g ∷ gs)
          case false e h rec = ((λ t. absurd (both_ways (lies_beside o g) e t)), none gs (none_under es wf o q m g gs c e))
          case true e h rec = ((λ t. out g (λ on. let z : false ≡ true = (h.0 ps p).0.1 on in cc)), under g.kind c.0 c.1 (λ r d. rec r d h.1))
            where
              under : (k : FrameKind) → owner es q ≡ first_of k g.at → Under es k g.at gs (Chain es g.at gs)
                  → (g.at ≤ length es → Chain es g.at gs → AllByRecursion (λ f. lies_beside o f ≡ true → enters f ≡ false) gs) → AllByRecursion (λ f. lies_beside o f ≡ true → enters f ≡ false) gs
              under Root w u rec = subst (λ x. AllByRecursion (λ f. lies_beside o f ≡ true → enters f ≡ false) x) (sym u) tt
              under Called w u rec = let n = owner_le es wf q m in rec (omega arith) u.2
              under Spawned w u rec = let n = owner_le es wf q m in rec (omega arith) u.1

  -- the flags, where those that aren't entered are told from the others
  pub flags_apart : (a : ℕ) (o : Onward) (outs : List EntryFrame) (k : EntryFrame) (ks : List EntryFrame) → AreFlags es bd a (outs ++ k ∷ ks) (flags_by o (outs ++ k ∷ ks))
      → AllByRecursion (λ f. enters f ≡ false) outs → lies_beside o k ≡ false → flags_by o (outs ++ k ∷ ks) ≡ flags_of outs (runs_on o) (k ∷ ks)
  flags_apart a o [] k ks h out comes = ap (λ b. by_case b) comes
    where
      by_case : Bool → List Flag
      by_case b = elim b [ true ↦ beside ∷ flags_by o ks | false ↦ flags_within (runs_on o) (k ∷ ks) ]
  flags_apart a o (f ∷ fs) k ks h out comes = case (lies_beside o f) refl h (λ g. flags_apart a o fs k ks g out.1 comes)
    where
      case : (b : Bool) → lies_beside o f ≡ b → AreFlags es bd a (f ∷ fs ++ k ∷ ks) (elim b [ true ↦ beside ∷ flags_by o (fs ++ k ∷ ks) | false ↦ flags_within (runs_on o) (f ∷ fs ++ k ∷ ks) ])
          → (AreFlags es bd a (fs ++ k ∷ ks) (flags_by o (fs ++ k ∷ ks)) → flags_by o (fs ++ k ∷ ks) ≡ flags_of fs (runs_on o) (k ∷ ks))
          → elim b [ true ↦ beside ∷ flags_by o (fs ++ k ∷ ks) | false ↦ flags_within (runs_on o) (f ∷ fs ++ k ∷ ks) ] ≡ beside ∷ flags_of fs (runs_on o) (k ∷ ks)
      case true e h rec = ap (λ (xs : List Flag). beside ∷ xs) (rec h.1)
      case false e h rec = absurd (both_ways (enters f) out.0 ((contains_passed 0 ps (first_of f.kind f.at)).1 ((h.0 ps p).0.0 refl)))
