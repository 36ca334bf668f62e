-- The frames of a chain of nodes, as a list.
use Rattle.std.proofs.Common.{◌≡◌, ℕ, zero, suc, ◌≤◌, List, [], ◌∷◌, Option, Some, None, refl, ap, ap₂, ◌∙◌, arith}
use Rattle.std.specs.Prelude.{slice_get}
use Rattle.spp_dag.specs.declared.stack.EntryFrame.{EntryFrame}
use Rattle.spp_stack.specs.declared.node.Node.{Node}
use Rattle.spp_stack.specs.Chain.{IsUnder, IsChain, IsTree, over, frames_at, frames_from}

-- below a number that is below another
lower : (n m : ℕ) (o : Option ℕ) → n ≤ m → IsUnder n o → IsUnder m o
lower n m None l u = tt
lower n m (Some b) l u = omega (arith, u)

-- more nodes than there are make no difference
enough : (nodes : List Node) → IsTree nodes → (m k : ℕ) (o : Option ℕ) → IsUnder m o → IsUnder k o → frames_at nodes o m ≡ frames_at nodes o k
enough nodes tree m k None a b = refl
enough nodes tree zero k (Some n) a b = absurd (omega (arith, a))
enough nodes tree (suc m) zero (Some n) a b = absurd (omega (arith, b))
enough nodes tree (suc m) (suc k) (Some n) a b =
    by (slice_get nodes n) refl (λ o under. enough nodes tree m k o (lower n m o (omega (arith, a)) under) (lower n k o (omega (arith, b)) under))
  where
    by : (x : Option Node) → slice_get nodes n ≡ x → ((o : Option ℕ) → IsUnder n o → frames_at nodes o m ≡ frames_at nodes o k) → over x (λ o. frames_at nodes o m) ≡ over x (λ o. frames_at nodes o k)
    by None e rest = refl
    by (Some node) e rest = ap (λ (fs : List EntryFrame). node.frame ∷ fs) (rest node.below (tree n node e))

-- a frame, and those below it
pub frames_next : (nodes : List Node) → IsTree nodes → (n : ℕ) (node : Node) → slice_get nodes n ≡ Some node → frames_from nodes (Some n) ≡ node.frame ∷ frames_from nodes node.below
frames_next nodes tree n node is =
    ap (λ (x : Option Node). over x (λ o. frames_at nodes o n)) is ∙ ap (λ (fs : List EntryFrame). node.frame ∷ fs) (below node.below (tree n node is))
  where
    below : (o : Option ℕ) → IsUnder n o → frames_at nodes o n ≡ frames_from nodes o
    below None u = refl
    below (Some b) u = enough nodes tree n (suc b) (Some b) u (omega arith)

-- those of a chain are its frames
chained : (nodes : List Node) → (fs : List EntryFrame) (m : ℕ) (o : Option ℕ) → IsUnder m o → IsChain nodes o fs → frames_at nodes o m ≡ fs
chained nodes [] m None u c = refl
chained nodes (f ∷ fs) m None u c = absurd c
chained nodes [] m (Some n) u c = absurd c
chained nodes (f ∷ fs) zero (Some n) u c = absurd (omega (arith, u))
chained nodes (f ∷ fs) (suc m) (Some n) u c =
    let node : Node = c.0 in
    ap (λ (x : Option Node). over x (λ o. frames_at nodes o m)) c.1
    ∙ ap₂ (λ (g : EntryFrame) (gs : List EntryFrame). g ∷ gs) c.2.frame (chained nodes fs m node.below (lower n m node.below (omega (arith, u)) c.3) c.4)

pub frames_chained : (nodes : List Node) (n : ℕ) (fs : List EntryFrame) → IsChain nodes (Some n) fs → frames_from nodes (Some n) ≡ fs
frames_chained nodes n fs c = chained nodes fs (suc n) (Some n) (omega arith) c
