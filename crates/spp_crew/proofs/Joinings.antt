-- Blocks of which threads bring what they come to.
use Rattle.std.proofs.Common.{◌≡◌, ℕ, ◌+◌, List, [], ◌∷◌, ◌++◌, Result, Ok, Err, IfOk, refl, sym, ap, subst}
use Rattle.spp_event.specs.Recordings.{Recording}
use Rattle.spp_maxplus.specs.declared.state.Burdens.{Burdens}
use Rattle.spp_crew.specs.declared.block.Block.{Block}
use Rattle.spp_crew.specs.Blocks.{IsBlockAt, count_of}
use Rattle.std.specs.declared.sync.Arc.{Arc}
use Rattle.std.specs.Arc.{arc_value}
use Rattle.spp_crew.specs.declared.block.SoFar.{Ghosts}
use Rattle.spp_crew.specs.declared.posted.Posted.{Posted}
use Rattle.spp_crew.specs.Joinings.{AreBlocks, HasCome}
use Rattle.spp_crew.specs.declared.joining.Joining.{Joining}

-- what is told of a good result
pub ok_told : {X E : Type 0} (P : X → Type 0) (x : Result X E) (r : X) → x ≡ Ok r → IfOk x P → P r
ok_told P x r is told = subst (λ y. IfOk y P) is told

-- what is told of a good result twice
pub ok_two : {X E : Type 0} {P Q R : X → Type 0} (x : Result X E) → ((r : X) → P r → Q r → R r) → IfOk x P → IfOk x Q → IfOk x R
ok_two (Ok r) f p q = f r p q
ok_two (Err e) f p q = tt

module _ {A P : Type 0} {G : Ghosts A P} (t : Recording) (b : Burdens) where
  module _ {Z : Type 0} where
    abbrev Blocks : ℕ → List (Arc (Posted A P G) Z) → ℕ → Type 0
    Blocks i l k = AreBlocks t b i l k

    blocks_more : (i k : ℕ) (xs : List (Arc (Posted A P G) Z)) (x : Arc (Posted A P G) Z) → Blocks i xs k → IsBlockAt t b k (arc_value x).block → Blocks i (xs ++ x ∷ []) (k + count_of (arc_value x).block)
    blocks_more i k [] x is at = (subst (λ (n : ℕ). IsBlockAt t b n (arc_value x).block) is at, ap (λ (n : ℕ). n + count_of (arc_value x).block) is)
    blocks_more i k (y ∷ ys) x h at = (h.0, blocks_more (i + count_of (arc_value y).block) k ys x h.1 at)

    -- a block more
    pub block_more : (i k : ℕ) (block : Block) (xs all : List (Arc (Posted A P G) Z)) (x : Arc (Posted A P G) Z) → all ≡ xs ++ x ∷ [] → (arc_value x).block ≡ block → Blocks i xs k → IsBlockAt t b k block → Blocks i all (k + count_of block)
    block_more i k block xs all x is e h = subst (λ (q : Block). IsBlockAt t b k q → Blocks i all (k + count_of q)) e (λ at. subst (λ (l : List (Arc (Posted A P G) Z)). Blocks i l (k + count_of (arc_value x).block)) (sym is) (blocks_more i k xs x h at))

    -- the first block, and those behind it
    pub first_block : (i k : ℕ) (x : Arc (Posted A P G) Z) (xs all : List (Arc (Posted A P G) Z)) → all ≡ x ∷ xs → Blocks i all k → IsBlockAt t b i (arc_value x).block × Blocks (i + count_of (arc_value x).block) xs k
    first_block i k x xs all is = subst (λ (l : List (Arc (Posted A P G) Z)). Blocks i l k) is

    -- no block is left
    pub none_left : (is_so_far : Recording → Burdens → ℕ → A → Type 0) (i k : ℕ) (all : List (Arc (Posted A P G) Z)) (r : A) → all ≡ [] → Blocks i all k → is_so_far t b i r → is_so_far t b k r
    none_left is_so_far i k all r is h so_far =
        let e : k ≡ i = subst (λ (l : List (Arc (Posted A P G) Z)). Blocks i l k) is h in
        subst (λ (n : ℕ). is_so_far t b n r) (sym e) so_far

    -- none has no records
    pub no_blocks : (i : ℕ) (all : List (Arc (Posted A P G) Z)) → all ≡ [] → Blocks i all i
    no_blocks i all is = subst (λ (l : List (Arc (Posted A P G) Z)). Blocks i l i) (sym is) refl
