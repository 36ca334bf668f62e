-- How a pass over a part begins, and how it comes to frames outside.
use Rattle.std.proofs.Common.{◌≡◌, ℕ, suc, ◌<◌, ◌≤◌, List, [], ◌∷◌, ◌++◌, length, reverse, Option, Some, None, refl, sym, ap, ap₂, subst, ◌∙◌, arith}
use Rattle.std.specs.Prelude.{IfSome}
use Rattle.std.proofs.lemmas.Grind.{reverse_onto}
use Rattle.std.proofs.lemmas.List.{append_assoc, length-reverse}
use Rattle.spp_dag.specs.declared.stack.EntryFrame.{EntryFrame}
use Rattle.spp_stack.specs.declared.node.Node.{Node}
use Rattle.spp_stack.specs.Chain.{StackOf, HasFrames, IsChain, IsNodeOf}
use Rattle.spp_path.specs.Outside.{path_frame, path_frames, IsOutside, IsReached}

-- what is left outside of a stack is what is below its innermost frame
pub outside_below : (o : Option StackOf) (fs : List EntryFrame) → IfSome o (λ e. HasFrames e fs) → (o ≡ None → fs ≡ []) → IsOutside o fs
outside_below None fs h none = none refl
outside_below (Some e) fs h none = h

-- a stack has one list of frames
chain_one : (nodes : List Node) (o : Option ℕ) (fs gs : List EntryFrame) → IsChain nodes o fs → IsChain nodes o gs → fs ≡ gs
chain_one nodes None [] [] h k = refl
chain_one nodes None [] (g ∷ gs) h k = absurd k
chain_one nodes None (f ∷ fs) gs h k = absurd h
chain_one nodes (Some n) [] gs h k = absurd h
chain_one nodes (Some n) (f ∷ fs) [] h k = absurd k
chain_one nodes (Some n) (f ∷ fs) (g ∷ gs) h k =
    let both : Some h.0 ≡ Some k.0 = sym h.1 ∙ k.1 in
    let one : h.0 ≡ k.0 = cc in
    let below : IsChain nodes k.0.below fs = subst (λ (m : Node). IsChain nodes m.below fs) one h.4 in
    ap₂ (λ (x : EntryFrame) (l : List EntryFrame). x ∷ l) (sym h.2.frame ∙ ap (λ (m : Node). m.frame) one ∙ k.2.frame) (chain_one nodes k.0.below fs gs below k.4)

pub frames_one : (s : StackOf) (fs gs : List EntryFrame) → HasFrames s fs → HasFrames s gs → fs ≡ gs
frames_one s fs gs h k = chain_one s.nodes (Some s.top) fs gs h k

-- a node's frame, as the pass has it
pub path_node : (node : Node) (f : EntryFrame) (fs : List EntryFrame) → IsNodeOf node f fs → path_frames (f ∷ fs) ≡ path_frame node.frame node.top_func ∷ path_frames fs
path_node node f fs h = ap (λ x. x ∷ path_frames fs) (sym (ap₂ path_frame h.frame h.top_func))

-- one frame is come to, where there is one alone
pub reached_one : (X : Type 0) (enter : Node → X) (shown : List EntryFrame → List X) (items new : List X) (x : X) (o : Option StackOf) (e : StackOf) (node : Node) (below : Option StackOf)
    → ((f : EntryFrame) (fs : List EntryFrame) → IsNodeOf node f fs → shown (f ∷ fs) ≡ enter node ∷ shown fs)
    → o ≡ Some e → new ≡ x ∷ items → 0 < length items → length items ≤ 1 → x ≡ enter node
    → ((f : EntryFrame) (fs : List EntryFrame) → HasFrames e (f ∷ fs) → IsNodeOf node f fs)
    → ((f : EntryFrame) (fs : List EntryFrame) → HasFrames e (f ∷ fs) → IfSome below (λ y. HasFrames y fs))
    → ((f : EntryFrame) (fs : List EntryFrame) → HasFrames e (f ∷ fs) → below ≡ None → fs ≡ [])
    → (fs : List EntryFrame) → IsOutside o fs → IsReached X shown (reverse items) (reverse new) fs below
reached_one X enter shown items new x o e node below shows is longer some alone enters node_is rest none fs h = by fs (subst (λ y. IsOutside y fs) is h)
  where
    by : (fs : List EntryFrame) → HasFrames e fs → IsReached X shown (reverse items) (reverse new) fs below
    by [] h = absurd h
    by (f ∷ fs) h =
        let more : reverse new ≡ reverse items ++ x ∷ [] = ap reverse longer ∙ reverse_onto items x [] in
        let long : length (reverse new) ≡ suc (length items) = length-reverse new ∙ ap (λ (l : List X). length l) longer in
        let head : x ∷ shown fs ≡ shown (f ∷ fs) = ap (λ y. y ∷ shown fs) enters ∙ sym (shows f fs (node_is f fs h)) in
        record {
          outside = fs;
          are = outside_below below fs (rest f fs h) (none f fs h);
          frames = ap (λ l. l ++ shown fs) more ∙ append_assoc (reverse items) (x ∷ []) (shown fs) ∙ ap (λ l. reverse items ++ l) head;
          two = λ l. omega arith;
          one = let old = length-reverse items in omega arith;
          more = let old = length-reverse items in omega arith;
          stays = λ l. absurd (let old = length-reverse items in omega arith);
        }
