-- How a pass over a part begins, and how it comes to frames outside.
use Rattle.std.proofs.Common.{◌≡◌, suc, ◌<◌, ◌≤◌, not, List, [], ◌∷◌, ◌++◌, length, reverse, Option, Some, None, refl, ap, ap₂, subst, ◌∙◌, arith}
use Rattle.std.specs.Prelude.{IfSome}
use Rattle.std.proofs.lemmas.Grind.{reverse_onto}
use Rattle.std.proofs.lemmas.List.{append_assoc, length-reverse}
use Rattle.spp_dag.specs.declared.stack.EntryFrame.{EntryFrame}
use Rattle.spp_dag.specs.Steps.{has_func}
use Rattle.spp_stack.specs.declared.node.Node.{Node}
use Rattle.spp_stack.specs.Chain.{StackOf, HasFrames, IsNodeOf}
use Rattle.spp_pass.specs.declared.counted_frame.CountedFrame.{CountedFrame}
use Rattle.spp_pass.specs.Passes.{Seen}
use Rattle.spp_pass.specs.Outside.{entered_frame, entered_frames, IsOutside, IsReached}
use Rattle.spp_pass.proofs.Marking.{outside_below}

-- a node's frame, as the pass has it
pub node_enters : (node : Node) (f : EntryFrame) (fs : List EntryFrame) → IsNodeOf node f fs → entered_frame node.frame node.top_func ≡ entered_frame f (not (has_func fs f.func))
node_enters node f fs h = ap₂ entered_frame h.frame h.top_func

-- one frame is come to, where there is one alone
pub reached_one : (s : Seen) (items new : List CountedFrame) (x : CountedFrame) (o : Option StackOf) (e : StackOf) (node : Node) (below : Option StackOf)
    → o ≡ Some e → new ≡ x ∷ items → 0 < length items → length items ≤ 1 → x ≡ entered_frame node.frame node.top_func
    → ((f : EntryFrame) (fs : List EntryFrame) → HasFrames e (f ∷ fs) → IsNodeOf node f fs)
    → ((f : EntryFrame) (fs : List EntryFrame) → HasFrames e (f ∷ fs) → IfSome below (λ y. HasFrames y fs))
    → ((f : EntryFrame) (fs : List EntryFrame) → HasFrames e (f ∷ fs) → below ≡ None → fs ≡ [])
    → (fs : List EntryFrame) → IsOutside o fs → IsReached (record s { frames = reverse items }) (record s { frames = reverse new }) fs below
reached_one s items new x o e node below is longer some alone enters node_is rest none fs h = by fs (subst (λ y. IsOutside y fs) is h)
  where
    by : (fs : List EntryFrame) → HasFrames e fs → IsReached (record s { frames = reverse items }) (record s { frames = reverse new }) fs below
    by [] h = absurd h
    by (f ∷ fs) h =
        let more : reverse new ≡ reverse items ++ x ∷ [] = ap reverse longer ∙ reverse_onto items x [] in
        let held : x ≡ entered_frame f (not (has_func fs f.func)) = enters ∙ node_enters node f fs (node_is f fs h) in
        let long : length (reverse new) ≡ suc (length items) = length-reverse new ∙ ap (λ (l : List CountedFrame). length l) longer in
        record {
          outside = fs;
          are = outside_below below fs (rest f fs h) (none f fs h);
          frames = ap (λ l. l ++ entered_frames fs) more ∙ append_assoc (reverse items) (x ∷ []) (entered_frames fs) ∙ ap (λ y. reverse items ++ y ∷ entered_frames fs) held;
          two = λ l. omega arith;
          one = let old = length-reverse items in omega arith;
          stays = λ l. absurd (let old = length-reverse items in omega arith);
          others = refl;
        }
