use Rattle.std.proofs.Common.{◌≡◌, ℕ, ◌+◌, ◌-◌, ◌≤◌, ◌<◌, List, [], ◌∷◌, ◌++◌, length, map, take, drop, get_or, sym, subst, ap, ◌∙◌, arith}
use Rattle.std.proofs.lemmas.List.{length-drop, get_or-drop, map_more}
use Rattle.std.proofs.lemmas.List.Elements.{All-tail, All-get_or}
use Rattle.spp_ways.specs.declared.frame_ways.FrameWays.{FrameWays}
use Rattle.spp_ways.specs.Pruning.{ReachesFrame, pruned_frame, marks_of}
use Rattle.spp_ways.proofs.open_ways.LoggedStretch.pruned_frames.Goals as goal

pub pruned-requires-in-loop-k-clause-within : goal.pruned-requires-in-loop-k-clause-within
pruned-requires-in-loop-k-clause-within c =
    let items : List FrameWays = c.args.self.now.frames.items in
    let x : FrameWays = c.index.result.now in
    let k : ℕ = c.loop-k.k in
    let lower : 1 ≤ k = c.loop-k.auto.k in
    let back : 1 + (k - 1) ≡ k = omega arith in
    let lt : k < length items = omega (arith, c.len-k-end.ensures, c.loop-k-test.true, c.args.self.now.frames.ok.0) in
    let in_rest : k - 1 < length (drop 1 items) = omega (arith, length-drop 1 items) in
    let at : x ≡ get_or (drop 1 items) (k - 1) x = c.index.ensures ∙ ap (λ (n : ℕ). get_or items n x) (sym back) ∙ sym (get_or-drop 1 items (k - 1) x) in
    let P : FrameWays → Type 0 = ReachesFrame (length c.args.kept.now.counts.items) in
    subst P (sym at) (All-get_or P (drop 1 items) (k - 1) x in_rest (All-tail P c.args.self.now.outer (drop 1 items) c.requires.within))

pub loop-k-preserved : goal.loop-k-preserved
loop-k-preserved c =
    let items : List FrameWays = c.args.self.now.frames.items in
    let x : FrameWays = c.index.result.now in
    let k : ℕ = c.loop-k.k in
    let f = λ (r : FrameWays). pruned_frame (marks_of c.args.kept.now) r in
    let lower : 1 ≤ k = c.loop-k.auto.k in
    let back : 1 + (k - 1) ≡ k = omega arith in
    let more : k - 1 + 1 ≡ k + 1 - 1 = omega arith in
    let lt : k < length items = omega (arith, c.len-k-end.ensures, c.loop-k-test.true, c.args.self.now.frames.ok.0) in
    let in_rest : k - 1 < length (drop 1 items) = omega (arith, length-drop 1 items) in
    let at : x ≡ get_or (drop 1 items) (k - 1) x = c.index.ensures ∙ ap (λ (n : ℕ). get_or items n x) (sym back) ∙ sym (get_or-drop 1 items (k - 1) x) in
    let row : c.pruned-in-loop-k.result ≡ f (get_or (drop 1 items) (k - 1) x) = c.pruned-in-loop-k.ensures ∙ ap f at in
    let so_far : List FrameWays = f c.args.self.now.outer ∷ map f (take (k - 1) (drop 1 items)) in
    let put : c.push-in-loop-k.new.self.items ≡ so_far ++ (f (get_or (drop 1 items) (k - 1) x) ∷ []) =
    c.in_ok-push-2.ensures.items ∙ ap (λ (l : List FrameWays). l ++ (c.pruned-in-loop-k.result ∷ [])) c.loop-k.invariant ∙ ap (λ (r : FrameWays). so_far ++ (r ∷ [])) row in
    put ∙ ap (λ (l : List FrameWays). f c.args.self.now.outer ∷ l) (sym (map_more f (drop 1 items) (k - 1) x in_rest) ∙ ap (λ (n : ℕ). map f (take n (drop 1 items))) more)
