use Rattle.std.proofs.Common.{◌≡◌, ℕ, ◌+◌, ◌-◌, ◌≤◌, ◌<◌, List, [], ◌∷◌, ◌++◌, length, map, take, drop, get_or, sym, ap, ap₂, ◌∙◌, append_assoc, arith}
use Rattle.std.proofs.lemmas.List.{length-drop, get_or-drop, map_more}
use Rattle.spp_ways.specs.declared.frame_ways.FrameWays.{FrameWays}
use Rattle.spp_ways.specs.Stretches.{joined_frame}
use Rattle.spp_ways.proofs.open_ways.OpenWays.open_inner.Goals as goal

pub loop-k-preserved : goal.loop-k-preserved
loop-k-preserved c =
    let items : List FrameWays = c.args.stretch.now.frames.items in
    let old : List FrameWays = c.args.self.now.frames.items in
    let x : FrameWays = c.index.result.now in
    let k : ℕ = c.loop-k.k in
    let f = λ (g : FrameWays). joined_frame c.args.links c.args.self.now.limit g in
    let lower : 1 ≤ k = c.loop-k.auto.k in
    let lt : k < length items = omega (arith, c.len-k-end.ensures, c.loop-k-test.true, c.args.stretch.now.frames.ok.0) in
    let back : 1 + (k - 1) ≡ k = omega arith in
    let in_rest : k - 1 < length (drop 1 items) = omega (arith, length-drop 1 items) in
    let at : x ≡ get_or (drop 1 items) (k - 1) x = c.index.ensures ∙ ap (λ (n : ℕ). get_or items n x) (sym back) ∙ sym (get_or-drop 1 items (k - 1) x) in
    let row : c.joined-frame.result ≡ f (get_or (drop 1 items) (k - 1) x) = c.joined-frame.ensures ∙ ap₂ (λ (n : ℕ) (g : FrameWays). joined_frame c.args.links n g) c.loop-k.invariant.limit at in
    let more : k - 1 + 1 ≡ k + 1 - 1 = omega arith in
    let so_far : List FrameWays = map f (take (k - 1) (drop 1 items)) in
    let next : FrameWays = f (get_or (drop 1 items) (k - 1) x) in
    let put : c.push.new.self.items ≡ (old ++ so_far) ++ (next ∷ []) = c.in_ok-push.ensures.items ∙ ap₂ (λ (l : List FrameWays) (r : FrameWays). l ++ (r ∷ [])) c.loop-k.invariant.frames row in
    let longer : so_far ++ (next ∷ []) ≡ map f (take (k + 1 - 1) (drop 1 items)) = sym (map_more f (drop 1 items) (k - 1) x in_rest) ∙ ap (λ (n : ℕ). map f (take n (drop 1 items))) more in
    record {
      frames = put ∙ append_assoc old so_far (next ∷ []) ∙ ap (λ (l : List FrameWays). old ++ l) longer;
      log = c.loop-k.invariant.log;
      limit = c.loop-k.invariant.limit;
    }
