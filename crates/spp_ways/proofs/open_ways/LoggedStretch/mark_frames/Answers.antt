use Rattle.std.proofs.Common.{◌≡◌, ℕ, suc, ◌+◌, ◌-◌, ◌≤◌, ◌<◌, Bool, List, [], ◌∷◌, ◌++◌, length, take, drop, get_or, take-suc, All, sym, subst, ap, ◌∙◌, arith}
use Rattle.std.proofs.lemmas.List.{length-drop, get_or-drop, take_all}
use Rattle.std.proofs.lemmas.List.Elements.{All-head, All-tail, All-cons, All-append, All-weaker}
use Rattle.spp_site.specs.Marks.{is_marked}
use Rattle.spp_ways.specs.declared.frame_ways.FrameWays.{FrameWays}
use Rattle.spp_ways.specs.Pruning.{AreWaysKept, AreAlso}
use Rattle.spp_ways.proofs.Marking.{more_ways}
use Rattle.spp_ways.proofs.open_ways.LoggedStretch.mark_frames.Goals as goal

pub loop-k-preserved : goal.loop-k-preserved
loop-k-preserved c =
    let items : List FrameWays = c.args.self.now.frames.items in
    let x : FrameWays = c.index.result.now in
    let k : ℕ = c.loop-k.k in
    let m : ℕ → Bool = is_marked c.loop-k.marks in
    let then : ℕ → Bool = is_marked c.mark-in-loop-k.new.marks in
    let lower : 1 ≤ k = c.loop-k.auto.k in
    let back : 1 + (k - 1) ≡ k = omega arith in
    let next : suc (k - 1) ≡ k + 1 - 1 = omega arith in
    let lt : k < length items = omega (arith, c.len-k-end.ensures, c.loop-k-test.true, c.args.self.now.frames.ok.0) in
    let in_rest : k - 1 < length (drop 1 items) = omega (arith, length-drop 1 items) in
    let at : x ≡ get_or (drop 1 items) (k - 1) x = c.index.ensures ∙ ap (λ (n : ℕ). get_or items n x) (sym back) ∙ sym (get_or-drop 1 items (k - 1) x) in
    let more : AreAlso m then = c.in_ok-mark-2.ensures.more in
    let before : All (AreWaysKept then) (c.args.self.now.outer ∷ take (k - 1) (drop 1 items)) =
    All-weaker (AreWaysKept m) (AreWaysKept then) (λ f h. more_ways m then f more h) (c.args.self.now.outer ∷ take (k - 1) (drop 1 items)) c.loop-k.invariant.kept in
    let here : AreWaysKept then (get_or (drop 1 items) (k - 1) x) = subst (AreWaysKept then) at c.in_ok-mark-2.ensures.kept in
    let all : All (AreWaysKept then) (take (k - 1) (drop 1 items) ++ (get_or (drop 1 items) (k - 1) x ∷ [])) =
    All-append (AreWaysKept then) (take (k - 1) (drop 1 items)) (get_or (drop 1 items) (k - 1) x ∷ []) (All-tail (AreWaysKept then) c.args.self.now.outer (take (k - 1) (drop 1 items)) before) (All-cons (AreWaysKept then) (get_or (drop 1 items) (k - 1) x) [] here (λ j d l. absurd (omega (arith, l)))) in
    let longer : take (k - 1) (drop 1 items) ++ (get_or (drop 1 items) (k - 1) x ∷ []) ≡ take (k + 1 - 1) (drop 1 items) = sym (take-suc (drop 1 items) (k - 1) x in_rest) ∙ ap (λ (n : ℕ). take n (drop 1 items)) next in
    record {
      kept = All-cons (AreWaysKept then) c.args.self.now.outer (take (k + 1 - 1) (drop 1 items))
          (All-head (AreWaysKept then) c.args.self.now.outer (take (k - 1) (drop 1 items)) before) (subst (All (AreWaysKept then)) longer all);
      more = λ y h. more y (c.loop-k.invariant.more y h);
    }

pub returns-clause-kept : goal.returns-clause-kept
returns-clause-kept c =
    let items : List FrameWays = c.args.self.now.frames.items in
    let m : ℕ → Bool = is_marked c.loop-k.marks in
    let lt : length (drop 1 items) ≤ c.loop-k.k - 1 = omega (arith, length-drop 1 items, c.len-k-end.ensures, c.loop-k-test.false, c.args.self.now.frames.ok.0) in
    subst (λ (l : List FrameWays). All (AreWaysKept m) (c.args.self.now.outer ∷ l)) (take_all (c.loop-k.k - 1) (drop 1 items) lt) c.loop-k.invariant.kept
