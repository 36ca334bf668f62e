use Rattle.std.proofs.Common.{◌≡◌, ℕ, ◌-◌, ◌≤◌, ◌<◌, max, List, ◌∷◌, length, reverse, take, get_or, set, ap, ap₂, subst, ◌∙◌, arith}
use Rattle.spp_site.proofs.LastFirst.{topped}
use Rattle.spp_ways.specs.declared.log.LogRow.{LogRow}
use Rattle.spp_ways.specs.declared.open_ways.OnPaths.{OnPaths}
use Rattle.spp_ways.specs.declared.frame_ways.FrameWays.{FrameWays}
use Rattle.spp_ways.specs.declared.open_ways.OpenWays.{OpenWays}
use Rattle.spp_ways.specs.OpenWays.{plain_of, burdened_of, Laid, chosen, waited_frame}
use Rattle.spp_ways.proofs.Returning.{chosen_in}
use Rattle.spp_ways.proofs.Enclosed.{Waited, waited_linked, waited_laid, waited_all, waited_stretch, waited_enclosed}
use Rattle.spp_ways.proofs.open_ways.OpenWays.wait.Goals as goal

-- the frames then
abbrev opens : goal.After-cut → List FrameWays
opens c = set c.args.self.now.frames.items (c.len-last.result - 1) c.wait.new.self

waited : (c : goal.After-cut) → Waited c.args.takes c.args.self.now c.cut.new.self.rows.items (opens c)
waited c =
    let o : OpenWays = c.args.self.now in
    let fs : List FrameWays = o.frames.items in
    let items : List LogRow = o.log.rows.items in
    let takes : OnPaths = c.args.takes in
    let some : 0 < length fs = c.requires.some in
    let t = topped fs some in
    let at : c.len-last.result - 1 ≡ length fs - 1 = omega (arith, c.len-last.ensures, o.frames.ok.0) in
    let old : FrameWays = c.index_mut-frame.result.now in
    let top : old ≡ t.top = c.index_mut-frame.ensures.value ∙ ap (λ k. get_or fs k old) at ∙ t.get old in
    let new : FrameWays = c.wait.new.self in
    let is : new ≡ waited_frame takes t.top = c.wait.ensures ∙ ap (waited_frame takes) top in
    let moved : set fs (c.len-last.result - 1) new ≡ set fs (length fs - 1) (waited_frame takes t.top) = ap₂ (λ (k : ℕ) (f : FrameWays). set fs k f) at is in
    let laid : Laid (length items) (t.top ∷ t.below) = subst (Laid (length items)) t.is c.requires.laid.frames in
    let cut : c.cut.new.self.rows.items ≡ take c.max-needed.result items = c.cut.ensures in
    let begin : new.start ≡ t.top.start = ap (λ (f : FrameWays). f.start) is in
    let p : new.plain_rows ≡ (chosen takes.plain (plain_of t.top)).rows = ap (λ (f : FrameWays). f.plain_rows) is in
    let b : new.burdened_rows ≡ (chosen takes.burdened (burdened_of t.top)).rows = ap (λ (f : FrameWays). f.burdened_rows) is in
    let in_plain = chosen_in (length items) takes.plain (plain_of t.top) laid.1 in
    let in_burdened = chosen_in (length items) takes.burdened (burdened_of t.top) laid.2 in
    let in_start : t.top.start ≤ length items = laid.0 in
    let needed : c.max-needed.result ≡ max (max new.start new.plain_rows) new.burdened_rows = c.max-needed.ensures ∙ ap (λ k. max k new.burdened_rows) c.max.ensures in
    let n1 : t.top.start ≤ c.max-needed.result = omega arith in
    let n2 : (chosen takes.plain (plain_of t.top)).rows ≤ c.max-needed.result = omega arith in
    let n3 : (chosen takes.burdened (burdened_of t.top)).rows ≤ c.max-needed.result = omega arith in
    let n4 : c.max-needed.result ≤ length items = omega arith in
    record {
      top = t.top;
      below = t.below;
      frames = t.is;
      to = c.max-needed.result;
      start = n1;
      plain = n2;
      burdened = n3;
      short = n4;
      log = cut;
      then = ap reverse moved ∙ t.put (waited_frame takes t.top);
    }

pub returns-clause-laid : goal.returns-clause-laid
returns-clause-laid c = record {
  linked = waited_linked c.args.takes c.args.self.now c.cut.new.self.rows.items (opens c) (waited c) c.requires.laid;
  frames = waited_laid c.args.takes c.args.self.now c.cut.new.self.rows.items (opens c) (waited c) c.requires.laid;
}

pub returns-clause-ways : goal.returns-clause-ways
returns-clause-ways c on ws h = waited_all c.args.takes c.args.self.now c.cut.new.self.rows.items (opens c) (waited c) c.requires.laid on ws h

pub returns-clause-stretch : goal.returns-clause-stretch
returns-clause-stretch c s = waited_stretch c.args.takes c.args.self.now c.cut.new.self.rows.items (opens c) (waited c) c.requires.laid s

pub returns-clause-enclosed : goal.returns-clause-enclosed
returns-clause-enclosed c on e base ws h = waited_enclosed c.args.takes c.args.self.now c.cut.new.self.rows.items (opens c) (waited c) c.requires.laid on e base ws h
