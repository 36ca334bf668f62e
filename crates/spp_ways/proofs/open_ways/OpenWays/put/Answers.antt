use Rattle.std.proofs.Common.{◌≡◌, ℕ, suc, ◌+◌, ◌-◌, ◌≤◌, ◌<◌, max, false, true, None, List, [], ◌∷◌, ◌++◌, length, reverse, take, get_or, set, ap, ap₂, subst, sym, ◌∙◌, arith}
use Rattle.std.proofs.lemmas.List.{length-take-le, length-append}
use Rattle.spp_dag.specs.declared.stack.FrameKind.{FrameKind}
use Rattle.spp_site.proofs.LastFirst.{topped}
use Rattle.spp_site.specs.declared.closed_frame.ClosedFrame.{ClosedFrame}
use Rattle.spp_ways.specs.declared.log.LogRow.{LogRow}
use Rattle.spp_ways.specs.declared.open_ways.OnPaths.{OnPaths}
use Rattle.spp_ways.specs.declared.frame_ways.LoggedWay.{LoggedWay}
use Rattle.spp_ways.specs.declared.frame_ways.LoggedWays.{LoggedWays}
use Rattle.spp_ways.specs.declared.frame_ways.FrameWays.{FrameWays}
use Rattle.spp_ways.specs.declared.open_ways.OpenWays.{OpenWays}
use Rattle.spp_ways.specs.OpenWays.{plain_of, burdened_of, HasRowsOf, Laid, AreIn, StayIn, IsLeft, chosen, entered, returned_row, come_frame}
use Rattle.spp_ways.proofs.Staying.{in_more}
use Rattle.spp_ways.proofs.Returning.{chosen_in, stay_more}
use Rattle.spp_ways.proofs.open_ways.OpenWays.put.Goals as goal

pub overflow_sub-last-2 : goal.overflow_sub-last-2
overflow_sub-last-2 c = let two : 1 < length c.args.self.now.frames.items = c.requires.two in omega (arith, c.len-last.ensures, c.args.self.now.frames.ok.0)

pub index_mut-parent-requires : goal.index_mut-parent-requires
index_mut-parent-requires c = let two : 1 < length c.args.self.now.frames.items = c.requires.two in omega (arith, c.len-last.ensures, c.truncate.ensures.len, c.args.self.now.frames.ok.0)

pub index-requires-3 : goal.index-requires-3
index-requires-3 c = let two : 1 < length c.args.self.now.frames.items = c.requires.two in omega (arith, c.len-last.ensures, c.args.self.now.frames.ok.0)

pub index-requires-4 : goal.index-requires-4
index-requires-4 c = let two : 1 < length c.args.self.now.frames.items = c.requires.two in omega (arith, c.len-last.ensures, c.args.self.now.frames.ok.0)

pub returns-then-not-is_entered-clause-put : goal.returns-then-not-is_entered-clause-put
returns-then-not-is_entered-clause-put c =
    let o : OpenWays = c.args.self.now in
    let fs : List FrameWays = o.frames.items in
    let items : List LogRow = o.log.rows.items in
    let kind : FrameKind = c.args.kind in
    let takes : OnPaths = c.args.takes in
    let wins : OnPaths = c.args.wins in
    let site : ℕ = c.args.site in
    let closed : ClosedFrame = c.args.closed.now in
    let caller : ℕ = c.args.caller in
    let two : 1 < length fs = c.requires.two in
    let at : c.len-last.result - 1 ≡ length fs - 1 = omega (arith, c.len-last.ensures, o.frames.ok.0) in
    let t = topped fs (omega arith) in
    let rest : List FrameWays = c.truncate.new.self.items in
    let kept : rest ≡ take (length fs - 1) fs = c.truncate.ensures.items ∙ ap (λ k. take k fs) at in
    let under : reverse rest ≡ t.below = ap reverse kept ∙ t.less in
    let fewer : length rest ≡ length fs - 1 = ap (λ (l : List FrameWays). length l) kept ∙ length-take-le (length fs - 1) fs (omega arith) in
    let u = topped rest (omega arith) in
    let v : FrameWays = t.top in
    let g : FrameWays = u.top in
    let all : reverse fs ≡ v ∷ g ∷ u.below = t.is ∙ ap (λ (l : List FrameWays). v ∷ l) (sym under ∙ u.is) in
    let laid : Laid (length items) (v ∷ g ∷ u.below) = subst (Laid (length items)) all c.requires.laid.frames in
    let read1 : FrameWays = c.index.result.now in
    let is1 : read1 ≡ v = c.index.ensures ∙ ap (λ k. get_or fs k read1) at ∙ t.get read1 in
    let read2 : FrameWays = c.index-2.result.now in
    let is2 : read2 ≡ v = c.index-2.ensures ∙ ap (λ k. get_or fs k read2) at ∙ t.get read2 in
    let next : c.len-last.result - 1 - 1 ≡ length rest - 1 = omega arith in
    let old : FrameWays = c.index_mut-parent.result.now in
    let parent : old ≡ g = c.index_mut-parent.ensures.value ∙ ap (λ k. get_or rest k old) next ∙ u.get old in
    let in_start : g.start ≤ length items = (let a : v.start ≤ length items = laid.0 in let b : g.start ≤ v.start = laid.3.0 in omega arith) in
    let in_plain : AreIn (length items) (plain_of g) = in_more v.start (length items) laid.0 (plain_of g) laid.3.1 in
    let in_burdened : AreIn (length items) (burdened_of g) = in_more v.start (length items) laid.0 (burdened_of g) laid.3.2 in
    let begin : old.start ≡ g.start = ap (λ (f : FrameWays). f.start) parent in
    let plain_old : c.plain-2.result ≡ plain_of g = c.plain-2.ensures ∙ ap (λ (f : FrameWays). plain_of f) parent in
    let plain_stay : StayIn c.needed-plain_stays.result kind wins.plain (plain_of g) = subst (λ (w : LoggedWays). StayIn c.needed-plain_stays.result kind wins.plain w) plain_old c.needed-plain_stays.ensures.stay in
    let burdened_old : c.burdened-2.result ≡ burdened_of g = c.burdened-2.ensures ∙ ap (λ (f : FrameWays). burdened_of f) parent in
    let burdened_stay : StayIn c.needed-burdened_stays.result kind wins.burdened (burdened_of g) = subst (λ (w : LoggedWays). StayIn c.needed-burdened_stays.result kind wins.burdened w) burdened_old c.needed-burdened_stays.ensures.stay in
    let plain_most : c.needed-plain_stays.result ≤ length items = c.needed-plain_stays.ensures.most (length items) (subst (λ (w : LoggedWays). AreIn (length items) w) (sym plain_old) in_plain) in
    let burdened_most : c.needed-burdened_stays.result ≤ length items = c.needed-burdened_stays.ensures.most (length items) (subst (λ (w : LoggedWays). AreIn (length items) w) (sym burdened_old) in_burdened) in
    let stays : c.max-stays.result ≡ max (max old.start c.needed-plain_stays.result) c.needed-burdened_stays.result = c.max-stays.ensures ∙ ap (λ k. max k c.needed-burdened_stays.result) c.max.ensures in
    let off : entered kind wins ≡ false = sym c.is_entered.ensures ∙ c.if-not-is_entered.true in
    let n : ℕ = c.max-stays.result in
    let start : g.start ≤ n = omega arith in
    let sp : StayIn n kind wins.plain (plain_of g) = stay_more c.needed-plain_stays.result n (omega arith) kind wins.plain (plain_of g) plain_stay in
    let sb : StayIn n kind wins.burdened (burdened_of g) = stay_more c.needed-burdened_stays.result n (omega arith) kind wins.burdened (burdened_of g) burdened_stay in
    let short : n ≤ length items = omega arith in
    let cut : c.cut.new.self.rows.items ≡ take n items = c.cut.ensures in
    let frames : reverse (set rest (c.len-last.result - 1 - 1) old) ≡ g ∷ u.below = ap₂ (λ (k : ℕ) (f : FrameWays). reverse (set rest k f)) next parent ∙ u.put g in
    record {
      child = v;
      parent = g;
      below = u.below;
      frames = all;
      to = n;
      start = start;
      plain = sp;
      burdened = sb;
      short = short;
      left = subst (λ b. IsLeft b kind takes wins site caller closed v g u.below n items c.cut.new.self.rows.items (reverse (set rest (c.len-last.result - 1 - 1) old))) (sym off) (cut, frames);
    }

pub returns-clause-put : goal.returns-clause-put
returns-clause-put c =
    let o : OpenWays = c.args.self.now in
    let fs : List FrameWays = o.frames.items in
    let items : List LogRow = o.log.rows.items in
    let kind : FrameKind = c.args.kind in
    let takes : OnPaths = c.args.takes in
    let wins : OnPaths = c.args.wins in
    let site : ℕ = c.args.site in
    let closed : ClosedFrame = c.args.closed.now in
    let caller : ℕ = c.args.caller in
    let two : 1 < length fs = c.requires.two in
    let at : c.len-last.result - 1 ≡ length fs - 1 = omega (arith, c.len-last.ensures, o.frames.ok.0) in
    let t = topped fs (omega arith) in
    let rest : List FrameWays = c.truncate.new.self.items in
    let kept : rest ≡ take (length fs - 1) fs = c.truncate.ensures.items ∙ ap (λ k. take k fs) at in
    let under : reverse rest ≡ t.below = ap reverse kept ∙ t.less in
    let fewer : length rest ≡ length fs - 1 = ap (λ (l : List FrameWays). length l) kept ∙ length-take-le (length fs - 1) fs (omega arith) in
    let u = topped rest (omega arith) in
    let v : FrameWays = t.top in
    let g : FrameWays = u.top in
    let all : reverse fs ≡ v ∷ g ∷ u.below = t.is ∙ ap (λ (l : List FrameWays). v ∷ l) (sym under ∙ u.is) in
    let laid : Laid (length items) (v ∷ g ∷ u.below) = subst (Laid (length items)) all c.requires.laid.frames in
    let read1 : FrameWays = c.index.result.now in
    let is1 : read1 ≡ v = c.index.ensures ∙ ap (λ k. get_or fs k read1) at ∙ t.get read1 in
    let read2 : FrameWays = c.index-2.result.now in
    let is2 : read2 ≡ v = c.index-2.ensures ∙ ap (λ k. get_or fs k read2) at ∙ t.get read2 in
    let next : c.len-last.result - 1 - 1 ≡ length rest - 1 = omega arith in
    let old : FrameWays = c.index_mut-parent.result.now in
    let parent : old ≡ g = c.index_mut-parent.ensures.value ∙ ap (λ k. get_or rest k old) next ∙ u.get old in
    let in_start : g.start ≤ length items = (let a : v.start ≤ length items = laid.0 in let b : g.start ≤ v.start = laid.3.0 in omega arith) in
    let in_plain : AreIn (length items) (plain_of g) = in_more v.start (length items) laid.0 (plain_of g) laid.3.1 in
    let in_burdened : AreIn (length items) (burdened_of g) = in_more v.start (length items) laid.0 (burdened_of g) laid.3.2 in
    let begin : old.start ≡ g.start = ap (λ (f : FrameWays). f.start) parent in
    let plain_old : c.plain-2.result ≡ plain_of g = c.plain-2.ensures ∙ ap (λ (f : FrameWays). plain_of f) parent in
    let plain_stay : StayIn c.needed-plain_stays.result kind wins.plain (plain_of g) = subst (λ (w : LoggedWays). StayIn c.needed-plain_stays.result kind wins.plain w) plain_old c.needed-plain_stays.ensures.stay in
    let burdened_old : c.burdened-2.result ≡ burdened_of g = c.burdened-2.ensures ∙ ap (λ (f : FrameWays). burdened_of f) parent in
    let burdened_stay : StayIn c.needed-burdened_stays.result kind wins.burdened (burdened_of g) = subst (λ (w : LoggedWays). StayIn c.needed-burdened_stays.result kind wins.burdened w) burdened_old c.needed-burdened_stays.ensures.stay in
    let plain_most : c.needed-plain_stays.result ≤ length items = c.needed-plain_stays.ensures.most (length items) (subst (λ (w : LoggedWays). AreIn (length items) w) (sym plain_old) in_plain) in
    let burdened_most : c.needed-burdened_stays.result ≤ length items = c.needed-burdened_stays.ensures.most (length items) (subst (λ (w : LoggedWays). AreIn (length items) w) (sym burdened_old) in_burdened) in
    let stays : c.max-stays.result ≡ max (max old.start c.needed-plain_stays.result) c.needed-burdened_stays.result = c.max-stays.ensures ∙ ap (λ k. max k c.needed-burdened_stays.result) c.max.ensures in
    let n : ℕ = c.max-3.result in
    let p : c.chosen-plain.result ≡ chosen takes.plain (plain_of v) = c.chosen-plain.ensures ∙ ap (λ (w : LoggedWays). chosen takes.plain w) (c.plain.ensures ∙ ap (λ (f : FrameWays). plain_of f) is1) in
    let b : c.chosen-burdened.result ≡ chosen takes.burdened (burdened_of v) = c.chosen-burdened.ensures ∙ ap (λ (w : LoggedWays). chosen takes.burdened w) (c.burdened.ensures ∙ ap (λ (f : FrameWays). burdened_of f) is2) in
    let pr : c.chosen-plain.result.rows ≡ (chosen takes.plain (plain_of v)).rows = ap (λ (w : LoggedWay). w.rows) p in
    let br : c.chosen-burdened.result.rows ≡ (chosen takes.burdened (burdened_of v)).rows = ap (λ (w : LoggedWay). w.rows) b in
    let pm = chosen_in (length items) takes.plain (plain_of v) laid.1 in
    let bm = chosen_in (length items) takes.burdened (burdened_of v) laid.2 in
    let needed : n ≡ max (max c.max-stays.result c.chosen-plain.result.rows) c.chosen-burdened.result.rows = c.max-3.ensures ∙ ap (λ k. max k c.chosen-burdened.result.rows) c.max-2.ensures in
    let start : g.start ≤ n = omega arith in
    let sp : StayIn n kind wins.plain (plain_of g) = stay_more c.needed-plain_stays.result n (omega arith) kind wins.plain (plain_of g) plain_stay in
    let sb : StayIn n kind wins.burdened (burdened_of g) = stay_more c.needed-burdened_stays.result n (omega arith) kind wins.burdened (burdened_of g) burdened_stay in
    let short : n ≤ length items = omega arith in
    let np : (chosen takes.plain (plain_of v)).rows ≤ n = omega arith in
    let nb : (chosen takes.burdened (burdened_of v)).rows ≤ n = omega arith in
    let cut : c.cut-2.new.self.rows.items ≡ take n items = c.cut-2.ensures in
    let row = λ (p b : LoggedWay) (f : FrameWays). let r : LogRow = record {
      work = closed.work;
      span = closed.span;
      own = p.own;
      burdened_own = b.own;
      before = f.plain_rows;
      within = p.rows;
      burdened_before = f.burdened_rows;
      burdened_within = b.rows;
      caller = caller;
      site = site;
      top_site = closed.top_site;
      top_caller = closed.top_caller;
      merged = None;
    } in r in
    let is_row : row c.chosen-plain.result c.chosen-burdened.result old ≡ returned_row takes site caller closed v g =
    ap₂ (λ (x y : LoggedWay). row x y old) p b ∙ ap (row (chosen takes.plain (plain_of v)) (chosen takes.burdened (burdened_of v))) parent in
    let log : c.push_frame.new.self.rows.items ≡ take n items ++ (returned_row takes site caller closed v g ∷ []) =
    c.in_ok-rows.ensures.row ∙ ap₂ (λ (l : List LogRow) (r : LogRow). l ++ (r ∷ [])) cut is_row in
    let count : c.in_ok-rows.rows ≡ suc n =
    (let x = c.in_ok-rows.ensures.count in let y : length c.cut-2.new.self.rows.items ≡ length (take n items) = ap (λ (l : List LogRow). length l) cut in let z : length (take n items) ≡ n = length-take-le n items short in omega arith) in
    let stored : ℕ = c.inherit.ensures.0 in
    let limit : ℕ = c.inherit.ensures.1 in
    let counted = λ (f : FrameWays). let h : FrameWays = record f { stored = stored; limit = limit } in h in
    let is_frame : c.inherit.new.self ≡ come_frame kind wins (suc n) stored limit g =
    c.inherit.ensures.2 ∙ ap counted c.come.ensures ∙ ap₂ (λ (k : ℕ) (f : FrameWays). come_frame kind wins k stored limit f) count parent in
    let frames : reverse (set rest (c.len-last.result - 1 - 1) c.inherit.new.self) ≡ come_frame kind wins (suc n) stored limit g ∷ u.below =
    ap₂ (λ (k : ℕ) (f : FrameWays). reverse (set rest k f)) next is_frame ∙ u.put (come_frame kind wins (suc n) stored limit g) in
    let on : entered kind wins ≡ true = sym c.is_entered.ensures ∙ c.if-not-is_entered.false in
    record {
      child = v;
      parent = g;
      below = u.below;
      frames = all;
      to = n;
      start = start;
      plain = sp;
      burdened = sb;
      short = short;
      left = subst (λ b. IsLeft b kind takes wins site caller closed v g u.below n items c.push_frame.new.self.rows.items (reverse (set rest (c.len-last.result - 1 - 1) c.inherit.new.self))) (sym on) (stored, limit, np, nb, log, frames);
    }

pub returns-clause-many : goal.returns-clause-many
returns-clause-many c more =
    let o : OpenWays = c.args.self.now in
    let fs : List FrameWays = o.frames.items in
    let items : List LogRow = o.log.rows.items in
    let kind : FrameKind = c.args.kind in
    let takes : OnPaths = c.args.takes in
    let wins : OnPaths = c.args.wins in
    let site : ℕ = c.args.site in
    let closed : ClosedFrame = c.args.closed.now in
    let caller : ℕ = c.args.caller in
    let two : 1 < length fs = c.requires.two in
    let at : c.len-last.result - 1 ≡ length fs - 1 = omega (arith, c.len-last.ensures, o.frames.ok.0) in
    let t = topped fs (omega arith) in
    let rest : List FrameWays = c.truncate.new.self.items in
    let kept : rest ≡ take (length fs - 1) fs = c.truncate.ensures.items ∙ ap (λ k. take k fs) at in
    let under : reverse rest ≡ t.below = ap reverse kept ∙ t.less in
    let fewer : length rest ≡ length fs - 1 = ap (λ (l : List FrameWays). length l) kept ∙ length-take-le (length fs - 1) fs (omega arith) in
    let u = topped rest (omega arith) in
    let v : FrameWays = t.top in
    let g : FrameWays = u.top in
    let all : reverse fs ≡ v ∷ g ∷ u.below = t.is ∙ ap (λ (l : List FrameWays). v ∷ l) (sym under ∙ u.is) in
    let laid : Laid (length items) (v ∷ g ∷ u.below) = subst (Laid (length items)) all c.requires.laid.frames in
    let read1 : FrameWays = c.index.result.now in
    let is1 : read1 ≡ v = c.index.ensures ∙ ap (λ k. get_or fs k read1) at ∙ t.get read1 in
    let read2 : FrameWays = c.index-2.result.now in
    let is2 : read2 ≡ v = c.index-2.ensures ∙ ap (λ k. get_or fs k read2) at ∙ t.get read2 in
    let next : c.len-last.result - 1 - 1 ≡ length rest - 1 = omega arith in
    let old : FrameWays = c.index_mut-parent.result.now in
    let parent : old ≡ g = c.index_mut-parent.ensures.value ∙ ap (λ k. get_or rest k old) next ∙ u.get old in
    let in_start : g.start ≤ length items = (let a : v.start ≤ length items = laid.0 in let b : g.start ≤ v.start = laid.3.0 in omega arith) in
    let in_plain : AreIn (length items) (plain_of g) = in_more v.start (length items) laid.0 (plain_of g) laid.3.1 in
    let in_burdened : AreIn (length items) (burdened_of g) = in_more v.start (length items) laid.0 (burdened_of g) laid.3.2 in
    let begin : old.start ≡ g.start = ap (λ (f : FrameWays). f.start) parent in
    let plain_old : c.plain-2.result ≡ plain_of g = c.plain-2.ensures ∙ ap (λ (f : FrameWays). plain_of f) parent in
    let plain_stay : StayIn c.needed-plain_stays.result kind wins.plain (plain_of g) = subst (λ (w : LoggedWays). StayIn c.needed-plain_stays.result kind wins.plain w) plain_old c.needed-plain_stays.ensures.stay in
    let burdened_old : c.burdened-2.result ≡ burdened_of g = c.burdened-2.ensures ∙ ap (λ (f : FrameWays). burdened_of f) parent in
    let burdened_stay : StayIn c.needed-burdened_stays.result kind wins.burdened (burdened_of g) = subst (λ (w : LoggedWays). StayIn c.needed-burdened_stays.result kind wins.burdened w) burdened_old c.needed-burdened_stays.ensures.stay in
    let plain_most : c.needed-plain_stays.result ≤ length items = c.needed-plain_stays.ensures.most (length items) (subst (λ (w : LoggedWays). AreIn (length items) w) (sym plain_old) in_plain) in
    let burdened_most : c.needed-burdened_stays.result ≤ length items = c.needed-burdened_stays.ensures.most (length items) (subst (λ (w : LoggedWays). AreIn (length items) w) (sym burdened_old) in_burdened) in
    let stays : c.max-stays.result ≡ max (max old.start c.needed-plain_stays.result) c.needed-burdened_stays.result = c.max-stays.ensures ∙ ap (λ k. max k c.needed-burdened_stays.result) c.max.ensures in
    let n : ℕ = c.max-3.result in
    let p : c.chosen-plain.result ≡ chosen takes.plain (plain_of v) = c.chosen-plain.ensures ∙ ap (λ (w : LoggedWays). chosen takes.plain w) (c.plain.ensures ∙ ap (λ (f : FrameWays). plain_of f) is1) in
    let b : c.chosen-burdened.result ≡ chosen takes.burdened (burdened_of v) = c.chosen-burdened.ensures ∙ ap (λ (w : LoggedWays). chosen takes.burdened w) (c.burdened.ensures ∙ ap (λ (f : FrameWays). burdened_of f) is2) in
    let pr : c.chosen-plain.result.rows ≡ (chosen takes.plain (plain_of v)).rows = ap (λ (w : LoggedWay). w.rows) p in
    let br : c.chosen-burdened.result.rows ≡ (chosen takes.burdened (burdened_of v)).rows = ap (λ (w : LoggedWay). w.rows) b in
    let pm = chosen_in (length items) takes.plain (plain_of v) laid.1 in
    let bm = chosen_in (length items) takes.burdened (burdened_of v) laid.2 in
    let needed : n ≡ max (max c.max-stays.result c.chosen-plain.result.rows) c.chosen-burdened.result.rows = c.max-3.ensures ∙ ap (λ k. max k c.chosen-burdened.result.rows) c.max-2.ensures in
    let start : g.start ≤ n = omega arith in
    let sp : StayIn n kind wins.plain (plain_of g) = stay_more c.needed-plain_stays.result n (omega arith) kind wins.plain (plain_of g) plain_stay in
    let sb : StayIn n kind wins.burdened (burdened_of g) = stay_more c.needed-burdened_stays.result n (omega arith) kind wins.burdened (burdened_of g) burdened_stay in
    let short : n ≤ length items = omega arith in
    let np : (chosen takes.plain (plain_of v)).rows ≤ n = omega arith in
    let nb : (chosen takes.burdened (burdened_of v)).rows ≤ n = omega arith in
    let cut : c.cut-2.new.self.rows.items ≡ take n items = c.cut-2.ensures in
    let row = λ (p b : LoggedWay) (f : FrameWays). let r : LogRow = record {
      work = closed.work;
      span = closed.span;
      own = p.own;
      burdened_own = b.own;
      before = f.plain_rows;
      within = p.rows;
      burdened_before = f.burdened_rows;
      burdened_within = b.rows;
      caller = caller;
      site = site;
      top_site = closed.top_site;
      top_caller = closed.top_caller;
      merged = None;
    } in r in
    let is_row : row c.chosen-plain.result c.chosen-burdened.result old ≡ returned_row takes site caller closed v g =
    ap₂ (λ (x y : LoggedWay). row x y old) p b ∙ ap (row (chosen takes.plain (plain_of v)) (chosen takes.burdened (burdened_of v))) parent in
    let log : c.push_frame.new.self.rows.items ≡ take n items ++ (returned_row takes site caller closed v g ∷ []) =
    c.in_ok-rows.ensures.row ∙ ap₂ (λ (l : List LogRow) (r : LogRow). l ++ (r ∷ [])) cut is_row in
    let count : c.in_ok-rows.rows ≡ suc n =
    (let x = c.in_ok-rows.ensures.count in let y : length c.cut-2.new.self.rows.items ≡ length (take n items) = ap (λ (l : List LogRow). length l) cut in let z : length (take n items) ≡ n = length-take-le n items short in omega arith) in
    let stored : ℕ = c.inherit.ensures.0 in
    let limit : ℕ = c.inherit.ensures.1 in
    let counted = λ (f : FrameWays). let h : FrameWays = record f { stored = stored; limit = limit } in h in
    let is_frame : c.inherit.new.self ≡ come_frame kind wins (suc n) stored limit g =
    c.inherit.ensures.2 ∙ ap counted c.come.ensures ∙ ap₂ (λ (k : ℕ) (f : FrameWays). come_frame kind wins k stored limit f) count parent in
    let frames : reverse (set rest (c.len-last.result - 1 - 1) c.inherit.new.self) ≡ come_frame kind wins (suc n) stored limit g ∷ u.below =
    ap₂ (λ (k : ℕ) (f : FrameWays). reverse (set rest k f)) next is_frame ∙ u.put (come_frame kind wins (suc n) stored limit g) in
    let rows : length c.push_frame.new.self.rows.items ≡ c.in_ok-rows.rows =
    (let x = c.in_ok-rows.ensures.count in let y : length c.push_frame.new.self.rows.items ≡ length (c.cut-2.new.self.rows.items ++ (row c.chosen-plain.result c.chosen-burdened.result old ∷ [])) = ap (λ (l : List LogRow). length l) c.in_ok-rows.ensures.row in
    let z = length-append c.cut-2.new.self.rows.items (row c.chosen-plain.result c.chosen-burdened.result old ∷ []) in omega arith) in
    let full : old.start + 3 ≤ c.in_ok-rows.rows = subst (λ k. k + 3 ≤ c.in_ok-rows.rows) (ap (λ (f : FrameWays). f.start) (c.inherit.ensures.2 ∙ ap counted c.come.ensures)) (c.is_full.ensures.three more) in
    subst (HasRowsOf (length c.push_frame.new.self.rows.items)) (sym frames) (let z : g.start + 3 ≤ length c.push_frame.new.self.rows.items = omega arith in z)
