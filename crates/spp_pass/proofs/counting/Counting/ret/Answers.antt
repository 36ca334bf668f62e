use Rattle.std.proofs.Common.{◌≡◌, ◌+◌, ◌-◌, ◌<◌, ◌≤◌, true, List, ◌∷◌, length, reverse, take, get_or, set, Option, Some, refl, sym, ap, ap₂, subst, ◌∙◌, arith}
use Rattle.std.proofs.lemmas.List.{length-take-le}
use Rattle.spp_site.specs.Rows.{frame_row}
use Rattle.spp_site.specs.Table.{IsAdded}
use Rattle.spp_site.specs.Marks.{is_marked}
use Rattle.spp_ways.specs.declared.open_ways.OnPaths.{OnPaths}
use Rattle.spp_site.specs.declared.closed_frame.ClosedFrame.{ClosedFrame}
use Rattle.spp_pass.specs.declared.counted_frame.CountedFrame.{CountedFrame}
use Rattle.spp_pass.specs.declared.counted_frame.Returned.{Returned}
use Rattle.spp_pass.specs.Passes.{Seen, Notes, seen_with, no_notes, noted_return, returned_of, received, closed_of, state_of, burdened_state_of, takes_of, wins_of, CanReturn, CanClose, Returns, IsClosing}
use Rattle.spp_pass.specs.declared.counting.Closing.{Closing}
use Rattle.spp_ways.specs.Ways.{outruns}
use Rattle.spp_dag.specs.declared.stack.FrameKind.{FrameKind}
use Rattle.spp_site.proofs.LastFirst.{topped, doubled}
use Rattle.spp_pass.proofs.counting.Counting.ret.Goals as goal

pub closed-closed-requires : goal.closed-closed-requires
closed-closed-requires c =
    let s : Seen = seen_with c.args.self.now no_notes in
    let fs : List CountedFrame = c.args.self.now.frames.items in
    let child : CountedFrame = c.index-child.result.now in
    let at : c.len-last.result - 1 ≡ length fs - 1 = omega (arith, c.len-last.ensures, c.args.self.now.frames.ok.0) in
    let two : 1 < length fs = omega (arith, c.len-last.ensures, c.if-last-eq0.false, c.args.self.now.frames.ok.0) in
    let d = doubled fs two in
    let is_top : child ≡ d.top = c.index-child.ensures ∙ ap (λ k. get_or fs k child) at ∙ d.get child in
    let can : CanClose c.args.burdens d.top d.next s = subst (λ l. CanReturn c.args.burdens s l) d.is c.requires in
    subst (λ (f : CountedFrame). f.before ≤ s.work) (sym is_top) can.before

pub returns-clause-returns : goal.returns-clause-returns
returns-clause-returns c at_ n =
    let fs : List CountedFrame = c.args.self.now.frames.items in
    let rest : List CountedFrame = c.truncate.new.self.items in
    let child : CountedFrame = c.index-child.result.now in
    let at : c.len-last.result - 1 ≡ length fs - 1 = omega (arith, c.len-last.ensures, c.args.self.now.frames.ok.0) in
    let two : 1 < length fs = omega (arith, c.len-last.ensures, c.if-last-eq0.false, c.args.self.now.frames.ok.0) in
    let t = topped fs (omega arith) in
    let is_top : child ≡ t.top = c.index-child.ensures ∙ ap (λ k. get_or fs k child) at ∙ t.get child in
    let kept : rest ≡ take (length fs - 1) fs = c.truncate.ensures.items ∙ ap (λ k. take k fs) at in
    let under : reverse rest ≡ t.below = ap reverse kept ∙ t.less in
    let short : length rest ≡ length fs - 1 = ap (λ (l : List CountedFrame). length l) kept ∙ length-take-le (length fs - 1) fs (omega arith) in
    let u = topped rest (omega arith) in
    let old : reverse fs ≡ child ∷ u.top ∷ u.below = t.is ∙ ap (λ (l : List CountedFrame). t.top ∷ l) (sym under ∙ u.is) ∙ ap (λ (f : CountedFrame). f ∷ u.top ∷ u.below) (sym is_top) in
    let next : c.len-last.result - 1 - 1 ≡ length rest - 1 = omega arith in
    let g : CountedFrame = c.index_mut-parent.result.now in
    let top : g ≡ u.top = c.index_mut-parent.ensures.value ∙ ap (λ k. get_or rest k g) next ∙ u.get g in
    let s : Seen = seen_with c.args.self.now n in
    let m : Notes = noted_return at_ (child ∷ u.top ∷ u.below) n in
    let now = λ (notes : Notes). let x : Seen = record {
      frames = reverse (set rest (c.len-last.result - 1 - 1) c.receive.new.self);
      open_sites = is_marked c.remove_if.new.self;
      open_funcs = is_marked c.remove_if-2.new.self;
      work = s.work;
      table = c.close.new.self;
      ends = notes.ends;
      joins = notes.joins;
      burdened_joins = notes.burdened_joins;
    } in x in
    subst (λ l. Returns c.args.burdens at_ s l true (now (noted_return at_ l n))) (sym old) (
      refl,
      record {
        frames = ap (λ k. reverse (set rest k c.receive.new.self)) next ∙ u.put c.receive.new.self
            ∙ ap (λ f. f ∷ u.below) (c.receive.ensures ∙ ap (λ (r : Returned). received c.args.burdens r g) c.returned-returned.ensures ∙ ap (λ (f : CountedFrame). received c.args.burdens (returned_of child) f) top);
        open_sites = λ j y. c.remove_if.ensures y j;
        open_funcs = λ j y. c.remove_if-2.ensures y j;
        work = refl;
        table = subst (λ (f : ClosedFrame). IsAdded s.table c.close.new.self child.site (frame_row f)) c.closed-closed.ensures c.in_ok-close.ensures.added;
        ends = refl;
        joins = refl;
        burdened_joins = refl;
      },
    )

pub returns-clause-closing : goal.returns-clause-closing
returns-clause-closing c =
    let fs : List CountedFrame = c.args.self.now.frames.items in
    let rest : List CountedFrame = c.truncate.new.self.items in
    let child : CountedFrame = c.index-child.result.now in
    let at : c.len-last.result - 1 ≡ length fs - 1 = omega (arith, c.len-last.ensures, c.args.self.now.frames.ok.0) in
    let two : 1 < length fs = omega (arith, c.len-last.ensures, c.if-last-eq0.false, c.args.self.now.frames.ok.0) in
    let t = topped fs (omega arith) in
    let is_top : child ≡ t.top = c.index-child.ensures ∙ ap (λ k. get_or fs k child) at ∙ t.get child in
    let kept : rest ≡ take (length fs - 1) fs = c.truncate.ensures.items ∙ ap (λ k. take k fs) at in
    let under : reverse rest ≡ t.below = ap reverse kept ∙ t.less in
    let short : length rest ≡ length fs - 1 = ap (λ (l : List CountedFrame). length l) kept ∙ length-take-le (length fs - 1) fs (omega arith) in
    let u = topped rest (omega arith) in
    let old : reverse fs ≡ child ∷ u.top ∷ u.below = t.is ∙ ap (λ (l : List CountedFrame). t.top ∷ l) (sym under ∙ u.is) ∙ ap (λ (f : CountedFrame). f ∷ u.top ∷ u.below) (sym is_top) in
    let next : c.len-last.result - 1 - 1 ≡ length rest - 1 = omega arith in
    let g : CountedFrame = c.index_mut-parent.result.now in
    let top : g ≡ u.top = c.index_mut-parent.ensures.value ∙ ap (λ k. get_or rest k g) next ∙ u.get g in
    let takes : c.takes-takes.result ≡ takes_of child = λ j. record { plain = c.takes-takes.ensures.plain j; burdened = c.takes-takes.ensures.burdened j } in
    let told = λ (r : Returned) (f : CountedFrame). let x : OnPaths = record {
      plain = outruns (state_of f).child (f.plain.spine + r.plain);
      burdened = outruns (burdened_state_of f).child (f.burdened.spine + (r.burdened + c.args.burdens.join));
    } in x in
    let wins : c.wins-wins.result ≡ wins_of c.args.burdens child u.top =
    (λ j. record { plain = c.wins-wins.ensures.plain j; burdened = c.wins-wins.ensures.burdened j }) ∙ ap₂ told c.returned-returned.ensures top in
    let is = λ (kind : FrameKind) (closed : ClosedFrame) (takes wins : OnPaths). let x : Option Closing = Some (record { kind = kind; site = child.site; closed = closed; takes = takes; wins = wins }) in x in
    subst (λ l. IsClosing c.args.burdens c.args.self.now.work l (is c.returned-returned.result.kind c.closed-closed.result c.takes-takes.result c.wins-wins.result)) (sym old)
    (ap₂ (λ (k : FrameKind) (x : ClosedFrame). is k x c.takes-takes.result c.wins-wins.result) (ap (λ (r : Returned). r.kind) c.returned-returned.ensures) c.closed-closed.ensures
    ∙ ap₂ (is child.kind (closed_of child c.args.self.now.work)) takes wins)
