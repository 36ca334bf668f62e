use Rattle.std.proofs.Common.{◌≡◌, ◌-◌, ◌≤◌, ℕ, List, length, get_or, sym, ap, ap₂, subst, ◌∙◌, arith}
use Rattle.spp_dag.specs.declared.row.Row.{Row}
use Rattle.spp_dag.specs.Shares.{plus}
use Rattle.spp_site.specs.Rows.{Fits, frame_row}
use Rattle.spp_site.specs.Table.{Sums}
use Rattle.spp_dag.specs.declared.figures.Figures.{Figures}
use Rattle.spp_pass.specs.declared.counted_frame.CountedFrame.{CountedFrame}
use Rattle.spp_pass.specs.declared.counting.Ended.{Ended}
use Rattle.spp_maxplus.specs.Weights.{close}
use Rattle.spp_pass.specs.Passes.{Seen, seen_with, no_notes, row_of, takes_of, closed_of, CanFinish, IsEnded}
use Rattle.spp_site.proofs.LastFirst.{topped}
use Rattle.spp_pass.proofs.Tops.{some_open}
use Rattle.spp_pass.proofs.counting.Counting.finish.Goals as goal

pub closed-closed-requires : goal.closed-closed-requires
closed-closed-requires c =
    let s : Seen = seen_with c.args.self no_notes in
    let fs : List CountedFrame = c.args.self.frames.items in
    let t = topped fs (some_open _ fs c.requires) in
    let at : c.len.result - 1 ≡ length fs - 1 = omega (arith, c.len.ensures, c.args.self.frames.ok.0) in
    let read : CountedFrame = c.index.result.now in
    let same : read ≡ t.top = c.index.ensures ∙ ap (λ k. get_or fs k read) at ∙ t.get read in
    let can : (t.top.before ≤ s.work) × Fits (plus s.table.root (row_of t.top s.work)) = subst (λ l. CanFinish (record s { frames = l })) t.is c.requires in
    subst (λ (f : CountedFrame). f.before ≤ s.work) (sym same) can.0

pub add_root-requires : goal.add_root-requires
add_root-requires c =
    let s : Seen = seen_with c.args.self no_notes in
    let fs : List CountedFrame = c.args.self.frames.items in
    let t = topped fs (some_open _ fs c.requires) in
    let at : c.len.result - 1 ≡ length fs - 1 = omega (arith, c.len.ensures, c.args.self.frames.ok.0) in
    let read : CountedFrame = c.index.result.now in
    let same : read ≡ t.top = c.index.ensures ∙ ap (λ k. get_or fs k read) at ∙ t.get read in
    let can : (t.top.before ≤ s.work) × Fits (plus s.table.root (row_of t.top s.work)) = subst (λ l. CanFinish (record s { frames = l })) t.is c.requires in
    subst (λ (r : Row). Fits (plus s.table.root r)) (sym (c.row.ensures ∙ ap frame_row c.closed-closed.ensures ∙ ap (λ f. row_of f s.work) same)) can.1

pub returns : goal.returns
returns c =
    let s : Seen = seen_with c.args.self no_notes in
    let fs : List CountedFrame = c.args.self.frames.items in
    let t = topped fs (some_open _ fs c.requires) in
    let at : c.len.result - 1 ≡ length fs - 1 = omega (arith, c.len.ensures, c.args.self.frames.ok.0) in
    let read : CountedFrame = c.index.result.now in
    let same : read ≡ t.top = c.index.ensures ∙ ap (λ k. get_or fs k read) at ∙ t.get read in
    let told : Ended = record {
      figures = record { work = s.work; span = c.close.result; burdened = c.close-2.result };
      dag = c.add_root.new.self;
      root = c.closed-closed.result;
      takes = c.takes.result;
    } in
    let takes : c.takes.result ≡ takes_of read = λ j. record { plain = c.takes.ensures.plain j; burdened = c.takes.ensures.burdened j } in
    subst (λ l. IsEnded s l told) (sym t.is) (
      ap₂ (λ (v w : ℕ). let f : Figures = record { work = s.work; span = v; burdened = w } in f) (c.close.ensures ∙ ap (λ f. close f.plain) same) (c.close-2.ensures ∙ ap (λ f. close f.burdened) same),
      c.add_root.ensures ∙ ap (λ r. let u : Sums = record s.table { root = plus s.table.root r } in u) (c.row.ensures ∙ ap frame_row c.closed-closed.ensures ∙ ap (λ f. row_of f s.work) same),
      c.closed-closed.ensures ∙ ap (λ f. closed_of f s.work) same,
      takes ∙ ap takes_of same,
    )
