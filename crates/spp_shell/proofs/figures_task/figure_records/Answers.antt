use Rattle.std.proofs.Common.{ℕ, List, [], ◌∷◌, take, IfOk, inr, sym, subst, ◌∙◌}
use Rattle.spp_maxplus.specs.declared.state.Burdens.{Burdens}
use Rattle.spp_shell.specs.Check.{IsOneCheckLine}
use Rattle.spp_shell.specs.Streams.{HasRead}
use Rattle.spp_shell.specs.Devices.{Giving, giving_of}
use Rattle.spp_shell.specs.Figured.{AreBehind}
use Rattle.spp_shell.specs.Figures.{IsFiguresText}
use Rattle.spp_shell.specs.declared.record_stream.Head.{Head}
use Rattle.spp_shell.specs.declared.place.Place.TheVariants.{Only}
use Rattle.spp_shell.proofs.Checks.{check_refused}
use Rattle.spp_shell.specs.declared.refusal.Refusal.TheVariants.{Memory}
use Rattle.spp_shell.proofs.Inputs.{err_again, refused_unread}
use Rattle.spp_shell.proofs.Told.{told_of_given}
use Rattle.spp_shell.proofs.figures_task.figure_records.Goals as goal

pub returns-in_err-end-clause-refused : goal.returns-in_err-end-clause-refused
returns-in_err-end-clause-refused g c = λ s h.
    let input : Giving = giving_of g.S.Source.answered g.S.Source.failed g.S.Source.failures s c.read_rest.new.source in
    let came : List ℕ = take c.args.came.filled c.args.came.bytes.items in
    let h = subst (λ (k : ℕ). HasRead g.S.Source.answered g.S.Source.failed g.S.Source.failures k s came c.args.source.now) (sym c.start-stream.ensures.reads) h in
    let header : List ℕ = take c.args.head.len came in
    let q = c.in_ok-stream.ensures.read s c.args.records header came h c.start-stream.ensures.streamed in
    err_again _ Memory _ c.from_residual-in_err-end.ensures.1 (inr (q.0, q.1))

pub returns-clause-text : goal.returns-clause-text
returns-clause-text g c = λ s h.
    let input : Giving = giving_of g.S.Source.answered g.S.Source.failed g.S.Source.failures s c.read_rest.new.source in
    let came : List ℕ = take c.args.came.filled c.args.came.bytes.items in
    let h = subst (λ (k : ℕ). HasRead g.S.Source.answered g.S.Source.failed g.S.Source.failures k s came c.args.source.now) (sym c.start-stream.ensures.reads) h in
    let header : List ℕ = take c.args.head.len came in
    let q = c.in_ok-stream.ensures.read s c.args.records header came h c.start-stream.ensures.streamed in
    let e = c.in_ok-end.ensures in
    let same = e.head ∙ c.in_ok-stream.ensures.head ∙ c.start-stream.ensures.head in
    let behind = subst (λ (x : Head). AreBehind x c.args.records) (sym same) c.requires.records.0 in
    told_of_given input q.0 q.1 (λ bytes text. IsFiguresText c.args.burdens (bytes ∷ []) text.items) c.answer_stream.result
    (subst (λ (b : Burdens). IfOk c.answer_stream.result (λ text. IsFiguresText b (q.0 ∷ []) text.items)) c.requires.records.1 (c.answer_stream.ensures.text c.args.records header q.0 behind (e.streamed c.args.records header q.0 q.2)))

pub returns-clause-refused : goal.returns-clause-refused
returns-clause-refused g c = λ s h.
    let input : Giving = giving_of g.S.Source.answered g.S.Source.failed g.S.Source.failures s c.read_rest.new.source in
    let came : List ℕ = take c.args.came.filled c.args.came.bytes.items in
    let h = subst (λ (k : ℕ). HasRead g.S.Source.answered g.S.Source.failed g.S.Source.failures k s came c.args.source.now) (sym c.start-stream.ensures.reads) h in
    let header : List ℕ = take c.args.head.len came in
    let q = c.in_ok-stream.ensures.read s c.args.records header came h c.start-stream.ensures.streamed in
    let e = c.in_ok-end.ensures in
    let same = e.head ∙ c.in_ok-stream.ensures.head ∙ c.start-stream.ensures.head in
    let behind = subst (λ (x : Head). AreBehind x c.args.records) (sym same) c.requires.records.0 in
    check_refused (λ text. text.items) input q.0 q.1 c.answer_stream.result (inr (q.0, q.1))
    (c.answer_stream.ensures.line c.args.records header q.0 behind (e.streamed c.args.records header q.0 q.2))

pub returns-in_err-stream-clause-refused : goal.returns-in_err-stream-clause-refused
returns-in_err-stream-clause-refused g c = λ s h.
    let input : Giving = giving_of g.S.Source.answered g.S.Source.failed g.S.Source.failures s c.read_rest.new.source in
    let came : List ℕ = take c.args.came.filled c.args.came.bytes.items in
    let h = subst (λ (k : ℕ). HasRead g.S.Source.answered g.S.Source.failed g.S.Source.failures k s came c.args.source.now) (sym c.start-stream.ensures.reads) h in
    let header : List ℕ = take c.args.head.len came in
    let refused = c.in_err-stream.ensures.refused s c.args.records header came h c.start-stream.ensures.streamed in
    err_again _ c.in_err-stream.field-0.0 _ c.from_residual.ensures.1 (refused_unread input Only IsOneCheckLine c.in_err-stream.field-0.0 refused)

pub end-requires-after_bounds : goal.end-requires-after_bounds
end-requires-after_bounds g c κs within =
    let came : List ℕ = take c.args.came.filled c.args.came.bytes.items in
    let header : List ℕ = take c.args.head.len came in
    let q = c.in_ok-stream.ensures.streamed c.args.records header came c.start-stream.ensures.streamed in
    (c.args.records, header, q.0, q.1)

pub answer_stream-requires-clause-some : goal.answer_stream-requires-clause-some
answer_stream-requires-clause-some g c κs within =
    let came : List ℕ = take c.args.came.filled c.args.came.bytes.items in
    let header : List ℕ = take c.args.head.len came in
    let q = c.in_ok-stream.ensures.streamed c.args.records header came c.start-stream.ensures.streamed in
    let e = c.in_ok-end.ensures in
    let same = e.head ∙ c.in_ok-stream.ensures.head ∙ c.start-stream.ensures.head in
    let behind = subst (λ (x : Head). AreBehind x c.args.records) (sym same) c.requires.records.0 in
    (c.args.records, header, q.0, behind, e.streamed c.args.records header q.0 q.1)
