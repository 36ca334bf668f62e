use Rattle.std.proofs.Common.{take}
use Rattle.std.proofs.lemmas.Result.{IfErr-weaker}
use Rattle.spp_shell.specs.Check.{TellsHeader}
use Rattle.spp_shell.specs.Devices.{Giving, giving_of}
use Rattle.spp_shell.proofs.Inputs.{err_again, refused_unread}
use Rattle.spp_shell.proofs.Streams.{front_refused}
use Rattle.spp_shell.proofs.input.read_trace_or_refuse.Goals as goal

pub returns-in_err-front-clause-refused : goal.returns-in_err-front-clause-refused
returns-in_err-front-clause-refused g c =
    let input : Giving = giving_of g.S.Source.answered g.S.Source.failed g.S.Source.failures c.args.input.now c.read_front.new.input in
    err_again _ c.in_err-front.field-0.0 _ c.from_residual.ensures.1 (refused_unread input c.args.place TellsHeader c.in_err-front.field-0.0 c.in_err-front.ensures.refused)

pub returns-in-Whole-clause-read : goal.returns-in-Whole-clause-read
returns-in-Whole-clause-read g c = rw c.in-Whole.is at c.in_ok-front.ensures.read

pub returns-in_err-refuse_early-clause-refused : goal.returns-in_err-refuse_early-clause-refused
returns-in_err-refuse_early-clause-refused g c =
    let came = c.in-Part.came in
    err_again _ c.in_err-refuse_early.field-0.0 _ c.from_residual-in_err-refuse_early.ensures.1
    (front_refused g.S.Source.answered g.S.Source.failed g.S.Source.failures came.reads c.args.input.now c.read_front.new.input (take came.filled came.bytes.items) (rw c.in-Part.is at c.in_ok-front.ensures.read) came.turns
    c.args.place c.in_err-refuse_early.field-0.0 (rw c.as_slice.ensures at c.in_err-refuse_early.ensures))

pub returns-clause-read : goal.returns-clause-read
returns-clause-read g c = c.read_rest_or_refuse.ensures.read c.args.input.now (rw c.in-Part.is at c.in_ok-front.ensures.read)

pub returns-clause-refused : goal.returns-clause-refused
returns-clause-refused g c =
    let input : Giving = giving_of g.S.Source.answered g.S.Source.failed g.S.Source.failures c.args.input.now c.read_rest_or_refuse.new.input in
    let unread = c.read_rest_or_refuse.ensures.refused c.args.input.now (rw c.in-Part.is at c.in_ok-front.ensures.read) in
    IfErr-weaker c.read_rest_or_refuse.result _ _ (λ r is. refused_unread input c.args.place TellsHeader r is) unread
