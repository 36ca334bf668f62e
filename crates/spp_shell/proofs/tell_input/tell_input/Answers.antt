use Rattle.std.proofs.Common.{take, inr}
use Rattle.spp_shell.specs.Check.{IsOneCheckLine}
use Rattle.spp_shell.specs.Devices.{Giving, giving_of}
use Rattle.spp_shell.specs.Profiled.{IsTold}
use Rattle.spp_shell.proofs.Inputs.{err_again, refused_unread}
use Rattle.spp_shell.proofs.Streams.{front_checked}
use Rattle.spp_shell.proofs.Told.{told_of_given, refused_of_given}
use Rattle.spp_shell.proofs.tell_input.tell_input.Goals as goal

pub returns-in_err-front-clause-refused : goal.returns-in_err-front-clause-refused
returns-in_err-front-clause-refused g c =
    let input : Giving = giving_of g.S.Source.answered g.S.Source.failed g.S.Source.failures c.args.source.now c.read_front.new.input in
    err_again _ c.in_err-front.field-0.0 _ c.from_residual.ensures.1 (refused_unread input c.args.place IsOneCheckLine c.in_err-front.field-0.0 c.in_err-front.ensures.refused)

pub returns-in-Whole-clause-told : goal.returns-in-Whole-clause-told
returns-in-Whole-clause-told g c =
    let input : Giving = giving_of g.S.Source.answered g.S.Source.failed g.S.Source.failures c.args.source.now c.read_front.new.input in
    let gave = rw c.in-Whole.is at c.in_ok-front.ensures.read in
    told_of_given input c.in-Whole.bytes.items gave (IsTold (g.T.Telling.tells c.args.telling.now) c.args.request.now.burdens) c.tell_bytes.result (rw c.as_slice.ensures.value at c.tell_bytes.ensures.told)

pub returns-in-Whole-clause-refused : goal.returns-in-Whole-clause-refused
returns-in-Whole-clause-refused g c =
    let input : Giving = giving_of g.S.Source.answered g.S.Source.failed g.S.Source.failures c.args.source.now c.read_front.new.input in
    let gave = rw c.in-Whole.is at c.in_ok-front.ensures.read in
    refused_of_given input c.in-Whole.bytes.items gave (inr (c.in-Whole.bytes.items, gave)) c.args.place IsOneCheckLine c.tell_bytes.result (rw c.as_slice.ensures.value at c.tell_bytes.ensures.line)

pub returns-in_err-head-clause-refused : goal.returns-in_err-head-clause-refused
returns-in_err-head-clause-refused g c =
    let came = c.in-Part.came in
    err_again _ c.in_err-head.field-0.0 _ c.from_residual-in_err-head.ensures.1
    (front_checked g.S.Source.answered g.S.Source.failed g.S.Source.failures came.reads c.args.source.now c.read_front.new.input (take came.filled came.bytes.items) (rw c.in-Part.is at c.in_ok-front.ensures.read) came.turns
    c.args.place c.in_err-head.field-0.0 (rw c.as_slice-bytes.ensures at c.in_err-head.ensures.refused))

pub returns-in_default-clause-told : goal.returns-in_default-clause-told
returns-in_default-clause-told g c = c.tell_whole.ensures.told c.args.source.now (rw c.in-Part.is at c.in_ok-front.ensures.read)

pub returns-in_default-2-clause-told : goal.returns-in_default-2-clause-told
returns-in_default-2-clause-told g c =
    c.tell_whole-in_default-2.ensures.told c.args.source.now (rw c.in-Part.is at c.in_ok-front.ensures.read)

pub returns-in_default-2-clause-refused : goal.returns-in_default-2-clause-refused
returns-in_default-2-clause-refused g c =
    c.tell_whole-in_default-2.ensures.refused c.args.source.now (rw c.in-Part.is at c.in_ok-front.ensures.read)

pub returns-in_default-records_of-clause-told : goal.returns-in_default-records_of-clause-told
returns-in_default-records_of-clause-told g c =
    c.tell_whole-in_default-records_of.ensures.told c.args.source.now (rw c.in-Part.is at c.in_ok-front.ensures.read)

pub returns-in_default-records_of-clause-refused : goal.returns-in_default-records_of-clause-refused
returns-in_default-records_of-clause-refused g c =
    c.tell_whole-in_default-records_of.ensures.refused c.args.source.now (rw c.in-Part.is at c.in_ok-front.ensures.read)

pub returns-clause-told : goal.returns-clause-told
returns-clause-told g c = c.tell_records.ensures.told c.args.source.now (rw c.in-Part.is at c.in_ok-front.ensures.read)

pub returns-clause-refused : goal.returns-clause-refused
returns-clause-refused g c = c.tell_records.ensures.refused c.args.source.now (rw c.in-Part.is at c.in_ok-front.ensures.read)
