use Rattle.std.proofs.Common.{inr}
use Rattle.spp_shell.specs.Check.{IsOneCheckLine}
use Rattle.spp_shell.specs.Devices.{Giving, giving_of}
use Rattle.spp_shell.specs.Profiled.{IsTold}
use Rattle.spp_shell.proofs.Inputs.{err_again, refused_unread}
use Rattle.spp_shell.proofs.Told.{told_of_given, refused_of_given}
use Rattle.spp_shell.proofs.tell_input.tell_whole.Goals as goal

pub returns-in_err-bytes-clause-refused : goal.returns-in_err-bytes-clause-refused
returns-in_err-bytes-clause-refused g c = λ s h.
    let input : Giving = giving_of g.S.Source.answered g.S.Source.failed g.S.Source.failures s c.read_rest_or_refuse.new.input in
    err_again _ c.in_err-bytes.field-0.0 _ c.from_residual.ensures.1 (refused_unread input c.args.place IsOneCheckLine c.in_err-bytes.field-0.0 (c.in_err-bytes.ensures.refused s h))

pub returns-clause-told : goal.returns-clause-told
returns-clause-told g c = λ s h.
    let input : Giving = giving_of g.S.Source.answered g.S.Source.failed g.S.Source.failures s c.read_rest_or_refuse.new.input in
    let told = rw c.as_slice.ensures.value at c.tell_bytes.ensures.told in
    told_of_given input c.in_ok-bytes.bytes.items (c.in_ok-bytes.ensures.read s h) (IsTold (g.T.Telling.tells c.args.telling.now) c.args.request.now.burdens) c.tell_bytes.result told

pub returns-clause-refused : goal.returns-clause-refused
returns-clause-refused g c = λ s h.
    let input : Giving = giving_of g.S.Source.answered g.S.Source.failed g.S.Source.failures s c.read_rest_or_refuse.new.input in
    let gave = c.in_ok-bytes.ensures.read s h in
    let line = rw c.as_slice.ensures.value at c.tell_bytes.ensures.line in
    refused_of_given input c.in_ok-bytes.bytes.items gave (inr (c.in_ok-bytes.bytes.items, gave)) c.args.place IsOneCheckLine c.tell_bytes.result line
