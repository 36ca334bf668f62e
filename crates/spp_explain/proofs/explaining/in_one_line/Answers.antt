use Rattle.std.proofs.Common.{subst, sym}
use Rattle.std.proofs.lemmas.Iterator.{YieldsList-from_chars}
use Rattle.std.proofs.lemmas.Iterator.Consumers.{YieldsList-end}
use Rattle.std.specs.String.{string_bytes}
use Rattle.spp_explain.specs.Lines.{IsOneLine}
use Rattle.spp_explain.proofs.Plain.{all_read, plain, pushed}
use Rattle.spp_explain.proofs.explaining.in_one_line.Goals as goal

pub loop-c-preserved : goal.loop-c-preserved
loop-c-preserved c =
    pushed c.loop-c.yielded (string_bytes c.loop-c.line) _ c.in-Some.c c.shown.result c.loop-c.invariant c.shown.ensures c.in_ok-push.ensures.bytes

pub returns-clause-same : goal.returns-clause-same
returns-clause-same c =
    let all = YieldsList-end (YieldsList-from_chars c.args.text.now c.utf8.text cc) c.loop-c.yielded _ c.loop-c.yielded_by _ _ c.in-None.is c.next.ensures.steps in
    all_read c.loop-c.yielded c.args.text.now _ c.loop-c.invariant all.0

pub returns-clause-plain : goal.returns-clause-plain
returns-clause-plain c = subst IsOneLine (sym (returns-clause-same c)) (plain c.args.text.now)
