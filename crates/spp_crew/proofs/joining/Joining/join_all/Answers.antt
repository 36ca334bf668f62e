use Rattle.std.proofs.Common.{sym, ◌∙◌}
use Rattle.std.proofs.lemmas.Bool.{eqb-true}
use Rattle.std.proofs.lemmas.List.{nil_from_length}
use Rattle.spp_crew.proofs.Joinings.{none_left}
use Rattle.spp_crew.proofs.joining.Joining.join_all.Goals as goal

pub returns-in-Err-clause-fault : goal.returns-in-Err-clause-fault
returns-in-Err-clause-fault g c trace k come = c.in-Err.ensures.fault trace k (c.loop-alloc.invariant.0 trace k come)

pub returns-clause-so_far : goal.returns-clause-so_far
returns-clause-so_far g c trace k come =
    let here = c.loop-alloc.invariant.0 trace k come in
    none_left trace c.args.burdens g.A.SoFar.is_so_far here.0 k c.loop-alloc.joining.waiting.items c.loop-alloc.joining.so_far (nil_from_length _ (sym c.loop-alloc.joining.waiting.ok.0 ∙ eqb-true c.loop-alloc.joining.waiting.len 0 (sym c.is_empty.ensures ∙ c.loop-alloc-test.false))) here.2 here.1
