use Rattle.std.proofs.Common.{sym, subst}
use Rattle.spp_pass.specs.declared.calls.Calls.{Calls}
use Rattle.spp_pass.specs.CallRows.{AreLight}
use Rattle.spp_pass.proofs.calls.Calls.add_next.Goals as goal

pub returns-in-Some-clause-light : goal.returns-in-Some-clause-light
returns-in-Some-clause-light c = λ _ n h light. c.add_at.ensures.light n (subst (λ (x : Calls). AreLight n x.rows.items) (sym c.loop-step.invariant) h) light
