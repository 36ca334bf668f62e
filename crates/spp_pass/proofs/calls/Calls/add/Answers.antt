use Rattle.std.proofs.Common.{refl, sym, subst, ◌∙◌}
use Rattle.spp_pass.specs.declared.calls.Calls.{Calls}
use Rattle.spp_pass.specs.CallRows.{AreLight}
use Rattle.spp_site.proofs.Keys.{ok_more}
use Rattle.spp_pass.proofs.calls.Calls.add.Goals as goal

pub returns-then-add_first-clause-light : goal.returns-then-add_first-clause-light
returns-then-add_first-clause-light c = c.if-add_first.ensures.light refl

pub returns-then-add_next-clause-light : goal.returns-then-add_next-clause-light
returns-then-add_next-clause-light c = λ n h light. c.if-add_next.ensures.light refl n (subst (λ (x : Calls). AreLight n x.rows.items) (sym (c.if-add_first.ensures.stays refl)) h) light

pub returns-clause-light : goal.returns-clause-light
returns-clause-light c =
    let same = c.if-add_next.ensures.stays refl ∙ c.if-add_first.ensures.stays refl in
    ok_more _ _ (λ told n h light. told n (subst (λ (x : Calls). AreLight n x.rows.items) (sym same) h) light) c.push.result c.push.ensures.light
