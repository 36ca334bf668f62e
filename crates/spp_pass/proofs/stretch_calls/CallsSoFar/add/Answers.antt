use Rattle.std.proofs.Common.{refl, sym, subst, ◌++◌}
use Rattle.spp_pass.specs.declared.calls.Calls.{Calls}
use Rattle.spp_pass.specs.CallRows.{AreLight}
use Rattle.spp_pass.specs.CallFrames.{calls_of}
use Rattle.spp_pass.proofs.CallFrames.{added_right, lighter_right, light_right}
use Rattle.spp_site.proofs.Keys.{ok_more}
use Rattle.spp_pass.proofs.stretch_calls.CallsSoFar.add.Goals as goal

pub add_first-requires : goal.add_first-requires
add_first-requires c = let q = c.requires in (q.0, q.1, light_right q.0 (calls_of c.args.self.now.frames.items) c.args.self.now.calls.rows.items q.2, q.3)

pub returns-then-add_first-clause-added : goal.returns-then-add_first-clause-added
returns-then-add_first-clause-added c =
    added_right c.args.site c.args.caller c.args.frame.now (calls_of c.args.self.now.frames.items) c.args.self.now.calls.rows.items c.add_first.new.self.rows.items (c.if-add_first.ensures.added refl)

pub returns-then-add_first-clause-light : goal.returns-then-add_first-clause-light
returns-then-add_first-clause-light c = λ n h light.
    lighter_right n (calls_of c.args.self.now.frames.items) c.args.self.now.calls.rows.items c.add_first.new.self.rows.items (λ few. c.if-add_first.ensures.light refl n few light) h

pub returns-clause-light : goal.returns-clause-light
returns-clause-light c =
    ok_more _ _ (λ told n h light. told n (subst (λ (x : Calls). AreLight n ((calls_of c.args.self.now.frames.items) ++ x.rows.items)) (sym (c.if-add_first.ensures.stays refl)) h) light)
    c.add_elsewhere.result c.add_elsewhere.ensures.light
