use Rattle.std.proofs.Common.{refl, sym, ap, subst, List, ◌++◌}
use Rattle.spp_pass.specs.declared.calls.CallRow.{CallRow}
use Rattle.spp_pass.specs.CallRows.{AreAdded, AreLight}
use Rattle.spp_pass.specs.CallFrames.{calls_of}
use Rattle.spp_pass.proofs.CallFrames.{added_right, lighter_right, light_right, frame_added, frame_light}
use Rattle.spp_site.proofs.Keys.{ok_more}
use Rattle.spp_pass.proofs.stretch_calls.CallsSoFar.add_elsewhere.Goals as goal

pub add_next-requires : goal.add_next-requires
add_next-requires c = let q = c.requires in (q.0, q.1, light_right q.0 (calls_of c.args.self.now.frames.items) c.args.self.now.calls.rows.items q.2, q.3)

pub returns-then-add_next-clause-added : goal.returns-then-add_next-clause-added
returns-then-add_next-clause-added c = added_right c.args.site c.args.caller c.args.frame (calls_of c.args.self.now.frames.items) c.args.self.now.calls.rows.items c.add_next.new.self.rows.items (c.if-add_next.ensures.added refl)

pub returns-then-add_next-clause-light : goal.returns-then-add_next-clause-light
returns-then-add_next-clause-light c = λ n h light.
    lighter_right n (calls_of c.args.self.now.frames.items) c.args.self.now.calls.rows.items c.add_next.new.self.rows.items (λ few. c.if-add_next.ensures.light refl n few light) h

pub returns-clause-added : goal.returns-clause-added
returns-clause-added c =
    subst (λ (l : List CallRow). AreAdded c.args.site c.args.caller c.args.frame (calls_of c.args.self.now.frames.items ++ l) (calls_of c.push.new.self.items ++ c.add_next.new.self.rows.items)) (ap (λ (x : _). x.rows.items) (c.if-add_next.ensures.stays refl))
    (frame_added c.args.site c.args.caller c.args.frame c.args.self.now.frames.items c.push.new.self.items c.in-Some.alone c.add_next.new.self.rows.items c.in_ok-push.ensures.items c.in-Some.ensures)

pub returns-clause-light : goal.returns-clause-light
returns-clause-light c = λ n h light.
    frame_light n c.args.site c.args.caller c.args.frame c.args.self.now.frames.items c.push.new.self.items c.in-Some.alone c.add_next.new.self.rows.items c.in_ok-push.ensures.items c.in-Some.ensures
    (subst (λ (l : List CallRow). AreLight n (calls_of c.args.self.now.frames.items ++ l)) (sym (ap (λ (x : _). x.rows.items) (c.if-add_next.ensures.stays refl))) h) light

pub returns-2-clause-added : goal.returns-2-clause-added
returns-2-clause-added c =
    ok_more _ _
    (λ added. added_right c.args.site c.args.caller c.args.frame (calls_of c.args.self.now.frames.items) c.args.self.now.calls.rows.items c.push-2.new.self.rows.items
    (subst (λ (l : List CallRow). AreAdded c.args.site c.args.caller c.args.frame l c.push-2.new.self.rows.items) (ap (λ (x : _). x.rows.items) (c.if-add_next.ensures.stays refl)) added))
    c.push-2.result c.push-2.ensures.added

pub returns-2-clause-light : goal.returns-2-clause-light
returns-2-clause-light c =
    ok_more _ _
    (λ told n h light. lighter_right n (calls_of c.args.self.now.frames.items) c.args.self.now.calls.rows.items c.push-2.new.self.rows.items
    (λ few. told n (subst (λ (l : List CallRow). AreLight n l) (sym (ap (λ (x : _). x.rows.items) (c.if-add_next.ensures.stays refl))) few) light) h)
    c.push-2.result c.push-2.ensures.light
