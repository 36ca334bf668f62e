use Rattle.std.proofs.Common.{Result, Ok, Err, OnOk, ap, ◌∙◌}
use Rattle.spp_crew.proofs.Joinings.{block_more}
use Rattle.spp_crew.proofs.joining.Joining.post.Goals as goal

told : {X E A : Type 0} (r : Result X E) → A → OnOk r A
told (Ok x) a = a
told (Err e) a = tt

pub returns-clause-come : goal.returns-clause-come
returns-clause-come g c =
    told c.post.result (λ trace burdens k come at.
    (come.0, come.1, block_more trace burdens come.0 k c.args.block c.args.self.now.waiting.items c.push_back.new.self.items c.in_ok-try_clone.field-0 c.in_ok-push_back.ensures.items (ap (λ p. p.block) c.in_ok-try_clone.ensures ∙ c.in_ok-posted.ensures) come.2 at))
