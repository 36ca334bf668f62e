use Rattle.std.proofs.Common.{Option, is_some, ap, subst}
use Rattle.spp_pass.specs.declared.counting.Closing.{Closing}
use Rattle.spp_pass.specs.Passes.{no_notes, seen_with, noted_return, Returns, IsClosing}
use Rattle.spp_part.proofs.Ends.{can_return, root_returns, two, site, fits, returns}
use Rattle.spp_part.proofs.so_far.ProfileSoFar.ret_counted.Goals as goal

pub ret-requires : goal.ret-requires
ret-requires c = let q = c.requires in can_return q.1 c.args.burdens q.2 c.args.self.now.counting c.args.self.now.ways q.3 q.5

pub returns-in_default-clause-fault : goal.returns-in_default-clause-fault
returns-in_default-clause-fault c _ rest trace at st e lt =
    root_returns trace c.args.burdens at c.args.self.now.counting c.args.self.now.ways st lt e c.ret.new.self
    (λ n. subst (λ (b : _). Returns c.args.burdens at (seen_with c.args.self.now.counting n) (seen_with c.args.self.now.counting n).frames b (seen_with c.ret.new.self (noted_return at (seen_with c.args.self.now.counting n).frames n)))
    (ap is_some c.in_default.is) (c.in_ok-closing.ensures.returns at n))

pub ret-requires-2-clause-two : goal.ret-requires-2-clause-two
ret-requires-2-clause-two c =
    let q = c.requires in
    let is = subst (λ (x : Option Closing). IsClosing c.args.burdens c.args.self.now.counting.work (seen_with c.args.self.now.counting no_notes).frames x) c.in-Some.is c.in_ok-closing.ensures.closing in
    two q.1 c.args.burdens q.2 c.args.self.now.counting c.args.self.now.ways q.3 q.5 c.in-Some.closing is

pub ret-requires-2-clause-site : goal.ret-requires-2-clause-site
ret-requires-2-clause-site c =
    let q = c.requires in
    let is = subst (λ (x : Option Closing). IsClosing c.args.burdens c.args.self.now.counting.work (seen_with c.args.self.now.counting no_notes).frames x) c.in-Some.is c.in_ok-closing.ensures.closing in
    site q.1 c.args.burdens q.2 c.args.self.now.counting c.args.self.now.ways q.3 q.5 c.in-Some.closing is

pub ret-requires-2-clause-fits : goal.ret-requires-2-clause-fits
ret-requires-2-clause-fits c on =
    let q = c.requires in
    let is = subst (λ (x : Option Closing). IsClosing c.args.burdens c.args.self.now.counting.work (seen_with c.args.self.now.counting no_notes).frames x) c.in-Some.is c.in_ok-closing.ensures.closing in
    fits q.1 c.args.burdens q.2 c.args.self.now.counting c.args.self.now.ways q.3 q.5 c.in-Some.closing is on

pub returns-clause-stands : goal.returns-clause-stands
returns-clause-stands c _ rest trace at st e lt =
    let is = subst (λ (x : Option Closing). IsClosing c.args.burdens c.args.self.now.counting.work (seen_with c.args.self.now.counting no_notes).frames x) c.in-Some.is c.in_ok-closing.ensures.closing in
    returns trace c.args.burdens at c.args.self.now.counting c.args.self.now.ways st lt c.in-Some.closing is e c.ret.new.self
    (λ n. subst (λ (b : _). Returns c.args.burdens at (seen_with c.args.self.now.counting n) (seen_with c.args.self.now.counting n).frames b (seen_with c.ret.new.self (noted_return at (seen_with c.args.self.now.counting n).frames n)))
    (ap is_some c.in-Some.is) (c.in_ok-closing.ensures.returns at n))
    c.ret-2.new.self c.in_ok-ret.ensures.laid c.in_ok-ret.ensures.ways c.in_ok-ret.ensures.rows
