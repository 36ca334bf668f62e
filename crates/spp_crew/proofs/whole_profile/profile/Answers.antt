use Rattle.std.proofs.Common.{◌≡◌, IfOk, IfSome, Option, Some, subst}
use Rattle.spp_event.specs.Recordings.{Recording}
use Rattle.spp_maxplus.specs.State.{unburdened}
use Rattle.spp_site.specs.Profiles.{IsDagTable, IsPathTable}
use Rattle.spp_cut.specs.Parts.{CutOf}
use Rattle.spp_crew.proofs.whole_profile.profile.Goals as goal

-- the trace that was cut anew
same : (trace : Recording) (o : Option CutOf) (x : CutOf) → o ≡ Some x → IfSome o (λ k. k.trace ≡ trace) → x.trace ≡ trace
same trace o x is h = subst (λ (p : Option CutOf). IfSome p (λ k. k.trace ≡ trace)) is h

pub returns-in-Some-clause-dag : goal.returns-in-Some-clause-dag
returns-in-Some-clause-dag g c = subst (λ (t : Recording). IfOk c.profile_once.result (λ p. IsDagTable t p.dag)) (same c.args.cut.now.trace c.in_ok-finer.field-0 c.in-Some.finer c.in-Some.is c.in_ok-finer.ensures) c.profile_once.ensures.dag

pub returns-in-Some-clause-path : goal.returns-in-Some-clause-path
returns-in-Some-clause-path g c = subst (λ (t : Recording). IfOk c.profile_once.result (λ p. IsPathTable t unburdened p.path)) (same c.args.cut.now.trace c.in_ok-finer.field-0 c.in-Some.finer c.in-Some.is c.in_ok-finer.ensures) c.profile_once.ensures.path

pub returns-in-Some-clause-burdened_path : goal.returns-in-Some-clause-burdened_path
returns-in-Some-clause-burdened_path g c =
    subst (λ (t : Recording). IfOk c.profile_once.result (λ p. IsPathTable t c.args.burdens p.burdened_path)) (same c.args.cut.now.trace c.in_ok-finer.field-0 c.in-Some.finer c.in-Some.is c.in_ok-finer.ensures) c.profile_once.ensures.burdened_path
