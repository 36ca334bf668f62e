use Rattle.std.proofs.Common.{◌<◌, List, length, sym, ap, subst, ◌∙◌, arith}
use Rattle.std.proofs.lemmas.Option.{slice_get-get_or}
use Rattle.spp_path.specs.declared.flags.Flag.{Flag}
use Rattle.spp_stack.specs.Chain.{IsUnder}
use Rattle.spp_path.specs.Settled.{flags_from}
use Rattle.spp_path.proofs.Above.{flags_out, flags_in_by, under_more}
use Rattle.spp_path.proofs.flags.FlagsIterator.next.Goals as goal

pub returns-then-number-self-clause-steps : goal.returns-then-number-self-clause-steps
returns-then-number-self-clause-steps c =
    let nodes = c.self.inside.nodes.now in
    let n = c.in-Some.number in
    let l : n < length nodes = subst (λ o. IsUnder (length nodes) o) c.in-Some.is c.self.invariant.0 in
    sym c.self.view_is ∙ ap (λ o. flags_from nodes c.self.inside.live c.self.inside.running o) c.in-Some.is
    ∙ flags_out nodes c.self.invariant.1 c.self.inside.live c.self.inside.running n _ (slice_get-get_or nodes n _ l) (omega (arith, c.if-number-self.true))

pub returns-then-number-self-clause-goes : goal.returns-then-number-self-clause-goes
returns-then-number-self-clause-goes c =
    let more = ap (λ (fs : List Flag). length fs) (returns-then-number-self-clause-steps c) in
    record { on = λ _. (tt, tt, omega arith); keeps = tt; rests = λ _. tt }

pub invariant_of-self-2 : goal.invariant_of-self-2
invariant_of-self-2 c =
    let nodes = c.self.inside.nodes.now in
    let n = c.in-Some.number in
    let l : n < length nodes = subst (λ o. IsUnder (length nodes) o) c.in-Some.is c.self.invariant.0 in
    (under_more n (length nodes) _ (omega arith) (c.self.invariant.1 n _ (slice_get-get_or nodes n _ l)), c.self.invariant.1)

pub returns-clause-steps : goal.returns-clause-steps
returns-clause-steps c =
    let nodes = c.self.inside.nodes.now in
    let n = c.in-Some.number in
    let l : n < length nodes = subst (λ o. IsUnder (length nodes) o) c.in-Some.is c.self.invariant.0 in
    sym c.self.view_is ∙ ap (λ o. flags_from nodes c.self.inside.live c.self.inside.running o) c.in-Some.is
    ∙ flags_in_by nodes c.self.invariant.1 c.self.inside.live c.self.inside.running n _ (slice_get-get_or nodes n _ l) (omega (arith, c.if-number-self.false)) _ c.is_called-self-inside.ensures

pub returns-clause-goes : goal.returns-clause-goes
returns-clause-goes c =
    let more = ap (λ (fs : List Flag). length fs) (returns-clause-steps c) in
    record { on = λ _. (tt, tt, omega arith); keeps = tt; rests = λ _. tt }
