use Rattle.std.proofs.Common.{◌<◌, List, length, sym, ap, subst, ◌∙◌, arith}
use Rattle.std.proofs.lemmas.Option.{slice_get-get_or}
use Rattle.spp_dag.specs.declared.stack.EntryFrame.{EntryFrame}
use Rattle.spp_stack.specs.Chain.{IsUnder, frames_from}
use Rattle.spp_stack.proofs.Framed.{frames_next}
use Rattle.spp_stack.proofs.frames.FramesIterator.next.Goals as goal

pub returns-clause-steps : goal.returns-clause-steps
returns-clause-steps c =
    let nodes = c.self.inside.nodes.now in
    let n = c.in-Some.number in
    let l : n < length nodes = subst (λ o. IsUnder (length nodes) o) c.in-Some.is c.self.invariant.0 in
    sym c.self.view_is ∙ ap (λ o. frames_from nodes o) c.in-Some.is ∙ frames_next nodes c.self.invariant.1 n _ (slice_get-get_or nodes n _ l)

pub returns-clause-goes : goal.returns-clause-goes
returns-clause-goes c =
    let more = ap (λ (fs : List EntryFrame). length fs) (returns-clause-steps c) in
    record { on = λ _. (tt, tt, omega arith); keeps = tt; rests = λ _. tt }
