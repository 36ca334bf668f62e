use Rattle.std.proofs.Common.{◌≡◌, [], ◌∷◌, Some, sym, ap, ap₂, subst, ◌∙◌, arith}
use Rattle.spp_maxplus.specs.declared.state.State.{State}
use Rattle.spp_dag.specs.declared.stack.EntryFrame.{EntryFrame}
use Rattle.spp_stack.specs.Chain.{IsStart}
use Rattle.spp_path.specs.Settled.{state_under, choice_of, waiting}
use Rattle.spp_path.proofs.settled.choice_at_end.Goals as goal
use Rattle.spp_path.proofs.settled.choice_at_end.Goals.{in-Zero, in-Burdens}

pub returns-in-Some : goal.returns-in-Some
returns-in-Some c parts at work f e h =
    let k : parts ≡ c.parts.result = omega (arith, e, c.parts.ensures) in
    let entry = c.entry-end.ensures.entry at (f ∷ []) work (subst (λ n. IsStart c.args.entries.now n at (f ∷ []) work) k h) in
    let frame = (c.innermost.ensures.frame f [] entry.0).frame in
    let state : state_under c.args.under f ≡ c.match-under.state = elim c.match-under.branch [
      | in-Zero w ↦ subst (λ u. state_under u f ≡ c.match-under.state) (sym w.in-Zero.is) (ap (λ (g : EntryFrame). g.state) (sym frame) ∙ sym w.state-is)
      | in-Burdens w ↦ subst (λ u. state_under u f ≡ c.match-under.state) (sym w.in-Burdens.is) (ap (λ (g : EntryFrame). g.burdened) (sym frame) ∙ sym w.state-is)
    ] in
    sym (ap (λ (s : State). choice_of at s) state ∙ ap (λ o. waiting at c.match-under.state o) c.in-Some.is
    ∙ ap₂ (λ a t. Some (record { at = a; taken = t })) (sym (c.at.ensures ∙ entry.1)) (sym c.taken.ensures))

pub returns-in-None : goal.returns-in-None
returns-in-None c parts at work f e h =
    let k : parts ≡ c.parts.result = omega (arith, e, c.parts.ensures) in
    let entry = c.entry-end.ensures.entry at (f ∷ []) work (subst (λ n. IsStart c.args.entries.now n at (f ∷ []) work) k h) in
    let frame = (c.innermost.ensures.frame f [] entry.0).frame in
    let state : state_under c.args.under f ≡ c.match-under.state = elim c.match-under.branch [
      | in-Zero w ↦ subst (λ u. state_under u f ≡ c.match-under.state) (sym w.in-Zero.is) (ap (λ (g : EntryFrame). g.state) (sym frame) ∙ sym w.state-is)
      | in-Burdens w ↦ subst (λ u. state_under u f ≡ c.match-under.state) (sym w.in-Burdens.is) (ap (λ (g : EntryFrame). g.burdened) (sym frame) ∙ sym w.state-is)
    ] in
    sym (ap (λ (s : State). choice_of at s) state ∙ ap (λ o. waiting at c.match-under.state o) c.in-None.is)
