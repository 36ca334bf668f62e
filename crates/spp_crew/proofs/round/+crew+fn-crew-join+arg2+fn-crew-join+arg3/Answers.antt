use Rattle.std.proofs.Common.{◌≡◌, OnOk, OnErr, sym, ap, ◌∙◌, subst}
use Rattle.spp_crew.specs.Rounds.{IsDrained, IsBehind}
use Rattle.spp_crew.proofs.Draws.{drained_together, behind_together}
use Rattle.spp_crew.proofs.round.+crew+fn-crew-join+arg2+fn-crew-join+arg3.Goals as goal

pub returns-clause-drained : goal.returns-clause-drained
returns-clause-drained g t c =
    let theirs = c.join-theirs.result.0 in
    let ours = c.join-theirs.result.1 in
    let they = c.join-theirs.ensures.first in
    let we = c.join-theirs.ensures.second in
    let both = c.rejoin.ensures in
    let mine = ap (λ p. p.parts) c.split-mine.ensures.first in
    let other = ap (λ p. p.parts) c.split-mine.ensures.second in
    let same : ours.0.parts ≡ theirs.0.parts = (we.2 ∙ mine) ∙ sym (they.2 ∙ other) in
    subst (λ r. OnOk r (IsDrained c.rejoin.result)) (sym c.and.ensures)
    (drained_together ours.1 theirs.1 ours.0 theirs.0 c.rejoin.result same (ap (λ p. p.parts) both) (ap (λ p. p.drawn) both) (ap (λ p. p.share) both) we.3 they.3)

pub returns-clause-stopped : goal.returns-clause-stopped
returns-clause-stopped g t c =
    let theirs = c.join-theirs.result.0 in
    let ours = c.join-theirs.result.1 in
    let they = c.join-theirs.ensures.first in
    let we = c.join-theirs.ensures.second in
    let both = c.rejoin.ensures in
    let mine = ap (λ p. p.parts) c.split-mine.ensures.first in
    let other = ap (λ p. p.parts) c.split-mine.ensures.second in
    let same : ours.0.parts ≡ theirs.0.parts = (we.2 ∙ mine) ∙ sym (they.2 ∙ other) in
    subst (λ r. OnErr r (IsBehind c.rejoin.result)) (sym c.and.ensures)
    (behind_together ours.1 theirs.1 ours.0 theirs.0 c.rejoin.result same (ap (λ p. p.parts) both) (ap (λ p. p.drawn) both) (ap (λ p. p.share) both) we.3 we.4 they.3 they.4)
