use Rattle.std.proofs.Common.{◌≡◌, ◌+◌, reverse, subst, sym, ap, ap₂, ◌∙◌, arith}
use Rattle.spp_summary.specs.declared.storage.Storage.{Storage}
use Rattle.spp_piece.specs.Account.{Account}
use Rattle.spp_piece.specs.Bound.{IsSmall}
use Rattle.spp_summary.specs.Joining.{SameStorage}
use Rattle.spp_summary.specs.Storage.{seen}
use Rattle.spp_summary.specs.KeptFrames.{told}
use Rattle.spp_piece.specs.Summary.{joined}
use Rattle.spp_piece.proofs.Joined.{small_joined}
use Rattle.spp_summary.proofs.summary.Summary.join.Goals as goal

same : (p q : Storage) → SameStorage p q → seen q ≡ seen p
same p q s =
    ap₂ (λ rs os. told rs q.middle q.since (reverse os) (reverse q.states.items) q.run q.before q.fault) s.returns s.opens
    ∙ ap₂ (λ ss m. told p.returns.items m q.since (reverse p.opens.items) (reverse ss) q.run q.before q.fault) s.states s.middle
    ∙ ap₂ (λ n r. told p.returns.items p.middle n (reverse p.opens.items) (reverse p.states.items) r q.before q.fault) s.since s.run
    ∙ ap₂ (λ b f. told p.returns.items p.middle p.since (reverse p.opens.items) (reverse p.states.items) p.run b f) s.before s.fault

pub invariant_of-result : goal.invariant_of-result
invariant_of-result c =
    let l = c.left.inside in
    let r = c.right.inside in
    let x = c.left.view_is in
    let y = c.right.view_is in
    let same_burden = ap (λ (a : Account). a.burdens) x ∙ c.requires.burdens ∙ sym (ap (λ (a : Account). a.burdens) y) in
    let right_small = subst (λ b. IsSmall b r.events (seen r.storage)) (sym same_burden) c.right.invariant.sound.small in
    let value = c.absorb.ensures.value
    ∙ ap₂ (joined l.burdens) (same l.storage c.make_room.new.self c.in-Ok.ensures.left) (same r.storage c.make_room.new.right c.in-Ok.ensures.right) in
    record {
      sound = record {
        range = omega (arith, c.right.invariant.sound.range, c.requires.neighbours, ap (λ (a : Account). a.first) x, ap (λ (a : Account). a.events) x, ap (λ (a : Account). a.first) y);
        burdens = c.left.invariant.sound.burdens;
        small = subst (IsSmall l.burdens (l.events + r.events)) (sym value) (small_joined l.burdens l.events r.events (seen l.storage) (seen r.storage) c.left.invariant.sound.small right_small);
      };
      laid = c.absorb.ensures.laid;
    }
