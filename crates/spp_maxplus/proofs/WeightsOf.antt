-- Events do to the weights of a frame what they do to its state.
use Rattle.std.proofs.Common.{◌≡◌, ℕ, ◌+◌, max, cond, Bool, true, false, Option, Some, None, refl, sym, ap, arith, ◌∙◌}
use Rattle.std.specs.Prelude.{nat_lt}
use Rattle.spp_maxplus.specs.declared.state.Burdens.{Burdens}
use Rattle.spp_maxplus.specs.declared.state.State.{State}
use Rattle.spp_maxplus.specs.declared.weights.Weights.{Weights}
use Rattle.spp_maxplus.specs.declared.child.ChildKind.{ChildKind}
use Rattle.spp_maxplus.specs.declared.child.ChildKind.TheVariants.{Called, Spawned}
use Rattle.spp_maxplus.specs.Candidate.{better}
use Rattle.spp_maxplus.specs.State as state
use Rattle.spp_maxplus.specs.Weights.{child_weight, weights_of, close, after_sync, after_child}

pub close_kept : (s : State) → close (weights_of s) ≡ state.close s
close_kept s = by s.spine s.child
  where
    by : (n : ℕ) (c : Option (ℕ × ℕ)) → max n (child_weight c) ≡ state.close (record { spine = n; child = c })
    by n None = let z : max n 0 ≡ n = omega arith in z
    by n (Some c) = refl

pub better_kept : (c : Option (ℕ × ℕ)) (x : ℕ × ℕ) → child_weight (better c (Some x)) ≡ max (child_weight c) x.0
better_kept None x = let z : x.0 ≡ max 0 x.0 = omega arith in z
better_kept (Some c) x = by (nat_lt c.0 x.0) refl
  where
    by : (b : Bool) → nat_lt c.0 x.0 ≡ b → child_weight (cond b (Some x) (Some c)) ≡ max c.0 x.0
    by true e = (let z : x.0 ≡ max c.0 x.0 = grind (arith, e) in z)
    by false e = (let z : c.0 ≡ max c.0 x.0 = grind (arith, e) in z)

pub sync_kept : (s : State) → after_sync (weights_of s) ≡ weights_of (state.after_sync s)
sync_kept s = ap (λ (n : ℕ). let w : Weights = record { spine = n; child = 0 } in w) (close_kept s)

pub child_kept : (burdens : Burdens) (kind : ChildKind) (at weight : ℕ) (s : State) → after_child burdens kind weight (weights_of s) ≡ weights_of (state.after_child burdens kind at weight s)
child_kept burdens Called at weight s = refl
child_kept burdens Spawned at weight s =
    ap (λ (n : ℕ). let w : Weights = record { spine = s.spine + burdens.continuation; child = n } in w) (sym (better_kept s.child (s.spine + (weight + burdens.join), at)))
