-- On which paths the way through a child is the greatest, where a stretch is joined onto what was counted before it.
use Rattle.std.proofs.Common.{◌≡◌, ℕ, ◌+◌, max, Bool, true, false, cond, ◌&&◌, Option, Some, None, is_some, refl, sym, ap, ap₂, ◌∙◌, arith}
use Rattle.std.specs.Prelude.{nat_lt}
use Rattle.std.proofs.lemmas.Bool.Decides.{nat_tests}
use Rattle.spp_maxplus.specs.declared.state.Burdens.{Burdens}
use Rattle.spp_maxplus.specs.declared.weights.Weights.{Weights}
use Rattle.spp_maxplus.specs.State.{unburdened}
use Rattle.spp_maxplus.specs.Weights.{close}
use Rattle.spp_dag.specs.declared.stack.FrameKind.{FrameKind}
use Rattle.spp_dag.specs.declared.stack.FrameKind.TheVariants.{Called, Spawned}
use Rattle.spp_ways.specs.declared.open_ways.OnPaths.{OnPaths}
use Rattle.spp_ways.specs.Ways.{outruns}
use Rattle.spp_ways.specs.OpenWays.{on_path}
use Rattle.spp_ways.specs.Enclosures.{Enclosure}
use Rattle.spp_pass.specs.declared.counted_frame.CountedFrame.{CountedFrame}
use Rattle.spp_pass.specs.LeanFrames.{after_child}
use Rattle.spp_pass.specs.Passes.{child_of, greater_child, child_after, strand_frame, sync_frame, returned_frame, wins_of}
use Rattle.spp_pass.specs.Stretches.{stretch_frame, placed, placed_at, joined, joined_weights, joined_child, child_wins}
use Rattle.spp_pass.proofs.Projected.{IsNeatIn, IsNeat}

some_greater : (w at y : ℕ) (c : Option ℕ) → is_some (greater_child w c at y) ≡ true
some_greater w at y None = refl
some_greater w at y (Some s) = by (nat_lt w y)
  where
    by : (b : Bool) → is_some (cond {A = Option ℕ} b (Some at) (Some s)) ≡ true
    by true = refl
    by false = refl

module _ {X : Type 0} where
  -- of the child that waits in the stretch's outer frame, the one that returns to it, and the one that waits in the frame before it
  greatest : (r g : Weights) (c d : Option ℕ) (first t : ℕ) (x y z : X) → IsNeatIn r c → IsNeatIn g d
      → cond (outruns (child_of g.child d) (g.spine + max r.child (r.spine + t))) (cond (outruns (child_of r.child c) (r.spine + t)) x y) z
      ≡ cond (outruns (child_of (joined_weights r c g).child (joined_child first r c g d)) ((joined_weights r c g).spine + t)) x (cond (is_some c && outruns (child_of g.child d) (g.spine + r.child)) y z)
  greatest r g None d first t x y z nr ng =
      let n : r.child ≡ 0 = nr refl in
      let m : g.spine + max r.child (r.spine + t) ≡ g.spine + r.spine + t = omega arith in
      ap (λ k. cond (outruns (child_of g.child d) k) x z) m
  greatest r g (Some s) None first t x y z nr ng =
      let n : g.child ≡ 0 = ng refl in
      ap (λ b. cond b x y) same
    where
      same : nat_lt r.child (r.spine + t) ≡ nat_lt (max g.child (g.spine + r.child)) (g.spine + r.spine + t)
      same = let n : g.child ≡ 0 = ng refl in grind (arith, nat_tests)
  greatest r g (Some s) (Some o) first t x y z nr ng =
      by (nat_lt g.child (g.spine + max r.child (r.spine + t))) (nat_lt r.child (r.spine + t)) (nat_lt (max g.child (g.spine + r.child)) (g.spine + r.spine + t)) (nat_lt g.child (g.spine + r.child)) one two three
      ∙ ap (λ b. cond b x (cond (nat_lt g.child (g.spine + r.child)) y z)) (sym (some_joined (nat_lt g.child (g.spine + r.child))))
    where
      -- what the tests tell of each other
      one : nat_lt r.child (r.spine + t) ≡ true → nat_lt g.child (g.spine + max r.child (r.spine + t)) ≡ nat_lt (max g.child (g.spine + r.child)) (g.spine + r.spine + t)
      one h = grind (arith, nat_tests)

      two : nat_lt r.child (r.spine + t) ≡ true → nat_lt (max g.child (g.spine + r.child)) (g.spine + r.spine + t) ≡ false → nat_lt g.child (g.spine + r.child) ≡ false
      two h k = grind (arith, nat_tests)

      three : nat_lt r.child (r.spine + t) ≡ false → (nat_lt g.child (g.spine + max r.child (r.spine + t)) ≡ nat_lt g.child (g.spine + r.child)) × (nat_lt (max g.child (g.spine + r.child)) (g.spine + r.spine + t) ≡ false)
      three h = ((grind (arith, nat_tests)), (grind (arith, nat_tests)))

      by : (a b c d : Bool) → (b ≡ true → a ≡ c) → (b ≡ true → c ≡ false → d ≡ false) → (b ≡ false → (a ≡ d) × (c ≡ false)) → cond a (cond b x y) z ≡ cond c x (cond d y z)
      by a true true d h k l = ap (λ q. cond q x z) (h refl)
      by a true false d h k l = ap (λ q. cond q x z) (h refl) ∙ ap (λ q. cond q y z) (sym (k refl refl))
      by a false c d h k l = ap (λ q. cond q y z) (l refl).0 ∙ ap (λ q. cond q x (cond d y z)) (sym (l refl).1)

      some_joined : (b : Bool) → outruns (child_of (max g.child (g.spine + r.child)) (cond b (Some (first + s)) (Some o))) (g.spine + r.spine + t) ≡ nat_lt (max g.child (g.spine + r.child)) (g.spine + r.spine + t)
      some_joined true = refl
      some_joined false = refl

  -- on one path, where the way through the child that returns bears u beyond its weight
  wins_one : (burdens : Burdens) (r g : Weights) (c d : Option ℕ) (first at weight t : ℕ) (x y z : X) → IsNeatIn r c → IsNeatIn g d → t ≡ weight + burdens.join
      → cond (is_some (child_after Spawned at t r c) && outruns (child_of g.child d) (g.spine + (after_child burdens Spawned weight r).child)) (cond (outruns (child_of r.child c) (r.spine + t)) x y) z
      ≡ cond (outruns (child_of (joined_weights r c g).child (joined_child first r c g d)) ((joined_weights r c g).spine + t)) x (cond (is_some c && outruns (child_of g.child d) (g.spine + r.child)) y z)
  wins_one burdens r g c d first at weight t x y z nr ng e =
      ap₂ (λ (b : Bool) (k : ℕ). cond (b && outruns (child_of g.child d) (g.spine + max r.child (r.spine + k))) (cond (outruns (child_of r.child c) (r.spine + t)) x y) z) (some_greater r.child at (r.spine + t) c) (sym e)
      ∙ greatest r g c d first t x y z nr ng

  -- a spawned frame f returns to the stretch's outer frame r, where g is the frame before it
  pub joined_wins : (on : Bool) (burdens : Burdens) (e : Enclosure) (before first caller : ℕ) (f r g : CountedFrame) (x y z : X) → f.kind ≡ Spawned → IsNeat r → IsNeat g
      → cond (on_path on (child_wins (returned_frame burdens f r) g)) (cond (on_path on (wins_of burdens f r)) x y) z
      ≡ cond (on_path on (wins_of burdens (placed e before first caller f) (joined first r g))) x (cond (on_path on (child_wins r g)) y z)
  joined_wins on burdens e before first caller f r g x y z spawned nr ng =
      ap (λ (k : FrameKind). cond (on_path on (child_wins (returned_frame burdens (record f { kind = k }) r) g)) (cond (on_path on (wins_of burdens f r)) x y) z) spawned ∙ by on
    where
      by : (on : Bool) → cond (on_path on (child_wins (returned_frame burdens (record f { kind = Spawned }) r) g)) (cond (on_path on (wins_of burdens f r)) x y) z
          ≡ cond (on_path on (wins_of burdens (placed e before first caller f) (joined first r g))) x (cond (on_path on (child_wins r g)) y z)
      by false = wins_one unburdened r.plain g.plain r.child g.child first f.at (close f.plain) (close f.plain) x y z nr.0 ng.0 (omega arith)
      by true = wins_one burdens r.burdened g.burdened r.burdened_child g.burdened_child first f.at (close f.burdened) (close f.burdened + burdens.join) x y z nr.1 ng.1 refl

pub called_wins : (burdens : Burdens) (f r g : CountedFrame) → f.kind ≡ Called → child_wins (returned_frame burdens f r) g ≡ child_wins r g
called_wins burdens f r g called = ap (λ (k : FrameKind). child_wins (returned_frame burdens (record f { kind = k }) r) g) called

pub strand_wins : (n : ℕ) (r g : CountedFrame) → child_wins (strand_frame n r) g ≡ child_wins r g
strand_wins n r g = refl

abbrev pub no_wins : OnPaths
no_wins = record { plain = false; burdened = false }

pub sync_wins : (r g : CountedFrame) → child_wins (sync_frame r) g ≡ no_wins
sync_wins r g = refl

pub stretch_wins : (g : CountedFrame) → child_wins stretch_frame g ≡ no_wins
stretch_wins g = refl

-- a frame returns to another of the stretch
outruns_at : (first w y : ℕ) (c : Option ℕ) → outruns (child_of w (placed_at first c)) y ≡ outruns (child_of w c) y
outruns_at first w y None = refl
outruns_at first w y (Some s) = refl

pub placed_wins : (burdens : Burdens) (e : Enclosure) (before first caller c2 : ℕ) (f h : CountedFrame) → wins_of burdens (placed e before first caller f) (placed e before first c2 h) ≡ wins_of burdens f h
placed_wins burdens e before first caller c2 f h =
    let p = outruns_at first h.plain.child (h.plain.spine + close f.plain) h.child in
    let b = outruns_at first h.burdened.child (h.burdened.spine + (close f.burdened + burdens.join)) h.burdened_child in
    λ j. record { plain = p j; burdened = b j }
