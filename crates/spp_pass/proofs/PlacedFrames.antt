-- What the frames of a stretch come to, where they are placed behind what was counted before it.
use Rattle.std.proofs.Common.{◌≡◌, ℕ, suc, ◌+◌, ◌-◌, ◌<◌, ◌≤◌, max, Bool, true, false, cond, ◌&&◌, Option, Some, None, is_some, refl, sym, ap, ◌∙◌, arith, ◌⊎◌, inl, inr}
use Rattle.std.specs.Prelude.{nat_lt, nat_le}
use Rattle.std.proofs.lemmas.Bool.Decides.{leb_tells, nat_tests}
use Rattle.std.proofs.lemmas.Bool.{lt-ltb}
use Rattle.spp_maxplus.specs.declared.state.Burdens.{Burdens}
use Rattle.spp_maxplus.specs.declared.weights.Weights.{Weights}
use Rattle.spp_maxplus.specs.State.{unburdened}
use Rattle.spp_maxplus.specs.Weights.{close, after_strand, after_sync}
use Rattle.spp_dag.specs.declared.stack.FrameKind.{FrameKind}
use Rattle.spp_dag.specs.declared.stack.FrameKind.TheVariants.{Root, Called, Spawned}
use Rattle.spp_ways.specs.Ways.{takes}
use Rattle.spp_ways.specs.Enclosures.{Enclosure, enclosed}
use Rattle.spp_pass.specs.declared.counted_frame.CountedFrame.{CountedFrame}
use Rattle.spp_pass.specs.LeanFrames.{after_child}
use Rattle.spp_pass.specs.Passes.{standing, greater_child, child_after, strand_frame, sync_frame, returned_frame, closed_of, closing_of, takes_of, wins_of}
use Rattle.spp_pass.specs.Stretches.{stretch_frame, placed, placed_at, joined, joined_weights, joined_child}
use Rattle.spp_pass.proofs.Projected.{IsNeatIn, IsNeat}

-- a test of two numbers, with what it tells
lt_tells : (a b : ℕ) → ((nat_lt a b ≡ true) × (a < b)) ⊎ ((nat_lt a b ≡ false) × (b ≤ a))
lt_tells a b = elim (leb_tells (suc a) b) [ inl h ↦ inl (h.0, (let x = h.1 in omega arith)) | inr h ↦ inr (h.0, (let x = h.1 in omega arith)) ]

-- ---- strands and syncs

strand_weights : (n : ℕ) (r : Weights) (c : Option ℕ) (g : Weights) → joined_weights (after_strand n r) c g ≡ after_strand n (joined_weights r c g)
strand_weights n r None g = ap (λ (k : ℕ). let w : Weights = record { spine = k; child = g.child } in w) (let e : g.spine + (r.spine + n) ≡ g.spine + r.spine + n = omega arith in e)
strand_weights n r (Some at) g = ap (λ (k : ℕ). let w : Weights = record { spine = k; child = max g.child (g.spine + r.child) } in w) (let e : g.spine + (r.spine + n) ≡ g.spine + r.spine + n = omega arith in e)

strand_child : (first n : ℕ) (r : Weights) (c : Option ℕ) (g : Weights) (d : Option ℕ) → joined_child first (after_strand n r) c g d ≡ joined_child first r c g d
strand_child first n r None g d = refl
strand_child first n r (Some at) g d = refl

pub joined_strand : (first n : ℕ) (r g : CountedFrame) → joined first (strand_frame n r) g ≡ strand_frame n (joined first r g)
joined_strand first n r g =
    let p = strand_weights n r.plain r.child g.plain in
    let b = strand_weights n r.burdened r.burdened_child g.burdened in
    let l : g.local + (r.local + n) ≡ g.local + r.local + n = omega arith in
    let c = strand_child first n r.plain r.child g.plain g.child in
    let d = strand_child first n r.burdened r.burdened_child g.burdened g.burdened_child in
    λ j. record g { plain = p j; burdened = b j; local = l j; child = c j; burdened_child = d j }

sync_weights : (r : Weights) (c : Option ℕ) (g : Weights) → IsNeatIn r c → g.child ≡ 0 → joined_weights (after_sync r) None g ≡ after_sync (joined_weights r c g)
sync_weights r None g neat none =
    let z : r.child ≡ 0 = neat refl in
    let s : g.spine + max r.spine r.child ≡ max (g.spine + r.spine) g.child = omega arith in
    λ j. record { spine = s j; child = none j }
sync_weights r (Some at) g neat none =
    let s : g.spine + max r.spine r.child ≡ max (g.spine + r.spine) (max g.child (g.spine + r.child)) = omega arith in
    λ j. record { spine = s j; child = none j }

-- where no child waits before the stretch
pub joined_sync : (first : ℕ) (r g : CountedFrame) → IsNeat r → IsNeat g → g.child ≡ None → g.burdened_child ≡ None → joined first (sync_frame r) g ≡ sync_frame (joined first r g)
joined_sync first r g neat_r neat_g none burdened_none =
    let p = sync_weights r.plain r.child g.plain neat_r.0 (neat_g.0 none) in
    let b = sync_weights r.burdened r.burdened_child g.burdened neat_r.1 (neat_g.1 burdened_none) in
    λ j. record g { plain = p j; burdened = b j; local = g.local + r.local; child = none j; burdened_child = burdened_none j }

-- before the stretch's first event
pub joined_start : (first : ℕ) (g : CountedFrame) → joined first stretch_frame g ≡ g
joined_start first g =
    let p : g.plain.spine + 0 ≡ g.plain.spine = omega arith in
    let b : g.burdened.spine + 0 ≡ g.burdened.spine = omega arith in
    let l : g.local + 0 ≡ g.local = omega arith in
    λ j. record g { plain = record { spine = p j; child = g.plain.child }; burdened = record { spine = b j; child = g.burdened.child }; local = l j }

-- ---- returns

-- to a frame of the stretch
placed_greater : (first w at y : ℕ) (c : Option ℕ) → greater_child w (placed_at first c) (first + at) y ≡ placed_at first (greater_child w c at y)
placed_greater first w at y None = refl
placed_greater first w at y (Some s) = by (nat_lt w y)
  where
    by : (b : Bool) → cond b (Some (first + at)) (Some (first + s)) ≡ placed_at first (cond b (Some at) (Some s))
    by true = refl
    by false = refl

placed_child : (first : ℕ) (kind : FrameKind) (at through : ℕ) (w : Weights) (c : Option ℕ) → child_after kind (first + at) through w (placed_at first c) ≡ placed_at first (child_after kind at through w c)
placed_child first Root at through w c = refl
placed_child first Called at through w c = refl
placed_child first Spawned at through w c = placed_greater first w.child at (w.spine + through) c

pub placed_returned : (burdens : Burdens) (e : Enclosure) (before first caller c2 : ℕ) (f h : CountedFrame)
    → returned_frame burdens (placed e before first caller f) (placed e before first c2 h) ≡ placed e before first c2 (returned_frame burdens f h)
placed_returned burdens e before first caller c2 f h =
    let c = placed_child first f.kind f.at (close f.plain) h.plain h.child in
    let d = placed_child first f.kind f.at (close f.burdened + burdens.join) h.burdened h.burdened_child in
    let r : CountedFrame = placed e before first c2 (returned_frame burdens f h) in
    λ j. record r { child = c j; burdened_child = d j }

-- to its outer frame
joined_returned_weights : (burdens : Burdens) (kind : FrameKind) (at weight through : ℕ) (r : Weights) (c : Option ℕ) (g : Weights) → IsNeatIn r c → through ≡ weight + burdens.join
    → joined_weights (after_child burdens kind weight r) (child_after kind at through r c) g ≡ after_child burdens kind weight (joined_weights r c g)
joined_returned_weights burdens Root at weight through r c g neat e = refl
joined_returned_weights burdens Called at weight through r None g neat e =
    let s : g.spine + (r.spine + weight) ≡ g.spine + r.spine + weight = omega arith in
    λ j. record { spine = s j; child = g.child }
joined_returned_weights burdens Called at weight through r (Some spawn) g neat e =
    let s : g.spine + (r.spine + weight) ≡ g.spine + r.spine + weight = omega arith in
    λ j. record { spine = s j; child = max g.child (g.spine + r.child) }
joined_returned_weights burdens Spawned at weight through r None g neat e =
    let z : r.child ≡ 0 = neat refl in
    let s : g.spine + (r.spine + burdens.continuation) ≡ g.spine + r.spine + burdens.continuation = omega arith in
    let m : max g.child (g.spine + max r.child (r.spine + (weight + burdens.join))) ≡ max g.child (g.spine + r.spine + (weight + burdens.join)) = omega arith in
    λ j. record { spine = s j; child = m j }
joined_returned_weights burdens Spawned at weight through r (Some spawn) g neat e =
    let s : g.spine + (r.spine + burdens.continuation) ≡ g.spine + r.spine + burdens.continuation = omega arith in
    let m : max g.child (g.spine + max r.child (r.spine + (weight + burdens.join))) ≡ max (max g.child (g.spine + r.child)) (g.spine + r.spine + (weight + burdens.join)) = omega arith in
    let w : Weights = record { spine = r.spine + burdens.continuation; child = max r.child (r.spine + (weight + burdens.join)) } in
    by (nat_lt r.child (r.spine + through)) w (λ j. record { spine = s j; child = m j })
  where
    by : (b : Bool) (w : Weights) → record { spine = g.spine + w.spine; child = max g.child (g.spine + w.child) } ≡ after_child burdens Spawned weight (joined_weights r (Some spawn) g)
        → joined_weights w (cond b (Some at) (Some spawn)) g ≡ after_child burdens Spawned weight (joined_weights r (Some spawn) g)
    by true w h = h
    by false w h = h

-- the greatest of three, of which the first is kept among equal ones
lt_max : (a b c : ℕ) → nat_lt (max a b) c ≡ (nat_lt b c && nat_lt a c)
lt_max a b c = grind (arith, nat_tests)

lt_false : (a b : ℕ) → b ≤ a → nat_lt a b ≡ false
lt_false a b h = grind (arith, nat_tests)

greater_of : (w p o q y : ℕ) (x : Bool) → greater_child w (cond x (Some p) (Some o)) q y ≡ cond (nat_lt w y) (Some q) (cond x (Some p) (Some o))
greater_of w p o q y true = refl
greater_of w p o q y false = refl

greatest_of : (a b c : ℕ) (d : Option ℕ) (p q : ℕ) → (d ≡ None → a ≡ 0) → greater_child (max a b) (greater_child a d p b) q c ≡ cond (nat_lt b c) (greater_child a d q c) (greater_child a d p b)
greatest_of a b c None p q neat =
    let z : a ≡ 0 = neat refl in
    let m : max a b ≡ b = omega arith in
    ap (λ k. cond (nat_lt k c) (Some q) (Some p)) m
greatest_of a b c (Some o) p q neat =
    greater_of (max a b) p o q c (nat_lt a b) ∙ ap (λ u. cond u (Some q) (cond (nat_lt a b) (Some p) (Some o))) (lt_max a b c) ∙ by (nat_lt a b) (nat_lt b c) (nat_lt a c) last
  where
    last : nat_lt b c ≡ true → nat_lt a c ≡ false → nat_lt a b ≡ false
    last h k = grind (arith, nat_tests)

    by : (x y z : Bool) → (y ≡ true → z ≡ false → x ≡ false) → cond (y && z) (Some q) (cond x (Some p) (Some o)) ≡ cond y (cond z (Some q) (Some o)) (cond x (Some p) (Some o))
    by x true true h = refl
    by x true false h = ap (λ b. cond b (Some p) (Some o)) (h refl refl)
    by x false z h = refl

joined_some : (first : ℕ) (w g : Weights) (d : Option ℕ) (at spawn : ℕ) (b : Bool)
    → joined_child first w (cond b (Some at) (Some spawn)) g d ≡ cond b (greater_child g.child d (first + at) (g.spine + w.child)) (greater_child g.child d (first + spawn) (g.spine + w.child))
joined_some first w g d at spawn true = refl
joined_some first w g d at spawn false = refl

joined_returned_child : (first : ℕ) (burdens : Burdens) (kind : FrameKind) (at weight through : ℕ) (r : Weights) (c : Option ℕ) (g : Weights) (d : Option ℕ) → IsNeatIn r c → IsNeatIn g d → through ≡ weight + burdens.join
    → joined_child first (after_child burdens kind weight r) (child_after kind at through r c) g d ≡ child_after kind (first + at) through (joined_weights r c g) (joined_child first r c g d)
joined_returned_child first burdens Root at weight through r c g d nr ng e = refl
joined_returned_child first burdens Called at weight through r None g d nr ng e = refl
joined_returned_child first burdens Called at weight through r (Some spawn) g d nr ng e = refl
joined_returned_child first burdens Spawned at weight through r None g d nr ng e =
    let z : r.child ≡ 0 = nr refl in
    let m : g.spine + max r.child (r.spine + (weight + burdens.join)) ≡ g.spine + r.spine + through = omega arith in
    ap (λ k. greater_child g.child d (first + at) k) m
joined_returned_child first burdens Spawned at weight through r (Some spawn) g d nr ng e =
    let w : Weights = record { spine = r.spine + burdens.continuation; child = max r.child (r.spine + (weight + burdens.join)) } in
    let waits : ℕ = g.spine + r.child in
    let comes : ℕ = g.spine + r.spine + through in
    let left = joined_some first w g d at spawn (nat_lt r.child (r.spine + through)) in
    let right = greatest_of g.child waits comes d (first + spawn) (first + at) ng in
    elim (lt_tells r.child (r.spine + through)) [
      | inl h ↦
          let l = h.1 in
          let m : g.spine + w.child ≡ comes = omega arith in
          let t : nat_lt waits comes ≡ true = lt-ltb waits comes (omega arith) in
          left ∙ ap (λ b. cond b (greater_child g.child d (first + at) (g.spine + w.child)) (greater_child g.child d (first + spawn) (g.spine + w.child))) h.0
          ∙ ap (λ k. greater_child g.child d (first + at) k) m
          ∙ sym (right ∙ ap (λ b. cond b (greater_child g.child d (first + at) comes) (greater_child g.child d (first + spawn) waits)) t)
      | inr h ↦
          let l = h.1 in
          let m : g.spine + w.child ≡ waits = omega arith in
          let t : nat_lt waits comes ≡ false = lt_false waits comes (omega arith) in
          left ∙ ap (λ b. cond b (greater_child g.child d (first + at) (g.spine + w.child)) (greater_child g.child d (first + spawn) (g.spine + w.child))) h.0
          ∙ ap (λ k. greater_child g.child d (first + spawn) k) m
          ∙ sym (right ∙ ap (λ b. cond b (greater_child g.child d (first + at) comes) (greater_child g.child d (first + spawn) waits)) t)
    ]

pub joined_returned : (burdens : Burdens) (e : Enclosure) (before first caller : ℕ) (f r g : CountedFrame) → IsNeat r → IsNeat g
    → returned_frame burdens (placed e before first caller f) (joined first r g) ≡ joined first (returned_frame burdens f r) g
joined_returned burdens e before first caller f r g nr ng =
    let zero_more : close f.plain ≡ close f.plain + 0 = omega arith in
    let p = joined_returned_weights unburdened f.kind f.at (close f.plain) (close f.plain) r.plain r.child g.plain nr.0 zero_more in
    let b = joined_returned_weights burdens f.kind f.at (close f.burdened) (close f.burdened + burdens.join) r.burdened r.burdened_child g.burdened nr.1 refl in
    let c = joined_returned_child first unburdened f.kind f.at (close f.plain) (close f.plain) r.plain r.child g.plain g.child nr.0 ng.0 zero_more in
    let d = joined_returned_child first burdens f.kind f.at (close f.burdened) (close f.burdened + burdens.join) r.burdened r.burdened_child g.burdened g.burdened_child nr.1 ng.1 refl in
    sym (λ j. record g { plain = p j; burdened = b j; local = g.local + r.local; child = c j; burdened_child = d j })

-- ---- what is told of a frame

takes_at : (first : ℕ) (w : Weights) (c : Option ℕ) → takes (standing w (placed_at first c)) ≡ takes (standing w c)
takes_at first w None = refl
takes_at first w (Some s) = by (nat_le w.spine w.child)
  where
    by : (b : Bool) → is_some (cond {A = Option ℕ} b (Some (first + s)) None) ≡ is_some (cond {A = Option ℕ} b (Some s) None)
    by true = refl
    by false = refl

pub placed_takes : (e : Enclosure) (before first caller : ℕ) (f : CountedFrame) → takes_of (placed e before first caller f) ≡ takes_of f
placed_takes e before first caller f = λ j. record { plain = takes_at first f.plain f.child j; burdened = takes_at first f.burdened f.burdened_child j }

takes_in : (first : ℕ) (r : Weights) (c : Option ℕ) (g : Weights) (d : Option ℕ) → g.child ≡ 0 → d ≡ None → takes (standing (joined_weights r c g) (joined_child first r c g d)) ≡ takes (standing r c)
takes_in first r c g (Some o) z none = absurd cc
takes_in first r None g None z none = refl
takes_in first r (Some at) g None z none = ap (λ b. is_some (cond {A = Option ℕ} b (Some (first + at)) None)) same ∙ by (nat_le r.spine r.child)
  where
    same : nat_le (g.spine + r.spine) (max g.child (g.spine + r.child)) ≡ nat_le r.spine r.child
    same = grind (arith, nat_tests)

    by : (b : Bool) → is_some (cond {A = Option ℕ} b (Some (first + at)) None) ≡ is_some (cond {A = Option ℕ} b (Some at) None)
    by true = refl
    by false = refl

pub joined_takes : (first : ℕ) (r g : CountedFrame) → IsNeat g → g.child ≡ None → g.burdened_child ≡ None → takes_of (joined first r g) ≡ takes_of r
joined_takes first r g neat none burdened_none =
    let p = takes_in first r.plain r.child g.plain g.child (neat.0 none) none in
    let b = takes_in first r.burdened r.burdened_child g.burdened g.burdened_child (neat.1 burdened_none) burdened_none in
    λ j. record { plain = p j; burdened = b j }

pub placed_closed : (e : Enclosure) (before first caller work : ℕ) (f : CountedFrame) → closed_of (placed e before first caller f) (before + work) ≡ enclosed e f.site caller (closed_of f work)
placed_closed e before first caller work f =
    let w : (before + work) - (before + f.before) ≡ work - f.before = omega arith in
    λ j. record (enclosed e f.site caller (closed_of f work)) { work = w j }

-- what its return tells, but for which child is greater
pub placed_closing : (burdens : Burdens) (e : Enclosure) (before first caller work : ℕ) (f x : CountedFrame) → closing_of burdens (before + work) (placed e before first caller f) x ≡ record {
  kind = f.kind;
  site = f.site;
  closed = enclosed e f.site caller (closed_of f work);
  takes = takes_of f;
  wins = wins_of burdens (placed e before first caller f) x;
}
placed_closing burdens e before first caller work f x =
    let closed = placed_closed e before first caller work f in
    let takes = placed_takes e before first caller f in
    λ j. record { kind = f.kind; site = f.site; closed = closed j; takes = takes j; wins = wins_of burdens (placed e before first caller f) x }
