-- What one event makes of the sums of the open frames, and of their number.
use Rattle.std.proofs.Common.{◌≡◌, ℕ, zero, suc, ◌+◌, ◌<◌, ◌≤◌, Bool, true, false, cond, List, [], ◌∷◌, length, Option, Some, None, Ok, refl, subst, arith}
use Rattle.std.specs.Prelude.{nat_lt}
use Rattle.spp_event.specs.declared.records.Event.{Event}
use Rattle.spp_event.specs.declared.records.Event.TheVariants.{Strand, Call, Spawn, Ret, Sync}
use Rattle.spp_frame.specs.Nesting.{opens_frame, closes_frame, weight, wrong}
use Rattle.spp_maxplus.specs.declared.state.Burdens.{Burdens}
use Rattle.spp_maxplus.specs.declared.state.State.{State}
use Rattle.spp_maxplus.specs.Candidate.{greatest, better}
use Rattle.spp_maxplus.specs.State.{unburdened, close}
use Rattle.spp_dag.specs.declared.stack.OpenFrame.{OpenFrame}
use Rattle.spp_dag.specs.declared.stack.FrameKind.{FrameKind}
use Rattle.spp_dag.specs.declared.stack.FrameKind.TheVariants.{Root, Called, Spawned}
use Rattle.spp_dag.specs.Stack.{advance, after_child}
use Rattle.spp_dag.specs.Limits.{plain_sum, burdened_sum}

-- ---- one state

pub greatest_more : (n m : ℕ) (c : Option (ℕ × ℕ)) → greatest (n + m) c ≤ greatest n c + m
greatest_more n m None = omega arith
greatest_more n m (Some c) = omega arith

greatest_spawned : (n w go back at : ℕ) (c : Option (ℕ × ℕ)) → greatest (n + go) (better c (Some (n + (w + back), at))) ≤ w + greatest n c + (go + back)
greatest_spawned n w go back at None = omega arith
greatest_spawned n w go back at (Some c) = by (nat_lt c.0 (n + (w + back)))
  where
    by : (b : Bool) → greatest (n + go) (cond b (Some (n + (w + back), at)) (Some c)) ≤ w + greatest n (Some c) + (go + back)
    by true = omega arith
    by false = omega arith

-- a child that closes with w raises its parent by w, and by the burdens at most
pub child_adds : (burdens : Burdens) (kind : FrameKind) (at w : ℕ) (s : State)
    → close (after_child burdens kind at w s) ≤ w + close s + (burdens.continuation + burdens.join)
child_adds burdens Root at w s = omega arith
child_adds burdens Called at w s = let h = greatest_more s.spine w s.child in omega arith
child_adds burdens Spawned at w s = greatest_spawned s.spine w burdens.continuation burdens.join at s.child

-- ---- one event

-- an event that the machine takes from the frames fs to gs
pub record Step (burdens : Burdens) (e : Event) (fs gs : List OpenFrame) : Type 0 where
  pub plain : plain_sum gs ≤ plain_sum fs + weight (Ok e)
  pub burdened : burdened_sum gs ≤ burdened_sum fs + weight (Ok e) + (burdens.continuation + burdens.join)
  pub level : length gs + cond (closes_frame (Ok e)) 1 0 ≡ length fs + cond (opens_frame (Ok e)) 1 0
  pub some : 0 < length gs
  pub right : (d : ℕ) → length fs ≡ suc d → wrong (Some (Ok e)) d ≡ None

some_same : (fs gs : List OpenFrame) → Some fs ≡ Some gs → fs ≡ gs
some_same fs gs h = cc

right_return : (n d : ℕ) → suc (suc n) ≡ suc d → wrong (Some (Ok Ret)) d ≡ None
right_return n zero h = absurd (omega arith)
right_return n (suc d) h = refl

pub step : (burdens : Burdens) (i : ℕ) (e : Event) (fs gs : List OpenFrame) → advance burdens i e fs ≡ Some gs → Step burdens e fs gs
step burdens i e [] gs h = absurd (cc)
step burdens i (Strand n) (f ∷ fs) gs h =
    let a = greatest_more f.plain.spine n f.plain.child in
    let b = greatest_more f.burdened.spine n f.burdened.child in
    subst (λ gs. Step burdens (Strand n) (f ∷ fs) gs) (some_same _ gs h)
    (record { plain = omega arith; burdened = omega arith; level = refl; some = omega arith; right = λ d e. refl })
step burdens i (Call s u) (f ∷ fs) gs h =
    subst (λ gs. Step burdens (Call s u) (f ∷ fs) gs) (some_same _ gs h)
    (record { plain = omega arith; burdened = omega arith; level = omega arith; some = omega arith; right = λ d e. refl })
step burdens i (Spawn s u) (f ∷ fs) gs h =
    subst (λ gs. Step burdens (Spawn s u) (f ∷ fs) gs) (some_same _ gs h)
    (record { plain = omega arith; burdened = omega arith; level = omega arith; some = omega arith; right = λ d e. refl })
step burdens i Sync (f ∷ fs) gs h =
    subst (λ gs. Step burdens Sync (f ∷ fs) gs) (some_same _ gs h)
    (record { plain = omega arith; burdened = omega arith; level = refl; some = omega arith; right = λ d e. refl })
step burdens i Ret (f ∷ []) gs h = absurd (cc)
step burdens i Ret (f ∷ g ∷ fs) gs h =
    let a = child_adds unburdened f.kind f.at (close f.plain) g.plain in
    let b = child_adds burdens f.kind f.at (close f.burdened) g.burdened in
    subst (λ gs. Step burdens Ret (f ∷ g ∷ fs) gs) (some_same _ gs h)
    (record { plain = omega arith; burdened = omega arith; level = omega arith; some = omega arith; right = λ d e. right_return (length fs) d e })

-- the machine stops at a return of the last frame alone
pub stops : (burdens : Burdens) (i d : ℕ) (fs : List OpenFrame) → advance burdens i Ret fs ≡ None → length fs ≡ suc d → d ≡ 0
stops burdens i d [] h l = absurd (omega arith)
stops burdens i d (f ∷ []) h l = omega arith
stops burdens i d (f ∷ g ∷ fs) h l = absurd (cc)
