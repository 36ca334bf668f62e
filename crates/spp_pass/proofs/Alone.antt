-- What a stretch of events keeps whose enclosing frames aren't known.
use Rattle.std.proofs.Common.{◌≡◌, ℕ, suc, ◌+◌, ◌*◌, ◌<◌, ◌≤◌, ◌^◌, Bool, true, false, cond, not, ◌||◌, nat_eq, List, [], ◌∷◌, map, Option, Some, None, refl, sym, ap, subst, ◌∙◌, arith}
use Rattle.std.specs.Prelude.{nat_lt}
use Rattle.spp_maxplus.specs.declared.state.Burdens.{Burdens}
use Rattle.spp_maxplus.specs.declared.weights.Weights.{Weights}
use Rattle.spp_maxplus.specs.State.{unburdened}
use Rattle.spp_maxplus.specs.Weights.{close}
use Rattle.spp_dag.specs.declared.stack.FrameKind.{FrameKind}
use Rattle.spp_dag.specs.declared.stack.FrameKind.TheVariants.{Root, Called, Spawned}
use Rattle.spp_site.specs.Marks.{with_mark}
use Rattle.spp_site.proofs.Marked.{marked_less}
use Rattle.spp_pass.specs.declared.counted_frame.CountedFrame.{CountedFrame}
use Rattle.spp_pass.specs.LeanFrames.{after_child, plain_sum, burdened_sum}
use Rattle.spp_pass.specs.Passes.{Seen, OnTop, HasOpen, CanAdd, CanPop, strand_seen, sync_seen, open_seen, popped_seen, greater_child, child_after, strand_frame, sync_frame, returned_frame}
use Rattle.spp_pass.specs.Stretches.{stretch_seen, next_seen, with_frames}
use Rattle.spp_pass.proofs.Projected.{lean, AllNeat, neat_returned}

-- ---- the frames

-- whether some frame of the stretch, the outer one aside, was entered by a site, or runs a function
abbrev pub sites_in : List CountedFrame → ℕ → Bool
sites_in fs y = with_frames (λ (f : CountedFrame). f.site) fs (λ (x : ℕ). false) y

abbrev pub funcs_in : List CountedFrame → ℕ → Bool
funcs_in fs y = with_frames (λ (f : CountedFrame). f.func) fs (λ (x : ℕ). false) y

abbrev pub IsOuter : CountedFrame → Type 0
IsOuter f = (f.kind ≡ Root) × (f.top_site ≡ true) × (f.top_caller ≡ true) × (f.top_func ≡ true)

-- a frame that was opened by h, below which are fs
abbrev pub IsInner : CountedFrame → CountedFrame → List CountedFrame → Type 0
IsInner f h fs = (f.site < 65536) × (f.func < 65536) × (f.kind ≡ Root → ⊥)
    × (f.top_site ≡ not (sites_in (h ∷ fs) f.site)) × (f.top_func ≡ not (funcs_in (h ∷ fs) f.func)) × (f.top_caller ≡ h.top_func)

abbrev pub AreNested : List CountedFrame → Type 0
AreNested [] = ⊥
AreNested (r ∷ []) = IsOuter r
AreNested (f ∷ h ∷ fs) = IsInner f h fs × AreNested (h ∷ fs)

-- the position of a waiting child is before k
abbrev pub IsSince : ℕ → Option ℕ → Type 0
IsSince k None = Unit {0}
IsSince k (Some at) = at < k

-- what a frame has, after k events of that work
abbrev pub IsWithin : ℕ → ℕ → CountedFrame → Type 0
IsWithin k w f = (f.local ≤ w) × (f.before ≤ w) × (f.at ≤ k) × IsSince k f.child × IsSince k f.burdened_child

abbrev pub AllWithin : ℕ → ℕ → List CountedFrame → Type 0
AllWithin k w [] = Unit {0}
AllWithin k w (f ∷ fs) = IsWithin k w f × AllWithin k w fs

-- after k events the stretch has s
pub record Alone (k : ℕ) (s : Seen) : Type 0 where
  pub nested : AreNested s.frames
  pub neat : AllNeat s.frames
  pub within : AllWithin k s.work s.frames
  pub plain : plain_sum (map lean s.frames) ≤ s.work
  pub burdened : burdened_sum (map lean s.frames) ≤ s.work + 8589934592 * k
  pub small : s.work ≤ 18446744073709551615 * k
  pub sites : (y : ℕ) → s.open_sites y ≡ sites_in s.frames y
  pub funcs : (y : ℕ) → s.open_funcs y ≡ funcs_in s.frames y

-- ---- one frame

-- the innermost frame is no mark's where it is the outer one, and else its number alone tells
pub same_top : (of : CountedFrame → ℕ) (f h : CountedFrame) (fs : List CountedFrame) (marks : ℕ → Bool) (y : ℕ) → of f ≡ of h → with_frames of (f ∷ fs) marks y ≡ with_frames of (h ∷ fs) marks y
same_top of f h [] marks y e = refl
same_top of f h (x ∷ fs) marks y e = ap (λ n. with_mark n (with_frames of (x ∷ fs) marks) y) e

-- the frame with other weights
abbrev weighed : Weights → Weights → ℕ → Option ℕ → Option ℕ → CountedFrame → CountedFrame
weighed p b l c d f = record f { plain = p; burdened = b; local = l; child = c; burdened_child = d }

nested_weighed : (p b : Weights) (l : ℕ) (c d : Option ℕ) (f : CountedFrame) (fs : List CountedFrame) → AreNested (f ∷ fs) → AreNested (weighed p b l c d f ∷ fs)
nested_weighed p b l c d f [] h = h
nested_weighed p b l c d f (x ∷ fs) h = h

since_more : (k m : ℕ) (c : Option ℕ) → k ≤ m → IsSince k c → IsSince m c
since_more k m None le h = tt
since_more k m (Some at) le h = omega arith

within_more : (k m w v : ℕ) (fs : List CountedFrame) → k ≤ m → w ≤ v → AllWithin k w fs → AllWithin m v fs
within_more k m w v [] le more h = tt
within_more k m w v (f ∷ fs) le more h = (
  (
    (let a = h.0.0 in omega arith),
    (let a = h.0.1 in omega arith),
    (let a = h.0.2 in omega arith),
    since_more k m f.child le h.0.3,
    since_more k m f.burdened_child le h.0.4,
  ),
  within_more k m w v fs le more h.1,
)

greater_since : (k w at y : ℕ) (c : Option ℕ) → at < k → IsSince k c → IsSince k (greater_child w c at y)
greater_since k w at y None lt h = lt
greater_since k w at y (Some s) lt h = by (nat_lt w y)
  where
    by : (b : Bool) → IsSince k (cond b (Some at) (Some s))
    by true = lt
    by false = h

child_since : (k at through : ℕ) (kind : FrameKind) (w : Weights) (c : Option ℕ) → at < k → IsSince k c → IsSince k (child_after kind at through w c)
child_since k at through Root w c lt h = h
child_since k at through Called w c lt h = h
child_since k at through Spawned w c lt h = greater_since k w.child at (w.spine + through) c lt h

child_adds : (burdens : Burdens) (kind : FrameKind) (weight : ℕ) (w : Weights) → close (after_child burdens kind weight w) ≤ weight + close w + (burdens.continuation + burdens.join)
child_adds burdens Root weight w = omega arith
child_adds burdens Called weight w = omega arith
child_adds burdens Spawned weight w = omega arith

-- ---- the start

pub alone_start : Alone 0 stretch_seen
alone_start = record {
  nested = (refl, refl, refl, refl);
  neat = ((λ c. refl, λ c. refl), tt);
  within = ((omega arith, omega arith, omega arith, tt, tt), tt);
  plain = omega arith;
  burdened = omega arith;
  small = omega arith;
  sites = λ y. refl;
  funcs = λ y. refl;
}

pub alone_more : (k m : ℕ) (s : Seen) → k ≤ m → Alone k s → Alone m s
alone_more k m s le a = record {
  nested = a.nested;
  neat = a.neat;
  within = within_more k m s.work s.work s.frames le (omega arith) a.within;
  plain = a.plain;
  burdened = (let b = a.burdened in omega arith);
  small = (let b = a.small in omega arith);
  sites = a.sites;
  funcs = a.funcs;
}

-- tables and choices aside
pub alone_same : (k : ℕ) (s t : Seen) → s.frames ≡ t.frames → s.work ≡ t.work → ((y : ℕ) → s.open_sites y ≡ t.open_sites y) → ((y : ℕ) → s.open_funcs y ≡ t.open_funcs y) → Alone k s → Alone k t
alone_same k s t frames work sites funcs a =
    let u : Seen = record t { frames = s.frames; work = s.work } in
    let is : Alone k u = record {
      nested = a.nested;
      neat = a.neat;
      within = a.within;
      plain = a.plain;
      burdened = a.burdened;
      small = a.small;
      sites = λ y. sym (sites y) ∙ a.sites y;
      funcs = λ y. sym (funcs y) ∙ a.funcs y;
    } in
    subst (Alone k) (let e : u ≡ t = λ j. record t { frames = frames j; work = work j } in e) is

-- the stretch, seen with its frames as they are told
pub alone_as : (k : ℕ) (s : Seen) (fs : List CountedFrame) → s.frames ≡ fs → Alone k s → Alone k (record s { frames = fs })
alone_as k s fs e a = subst (λ (l : List CountedFrame). Alone k (record s { frames = l })) e a

-- ---- one event

pub alone_strand : (k n : ℕ) → n < 2 ^ 64 → (s : Seen) → Alone k s → Alone (suc k) (strand_seen n s)
alone_strand k n short s a = by s.frames a
  where
    by : (frames : List CountedFrame) → Alone k (record s { frames = frames }) → Alone (suc k) (strand_seen n (record s { frames = frames }))
    by [] a = absurd a.nested
    by (f ∷ fs) a =
        let p : close f.plain + _ ≤ s.work = a.plain in
        let b : close f.burdened + _ ≤ s.work + 8589934592 * k = a.burdened in
        let w : s.work ≤ 18446744073709551615 * k = a.small in
        record {
          nested = (let t : CountedFrame = strand_frame n f in nested_weighed t.plain t.burdened t.local t.child t.burdened_child f fs a.nested);
          neat = a.neat;
          within = (
            (
              (let x = a.within.0.0 in omega arith),
              (let x = a.within.0.1 in omega arith),
              (let x = a.within.0.2 in omega arith),
              since_more k (suc k) f.child (omega arith) a.within.0.3,
              since_more k (suc k) f.burdened_child (omega arith) a.within.0.4,
            ),
            within_more k (suc k) s.work (s.work + n) fs (omega arith) (omega arith) a.within.1,
          );
          plain = omega arith;
          burdened = omega arith;
          small = omega arith;
          sites = λ y. a.sites y ∙ same_top (λ (x : CountedFrame). x.site) f (strand_frame n f) fs (λ (x : ℕ). false) y refl;
          funcs = λ y. a.funcs y ∙ same_top (λ (x : CountedFrame). x.func) f (strand_frame n f) fs (λ (x : ℕ). false) y refl;
        }

pub alone_sync : (k at : ℕ) (s : Seen) → Alone k s → Alone (suc k) (sync_seen at s)
alone_sync k at s a = by s.frames a
  where
    by : (frames : List CountedFrame) → Alone k (record s { frames = frames }) → Alone (suc k) (sync_seen at (record s { frames = frames }))
    by [] a = absurd a.nested
    by (f ∷ fs) a =
        let p : close f.plain + _ ≤ s.work = a.plain in
        let b : close f.burdened + _ ≤ s.work + 8589934592 * k = a.burdened in
        let w : s.work ≤ 18446744073709551615 * k = a.small in
        record {
          nested = (let t : CountedFrame = sync_frame f in nested_weighed t.plain t.burdened t.local t.child t.burdened_child f fs a.nested);
          neat = ((λ c. refl, λ c. refl), a.neat.1);
          within = (
            (
              (let x = a.within.0.0 in omega arith),
              (let x = a.within.0.1 in omega arith),
              (let x = a.within.0.2 in omega arith),
              tt,
              tt,
            ),
            within_more k (suc k) s.work s.work fs (omega arith) (omega arith) a.within.1,
          );
          plain = omega arith;
          burdened = omega arith;
          small = omega arith;
          sites = λ y. a.sites y ∙ same_top (λ (x : CountedFrame). x.site) f (sync_frame f) fs (λ (x : ℕ). false) y refl;
          funcs = λ y. a.funcs y ∙ same_top (λ (x : CountedFrame). x.func) f (sync_frame f) fs (λ (x : ℕ). false) y refl;
        }

pub alone_open : (k : ℕ) (kind : FrameKind) → (kind ≡ Root → ⊥) → (site func : ℕ) → site < 65536 → func < 65536 → (s : Seen) → Alone k s → Alone (suc k) (open_seen kind k site func s)
alone_open k kind inner site func few some s a = by s.frames a
  where
    by : (frames : List CountedFrame) → Alone k (record s { frames = frames }) → Alone (suc k) (open_seen kind k site func (record s { frames = frames }))
    by [] a = absurd a.nested
    by (f ∷ fs) a =
        let p : close f.plain + _ ≤ s.work = a.plain in
        let b : close f.burdened + _ ≤ s.work + 8589934592 * k = a.burdened in
        let w : s.work ≤ 18446744073709551615 * k = a.small in
        record {
          nested = ((few, some, inner, ap not (a.sites site), ap not (a.funcs func), refl), a.nested);
          neat = ((λ c. refl, λ c. refl), a.neat);
          within = ((omega arith, omega arith, omega arith, tt, tt), within_more k (suc k) s.work s.work (f ∷ fs) (omega arith) (omega arith) a.within);
          plain = omega arith;
          burdened = omega arith;
          small = omega arith;
          sites = λ y. ap (λ c. nat_eq site y || c) (a.sites y);
          funcs = λ y. ap (λ c. nat_eq func y || c) (a.funcs y);
        }

pub alone_pop : (k : ℕ) (burdens : Burdens) → burdens.continuation + burdens.join ≤ 8589934592 → (at : ℕ) (f h : CountedFrame) (fs : List CountedFrame) (s : Seen) → s.frames ≡ f ∷ h ∷ fs → Alone k s
    → Alone (suc k) (popped_seen burdens at f h fs s)
alone_pop k burdens light at f h fs s e alone =
    let a = alone_as k s (f ∷ h ∷ fs) e alone in
    let p : close f.plain + (close h.plain + _) ≤ s.work = a.plain in
    let b : close f.burdened + (close h.burdened + _) ≤ s.work + 8589934592 * k = a.burdened in
    let w : s.work ≤ 18446744073709551615 * k = a.small in
    let x = child_adds unburdened f.kind (close f.plain) h.plain in
    let y = child_adds burdens f.kind (close f.burdened) h.burdened in
    let l : f.at ≤ k = a.within.0.2 in
    record {
      nested = (let t : CountedFrame = returned_frame burdens f h in nested_weighed t.plain t.burdened t.local t.child t.burdened_child h fs a.nested.1);
      neat = (neat_returned burdens f h a.neat.1.0, a.neat.1.1);
      within = (
        (
          (let x = a.within.1.0.0 in omega arith),
          (let x = a.within.1.0.1 in omega arith),
          (let x = a.within.1.0.2 in omega arith),
          child_since (suc k) f.at (close f.plain) f.kind h.plain h.child (omega arith) (since_more k (suc k) h.child (omega arith) a.within.1.0.3),
          child_since (suc k) f.at (close f.burdened + burdens.join) f.kind h.burdened h.burdened_child (omega arith) (since_more k (suc k) h.burdened_child (omega arith) a.within.1.0.4),
        ),
        within_more k (suc k) s.work s.work fs (omega arith) (omega arith) a.within.1.1,
      );
      plain = omega arith;
      burdened = omega arith;
      small = omega arith;
      sites = λ y. marked_less f.top_site f.site s.open_sites (sites_in (h ∷ fs)) a.nested.0.3 a.sites y ∙ same_top (λ (x : CountedFrame). x.site) h (returned_frame burdens f h) fs (λ (x : ℕ). false) y refl;
      funcs = λ y. marked_less f.top_func f.func s.open_funcs (funcs_in (h ∷ fs)) a.nested.0.4 a.funcs y ∙ same_top (λ (x : CountedFrame). x.func) h (returned_frame burdens f h) fs (λ (x : ℕ). false) y refl;
    }

-- the next stretch
pub alone_next : (k m : ℕ) (s : Seen) (r : CountedFrame) → s.frames ≡ r ∷ [] → Alone k s → Alone m (next_seen s)
alone_next k m s r e alone =
    let a = alone_as k s (r ∷ []) e alone in
    let next : Seen = next_seen (record s { frames = r ∷ [] }) in
    let is : Alone m next = record {
      nested = (refl, refl, refl, refl);
      neat = ((λ c. refl, λ c. refl), tt);
      within = ((omega arith, omega arith, omega arith, tt, tt), tt);
      plain = omega arith;
      burdened = omega arith;
      small = omega arith;
      sites = a.sites;
      funcs = a.funcs;
    } in
    subst (λ (l : List CountedFrame). Alone m (next_seen (record s { frames = l }))) (sym e) is

-- ---- what the steps need

pub alone_has_open : (k : ℕ) (s : Seen) → Alone k s → HasOpen s
alone_has_open k s a = by s.frames a
  where
    by : (frames : List CountedFrame) → Alone k (record s { frames = frames }) → OnTop (λ f. Unit {0}) frames
    by [] a = absurd a.nested
    by (f ∷ fs) a = tt

pub alone_can_add : (k n : ℕ) → k ≤ 268435456 → n < 2 ^ 64 → (s : Seen) → Alone k s → CanAdd n s
alone_can_add k n few short s a = by s.frames a
  where
    by : (frames : List CountedFrame) → Alone k (record s { frames = frames }) → CanAdd n (record s { frames = frames })
    by [] a = absurd a.nested
    by (f ∷ fs) a =
        let p : close f.plain + _ ≤ s.work = a.plain in
        let b : close f.burdened + _ ≤ s.work + 8589934592 * k = a.burdened in
        let w : s.work ≤ 18446744073709551615 * k = a.small in
        let q : f.local ≤ s.work = a.within.0.0 in
        (record { plain = omega arith; burdened = omega arith; local = omega arith }, omega arith)

pub alone_can_pop : (k : ℕ) (burdens : Burdens) → burdens.continuation + burdens.join ≤ 8589934592 → k ≤ 268435456 → (s : Seen) → Alone k s → CanPop burdens s s.frames
alone_can_pop k burdens light few s a = by s.frames a
  where
    by : (frames : List CountedFrame) → Alone k (record s { frames = frames }) → CanPop burdens s frames
    by [] a = absurd a.nested
    by (f ∷ []) a = tt
    by (f ∷ h ∷ fs) a =
        let p : close f.plain + (close h.plain + _) ≤ s.work = a.plain in
        let b : close f.burdened + (close h.burdened + _) ≤ s.work + 8589934592 * k = a.burdened in
        let w : s.work ≤ 18446744073709551615 * k = a.small in
        (record { plain = omega arith; burdened = omega arith }, a.within.0.1)
