-- What a reading of a stretch keeps, from one event to the next.
use Rattle.std.proofs.Common.{◌≡◌, ℕ, suc, ◌+◌, ◌-◌, ◌≤◌, ◌<◌, Bool, true, false, List, [], ◌∷◌, length, map, reverse, None, refl, sym, ap, subst, ◌∙◌, arith}
use Rattle.std.proofs.lemmas.List.{length-reverse}
use Rattle.std.specs.Global.{Box}
use Rattle.spp_event.specs.declared.records.Event.{Event}
use Rattle.spp_event.specs.Recordings.{Recording}
use Rattle.spp_maxplus.specs.declared.state.Burdens.{Burdens}
use Rattle.spp_dag.proofs.OpenEntries.{AreOpen}
use Rattle.spp_ways.specs.declared.log.Merged.{Merged}
use Rattle.spp_ways.specs.declared.log.LogRow.{LogRow}
use Rattle.spp_ways.specs.declared.frame_ways.FrameWays.{FrameWays}
use Rattle.spp_ways.specs.declared.open_ways.OpenWays.{OpenWays}
use Rattle.spp_ways.specs.Ways.{Ways, no_way}
use Rattle.spp_ways.specs.OpenWays.{on_path}
use Rattle.spp_ways.specs.Enclosures.{Enclosure}
use Rattle.spp_ways.specs.Stretches.{IsStretch, AreEnclosed, AreStretchWays, enclosed_row, outer_row, outer_frame, joined_list}
use Rattle.spp_ways.proofs.Bases.{base_of}
use Rattle.spp_ways.proofs.Steps.{as_many}
use Rattle.spp_pass.specs.declared.counted_frame.CountedFrame.{CountedFrame}
use Rattle.spp_pass.specs.declared.calls.CallRow.{CallRow}
use Rattle.spp_pass.specs.Passes.{Seen}
use Rattle.spp_pass.specs.CallRows.{AreCallsBelow, AreLight}
use Rattle.spp_pass.specs.Stretches.{stretch_frame, enclosure, child_wins, IsJoined}
use Rattle.spp_pass.proofs.Bounded.{entries}
use Rattle.spp_pass.proofs.Projected.{counted, IsNeat, AllNeat}
use Rattle.spp_pass.proofs.Alone.{Alone}
use Rattle.spp_pass.proofs.Stretching.{follows_start}
use Rattle.spp_serial.proofs.Reading.{Led}
use Rattle.spp_part.specs.States.{Both, Goes, IsEventAt, IsAt}
use Rattle.spp_part.specs.Parts.{HasNone, HasNoWay, IsSettled, StretchOf, AreJoined, IsJoinedOnto, Takes, outer_of}
use Rattle.spp_part.specs.Readings.{as_stretch, open_air, AreOwnBelow, IsGoing, InBounds}
use Rattle.spp_part.proofs.Leading.{led_at}
use Rattle.spp_part.proofs.JoinedWays.{begun_ways, begun_enclosed, begun_joined}

-- ---- what a run has

some_open : (trace : Recording) (burdens : Burdens) (i : ℕ) (s : Seen) (ways : Both) → Led trace burdens i s ways → 0 < length s.frames
some_open trace burdens i s ways led = by s.frames led.passed.bounded.open_frames
  where
    by : (fs : List CountedFrame) → AreOpen s.work (entries (map counted fs)) → 0 < length fs
    by [] h = absurd h
    by (f ∷ fs) h = omega arith

neat_top : (fs : List CountedFrame) (g : CountedFrame) (gs : List CountedFrame) → fs ≡ g ∷ gs → AllNeat fs → IsNeat g
neat_top fs g gs e h = (let z : AllNeat (g ∷ gs) = subst AllNeat e h in z).0

-- ---- the start

abbrev fresh : StretchOf
fresh = record { frames = stretch_frame ∷ []; work = 0; calls = []; rows = outer_row ∷ []; ways = outer_frame ∷ [] }

fresh_laid : IsStretch (outer_row ∷ []) (outer_frame ∷ [])
fresh_laid = record {
  linked = (record { before = omega arith; within = omega arith; burdened_before = omega arith; burdened_within = omega arith; site = omega arith }, tt);
  frames = (omega arith, (omega arith, omega arith), (omega arith, omega arith), tt);
  plain = (refl, tt);
  started = (omega arith, tt);
  some = omega arith;
}

begun_is : (on : Bool) (g : CountedFrame) (s : Seen) (ws : List Ways) → 0 < length ws → AreJoined on fresh g s ws ws
begun_is on g s [] some = absurd (omega arith)
begun_is on g s (w ∷ ws) some = λ base is. (begun_ways w.along ∷ [], begun_enclosed on (enclosure g s) base w.along is, begun_joined on w ws)

begun_onto : (first : ℕ) (s : Seen) (frames : List CountedFrame) (ways : Both) → s.frames ≡ frames → 0 < length frames → ((on : Bool) → 0 < length (ways on)) → IsJoinedOnto first fresh s frames ways s ways
begun_onto first s [] ways e some many = absurd (omega arith)
begun_onto first s (g ∷ gs) ways e some many = (follows_start first g gs s e, λ on. begun_is on g s (ways on) (many on))

-- at first + k, where these have been made anew
pub start_goes : (trace : Recording) (burdens : Burdens) → InBounds trace burdens → (first k : ℕ) → first + k ≤ length trace.records → (settled : Bool) (a : Seen) (o : OpenWays)
    → Alone k a → a.frames ≡ stretch_frame ∷ [] → a.work ≡ 0 → o.log.rows.items ≡ outer_row ∷ [] → o.frames.items ≡ outer_frame ∷ [] → IsGoing trace burdens first k k settled a [] o
start_goes trace burdens bounds first k le settled a o alone frames work rows ways =
    let same : fresh ≡ as_stretch a [] o = λ j. record { frames = sym frames j; work = sym work j; calls = []; rows = sym rows j; ways = sym ways j } in
    let b = base_of o no_way in
    let takes : Takes trace burdens first (first + k) (first + k) settled fresh = record {
      forward = omega arith;
      on = λ s were is set.
          let led = led_at trace burdens bounds.light bounds.short (first + k) le s were is in
          let some = some_open trace burdens (first + k) s were led in
          (s, were, is, begun_onto first s s.frames were refl some (λ on. let m = led.many on in omega arith));
      calls = tt;
      laid = fresh_laid;
      many = refl;
      short = omega arith;
      alone = (a, subst (λ n. Alone n a) (let z : k ≡ first + k - first = omega arith in z) alone, frames, work);
    } in
    record {
      last = subst (Takes trace burdens first (first + k) (first + k) settled) same takes;
      since = omega arith;
      alone = alone;
      deep = (let z : length a.frames ≡ 1 = ap (λ (l : List CountedFrame). length l) frames in omega arith);
      owned = (
        b.0,
        λ on. (
          begun_ways no_way ∷ [],
          subst (λ (l : List FrameWays). AreEnclosed on open_air b.0 o.log.rows.items l (begun_ways no_way ∷ [])) (sym ways)
              (subst (λ (l : List LogRow). AreEnclosed on open_air b.0 l (outer_frame ∷ []) (begun_ways no_way ∷ [])) (sym rows) (begun_enclosed on open_air b.0 no_way (b.1 on))),
          (omega arith, omega arith, tt),
        ),
      );
      light = tt;
    }

-- ---- an event

ways_many : (on : Bool) (e : Enclosure) (base : Box Merged) (rows : List LogRow) (fs : List FrameWays) (us : List Ways) → AreEnclosed on e base rows fs us → length us ≡ length fs
ways_many on e base rows fs us h = as_many on (reverse (map (enclosed_row e base) rows)) (reverse fs) us h ∙ length-reverse fs

-- on one path
ways_follow : (on : Bool) (x y : StretchOf) (g : CountedFrame) (s : Seen) (list run : List Ways → List Ways) → length x.ways ≡ length x.frames
    → ((base : Box Merged) (us : List Ways) → AreEnclosed on (enclosure g s) base x.rows x.ways us → AreEnclosed on (enclosure g s) base y.rows y.ways (list us))
    → (ws then : List Ways)
    → ((w : Ways) (vs : List Ways) → ws ≡ w ∷ vs → (us : List Ways) → length us ≡ length x.frames
    → run (joined_list (on_path on (child_wins (outer_of x.frames) g)) us w vs) ≡ joined_list (on_path on (child_wins (outer_of y.frames) g)) (list us) w vs)
    → AreJoined on x g s ws then → AreJoined on y g s ws (run then)
ways_follow on x y g s list run many goes [] then laws h = absurd h
ways_follow on x y g s list run many goes (w ∷ vs) then laws h =
    λ base is.
    let u = h base is in
    (list u.0, goes base u.0 u.1, ap run u.2 ∙ laws w vs refl u.0 (ways_many on (enclosure g s) base x.rows x.ways u.0 u.1 ∙ many))

-- what a run does besides, joined onto which the stretch takes it
abbrev pub Advances : Burdens → ℕ → ℕ → Event → Bool → Seen → List CallRow → Seen → List CallRow → (Bool → Enclosure → List Ways → List Ways) → Type 0
Advances burdens first k event settled a calls b then list =
    (s : Seen) (ways : Both) (g : CountedFrame) (gs : List CountedFrame) → IsNeat g
    → (settled ≡ true → (g.child ≡ None) × (g.burdened_child ≡ None) × ((on : Bool) → HasNoWay (ways on)))
    → (new : Seen) → IsJoined first a.frames a.work calls g gs s new
    → (next : Seen) × (run : Bool → List Ways → List Ways) × ((were : Both) → Goes burdens (first + k) event new were next (λ on. run on (were on)))
    × IsJoined first b.frames b.work then g gs s next
    × ((on : Bool) (w : Ways) (vs : List Ways) → ways on ≡ w ∷ vs → (us : List Ways) → length us ≡ length a.frames
    → run on (joined_list (on_path on (child_wins (outer_of a.frames) g)) us w vs) ≡ joined_list (on_path on (child_wins (outer_of b.frames) g)) (list on (enclosure g s) us) w vs)

-- what the step of a machine keeps of ways
pub record Keeps (a b : Seen) (o p : OpenWays) (list : Bool → Enclosure → List Ways → List Ways) : Type 0 where
  pub stretch : IsStretch p.log.rows.items p.frames.items
  pub rows : length p.log.rows.items ≤ length o.log.rows.items + 1
  pub enclosed : (on : Bool) (e : Enclosure) (base : Box Merged) (us : List Ways) → AreStretchWays on e base o us → AreStretchWays on e base p (list on e us)
  pub lengths : (on : Bool) (e : Enclosure) (us : List Ways) → length us ≡ length a.frames → length (list on e us) ≡ length b.frames
  pub owns : (on : Bool) (us : List Ways) → AreOwnBelow a.work us → AreOwnBelow b.work (list on open_air us)

module _ (trace : Recording) (burdens : Burdens) (bounds : InBounds trace burdens) (first to k : ℕ) (lt : first + k < length trace.records) (settled : Bool)
    (a : Seen) (calls : List CallRow) (o : OpenWays) (is : IsGoing trace burdens first to k settled a calls o) where
  pub goes_on : (event : Event) → IsEventAt trace (first + k) event → (b : Seen) (then : List CallRow) (p : OpenWays) (list : Bool → Enclosure → List Ways → List Ways)
      → Alone (suc k) b → length b.frames ≤ length a.frames + 1 → AreCallsBelow 65536 then → AreLight (suc k) then → Keeps a b o p list → Advances burdens first k event settled a calls b then list
      → IsGoing trace burdens first to (suc k) settled b then p
  goes_on event at b then p list alone deep below light keeps advances =
      let further : suc (first + k) ≡ first + suc k = omega arith in
      let since : to ≤ k = is.since in
      let many_now : length o.frames.items ≡ length a.frames = is.last.many in
      let own = is.owned.1 false in
      let many : length p.frames.items ≡ length b.frames =
      sym (ways_many false open_air is.owned.0 p.log.rows.items p.frames.items (list false open_air own.0) (keeps.enclosed false open_air is.owned.0 own.0 own.1))
      ∙ keeps.lengths false open_air own.0 (ways_many false open_air is.owned.0 o.log.rows.items o.frames.items own.0 own.1 ∙ many_now) in
      let short : length o.log.rows.items ≤ suc (first + k - (first + to)) = is.last.short in
      let longer = keeps.rows in
      let takes : Takes trace burdens first (first + to) (suc (first + k)) settled (as_stretch b then p) = record {
        forward = omega arith;
        on = on;
        calls = below;
        laid = keeps.stretch;
        many = many;
        short = omega arith;
        alone = (b, subst (λ n. Alone n b) (let z : suc k ≡ suc (first + k) - first = omega arith in z) alone, refl, refl);
      } in
      record {
        last = subst (λ n. Takes trace burdens first (first + to) n settled (as_stretch b then p)) further takes;
        since = omega arith;
        alone = alone;
        deep = (let d = is.deep in omega arith);
        owned = (is.owned.0, λ on. let x = is.owned.1 on in (list on open_air x.0, keeps.enclosed on open_air is.owned.0 x.0 x.1, keeps.owns on x.0 x.2));
        light = light;
      }
    where
      After : Seen → Both → List CountedFrame → Type 0
      After s ways frames = (new : Seen) × (next : Both) × IsAt trace burdens (suc (first + k)) new next × IsJoinedOnto first (as_stretch b then p) s frames ways new next

      by : (s : Seen) (ways : Both) (frames : List CountedFrame) → s.frames ≡ frames → Led trace burdens (first + to) s ways → (settled ≡ true → IsSettled s ways)
          → (new : Seen) (next : Both) → IsAt trace burdens (first + k) new next → IsJoinedOnto first (as_stretch a calls o) s frames ways new next → After s ways frames
      by s ways [] e led set new next at_k j = absurd j
      by s ways (g ∷ gs) e led set new next at_k j =
          let none = λ (t : settled ≡ true). let h = set t in let n : HasNone (g ∷ gs) = subst HasNone e h.0 in
          let r : (g.child ≡ None) × (g.burdened_child ≡ None) × ((on : Bool) → HasNoWay (ways on)) = (n.0, n.1, h.1) in r in
          let step = advances s ways g gs (neat_top s.frames g gs e led.passed.neat) none new j.0 in (
            step.0,
            λ on. step.1 on (next on),
            (event, at, (new, next, at_k, step.2 next)),
            (
              step.3,
              λ on. ways_follow on (as_stretch a calls o) (as_stretch b then p) g s (list on (enclosure g s)) (step.1 on) is.last.many (λ base us. keeps.enclosed on (enclosure g s) base us)
                  (ways on) (next on) (step.4 on) (j.1 on),
            ),
          )

      on : (s : Seen) (ways : Both) → IsAt trace burdens (first + to) s ways → (settled ≡ true → IsSettled s ways) → After s ways s.frames
      on s ways at_i set =
          let h = is.last.on s ways at_i set in
          let since : to ≤ k = is.since in
          by s ways s.frames refl (led_at trace burdens bounds.light bounds.short (first + to) (omega arith) s ways at_i) set h.0 h.1 h.2 h.3
