-- What the reading of a run keeps: what is counted of it, and the ways into its open frames.
use Rattle.std.proofs.Common.{◌≡◌, ℕ, suc, ◌+◌, ◌*◌, ◌≤◌, ◌<◌, ◌^◌, Bool, true, false, cond, List, [], ◌∷◌, length, map, Some, None, Option, refl, sym, ap, ap₂, subst, ◌∙◌, arith}
use Rattle.spp_event.specs.declared.records.Event.{Event}
use Rattle.spp_event.specs.declared.records.Event.TheVariants.{Strand, Call, Spawn, Ret, Sync}
use Rattle.spp_event.specs.Recordings.{Recording}
use Rattle.spp_frame.specs.Nesting.{AreEvents}
use Rattle.spp_maxplus.specs.declared.state.Burdens.{Burdens}
use Rattle.spp_maxplus.specs.State as state
use Rattle.spp_maxplus.specs.Weights.{close}
use Rattle.spp_dag.specs.declared.row.Row.{Row}
use Rattle.spp_dag.specs.declared.stack.EntryFrame.{EntryFrame}
use Rattle.spp_dag.specs.declared.stack.FrameKind.{FrameKind}
use Rattle.spp_dag.specs.declared.stack.FrameKind.TheVariants.{Called, Spawned}
use Rattle.spp_dag.specs.Trace.{IsWellFormed}
use Rattle.spp_dag.specs.Steps.{key_of, closed_row}
use Rattle.spp_dag.specs.Choices.{IsEntry}
use Rattle.spp_dag.proofs.EventsOfRecords.{event_is}
use Rattle.spp_dag.proofs.Profiles.{spans_law}
use Rattle.spp_dag.proofs.OpenEntries.{AreOpen}
use Rattle.spp_ways.specs.declared.open_ways.OnPaths.{OnPaths}
use Rattle.spp_ways.specs.Ways.{Ways, no_ways, way_on, closed_rows, returned_ways, state_on, burdens_on, takes, wins, outruns, ways_after, HasWays}
use Rattle.spp_ways.specs.OpenWays.{on_path, HasOne, HasTwo, FitStrand, FitTop, strand_list, waited_list, returned_list, bare_row}
use Rattle.spp_serial.proofs.Low.{AreLow, are_more, none_low, strand_low, strand_fits, waited_low, return_low, top_fits}
use Rattle.spp_pass.specs.declared.counted_frame.CountedFrame.{CountedFrame}
use Rattle.spp_pass.specs.declared.counting.Closing.{Closing}
use Rattle.spp_pass.specs.Passes.{Seen, state_of, burdened_state_of, closed_of, takes_of, wins_of, closing_of, start_seen, strand_seen, sync_seen, open_seen, Returns, IsClosing}
use Rattle.spp_pass.proofs.Bounded.{entries}
use Rattle.spp_pass.proofs.Projected.{counted, IsNeat, AllNeat, close_is, burdened_is}
use Rattle.spp_pass.proofs.Passed.{Passed, IsRead, start_passed, strand_passed, sync_passed, call_passed, spawn_passed, return_passed}

-- before the event at i these are counted, and these are the ways on the path without burdens (false) and on that under them
pub record Led (trace : Recording) (burdens : Burdens) (i : ℕ) (s : Seen) (ways : Bool → List Ways) : Type 0 where
  pub passed : Passed trace burdens 0 i s
  pub many : (on : Bool) → length (ways on) ≡ length s.frames
  pub low : (on : Bool) → AreLow i s.work (ways on)
  pub has : (es : List Event) → AreEvents trace.records es → IsWellFormed es → (on : Bool) → HasWays es burdens trace.root on i (ways on)

-- ---- the start

pub start_led : (trace : Recording) (burdens : Burdens) (s : Seen) (ways : Bool → List Ways) → s ≡ start_seen trace.root → ((on : Bool) → ways on ≡ no_ways ∷ []) → Led trace burdens 0 s ways
start_led trace burdens s ways e h = record {
  passed = start_passed trace burdens s e;
  many = λ on. ap (λ (l : List Ways). length l) (h on) ∙ sym (ap (λ (x : Seen). length x.frames) e);
  low = λ on. subst (AreLow 0 s.work) (sym (h on)) (none_low 0 s.work [] tt);
  has = λ es are wf on. h on;
}

-- ---- one event

-- what a frame takes, and what wins, on one path
pub takes_on : (on : Bool) (f : CountedFrame) → on_path on (takes_of f) ≡ takes (state_on on (counted f).entry)
takes_on false f = refl
takes_on true f = refl

wins_on : (on : Bool) (burdens : Burdens) (f g : CountedFrame) → IsNeat f → on_path on (wins_of burdens f g) ≡ wins (burdens_on on burdens) (state_on on (counted f).entry) (state_on on (counted g).entry)
wins_on false burdens f g h =
    let e : close f.plain ≡ state.close (state_of f) + 0 = close_is f h ∙ omega arith in
    ap (λ k. outruns (state_of g).child (g.plain.spine + k)) e
wins_on true burdens f g h = ap (λ k. outruns (burdened_state_of g).child (g.burdened.spine + (k + burdens.join))) (burdened_is f h)

-- what the close of a frame adds to its row besides its strands
pub row_on : (f : CountedFrame) (work : ℕ) → IsNeat f → bare_row (closed_of f work) ≡ closed_row (counted f).entry work
row_on f work h = ap (λ (c : ℕ). let r : Row = record (bare_row (closed_of f work)) { site_span = cond f.top_site c 0; caller_span = cond f.top_caller c 0 } in r) (close_is f h)

module _ (trace : Recording) (burdens : Burdens) (light : burdens.continuation + burdens.join ≤ 8589934592) (short : length trace.records ≤ 268435456) (i : ℕ) (lt : i < length trace.records)
    (s : Seen) (ways : Bool → List Ways) (led : Led trace burdens i s ways) where
  some : 0 < length s.frames
  some = by s.frames led.passed.bounded.open_frames
    where
      by : (fs : List CountedFrame) → AreOpen s.work (entries (map counted fs)) → 0 < length fs
      by [] h = absurd h
      by (f ∷ fs) h = omega arith

  pub has_one : (on : Bool) → HasOne (ways on)
  has_one on = by (ways on) (led.many on)
    where
      by : (ws : List Ways) → length ws ≡ length s.frames → HasOne ws
      by [] e = absurd (let z = some in omega arith)
      by (w ∷ ws) e = tt

  pub fits : (n : ℕ) → n < 2 ^ 64 → (on : Bool) → FitStrand n (ways on)
  fits n small on = by (ways on) (led.many on) (led.low on)
    where
      by : (ws : List Ways) → length ws ≡ length s.frames → AreLow i s.work ws → FitStrand n ws
      by [] e h = absurd (let z = some in omega arith)
      by (w ∷ ws) e h =
          let a : s.work ≤ 18446744073709551615 * i = led.passed.reached.small in
          strand_fits i s.work n (let z : s.work + n < 2 ^ 128 = omega arith in z) w ws h

  -- the entry of the position
  entry : (es : List Event) → AreEvents trace.records es → IsWellFormed es → IsEntry es burdens trace.root i (entries (map counted s.frames)) s.work
  entry es are wf = let sp = (spans_law es wf).0 in (led.passed.shared es are wf sp.0 sp.1).entry

  goes : (e : Event) → IsRead trace i e → (new : Bool → List Ways) → ((on : Bool) → new on ≡ ways_after on burdens e s.work (entries (map counted s.frames)) (ways on))
      → (es : List Event) → AreEvents trace.records es → IsWellFormed es → (on : Bool) → HasWays es burdens trace.root on (suc i) (new on)
  goes e r new h es are wf on = (e, event_is trace.records es i e are lt r.0, (entries (map counted s.frames), s.work, ways on, entry es are wf, led.has es are wf on, h on))

  -- ---- a strand

  pub strand_led : (n : ℕ) → IsRead trace i (Strand n) → (new : Seen) (then : Bool → List Ways) → new ≡ strand_seen n s → ((on : Bool) → then on ≡ strand_list n (ways on)) → Led trace burdens (suc i) new then
  strand_led n r new then e h =
      let frames : length new.frames ≡ length s.frames = ap (λ (x : Seen). length x.frames) e ∙ same s.frames in
      let work : s.work + n ≡ new.work = sym (ap (λ (x : Seen). x.work) e) in
      record {
        passed = strand_passed trace burdens light short 0 i (omega arith) lt n r s new e led.passed;
        many = λ on. ap (λ (l : List Ways). length l) (h on) ∙ longer (ways on) ∙ led.many on ∙ sym frames;
        low = λ on. subst (λ k. AreLow (suc i) k (then on)) work (subst (AreLow (suc i) (s.work + n)) (sym (h on)) (are_more i (suc i) (s.work + n) (s.work + n) (omega arith) (omega arith) _ (strand_low i s.work n (ways on) (led.low on))));
        has = goes (Strand n) r then (λ on. h on ∙ by (ways on) s.frames (led.many on) some on);
      }
    where
      same : (fs : List CountedFrame) → length (strand_seen n (record s { frames = fs })).frames ≡ length fs
      same [] = refl
      same (f ∷ fs) = refl

      longer : (ws : List Ways) → length (strand_list n ws) ≡ length ws
      longer [] = refl
      longer (w ∷ ws) = refl

      by : (ws : List Ways) (fs : List CountedFrame) → length ws ≡ length fs → 0 < length fs → (on : Bool) → strand_list n ws ≡ ways_after on burdens (Strand n) s.work (entries (map counted fs)) ws
      by [] [] e l on = absurd (omega arith)
      by [] (f ∷ fs) e l on = absurd (omega arith)
      by (w ∷ ws) [] e l on = absurd (omega arith)
      by (w ∷ ws) (f ∷ fs) e l on = refl

  -- ---- a sync

  pub sync_led : IsRead trace i Sync → (new : Seen) (then : Bool → List Ways) (answer : OnPaths) → new ≡ sync_seen i s → ((f : CountedFrame) (fs : List CountedFrame) → s.frames ≡ f ∷ fs → answer ≡ takes_of f)
      → ((on : Bool) → then on ≡ waited_list (on_path on answer) (ways on)) → Led trace burdens (suc i) new then
  sync_led r new then answer e is h =
      let frames : length new.frames ≡ length s.frames = ap (λ (x : Seen). length x.frames) e ∙ same s.frames in
      let work : s.work ≡ new.work = sym (ap (λ (x : Seen). x.work) e) in
      record {
        passed = sync_passed trace burdens light short 0 i (omega arith) lt r s new e led.passed;
        many = λ on. ap (λ (l : List Ways). length l) (h on) ∙ longer (on_path on answer) (ways on) ∙ led.many on ∙ sym frames;
        low = λ on. subst (λ k. AreLow (suc i) k (then on)) work (subst (AreLow (suc i) s.work) (sym (h on)) (are_more i (suc i) s.work s.work (omega arith) (omega arith) _ (waited_low i s.work (on_path on answer) (ways on) (led.low on))));
        has = goes Sync r then (λ on. h on ∙ by (ways on) s.frames refl (led.many on) some on);
      }
    where
      same : (fs : List CountedFrame) → length (sync_seen i (record s { frames = fs })).frames ≡ length fs
      same [] = refl
      same (f ∷ fs) = refl

      longer : (t : Bool) (ws : List Ways) → length (waited_list t ws) ≡ length ws
      longer t [] = refl
      longer t (w ∷ ws) = refl

      by : (ws : List Ways) (fs : List CountedFrame) → s.frames ≡ fs → length ws ≡ length fs → 0 < length fs → (on : Bool)
          → waited_list (on_path on answer) ws ≡ ways_after on burdens Sync s.work (entries (map counted fs)) ws
      by [] [] q e l on = absurd (omega arith)
      by [] (f ∷ fs) q e l on = absurd (omega arith)
      by (w ∷ ws) [] q e l on = absurd (omega arith)
      by (w ∷ ws) (f ∷ fs) q e l on = ap (λ (t : Bool). waited_list t (w ∷ ws)) (ap (on_path on) (is f fs q) ∙ takes_on on f)

  -- ---- a call or a spawn

  opened_many : (kind : FrameKind) (site func : ℕ) (fs : List CountedFrame) → 0 < length fs → length (open_seen kind i site func (record s { frames = fs })).frames ≡ suc (length fs)
  opened_many kind site func [] l = absurd (omega arith)
  opened_many kind site func (f ∷ fs) l = refl

  opened_with : (kind : FrameKind) (site func : ℕ) (e : Event) → IsRead trace i e → (new : Seen) (then : Bool → List Ways) → new ≡ open_seen kind i site func s
      → ((on : Bool) → then on ≡ no_ways ∷ ways on) → Passed trace burdens 0 (suc i) new
      → ((on : Bool) (w : Ways) (ws : List Ways) (f : EntryFrame) (fs : List EntryFrame) → ways_after on burdens e s.work (f ∷ fs) (w ∷ ws) ≡ no_ways ∷ w ∷ ws) → Led trace burdens (suc i) new then
  opened_with kind site func e r new then is h passed opens =
      let frames : length new.frames ≡ suc (length s.frames) = ap (λ (x : Seen). length x.frames) is ∙ opened_many kind site func s.frames some in
      let work : s.work ≡ new.work = sym (ap (λ (x : Seen). x.work) is) in
      record {
        passed = passed;
        many = λ on. ap (λ (l : List Ways). length l) (h on) ∙ ap suc (led.many on) ∙ sym frames;
        low = λ on. subst (λ k. AreLow (suc i) k (then on)) work (subst (AreLow (suc i) s.work) (sym (h on)) (are_more i (suc i) s.work s.work (omega arith) (omega arith) (no_ways ∷ ways on) (none_low i s.work (ways on) (led.low on))));
        has = goes e r then (λ on. h on ∙ by (ways on) s.frames (led.many on) some on);
      }
    where
      by : (ws : List Ways) (fs : List CountedFrame) → length ws ≡ length fs → 0 < length fs → (on : Bool) → no_ways ∷ ws ≡ ways_after on burdens e s.work (entries (map counted fs)) ws
      by [] [] q l on = absurd (omega arith)
      by [] (f ∷ fs) q l on = absurd (omega arith)
      by (w ∷ ws) [] q l on = absurd (omega arith)
      by (w ∷ ws) (f ∷ fs) q l on = sym (opens on w ws (counted f).entry (entries (map counted fs)))

  pub call_led : (site func : ℕ) → IsRead trace i (Call site func) → (new : Seen) (then : Bool → List Ways) → new ≡ open_seen Called i site func s → ((on : Bool) → then on ≡ no_ways ∷ ways on)
      → Led trace burdens (suc i) new then
  call_led site func r new then e h =
      opened_with Called site func (Call site func) r new then e h (call_passed trace burdens light short 0 i (omega arith) lt site func r s new e led.passed) (λ on w ws f fs. refl)

  pub spawn_led : (site func : ℕ) → IsRead trace i (Spawn site func) → (new : Seen) (then : Bool → List Ways) → new ≡ open_seen Spawned i site func s → ((on : Bool) → then on ≡ no_ways ∷ ways on)
      → Led trace burdens (suc i) new then
  spawn_led site func r new then e h =
      opened_with Spawned site func (Spawn site func) r new then e h (spawn_passed trace burdens light short 0 i (omega arith) lt site func r s new e led.passed) (λ on w ws f fs. refl)

  -- ---- a return

  -- two frames are open where the innermost has returned
  pub has_two : (closing : Closing) → IsClosing burdens s.work s.frames (Some closing) → HasTwo (ways false)
  has_two closing h = by s.frames h (ways false) (led.many false)
    where
      by : (fs : List CountedFrame) → IsClosing burdens s.work fs (Some closing) → (ws : List Ways) → length ws ≡ length fs → HasTwo ws
      by [] h ws e = absurd h
      by (f ∷ []) h ws e = let z : Some closing ≡ None = h in cc
      by (f ∷ g ∷ fs) h [] e = absurd (omega arith)
      by (f ∷ g ∷ fs) h (w ∷ []) e = absurd (omega arith)
      by (f ∷ g ∷ fs) h (w ∷ v ∷ ws) e = tt

  -- its site is one of the trace
  pub site_in : length trace.sites ≤ 65536 → (closing : Closing) → IsClosing burdens s.work s.frames (Some closing) → closing.site < 65536
  site_in few closing h = by s.frames h led.passed
    where
      by : (fs : List CountedFrame) → IsClosing burdens s.work fs (Some closing) → Passed trace burdens 0 i (record s { frames = fs }) → closing.site < 65536
      by [] h p = absurd h
      by (f ∷ []) h p = let z : Some closing ≡ None = h in cc
      by (f ∷ g ∷ fs) h p =
          let same : closing ≡ closing_of burdens s.work f g = (let z : Some closing ≡ Some (closing_of burdens s.work f g) = h in cc) in
          let site : closing.site ≡ f.site = ap (λ (c : Closing). c.site) same in
          let low = p.sites.0 in
          omega arith

  -- the sums of the ways after a return
  pub returned_low : (on : Bool) (closing : Closing) → IsClosing burdens s.work s.frames (Some closing)
      → AreLow (suc i) s.work (returned_list closing.kind (on_path on closing.takes) (on_path on closing.wins) closing.site (bare_row closing.closed) (ways on))
  returned_low on closing h = by s.frames h led.passed (ways on) (led.many on) (led.low on)
    where
      by : (fs : List CountedFrame) → IsClosing burdens s.work fs (Some closing) → Passed trace burdens 0 i (record s { frames = fs }) → (ws : List Ways) → length ws ≡ length fs → AreLow i s.work ws
          → AreLow (suc i) s.work (returned_list closing.kind (on_path on closing.takes) (on_path on closing.wins) closing.site (bare_row closing.closed) ws)
      by [] h p ws e low = absurd h
      by (f ∷ []) h p ws e low = let z : Some closing ≡ None = h in cc
      by (f ∷ g ∷ fs) h p [] e low = absurd (omega arith)
      by (f ∷ g ∷ fs) h p (w ∷ []) e low = absurd (omega arith)
      by (f ∷ g ∷ fs) h p (w ∷ v ∷ ws) e low =
          let same : closing ≡ closing_of burdens s.work f g = (let z : Some closing ≡ Some (closing_of burdens s.work f g) = h in cc) in
          let a : s.work ≤ 18446744073709551615 * i = p.reached.small in
          let b = p.reached.plain in
          let c : close f.plain ≡ state.close (state_of f) = close_is f p.neat.0 in
          let l : s.work ≤ 4951760157141521099596496896 = omega arith in
          let m : state.close (state_of f) ≤ 4951760157141521099596496896 = omega arith in
          let low_now = return_low (counted f).entry s.work l m (Some f.site) i s.work f.kind (on_path on (takes_of f)) (on_path on (wins_of burdens f g)) w v ws low in
          subst (λ (c : Closing). AreLow (suc i) s.work (returned_list c.kind (on_path on c.takes) (on_path on c.wins) c.site (bare_row c.closed) (w ∷ v ∷ ws))) (sym same)
          (subst (λ (r : Row). AreLow (suc i) s.work (returned_ways f.kind (on_path on (wins_of burdens f g)) (closed_rows (Some f.site) r (way_on (on_path on (takes_of f)) w)) v ∷ ws)) (sym (row_on f s.work p.neat.0)) low_now)

  pub returned_fits : (on : Bool) (closing : Closing) → IsClosing burdens s.work s.frames (Some closing)
      → FitTop (returned_list closing.kind (on_path on closing.takes) (on_path on closing.wins) closing.site (bare_row closing.closed) (ways on))
  returned_fits on closing h =
      let a : s.work ≤ 18446744073709551615 * i = led.passed.reached.small in
      top_fits (suc i) s.work (let z : suc i ≤ 268435457 = omega arith in z) (let z : s.work ≤ 4951760157141521099596496896 = omega arith in z) _ (returned_low on closing h)

  pub return_led : IsRead trace i Ret → (new : Seen) (then : Bool → List Ways) (closing : Closing) → Returns burdens i s s.frames true new → IsClosing burdens s.work s.frames (Some closing)
      → ((on : Bool) → then on ≡ returned_list closing.kind (on_path on closing.takes) (on_path on closing.wins) closing.site (bare_row closing.closed) (ways on)) → Led trace burdens (suc i) new then
  return_led r new then closing ret is h =
      record {
        passed = return_passed trace burdens light short 0 i (omega arith) lt r s new ret led.passed;
        many = λ on. ap (λ (l : List Ways). length l) (h on) ∙ lengths s.frames ret (ways on) (led.many on) on;
        low = λ on. subst (AreLow (suc i) new.work) (sym (h on)) (are_more (suc i) (suc i) s.work new.work (omega arith) (works s.frames ret) _ (returned_low on closing is));
        has = goes Ret r then (λ on. h on ∙ by (ways on) s.frames led.passed.neat led.passed.bounded.open_frames is (led.many on) on);
      }
    where
      lengths : (fs : List CountedFrame) → Returns burdens i s fs true new → (ws : List Ways) → length ws ≡ length fs → (on : Bool)
          → length (returned_list closing.kind (on_path on closing.takes) (on_path on closing.wins) closing.site (bare_row closing.closed) ws) ≡ length new.frames
      lengths [] h ws e on = absurd h
      lengths (f ∷ []) h ws e on = absurd (let z : true ≡ false = h in cc)
      lengths (f ∷ g ∷ fs) h [] e on = absurd (omega arith)
      lengths (f ∷ g ∷ fs) h (w ∷ []) e on = absurd (omega arith)
      lengths (f ∷ g ∷ fs) h (w ∷ v ∷ ws) e on = (let n : length new.frames ≡ suc (length fs) = ap (λ (l : List CountedFrame). length l) h.1.frames in omega arith)

      works : (fs : List CountedFrame) → Returns burdens i s fs true new → s.work ≤ new.work
      works [] h = absurd h
      works (f ∷ []) h = absurd (let z : true ≡ false = h in cc)
      works (f ∷ g ∷ fs) h = let w = h.1.work in omega arith

      by : (ws : List Ways) (fs : List CountedFrame) → AllNeat fs → AreOpen s.work (entries (map counted fs)) → IsClosing burdens s.work fs (Some closing) → length ws ≡ length fs → (on : Bool)
          → returned_list closing.kind (on_path on closing.takes) (on_path on closing.wins) closing.site (bare_row closing.closed) ws ≡ ways_after on burdens Ret s.work (entries (map counted fs)) ws
      by ws [] neat frames h e on = absurd h
      by ws (f ∷ []) neat frames h e on = let z : Some closing ≡ None = h in cc
      by [] (f ∷ g ∷ fs) neat frames h e on = absurd (omega arith)
      by (w ∷ []) (f ∷ g ∷ fs) neat frames h e on = absurd (omega arith)
      by (w ∷ v ∷ ws) (f ∷ g ∷ fs) neat frames h e on =
          let same : closing ≡ closing_of burdens s.work f g = (let z : Some closing ≡ Some (closing_of burdens s.work f g) = h in cc) in
          let key : Some f.site ≡ key_of (counted f).entry = sym frames.0 in
          let told = λ (t win : Bool) (k : Option ℕ) (row : Row). let x : List Ways = returned_ways f.kind win (closed_rows k row (way_on t w)) v ∷ ws in x in
          ap (λ (c : Closing). returned_list c.kind (on_path on c.takes) (on_path on c.wins) c.site (bare_row c.closed) (w ∷ v ∷ ws)) same
          ∙ ap₂ (λ (t win : Bool). told t win (Some f.site) (bare_row (closed_of f s.work))) (takes_on on f) (wins_on on burdens f g neat.0)
          ∙ ap₂ (told (takes (state_on on (counted f).entry)) (wins (burdens_on on burdens) (state_on on (counted f).entry) (state_on on (counted g).entry))) key (row_on f s.work neat.0)
