-- What has come so far, one event on, where that is a strand, a call or a spawn.
use Rattle.std.proofs.Common.{◌≡◌, ℕ, suc, ◌+◌, ◌≤◌, ◌<◌, not, Bool, false, List, [], ◌∷◌, length, reverse, Result, Ok, Err, IfErr, IsErrAnd, refl, sym, ap, subst, ◌∙◌, arith}
use Rattle.spp_event.specs.Recordings.{Recording}
use Rattle.spp_event.specs.declared.records.Event.{Event}
use Rattle.spp_event.specs.declared.records.Event.TheVariants.{Strand, Call, Spawn}
use Rattle.spp_maxplus.specs.declared.state.Burdens.{Burdens}
use Rattle.spp_dag.specs.declared.stack.FrameKind.{FrameKind}
use Rattle.spp_dag.specs.declared.stack.FrameKind.TheVariants.{Root, Called, Spawned}
use Rattle.spp_site.specs.Marks.{with_mark}
use Rattle.spp_dag.specs.Shares.{plus}
use Rattle.spp_site.specs.Profiles.{key_row}
use Rattle.spp_ways.specs.declared.open_ways.OpenWays.{OpenWays}
use Rattle.spp_ways.specs.Ways.{Ways, no_ways}
use Rattle.spp_ways.specs.OpenWays.{AreWays, IsLaid, FitTopStrand, strand_list}
use Rattle.spp_ways.proofs.Steps.{strand_fits}
use Rattle.spp_pass.specs.declared.counted_frame.CountedFrame.{CountedFrame}
use Rattle.spp_pass.specs.declared.counting.Counting.{Counting}
use Rattle.spp_pass.specs.Passes.{Seen, Notes, no_notes, seen_with, opened_frame, strand_frame, strand_seen, open_frames, open_seen, on_top, CanAdd}
use Rattle.spp_pass.proofs.Passed.{ready_add}
use Rattle.spp_serial.proofs.Reading.{Led, fits}
use Rattle.spp_part.specs.States.{Goes, IsEventAt}
use Rattle.spp_part.specs.Parts.{Rows, Shows, Stands}
use Rattle.spp_part.specs.Readings.{Opens}
use Rattle.spp_part.proofs.Standing.{noted, now_led}

-- whether a child may wait needn't be known
pub unsettled : {rest : Rows} (trace : Recording) (burdens : Burdens) (i : ℕ) (settled : Bool) (c : Counting) (o : OpenWays) → Stands rest trace burdens i settled c o → Stands rest trace burdens i false c o
unsettled trace burdens i settled c o st = record {
  state = st.state;
  ways = st.ways;
  at = st.at;
  none = λ q. cc;
  counted = st.counted;
  logged = st.logged;
  laid = st.laid;
  rows = st.rows;
  within = st.within;
  limits = st.limits;
  good = st.good;
  light = st.light;
}

-- a frame is opened alike where the same is counted
open_same : {rest : Rows} (kind : FrameKind) (at site func : ℕ) (now s : Seen) → Shows rest now s → (fs : List CountedFrame) → open_frames kind at site func now fs ≡ open_frames kind at site func s fs
open_same kind at site func now s h [] = refl
open_same kind at site func now s h (f ∷ fs) = λ j. opened_frame kind at site func (h.work j) (not (h.open_sites site j)) f.top_func (not (h.open_funcs func j)) ∷ f ∷ fs

module _ {rest : Rows} (trace : Recording) (burdens : Burdens) (i : ℕ) (c : Counting) (o : OpenWays) (st : Stands rest trace burdens i false c o) (lt : i < length trace.records) where
  abbrev led : Led trace burdens i (noted c st.state) st.ways
  led = now_led trace burdens i false c o st

  abbrev now : Seen
  now = seen_with c no_notes

  -- ---- a strand

  -- it can be counted
  pub can_add : (n : ℕ) → IsEventAt trace i (Strand n) → CanAdd n now
  can_add n e = ready_add trace burdens st.light st.limits.events 0 i (omega arith) lt n e (noted c st.state) led.passed

  -- in the ways too
  pub fit_strand : (n : ℕ) → IsEventAt trace i (Strand n) → (on : Bool) → FitTopStrand on n (reverse o.frames.items)
  fit_strand n e on = strand_fits on n o (st.ways on) (st.logged on) (fits trace burdens st.light st.limits.events i lt (noted c st.state) st.ways led n e.1 on)

  pub strand_next : (n : ℕ) → IsEventAt trace i (Strand n) → (d : Counting) → ((m : Notes) → seen_with d m ≡ strand_seen n (seen_with c m)) → (p : OpenWays) → IsLaid p
      → ((on : Bool) (ways : List Ways) → AreWays on o ways → AreWays on p (strand_list n ways)) → length p.log.rows.items ≤ length o.log.rows.items → Stands rest trace burdens (suc i) false d p
  strand_next n e d is p laid ways rows = record {
    state = strand_seen n st.state;
    ways = λ on. strand_list n (st.ways on);
    at = (Strand n, e, (st.state, st.ways, st.at, (refl, λ on. refl)));
    none = λ q. cc;
    counted = record {
      frames = ap (λ (s : Seen). s.frames) (is no_notes) ∙ ap (on_top (strand_frame n)) st.counted.frames;
      open_sites = λ y. ap (λ (s : Seen). s.open_sites y) (is no_notes) ∙ st.counted.open_sites y;
      open_funcs = λ y. ap (λ (s : Seen). s.open_funcs y) (is no_notes) ∙ st.counted.open_funcs y;
      work = ap (λ (s : Seen). s.work) (is no_notes) ∙ ap (λ w. w + n) st.counted.work;
      table = λ key. ap (λ (s : Seen). plus (key_row s.table key) (rest key)) (is no_notes) ∙ st.counted.table key;
    };
    logged = λ on. ways on (st.ways on) (st.logged on);
    laid = laid;
    rows = (let a = st.rows in omega arith);
    within = lt;
    limits = st.limits;
    good = st.good;
    light = st.light;
  }

  -- ---- a call or a spawn

  module _ (kind : FrameKind) (site func : ℕ) (d : Counting) (is : (m : Notes) → seen_with d m ≡ open_seen kind i site func (seen_with c m)) (p : OpenWays) (laid : IsLaid p)
      (ways : (on : Bool) (ways : List Ways) → AreWays on o ways → AreWays on p (no_ways ∷ ways)) (rows : length p.log.rows.items ≤ length o.log.rows.items) where
    opened : (event : Event) → IsEventAt trace i event → Goes burdens i event st.state st.ways (open_seen kind i site func st.state) (λ on. no_ways ∷ st.ways on) → Stands rest trace burdens (suc i) false d p
    opened event e goes = record {
      state = open_seen kind i site func st.state;
      ways = λ on. no_ways ∷ st.ways on;
      at = (event, e, (st.state, st.ways, st.at, goes));
      none = λ q. cc;
      counted = record {
        frames = ap (λ (s : Seen). s.frames) (is no_notes) ∙ open_same kind i site func now st.state st.counted now.frames ∙ ap (open_frames kind i site func st.state) st.counted.frames;
        open_sites = λ y. ap (λ (s : Seen). s.open_sites y) (is no_notes) ∙ ap (λ (m : ℕ → Bool). with_mark site m y) (λ k z. st.counted.open_sites z k);
        open_funcs = λ y. ap (λ (s : Seen). s.open_funcs y) (is no_notes) ∙ ap (λ (m : ℕ → Bool). with_mark func m y) (λ k z. st.counted.open_funcs z k);
        work = ap (λ (s : Seen). s.work) (is no_notes) ∙ st.counted.work;
        table = λ key. ap (λ (s : Seen). plus (key_row s.table key) (rest key)) (is no_notes) ∙ st.counted.table key;
      };
      logged = λ on. ways on (st.ways on) (st.logged on);
      laid = laid;
      rows = (let a = st.rows in omega arith);
      within = lt;
      limits = st.limits;
      good = st.good;
      light = st.light;
    }

  pub open_next : (kind : FrameKind) (site func : ℕ) (event : Event) → Opens kind site func event → IsEventAt trace i event → (d : Counting)
      → ((m : Notes) → seen_with d m ≡ open_seen kind i site func (seen_with c m)) → (p : OpenWays) → IsLaid p
      → ((on : Bool) (ways : List Ways) → AreWays on o ways → AreWays on p (no_ways ∷ ways)) → length p.log.rows.items ≤ length o.log.rows.items → Stands rest trace burdens (suc i) false d p
  open_next Root site func event opens e d is p laid ways rows = absurd opens
  open_next Called site func event opens e d is p laid ways rows =
      opened Called site func d is p laid ways rows (Call site func) (subst (IsEventAt trace i) opens e) (refl, λ on. refl)
  open_next Spawned site func event opens e d is p laid ways rows =
      opened Spawned site func d is p laid ways rows (Spawn site func) (subst (IsEventAt trace i) opens e) (refl, λ on. refl)

-- ---- an error

-- what is true of an error is true of the one that is handed on
pub handed_on : {X E : Type 0} (P : E → Type 0) (fault : E) (x : Result X E) → IsErrAnd x (λ e. e ≡ fault) → P fault → IfErr x P
handed_on P fault (Ok y) h p = tt
handed_on P fault (Err e) h p = subst P (sym h) p
