-- What has come so far: it is what a reading of the run has, which keeps its sums within bounds.
use Rattle.std.proofs.Common.{◌≡◌, ℕ, ◌+◌, ◌*◌, ◌≤◌, Bool, false, List, length, map, Option, refl, sym, ap, ap₂, subst, ◌∙◌, arith}
use Rattle.spp_event.specs.Recordings.{Recording}
use Rattle.spp_maxplus.specs.declared.state.Burdens.{Burdens}
use Rattle.spp_ways.specs.declared.open_ways.OpenWays.{OpenWays}
use Rattle.spp_ways.specs.Enclosures.{Enclosure}
use Rattle.spp_pass.specs.declared.counted_frame.CountedFrame.{CountedFrame}
use Rattle.spp_pass.specs.declared.calls.CallRow.{CallRow}
use Rattle.spp_pass.specs.declared.counting.Counting.{Counting}
use Rattle.spp_pass.specs.Passes.{Seen, no_notes, seen_with}
use Rattle.spp_pass.specs.CallRows.{calls_row}
use Rattle.spp_pass.specs.Stretches.{enclosure, placed_frames, with_frames, IsJoined}
use Rattle.spp_pass.proofs.Alike.{AreAlike, same_passed}
use Rattle.spp_dag.specs.declared.row.Row.{Row}
use Rattle.spp_dag.specs.Shares.{plus}
use Rattle.spp_site.specs.Rows.{Fits}
use Rattle.spp_site.specs.Profiles.{key_row}
use Rattle.spp_site.proofs.Rows.{plus-zero, plus-assoc}
use Rattle.spp_site.proofs.RowSums.{low_fits}
use Rattle.spp_pass.specs.declared.aside.RowsAside.{RowsAside}
use Rattle.spp_pass.specs.AsideRows.{aside_row, HasAside}
use Rattle.spp_pass.proofs.Bounded.{owed}
use Rattle.spp_pass.proofs.Projected.{counted}
use Rattle.spp_serial.proofs.Low.{AreLow}
use Rattle.spp_serial.proofs.Reading.{Led}
use Rattle.spp_part.specs.States.{Both}
use Rattle.spp_part.specs.declared.so_far.ProfileSoFar.{ProfileSoFar}
use Rattle.spp_part.specs.Parts.{Rows, no_rows, rest_of, Shows, Stands}
use Rattle.spp_part.proofs.Leading.{led_at}

-- what encloses is the same
pub same_enclosure : {rest : Rows} (g : CountedFrame) (now s : Seen) → Shows rest now s → enclosure g now ≡ enclosure g s
same_enclosure g now s h = λ j. record { sites = λ y. h.open_sites y j; funcs = λ y. h.open_funcs y j; direct = g.top_func }

-- the same, with all rows in the table
abbrev pub filled : Seen → Seen → Seen
filled now s = record now { table = s.table }

-- what is joined onto one is joined onto the other
pub joined_on : {rest : Rows} (first : ℕ) (fs : List CountedFrame) (more : ℕ) (calls : List CallRow) (g : CountedFrame) (gs : List CountedFrame) (now s new : Seen) → Shows rest now s
    → IsJoined first fs more calls g gs s new → IsJoined first fs more calls g gs (filled now s) new
joined_on first fs more calls g gs now s new h j =
    let e : enclosure g now ≡ enclosure g s = same_enclosure g now s h in record {
      frames = j.frames ∙ ap₂ (λ (e : Enclosure) (w : ℕ). placed_frames e w first fs g gs) (sym e) (sym h.work);
      open_sites = λ y. j.open_sites y ∙ ap (λ (m : ℕ → Bool). with_frames (λ (f : CountedFrame). f.site) fs m y) (sym (λ k z. h.open_sites z k));
      open_funcs = λ y. j.open_funcs y ∙ ap (λ (m : ℕ → Bool). with_frames (λ (f : CountedFrame). f.func) fs m y) (sym (λ k z. h.open_funcs z k));
      work = j.work ∙ ap (λ w. w + more) (sym h.work);
      table = λ key. j.table key ∙ ap (λ (e : Enclosure). plus (key_row s.table key) (calls_row e calls key)) (sym e);
    }

-- with the choices of the reading, and all rows
abbrev pub noted : Counting → Seen → Seen
noted c s = filled (seen_with c (record { ends = s.ends; joins = s.joins; burdened_joins = s.burdened_joins })) s

pub alike : {rest : Rows} (c : Counting) (s : Seen) → Shows rest (seen_with c no_notes) s → AreAlike s (noted c s)
alike c s h = record {
  frames = sym h.frames;
  open_sites = λ y. sym (h.open_sites y);
  open_funcs = λ y. sym (h.open_funcs y);
  work = sym h.work;
  table = λ key. refl;
  ends = λ j. s.ends;
  joins = λ j. s.joins;
  burdened_joins = λ j. s.burdened_joins;
}

pub same_led : {rest : Rows} (trace : Recording) (burdens : Burdens) (i : ℕ) (c : Counting) (s : Seen) (ways : Both) → Shows rest (seen_with c no_notes) s → Led trace burdens i s ways → Led trace burdens i (noted c s) ways
same_led trace burdens i c s ways h l = record {
  passed = same_passed trace burdens 0 i s (noted c s) (alike c s h) l.passed;
  many = λ on. l.many on ∙ ap (λ (fs : List CountedFrame). length fs) (sym h.frames);
  low = λ on. subst (λ w. AreLow i w (ways on)) (sym h.work) (l.low on);
  has = l.has;
}

module _ {rest : Rows} (trace : Recording) (burdens : Burdens) (i : ℕ) (settled : Bool) (c : Counting) (w : OpenWays) (st : Stands rest trace burdens i settled c w) where
  pub few : i ≤ 268435456
  few = let a = st.within in let b = st.limits.events in omega arith

  -- the reading, and what is counted, are led
  pub state_led : Led trace burdens i st.state st.ways
  state_led = led_at trace burdens st.light st.limits.events i st.within st.state st.ways st.at

  pub now_led : Led trace burdens i (noted c st.state) st.ways
  now_led = same_led trace burdens i c st.state st.ways st.counted state_led

-- ---- where no rows are lacking

-- with the choices of the reading
abbrev pub plain_noted : Counting → Seen → Seen
plain_noted c s = seen_with c (record { ends = s.ends; joins = s.joins; burdened_joins = s.burdened_joins })

pub plain_led : (trace : Recording) (burdens : Burdens) (i : ℕ) (settled : Bool) (c : Counting) (w : OpenWays) (st : Stands no_rows trace burdens i settled c w)
    → Led trace burdens i (plain_noted c st.state) st.ways
plain_led trace burdens i settled c w st =
    let s : Seen = st.state in
    let h = st.counted in
    let l = state_led trace burdens i settled c w st in
    let same : AreAlike s (plain_noted c s) = record {
      frames = sym h.frames;
      open_sites = λ y. sym (h.open_sites y);
      open_funcs = λ y. sym (h.open_funcs y);
      work = sym h.work;
      table = λ key. sym (h.table key) ∙ plus-zero (key_row c.table key);
      ends = λ j. s.ends;
      joins = λ j. s.joins;
      burdened_joins = λ j. s.burdened_joins;
    } in
    record {
      passed = same_passed trace burdens 0 i s (plain_noted c s) same l.passed;
      many = λ on. l.many on ∙ ap (λ (fs : List CountedFrame). length fs) (sym h.frames);
      low = λ on. subst (λ w. AreLow i w (st.ways on)) (sym h.work) (l.low on);
      has = l.has;
    }

-- ---- rows that are kept aside

module _ {rest : Rows} (trace : Recording) (burdens : Burdens) (i : ℕ) (settled : Bool) (c : Counting) (w : OpenWays) (st : Stands rest trace burdens i settled c w) where
  -- all rows fit
  pub all_fit : (key : Option ℕ) → Fits (plus (key_row c.table key) (rest key))
  all_fit key =
      let l = (state_led trace burdens i settled c w st).passed in
      let work : st.state.work ≤ 18446744073709551615 * i = l.reached.small in
      let n = few trace burdens i settled c w st in
      subst Fits (sym (st.counted.table key))
      (low_fits i st.state.work (key_row st.state.table key) (owed (map counted st.state.frames) key) _ refl (l.bounded.low key) (omega arith) (omega arith))

  -- whatever the rest is called
  pub same_rest : (other : Rows) → ((key : Option ℕ) → rest key ≡ other key) → Stands other trace burdens i settled c w
  same_rest other same = record {
    state = st.state;
    ways = st.ways;
    at = st.at;
    none = st.none;
    counted = record {
      frames = st.counted.frames;
      open_sites = st.counted.open_sites;
      open_funcs = st.counted.open_funcs;
      work = st.counted.work;
      table = λ key. ap (λ (r : Row). plus (key_row c.table key) r) (sym (same key)) ∙ st.counted.table key;
    };
    logged = st.logged;
    laid = st.laid;
    rows = st.rows;
    within = st.within;
    limits = st.limits;
    good = st.good;
    light = st.light;
  }

  -- some of the rest have been added to the table
  pub rest_added : (aside : RowsAside) (other : Rows) → ((key : Option ℕ) → rest key ≡ plus (aside_row aside key) (other key)) → (d : Counting) → HasAside aside (seen_with c no_notes) (seen_with d no_notes)
      → Stands other trace burdens i settled d w
  rest_added aside other split d has = record {
    state = st.state;
    ways = st.ways;
    at = st.at;
    none = st.none;
    counted = record {
      frames = has.frames ∙ st.counted.frames;
      open_sites = λ y. ap (λ (m : ℕ → Bool). m y) has.open_sites ∙ st.counted.open_sites y;
      open_funcs = λ y. ap (λ (m : ℕ → Bool). m y) has.open_funcs ∙ st.counted.open_funcs y;
      work = has.work ∙ st.counted.work;
      table = λ key. ap (λ (r : Row). plus r (other key)) (has.table key) ∙ plus-assoc (key_row c.table key) (aside_row aside key) (other key)
          ∙ ap (λ (r : Row). plus (key_row c.table key) r) (sym (split key)) ∙ st.counted.table key;
    };
    logged = st.logged;
    laid = st.laid;
    rows = st.rows;
    within = st.within;
    limits = st.limits;
    good = st.good;
    light = st.light;
  }

-- those that are kept aside have been
pub with_aside : (r : ProfileSoFar) (trace : Recording) (burdens : Burdens) (i : ℕ) → Stands (rest_of r no_rows) trace burdens i false r.counting r.ways → (d : Counting)
    → HasAside r.aside (seen_with r.counting no_notes) (seen_with d no_notes) → Stands no_rows trace burdens i false d r.ways
with_aside r trace burdens i st d has = rest_added trace burdens i false r.counting r.ways st r.aside no_rows (λ key. refl) d has

-- where the same rows are kept aside
pub aside_same : (lent : Rows) (a b : RowsAside) → b ≡ a → (trace : Recording) (burdens : Burdens) (i : ℕ) (c : Counting) (w : OpenWays) → Stands (λ key. plus (aside_row a key) (lent key)) trace burdens i false c w
    → Stands (λ key. plus (aside_row b key) (lent key)) trace burdens i false c w
aside_same lent a b same trace burdens i c w = subst (λ (x : RowsAside). Stands (λ key. plus (aside_row x key) (lent key)) trace burdens i false c w) (sym same)
