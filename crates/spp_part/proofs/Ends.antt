-- What has come so far, where the innermost frame waits or returns.
use Rattle.std.proofs.Common.{◌≡◌, ℕ, suc, ◌+◌, ◌≤◌, ◌<◌, Bool, true, false, cond, List, [], ◌∷◌, length, Option, Some, None, refl, sym, ap, ap₂, subst, ◌∙◌, arith}
use Rattle.spp_event.specs.Recordings.{Recording}
use Rattle.spp_event.specs.declared.records.Event.TheVariants.{Ret, Sync}
use Rattle.spp_maxplus.specs.declared.state.Burdens.{Burdens}
use Rattle.spp_dag.specs.declared.row.Row.{Row}
use Rattle.spp_dag.specs.Shares.{plus, zero_row}
use Rattle.spp_dag.specs.Steps.{same_key}
use Rattle.spp_frame.specs.Answers.{IsFaultOf}
use Rattle.spp_frame.specs.declared.profile_fault.ProfileFault.TheVariants.{Bad}
use Rattle.spp_frame.specs.declared.Why.TheVariants.{RootReturn}
use Rattle.spp_site.specs.Marks.{without}
use Rattle.spp_site.specs.Rows.{Fits, frame_row}
use Rattle.spp_site.specs.Table.{Sums, IsAdded, row_at}
use Rattle.spp_site.specs.Profiles.{key_row}
use Rattle.spp_site.proofs.Rows.{plus-swap, plus-assoc, first_fits}
use Rattle.spp_ways.specs.declared.open_ways.OnPaths.{OnPaths}
use Rattle.spp_ways.specs.declared.open_ways.OpenWays.{OpenWays}
use Rattle.spp_ways.specs.Ways.{Ways}
use Rattle.spp_ways.specs.OpenWays.{AreWays, IsLaid, FitTop, HasOne, on_path, bare_row, returned_list, waited_list}
use Rattle.spp_ways.proofs.Steps.{some_frame, two_frames}
use Rattle.spp_site.proofs.Keys.{added_key}
use Rattle.spp_pass.specs.declared.counted_frame.CountedFrame.{CountedFrame}
use Rattle.spp_pass.specs.declared.counting.Counting.{Counting}
use Rattle.spp_pass.specs.declared.counting.Closing.{Closing}
use Rattle.spp_pass.specs.declared.counting.Popped.{Popped}
use Rattle.spp_pass.specs.Passes.{Seen, popped_seen, IsPopped, caller_in, Pops, CanPop, Notes, no_notes, seen_with, noted_sync, noted_return, sync_seen, sync_frame, on_top, row_of, closing_of, OnTop, HasOpen, AreTakes, CanReturn, Returns, IsClosing, IsReturned}
use Rattle.spp_site.specs.NarrowRows.{at_site}
use Rattle.spp_pass.proofs.Keeping.{kept_return}
use Rattle.spp_pass.proofs.Passed.{has_open, ready_return, root_stays, leans}
use Rattle.spp_pass.proofs.RunReturns.{returned_seen, run_returns, with_row, is_added}
use Rattle.spp_serial.proofs.Reading.{Led, has_one, has_two, site_in, returned_fits}
use Rattle.spp_part.specs.States.{IsEventAt}
use Rattle.spp_part.specs.Parts.{HasNone, HasNoWay, Rows, Shows, Stands}
use Rattle.spp_part.proofs.Standing.{noted, now_led}

-- which choices are noted doesn't matter, and that the table lacks rows
return_plain : {rest : Rows} (b : Burdens) (c : Counting) (s : Seen) → Shows rest (seen_with c no_notes) s → (fs : List CountedFrame) → CanReturn b (noted c s) fs → CanReturn b (seen_with c no_notes) fs
return_plain b c s e [] h = absurd h
return_plain b c s e (f ∷ []) h = tt
return_plain {rest = rest} b c s e (f ∷ g ∷ fs) h = record {
  fits = h.fits;
  before = h.before;
  site = h.site;
  row = first_fits (row_at c.table f.site) (rest (Some f.site)) (row_of f c.work) (subst (λ (r : Row). Fits (plus r (row_of f c.work))) (sym (e.table (Some f.site))) h.row);
}

-- where the root alone is open nothing is told of a table
still : (b : Burdens) (i : ℕ) (s t new : Seen) (fs : List CountedFrame) → Returns b i s fs false new → Returns b i t fs false new
still b i s t new [] h = h
still b i s t new (f ∷ []) h = h
still b i s t new (f ∷ g ∷ fs) h = absurd (let z : false ≡ true = h.0 in cc)

pub popped_still : (b : Burdens) (i : ℕ) (s new : Seen) (fs : List CountedFrame) → Pops b i s fs false new → Returns b i s fs false new
popped_still b i s new [] h = h
popped_still b i s new (f ∷ []) h = h
popped_still b i s new (f ∷ g ∷ fs) h = absurd (let z : false ≡ true = h.0 in cc)

-- two frames are open where the innermost returns
record Two (b : Burdens) (work : ℕ) (fs : List CountedFrame) (closing : Closing) : Type 0 where
  top : CountedFrame
  next : CountedFrame
  below : List CountedFrame
  is : fs ≡ top ∷ next ∷ below
  told : closing ≡ closing_of b work top next

two_open : (b : Burdens) (work : ℕ) (fs : List CountedFrame) (closing : Closing) → IsClosing b work fs (Some closing) → Two b work fs closing
two_open b work [] closing h = absurd h
two_open b work (f ∷ []) closing h = let z : Some closing ≡ None = h in cc
two_open b work (f ∷ g ∷ fs) closing h = record { top = f; next = g; below = fs; is = refl; told = (let z : Some closing ≡ Some (closing_of b work f g) = h in cc) }

added_same : (rest : Rows) (a b x y : Sums) (site : ℕ) (r q : Row) → IsAdded a b site r → IsAdded x y site q → r ≡ q → ((key : Option ℕ) → plus (key_row a key) (rest key) ≡ key_row x key) → (key : Option ℕ) → plus (key_row b key) (rest key) ≡ key_row y key
added_same rest a b x y site r q h k e same key =
    ap (λ (z : Row). plus z (rest key)) (added_key a b site r h key) ∙ plus-swap (key_row a key) (cond (same_key (Some site) key) r zero_row) (rest key) ∙ ap₂ plus (same key) (ap (λ (z : Row). cond (same_key (Some site) key) z zero_row) e) ∙ sym (added_key x y site q k key)

-- what a frame that was taken out tells
pub closing_in : (b : Burdens) (work : ℕ) (fs : List CountedFrame) (p : Popped) → IsPopped b work fs (Some p) → IsClosing b work fs (Some p.closing)
closing_in b work [] p h = h
closing_in b work (f ∷ []) p h = absurd (let z : Some p ≡ None = h in cc)
closing_in b work (f ∷ g ∷ fs) p h =
    let z : Some p ≡ Some (record { closing = closing_of b work f g; caller = caller_in (g ∷ fs) }) = h in
    let e : p ≡ record { closing = closing_of b work f g; caller = caller_in (g ∷ fs) } = cc in
    ap (λ (q : Popped). Some q.closing) e

module _ {rest : Rows} (trace : Recording) (burdens : Burdens) (i : ℕ) (c : Counting) (o : OpenWays) (st : Stands rest trace burdens i false c o) (lt : i < length trace.records) where
  abbrev led : Led trace burdens i (noted c st.state) st.ways
  led = now_led trace burdens i false c o st

  abbrev now : Seen
  now = seen_with c no_notes

  pub opens : HasOpen now
  opens = has_open trace burdens st.light st.limits.events 0 i (omega arith) lt (noted c st.state) led.passed

  pub one : 0 < length o.frames.items
  one = some_frame false o (st.ways false) (st.logged false) (has_one trace burdens st.light st.limits.events i lt (noted c st.state) st.ways led false)

  pub can_return : CanReturn burdens now now.frames
  can_return = return_plain burdens c st.state st.counted now.frames (ready_return trace burdens st.light st.limits.events 0 i (omega arith) lt st.limits.sites (noted c st.state) led.passed)

  pub can_pop : CanPop burdens now now.frames
  can_pop = by now.frames can_return
    where
      by : (fs : List CountedFrame) → CanReturn burdens now fs → CanPop burdens now fs
      by [] h = h
      by (f ∷ []) h = h
      by (f ∷ g ∷ fs) h = (h.fits, h.before)

  pub root_returns : IsEventAt trace i Ret → (d : Counting) → ((n : Notes) → Returns burdens i (seen_with c n) (seen_with c n).frames false (seen_with d (noted_return i (seen_with c n).frames n)))
      → IsFaultOf trace.records (Bad (record { at = i; why = RootReturn }))
  root_returns e d h =
      let n : Notes = record { ends = st.state.ends; joins = st.state.joins; burdened_joins = st.state.burdened_joins } in
      let stop = root_stays trace burdens st.light st.limits.events 0 i (omega arith) lt (noted c st.state) (seen_with d (noted_return i now.frames n)) (still burdens i (seen_with c n) (noted c st.state) (seen_with d (noted_return i now.frames n)) now.frames (h n)) led.passed in
      kept_return trace.records burdens trace.root i (noted c st.state).work (leans (noted c st.state).frames) lt e.0 stop led.passed.reached

  -- ---- a wait

  pub waits : IsEventAt trace i Sync → (answer : OnPaths) → AreTakes answer now.frames → (d : Counting) → ((at : ℕ) (n : Notes) → seen_with d (noted_sync at (seen_with c n).frames n) ≡ sync_seen at (seen_with c n))
      → (p : OpenWays) → IsLaid p → ((on : Bool) (ways : List Ways) → AreWays on o ways → AreWays on p (waited_list (on_path on answer) ways)) → length p.log.rows.items ≤ length o.log.rows.items
      → Stands rest trace burdens (suc i) true d p
  waits e answer takes d is p laid ways rows =
      record {
        state = sync_seen i st.state;
        ways = λ on. waited_list (on_path on answer) (st.ways on);
        at = (Sync, e, (st.state, st.ways, st.at, (answer, refl, subst (AreTakes answer) st.counted.frames takes, λ on. refl)));
        none = λ q. (none_waits st.state.frames (subst (OnTop (λ f. Unit {0})) st.counted.frames opens), λ on. no_way_waits on (st.ways on) (has_one trace burdens st.light st.limits.events i lt (noted c st.state) st.ways led on));
        counted = record {
          frames = ap (λ (s : Seen). s.frames) (is i no_notes) ∙ ap (on_top sync_frame) st.counted.frames;
          open_sites = λ y. ap (λ (s : Seen). s.open_sites y) (is i no_notes) ∙ st.counted.open_sites y;
          open_funcs = λ y. ap (λ (s : Seen). s.open_funcs y) (is i no_notes) ∙ st.counted.open_funcs y;
          work = ap (λ (s : Seen). s.work) (is i no_notes) ∙ st.counted.work;
          table = λ key. ap (λ (s : Seen). plus (key_row s.table key) (rest key)) (is i no_notes) ∙ st.counted.table key;
        };
        logged = λ on. ways on (st.ways on) (st.logged on);
        laid = laid;
        rows = (let a = st.rows in omega arith);
        within = lt;
        limits = st.limits;
        good = st.good;
        light = st.light;
      }
    where
      none_waits : (fs : List CountedFrame) → OnTop (λ f. Unit {0}) fs → HasNone (on_top sync_frame fs)
      none_waits [] h = absurd h
      none_waits (f ∷ fs) h = (refl, refl)

      no_way_waits : (on : Bool) (ws : List Ways) → HasOne ws → HasNoWay (waited_list (on_path on answer) ws)
      no_way_waits on [] h = absurd h
      no_way_waits on (w ∷ ws) h = refl

  -- ---- a return

  module _ (closing : Closing) (is : IsClosing burdens now.work now.frames (Some closing)) where
    pub two : 1 < length o.frames.items
    two = two_frames false o (st.ways false) (st.logged false) (has_two trace burdens st.light st.limits.events i lt (noted c st.state) st.ways led closing is)

    pub site : closing.site < 65536
    site = site_in trace burdens st.light st.limits.events i lt (noted c st.state) st.ways led st.limits.sites closing is

    pub fits : (on : Bool) → (ways : List Ways) × AreWays on o ways × FitTop (returned_list closing.kind (on_path on closing.takes) (on_path on closing.wins) closing.site (bare_row closing.closed) ways)
    fits on = (st.ways on, st.logged on, returned_fits trace burdens st.light st.limits.events i lt (noted c st.state) st.ways led on closing is)

    pub returns : IsEventAt trace i Ret → (d : Counting) → ((n : Notes) → Returns burdens i (seen_with c n) (seen_with c n).frames true (seen_with d (noted_return i (seen_with c n).frames n)))
        → (p : OpenWays) → IsLaid p → ((on : Bool) (ways : List Ways) → AreWays on o ways → AreWays on p (returned_list closing.kind (on_path on closing.takes) (on_path on closing.wins) closing.site (bare_row closing.closed) ways))
        → length p.log.rows.items ≤ length o.log.rows.items + 1 → Stands rest trace burdens (suc i) false d p
    returns e d h p laid ways rows =
        let t = two_open burdens now.work now.frames closing is in
        let frames : st.state.frames ≡ t.top ∷ t.next ∷ t.below = sym st.counted.frames ∙ t.is in
        let r : IsReturned burdens i t.top t.next t.below now (seen_with d (noted_return i now.frames no_notes)) =
        (subst (λ (fs : List CountedFrame). Returns burdens i now fs true (seen_with d (noted_return i now.frames no_notes))) t.is (h no_notes)).1 in
        let s : Seen = st.state in
        record {
          state = returned_seen burdens i t.top t.next t.below s;
          ways = λ on. returned_list closing.kind (on_path on closing.takes) (on_path on closing.wins) closing.site (bare_row closing.closed) (st.ways on);
          at = (
            Ret,
            e,
            (
              s,
              st.ways,
              st.at,
              (
                closing,
                run_returns burdens i t.top t.next t.below s frames,
                subst (λ (fs : List CountedFrame). IsClosing burdens s.work fs (Some closing)) st.counted.frames (subst (λ w. IsClosing burdens w now.frames (Some closing)) st.counted.work is),
                λ on. refl,
              ),
            ),
          );
          none = λ q. cc;
          counted = record {
            frames = r.frames;
            open_sites = λ y. ap (λ (m : ℕ → Bool). m y) r.open_sites ∙ ap (λ (m : ℕ → Bool). without t.top.top_site t.top.site m y) (λ k z. st.counted.open_sites z k);
            open_funcs = λ y. ap (λ (m : ℕ → Bool). m y) r.open_funcs ∙ ap (λ (m : ℕ → Bool). without t.top.top_func t.top.func m y) (λ k z. st.counted.open_funcs z k);
            work = r.work ∙ st.counted.work;
            table = λ key. added_same rest now.table d.table s.table (with_row s.table t.top.site (row_of t.top s.work)) t.top.site (row_of t.top now.work) (row_of t.top s.work) r.table
                (is_added s.table t.top.site (row_of t.top s.work)) (ap (row_of t.top) st.counted.work) st.counted.table key;
          };
          logged = λ on. ways on (st.ways on) (st.logged on);
          laid = laid;
          rows = (let a = st.rows in omega arith);
          within = lt;
          limits = st.limits;
          good = st.good;
          light = st.light;
        }

    -- where the row of the frame is with the rest
    pub returns_aside : IsEventAt trace i Ret → (d : Counting) → ((n : Notes) → Pops burdens i (seen_with c n) (seen_with c n).frames true (seen_with d (noted_return i (seen_with c n).frames n)))
        → (then_rest : Rows) → ((key : Option ℕ) → then_rest key ≡ plus (rest key) (at_site closing.site (frame_row closing.closed) key))
        → (p : OpenWays) → IsLaid p → ((on : Bool) (ways : List Ways) → AreWays on o ways → AreWays on p (returned_list closing.kind (on_path on closing.takes) (on_path on closing.wins) closing.site (bare_row closing.closed) ways))
        → length p.log.rows.items ≤ length o.log.rows.items + 1 → Stands then_rest trace burdens (suc i) false d p
    returns_aside e d h then_rest more p laid ways rows =
        let t = two_open burdens now.work now.frames closing is in
        let frames : st.state.frames ≡ t.top ∷ t.next ∷ t.below = sym st.counted.frames ∙ t.is in
        let r : seen_with d (noted_return i now.frames no_notes) ≡ popped_seen burdens i t.top t.next t.below now =
        (subst (λ (fs : List CountedFrame). Pops burdens i now fs true (seen_with d (noted_return i now.frames no_notes))) t.is (h no_notes)).1 in
        let s : Seen = st.state in
        record {
          state = returned_seen burdens i t.top t.next t.below s;
          ways = λ on. returned_list closing.kind (on_path on closing.takes) (on_path on closing.wins) closing.site (bare_row closing.closed) (st.ways on);
          at = (
            Ret,
            e,
            (
              s,
              st.ways,
              st.at,
              (
                closing,
                run_returns burdens i t.top t.next t.below s frames,
                subst (λ (fs : List CountedFrame). IsClosing burdens s.work fs (Some closing)) st.counted.frames (subst (λ w. IsClosing burdens w now.frames (Some closing)) st.counted.work is),
                λ on. refl,
              ),
            ),
          );
          none = λ q. cc;
          counted = record {
            frames = ap (λ (x : Seen). x.frames) r;
            open_sites = λ y. ap (λ (x : Seen). x.open_sites y) r ∙ ap (λ (m : ℕ → Bool). without t.top.top_site t.top.site m y) (λ k z. st.counted.open_sites z k);
            open_funcs = λ y. ap (λ (x : Seen). x.open_funcs y) r ∙ ap (λ (m : ℕ → Bool). without t.top.top_func t.top.func m y) (λ k z. st.counted.open_funcs z k);
            work = ap (λ (x : Seen). x.work) r ∙ st.counted.work;
            table = λ key.
                let added = at_site closing.site (frame_row closing.closed) key in
                ap₂ plus (ap (λ (x : Seen). key_row x.table key) r) (more key) ∙ sym (plus-assoc (key_row now.table key) (rest key) added)
                ∙ ap₂ plus (st.counted.table key) (ap (λ (q : Closing). at_site q.site (frame_row q.closed) key) t.told ∙ ap (λ w. at_site t.top.site (row_of t.top w) key) st.counted.work)
                ∙ sym (added_key s.table (with_row s.table t.top.site (row_of t.top s.work)) t.top.site (row_of t.top s.work) (is_added s.table t.top.site (row_of t.top s.work)) key);
          };
          logged = λ on. ways on (st.ways on) (st.logged on);
          laid = laid;
          rows = (let a = st.rows in omega arith);
          within = lt;
          limits = st.limits;
          good = st.good;
          light = st.light;
        }
