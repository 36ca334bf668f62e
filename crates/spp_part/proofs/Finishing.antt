-- What has come of all events of a run: its profile, or that frames are open at the end.
use Rattle.std.proofs.Common.{◌≡◌, ℕ, ◌+◌, ◌≤◌, ◌<◌, ◌^◌, Bool, true, false, List, [], ◌∷◌, length, map, Option, sym, ◌∙◌, arith}
use Rattle.std.proofs.lemmas.List.{length-map}
use Rattle.spp_event.specs.Recordings.{Recording}
use Rattle.spp_maxplus.specs.declared.state.Burdens.{Burdens}
use Rattle.spp_dag.specs.Figures.{AreFigures}
use Rattle.spp_dag.proofs.OpenEntries.{AreOpen}
use Rattle.spp_frame.specs.Answers.{IsFaultOf}
use Rattle.spp_frame.specs.declared.profile_fault.ProfileFault.TheVariants.{Bad}
use Rattle.spp_frame.specs.declared.Why.TheVariants.{Unclosed}
use Rattle.spp_site.specs.Rows.{Fits}
use Rattle.spp_site.specs.Table.{Sums}
use Rattle.spp_site.specs.Profiles.{key_row, IsDagTable, IsPathTable, IsProfileOf}
use Rattle.spp_site.proofs.WholeProfile.{whole}
use Rattle.spp_ways.specs.declared.open_ways.OpenWays.{OpenWays}
use Rattle.spp_ways.specs.Ways.{Ways, rows_at, burdens_on}
use Rattle.spp_ways.specs.OpenWays.{AreWays, HasOne, on_path, bare_row, root_rows}
use Rattle.spp_pass.specs.declared.counted_frame.CountedFrame.{CountedFrame}
use Rattle.spp_pass.specs.declared.counting.Counting.{Counting}
use Rattle.spp_pass.specs.declared.counting.Ended.{Ended}
use Rattle.spp_pass.specs.Passes.{Seen, no_notes, seen_with, OnTop, HasOpen, CanFinish, IsEnded}
use Rattle.spp_pass.proofs.Bounded.{entries}
use Rattle.spp_pass.proofs.Keeping.{kept_open}
use Rattle.spp_pass.proofs.Passed.{IsTold, leans, ready_finish}
use Rattle.spp_pass.proofs.Projected.{counted}
use Rattle.spp_serial.proofs.Reading.{Led}
use Rattle.spp_serial.proofs.Told.{told, path_fits, path_is}
use Rattle.spp_part.specs.Parts.{no_rows, Stands}
use Rattle.spp_part.proofs.Standing.{plain_noted, plain_led}

one_way : (ways : List Ways) → length ways ≡ 1 → HasOne ways
one_way [] e = absurd (omega arith)
one_way (w ∷ ws) e = tt

module _ (trace : Recording) (burdens : Burdens) (c : Counting) (o : OpenWays) (st : Stands no_rows trace burdens (length trace.records) false c o) where
  abbrev led : Led trace burdens (length trace.records) (plain_noted c st.state) st.ways
  led = plain_led trace burdens (length trace.records) false c o st

  abbrev now : Seen
  now = seen_with c no_notes

  pub some : HasOpen now
  some = by now.frames led.passed.bounded.open_frames
    where
      by : (fs : List CountedFrame) → AreOpen now.work (entries (map counted fs)) → OnTop (λ f. Unit {0}) fs
      by [] h = absurd h
      by (f ∷ fs) h = tt

  pub few : length now.frames ≤ 4294967296
  few =
      let a : length (map counted now.frames) ≤ length trace.records + 1 = led.passed.bounded.level in
      let b = length-map now.frames counted in
      let d = st.limits.events in
      omega arith

  pub unclosed : (depth : ℕ) → depth + 1 ≡ length now.frames → 0 < depth → IsFaultOf trace.records (Bad (record { at = length trace.records; why = Unclosed depth }))
  unclosed depth e deep =
      kept_open trace.records burdens trace.root (length trace.records) (plain_noted c st.state).work (length trace.records) depth (leans now.frames) (λ j. length trace.records) (λ j. length trace.records)
      (e ∙ sym (length-map now.frames _)) deep led.passed.reached

  -- where the root frame alone is open
  module _ (one : length now.frames ≡ 1) where
    pub can_finish : CanFinish now
    can_finish = by now.frames (ready_finish trace burdens st.limits.events (length trace.records) (λ j. length trace.records) (plain_noted c st.state) one led.passed)
      where
        by : (fs : List CountedFrame) → CanFinish (record (plain_noted c st.state) { frames = fs }) → CanFinish (record now { frames = fs })
        by [] h = h
        by (f ∷ fs) h = h

    module _ (e : Ended) (ended : IsEnded now now.frames e) where
      ended_now : IsEnded (plain_noted c st.state) now.frames e
      ended_now = by now.frames ended
        where
          by : (fs : List CountedFrame) → IsEnded now fs e → IsEnded (plain_noted c st.state) fs e
          by [] h = h
          by (f ∷ fs) h = h

      abbrev all : IsTold trace burdens st.limits.events (length trace.records) (λ j. length trace.records) e
      all = told trace burdens st.limits.events st.good (length trace.records) (λ j. length trace.records) (plain_noted c st.state) st.ways led one e ended_now

      pub fits : (on : Bool) → (ways : List Ways) × AreWays on o ways × HasOne ways × ((key : Option ℕ) → Fits (rows_at (root_rows (on_path on e.takes) (bare_row e.root) ways) key))
      fits on = (st.ways on, st.logged on, one_way (st.ways on) (led.many on ∙ one), path_fits trace burdens st.limits.events st.good (length trace.records) (λ j. length trace.records) (plain_noted c st.state) st.ways led one e ended_now on)

      pub figures : AreFigures trace.records burdens e.figures
      figures = all.figures

      pub small : e.figures.work < 2 ^ 92
      small = all.small

      pub dag : IsDagTable trace e.dag
      dag = all.dag

      -- the table of a path
      abbrev pub Told : Bool → Sums → Type 0
      Told on t = (ways : List Ways) → AreWays on o ways → (key : Option ℕ) → key_row t key ≡ rows_at (root_rows (on_path on e.takes) (bare_row e.root) ways) key

      pub path : (on : Bool) (t : Sums) → Told on t → IsPathTable trace (burdens_on on burdens) t
      path on t h = path_is trace burdens st.limits.events st.good (length trace.records) (λ j. length trace.records) (plain_noted c st.state) st.ways led one e ended_now on t (h (st.ways on) (st.logged on))

      pub profile : (p b : Sums) → Told false p → Told true b → IsProfileOf trace burdens (record { figures = e.figures; dag = e.dag; path = p; burdened_path = b })
      profile p b g h = whole trace burdens (record { figures = e.figures; dag = e.dag; path = p; burdened_path = b }) figures dag (path false p g) (path true b h)
