-- What a pass has before any event of a well-formed trace, and what a pass has that begins there.
use Rattle.std.proofs.Common.{◌≡◌, ℕ, zero, suc, ◌+◌, ◌<◌, ◌≤◌, Bool, true, false, cond, not, nat_eq, List, [], ◌∷◌, ◌++◌, length, map, Option, Some, None, Ok, Err, IfOk, unwrap_or, refl, sym, ap, ap₂, subst, ◌∙◌, arith}
use Rattle.std.specs.FinMap as map
use Rattle.std.specs.FinMap.{get-insert}
use Rattle.std.specs.Cmp.{unsigned_tied, nat_cmp_total}
use Rattle.std.proofs.lemmas.Bool.{eqb-true}
use Rattle.std.proofs.lemmas.List.{length-map}
use Rattle.spp_event.specs.declared.records.Event.{Event}
use Rattle.spp_event.specs.declared.records.Event.TheVariants.{Strand, Call, Spawn, Ret, Sync}
use Rattle.spp_event.specs.Records.{IsEventOf}
use Rattle.spp_event.specs.Recordings.{Record, Recording, AreEventsOf, record_at}
use Rattle.spp_frame.specs.Nesting as nesting
use Rattle.spp_frame.specs.Nesting.{AreEvents}
use Rattle.spp_frame.proofs.Laws.{well_formed_has_none}
use Rattle.spp_maxplus.specs.declared.state.Burdens.{Burdens}
use Rattle.spp_maxplus.specs.State as state
use Rattle.spp_maxplus.specs.State.{unburdened, close, after_strand, after_sync}
use Rattle.spp_dag.specs.declared.row.Row.{Row}
use Rattle.spp_dag.specs.declared.stack.FrameKind.TheVariants.{Called, Spawned}
use Rattle.spp_dag.specs.Choices.{IsEntry}
use Rattle.spp_dag.specs.Shares.{plus, zero_row}
use Rattle.spp_dag.specs.Steps.{same_key, key_of, has_site, has_func}
use Rattle.spp_site.specs.Table.{Sums, row_at, empty, IsAdded}
use Rattle.spp_site.specs.Marks.{without}
use Rattle.spp_site.proofs.Rows.{zero-plus}
use Rattle.spp_site.specs.Profiles.{key_row}
use Rattle.spp_dag.specs.declared.choices.End.{End}
use Rattle.spp_dag.specs.declared.choices.Choice.{Choice}
use Rattle.spp_dag.specs.ChoiceLists.{IsEnd, IsJoin}
use Rattle.spp_site.proofs.RowSums.{none_owed, Low, low_zero}
use Rattle.spp_dag.proofs.EventsOfRecords.{no_fault_in}
use Rattle.spp_pass.specs.declared.counted_frame.CountedFrame.{CountedFrame}
use Rattle.spp_maxplus.specs.declared.weights.Weights.{Weights}
use Rattle.spp_maxplus.specs.Weights.{weights_of}
use Rattle.spp_pass.specs.Passes.{Seen, child_of, standing, state_of, burdened_state_of, row_of, joins_at, ends_at, start_seen, strand_seen, sync_seen, open_seen, returned_frame}
use Rattle.spp_pass.specs.Outside.{spawn_of, entered_frame, entered_frames, AreBelow}
use Rattle.spp_pass.proofs.Keeping as figures
use Rattle.spp_pass.proofs.Keeping.{kept_return}
use Rattle.spp_pass.proofs.TablePart.{state_sum}
use Rattle.spp_pass.proofs.Bounded.{entries, owed, AreMarked, empty_rows}
use Rattle.spp_dag.proofs.OpenEntries.{AreOpen}
use Rattle.spp_pass.proofs.Shared.{share_none}
use Rattle.spp_pass.proofs.Choosing.{none_from}
use Rattle.spp_pass.proofs.Projected.{lean, counted, IsNeatIn, IsNeat, AllNeat}
use Rattle.spp_pass.proofs.Passed.{leans, IsRead, site_bound, Passed, start_passed, strand_passed, sync_passed, call_passed, spawn_passed, return_passed}

-- ---- a pass over all events

added_row : (t : Sums) (site : ℕ) (row : Row) → (u : Sums) × IsAdded t u site row
added_row t site row = (
  record t { sites = map.insert t.sites site v },
  record {
    root = refl;
    sites = λ s.
        ap (λ (o : Option Row). unwrap_or o zero_row) (get-insert nat_cmp_total t.sites site v s ∙ ap (λ b. cond b (Some v) (map.get t.sites s)) (unsigned_tied s site))
        ∙ by s (nat_eq s site) (eqb-true s site);
  },
)
  where
    v : Row
    v = plus (row_at t site) row

    by : (s : ℕ) (b : Bool) → (b ≡ true → s ≡ site) → unwrap_or (cond b (Some v) (map.get t.sites s)) zero_row ≡ cond b (plus (row_at t s) row) (row_at t s)
    by s true h = ap (λ k. plus (row_at t k) row) (sym (h refl))
    by s false h = refl

-- a well-formed trace within the limits
pub record Sound (trace : Recording) : Type 0 where
  pub formed : nesting.IsWellFormed trace.records
  pub short : length trace.records ≤ 268435456
  pub few : length trace.sites ≤ 65536
  pub within : AreEventsOf (length trace.sites) (length trace.funcs) trace.records

-- a return never meets the root alone
pub not_alone : (trace : Recording) → Sound trace → (burdens : Burdens) (from i : ℕ) → i < length trace.records → record_at trace.records i ≡ Ok Ret → (s : Seen) (f : CountedFrame) → Passed trace burdens from i (record s { frames = f ∷ [] }) → ⊥
not_alone trace sound burdens from i lt is s f at =
    well_formed_has_none trace.records _ sound.formed (kept_return trace.records burdens trace.root i s.work (leans (f ∷ [])) lt is refl at.reached)

-- the record at a position, as the event that it is
pub record Reads (trace : Recording) (i : ℕ) : Type 0 where
  pub event : Event
  pub read : IsRead trace i event

pub reads : (trace : Recording) → Sound trace → (i : ℕ) → i < length trace.records → Reads trace i
reads trace sound i lt = by (record_at trace.records i) refl (sound.within i lt)
  where
    by : (r : Record) → record_at trace.records i ≡ r → IfOk (record_at trace.records i) (IsEventOf (length trace.sites) (length trace.funcs)) → Reads trace i
    by (Err f) e h = absurd (no_fault_in trace i f sound.formed lt e)
    by (Ok x) e h = record { event = x; read = (e, subst (λ (r : Record). IfOk r (IsEventOf (length trace.sites) (length trace.funcs))) e h) }

next_passed : (trace : Recording) → Sound trace → (burdens : Burdens) → burdens.continuation + burdens.join ≤ 8589934592 → (i : ℕ) → i < length trace.records → (e : Event) → IsRead trace i e → (s : Seen) → Passed trace burdens 0 i s
    → (new : Seen) × Passed trace burdens 0 (suc i) new
next_passed trace sound burdens light i lt (Strand n) r s at = (strand_seen n s, strand_passed trace burdens light sound.short 0 i (omega arith) lt n r s (strand_seen n s) refl at)
next_passed trace sound burdens light i lt (Call site func) r s at = (open_seen Called i site func s, call_passed trace burdens light sound.short 0 i (omega arith) lt site func r s (open_seen Called i site func s) refl at)
next_passed trace sound burdens light i lt (Spawn site func) r s at = (open_seen Spawned i site func s, spawn_passed trace burdens light sound.short 0 i (omega arith) lt site func r s (open_seen Spawned i site func s) refl at)
next_passed trace sound burdens light i lt Sync r s at = (sync_seen i s, sync_passed trace burdens light sound.short 0 i (omega arith) lt r s (sync_seen i s) refl at)
next_passed trace sound burdens light i lt Ret r s at = by s.frames at
  where
    by : (frames : List CountedFrame) → Passed trace burdens 0 i (record s { frames = frames }) → (new : Seen) × Passed trace burdens 0 (suc i) new
    by [] at = absurd at.bounded.open_frames
    by (f ∷ []) at = absurd (not_alone trace sound burdens 0 i lt r.0 s f at)
    by (f ∷ g ∷ fs) at =
        let u = added_row s.table f.site (row_of f s.work) in
        let new : Seen = record {
          frames = returned_frame burdens f g ∷ fs;
          open_sites = without f.top_site f.site s.open_sites;
          open_funcs = without f.top_func f.func s.open_funcs;
          work = s.work;
          table = u.0;
          ends = s.ends ++ ends_at i f.kind f.at;
          joins = s.joins ++ joins_at i (state_of f);
          burdened_joins = s.burdened_joins ++ joins_at i (burdened_state_of f);
        } in (
          new,
          return_passed trace burdens light sound.short 0 i (omega arith) lt r (record s { frames = f ∷ g ∷ fs }) new
              (refl, record { frames = refl; open_sites = refl; open_funcs = refl; work = refl; table = u.1; ends = refl; joins = refl; burdened_joins = refl }) at,
        )

pub passed_to : (trace : Recording) → Sound trace → (burdens : Burdens) → burdens.continuation + burdens.join ≤ 8589934592 → (i : ℕ) → i ≤ length trace.records → (s : Seen) × Passed trace burdens 0 i s
passed_to trace sound burdens light zero l = (start_seen trace.root, start_passed trace burdens (start_seen trace.root) refl)
passed_to trace sound burdens light (suc i) l =
    let p = passed_to trace sound burdens light i (omega arith) in
    let r = reads trace sound i (omega arith) in
    next_passed trace sound burdens light i (omega arith) r.event r.read p.0 p.1

-- ---- a pass that begins there

-- the frame, with no strands of its own yet
abbrev pub rested : CountedFrame → CountedFrame
rested f = record f { local = 0 }

rested_leans : (fs : List CountedFrame) → leans (map rested fs) ≡ leans fs
rested_leans [] = refl
rested_leans (f ∷ fs) = ap (λ l. lean f ∷ l) (rested_leans fs)

rested_neat : (fs : List CountedFrame) → AllNeat fs → AllNeat (map rested fs)
rested_neat [] h = tt
rested_neat (f ∷ fs) h = (h.0, rested_neat fs h.1)

rested_sites : (n : ℕ) (fs : List CountedFrame) → AreBelow n fs → AreBelow n (map rested fs)
rested_sites n [] h = tt
rested_sites n (f ∷ fs) h = (h.0, rested_sites n fs h.1)

rested_entries : (fs : List CountedFrame) → entries (map counted (map rested fs)) ≡ entries (map counted fs)
rested_entries [] = refl
rested_entries (f ∷ fs) = ap (λ l. (counted f).entry ∷ l) (rested_entries fs)

rested_marked : (fs : List CountedFrame) → AreMarked (map counted fs) → AreMarked (map counted (map rested fs))
rested_marked [] h = tt
rested_marked (f ∷ fs) h = (
  subst (λ l. f.top_site ≡ not (has_site l f.site)) (sym (rested_entries fs)) h.0,
  subst (λ l. f.top_func ≡ not (has_func l f.func)) (sym (rested_entries fs)) h.1,
  rested_marked fs h.2,
)

rested_sum : (fs : List CountedFrame) → state_sum (map counted (map rested fs)) ≡ state_sum (map counted fs)
rested_sum [] = refl
rested_sum (f ∷ fs) = ap (λ n. state.close (state_of f) + n) (rested_sum fs)

pub rested_owed : (fs : List CountedFrame) (key : Option ℕ) → owed (map counted (map rested fs)) key ≡ zero_row
rested_owed [] key = refl
rested_owed (f ∷ fs) key = none_owed (same_key (key_of (counted f).entry) key) (owed (map counted (map rested fs)) key) ∙ rested_owed fs key

-- before the first event of a part nothing is in the table
abbrev pub begun_seen : Seen → Seen
begun_seen s = record s { frames = map rested s.frames; table = empty; ends = []; joins = []; burdened_joins = [] }

no_rows : (fs : List CountedFrame) (key : Option ℕ) → plus (key_row empty key) (owed (map counted (map rested fs)) key) ≡ zero_row
no_rows fs key = ap₂ plus (empty_rows key) (rested_owed fs key) ∙ zero-plus zero_row

pub begun_passed : (trace : Recording) (burdens : Burdens) (i : ℕ) (s : Seen) → Passed trace burdens 0 i s → Passed trace burdens i i (begun_seen s)
begun_passed trace burdens i s at =
    let same = rested_entries s.frames in
    let long : length (map counted (map rested s.frames)) ≡ length (map counted s.frames) =
    length-map (map rested s.frames) counted ∙ length-map s.frames rested ∙ sym (length-map s.frames counted) in
    let sum = rested_sum s.frames in
    let level : length (map counted s.frames) ≤ i + 1 = at.bounded.level in
    let states : state_sum (map counted s.frames) ≤ s.work = at.bounded.states in
    record {
      reached = subst (λ l. figures.Kept trace.records burdens trace.root i s.work l) (sym (rested_leans s.frames)) at.reached;
      neat = rested_neat s.frames at.neat;
      sites = rested_sites (site_bound trace) s.frames at.sites;
      bounded = record {
        low = λ key. subst (λ r. Low i s.work r) (sym (no_rows s.frames key)) (low_zero i s.work);
        sites = λ x. at.bounded.sites x ∙ ap (λ l. has_site l x) (sym same);
        funcs = λ x. at.bounded.funcs x ∙ ap (λ l. has_func l x) (sym same);
        marked = rested_marked s.frames at.bounded.marked;
        open_frames = subst (λ l. AreOpen s.work l) (sym same) at.bounded.open_frames;
        states = omega arith;
        level = omega arith;
        small = at.bounded.small;
      };
      shared = λ es are wf span spans. record {
        entry = subst (λ l. IsEntry es burdens trace.root i l s.work) (sym same) (at.shared es are wf span spans).entry;
        rows = λ key. no_rows s.frames key ∙ sym (share_none es wf trace.root span spans i key);
      };
      noted = λ es are wf. (
        none_from (λ (e : End). e.at) (IsEnd es) i,
        none_from (λ (j : Choice). j.at) (IsJoin es unburdened) i,
        none_from (λ (j : Choice). j.at) (IsJoin es burdens) i,
      );
    }

-- ---- its frames are those of the entry

weight_is : (w : Weights) (c : Option ℕ) → IsNeatIn w c → weights_of (standing w c) ≡ w
weight_is w None h = ap (λ (n : ℕ). let v : Weights = record { spine = w.spine; child = n } in v) (sym (h refl))
weight_is w (Some s) h = refl

spawn_is : (w : ℕ) (c : Option ℕ) → spawn_of (child_of w c) ≡ c
spawn_is w None = refl
spawn_is w (Some s) = refl

entered_is : (f : CountedFrame) → IsNeat f → (b : Bool) → b ≡ f.top_func → entered_frame (counted f).entry b ≡ rested f
entered_is f neat b top =
    let plain : weights_of (state_of f) ≡ f.plain = weight_is f.plain f.child neat.0 in
    let burdened : weights_of (burdened_state_of f) ≡ f.burdened = weight_is f.burdened f.burdened_child neat.1 in
    let spawn : spawn_of (state_of f).child ≡ f.child = spawn_is f.plain.child f.child in
    let burdened_spawn : spawn_of (burdened_state_of f).child ≡ f.burdened_child = spawn_is f.burdened.child f.burdened_child in
    λ j. record {
      plain = plain j;
      burdened = burdened j;
      before = f.before;
      local = 0;
      child = spawn j;
      burdened_child = burdened_spawn j;
      at = f.at;
      site = f.site;
      func = f.func;
      kind = f.kind;
      top_site = f.top_site;
      top_caller = f.top_caller;
      top_func = top j;
    }

pub entered_are : (fs : List CountedFrame) → AllNeat fs → AreMarked (map counted fs) → entered_frames (entries (map counted fs)) ≡ map rested fs
entered_are [] n m = refl
entered_are (f ∷ fs) n m =
    ap₂ (λ (x : CountedFrame) (l : List CountedFrame). x ∷ l) (entered_is f n.0 (not (has_func (entries (map counted fs)) f.func)) (sym m.1)) (entered_are fs n.1 m.2)
