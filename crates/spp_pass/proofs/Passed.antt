-- What a pass over the events of a run keeps: its frames are those of the figures, its counts and sums are within
-- bounds, and if the trace is well-formed its table and its choices are those so far.
use Rattle.std.proofs.Common.{◌≡◌, ℕ, suc, ◌+◌, ◌*◌, ◌<◌, ◌≤◌, ◌^◌, max, true, false, List, [], ◌∷◌, ◌++◌, length, map, take, Some, None, Ok, IfOk, refl, sym, ap, subst, ◌∙◌, arith}
use Rattle.std.proofs.lemmas.List.{length-map, append-nil}
use Rattle.spp_event.specs.declared.records.Event.{Event}
use Rattle.spp_event.specs.declared.records.Event.TheVariants.{Strand, Call, Spawn, Ret, Sync}
use Rattle.spp_event.specs.Records.{IsEventOf}
use Rattle.spp_event.specs.Recordings.{Record, Recording, record_at}
use Rattle.spp_frame.specs.Nesting as nesting
use Rattle.spp_frame.specs.Nesting.{AreEvents}
use Rattle.spp_maxplus.specs.declared.state.Burdens.{Burdens}
use Rattle.spp_maxplus.specs.State.{unburdened}
use Rattle.spp_dag.specs.declared.stack.EntryFrame.{EntryFrame}
use Rattle.spp_dag.specs.declared.stack.OpenFrame.{OpenFrame}
use Rattle.spp_dag.specs.declared.stack.FrameKind.TheVariants.{Called, Spawned}
use Rattle.spp_dag.specs.Trace.{event_at, returns, syncs, IsWellFormed}
use Rattle.spp_dag.specs.Rows.{AreSpans}
use Rattle.spp_dag.specs.Stack.{run, root_frame}
use Rattle.spp_dag.specs.Shares.{plus}
use Rattle.spp_dag.specs.Laws.{Waits}
use Rattle.spp_dag.specs.Choices.{IsEntry, entry_frame}
use Rattle.spp_dag.proofs.Depth.{inside}
use Rattle.spp_dag.proofs.Profiles.{spans_law}
use Rattle.spp_site.specs.Rows.{Fits}
use Rattle.spp_site.specs.Table.{Sums, row_at}
use Rattle.spp_dag.specs.declared.figures.Figures.{Figures}
use Rattle.spp_dag.specs.Figures.{AreFigures}
use Rattle.spp_dag.specs.declared.choices.End.{End}
use Rattle.spp_dag.specs.declared.choices.Choice.{Choice}
use Rattle.spp_dag.specs.ChoiceLists.{IsEnd, IsJoin}
use Rattle.spp_dag.proofs.EventsOfRecords.{event_is}
use Rattle.spp_pass.specs.declared.counted_frame.CountedFrame.{CountedFrame}
use Rattle.spp_pass.specs.declared.counting.Ended.{Ended}
use Rattle.spp_pass.specs.LeanFrames.{LeanFrame}
use Rattle.spp_site.specs.Profiles.{IsDagTable}
use Rattle.spp_maxplus.specs.Weights.{close}
use Rattle.spp_pass.specs.LeanFrames.{advance}
use Rattle.spp_pass.specs.Passes.{Seen, state_of, burdened_state_of, joins_at, ends_at, start_seen, strand_seen, sync_seen, open_seen, OnTop, HasOpen, CanAdd, CanReturn, IsReturned, Returns, CanFinish, IsEnded}
use Rattle.spp_pass.specs.Outside.{AreBelow}
use Rattle.spp_pass.proofs.Keeping as figures
use Rattle.spp_pass.proofs.Keeping.{kept_none, kept_more, all_kept}
use Rattle.spp_pass.proofs.Bounded.{entries, Bounded, start_bounded, strand_bounded, sync_bounded, open_bounded, return_bounded, local_le, closable, finishable}
use Rattle.spp_pass.proofs.Shared.{Shared, start_shared, strand_shared, sync_shared, call_shared, spawn_shared, return_shared, finished}
use Rattle.spp_pass.proofs.Choosing.{AreTo, AreAt, none_from, more_from, no_end, no_join, return_ends, wait_joins, wait_burdened}
use Rattle.spp_pass.proofs.Projected.{lean, counted, told, AllNeat, row_is, neat_returned, told_sync, told_return}

abbrev pub leans : List CountedFrame → List LeanFrame
leans fs = map lean fs

-- an end, and a join of the path under the burdens, at `from` or later
abbrev pub EndFrom : List Event → ℕ → End → Type 0
EndFrom es from e = IsEnd es e × (from ≤ e.at)

abbrev pub JoinFrom : List Event → Burdens → ℕ → Choice → Type 0
JoinFrom es burdens from j = IsJoin es burdens j × (from ≤ j.at)

-- the ends from position `from` on and before i
abbrev pub AreEndsTo : List Event → ℕ → ℕ → List End → Type 0
AreEndsTo es from i ends = AreTo (λ (e : End). e.at) (EndFrom es from) i ends

-- and the joins
abbrev pub AreJoinsTo : List Event → Burdens → ℕ → ℕ → List Choice → Type 0
AreJoinsTo es burdens from i joins = AreTo (λ (j : Choice). j.at) (JoinFrom es burdens from) i joins

-- the ends and the joins of both paths
abbrev pub AreNoted : List Event → Burdens → ℕ → ℕ → List End → List Choice → List Choice → Type 0
AreNoted es burdens from i ends joins burdened = AreEndsTo es from i ends × AreJoinsTo es unburdened from i joins × AreJoinsTo es burdens from i burdened

-- The sites of open frames are below this: they are sites of the trace, but that the root has site 0 also where the
-- trace has none.
abbrev pub site_bound : Recording → ℕ
site_bound trace = max 1 (length trace.sites)

-- before the event at i the pass, which began at `from`, has s
pub record Passed (trace : Recording) (burdens : Burdens) (from i : ℕ) (s : Seen) : Type 0 where
  pub reached : figures.Kept trace.records burdens trace.root i s.work (leans s.frames)
  pub neat : AllNeat s.frames
  pub sites : AreBelow (site_bound trace) s.frames
  pub bounded : Bounded i (told s)
  pub shared : (es : List Event) → AreEvents trace.records es → IsWellFormed es → (span : ℕ → ℕ) → AreSpans es span → Shared es burdens trace.root span from i (told s)
  pub noted : (es : List Event) → AreEvents trace.records es → IsWellFormed es → AreNoted es burdens from i s.ends s.joins s.burdened_joins

-- ---- the start

pub start_passed : (trace : Recording) (burdens : Burdens) (s : Seen) → s ≡ start_seen trace.root → Passed trace burdens 0 0 s
start_passed trace burdens s e = subst (λ x. Passed trace burdens 0 0 x) (sym e) (record {
  reached = kept_none trace.records burdens trace.root;
  neat = ((λ c. refl, λ c. refl), tt);
  sites = (omega arith, tt);
  bounded = start_bounded trace.root;
  shared = λ es are wf span spans. start_shared es wf trace.root span spans burdens;
  noted = λ es are wf. (
    none_from (λ (e : End). e.at) (IsEnd es) 0,
    none_from (λ (j : Choice). j.at) (IsJoin es unburdened) 0,
    none_from (λ (j : Choice). j.at) (IsJoin es burdens) 0,
  );
})

-- ---- the events of a trace

-- what a reader says of a record
abbrev pub IsRead : Recording → ℕ → Event → Type 0
IsRead trace i e = (record_at trace.records i ≡ Ok e) × IsEventOf (length trace.sites) (length trace.funcs) e

pub is_read : (trace : Recording) (i : ℕ) (r : Record) (e : Event) → r ≡ record_at trace.records i
    → IfOk r (λ (x : Event). IsEventOf (length trace.sites) (length trace.funcs) x) → r ≡ Ok e → IsRead trace i e
is_read trace i r e said within is = (sym said ∙ is, subst (λ (x : Record). IfOk x (λ (y : Event). IsEventOf (length trace.sites) (length trace.funcs) y)) is within)

pub events_len : (trace : Recording) (es : List Event) → AreEvents trace.records es → length trace.records ≡ length es
events_len trace es are = ap (λ (x : List Record). length x) are ∙ length-map es (λ e. Ok e)

-- ---- the innermost frame

-- the frame of the machine that an entry tells
record Top (es : List Event) (burdens : Burdens) (root i : ℕ) (f : CountedFrame) : Type 0 where
  frame : OpenFrame
  below : List OpenFrame
  stands : run burdens 0 (take i es) (root_frame root ∷ []) ≡ Some (frame ∷ below)
  kind : f.kind ≡ frame.kind
  at : f.at ≡ frame.at
  state : state_of f ≡ frame.plain
  burdened : burdened_state_of f ≡ frame.burdened

top_of : (es : List Event) (burdens : Burdens) (root i w : ℕ) (f : CountedFrame) (fs : List CountedFrame) → IsEntry es burdens root i (entries (map counted (f ∷ fs))) w → Top es burdens root i f
top_of es burdens root i w f fs at = by at.0 at.1 at.2
  where
    heads : (a b : EntryFrame) (as' bs : List EntryFrame) → a ∷ as' ≡ b ∷ bs → a ≡ b
    heads a b as' bs e = cc

    by : (os : List OpenFrame) → run burdens 0 (take i es) (root_frame root ∷ []) ≡ Some os → entries (map counted (f ∷ fs)) ≡ map (entry_frame es root) os → Top es burdens root i f
    by [] r e = absurd (let z = ap (λ (x : List EntryFrame). length x) e in omega arith)
    by (o ∷ os) r e =
        let h : (counted f).entry ≡ entry_frame es root o = heads _ _ _ _ e in
        record {
          frame = o;
          below = os;
          stands = r;
          kind = ap (λ (x : EntryFrame). x.kind) h;
          at = ap (λ (x : EntryFrame). x.at) h;
          state = ap (λ (x : EntryFrame). x.state) h;
          burdened = ap (λ (x : EntryFrame). x.burdened) h;
        }

-- what is noted where it waits
record Noted (es : List Event) (burdens : Burdens) (i : ℕ) (f : CountedFrame) : Type 0 where
  joins : AreAt (λ (j : Choice). j.at) (IsJoin es unburdened) i (joins_at i (state_of f))
  burdened : AreAt (λ (j : Choice). j.at) (IsJoin es burdens) i (joins_at i (burdened_state_of f))

joins_of : (es : List Event) → IsWellFormed es → (burdens : Burdens) (root i w : ℕ) (f : CountedFrame) (fs : List CountedFrame) → IsEntry es burdens root i (entries (map counted (f ∷ fs))) w → Waits es i
    → Noted es burdens i f
joins_of es wf burdens root i w f fs at waits =
    let t = top_of es burdens root i w f fs at in
    record {
      joins = subst (λ s. AreAt (λ (j : Choice). j.at) (IsJoin es unburdened) i (joins_at i s)) (sym t.state) (wait_joins es wf i burdens root t.frame t.below t.stands waits.0 waits);
      burdened = subst (λ s. AreAt (λ (j : Choice). j.at) (IsJoin es burdens) i (joins_at i s)) (sym t.burdened) (wait_burdened es wf i burdens root t.frame t.below t.stands waits.0 waits);
    }

-- and where it returns
ends_of : (es : List Event) → IsWellFormed es → (burdens : Burdens) (root i w : ℕ) (f : CountedFrame) (fs : List CountedFrame) → IsEntry es burdens root i (entries (map counted (f ∷ fs))) w
    → i < length es → event_at es i ≡ Some Ret → AreAt (λ (e : End). e.at) (IsEnd es) i (ends_at i f.kind f.at)
ends_of es wf burdens root i w f fs at l is =
    let t = top_of es burdens root i w f fs at in
    subst (λ k. AreAt (λ (e : End). e.at) (IsEnd es) i (ends_at i f.kind k)) (sym t.at)
    (subst (λ k. AreAt (λ (e : End). e.at) (IsEnd es) i (ends_at i k t.frame.at)) (sym t.kind) (return_ends es wf i burdens root t.frame t.below t.stands (omega arith) is))

-- ---- one event

-- burdens are numbers of 32 bits
pub light_of : (b : Burdens) → b.continuation < 2 ^ 32 → b.join < 2 ^ 32 → b.continuation + b.join ≤ 8589934592
light_of b continuation join = omega arith

module _ (trace : Recording) (burdens : Burdens) (light : burdens.continuation + burdens.join ≤ 8589934592) (short : length trace.records ≤ 268435456) (from i : ℕ) (begun : from ≤ i) (lt : i < length trace.records) where
  abbrev Now : Seen → Type 0
  Now s = Passed trace burdens from i s

  abbrev Next : Seen → Type 0
  Next s = Passed trace burdens from (suc i) s

  -- the figures, where the frames go on
  goes : (e : Event) → record_at trace.records i ≡ Ok e → nesting.weight (Ok e) ≤ 18446744073709551615 → (ls ms : List LeanFrame) (w v : ℕ)
      → advance burdens e ls ≡ Some ms → v ≡ w + nesting.weight (Ok e) → figures.Kept trace.records burdens trace.root i w ls → figures.Kept trace.records burdens trace.root (suc i) v ms
  goes e is small ls ms w v adv works k =
      subst (λ n. figures.Kept trace.records burdens trace.root n v ms) (let z : i + 1 ≡ suc i = omega arith in z) (kept_more trace.records burdens trace.root i w v e ls ms light small lt is adv works k)

  -- the choices, where none is made
  more_ends : (es : List Event) → IsWellFormed es → (ends : List End) → returns (event_at es i) ≡ false → AreEndsTo es from i ends → AreEndsTo es from (suc i) ends
  more_ends es wf ends r n =
      subst (λ l. AreEndsTo es from (suc i) l) (append-nil ends) (more_from (λ (e : End). e.at) (IsEnd es) from i ends [] begun n (no_end es wf i r))

  same_joins : (es : List Event) → AreEvents trace.records es → IsWellFormed es → (paths : Burdens) (joins : List Choice)
      → syncs (event_at es i) ≡ false → AreJoinsTo es paths from i joins → AreJoinsTo es paths from (suc i) joins
  same_joins es are wf paths joins s n =
      let len = events_len trace es are in
      subst (λ l. AreJoinsTo es paths from (suc i) l) (append-nil joins) (more_from (λ (j : Choice). j.at) (IsJoin es paths) from i joins [] begun n (no_join es wf i paths (omega arith) s))

  nothing_noted : (es : List Event) → AreEvents trace.records es → IsWellFormed es → (ends : List End) (joins burdened : List Choice)
      → returns (event_at es i) ≡ false → syncs (event_at es i) ≡ false → AreNoted es burdens from i ends joins burdened → AreNoted es burdens from (suc i) ends joins burdened
  nothing_noted es are wf ends joins burdened r s n =
      (more_ends es wf ends r n.0, same_joins es are wf unburdened joins s n.1, same_joins es are wf burdens burdened s n.2)

  -- and where the frame f waits
  joins_noted : (es : List Event) → AreEvents trace.records es → (wf : IsWellFormed es) → (w : ℕ) (f : CountedFrame) (fs : List CountedFrame) (joins burdened : List Choice)
      → IsEntry es burdens trace.root i (entries (map counted (f ∷ fs))) w → syncs (event_at es i) ≡ true → AreJoinsTo es unburdened from i joins → AreJoinsTo es burdens from i burdened
      → AreJoinsTo es unburdened from (suc i) (joins ++ joins_at i (state_of f)) × AreJoinsTo es burdens from (suc i) (burdened ++ joins_at i (burdened_state_of f))
  joins_noted es are wf w f fs joins burdened at waits n m =
      let len = events_len trace es are in
      let j = joins_of es wf burdens trace.root i w f fs at ((let z : i ≤ length es = omega arith in z), λ l. waits) in (
        more_from (λ (j : Choice). j.at) (IsJoin es unburdened) from i joins _ begun n j.joins,
        more_from (λ (j : Choice). j.at) (IsJoin es burdens) from i burdened _ begun m j.burdened,
      )

  -- ---- a strand

  pub ready_add : (n : ℕ) → IsRead trace i (Strand n) → (s : Seen) → Now s → CanAdd n s
  ready_add n r s at = by s.frames at
    where
      by : (frames : List CountedFrame) → Now (record s { frames = frames }) → CanAdd n (record s { frames = frames })
      by [] at = absurd at.bounded.open_frames
      by (f ∷ fs) at =
          let small : n < 2 ^ 64 = r.1 in
          let p : close f.plain + _ ≤ s.work = at.reached.plain in
          let b : close f.burdened + _ ≤ s.work + 8589934592 * i = at.reached.burdened in
          let w : s.work ≤ 18446744073709551615 * i = at.reached.small in
          let q : f.local ≤ s.work = local_le i (counted f) (map counted fs) s.open_sites s.open_funcs s.work s.table at.bounded in
          (record { plain = omega arith; burdened = omega arith; local = omega arith }, omega arith)

  pub strand_passed : (n : ℕ) → IsRead trace i (Strand n) → (s new : Seen) → new ≡ strand_seen n s → Now s → Next new
  strand_passed n r s new e at = subst Next (sym e) (by s.frames at)
    where
      by : (frames : List CountedFrame) → Now (record s { frames = frames }) → Next (strand_seen n (record s { frames = frames }))
      by [] at = absurd at.bounded.open_frames
      by (f ∷ fs) at = record {
        reached = goes (Strand n) r.0 (let z : n < 2 ^ 64 = r.1 in omega arith) _ _ s.work (s.work + n) refl refl at.reached;
        neat = at.neat;
        sites = at.sites;
        bounded = strand_bounded i n r.1 (counted f) (map counted fs) s.open_sites s.open_funcs s.work s.table at.bounded;
        shared = λ es are wf span spans.
            strand_shared es wf burdens trace.root span spans from i begun n (event_is trace.records es i (Strand n) are lt r.0) (counted f) (map counted fs) s.open_sites s.open_funcs s.work s.table (at.shared es are wf span spans);
        noted = λ es are wf. let is = event_is trace.records es i (Strand n) are lt r.0 in
            nothing_noted es are wf s.ends s.joins s.burdened_joins (ap returns is) (ap syncs is) (at.noted es are wf);
      }

  -- ---- a sync

  pub has_open : (s : Seen) → Now s → HasOpen s
  has_open s at = by s.frames at
    where
      by : (frames : List CountedFrame) → Now (record s { frames = frames }) → OnTop (λ f. Unit {0}) frames
      by [] at = absurd at.bounded.open_frames
      by (f ∷ fs) at = tt

  pub sync_passed : IsRead trace i Sync → (s new : Seen) → new ≡ sync_seen i s → Now s → Next new
  sync_passed r s new e at = subst Next (sym e) (by s.frames at)
    where
      by : (frames : List CountedFrame) → Now (record s { frames = frames }) → Next (sync_seen i (record s { frames = frames }))
      by [] at = absurd at.bounded.open_frames
      by (f ∷ fs) at =
          let tells = told_sync i s f fs at.neat.0 in
          record {
            reached = goes Sync r.0 (omega arith) _ _ s.work s.work refl (omega arith) at.reached;
            neat = ((λ c. refl, λ c. refl), at.neat.1);
            sites = at.sites;
            bounded = subst (λ t. Bounded (suc i) t) (sym tells) (sync_bounded i (counted f) (map counted fs) s.open_sites s.open_funcs s.work s.table at.bounded);
            shared = λ es are wf span spans. subst (λ t. Shared es burdens trace.root span from (suc i) t) (sym tells)
                (sync_shared es wf burdens trace.root span spans from i begun (event_is trace.records es i Sync are lt r.0) (counted f) (map counted fs) s.open_sites s.open_funcs s.work s.table (at.shared es are wf span spans));
            noted = λ es are wf.
                let is = event_is trace.records es i Sync are lt r.0 in
                let sp = (spans_law es wf).0 in
                let n = at.noted es are wf in
                let joins = joins_noted es are wf s.work f fs s.joins s.burdened_joins (at.shared es are wf sp.0 sp.1).entry (ap syncs is) n.1 n.2 in
                (more_ends es wf s.ends (ap returns is) n.0, joins.0, joins.1);
          }

  -- ---- a call or a spawn

  pub call_passed : (site func : ℕ) → IsRead trace i (Call site func) → (s new : Seen) → new ≡ open_seen Called i site func s → Now s → Next new
  call_passed site func r s new e at = subst Next (sym e) (by s.frames at)
    where
      by : (frames : List CountedFrame) → Now (record s { frames = frames }) → Next (open_seen Called i site func (record s { frames = frames }))
      by [] at = absurd at.bounded.open_frames
      by (f ∷ fs) at =
          record {
            reached = goes (Call site func) r.0 (omega arith) _ _ s.work s.work refl (omega arith) at.reached;
            neat = ((λ c. refl, λ c. refl), at.neat);
            sites = ((let z : site < length trace.sites = r.1.0 in omega arith), at.sites);
            bounded = open_bounded i Called site func refl (counted f) (map counted fs) s.open_sites s.open_funcs s.work s.table at.bounded;
            shared = λ es are wf span spans.
                call_shared es wf burdens trace.root span spans from i begun site func (event_is trace.records es i (Call site func) are lt r.0) (counted f) (map counted fs) s.open_sites s.open_funcs s.work s.table at.bounded (at.shared es are wf span spans);
            noted = λ es are wf. let is = event_is trace.records es i (Call site func) are lt r.0 in
                nothing_noted es are wf s.ends s.joins s.burdened_joins (ap returns is) (ap syncs is) (at.noted es are wf);
          }

  pub spawn_passed : (site func : ℕ) → IsRead trace i (Spawn site func) → (s new : Seen) → new ≡ open_seen Spawned i site func s → Now s → Next new
  spawn_passed site func r s new e at = subst Next (sym e) (by s.frames at)
    where
      by : (frames : List CountedFrame) → Now (record s { frames = frames }) → Next (open_seen Spawned i site func (record s { frames = frames }))
      by [] at = absurd at.bounded.open_frames
      by (f ∷ fs) at =
          record {
            reached = goes (Spawn site func) r.0 (omega arith) _ _ s.work s.work refl (omega arith) at.reached;
            neat = ((λ c. refl, λ c. refl), at.neat);
            sites = ((let z : site < length trace.sites = r.1.0 in omega arith), at.sites);
            bounded = open_bounded i Spawned site func refl (counted f) (map counted fs) s.open_sites s.open_funcs s.work s.table at.bounded;
            shared = λ es are wf span spans.
                spawn_shared es wf burdens trace.root span spans from i begun site func (event_is trace.records es i (Spawn site func) are lt r.0) (counted f) (map counted fs) s.open_sites s.open_funcs s.work s.table at.bounded (at.shared es are wf span spans);
            noted = λ es are wf. let is = event_is trace.records es i (Spawn site func) are lt r.0 in
                nothing_noted es are wf s.ends s.joins s.burdened_joins (ap returns is) (ap syncs is) (at.noted es are wf);
          }

  -- ---- a return

  pub ready_return : length trace.sites ≤ 65536 → (s : Seen) → Now s → CanReturn burdens s s.frames
  ready_return few s at = by s.frames at
    where
      by : (frames : List CountedFrame) → Now (record s { frames = frames }) → CanReturn burdens s frames
      by [] at = absurd at.bounded.open_frames
      by (f ∷ []) at = tt
      by (f ∷ g ∷ fs) at =
          let c = closable i (omega arith) (counted f) (counted g) (map counted fs) s.open_sites s.open_funcs s.work s.table at.bounded in
          let p : close f.plain + (close g.plain + _) ≤ s.work = at.reached.plain in
          let b : close f.burdened + (close g.burdened + _) ≤ s.work + 8589934592 * i = at.reached.burdened in
          let w : s.work ≤ 18446744073709551615 * i = at.reached.small in
          record {
            fits = record { plain = omega arith; burdened = omega arith };
            before = c.before;
            site = (let z : f.site < site_bound trace = at.sites.0 in omega arith);
            row = subst (λ r. Fits (plus (row_at s.table f.site) r)) (sym (row_is f s.work at.neat.0)) c.row;
          }

  -- the root alone doesn't return
  pub root_stays : (s new : Seen) → Returns burdens i s s.frames false new → Now s → advance burdens Ret (leans s.frames) ≡ None
  root_stays s new h at = by s.frames h
    where
      by : (frames : List CountedFrame) → Returns burdens i s frames false new → advance burdens Ret (leans frames) ≡ None
      by [] h = absurd h
      by (f ∷ []) h = refl
      by (f ∷ g ∷ fs) h = absurd (let z : false ≡ true = h.0 in cc)

  return_passed_from : IsRead trace i Ret → (s new : Seen) (f g : CountedFrame) (fs : List CountedFrame) → IsReturned burdens i f g fs (record s { frames = f ∷ g ∷ fs }) new → Now (record s { frames = f ∷ g ∷ fs }) → Next new
  return_passed_from r s new f g fs h at =
      let c = closable i (omega arith) (counted f) (counted g) (map counted fs) s.open_sites s.open_funcs s.work s.table at.bounded in
      let tells = told_return burdens i s new f g fs at.neat.0 at.neat.1.0 h in
      record {
        reached = goes Ret r.0 (omega arith) _ _ s.work new.work (ap (λ (l : List CountedFrame). Some (leans l)) (sym h.frames)) (h.work ∙ omega arith) at.reached;
        neat = subst AllNeat (sym h.frames) (neat_returned burdens f g at.neat.1.0, at.neat.1.1);
        sites = subst (AreBelow (site_bound trace)) (sym h.frames) at.sites.1;
        bounded = return_bounded burdens i (omega arith) (counted f) (counted g) (map counted fs) s.open_sites s.open_funcs s.work s.table (told new) at.bounded tells;
        shared = λ es are wf span spans.
            return_shared es wf burdens trace.root span spans from i begun (event_is trace.records es i Ret are lt r.0) (counted f) (counted g) (map counted fs) s.open_sites s.open_funcs s.work s.table (told new) at.bounded tells (at.shared es are wf span spans);
        noted = λ es are wf.
            let is = event_is trace.records es i Ret are lt r.0 in
            let l = inside es i Ret is in
            let sp = (spans_law es wf).0 in
            let n = at.noted es are wf in
            let entry = (at.shared es are wf sp.0 sp.1).entry in
            let joins = joins_noted es are wf s.work f (g ∷ fs) s.joins s.burdened_joins entry (ap syncs is) n.1 n.2 in (
              subst (λ l. AreEndsTo es from (suc i) l) (sym h.ends) (more_from (λ (e : End). e.at) (IsEnd es) from i s.ends _ begun n.0 (ends_of es wf burdens trace.root i s.work f (g ∷ fs) entry (omega arith) is)),
              subst (λ l. AreJoinsTo es unburdened from (suc i) l) (sym h.joins) joins.0,
              subst (λ l. AreJoinsTo es burdens from (suc i) l) (sym h.burdened_joins) joins.1,
            );
      }

  pub return_passed : IsRead trace i Ret → (s new : Seen) → Returns burdens i s s.frames true new → Now s → Next new
  return_passed r s new h at = by s.frames h at
    where
      by : (frames : List CountedFrame) → Returns burdens i (record s { frames = frames }) frames true new → Now (record s { frames = frames }) → Next new
      by [] h at = absurd h
      by (f ∷ []) h at = absurd (let z : true ≡ false = h in cc)
      by (f ∷ g ∷ fs) h at = return_passed_from r s new f g fs h.1 at

-- ---- the end

module _ (trace : Recording) (burdens : Burdens) (short : length trace.records ≤ 268435456) (i : ℕ) (last : i ≡ length trace.records) where
  pub some_frame : (s : Seen) → Passed trace burdens 0 i s → HasOpen s
  some_frame s at = by s.frames at
    where
      by : (frames : List CountedFrame) → Passed trace burdens 0 i (record s { frames = frames }) → OnTop (λ f. Unit {0}) frames
      by [] at = absurd at.bounded.open_frames
      by (f ∷ fs) at = tt

  pub few_frames : (s : Seen) → Passed trace burdens 0 i s → length s.frames ≤ 2 ^ 32
  few_frames s at =
      let n : length (map counted s.frames) ≡ length s.frames = length-map s.frames counted in
      let l : length (map counted s.frames) ≤ i + 1 = at.bounded.level in
      omega arith

  pub ready_finish : (s : Seen) → length s.frames ≡ 1 → Passed trace burdens 0 i s → CanFinish s
  ready_finish s one at = by s.frames one at
    where
      by : (frames : List CountedFrame) → length frames ≡ 1 → Passed trace burdens 0 i (record s { frames = frames }) → CanFinish (record s { frames = frames })
      by [] e at = absurd at.bounded.open_frames
      by (f ∷ g ∷ fs) e at = absurd (omega arith)
      by (f ∷ []) e at =
          let c = finishable i (omega arith) (counted f) s.open_sites s.open_funcs s.work s.table at.bounded in
          (c.0, subst (λ r. Fits (plus s.table.root r)) (sym (row_is f s.work at.neat.0)) c.1)

  -- what is told at the end is so
  pub record IsTold (e : Ended) : Type 0 where
    pub figures : AreFigures trace.records burdens e.figures
    pub small : e.figures.work < 2 ^ 92
    pub dag : IsDagTable trace e.dag

  told_from : (s : Seen) (f : CountedFrame) (e : Ended) → Passed trace burdens 0 i (record s { frames = f ∷ [] }) → IsEnded s (f ∷ []) e → IsTold e
  told_from s f e at h =
      let fig = all_kept trace.records burdens trace.root i s.work (lean f) [] last refl at.reached in
      let w : s.work ≤ 18446744073709551615 * i = at.reached.small in
      let es = fig.events in
      let are = fig.are_events in
      let wf : IsWellFormed es = subst (λ (x : List Record). nesting.IsWellFormed x) are fig.well_formed in
      let sp = (spans_law es wf).0 in
      let ended =
      subst (λ k. Shared es burdens trace.root sp.0 0 k (told (record s { frames = f ∷ [] }))) (last ∙ events_len trace es are) (at.shared es are wf sp.0 sp.1) in
      record {
        figures = subst (λ x. AreFigures trace.records burdens x) (sym h.0) fig;
        small = subst (λ (x : Figures). x.work < 2 ^ 92) (sym h.0) (omega arith);
        dag = subst (λ t. IsDagTable trace t) (sym (h.1 ∙ ap (λ r. let u : Sums = record s.table { root = plus s.table.root r } in u) (row_is f s.work at.neat.0)))
            (fig.well_formed, (es, are, (sp.0, sp.1, finished es wf trace.root sp.0 sp.1 burdens (counted f) s.open_sites s.open_funcs s.work s.table at.bounded.open_frames ended)));
      }

  pub is_told : (s : Seen) (e : Ended) → length s.frames ≡ 1 → Passed trace burdens 0 i s → IsEnded s s.frames e → IsTold e
  is_told s e one at h = by s.frames one at h
    where
      by : (frames : List CountedFrame) → length frames ≡ 1 → Passed trace burdens 0 i (record s { frames = frames }) → IsEnded s frames e → IsTold e
      by [] q at h = absurd h
      by (f ∷ g ∷ fs) q at h = absurd (omega arith)
      by (f ∷ []) q at h = told_from s f e at h
