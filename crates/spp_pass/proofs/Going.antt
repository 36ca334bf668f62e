-- What a pass over a part has between two events: with the frames outside it is a pass that began with the part.
use Rattle.std.proofs.Common.{◌≡◌, ℕ, suc, ◌+◌, ◌*◌, ◌<◌, ◌≤◌, Bool, cond, not, List, [], ◌∷◌, ◌++◌, length, map, Option, Result, Ok, Err, IfOk, refl, sym, ap, subst, ◌∙◌, arith}
use Rattle.std.specs.Prelude.{IsOk}
use Rattle.spp_event.specs.declared.records.Event.{Event}
use Rattle.spp_event.specs.declared.records.Event.TheVariants.{Strand, Call, Spawn, Ret, Sync}
use Rattle.spp_event.specs.Records.{IsEventOf}
use Rattle.spp_event.specs.Recordings.{Record, Recording, AreEventsOf, record_at}
use Rattle.spp_frame.specs.Nesting as nesting
use Rattle.spp_frame.specs.Nesting.{AreEvents}
use Rattle.spp_maxplus.specs.declared.state.Burdens.{Burdens}
use Rattle.spp_maxplus.specs.State.{unburdened}
use Rattle.spp_dag.specs.declared.stack.EntryFrame.{EntryFrame}
use Rattle.spp_dag.specs.declared.stack.FrameKind.{FrameKind}
use Rattle.spp_dag.specs.declared.stack.FrameKind.TheVariants.{Called, Spawned}
use Rattle.spp_dag.specs.Trace.{IsWellFormed}
use Rattle.spp_dag.specs.Choices.{IsEntry}
use Rattle.spp_dag.specs.Shares.{plus, zero_row}
use Rattle.spp_dag.specs.Steps.{same_key, key_of, strand_row, has_site, has_func}
use Rattle.spp_dag.proofs.Entries.{entry_is_one}
use Rattle.spp_dag.proofs.Profiles.{spans_law}
use Rattle.spp_site.specs.Table.{empty}
use Rattle.spp_site.proofs.Rows.{plus-zero}
use Rattle.spp_stack.specs.Chain.{StackOf, HasFrames}
use Rattle.spp_site.specs.Profiles.{key_row}
use Rattle.spp_dag.specs.declared.choices.End.{End}
use Rattle.spp_dag.specs.declared.choices.Choice.{Choice}
use Rattle.spp_site.proofs.RowSums.{none_owed, low_fits}
use Rattle.spp_pass.specs.declared.part.PartResult.{PartResult}
use Rattle.spp_pass.specs.declared.counted_frame.CountedFrame.{CountedFrame}
use Rattle.spp_pass.specs.Passes.{Seen, HasOpen, OnTop, strand_seen, sync_seen, open_seen, CanAdd, CanReturn, Returns}
use Rattle.spp_pass.specs.Outside.{StandsAt, entered_frame, entered_frames, IsBegun, IsOutside, IsReached, frame_key, local_rows, AreBelow, FitsOpen, IsSuspended}
use Rattle.spp_pass.specs.Shares.{IsPartOf}
use Rattle.spp_dag.specs.ChoiceLists.{AreEndsIn, AreJoinsIn}
use Rattle.spp_pass.proofs.Bounded.{entries, owed}
use Rattle.spp_pass.proofs.Projected.{counted}
use Rattle.spp_pass.proofs.Passed.{AreEndsTo, AreJoinsTo, IsRead, site_bound, Passed, ready_add, strand_passed, sync_passed, call_passed, spawn_passed, ready_return, return_passed, events_len}
use Rattle.spp_pass.proofs.Anywhere.{Sound, reads, not_alone, passed_to, rested, begun_seen, begun_passed, entered_are}

-- the pass, with frames outside
abbrev pub with_outside : List CountedFrame → Seen → Seen
with_outside ks s = record s { frames = s.frames ++ ks }

-- before the event at i the pass over a part that begins at `first` has s, where these frames are outside
pub record Going (trace : Recording) (burdens : Burdens) (first i : ℕ) (outside : Option StackOf) (s : Seen) : Type 0 where
  pub frames : List EntryFrame
  pub are : IsOutside outside frames
  pub some : HasOpen s
  pub passed : Passed trace burdens first i (with_outside (entered_frames frames) s)

-- ---- what is known of the trace, as it is read

pub sound_of : (trace : Recording) (burdens : Burdens) (first : ℕ) (stack : StackOf) → StandsAt trace burdens first stack → length trace.records ≤ 268435456
    → length trace.sites ≤ 65536 → AreEventsOf (length trace.sites) (length trace.funcs) trace.records → Sound trace
sound_of trace burdens first stack stands short few within = record {
  formed = subst (λ (rs : List Record). nesting.IsWellFormed rs) (sym stands.1) stands.2;
  short = short;
  few = few;
  within = within;
}

pub some_read : (trace : Recording) → Sound trace → (i : ℕ) → i < length trace.records → IsOk (record_at trace.records i)
some_read trace sound i lt = subst (λ (x : Record). IsOk x) (sym (reads trace sound i lt).read.0) refl

-- where a part is told to begin at n
pub read_at : (trace : Recording) (first n k : ℕ) (e : Event) → n ≡ first → record_at trace.records (first + k) ≡ Ok e
    → IsEventOf (length trace.sites) (length trace.funcs) e → IsRead trace (n + k) e
read_at trace first n k e same is within = (subst (λ (m : ℕ). record_at trace.records (m + k) ≡ Ok e) (sym same) is, within)

pub ok_more : {X E : Type 0} (P Q : X → Type 0) (r : Result X E) → ((x : X) → P x → Q x) → IfOk r P → IfOk r Q
ok_more P Q (Ok x) more h = more x h
ok_more P Q (Err e) more h = tt

-- ---- the start

same_begun : (f : EntryFrame) (fs : List EntryFrame) (w : ℕ) (s t : Seen) → IsBegun f fs w s → t.frames ≡ entered_frames (f ∷ fs) → t.work ≡ w
    → ((x : ℕ) → t.open_sites x ≡ has_site (f ∷ fs) x) → ((x : ℕ) → t.open_funcs x ≡ has_func (f ∷ fs) x) → t.table ≡ empty → t.ends ≡ [] → t.joins ≡ [] → t.burdened_joins ≡ []
    → t ≡ with_outside (entered_frames fs) s
same_begun f fs w s t b frames work sites funcs table ends joins burdened =
    let frames_same : t.frames ≡ s.frames ++ entered_frames fs = frames ∙ ap (λ (l : List CountedFrame). l ++ entered_frames fs) (sym b.frames) in
    let sites_same = λ (x : ℕ). sites x ∙ sym (b.open_sites x) in
    let funcs_same = λ (x : ℕ). funcs x ∙ sym (b.open_funcs x) in
    let work_same = work ∙ sym b.work in
    let table_same = table ∙ sym b.table in
    let ends_same = ends ∙ sym b.ends in
    let joins_same = joins ∙ sym b.joins in
    let burdened_same = burdened ∙ sym b.burdened_joins in
    λ j. record {
      frames = frames_same j;
      open_sites = λ x. sites_same x j;
      open_funcs = λ x. funcs_same x j;
      work = work_same j;
      table = table_same j;
      ends = ends_same j;
      joins = joins_same j;
      burdened_joins = burdened_same j;
    }

pub going_start : (trace : Recording) → Sound trace → (burdens : Burdens) → burdens.continuation + burdens.join ≤ 8589934592 → (first : ℕ) → first ≤ length trace.records → (stack : StackOf) → StandsAt trace burdens first stack → (outside : Option StackOf) (s : Seen)
    → ((f : EntryFrame) (fs : List EntryFrame) → HasFrames stack (f ∷ fs) → IsBegun f fs stack.work s)
    → ((f : EntryFrame) (fs : List EntryFrame) → HasFrames stack (f ∷ fs) → IsOutside outside fs)
    → Going trace burdens first first outside s
going_start trace sound burdens light first within stack stands outside s begins out = by stands.3.0 stands.3.2 one.0
  where
    es : List Event
    es = stands.0

    wf : IsWellFormed es
    wf = stands.2

    p : (t : Seen) × Passed trace burdens 0 first t
    p = passed_to trace sound burdens light first within

    old : Seen
    old = p.0

    entry : IsEntry es burdens trace.root first (entries (map counted old.frames)) old.work
    entry = let sp = (spans_law es wf).0 in (p.1.shared es stands.1 wf sp.0 sp.1).entry

    one : (stands.3.0 ≡ entries (map counted old.frames)) × (stack.work ≡ old.work)
    one = (entry_is_one es wf burdens trace.root first (let n = events_len trace es stands.1 in omega arith)).1 stands.3.0 (entries (map counted old.frames)) stack.work old.work stands.3.1 entry

    by : (hs : List EntryFrame) → HasFrames stack hs → hs ≡ entries (map counted old.frames) → Going trace burdens first first outside s
    by [] h e = absurd h
    by (f ∷ fs) h e =
        let b = begins f fs h in
        let entered : entered_frames (f ∷ fs) ≡ map rested old.frames = ap entered_frames e ∙ entered_are old.frames p.1.neat p.1.bounded.marked in
        let same : begun_seen old ≡ with_outside (entered_frames fs) s =
        same_begun f fs stack.work s (begun_seen old) b (sym entered) (sym one.1)
        (λ x. p.1.bounded.sites x ∙ ap (λ (l : List EntryFrame). has_site l x) (sym e)) (λ x. p.1.bounded.funcs x ∙ ap (λ (l : List EntryFrame). has_func l x) (sym e)) refl refl refl refl in
        record {
          frames = fs;
          are = out f fs h;
          some = subst (OnTop (λ f. Unit {0})) (sym b.frames) tt;
          passed = subst (Passed trace burdens first first) same (begun_passed trace burdens first old p.1);
        }

-- ---- frames outside have no part in an event

strand_out : (n : ℕ) (ks : List CountedFrame) (s : Seen) → HasOpen s → HasOpen (strand_seen n s) × (strand_seen n (with_outside ks s) ≡ with_outside ks (strand_seen n s))
strand_out n ks s some = by s.frames some
  where
    by : (frames : List CountedFrame) → OnTop (λ f. Unit {0}) frames
        → HasOpen (strand_seen n (record s { frames = frames })) × (strand_seen n (with_outside ks (record s { frames = frames })) ≡ with_outside ks (strand_seen n (record s { frames = frames })))
    by [] h = absurd h
    by (f ∷ fs) h = (tt, refl)

sync_out : (i : ℕ) (ks : List CountedFrame) (s : Seen) → HasOpen s → HasOpen (sync_seen i s) × (sync_seen i (with_outside ks s) ≡ with_outside ks (sync_seen i s))
sync_out i ks s some = by s.frames some
  where
    by : (frames : List CountedFrame) → OnTop (λ f. Unit {0}) frames
        → HasOpen (sync_seen i (record s { frames = frames })) × (sync_seen i (with_outside ks (record s { frames = frames })) ≡ with_outside ks (sync_seen i (record s { frames = frames })))
    by [] h = absurd h
    by (f ∷ fs) h = (tt, refl)

open_out : (kind : FrameKind) (i site func : ℕ) (ks : List CountedFrame) (s : Seen) → HasOpen s
    → HasOpen (open_seen kind i site func s) × (open_seen kind i site func (with_outside ks s) ≡ with_outside ks (open_seen kind i site func s))
open_out kind i site func ks s some = by s.frames some
  where
    by : (frames : List CountedFrame) → OnTop (λ f. Unit {0}) frames → HasOpen (open_seen kind i site func (record s { frames = frames }))
        × (open_seen kind i site func (with_outside ks (record s { frames = frames })) ≡ with_outside ks (open_seen kind i site func (record s { frames = frames })))
    by [] h = absurd h
    by (f ∷ fs) h = (tt, refl)

module _ (trace : Recording) (sound : Sound trace) (burdens : Burdens) (light : burdens.continuation + burdens.join ≤ 8589934592) (first i : ℕ) (begun : first ≤ i) (lt : i < length trace.records) (outside : Option StackOf) (s : Seen) (g : Going trace burdens first i outside s) where
  abbrev ks : List CountedFrame
  ks = entered_frames g.frames

  next : (new to : Seen) → new ≡ to → HasOpen to → Passed trace burdens first (suc i) (with_outside ks to) → Going trace burdens first (suc i) outside new
  next new to same o p = record {
    frames = g.frames;
    are = g.are;
    some = subst HasOpen (sym same) o;
    passed = subst (λ (x : Seen). Passed trace burdens first (suc i) (with_outside ks x)) (sym same) p;
  }

  pub going_add : (n : ℕ) → IsRead trace i (Strand n) → CanAdd n s
  going_add n r = by s.frames g.some (ready_add trace burdens light sound.short first i begun lt n r (with_outside ks s) g.passed)
    where
      by : (frames : List CountedFrame) → OnTop (λ f. Unit {0}) frames → CanAdd n (with_outside ks (record s { frames = frames })) → CanAdd n (record s { frames = frames })
      by [] h can = absurd h
      by (f ∷ fs) h can = can

  pub going_strand : (n : ℕ) → IsRead trace i (Strand n) → (new : Seen) → new ≡ strand_seen n s → Going trace burdens first (suc i) outside new
  going_strand n r new same =
      let o = strand_out n ks s g.some in
      next new (strand_seen n s) same o.0
      (strand_passed trace burdens light sound.short first i begun lt n r (with_outside ks s) (with_outside ks (strand_seen n s)) (sym o.1) g.passed)

  pub going_sync : IsRead trace i Sync → (new : Seen) → new ≡ sync_seen i s → Going trace burdens first (suc i) outside new
  going_sync r new same =
      let o = sync_out i ks s g.some in
      next new (sync_seen i s) same o.0
      (sync_passed trace burdens light sound.short first i begun lt r (with_outside ks s) (with_outside ks (sync_seen i s)) (sym o.1) g.passed)

  pub going_call : (site func : ℕ) → IsRead trace i (Call site func) → (new : Seen) → new ≡ open_seen Called i site func s → Going trace burdens first (suc i) outside new
  going_call site func r new same =
      let o = open_out Called i site func ks s g.some in
      next new (open_seen Called i site func s) same o.0
      (call_passed trace burdens light sound.short first i begun lt site func r (with_outside ks s) (with_outside ks (open_seen Called i site func s)) (sym o.1) g.passed)

  pub going_spawn : (site func : ℕ) → IsRead trace i (Spawn site func) → (new : Seen) → new ≡ open_seen Spawned i site func s → Going trace burdens first (suc i) outside new
  going_spawn site func r new same =
      let o = open_out Spawned i site func ks s g.some in
      next new (open_seen Spawned i site func s) same o.0
      (spawn_passed trace burdens light sound.short first i begun lt site func r (with_outside ks s) (with_outside ks (open_seen Spawned i site func s)) (sym o.1) g.passed)

  -- ---- a return

  -- a frame returns to another
  two_frames : IsRead trace i Ret → (t : Seen) → Passed trace burdens first i t → 1 < length t.frames
  two_frames r t at = by t.frames at
    where
      by : (frames : List CountedFrame) → Passed trace burdens first i (record t { frames = frames }) → 1 < length frames
      by [] at = absurd at.bounded.open_frames
      by (f ∷ []) at = absurd (not_alone trace sound burdens first i lt r.0 t f at)
      by (f ∷ h ∷ fs) at = omega arith

  -- both have been come to
  pub record IsReady (left : Option StackOf) (new : Seen) : Type 0 where
    pub going : Going trace burdens first i left new
    pub two : 1 < length new.frames

  some_of : (frames : List CountedFrame) → 1 < length frames → OnTop (λ f. Unit {0}) frames
  some_of [] l = absurd (omega arith)
  some_of (f ∷ fs) l = tt

  pub going_reached : IsRead trace i Ret → (left : Option StackOf) (new : Seen) → ((fs : List EntryFrame) → IsOutside outside fs → IsReached s new fs left) → IsReady left new
  going_reached r left new reached =
      let w = reached g.frames g.are in
      let two = w.two (two_frames r (with_outside ks s) g.passed) in
      let same : with_outside (entered_frames w.outside) new ≡ with_outside ks s =
      ap (λ (x : Seen). let y : Seen = record x { frames = new.frames ++ entered_frames w.outside } in y) w.others ∙ ap (λ (l : List CountedFrame). let y : Seen = record s { frames = l } in y) w.frames in
      record {
        going = record {
          frames = w.outside;
          are = w.are;
          some = some_of new.frames two;
          passed = subst (Passed trace burdens first i) (sym same) g.passed;
        };
        two = two;
      }

  pub going_can_return : 1 < length s.frames → CanReturn burdens s s.frames
  going_can_return two = by s.frames two (ready_return trace burdens light sound.short first i begun lt sound.few (with_outside ks s) g.passed)
    where
      by : (frames : List CountedFrame) → 1 < length frames → CanReturn burdens (with_outside ks s) (frames ++ ks) → CanReturn burdens s frames
      by [] l can = absurd (omega arith)
      by (f ∷ []) l can = absurd (omega arith)
      by (f ∷ h ∷ fs) l can = record { fits = can.fits; before = can.before; site = can.site; row = can.row }

  pub going_return : IsRead trace i Ret → 1 < length s.frames → (went : Bool) (new : Seen) → Returns burdens i s s.frames went new → Going trace burdens first (suc i) outside new
  going_return r two went new h = by s.frames two h g.passed
    where
      by : (frames : List CountedFrame) → 1 < length frames → Returns burdens i s frames went new → Passed trace burdens first i (record s { frames = frames ++ ks })
          → Going trace burdens first (suc i) outside new
      by [] l h at = absurd (omega arith)
      by (f ∷ []) l h at = absurd (omega arith)
      by (f ∷ p ∷ fs) l h at =
          let d = h.1 in record {
            frames = g.frames;
            are = g.are;
            some = subst (OnTop (λ f. Unit {0})) (sym d.frames) tt;
            passed =
                return_passed trace burdens light sound.short first i begun lt r (record s { frames = f ∷ p ∷ fs ++ ks }) (with_outside ks new) (
                  refl,
                  record {
                    frames = ap (λ (l : List CountedFrame). l ++ ks) d.frames;
                    open_sites = d.open_sites;
                    open_funcs = d.open_funcs;
                    work = d.work;
                    table = d.table;
                    ends = d.ends;
                    joins = d.joins;
                    burdened_joins = d.burdened_joins;
                  },
                )
                at;
          }

-- ---- the end

-- sites below n are so in fewer frames, and are below a greater number
below_first : (n : ℕ) (fs more : List CountedFrame) → AreBelow n (fs ++ more) → AreBelow n fs
below_first n [] more h = tt
below_first n (f ∷ fs) more h = (h.0, below_first n fs more h.1)

below_more : (n m : ℕ) → n ≤ m → (fs : List CountedFrame) → AreBelow n fs → AreBelow m fs
below_more n m l [] h = tt
below_more n m l (f ∷ fs) h = ((let z : f.site < n = h.0 in omega arith), below_more n m l fs h.1)

none_outside : (hs : List EntryFrame) (key : Option ℕ) → owed (map counted (entered_frames hs)) key ≡ zero_row
none_outside [] key = refl
none_outside (h ∷ hs) key =
    none_owed (same_key (key_of (counted (entered_frame h (not (has_func hs h.func)))).entry) key) (owed (map counted (entered_frames hs)) key) ∙ none_outside hs key

owed_open : (fs : List CountedFrame) (hs : List EntryFrame) (key : Option ℕ) → owed (map counted (fs ++ entered_frames hs)) key ≡ local_rows fs key
owed_open [] hs key = none_outside hs key
owed_open (f ∷ fs) hs key = ap (λ r. plus (cond (same_key (frame_key f) key) (strand_row f.local) zero_row) r) (owed_open fs hs key)

module _ (trace : Recording) (sound : Sound trace) (burdens : Burdens) (first i : ℕ) (within : i ≤ length trace.records) (outside : Option StackOf) (s : Seen) (g : Going trace burdens first i outside s) where
  pub going_sites : AreBelow 65536 s.frames
  going_sites = below_more (site_bound trace) 65536 (let z = sound.few in omega arith) s.frames (below_first (site_bound trace) s.frames (entered_frames g.frames) g.passed.sites)

  pub going_suspend : FitsOpen s
  going_suspend key =
      let short = sound.short in
      let w : s.work ≤ 18446744073709551615 * i = g.passed.bounded.small in
      low_fits i s.work (plus (key_row s.table key) (local_rows s.frames key)) zero_row _
      (plus-zero (plus (key_row s.table key) (local_rows s.frames key)) ∙ ap (λ r. plus (key_row s.table key) r) (sym (owed_open s.frames g.frames key)))
      (g.passed.bounded.low key) (omega arith) (omega arith)

  -- what the part tells is so
  pub going_end : (p : PartResult) → IsSuspended s p → (es : List Event) → AreEvents trace.records es → IsPartOf es burdens trace.root first i p.share p.choices
  going_end p h es are =
      let wf : IsWellFormed es = subst (λ (rs : List Record). nesting.IsWellFormed rs) are sound.formed in
      let sp = (spans_law es wf).0 in
      let noted = g.passed.noted es are wf in
      record {
        table = (
          sp.0,
          sp.1,
          λ key. h.share key ∙ ap (λ r. plus (key_row s.table key) r) (sym (owed_open s.frames g.frames key)) ∙ (g.passed.shared es are wf sp.0 sp.1).rows key,
        );
        choices = record {
          ends = subst (λ (l : List End). AreEndsIn es first i l) (sym h.ends) (ends_in es s.ends noted.0);
          joins = subst (λ (l : List Choice). AreJoinsIn es unburdened first i l) (sym h.joins) (joins_in es unburdened s.joins noted.1);
          burdened_joins = subst (λ (l : List Choice). AreJoinsIn es burdens first i l) (sym h.burdened_joins) (joins_in es burdens s.burdened_joins noted.2);
        };
      }
    where
      ends_in : (es : List Event) (ends : List End) → AreEndsTo es first i ends → AreEndsIn es first i ends
      ends_in es ends a = record {
        rise = a.rise;
        are = λ e. (λ m. let q = (a.are e).0 m in (q.0.0, (q.0.1, q.1)), λ q. (a.are e).1 ((q.0, q.1.0), q.1.1));
      }

      joins_in : (es : List Event) (paths : Burdens) (joins : List Choice) → AreJoinsTo es paths first i joins → AreJoinsIn es paths first i joins
      joins_in es paths joins a = record {
        rise = a.rise;
        are = λ j. (λ m. let q = (a.are j).0 m in (q.0.0, (q.0.1, q.1)), λ q. (a.are j).1 ((q.0, q.1.0), q.1.1));
      }
