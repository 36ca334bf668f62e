-- What each event does to the reading of a stretch.
use Rattle.std.proofs.Common.{◌≡◌, ℕ, suc, ◌+◌, ◌≤◌, ◌<◌, ◌^◌, Bool, true, false, List, [], ◌∷◌, length, Some, None, refl, sym, ap, subst, ◌∙◌, arith}
use Rattle.std.specs.Global.{Box}
use Rattle.spp_event.specs.declared.records.Event.{Event}
use Rattle.spp_event.specs.declared.records.Event.TheVariants.{Strand, Call, Spawn, Ret, Sync}
use Rattle.spp_event.specs.Recordings.{Recording}
use Rattle.spp_maxplus.specs.declared.state.Burdens.{Burdens}
use Rattle.spp_dag.specs.declared.row.Row.{Row}
use Rattle.spp_dag.specs.declared.stack.FrameKind.{FrameKind}
use Rattle.spp_dag.specs.declared.stack.FrameKind.TheVariants.{Root, Called, Spawned}
use Rattle.spp_site.specs.declared.closed_frame.ClosedFrame.{ClosedFrame}
use Rattle.spp_ways.specs.declared.log.Merged.{Merged}
use Rattle.spp_ways.specs.declared.log.LogRow.{LogRow}
use Rattle.spp_ways.specs.declared.frame_ways.FrameWays.{FrameWays}
use Rattle.spp_ways.specs.declared.open_ways.OnPaths.{OnPaths}
use Rattle.spp_ways.specs.declared.open_ways.OpenWays.{OpenWays}
use Rattle.spp_ways.specs.Ways.{Ways, no_way, no_ways}
use Rattle.spp_ways.specs.OpenWays.{AllWays, FitTopStrand, on_path, bare_row, strand_list, waited_list, returned_list}
use Rattle.spp_ways.specs.Enclosures.{Enclosure, enclosed}
use Rattle.spp_ways.specs.Stretches.{IsStretch, AreStretchWays, joined_list}
use Rattle.spp_pass.specs.declared.counted_frame.CountedFrame.{CountedFrame}
use Rattle.spp_pass.specs.declared.calls.CallRow.{CallRow}
use Rattle.spp_pass.specs.declared.counting.Closing.{Closing}
use Rattle.spp_pass.specs.declared.counting.Popped.{Popped}
use Rattle.spp_pass.specs.Passes.{Seen, on_top, strand_frame, sync_frame, returned_frame, open_frames, strand_seen, open_seen, sync_seen, popped_seen, closed_of, takes_of, wins_of, closing_of, caller_in, IsClosing, AreTakes}
use Rattle.spp_pass.specs.CallRows.{AreAdded, AreLight}
use Rattle.spp_pass.specs.Stretches.{enclosure, placed, joined, placed_frames, child_wins, IsJoined}
use Rattle.spp_pass.proofs.Projected.{IsNeat}
use Rattle.spp_pass.proofs.Alone.{Alone, alone_as, alone_strand, alone_open, alone_sync, alone_pop}
use Rattle.spp_pass.proofs.CallRows.{all_light_as}
use Rattle.spp_pass.proofs.Stretching.{follows_strand, follows_open, follows_sync_inner, follows_sync_outer, run_goes_on, follows_pop}
use Rattle.spp_pass.proofs.PlacedFrames.{joined_takes, placed_takes, placed_closing}
use Rattle.spp_pass.proofs.ChildWins.{placed_wins}
use Rattle.spp_part.specs.States.{Both, Goes, IsEventAt}
use Rattle.spp_part.specs.Parts.{HasNoWay, outer_of}
use Rattle.spp_part.specs.Readings.{open_air, AreOwnBelow, IsGoing, InBounds, Opens}
use Rattle.spp_part.proofs.JoinedWays.{strand_joined, open_joined, sync_joined, outer_sync_joined, taken_wins, return_joined, outer_return_joined}
use Rattle.spp_part.proofs.Taking.{Keeps, Advances, goes_on}

-- ---- own strands

own_more : (n m : ℕ) (us : List Ways) → n ≤ m → AreOwnBelow n us → AreOwnBelow m us
own_more n m [] le h = tt
own_more n m (u ∷ us) le h = ((let z = h.0 in omega arith), (let z = h.1 in omega arith), own_more n m us le h.2)

own_strand : (n count : ℕ) (us : List Ways) → AreOwnBelow n us → AreOwnBelow (n + count) (strand_list count us)
own_strand n count [] h = tt
own_strand n count (u ∷ us) h = ((let z = h.0 in omega arith), (let z = h.1 in omega arith), own_more n (n + count) us (omega arith) h.2)

own_waited : (n : ℕ) (takes : Bool) (us : List Ways) → AreOwnBelow n us → AreOwnBelow n (waited_list takes us)
own_waited n takes [] h = tt
own_waited n false (u ∷ us) h = (h.0, omega arith, h.2)
own_waited n true (u ∷ us) h = (h.1, omega arith, h.2)

own_returned : (n : ℕ) (kind : FrameKind) (takes wins : Bool) (site : ℕ) (row : Row) (us : List Ways) → AreOwnBelow n us → AreOwnBelow n (returned_list kind takes wins site row us)
own_returned n kind takes wins site row [] h = tt
own_returned n kind takes wins site row (u ∷ []) h = tt
own_returned n Root takes wins site row (u ∷ v ∷ us) h = h.2
own_returned n Called takes wins site row (u ∷ v ∷ us) h = (h.2.0, h.2.1, h.2.2)
own_returned n Spawned takes false site row (u ∷ v ∷ us) h = (h.2.0, h.2.1, h.2.2)
own_returned n Spawned takes true site row (u ∷ v ∷ us) h = (h.2.0, h.2.0, h.2.2)

-- the strands of the innermost frame fit, with one more
pub fit_top : (on : Bool) (log : List LogRow) (count n : ℕ) (fs : List FrameWays) (us : List Ways) → AllWays on log fs us → AreOwnBelow n us → n + count < 2 ^ 128 → 0 < length fs → FitTopStrand on count fs
fit_top on log count n [] us h own few some = absurd (omega arith)
fit_top on log count n (f ∷ fs) [] h own few some = absurd h
fit_top on log count n (f ∷ fs) (u ∷ us) h own few some = let e = h.0.0.0 in let z = own.0 in omega arith

-- ---- lengths

strand_length : (n : ℕ) (us : List Ways) → length (strand_list n us) ≡ length us
strand_length n [] = refl
strand_length n (u ∷ us) = refl

waited_length : (takes : Bool) (us : List Ways) → length (waited_list takes us) ≡ length us
waited_length takes [] = refl
waited_length takes (u ∷ us) = refl

top_length : (change : CountedFrame → CountedFrame) (fs : List CountedFrame) → length (on_top change fs) ≡ length fs
top_length change [] = refl
top_length change (f ∷ fs) = refl

open_length : (kind : FrameKind) (at site func : ℕ) (s : Seen) (fs : List CountedFrame) → 0 < length fs → length (open_frames kind at site func s fs) ≡ suc (length fs)
open_length kind at site func s [] some = absurd (omega arith)
open_length kind at site func s (f ∷ fs) some = refl

returned_length : (kind : FrameKind) (takes wins : Bool) (site : ℕ) (row : Row) (us : List Ways) (n : ℕ) → length us ≡ suc (suc n) → length (returned_list kind takes wins site row us) ≡ suc n
returned_length kind takes wins site row [] n e = absurd (omega arith)
returned_length kind takes wins site row (u ∷ []) n e = absurd (omega arith)
returned_length kind takes wins site row (u ∷ v ∷ us) n e = omega arith

-- ---- the outer frame

outer_strand : (n : ℕ) (fs : List CountedFrame) (g : CountedFrame) → child_wins (outer_of (on_top (strand_frame n) fs)) g ≡ child_wins (outer_of fs) g
outer_strand n [] g = refl
outer_strand n (f ∷ []) g = refl
outer_strand n (f ∷ h ∷ fs) g = refl

outer_open : (kind : FrameKind) (at site func : ℕ) (s : Seen) (fs : List CountedFrame) → outer_of (open_frames kind at site func s fs) ≡ outer_of fs
outer_open kind at site func s [] = refl
outer_open kind at site func s (f ∷ fs) = refl

pub some_frame : (k : ℕ) (a : Seen) → Alone k a → 0 < length a.frames
some_frame k a alone = by a.frames alone
  where
    by : (fs : List CountedFrame) → Alone k (record a { frames = fs }) → 0 < length fs
    by [] h = absurd h.nested
    by (f ∷ fs) h = omega arith

-- ---- a sync

-- the run's innermost frame takes what that of the stretch does
placed_top : (e : Enclosure) (before first : ℕ) (answer : OnPaths) (fs : List CountedFrame) (g : CountedFrame) (gs : List CountedFrame) → IsNeat g → (length fs ≡ 1 → (g.child ≡ None) × (g.burdened_child ≡ None))
    → AreTakes answer fs → AreTakes answer (placed_frames e before first fs g gs)
placed_top e before first answer [] g gs neat none h = absurd h
placed_top e before first answer (f ∷ []) g gs neat none h = let n = none refl in h ∙ sym (joined_takes first f g neat n.0 n.1)
placed_top e before first answer (f ∷ h ∷ fs) g gs neat none is = is ∙ sym (placed_takes e before first (caller_in (h ∷ fs)) f)

sync_follows : (first k : ℕ) (a old new : Seen) (calls : List CallRow) (g : CountedFrame) (gs : List CountedFrame) → Alone k a → IsJoined first a.frames a.work calls g gs old new → (at later : ℕ)
    → IsNeat g → (length a.frames ≡ 1 → (g.child ≡ None) × (g.burdened_child ≡ None)) → IsJoined first (sync_seen at a).frames (sync_seen at a).work calls g gs old (sync_seen later new)
sync_follows first k a old new calls g gs alone j at later neat none = by a.frames refl
  where
    by : (fs : List CountedFrame) → a.frames ≡ fs → IsJoined first (sync_seen at a).frames (sync_seen at a).work calls g gs old (sync_seen later new)
    by [] e = absurd (let z : length a.frames ≡ 0 = ap (λ (l : List CountedFrame). length l) e in let y = some_frame k a alone in omega arith)
    by (f ∷ []) e = let n = none (ap (λ (l : List CountedFrame). length l) e) in follows_sync_outer first k a old new calls g gs alone j at later n.0 n.1 neat
    by (f ∷ h ∷ fs) e = follows_sync_inner first k a old new calls g gs alone j at later f h fs e

sync_laws : (on : Bool) (g : CountedFrame) (answer : OnPaths) (fs : List CountedFrame) → AreTakes answer fs → (us : List Ways) → length us ≡ length fs → (w : Ways) (vs : List Ways)
    → (length fs ≡ 1 → (g.child ≡ None) × (g.burdened_child ≡ None) × (w.through ≡ no_way))
    → waited_list (on_path on answer) (joined_list (on_path on (child_wins (outer_of fs) g)) us w vs) ≡ joined_list (on_path on (child_wins (outer_of (on_top sync_frame fs)) g)) (waited_list (on_path on answer) us) w vs
sync_laws on g answer [] takes us len w vs none = absurd takes
sync_laws on g answer (f ∷ []) takes us len w vs none =
    let n = none refl in
    outer_sync_joined (on_path on (child_wins f g)) (on_path on answer) us w vs len n.2 (λ t. taken_wins on f g n.0 n.1 (sym (ap (on_path on) takes) ∙ t)) ∙ by on
  where
    by : (on : Bool) → joined_list false (waited_list (on_path on answer) us) w vs ≡ joined_list (on_path on (child_wins (sync_frame f) g)) (waited_list (on_path on answer) us) w vs
    by false = refl
    by true = refl
sync_laws on g answer (f ∷ h ∷ fs) takes us len w vs none = sync_joined (on_path on (child_wins (outer_of (h ∷ fs)) g)) (on_path on answer) us w vs (omega arith)

-- ---- a return

-- the frame as the run's table counts it
abbrev enclosed_call : Enclosure → CountedFrame → ℕ → ℕ → ClosedFrame
enclosed_call e f caller work = enclosed e f.site caller (closed_of f work)

-- the run's frame to which the innermost one returns, where it is the frame h of the stretch
abbrev parent : Enclosure → ℕ → ℕ → CountedFrame → List CountedFrame → CountedFrame → CountedFrame
parent e before first h [] g = joined first h g
parent e before first h (x ∷ fs) g = placed e before first (caller_in (x ∷ fs)) h

abbrev run_closing : Burdens → Enclosure → ℕ → ℕ → ℕ → CountedFrame → CountedFrame → List CountedFrame → CountedFrame → Closing
run_closing burdens e before first work f h fs g = record {
  kind = f.kind;
  site = f.site;
  closed = enclosed_call e f (caller_in (h ∷ fs)) work;
  takes = takes_of f;
  wins = wins_of burdens (placed e before first (caller_in (h ∷ fs)) f) (parent e before first h fs g);
}

closing_is : (burdens : Burdens) (e : Enclosure) (before first work : ℕ) (f h : CountedFrame) (fs : List CountedFrame) (g : CountedFrame) (gs : List CountedFrame)
    → IsClosing burdens (before + work) (placed_frames e before first (f ∷ h ∷ fs) g gs) (Some (run_closing burdens e before first work f h fs g))
closing_is burdens e before first work f h [] g gs = ap (λ (c : Closing). Some c) (sym (placed_closing burdens e before first (caller_in (h ∷ [])) work f (joined first h g)))
closing_is burdens e before first work f h (x ∷ fs) g gs =
    ap (λ (c : Closing). Some c) (sym (placed_closing burdens e before first (caller_in (h ∷ x ∷ fs)) work f (placed e before first (caller_in (x ∷ fs)) h)))

return_laws : (on : Bool) (burdens : Burdens) (e : Enclosure) (before first : ℕ) (f h : CountedFrame) (fs : List CountedFrame) (g : CountedFrame) → (f.kind ≡ Root → ⊥) → IsNeat h → IsNeat g
    → (takes : Bool) (row : Row) (us : List Ways) → length us ≡ suc (suc (length fs)) → (w : Ways) (vs : List Ways)
    → returned_list f.kind takes (on_path on (wins_of burdens (placed e before first (caller_in (h ∷ fs)) f) (parent e before first h fs g))) f.site row (joined_list (on_path on (child_wins (outer_of (f ∷ h ∷ fs)) g)) us w vs)
    ≡ joined_list (on_path on (child_wins (outer_of (returned_frame burdens f h ∷ fs)) g)) (returned_list f.kind takes (on_path on (wins_of burdens f h)) f.site row us) w vs
return_laws on burdens e before first f h [] g inner nh ng takes row us len w vs = outer_return_joined on burdens e before first (caller_in (h ∷ [])) f h g inner nh ng takes f.site row us w vs len
return_laws on burdens e before first f h (x ∷ fs) g inner nh ng takes row us len w vs =
    ap (λ (o : OnPaths). returned_list f.kind takes (on_path on o) f.site row (joined_list (on_path on (child_wins (outer_of (x ∷ fs)) g)) us w vs)) (placed_wins burdens e before first (caller_in (h ∷ x ∷ fs)) (caller_in (x ∷ fs)) f h)
    ∙ return_joined (on_path on (child_wins (outer_of (x ∷ fs)) g)) f.kind takes (on_path on (wins_of burdens f h)) f.site row us w vs (let z : length us ≡ suc (suc (suc (length fs))) = len in omega arith)

-- ---- the steps

module _ (trace : Recording) (burdens : Burdens) (bounds : InBounds trace burdens) (first to k : ℕ) (lt : first + k < length trace.records) (settled : Bool)
    (a : Seen) (calls : List CallRow) (o : OpenWays) (is : IsGoing trace burdens first to k settled a calls o) (b : Seen) (p : OpenWays) where
  -- a strand
  pub strand_goes : (n : ℕ) → IsEventAt trace (first + k) (Strand n) → b ≡ strand_seen n a → IsStretch p.log.rows.items p.frames.items → length p.log.rows.items ≤ length o.log.rows.items
      → ((on : Bool) (e : Enclosure) (base : Box Merged) (us : List Ways) → AreStretchWays on e base o us → AreStretchWays on e base p (strand_list n us))
      → IsGoing trace burdens first to (suc k) settled b calls p
  strand_goes n at then stretch rows enclosed =
      subst (λ (x : Seen). IsGoing trace burdens first to (suc k) settled x calls p) (sym then)
      (goes_on trace burdens bounds first to k lt settled a calls o is (Strand n) at (strand_seen n a) calls p (λ on e. strand_list n)
      (alone_strand k n at.1 a is.alone) (let z = top_length (strand_frame n) a.frames in omega arith) is.last.calls (all_light_as k (suc k) calls (omega arith) is.light) keeps advances)
    where
      keeps : Keeps a (strand_seen n a) o p (λ on e. strand_list n)
      keeps = record {
        stretch = stretch;
        rows = omega arith;
        enclosed = enclosed;
        lengths = λ on e us h. strand_length n us ∙ h ∙ sym (top_length (strand_frame n) a.frames);
        owns = λ on us h. own_strand a.work n us h;
      }

      advances : Advances burdens first k (Strand n) settled a calls (strand_seen n a) calls (λ on e. strand_list n)
      advances s ways g gs neat none new j = (
        strand_seen n new,
        λ on. strand_list n,
        λ were. (refl, λ on. refl),
        follows_strand first k a s new calls g gs is.alone j n,
        λ on w vs e us len. strand_joined (on_path on (child_wins (outer_of a.frames) g)) n us w vs (let z = some_frame k a is.alone in omega arith)
            ∙ ap (λ (t : OnPaths). joined_list (on_path on t) (strand_list n us) w vs) (sym (outer_strand n a.frames g)),
      )

  -- a call or a spawn
  opened : (kind : FrameKind) → (kind ≡ Root → ⊥) → (site func : ℕ) → site < 65536 → func < 65536 → (event : Event) → IsEventAt trace (first + k) event
      → ((new : Seen) (were : Both) → Goes burdens (first + k) event new were (open_seen kind (first + k) site func new) (λ on. no_ways ∷ were on))
      → b ≡ open_seen kind k site func a → IsStretch p.log.rows.items p.frames.items → length p.log.rows.items ≤ length o.log.rows.items
      → ((on : Bool) (e : Enclosure) (base : Box Merged) (us : List Ways) → AreStretchWays on e base o us → AreStretchWays on e base p (no_ways ∷ us))
      → IsGoing trace burdens first to (suc k) settled b calls p
  opened kind inner site func few some event at goes then stretch rows enclosed =
      let filled : 0 < length a.frames = some_frame k a is.alone in
      subst (λ (x : Seen). IsGoing trace burdens first to (suc k) settled x calls p) (sym then)
      (goes_on trace burdens bounds first to k lt settled a calls o is event at (open_seen kind k site func a) calls p (λ on e us. no_ways ∷ us)
      (alone_open k kind inner site func few some a is.alone) (let z = open_length kind k site func a a.frames filled in omega arith) is.last.calls (all_light_as k (suc k) calls (omega arith) is.light) keeps advances)
    where
      keeps : Keeps a (open_seen kind k site func a) o p (λ on e us. no_ways ∷ us)
      keeps = record {
        stretch = stretch;
        rows = omega arith;
        enclosed = enclosed;
        lengths = λ on e us h. ap suc h ∙ sym (open_length kind k site func a a.frames (some_frame k a is.alone));
        owns = λ on us h. (omega arith, omega arith, h);
      }

      advances : Advances burdens first k event settled a calls (open_seen kind k site func a) calls (λ on e us. no_ways ∷ us)
      advances s ways g gs neat none new j = (
        open_seen kind (first + k) site func new,
        λ on us. no_ways ∷ us,
        λ were. goes new were,
        follows_open first k a s new calls g gs is.alone j kind site func,
        λ on w vs e us len. open_joined (on_path on (child_wins (outer_of a.frames) g)) us w vs (let z = some_frame k a is.alone in omega arith)
            ∙ ap (λ (r : CountedFrame). joined_list (on_path on (child_wins r g)) (no_ways ∷ us) w vs) (sym (outer_open kind k site func a a.frames)),
      )

  pub open_goes : (kind : FrameKind) (site func : ℕ) (event : Event) → Opens kind site func event → IsEventAt trace (first + k) event
      → b ≡ open_seen kind k site func a → IsStretch p.log.rows.items p.frames.items → length p.log.rows.items ≤ length o.log.rows.items
      → ((on : Bool) (e : Enclosure) (base : Box Merged) (us : List Ways) → AreStretchWays on e base o us → AreStretchWays on e base p (no_ways ∷ us))
      → IsGoing trace burdens first to (suc k) settled b calls p
  open_goes Root site func event opens at then stretch rows enclosed = absurd opens
  open_goes Called site func event opens at then stretch rows enclosed =
      let here : IsEventAt trace (first + k) (Call site func) = subst (IsEventAt trace (first + k)) opens at in
      let m = bounds.sites in
      let n = bounds.funcs in
      let few : site < 65536 = (let z = here.1.0 in omega arith) in
      let some : func < 65536 = (let z = here.1.1 in omega arith) in
      opened Called (λ e. cc) site func few some (Call site func) here (λ new were. (refl, λ on. refl)) then stretch rows enclosed
  open_goes Spawned site func event opens at then stretch rows enclosed =
      let here : IsEventAt trace (first + k) (Spawn site func) = subst (IsEventAt trace (first + k)) opens at in
      let m = bounds.sites in
      let n = bounds.funcs in
      let few : site < 65536 = (let z = here.1.0 in omega arith) in
      let some : func < 65536 = (let z = here.1.1 in omega arith) in
      opened Spawned (λ e. cc) site func few some (Spawn site func) here (λ new were. (refl, λ on. refl)) then stretch rows enclosed

  -- a sync, of a frame that was opened in the stretch, or of the outer one if it is settled
  pub sync_goes : (at : ℕ) (answer : OnPaths) → AreTakes answer a.frames → (length a.frames ≡ 1 → settled ≡ true) → IsEventAt trace (first + k) Sync
      → b ≡ sync_seen at a → IsStretch p.log.rows.items p.frames.items → length p.log.rows.items ≤ length o.log.rows.items
      → ((on : Bool) (e : Enclosure) (base : Box Merged) (us : List Ways) → AreStretchWays on e base o us → AreStretchWays on e base p (waited_list (on_path on answer) us))
      → IsGoing trace burdens first to (suc k) settled b calls p
  sync_goes at answer takes outer here then stretch rows enclosed =
      subst (λ (x : Seen). IsGoing trace burdens first to (suc k) settled x calls p) (sym then)
      (goes_on trace burdens bounds first to k lt settled a calls o is Sync here (sync_seen at a) calls p (λ on e. waited_list (on_path on answer))
      (alone_sync k at a is.alone) (let z = top_length sync_frame a.frames in omega arith) is.last.calls (all_light_as k (suc k) calls (omega arith) is.light) keeps advances)
    where
      keeps : Keeps a (sync_seen at a) o p (λ on e. waited_list (on_path on answer))
      keeps = record {
        stretch = stretch;
        rows = omega arith;
        enclosed = enclosed;
        lengths = λ on e us h. waited_length (on_path on answer) us ∙ h ∙ sym (top_length sync_frame a.frames);
        owns = λ on us h. own_waited a.work (on_path on answer) us h;
      }

      advances : Advances burdens first k Sync settled a calls (sync_seen at a) calls (λ on e. waited_list (on_path on answer))
      advances s ways g gs neat none new j =
          let set = λ (one : length a.frames ≡ 1). none (outer one) in
          let follows : IsJoined first (sync_seen at a).frames (sync_seen at a).work calls g gs s (sync_seen (first + k) new) = sync_follows first k a s new calls g gs is.alone j at (first + k) neat (λ one. let n = set one in (n.0, n.1)) in
          let taken : AreTakes answer new.frames = subst (AreTakes answer) (sym j.frames) (placed_top (enclosure g s) s.work first answer a.frames g gs neat (λ one. let n = set one in (n.0, n.1)) takes) in (
            sync_seen (first + k) new,
            λ on. waited_list (on_path on answer),
            λ were. (answer, refl, taken, λ on. refl),
            follows,
            λ on w vs e us len. sync_laws on g answer a.frames takes us len w vs
                (λ one. let n = set one in let none_waits : w.through ≡ no_way = subst HasNoWay e (n.2 on) in (n.0, n.1, none_waits)),
          )

  -- a return, of a frame that was opened in the stretch
  pub pop_goes : (at : ℕ) (f h : CountedFrame) (fs : List CountedFrame) → a.frames ≡ f ∷ h ∷ fs → IsEventAt trace (first + k) Ret → b ≡ popped_seen burdens at f h fs a
      → (told : Popped) → told ≡ record { closing = closing_of burdens a.work f h; caller = caller_in (h ∷ fs) }
      → (more : List CallRow) → AreAdded f.site (caller_in (h ∷ fs)) (closed_of f a.work) calls more → AreLight (suc k) more
      → IsStretch p.log.rows.items p.frames.items → length p.log.rows.items ≤ length o.log.rows.items + 1
      → ((on : Bool) (e : Enclosure) (base : Box Merged) (us : List Ways) → AreStretchWays on e base o us
      → AreStretchWays on e base p (returned_list told.closing.kind (on_path on told.closing.takes) (on_path on told.closing.wins) told.closing.site (bare_row (enclosed e told.closing.site told.caller told.closing.closed)) us))
      → IsGoing trace burdens first to (suc k) settled b more p
  pop_goes at f h fs frames here then told says more added light stretch rows encloses =
      subst (λ (x : Seen). IsGoing trace burdens first to (suc k) settled x more p) (sym then)
      (goes_on trace burdens bounds first to k lt settled a calls o is Ret here (popped_seen burdens at f h fs a) more p list
      (alone_pop k burdens bounds.light at f h fs a frames is.alone) shorter (added.below 65536 is.last.calls al.nested.0.0) light keeps advances)
    where
      list : Bool → Enclosure → List Ways → List Ways
      list on e us = returned_list f.kind (on_path on (takes_of f)) (on_path on (wins_of burdens f h)) f.site (bare_row (enclosed e f.site (caller_in (h ∷ fs)) (closed_of f a.work))) us

      al : Alone k (record a { frames = f ∷ h ∷ fs })
      al = alone_as k a (f ∷ h ∷ fs) frames is.alone

      many : length a.frames ≡ suc (suc (length fs))
      many = ap (λ (l : List CountedFrame). length l) frames

      shorter : suc (length fs) ≤ length a.frames + 1
      shorter = let z = many in omega arith

      keeps : Keeps a (popped_seen burdens at f h fs a) o p list
      keeps = record {
        stretch = stretch;
        rows = rows;
        enclosed = subst (λ (t : Popped). (on : Bool) (e : Enclosure) (base : Box Merged) (us : List Ways) → AreStretchWays on e base o us
            → AreStretchWays on e base p (returned_list t.closing.kind (on_path on t.closing.takes) (on_path on t.closing.wins) t.closing.site (bare_row (enclosed e t.closing.site t.caller t.closing.closed)) us)) says encloses;
        lengths = λ on e us len. returned_length f.kind (on_path on (takes_of f)) (on_path on (wins_of burdens f h)) f.site (bare_row (enclosed e f.site (caller_in (h ∷ fs)) (closed_of f a.work))) us (length fs) (len ∙ many);
        owns = λ on us low. own_returned a.work f.kind (on_path on (takes_of f)) (on_path on (wins_of burdens f h)) f.site (bare_row (enclosed open_air f.site (caller_in (h ∷ fs)) (closed_of f a.work))) us low;
      }

      advances : Advances burdens first k Ret settled a calls (popped_seen burdens at f h fs a) more list
      advances s ways g gs neat none new j =
          let went = run_goes_on first k a s new calls g gs is.alone j burdens neat f h fs frames (first + k) in
          let above : CountedFrame = placed (enclosure g s) s.work first (caller_in (h ∷ fs)) f in
          let below : CountedFrame = parent (enclosure g s) s.work first h fs g in
          let told : Closing = run_closing burdens (enclosure g s) s.work first a.work f h fs g in
          let now : new.frames ≡ placed_frames (enclosure g s) s.work first (f ∷ h ∷ fs) g gs = j.frames ∙ ap (λ (l : List CountedFrame). placed_frames (enclosure g s) s.work first l g gs) frames in
          let closes : IsClosing burdens new.work new.frames (Some told) = subst (λ (l : List CountedFrame). IsClosing burdens new.work l (Some told)) (sym now)
          (subst (λ (n : ℕ). IsClosing burdens n (placed_frames (enclosure g s) s.work first (f ∷ h ∷ fs) g gs) (Some told)) (sym j.work) (closing_is burdens (enclosure g s) s.work first a.work f h fs g gs)) in (
            went.0,
            λ on. returned_list f.kind (on_path on (takes_of f)) (on_path on (wins_of burdens above below)) f.site (bare_row told.closed),
            λ were. (told, went.1, closes, λ on. refl),
            follows_pop first k a s new calls g gs is.alone j burdens neat f h fs frames at (first + k) went.0 more added went.1,
            λ on w vs e us len. ap (λ (l : List CountedFrame). returned_list f.kind (on_path on (takes_of f)) (on_path on (wins_of burdens above below)) f.site (bare_row told.closed) (joined_list (on_path on (child_wins (outer_of l) g)) us w vs)) frames
                ∙ return_laws on burdens (enclosure g s) s.work first f h fs g al.nested.0.2 al.neat.1.0 neat (on_path on (takes_of f)) (bare_row told.closed) us (len ∙ many) w vs,
          )
