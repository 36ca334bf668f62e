-- What a stretch comes to, joined onto what was counted before it, is what the run has counted at its end, event by event.
use Rattle.std.proofs.Common.{◌≡◌, ℕ, ◌+◌, ◌<◌, Bool, true, false, cond, not, ◌&&◌, ◌||◌, nat_eq, List, [], ◌∷◌, Option, Some, None, refl, sym, ap, subst, ◌∙◌, arith}
use Rattle.std.proofs.lemmas.Bool.{ne_eqb}
use Rattle.spp_maxplus.specs.declared.state.Burdens.{Burdens}
use Rattle.spp_dag.specs.declared.row.Row.{Row}
use Rattle.spp_dag.specs.declared.stack.FrameKind.{FrameKind}
use Rattle.spp_dag.specs.Shares.{plus, zero_row}
use Rattle.spp_dag.specs.Steps.{same_key}
use Rattle.spp_site.specs.Rows.{frame_row}
use Rattle.spp_site.specs.Table.{Sums, row_at, IsAdded}
use Rattle.spp_site.specs.Profiles.{key_row}
use Rattle.spp_site.specs.declared.closed_frame.ClosedFrame.{ClosedFrame}
use Rattle.spp_site.proofs.Rows.{plus-zero, plus-assoc, plus-cond}
use Rattle.spp_site.proofs.Marked.{marked_less}
use Rattle.spp_ways.specs.Enclosures.{Enclosure, outer_caller, is_top_caller, enclosed}
use Rattle.spp_pass.specs.declared.counted_frame.CountedFrame.{CountedFrame}
use Rattle.spp_pass.specs.declared.calls.CallRow.{CallRow}
use Rattle.spp_pass.specs.Passes.{Seen, strand_seen, sync_seen, open_seen, popped_seen, opened_frame, open_frames, on_top, strand_frame, sync_frame, returned_frame, closed_of, caller_in, Returns, IsReturned}
use Rattle.spp_pass.specs.Stretches.{stretch_frame, enclosure, placed, joined, placed_frames, with_frames, IsJoined}
use Rattle.spp_pass.specs.CallRows.{calls_row, call_row, AreAdded}
use Rattle.spp_pass.proofs.Bounded.{turned}
use Rattle.spp_pass.proofs.Projected.{IsNeat}
use Rattle.spp_pass.proofs.RunReturns.{returned_seen, run_returns}
use Rattle.spp_pass.proofs.Alone.{Alone, alone_as, same_top, sites_in, funcs_in}
use Rattle.spp_pass.proofs.PlacedFrames.{joined_strand, joined_sync, joined_start, placed_returned, joined_returned, placed_closed}

-- ---- marks

or_more : (a b c : Bool) → (a || (b || c)) ≡ (a || b || c)
or_more true b c = refl
or_more false b c = refl

not_or : (a b : Bool) → not (a || b) ≡ (not a && not b)
not_or true b = refl
not_or false b = refl

-- the marks of a stretch's frames beside others
pub with_frames_or : (of : CountedFrame → ℕ) (fs : List CountedFrame) (marks : ℕ → Bool) (y : ℕ) → with_frames of fs marks y ≡ (with_frames of fs (λ (x : ℕ). false) y || marks y)
with_frames_or of [] marks y = refl
with_frames_or of (r ∷ []) marks y = refl
with_frames_or of (f ∷ h ∷ fs) marks y =
    ap (λ b. nat_eq (of f) y || b) (with_frames_or of (h ∷ fs) marks y) ∙ or_more (nat_eq (of f) y) (with_frames of (h ∷ fs) (λ (x : ℕ). false) y) (marks y)

-- ---- rows

added_row : (t u : Sums) (s : ℕ) (r : Row) → IsAdded t u s r → (key : Option ℕ) → key_row u key ≡ plus (key_row t key) (cond (same_key (Some s) key) r zero_row)
added_row t u s r h None = h.root ∙ sym (plus-zero t.root)
added_row t u s r h (Some q) =
    h.sites q ∙ ap (λ b. cond b (plus (row_at t q) r) (row_at t q)) (turned q s) ∙ sym (plus-cond (nat_eq s q) (row_at t q) r)

-- ---- the frames

-- the innermost frame changes
top_changes : (change : CountedFrame → CountedFrame) (e : Enclosure) (before first : ℕ) (f : CountedFrame) (fs : List CountedFrame) (g : CountedFrame) (gs : List CountedFrame)
    → ((caller : ℕ) → change (placed e before first caller f) ≡ placed e before first caller (change f))
    → (fs ≡ [] → change (joined first f g) ≡ joined first (change f) g)
    → on_top change (placed_frames e before first (f ∷ fs) g gs) ≡ placed_frames e before first (change f ∷ fs) g gs
top_changes change e before first f [] g gs inner outer = ap (λ (x : CountedFrame). x ∷ gs) (outer refl)
top_changes change e before first f (h ∷ fs) g gs inner outer = ap (λ (x : CountedFrame). x ∷ placed_frames e before first (h ∷ fs) g gs) (inner (caller_in (h ∷ fs)))

-- the stretch, seen with its frames as they are told
pub joined_as : (first : ℕ) (fs hs : List CountedFrame) (more : ℕ) (calls : List CallRow) (g : CountedFrame) (gs : List CountedFrame) (old new : Seen) → fs ≡ hs
    → IsJoined first fs more calls g gs old new → IsJoined first hs more calls g gs old new
joined_as first fs hs more calls g gs old new e j = subst (λ (l : List CountedFrame). IsJoined first l more calls g gs old new) e j

-- before its first event
pub follows_start : (first : ℕ) (g : CountedFrame) (gs : List CountedFrame) (old : Seen) → old.frames ≡ g ∷ gs → IsJoined first (stretch_frame ∷ []) 0 [] g gs old old
follows_start first g gs old e = record {
  frames = e ∙ ap (λ (x : CountedFrame). x ∷ gs) (sym (joined_start first g));
  open_sites = λ y. refl;
  open_funcs = λ y. refl;
  work = (let z : old.work ≡ old.work + 0 = omega arith in z);
  table = λ key. sym (plus-zero (key_row old.table key));
}

-- the frame below the innermost one, and what becomes of it where that returns
record NextTwo (burdens : Burdens) (e : Enclosure) (before first : ℕ) (f h : CountedFrame) (fs : List CountedFrame) (g : CountedFrame) (gs : List CountedFrame) : Type 0 where
  frame : CountedFrame
  below : List CountedFrame
  is : placed_frames e before first (h ∷ fs) g gs ≡ frame ∷ below
  after : returned_frame burdens (placed e before first (caller_in (h ∷ fs)) f) frame ∷ below ≡ placed_frames e before first (returned_frame burdens f h ∷ fs) g gs

next_two : (burdens : Burdens) (e : Enclosure) (before first : ℕ) (f h : CountedFrame) (fs : List CountedFrame) (g : CountedFrame) (gs : List CountedFrame) → IsNeat h → IsNeat g
    → NextTwo burdens e before first f h fs g gs
next_two burdens e before first f h [] g gs nh ng = record {
  frame = joined first h g;
  below = gs;
  is = refl;
  after = ap (λ (x : CountedFrame). x ∷ gs) (joined_returned burdens e before first outer_caller f h g nh ng);
}
next_two burdens e before first f h (x ∷ fs) g gs nh ng = record {
  frame = placed e before first (caller_in (x ∷ fs)) h;
  below = placed_frames e before first (x ∷ fs) g gs;
  is = refl;
  after = ap (λ (y : CountedFrame). y ∷ placed_frames e before first (x ∷ fs) g gs) (placed_returned burdens e before first h.func (caller_in (x ∷ fs)) f h);
}

module _ (first k : ℕ) (a old new : Seen) (calls : List CallRow) (g : CountedFrame) (gs : List CountedFrame) (alone : Alone k a) (j : IsJoined first a.frames a.work calls g gs old new) where
  abbrev e : Enclosure
  e = enclosure g old

  -- a strand
  pub follows_strand : (n : ℕ) → IsJoined first (strand_seen n a).frames (strand_seen n a).work calls g gs old (strand_seen n new)
  follows_strand n = by a.frames alone j
    where
      by : (frames : List CountedFrame) → Alone k (record a { frames = frames }) → IsJoined first frames a.work calls g gs old new
          → IsJoined first (on_top (strand_frame n) frames) (a.work + n) calls g gs old (strand_seen n new)
      by [] alone j = absurd alone.nested
      by (f ∷ fs) alone j = record {
        frames = ap (on_top (strand_frame n)) j.frames ∙ top_changes (strand_frame n) e old.work first f fs g gs (λ c. refl) (λ none. sym (joined_strand first n f g));
        open_sites = λ y. j.open_sites y ∙ same_top (λ (x : CountedFrame). x.site) f (strand_frame n f) fs old.open_sites y refl;
        open_funcs = λ y. j.open_funcs y ∙ same_top (λ (x : CountedFrame). x.func) f (strand_frame n f) fs old.open_funcs y refl;
        work = ap (λ w. w + n) j.work ∙ (let z : old.work + a.work + n ≡ old.work + (a.work + n) = omega arith in z);
        table = j.table;
      }

  -- a sync of a frame that was opened in the stretch, or of the one in which it begins, if no child waits there before
  follows_sync : (at later : ℕ) → ((r : CountedFrame) → a.frames ≡ r ∷ [] → (g.child ≡ None) × (g.burdened_child ≡ None) × IsNeat g)
      → IsJoined first (sync_seen at a).frames (sync_seen at a).work calls g gs old (sync_seen later new)
  follows_sync at later outer = by a.frames outer alone j
    where
      by : (frames : List CountedFrame) → ((r : CountedFrame) → frames ≡ r ∷ [] → (g.child ≡ None) × (g.burdened_child ≡ None) × IsNeat g)
          → Alone k (record a { frames = frames }) → IsJoined first frames a.work calls g gs old new → IsJoined first (on_top sync_frame frames) a.work calls g gs old (sync_seen later new)
      by [] outer alone j = absurd alone.nested
      by (f ∷ fs) outer alone j =
          let sync : fs ≡ [] → sync_frame (joined first f g) ≡ joined first (sync_frame f) g = λ none.
          let o = outer f (ap (λ (l : List CountedFrame). f ∷ l) none) in
          sym (joined_sync first f g alone.neat.0 o.2 o.0 o.1) in
          record {
            frames = ap (on_top sync_frame) j.frames ∙ top_changes sync_frame e old.work first f fs g gs (λ c. refl) sync;
            open_sites = λ y. j.open_sites y ∙ same_top (λ (x : CountedFrame). x.site) f (sync_frame f) fs old.open_sites y refl;
            open_funcs = λ y. j.open_funcs y ∙ same_top (λ (x : CountedFrame). x.func) f (sync_frame f) fs old.open_funcs y refl;
            work = j.work;
            table = j.table;
          }

  pub follows_sync_inner : (at later : ℕ) (f h : CountedFrame) (fs : List CountedFrame) → a.frames ≡ f ∷ h ∷ fs → IsJoined first (sync_seen at a).frames (sync_seen at a).work calls g gs old (sync_seen later new)
  follows_sync_inner at later f h fs is = follows_sync at later (λ r one. absurd (let z : f ∷ h ∷ fs ≡ r ∷ [] = sym is ∙ one in cc))

  pub follows_sync_outer : (at later : ℕ) → g.child ≡ None → g.burdened_child ≡ None → IsNeat g → IsJoined first (sync_seen at a).frames (sync_seen at a).work calls g gs old (sync_seen later new)
  follows_sync_outer at later none burdened_none neat = follows_sync at later (λ r one. (none, burdened_none, neat))

  -- a call or a spawn
  marked_site : (y : ℕ) → new.open_sites y ≡ (a.open_sites y || old.open_sites y)
  marked_site y = j.open_sites y ∙ with_frames_or (λ (f : CountedFrame). f.site) a.frames old.open_sites y ∙ ap (λ b. b || old.open_sites y) (sym (alone.sites y))

  marked_func : (y : ℕ) → new.open_funcs y ≡ (a.open_funcs y || old.open_funcs y)
  marked_func y = j.open_funcs y ∙ with_frames_or (λ (f : CountedFrame). f.func) a.frames old.open_funcs y ∙ ap (λ b. b || old.open_funcs y) (sym (alone.funcs y))

  opens_placed : (kind : FrameKind) (site func : ℕ) (f : CountedFrame) (caller : ℕ) (top : Bool) → top ≡ (f.top_func && is_top_caller e caller)
      → opened_frame kind (first + k) site func new.work (not (new.open_sites site)) top (not (new.open_funcs func))
      ≡ placed e old.work first caller (opened_frame kind k site func a.work (not (a.open_sites site)) f.top_func (not (a.open_funcs func)))
  opens_placed kind site func f caller top is =
      let s : not (new.open_sites site) ≡ (not (a.open_sites site) && not (old.open_sites site)) = ap not (marked_site site) ∙ not_or (a.open_sites site) (old.open_sites site) in
      let u : not (new.open_funcs func) ≡ (not (a.open_funcs func) && not (old.open_funcs func)) = ap not (marked_func func) ∙ not_or (a.open_funcs func) (old.open_funcs func) in
      let w = j.work in
      λ i. opened_frame kind (first + k) site func (w i) (s i) (is i) (u i)

  pub follows_open : (kind : FrameKind) (site func : ℕ) → IsJoined first (open_seen kind k site func a).frames (open_seen kind k site func a).work calls g gs old (open_seen kind (first + k) site func new)
  follows_open kind site func = by a.frames alone j
    where
      by : (frames : List CountedFrame) → Alone k (record a { frames = frames }) → IsJoined first frames a.work calls g gs old new
          → IsJoined first (open_frames kind k site func a frames) a.work calls g gs old (open_seen kind (first + k) site func new)
      by [] alone j = absurd alone.nested
      by (f ∷ []) alone j = record {
        frames = ap (open_frames kind (first + k) site func new) j.frames
            ∙ ap (λ (x : CountedFrame). x ∷ joined first f g ∷ gs) (opens_placed kind site func f outer_caller g.top_func (sym (ap (λ b. b && g.top_func) alone.nested.3)));
        open_sites = λ y. ap (λ b. nat_eq site y || b) (j.open_sites y);
        open_funcs = λ y. ap (λ b. nat_eq func y || b) (j.open_funcs y);
        work = j.work;
        table = j.table;
      }
      by (f ∷ h ∷ fs) alone j =
          let low : f.func < 65536 = alone.nested.0.1 in
          let other : nat_eq f.func outer_caller ≡ false = ne_eqb f.func outer_caller (λ z. omega arith) in
          let top : (f.top_func && not (old.open_funcs f.func)) ≡ (f.top_func && is_top_caller e f.func) = ap (λ b. f.top_func && cond b g.top_func (not (old.open_funcs f.func))) (sym other) in
          record {
            frames = ap (open_frames kind (first + k) site func new) j.frames
                ∙ ap (λ (x : CountedFrame). x ∷ placed_frames e old.work first (f ∷ h ∷ fs) g gs) (opens_placed kind site func f f.func (f.top_func && not (old.open_funcs f.func)) top);
            open_sites = λ y. ap (λ b. nat_eq site y || b) (j.open_sites y);
            open_funcs = λ y. ap (λ b. nat_eq func y || b) (j.open_funcs y);
            work = j.work;
            table = j.table;
          }

  -- a return, of a frame that was opened in the stretch
  module _ (burdens : Burdens) (neat : IsNeat g) (f h : CountedFrame) (fs : List CountedFrame) (is : a.frames ≡ f ∷ h ∷ fs) where
    abbrev above : CountedFrame
    above = placed e old.work first (caller_in (h ∷ fs)) f

    -- from the run's frames, of which the upper two are these
    popped_from : (at later : ℕ) (x : CountedFrame) (xs : List CountedFrame) (new2 : Seen) (then : List CallRow) → AreAdded f.site (caller_in (h ∷ fs)) (closed_of f a.work) calls then → IsReturned burdens later above x xs new new2
        → returned_frame burdens above x ∷ xs ≡ placed_frames e old.work first (returned_frame burdens f h ∷ fs) g gs
        → IsJoined first (popped_seen burdens at f h fs a).frames (popped_seen burdens at f h fs a).work then g gs old new2
    popped_from at later x xs new2 then more r frames =
        let al = alone_as k a (f ∷ h ∷ fs) is alone in
        let jo = joined_as first a.frames (f ∷ h ∷ fs) a.work calls g gs old new is j in
        let site_top : above.top_site ≡ not (with_frames (λ (q : CountedFrame). q.site) (h ∷ fs) old.open_sites f.site) =
        ap (λ b. b && not (old.open_sites f.site)) al.nested.0.3 ∙ sym (not_or (sites_in (h ∷ fs) f.site) (old.open_sites f.site))
        ∙ ap not (sym (with_frames_or (λ (q : CountedFrame). q.site) (h ∷ fs) old.open_sites f.site)) in
        let func_top : above.top_func ≡ not (with_frames (λ (q : CountedFrame). q.func) (h ∷ fs) old.open_funcs f.func) =
        ap (λ b. b && not (old.open_funcs f.func)) al.nested.0.4 ∙ sym (not_or (funcs_in (h ∷ fs) f.func) (old.open_funcs f.func))
        ∙ ap not (sym (with_frames_or (λ (q : CountedFrame). q.func) (h ∷ fs) old.open_funcs f.func)) in
        let closes : closed_of above new.work ≡ enclosed e f.site (caller_in (h ∷ fs)) (closed_of f a.work) = ap (closed_of above) j.work ∙ placed_closed e old.work first (caller_in (h ∷ fs)) a.work f in
        let added : IsAdded new.table new2.table f.site (frame_row (enclosed e f.site (caller_in (h ∷ fs)) (closed_of f a.work))) = subst (λ (c : ClosedFrame). IsAdded new.table new2.table f.site (frame_row c)) closes r.table in
        record {
          frames = r.frames ∙ frames;
          open_sites = λ y. ap (λ (m : ℕ → Bool). m y) r.open_sites
              ∙ marked_less above.top_site f.site new.open_sites (with_frames (λ (q : CountedFrame). q.site) (h ∷ fs) old.open_sites) site_top jo.open_sites y
              ∙ same_top (λ (q : CountedFrame). q.site) h (returned_frame burdens f h) fs old.open_sites y refl;
          open_funcs = λ y. ap (λ (m : ℕ → Bool). m y) r.open_funcs
              ∙ marked_less above.top_func f.func new.open_funcs (with_frames (λ (q : CountedFrame). q.func) (h ∷ fs) old.open_funcs) func_top jo.open_funcs y
              ∙ same_top (λ (q : CountedFrame). q.func) h (returned_frame burdens f h) fs old.open_funcs y refl;
          work = r.work ∙ j.work;
          table = λ key. added_row new.table new2.table f.site (frame_row (enclosed e f.site (caller_in (h ∷ fs)) (closed_of f a.work))) added key
              ∙ ap (λ q. plus q (call_row e f.site (caller_in (h ∷ fs)) (closed_of f a.work) key)) (j.table key)
              ∙ plus-assoc (key_row old.table key) (calls_row e calls key) (call_row e f.site (caller_in (h ∷ fs)) (closed_of f a.work) key)
              ∙ ap (λ q. plus (key_row old.table key) q) (sym (more.rows e key));
        }

    -- the run's upper two frames
    pub follows_two : (x : CountedFrame) × (xs : List CountedFrame) × (new.frames ≡ above ∷ x ∷ xs)
    follows_two =
        let jo = joined_as first a.frames (f ∷ h ∷ fs) a.work calls g gs old new is j in
        let al = alone_as k a (f ∷ h ∷ fs) is alone in
        let u = next_two burdens e old.work first f h fs g gs al.neat.1.0 neat in
        (u.frame, u.below, jo.frames ∙ ap (λ (l : List CountedFrame). above ∷ l) u.is)

    -- so that its innermost one can return
    pub run_goes_on : (later : ℕ) → (new2 : Seen) × Returns burdens later new new.frames true new2
    run_goes_on later =
        let two = follows_two in
        (returned_seen burdens later above two.0 two.1 new, run_returns burdens later above two.0 two.1 new two.2)

    pub follows_pop : (at later : ℕ) (new2 : Seen) (then : List CallRow) → AreAdded f.site (caller_in (h ∷ fs)) (closed_of f a.work) calls then → Returns burdens later new new.frames true new2
        → IsJoined first (popped_seen burdens at f h fs a).frames (popped_seen burdens at f h fs a).work then g gs old new2
    follows_pop at later new2 then more r =
        let al = alone_as k a (f ∷ h ∷ fs) is alone in
        let jo = joined_as first a.frames (f ∷ h ∷ fs) a.work calls g gs old new is j in
        let u = next_two burdens e old.work first f h fs g gs al.neat.1.0 neat in
        let frames : new.frames ≡ above ∷ u.frame ∷ u.below = jo.frames ∙ ap (λ (l : List CountedFrame). above ∷ l) u.is in
        let back : (true ≡ true) × IsReturned burdens later above u.frame u.below new new2 = subst (λ l. Returns burdens later new l true new2) frames r in
        popped_from at later u.frame u.below new2 then more back.1 u.after
