-- How a stretch takes on what has come so far.
use Rattle.std.proofs.Common.{◌≡◌, ℕ, ◌+◌, ◌-◌, ◌*◌, ◌≤◌, ◌<◌, ◌^◌, max, Bool, true, false, Option, List, [], ◌∷◌, ◌++◌, length, reverse, drop, refl, sym, ap, ap₂, subst, ◌∙◌, arith}
use Rattle.std.proofs.lemmas.List.{reverse-append}
use Rattle.std.specs.Global.{Box}
use Rattle.spp_event.specs.Recordings.{Recording}
use Rattle.spp_maxplus.specs.declared.state.Burdens.{Burdens}
use Rattle.spp_maxplus.specs.Weights.{close}
use Rattle.spp_dag.specs.declared.row.Row.{Row}
use Rattle.spp_dag.specs.Shares.{plus, zero_row}
use Rattle.spp_site.specs.Rows.{Fits}
use Rattle.spp_site.specs.Profiles.{key_row}
use Rattle.spp_site.proofs.Rows.{zero-plus, plus-zero, plus-assoc, plus-swap, plus-over, first_fits}
use Rattle.spp_ways.specs.declared.log.Merged.{Merged}
use Rattle.spp_ways.specs.declared.log.LogRow.{LogRow}
use Rattle.spp_ways.specs.declared.open_ways.OnPaths.{OnPaths}
use Rattle.spp_ways.specs.declared.frame_ways.FrameWays.{FrameWays}
use Rattle.spp_ways.specs.declared.open_ways.OpenWays.{OpenWays}
use Rattle.spp_ways.specs.Enclosures.{Enclosure}
use Rattle.spp_ways.specs.Logs.{merged_on}
use Rattle.spp_ways.specs.Ways.{Ways, rows_at, strand_ways}
use Rattle.spp_ways.specs.OpenWays.{AllWays, AreWays, IsLaid, FitStrand, FitTopStrand, strand_list, on_path, path_of}
use Rattle.spp_ways.specs.Stretches as stretches
use Rattle.spp_ways.specs.Stretches.{AreEnclosed, IsBase, FitOwn, FitLast, outer_row, strand_outer_frame, joined_way, joined_list, stretch_frames}
use Rattle.spp_ways.proofs.Bases.{base_of}
use Rattle.spp_ways.proofs.Steps.{strand_fits}
use Rattle.spp_pass.specs.CallFrames.{stretch_calls}
use Rattle.spp_pass.specs.declared.counted_frame.CountedFrame.{CountedFrame}
use Rattle.spp_pass.specs.declared.calls.CallRow.{CallRow}
use Rattle.spp_pass.specs.declared.counting.Counting.{Counting}
use Rattle.spp_pass.specs.Passes.{Seen, no_notes, seen_with, strand_frame, strand_seen, OnTop, CanAdd, FitsStrand}
use Rattle.spp_pass.specs.CallRows.{calls_row}
use Rattle.spp_pass.specs.Stretches.{stretch_frame, stretch_seen, enclosure, child_wins, FitsJoin, CanJoin, IsJoined}
use Rattle.spp_site.proofs.Keys.{row_fits}
use Rattle.spp_pass.proofs.Joinable.{IsLastOf, last_of_reverse, can_join}
use Rattle.spp_pass.proofs.Alone.{alone_start}
use Rattle.spp_pass.proofs.Stretching.{joined_as, follows_start, follows_strand}
use Rattle.spp_serial.proofs.Low as sums
use Rattle.spp_serial.proofs.Low.{AreLow, top_fits}
use Rattle.spp_serial.proofs.Reading.{Led}
use Rattle.spp_part.specs.declared.stretch.Stretch.{Stretch}
use Rattle.spp_part.specs.States.{Both, IsAt}
use Rattle.spp_part.specs.Parts.{outer_of, StretchOf, AreJoined, IsJoinedOnto, Rows, Shows, Stands, GoesOn, stretch_of, strands_alone}
use Rattle.spp_part.proofs.Leading.{led_at}
use Rattle.spp_part.proofs.Standing.{joined_on, filled, noted, state_led, now_led, few}

-- ---- the outer frame

outer_last : (r : CountedFrame) (fs : List CountedFrame) → IsLastOf r fs → outer_of fs ≡ r
outer_last r [] h = absurd h
outer_last r (f ∷ []) h = h
outer_last r (f ∷ g ∷ fs) h = outer_last r (g ∷ fs) h

-- the last of these is r
abbrev EndsWith : FrameWays → List FrameWays → Type 0
EndsWith r [] = ⊥
EndsWith r (f ∷ []) = f ≡ r
EndsWith r (f ∷ g ∷ fs) = EndsWith r (g ∷ fs)

ends_append : (r : FrameWays) (fs : List FrameWays) → EndsWith r (fs ++ (r ∷ []))
ends_append r [] = refl
ends_append r (f ∷ []) = refl
ends_append r (f ∷ g ∷ fs) = ends_append r (g ∷ fs)

ends_reverse : (r : FrameWays) (fs : List FrameWays) → EndsWith r (reverse (r ∷ fs))
ends_reverse r fs = subst (EndsWith r) (sym (reverse-append (r ∷ []) fs)) (ends_append r (reverse fs))

-- ---- sums

-- the own strands of both on the ways that are kept
abbrev OwnLow : ℕ → Bool → Ways → Ways → Type 0
OwnLow t wins u w = (w.along.own + u.along.own ≤ t) × (wins ≡ true → w.along.own + u.through.own ≤ t)

own_more : (t v : ℕ) (wins : Bool) (u w : Ways) → t ≤ v → OwnLow t wins u w → OwnLow v wins u w
own_more t v wins u w l h = ((let a = h.0 in omega arith), λ e. let a = h.1 e in omega arith)

way_low : (t o : ℕ) (wins : Bool) (u w : Ways) → o ≤ t → (joined_way wins u w).along.own ≤ o → (joined_way wins u w).through.own ≤ o → OwnLow t wins u w
way_low t o false u w l a b = ((omega arith), λ e. cc)
way_low t o true u w l a b = ((omega arith), λ e. omega arith)

-- those of the outer frame of a stretch
own_low : (i t : ℕ) (on wins : Bool) (log : List LogRow) (r : FrameWays) (fs : List FrameWays) (us : List Ways) (w : Ways) (ws : List Ways) → EndsWith r fs → AllWays on log fs us
    → AreLow i t (joined_list wins us w ws) → (u : Ways) × OwnLow t wins u w × ((path_of on r).along.own ≡ u.along.own) × ((path_of on r).through.own ≡ u.through.own)
own_low i t on wins log r [] us w ws e a h = absurd e
own_low i t on wins log r (f ∷ []) [] w ws e a h = absurd a
own_low i t on wins log r (f ∷ []) (u ∷ v ∷ us) w ws e a h = absurd a.1
own_low i t on wins log r (f ∷ []) (u ∷ []) w ws e a h =
    (u, way_low t h.2 wins u w (let z = h.6 in omega arith) h.7.0.own h.7.1.own, ap (λ (g : FrameWays). (path_of on g).along.own) (sym e) ∙ a.0.0.0, ap (λ (g : FrameWays). (path_of on g).through.own) (sym e) ∙ a.0.1.0)
own_low i t on wins log r (f ∷ g ∷ fs) [] w ws e a h = absurd a
own_low i t on wins log r (f ∷ g ∷ fs) (u ∷ []) w ws e a h = absurd a.1
own_low i t on wins log r (f ∷ g ∷ fs) (u ∷ v ∷ us) w ws e a h =
    let k = own_low h.3 h.4 on wins log r (g ∷ fs) (v ∷ us) w ws e a.1 h.8 in
    (k.0, own_more h.4 t wins k.0 w (let z = h.6 in omega arith) k.1, k.2, k.3)

last_fits : (i t : ℕ) → i ≤ 268435457 → t ≤ 4951760157141521099596496896 → (wins : Bool) (us : List Ways) (w : Ways) (ws : List Ways) → AreLow i t (joined_list wins us w ws) → FitLast us w ws wins
last_fits i t a b wins [] w ws h = tt
last_fits i t a b wins (u ∷ []) w ws h = top_fits i t a b (joined_way wins u w ∷ ws) h
last_fits i t a b wins (u ∷ v ∷ us) w ws h = tt

fit_own : (t : ℕ) → t < 2 ^ 128 → (on wins : Bool) (r f : FrameWays) (u w : Ways) → OwnLow t wins u w → (path_of on r).along.own ≡ u.along.own → (path_of on r).through.own ≡ u.through.own
    → (path_of on f).along.own ≡ w.along.own → FitOwn wins (path_of on r) (path_of on f)
fit_own t small on wins r f u w h a b e = record { along = (let z = h.0 in omega arith); through = λ q. let z = h.1 q in omega arith }

-- choices don't matter

noted_joined : (first : ℕ) (fs : List CountedFrame) (more : ℕ) (calls : List CallRow) (g : CountedFrame) (gs : List CountedFrame) (c : Counting) (s new : Seen)
    → IsJoined first fs more calls g gs (filled (seen_with c no_notes) s) new → IsJoined first fs more calls g gs (noted c s) new
noted_joined first fs more calls g gs c s new h = record { frames = h.frames; open_sites = h.open_sites; open_funcs = h.open_funcs; work = h.work; table = h.table }

on_top_map : (P Q : CountedFrame → Type 0) → ((g : CountedFrame) → P g → Q g) → (fs : List CountedFrame) → OnTop P fs → OnTop Q fs
on_top_map P Q f [] h = h
on_top_map P Q f (g ∷ gs) h = f g h

pub plus_turn : (a b : Row) → plus a b ≡ plus b a
plus_turn a b = ap (λ (r : Row). plus a r) (sym (plus-zero b)) ∙ plus-over a b zero_row ∙ ap (λ (r : Row). plus b r) (plus-zero a)

last_two_fit : (a b c : Row) → Fits (plus (plus a b) c) → Fits (plus b c)
last_two_fit a b c f = row_fits (plus b c) a (plus (plus a b) c) (plus_turn (plus b c) a ∙ sym (plus-assoc a b c)) f

pub swapped : (a b c d : Row) → a ≡ plus b d → plus a c ≡ plus (plus b c) d
swapped a b c d e = ap (λ (r : Row). plus r c) e ∙ plus-swap b d c

-- nor does it matter that the table lacks rows
plain_can : {rest : Rows} (first : ℕ) (fs : List CountedFrame) (outer : CountedFrame) (more : ℕ) (calls : List CallRow) (c : Counting) (s : Seen) → Shows rest (seen_with c no_notes) s → CanJoin first fs outer more calls (noted c s) → CanJoin first fs outer more calls (seen_with c no_notes)
plain_can {rest = rest} first fs outer more calls c s e h =
    let now : Seen = seen_with c no_notes in
    let Row_fits : Seen → CountedFrame → Type 0 = λ t g. FitsJoin outer g × ((key : Option ℕ) → Fits (plus (key_row t.table key) (calls_row (enclosure g now) calls key))) in
    record {
      top = on_top_map (Row_fits (filled now s)) (Row_fits now)
          (λ g q. (
            q.0,
            λ key. first_fits (key_row now.table key) (rest key) (calls_row (enclosure g now) calls key)
                (subst (λ (r : Row). Fits (plus r (calls_row (enclosure g now) calls key))) (sym (e.table key)) (q.1 key)),
          ))
          now.frames h.top;
      work = h.work;
      sites = h.sites;
      places = h.places;
    }

-- ---- the step

module _ {rest : Rows} (trace : Recording) (burdens : Burdens) (first i j : ℕ) (settled : Bool) (c : Counting) (o : OpenWays) (whole : StretchOf) (st : Stands rest trace burdens i settled c o) (go : GoesOn trace burdens first i j settled whole) where
  abbrev now : Seen
  now = seen_with c no_notes

  -- with all rows in the table
  abbrev full : Seen
  full = filled now st.state

  abbrev new : Seen
  new = (go.0.on st.state st.ways st.at st.none).0

  abbrev then : Both
  then = (go.0.on st.state st.ways st.at st.none).1

  pub at : IsAt trace burdens j new then
  at = (go.0.on st.state st.ways st.at st.none).2

  pub few_j : j ≤ 268435456
  few_j = let a = go.2 in let b = st.limits.events in omega arith

  pub new_led : Led trace burdens j new then
  new_led = led_at trace burdens st.light st.limits.events j go.2 new then at

  pub work_small : new.work ≤ 4951760157141521099596496896
  work_small = let a : new.work ≤ 18446744073709551615 * j = new_led.passed.reached.small in let b = few_j in omega arith

  -- the innermost frame before it, and what the stretch makes of it
  pub record Onto : Type 0 where
    pub top : CountedFrame
    pub below : List CountedFrame
    pub is : now.frames ≡ top ∷ below
    pub joined : IsJoined first whole.frames whole.work whole.calls top below full new
    pub ways : (on : Bool) → AreJoined on whole top st.state (st.ways on) (then on)

  pub onto : Onto
  onto = by st.state.frames st.counted.frames (go.0.on st.state st.ways st.at st.none).3
    where
      by : (fs : List CountedFrame) → now.frames ≡ fs → IsJoinedOnto first whole st.state fs st.ways new then → Onto
      by [] e h = absurd h
      by (g ∷ gs) e h = record {
        top = g;
        below = gs;
        is = e;
        joined = joined_on first whole.frames whole.work whole.calls g gs now st.state new st.counted h.0;
        ways = h.1;
      }

  abbrev g : CountedFrame
  g = onto.top

  -- it can be joined
  module _ (outer : CountedFrame) (last : IsLastOf outer whole.frames) where
    full_can : CanJoin first whole.frames outer whole.work whole.calls (noted c st.state)
    full_can =
        let a = go.0.alone in
        let k : first + (j - first) ≤ 268435456 = (let p = few_j in let q = go.1 in let r = go.0.forward in omega arith) in
        let joined = joined_as first whole.frames a.0.frames whole.work whole.calls g onto.below full new (sym a.2) onto.joined in
        let moved : IsJoined first a.0.frames a.0.work whole.calls g onto.below full new = subst (λ w. IsJoined first a.0.frames w whole.calls g onto.below full new) (sym a.3) joined in
        let all = can_join trace burdens first (j - first) i j a.0 (noted c st.state) new whole.calls g onto.below outer (few trace burdens i settled c o st) few_j k go.0.calls onto.is (subst (IsLastOf outer) (sym a.2) last)
        (now_led trace burdens i settled c o st).passed new_led.passed a.1 (noted_joined first a.0.frames a.0.work whole.calls g onto.below c st.state new moved) in
        subst (λ (fs : List CountedFrame). CanJoin first fs outer whole.work whole.calls (noted c st.state)) a.2 (subst (λ w. CanJoin first a.0.frames outer w whole.calls (noted c st.state)) a.3 all)

    pub can_join_it : CanJoin first whole.frames outer whole.work whole.calls now
    can_join_it = plain_can first whole.frames outer whole.work whole.calls c st.state st.counted full_can

    -- the rest can have its rows
    pub rest_fits : OnTop (λ g. (key : Option ℕ) → Fits (plus (rest key) (calls_row (enclosure g now) whole.calls key))) now.frames
    rest_fits =
        on_top_map _ (λ g. (key : Option ℕ) → Fits (plus (rest key) (calls_row (enclosure g now) whole.calls key)))
        (λ g q. λ key. last_two_fit (key_row now.table key) (rest key) (calls_row (enclosure g now) whole.calls key)
        (subst (λ (r : Row). Fits (plus r (calls_row (enclosure g now) whole.calls key))) (sym (st.counted.table key)) (q.1 key)))
        now.frames full_can.top

    pub fits_it : OnTop (FitsJoin outer) now.frames
    fits_it = subst (OnTop (FitsJoin outer)) (sym onto.is) (subst (OnTop (λ (f : CountedFrame). FitsJoin outer f × _)) onto.is can_join_it.top).0

  -- and its ways
  module _ (wins : OnPaths) (e : Enclosure) (wins_is : wins ≡ child_wins (outer_of whole.frames) g) (e_is : e ≡ enclosure g st.state) where
    wins_on : (on : Bool) → on_path on (child_wins (outer_of whole.frames) g) ≡ on_path on wins
    wins_on on = ap (on_path on) (sym wins_is)

    abbrev pub Gone : Bool → Ways → List Ways → Type 0
    Gone on w ws = (base : Box Merged) → IsBase on base w.along → (us : List Ways) × AreEnclosed on e base whole.rows whole.ways us × (then on ≡ joined_list (on_path on wins) us w ws)

    pub gone : (on : Bool) (w : Ways) (ws : List Ways) → AreJoined on whole g st.state (w ∷ ws) (then on) → Gone on w ws
    gone on w ws h base is =
        let a = h base is in
        (a.0, subst (λ (f : Enclosure). AreEnclosed on f base whole.rows whole.ways a.0) (sym e_is) a.1, a.2 ∙ ap (λ (b : Bool). joined_list b a.0 w ws) (wins_on on))

    -- the ways behind it
    abbrev pub Goes : OpenWays → Bool → Type 0
    Goes p on = (base : Box Merged) (w : Ways) (ws us : List Ways) → AreWays on o (w ∷ ws) → IsBase on base w.along → AreEnclosed on e base whole.rows whole.ways us
        → AreWays on p (joined_list (on_path on wins) us w ws)

    went : (p : OpenWays) (on : Bool) (ws : List Ways) → st.ways on ≡ ws → AreJoined on whole g st.state ws (then on) → Goes p on → AreWays on p (then on)
    went p on [] q h goes = absurd h
    went p on (w ∷ ws) q h goes =
        let base = base_of o w.along in
        let a = gone on w ws h base.0 (base.1 on) in
        subst (AreWays on p) (sym a.2) (goes base.0 w ws a.0 (subst (AreWays on o) q (st.logged on)) (base.1 on) a.1)

    -- what has come so far then
    pub stands_with : (then_rest : Rows) (d : Counting) (p : OpenWays) → Shows then_rest (seen_with d no_notes) new → IsLaid p → ((on : Bool) → Goes p on)
        → length p.log.rows.items < length o.log.rows.items + length whole.rows → Stands then_rest trace burdens j false d p
    stands_with then_rest d p is laid goes rows = record {
      state = new;
      ways = then;
      at = at;
      none = λ q. cc;
      counted = is;
      logged = λ on. went p on (st.ways on) refl (onto.ways on) (goes on);
      laid = laid;
      rows = (let a = st.rows in let b = go.0.short in let f = go.0.forward in omega arith);
      within = go.2;
      limits = st.limits;
      good = st.good;
      light = st.light;
    }

    -- where the rows of its frames are in the table
    pub stands : (d : Counting) (p : OpenWays) → IsJoined first whole.frames whole.work whole.calls g onto.below now (seen_with d no_notes) → IsLaid p → ((on : Bool) → Goes p on)
        → length p.log.rows.items < length o.log.rows.items + length whole.rows → Stands rest trace burdens j false d p
    stands d p is = stands_with rest d p (record {
      frames = is.frames ∙ sym onto.joined.frames;
      open_sites = λ y. is.open_sites y ∙ sym (onto.joined.open_sites y);
      open_funcs = λ y. is.open_funcs y ∙ sym (onto.joined.open_funcs y);
      work = is.work ∙ sym onto.joined.work;
      table = λ key.
          let added = calls_row (enclosure g now) whole.calls key in
          ap (λ (r : Row). plus r (rest key)) (is.table key) ∙ plus-swap (key_row now.table key) added (rest key) ∙ ap (λ (r : Row). plus r added) (st.counted.table key) ∙ sym (onto.joined.table key);
    })

    -- where they are with the rest
    pub stands_owing : (then_rest : Rows) → ((key : Option ℕ) → then_rest key ≡ plus (rest key) (calls_row (enclosure g now) whole.calls key))
        → (d : Counting) (p : OpenWays) → IsJoined first whole.frames whole.work [] g onto.below now (seen_with d no_notes) → IsLaid p → ((on : Bool) → Goes p on)
        → length p.log.rows.items < length o.log.rows.items + length whole.rows → Stands then_rest trace burdens j false d p
    stands_owing then_rest more d p is = stands_with then_rest d p (record {
      frames = is.frames ∙ sym onto.joined.frames;
      open_sites = λ y. is.open_sites y ∙ sym (onto.joined.open_sites y);
      open_funcs = λ y. is.open_funcs y ∙ sym (onto.joined.open_funcs y);
      work = is.work ∙ sym onto.joined.work;
      table = λ key.
          let added = calls_row (enclosure g now) whole.calls key in
          ap₂ plus (is.table key ∙ plus-zero (key_row now.table key)) (more key) ∙ sym (plus-assoc (key_row now.table key) (rest key) added)
          ∙ ap (λ (r : Row). plus r added) (st.counted.table key) ∙ sym (onto.joined.table key);
    })

-- ---- a stretch as it was read

module _ {rest : Rows} (trace : Recording) (burdens : Burdens) (first i j : ℕ) (settled : Bool) (c : Counting) (o : OpenWays) (x : Stretch) (st : Stands rest trace burdens i settled c o)
    (go : GoesOn trace burdens first i j settled (stretch_of x)) where
  abbrev all : StretchOf
  all = stretch_of x

  abbrev from : Onto trace burdens first i j settled c o all st go
  from = onto trace burdens first i j settled c o all st go

  last : IsLastOf x.counted.outer all.frames
  last = last_of_reverse x.counted.outer (drop 1 x.counted.frames.items)

  pub outer_is : outer_of all.frames ≡ x.counted.outer
  outer_is = outer_last x.counted.outer all.frames last

  -- it can be joined
  pub can : CanJoin first all.frames x.counted.outer x.counted.work (stretch_calls x.calls) (seen_with c no_notes)
  can = can_join_it trace burdens first i j settled c o all st go x.counted.outer last

  -- without the rows of its frames
  pub can_without : CanJoin first all.frames x.counted.outer x.counted.work [] (seen_with c no_notes)
  can_without =
      let now : Seen = seen_with c no_notes in
      record {
        top = on_top_map _ (λ g. FitsJoin x.counted.outer g × ((key : Option ℕ) → Fits (plus (key_row now.table key) zero_row)))
            (λ g q. (
              q.0,
              λ key. subst Fits (sym (plus-zero (key_row now.table key)))
                  (let z : Fits (key_row now.table key) = row_fits (key_row now.table key) (calls_row (enclosure g now) (stretch_calls x.calls) key) _ refl (q.1 key) in z),
            ))
            now.frames can.top;
        work = can.work;
        sites = tt;
        places = can.places;
      }

  -- which are kept aside
  pub aside_fits : (a lent : Rows) → ((key : Option ℕ) → rest key ≡ plus (a key) (lent key))
      → OnTop (λ g. (key : Option ℕ) → Fits (plus (a key) (calls_row (enclosure g (seen_with c no_notes)) (stretch_calls x.calls) key))) (seen_with c no_notes).frames
  aside_fits a lent split =
      let now : Seen = seen_with c no_notes in
      on_top_map _ (λ g. (key : Option ℕ) → Fits (plus (a key) (calls_row (enclosure g now) (stretch_calls x.calls) key)))
      (λ g q. λ key. first_fits (a key) (lent key) (calls_row (enclosure g now) (stretch_calls x.calls) key)
      (subst (λ (r : Row). Fits (plus r (calls_row (enclosure g now) (stretch_calls x.calls) key))) (split key) (q key)))
      now.frames (rest_fits trace burdens first i j settled c o all st go x.counted.outer last)

  pub fits : OnTop (FitsJoin x.counted.outer) (seen_with c no_notes).frames
  fits = fits_it trace burdens first i j settled c o all st go x.counted.outer last

  -- and its ways
  module _ (wins : OnPaths) (e : Enclosure) (wins_is : wins ≡ child_wins x.counted.outer from.top) (e_is : e ≡ enclosure from.top st.state) where
    pub wins_of_outer : wins ≡ child_wins (outer_of all.frames) from.top
    wins_of_outer = wins_is ∙ ap (λ (r : CountedFrame). child_wins r from.top) (sym outer_is)

    can_on : (on : Bool) (ws : List Ways) → st.ways on ≡ ws → AreJoined on all from.top st.state ws (then trace burdens first i j settled c o all st go on) → stretches.CanJoin on wins e o x.logged
    can_on on [] q h = absurd h
    can_on on (w ∷ ws) q h =
        let led = new_led trace burdens first i j settled c o all st go in
        let work : ℕ = (new trace burdens first i j settled c o all st go).work in
        let small : work ≤ 4951760157141521099596496896 = work_small trace burdens first i j settled c o all st go in
        let base = base_of o w.along in
        let a = gone trace burdens first i j settled c o all st go wins e wins_of_outer e_is on w ws h base.0 (base.1 on) in
        let low : AreLow j work (joined_list (on_path on wins) a.0 w ws) = subst (AreLow j work) a.2 (led.low on) in
        let are : AreWays on o (w ∷ ws) = subst (AreWays on o) q (st.logged on) in
        let owns = own_low j work on (on_path on wins) _ x.logged.outer (reverse (stretch_frames x.logged)) a.0 w ws (ends_reverse x.logged.outer (drop 1 x.logged.frames.items)) a.1 low in
        record {
          base = base.0;
          way = w;
          below = ws;
          ways = a.0;
          are = are;
          is_base = base.1 on;
          enclosed = a.1;
          own = λ f fs is. let top = subst (λ (l : List FrameWays). AllWays on (reverse o.log.rows.items) l (w ∷ ws)) is are in
              fit_own work (omega arith) on (on_path on wins) x.logged.outer f owns.0 w owns.1 owns.2 owns.3 top.0.0.0;
          fits = last_fits j work (let z = few_j trace burdens first i j settled c o all st go in omega arith) small (on_path on wins) a.0 w ws low;
        }

    pub can_ways : (on : Bool) → stretches.CanJoin on wins e o x.logged
    can_ways on = can_on on (st.ways on) refl (from.ways on)

-- ---- strands alone

-- the weight of the outer frame
max_zero : (n : ℕ) → max (0 + n) 0 ≡ n
max_zero n = grind arith

-- a way that has these sums
same_sums : (on : Bool) (log : List LogRow) (fs : List FrameWays) (n : ℕ) (u w : Ways) (ws : List Ways) → n ≡ u.along.own → ((key : Option ℕ) → rows_at w.along.rows key ≡ rows_at u.along.rows key)
    → AllWays on log fs (strand_ways n w ∷ ws) → AllWays on log fs (joined_way false u w ∷ ws)
same_sums on log [] n u w ws own rows h = absurd h
same_sums on log (f ∷ fs) n u w ws own rows h = (((h.0.0.0 ∙ ap (λ k. w.along.own + k) own, λ key. h.0.0.1 key ∙ rows key), h.0.1), h.1)

-- the way of strands alone, where that is the way into the frame before
strand_way : (on : Bool) (e : Enclosure) (base : Box Merged) (n : ℕ) (u w : Ways) → IsBase on base w.along → AreEnclosed on e base (outer_row ∷ []) (strand_outer_frame n ∷ []) (u ∷ [])
    → (n ≡ u.along.own) × ((key : Option ℕ) → rows_at w.along.rows key ≡ rows_at u.along.rows key)
strand_way on e base n u w is h = by on is h
  where
    from_base : (on : Bool) → IsBase on base w.along → (key : Option ℕ) → plus zero_row (plus zero_row (merged_on on base.value key)) ≡ rows_at w.along.rows key
    from_base on is key = zero-plus _ ∙ zero-plus (merged_on on base.value key) ∙ is key

    by : (on : Bool) → IsBase on base w.along → AreEnclosed on e base (outer_row ∷ []) (strand_outer_frame n ∷ []) (u ∷ [])
        → (n ≡ u.along.own) × ((key : Option ℕ) → rows_at w.along.rows key ≡ rows_at u.along.rows key)
    by false is h = (h.0.0.0, λ key. sym (from_base false is key) ∙ h.0.0.1 key)
    by true is h = (h.0.0.0, λ key. sym (from_base true is key) ∙ h.0.0.1 key)

no_win : (on : Bool) (n : ℕ) (g : CountedFrame) → on_path on (child_wins (strand_frame n stretch_frame) g) ≡ false
no_win false n g = refl
no_win true n g = refl

module _ {rest : Rows} (trace : Recording) (burdens : Burdens) (first i j : ℕ) (settled : Bool) (c : Counting) (o : OpenWays) (n : ℕ) (st : Stands rest trace burdens i settled c o)
    (go : GoesOn trace burdens first i j settled (strands_alone n)) where
  abbrev run : Onto trace burdens first i j settled c o (strands_alone n) st go
  run = onto trace burdens first i j settled c o (strands_alone n) st go

  abbrev outer : CountedFrame
  outer = strand_frame n stretch_frame

  can_strand : CanJoin first (outer ∷ []) outer n [] (seen_with c no_notes)
  can_strand = can_join_it trace burdens first i j settled c o (strands_alone n) st go outer refl

  -- they can be counted
  pub can_add : CanAdd n (seen_with c no_notes)
  can_add =
      let fits : FitsJoin outer run.top = subst (OnTop (FitsJoin outer)) run.is (fits_it trace burdens first i j settled c o (strands_alone n) st go outer refl) in
      let top : FitsStrand n run.top = record {
        plain = subst (λ k. close run.top.plain + k < 2 ^ 128) (max_zero n) fits.plain;
        burdened = subst (λ k. close run.top.burdened + k < 2 ^ 128) (max_zero n) fits.burdened;
        local = (let z : run.top.local + (0 + n) < 2 ^ 128 = fits.local in omega arith);
      } in
      (subst (OnTop (FitsStrand n)) (sym run.is) top, can_strand.work)

  -- in the ways too
  pub fit_strand : (on : Bool) → FitTopStrand on n (reverse o.frames.items)
  fit_strand on = strand_fits on n o (st.ways on) (st.logged on) (by (st.ways on) (led.many on) (led.low on))
    where
      led : Led trace burdens i st.state st.ways
      led = state_led trace burdens i settled c o st

      some : 0 < length st.state.frames
      some = let z : length st.state.frames ≡ length (run.top ∷ run.below) = ap (λ (l : List CountedFrame). length l) (sym st.counted.frames ∙ run.is) in omega arith

      by : (ws : List Ways) → length ws ≡ length st.state.frames → AreLow i st.state.work ws → FitStrand n ws
      by [] e h = absurd (let z = some in omega arith)
      by (w ∷ ws) e h =
          let a : (seen_with c no_notes).work + n < 2 ^ 128 = can_strand.work in
          let b : st.state.work + n < 2 ^ 128 = subst (λ k. k + n < 2 ^ 128) st.counted.work a in
          sums.strand_fits i st.state.work n b w ws h

  -- what has come so far then
  pub strand_stands : (d : Counting) (p : OpenWays) → seen_with d no_notes ≡ strand_seen n (seen_with c no_notes) → IsLaid p → ((on : Bool) (ways : List Ways) → AreWays on o ways → AreWays on p (strand_list n ways))
      → length p.log.rows.items ≤ length o.log.rows.items → Stands rest trace burdens j false d p
  strand_stands d p counted laid ways rows =
      let zero : 0 + n ≡ n = omega arith in
      stands trace burdens first i j settled c o (strands_alone n) st go (child_wins outer run.top) (enclosure run.top st.state) refl refl d p
      (subst (λ (s : Seen). IsJoined first (outer ∷ []) n [] run.top run.below (seen_with c no_notes) s) (sym counted)
      (subst (λ w. IsJoined first (outer ∷ []) w [] run.top run.below (seen_with c no_notes) (strand_seen n (seen_with c no_notes))) zero
      (follows_strand first 0 stretch_seen (seen_with c no_notes) (seen_with c no_notes) [] run.top run.below alone_start (follows_start first run.top run.below (seen_with c no_notes) run.is) n)))
      laid goes (omega arith)
    where
      one : (on : Bool) (base : Box Merged) (w : Ways) (ws us : List Ways) → AreWays on o (w ∷ ws) → IsBase on base w.along
          → AreEnclosed on (enclosure run.top st.state) base (outer_row ∷ []) (strand_outer_frame n ∷ []) us → AreWays on p (joined_list false us w ws)
      one on base w ws [] are is h = absurd h
      one on base w ws (u ∷ v ∷ us) are is h = absurd h.1
      one on base w ws (u ∷ []) are is h =
          let same = strand_way on (enclosure run.top st.state) base n u w is h in
          same_sums on (reverse p.log.rows.items) (reverse p.frames.items) n u w ws same.0 same.1 (ways on (w ∷ ws) are)

      goes : (on : Bool) → Goes trace burdens first i j settled c o (strands_alone n) st go (child_wins outer run.top) (enclosure run.top st.state) refl refl p on
      goes on base w ws us are is h = subst (λ (b : Bool). AreWays on p (joined_list b us w ws)) (sym (no_win on n run.top)) (one on base w ws us are is h)
