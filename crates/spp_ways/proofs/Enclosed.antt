-- The log of a stretch as what encloses the stretch makes it, and what steps do to a stretch.
use Rattle.std.proofs.Common.{◌≡◌, ℕ, zero, suc, ◌+◌, ◌≤◌, ◌<◌, Bool, true, false, cond, nat_eq, List, [], ◌∷◌, ◌++◌, length, map, reverse, take, None, Some, refl, sym, ap, ap₂, subst, ◌∙◌, arith}
use Rattle.std.proofs.lemmas.Bool.{ne_eqb}
use Rattle.std.specs.Global.{Box}
use Rattle.std.proofs.lemmas.List.{map-append, take-map, length-map, length-append, length-reverse, length-take-le, reverse-append, reverse-reverse}
use Rattle.spp_dag.specs.declared.stack.FrameKind.{FrameKind}
use Rattle.spp_site.specs.declared.closed_frame.ClosedFrame.{ClosedFrame}
use Rattle.spp_ways.specs.declared.log.Merged.{Merged}
use Rattle.spp_ways.specs.declared.log.LogRow.{LogRow}
use Rattle.spp_ways.specs.declared.open_ways.OnPaths.{OnPaths}
use Rattle.spp_ways.specs.declared.frame_ways.FrameWays.{FrameWays}
use Rattle.spp_ways.specs.declared.open_ways.OpenWays.{OpenWays}
use Rattle.spp_ways.specs.Ways.{Ways}
use Rattle.spp_ways.specs.Logs.{IsLinked, AreLinked}
use Rattle.spp_ways.specs.OpenWays.{AllWays, on_path, plain_of, burdened_of, Laid, IsLaid, IsLeft, IsPut, StayIn, returned_list, waited_list, returned_row, come_frame, bare_row, chosen, waited_frame, entered}
use Rattle.spp_ways.specs.Enclosures.{Enclosure, enclosed}
use Rattle.spp_ways.specs.Stretches.{enclosed_row, outer_way, ArePlain, BeginsPlain, AllStarted, IsStretch}
use Rattle.spp_ways.proofs.Steps.{StrandDone, strand_frame, opened}
use Rattle.spp_ways.proofs.Returning.{wait_linked, wait_laid, wait_ways}
use Rattle.spp_ways.proofs.Returns.{return_linked, gone_laid, gone_all, kept_linked, kept_laid, kept_all}

pub reverse-map : {A B : Type 0} (f : A → B) (xs : List A) → reverse (map f xs) ≡ map f (reverse xs)
reverse-map f [] = refl
reverse-map f (x ∷ xs) =
    reverse-append (f x ∷ []) (map f xs) ∙ ap (λ l. l ++ (f x ∷ [])) (reverse-map f xs) ∙ sym (map-append f (reverse xs) (x ∷ [])) ∙ ap (map f) (sym (reverse-append (x ∷ []) xs))

-- the links stay
are_linked : (e : Enclosure) (base : Box Merged) (rs : List LogRow) → AreLinked rs → AreLinked (map (enclosed_row e base) rs)
are_linked e base [] h = tt
are_linked e base (r ∷ rs) h = (
  subst (λ n. IsLinked n (enclosed_row e base r)) (sym (length-map rs (enclosed_row e base)))
      (record { before = h.0.before; within = h.0.within; burdened_before = h.0.burdened_before; burdened_within = h.0.burdened_within; site = h.0.site }),
  are_linked e base rs h.1,
)

pub linked_enclosed : (e : Enclosure) (base : Box Merged) (items : List LogRow) → AreLinked (reverse items) → AreLinked (reverse (map (enclosed_row e base) items))
linked_enclosed e base items h = subst AreLinked (sym (reverse-map (enclosed_row e base) items)) (are_linked e base (reverse items) h)

pub laid_enclosed : (e : Enclosure) (base : Box Merged) (items : List LogRow) (fs : List FrameWays) → Laid (length items) fs → Laid (length (map (enclosed_row e base) items)) fs
laid_enclosed e base items fs h = subst (λ n. Laid n fs) (sym (length-map items (enclosed_row e base))) h

-- ---- a return

-- what a return leaves
module _ (kind : FrameKind) (takes wins : OnPaths) (site caller : ℕ) (closed : ClosedFrame) (v g : FrameWays) (below : List FrameWays) (to : ℕ) where
  left_linked : (b : Bool) (items rows : List LogRow) (frames : List FrameWays) → AreLinked (reverse items) → Laid (length items) (v ∷ g ∷ below) → g.start ≤ to
      → StayIn to kind wins.plain (plain_of g) → StayIn to kind wins.burdened (burdened_of g) → to ≤ length items → site < 65536
      → IsLeft b kind takes wins site caller closed v g below to items rows frames → AreLinked (reverse rows)
  left_linked false items rows frames linked laid start sp sb short few h =
      subst (λ (l : List LogRow). AreLinked (reverse l)) (sym h.0) (return_linked items v g below linked laid kind takes wins site caller closed to start sp sb short)
  left_linked true items rows frames linked laid start sp sb short few h =
      subst (λ (l : List LogRow). AreLinked (reverse l)) (sym h.4) (kept_linked items v g below linked laid kind takes wins site caller closed to start sp sb short h.2 h.3 few h.0 h.1)

  -- the number of rows behind which the last one is put
  last_row : (items : List LogRow) → to ≤ length items → suc to ≡ suc (length (reverse (take to items)))
  last_row items short = let a = length-take-le to items short in let b = length-reverse (take to items) in omega arith

  left_laid : (b : Bool) (items rows : List LogRow) (frames : List FrameWays) → b ≡ entered kind wins → AreLinked (reverse items) → Laid (length items) (v ∷ g ∷ below) → g.start ≤ to
      → StayIn to kind wins.plain (plain_of g) → StayIn to kind wins.burdened (burdened_of g) → to ≤ length items → site < 65536
      → IsLeft b kind takes wins site caller closed v g below to items rows frames → Laid (length rows) frames
  left_laid false items rows frames e linked laid start sp sb short few h =
      subst (λ (l : List LogRow). Laid (length l) frames) (sym h.0) (subst (Laid (length (take to items))) (sym h.1)
      (gone_laid items v g below linked laid kind takes wins site caller closed to start sp sb short (sym e)))
  left_laid true items rows frames e linked laid start sp sb short few h =
      subst (λ (l : List LogRow). Laid (length l) frames) (sym h.4) (subst (Laid (length (take to items ++ (returned_row takes site caller closed v g ∷ [])))) (sym h.5)
      (subst (λ n. Laid (length (take to items ++ (returned_row takes site caller closed v g ∷ []))) (come_frame kind wins n h.0 h.1 g ∷ below)) (sym (last_row items short))
      (kept_laid items v g below linked laid kind takes wins site caller closed to start sp sb short h.2 h.3 few h.0 h.1)))

  left_ways : (b : Bool) (items rows : List LogRow) (frames : List FrameWays) → b ≡ entered kind wins → AreLinked (reverse items) → Laid (length items) (v ∷ g ∷ below) → g.start ≤ to
      → StayIn to kind wins.plain (plain_of g) → StayIn to kind wins.burdened (burdened_of g) → to ≤ length items → site < 65536
      → IsLeft b kind takes wins site caller closed v g below to items rows frames
      → (on : Bool) (ws : List Ways) → AllWays on (reverse items) (v ∷ g ∷ below) ws → AllWays on (reverse rows) frames (returned_list kind (on_path on takes) (on_path on wins) site (bare_row closed) ws)
  left_ways false items rows frames e linked laid start sp sb short few h on ws all =
      let then : List Ways = returned_list kind (on_path on takes) (on_path on wins) site (bare_row closed) ws in
      subst (λ (l : List LogRow). AllWays on (reverse l) frames then) (sym h.0) (subst (λ (l : List FrameWays). AllWays on (reverse (take to items)) l then) (sym h.1)
      (gone_all items v g below linked laid kind takes wins site caller closed to start sp sb short (sym e) on ws all))
  left_ways true items rows frames e linked laid start sp sb short few h on ws all =
      let then : List Ways = returned_list kind (on_path on takes) (on_path on wins) site (bare_row closed) ws in
      let row : LogRow = returned_row takes site caller closed v g in
      subst (λ (l : List LogRow). AllWays on (reverse l) frames then) (sym h.4) (subst (λ (l : List FrameWays). AllWays on (reverse (take to items ++ (row ∷ []))) l then) (sym h.5)
      (subst (λ n. AllWays on (reverse (take to items ++ (row ∷ []))) (come_frame kind wins n h.0 h.1 g ∷ below) then) (sym (last_row items short))
      (kept_all items v g below linked laid kind takes wins site caller closed to start sp sb short h.2 h.3 few h.0 h.1 on ws all)))

  left_rows : (b : Bool) (items rows : List LogRow) (frames : List FrameWays) → to ≤ length items → IsLeft b kind takes wins site caller closed v g below to items rows frames → length rows ≤ length items + 1
  left_rows false items rows frames short h = let a : length rows ≡ length (take to items) = ap (λ (l : List LogRow). length l) h.0 in let b = length-take-le to items short in omega arith
  left_rows true items rows frames short h =
      let row : LogRow = returned_row takes site caller closed v g in
      let a : length rows ≡ length (take to items) + 1 = ap (λ (l : List LogRow). length l) h.4 ∙ length-append (take to items) (row ∷ []) in let b = length-take-le to items short in omega arith

module _ (kind : FrameKind) (takes wins : OnPaths) (site caller : ℕ) (closed : ClosedFrame) (o n : OpenWays) (few : site < 65536) (laid : IsLaid o) (p : IsPut kind takes wins site caller closed o n) where
  laid_now : Laid (length o.log.rows.items) (p.child ∷ p.parent ∷ p.below)
  laid_now = subst (Laid (length o.log.rows.items)) p.frames laid.frames

  pub put_laid : IsLaid n
  put_laid = record {
    linked = left_linked kind takes wins site caller closed p.child p.parent p.below p.to (entered kind wins) o.log.rows.items n.log.rows.items (reverse n.frames.items) laid.linked laid_now p.start p.plain p.burdened p.short few p.left;
    frames = left_laid kind takes wins site caller closed p.child p.parent p.below p.to (entered kind wins) o.log.rows.items n.log.rows.items (reverse n.frames.items) refl laid.linked laid_now p.start p.plain p.burdened p.short few p.left;
  }

  pub put_ways : (on : Bool) (ws : List Ways) → AllWays on (reverse o.log.rows.items) (reverse o.frames.items) ws
      → AllWays on (reverse n.log.rows.items) (reverse n.frames.items) (returned_list kind (on_path on takes) (on_path on wins) site (bare_row closed) ws)
  put_ways on ws h =
      left_ways kind takes wins site caller closed p.child p.parent p.below p.to (entered kind wins) o.log.rows.items n.log.rows.items (reverse n.frames.items) refl laid.linked laid_now p.start p.plain p.burdened p.short few p.left
      on ws (subst (λ (l : List FrameWays). AllWays on (reverse o.log.rows.items) l ws) p.frames h)

  pub put_rows : length n.log.rows.items ≤ length o.log.rows.items + 1
  put_rows = left_rows kind takes wins site caller closed p.child p.parent p.below p.to (entered kind wins) o.log.rows.items n.log.rows.items (reverse n.frames.items) p.short p.left

  -- in a stretch
  module _ (caller_is : caller < outer_way) (e : Enclosure) (base : Box Merged) where
    abbrev f : LogRow → LogRow
    f = enclosed_row e base

    row_is : f (returned_row takes site caller closed p.child p.parent) ≡ returned_row takes site caller (enclosed e site caller closed) p.child p.parent
    row_is =
        let no : nat_eq caller outer_way ≡ false = ne_eqb _ _ (λ q. omega arith) in
        ap (λ (b : Bool). let r : LogRow = record (returned_row takes site caller (enclosed e site caller closed) p.child p.parent) { merged = cond b (Some base) None } in r) no

    left_enclosed : (b : Bool) (rows : List LogRow) (frames : List FrameWays) → IsLeft b kind takes wins site caller closed p.child p.parent p.below p.to o.log.rows.items rows frames
        → IsLeft b kind takes wins site caller (enclosed e site caller closed) p.child p.parent p.below p.to (map f o.log.rows.items) (map f rows) frames
    left_enclosed false rows frames h = (ap (map f) h.0 ∙ sym (take-map f p.to o.log.rows.items), h.1)
    left_enclosed true rows frames h = (
      h.0,
      h.1,
      h.2,
      h.3,
      ap (map f) h.4 ∙ map-append f (take p.to o.log.rows.items) _ ∙ ap₂ (λ (l : List LogRow) (r : LogRow). l ++ (r ∷ [])) (sym (take-map f p.to o.log.rows.items)) row_is,
      h.5,
    )

    pub put_enclosed : (on : Bool) (ws : List Ways) → AllWays on (reverse (map f o.log.rows.items)) (reverse o.frames.items) ws
        → AllWays on (reverse (map f n.log.rows.items)) (reverse n.frames.items) (returned_list kind (on_path on takes) (on_path on wins) site (bare_row (enclosed e site caller closed)) ws)
    put_enclosed on ws h =
        left_ways kind takes wins site caller (enclosed e site caller closed) p.child p.parent p.below p.to (entered kind wins) (map f o.log.rows.items) (map f n.log.rows.items) (reverse n.frames.items) refl
        (linked_enclosed e base o.log.rows.items laid.linked) (laid_enclosed e base o.log.rows.items (p.child ∷ p.parent ∷ p.below) laid_now) p.start p.plain p.burdened (let z : p.to ≤ length (map f o.log.rows.items) = (let a = p.short in let b = length-map o.log.rows.items f in omega arith) in z) few
        (left_enclosed (entered kind wins) n.log.rows.items (reverse n.frames.items) p.left)
        on ws (subst (λ (l : List FrameWays). AllWays on (reverse (map f o.log.rows.items)) l ws) p.frames h)

-- ---- the rows and the frames of a stretch

plain_take : (k : ℕ) (rs : List LogRow) → ArePlain rs → ArePlain (take k rs)
plain_take zero rs h = tt
plain_take (suc k) [] h = tt
plain_take (suc k) (r ∷ rs) h = (h.0, h.1, plain_take k rs h.2)

plain_put : (rs : List LogRow) (r : LogRow) → ArePlain rs → r.merged ≡ None → (r.caller ≡ outer_way → ⊥) → ArePlain (rs ++ (r ∷ []))
plain_put [] r h m c = (m, c, tt)
plain_put (x ∷ rs) r h m c = (h.0, h.1, plain_put rs r h.2 m c)

pub begins_take : (k : ℕ) (rs : List LogRow) → 1 ≤ k → BeginsPlain rs → BeginsPlain (take k rs)
begins_take k [] l h = absurd h
begins_take zero (r ∷ rs) l h = absurd (omega arith)
begins_take (suc k) (r ∷ rs) l h = (h.0, plain_take k rs h.1)

pub begins_put : (rs : List LogRow) (r : LogRow) → BeginsPlain rs → r.merged ≡ None → (r.caller ≡ outer_way → ⊥) → BeginsPlain (rs ++ (r ∷ []))
begins_put [] r h m c = absurd h
begins_put (x ∷ rs) r h m c = (h.0, plain_put rs r h.1 m c)

pub begins_some : (rs : List LogRow) → BeginsPlain rs → 1 ≤ length rs
begins_some [] h = absurd h
begins_some (r ∷ rs) h = omega arith

started_append : (fs gs : List FrameWays) → AllStarted fs → AllStarted gs → AllStarted (fs ++ gs)
started_append [] gs a b = b
started_append (f ∷ fs) gs a b = (a.0, started_append fs gs a.1 b)

pub started_reverse : (fs : List FrameWays) → AllStarted fs → AllStarted (reverse fs)
started_reverse [] h = tt
started_reverse (f ∷ fs) h = subst AllStarted (sym (reverse-append (f ∷ []) fs)) (started_append (reverse fs) (f ∷ []) (started_reverse fs h.1) (h.0, tt))

pub started_back : (fs : List FrameWays) → AllStarted (reverse fs) → AllStarted fs
started_back fs h = subst AllStarted (reverse-reverse fs) (started_reverse (reverse fs) h)

pub laid_of : (o : OpenWays) → IsStretch o.log.rows.items o.frames.items → IsLaid o
laid_of o s = record { linked = s.linked; frames = s.frames }

pub some_back : (fs : List FrameWays) (f : FrameWays) (gs : List FrameWays) → reverse fs ≡ f ∷ gs → 0 < length fs
some_back fs f gs e = let a = length-reverse fs in let b : length (reverse fs) ≡ suc (length gs) = ap (λ (l : List FrameWays). length l) e in omega arith

-- a stretch after a return
module _ (kind : FrameKind) (takes wins : OnPaths) (site caller : ℕ) (closed : ClosedFrame) (o n : OpenWays) (few : site < 65536) (caller_is : caller < outer_way)
    (s : IsStretch o.log.rows.items o.frames.items) (p : IsPut kind takes wins site caller closed o n) where
  started_now : AllStarted (p.child ∷ p.parent ∷ p.below)
  started_now = subst AllStarted p.frames (started_reverse o.frames.items s.started)

  from_one : 1 ≤ p.to
  from_one = let a = started_now.1.0 in let b = p.start in omega arith

  not_outer : caller ≡ outer_way → ⊥
  not_outer e = omega (arith, e, caller_is)

  plain_left : (b : Bool) (rows : List LogRow) (frames : List FrameWays) → IsLeft b kind takes wins site caller closed p.child p.parent p.below p.to o.log.rows.items rows frames → BeginsPlain rows
  plain_left false rows frames h = subst BeginsPlain (sym h.0) (begins_take p.to o.log.rows.items from_one s.plain)
  plain_left true rows frames h = subst BeginsPlain (sym h.4) (begins_put (take p.to o.log.rows.items) (returned_row takes site caller closed p.child p.parent) (begins_take p.to o.log.rows.items from_one s.plain) refl not_outer)

  started_left : (b : Bool) (rows : List LogRow) (frames : List FrameWays) → IsLeft b kind takes wins site caller closed p.child p.parent p.below p.to o.log.rows.items rows frames → AllStarted frames
  started_left false rows frames h = subst AllStarted (sym h.1) started_now.1
  started_left true rows frames h = subst AllStarted (sym h.5) (started_now.1.0, started_now.1.1)

  some_left : (b : Bool) (rows : List LogRow) (fs : List FrameWays) → IsLeft b kind takes wins site caller closed p.child p.parent p.below p.to o.log.rows.items rows (reverse fs) → 0 < length fs
  some_left false rows fs h = some_back fs p.parent p.below h.1
  some_left true rows fs h = some_back fs _ p.below h.5

  pub put_stretch : IsStretch n.log.rows.items n.frames.items
  put_stretch =
      let l = put_laid kind takes wins site caller closed o n few (laid_of o s) p in
      record {
        linked = l.linked;
        frames = l.frames;
        plain = plain_left (entered kind wins) n.log.rows.items (reverse n.frames.items) p.left;
        started = started_back n.frames.items (started_left (entered kind wins) n.log.rows.items (reverse n.frames.items) p.left);
        some = some_left (entered kind wins) n.log.rows.items n.frames.items p.left;
      }

-- ---- a wait

-- the innermost frame has waited, and the log is cut
pub record Waited (takes : OnPaths) (o : OpenWays) (rows : List LogRow) (opens : List FrameWays) : Type 0 where
  pub top : FrameWays
  pub below : List FrameWays
  pub frames : reverse o.frames.items ≡ top ∷ below
  pub to : ℕ
  pub start : top.start ≤ to
  pub plain : (chosen takes.plain (plain_of top)).rows ≤ to
  pub burdened : (chosen takes.burdened (burdened_of top)).rows ≤ to
  pub short : to ≤ length o.log.rows.items
  pub log : rows ≡ take to o.log.rows.items
  pub then : reverse opens ≡ waited_frame takes top ∷ below

module _ (takes : OnPaths) (o : OpenWays) (rows : List LogRow) (opens : List FrameWays) (w : Waited takes o rows opens) (laid : IsLaid o) where
  open_now : Laid (length o.log.rows.items) (w.top ∷ w.below)
  open_now = subst (Laid (length o.log.rows.items)) w.frames laid.frames

  pub waited_linked : AreLinked (reverse rows)
  waited_linked = subst (λ (l : List LogRow). AreLinked (reverse l)) (sym w.log) (wait_linked o.log.rows.items takes w.top w.below laid.linked open_now w.to w.start w.plain w.burdened w.short)

  pub waited_laid : Laid (length rows) (reverse opens)
  waited_laid = subst (λ (l : List LogRow). Laid (length l) (reverse opens)) (sym w.log)
      (subst (Laid (length (take w.to o.log.rows.items))) (sym w.then) (wait_laid o.log.rows.items takes w.top w.below laid.linked open_now w.to w.start w.plain w.burdened w.short))

  pub waited_all : (on : Bool) (ws : List Ways) → AllWays on (reverse o.log.rows.items) (reverse o.frames.items) ws
      → AllWays on (reverse rows) (reverse opens) (waited_list (on_path on takes) ws)
  waited_all on ws h =
      subst (λ (l : List LogRow). AllWays on (reverse l) (reverse opens) (waited_list (on_path on takes) ws)) (sym w.log)
      (subst (λ (l : List FrameWays). AllWays on (reverse (take w.to o.log.rows.items)) l (waited_list (on_path on takes) ws)) (sym w.then)
      (wait_ways o.log.rows.items takes w.top w.below laid.linked open_now w.to w.start w.plain w.burdened w.short on ws (subst (λ (l : List FrameWays). AllWays on (reverse o.log.rows.items) l ws) w.frames h)))

  pub waited_rows : length rows ≤ length o.log.rows.items
  waited_rows = let a : length rows ≡ length (take w.to o.log.rows.items) = ap (λ (l : List LogRow). length l) w.log in let b = length-take-le w.to o.log.rows.items w.short in let c = w.short in omega arith

  pub waited_enclosed : (on : Bool) (e : Enclosure) (base : Box Merged) (ws : List Ways) → AllWays on (reverse (map (enclosed_row e base) o.log.rows.items)) (reverse o.frames.items) ws
      → AllWays on (reverse (map (enclosed_row e base) rows)) (reverse opens) (waited_list (on_path on takes) ws)
  waited_enclosed on e base ws h =
      let f : LogRow → LogRow = enclosed_row e base in
      let items : List LogRow = map f o.log.rows.items in
      let log : map f rows ≡ take w.to items = ap (map f) w.log ∙ sym (take-map f w.to o.log.rows.items) in
      let short : w.to ≤ length items = (let a = w.short in let b = length-map o.log.rows.items f in omega arith) in
      subst (λ (l : List LogRow). AllWays on (reverse l) (reverse opens) (waited_list (on_path on takes) ws)) (sym log)
      (subst (λ (l : List FrameWays). AllWays on (reverse (take w.to items)) l (waited_list (on_path on takes) ws)) (sym w.then)
      (wait_ways items takes w.top w.below (linked_enclosed e base o.log.rows.items laid.linked) (laid_enclosed e base o.log.rows.items (w.top ∷ w.below) open_now) w.to w.start w.plain w.burdened short on ws
      (subst (λ (l : List FrameWays). AllWays on (reverse items) l ws) w.frames h)))

  pub waited_stretch : IsStretch o.log.rows.items o.frames.items → IsStretch rows opens
  waited_stretch s =
      let started : AllStarted (w.top ∷ w.below) = subst AllStarted w.frames (started_reverse o.frames.items s.started) in
      let one : 1 ≤ w.to = (let a = started.0 in let b = w.start in omega arith) in
      record {
        linked = waited_linked;
        frames = waited_laid;
        plain = subst BeginsPlain (sym w.log) (begins_take w.to o.log.rows.items one s.plain);
        started = started_back opens (subst AllStarted (sym w.then) (started.0, started.1));
        some = some_back opens (waited_frame takes w.top) w.below w.then;
      }

-- ---- a strand, and a frame that is opened

pub strand_stretch : (count : ℕ) (o : OpenWays) (opens : List FrameWays) → StrandDone count o opens → IsStretch o.log.rows.items o.frames.items → IsStretch o.log.rows.items opens
strand_stretch count o opens d s =
    let started : AllStarted (d.top ∷ d.below) = subst AllStarted d.is (started_reverse o.frames.items s.started) in
    record {
      linked = s.linked;
      frames = d.laid;
      plain = s.plain;
      started = started_back opens (subst AllStarted (sym d.then) (started.0, started.1));
      some = some_back opens (strand_frame count d.top) d.below d.then;
    }

pub open_stretch : (rows : List LogRow) (fs opens : List FrameWays) (n limit : ℕ) → n ≡ length rows → opens ≡ fs ++ (opened n limit ∷ []) → IsStretch rows fs → IsStretch rows opens
open_stretch rows fs opens n limit e is s =
    let then : reverse opens ≡ opened n limit ∷ reverse fs = ap reverse is ∙ reverse-append fs (opened n limit ∷ []) in
    let some : 1 ≤ length rows = begins_some rows s.plain in
    record {
      linked = s.linked;
      frames = subst (Laid (length rows)) (sym then) ((let z : n ≤ length rows = omega arith in z), (omega arith, omega arith), (omega arith, omega arith), subst (λ k. Laid k (reverse fs)) (sym e) s.frames);
      plain = s.plain;
      started = started_back opens (subst AllStarted (sym then) ((let z : 1 ≤ n = omega arith in z), started_reverse fs s.started));
      some = some_back opens (opened n limit) (reverse fs) then;
    }
