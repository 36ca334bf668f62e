-- What joining a stretch onto the ways before it does to the log and to the ways into the open frames.
use Rattle.std.proofs.Common.{◌≡◌, ℕ, zero, suc, ◌+◌, ◌-◌, ◌≤◌, ◌<◌, ◌^◌, Bool, true, false, cond, nat_eq, inl, inr, List, [], ◌∷◌, ◌++◌, length, map, reverse, drop, get_or, set, Option, Some, None, refl, sym, ap, ap₂, subst, ◌∙◌, arith}
use Rattle.std.specs.Prelude.{All}
use Rattle.std.specs.Global.{Box}
use Rattle.std.proofs.lemmas.Bool.{ne_eqb}
use Rattle.std.proofs.lemmas.Bool.Decides.{eqb_tells}
use Rattle.std.proofs.lemmas.List.{length-map, length-append, length-reverse, map-append, reverse-append, reverse-reverse}
use Rattle.std.proofs.lemmas.List.Elements.{All-nil, All-cons, All-head, All-tail, All-push}
use Rattle.spp_dag.specs.Shares.{plus, zero_row}
use Rattle.spp_site.proofs.LastFirst.{topped}
use Rattle.spp_site.proofs.Rows.{zero-plus}
use Rattle.spp_ways.specs.declared.log.Merged.{Merged}
use Rattle.spp_ways.specs.declared.place.Links.{Links}
use Rattle.spp_ways.specs.declared.log.LogRow.{LogRow}
use Rattle.spp_ways.specs.declared.open_ways.OnPaths.{OnPaths}
use Rattle.spp_ways.specs.declared.frame_ways.LoggedWays.{LoggedWays}
use Rattle.spp_ways.specs.declared.frame_ways.FrameWays.{FrameWays}
use Rattle.spp_ways.specs.declared.open_ways.LoggedStretch.{LoggedStretch}
use Rattle.spp_ways.specs.declared.open_ways.OpenWays.{OpenWays}
use Rattle.spp_ways.specs.Ways.{Ways}
use Rattle.spp_ways.specs.Logs.{way_row, row_on, merged_row, merged_on, before_on, within_on, IsLinked, AreLinked}
use Rattle.spp_ways.specs.OpenWays.{IsWay, AreBoth, AllWays, on_path, plain_of, burdened_of, path_of, AreIn, Laid, AreWays, IsLaid, FitTop}
use Rattle.spp_ways.specs.Enclosures.{Enclosure}
use Rattle.spp_ways.specs.Stretches.{
  outer_way,
  outer_row,
  enclosed_row,
  IsBase,
  AreEnclosed,
  ArePlain,
  BeginsPlain,
  AllStarted,
  IsStretch,
  linked_to,
  FitLinks,
  joined_row,
  joined_ways,
  FitFrame,
  joined_frame,
  gone_on_by,
  gone_on,
  joined_way,
  joined_list,
  stretch_rows,
  stretch_frames,
  FitLast,
}
use Rattle.spp_ways.proofs.Staying.{alike_more, rows_older, rows_last, rows_none, rows_stay, in_path, in_more, all_move}

-- ---- lists told the last first

reverse_map : {A B : Type 0} (f : A → B) (xs : List A) → reverse (map f xs) ≡ map f (reverse xs)
reverse_map f [] = refl
reverse_map f (x ∷ xs) =
    reverse-append (f x ∷ []) (map f xs) ∙ ap (λ l. l ++ (f x ∷ [])) (reverse_map f xs)
    ∙ sym (map-append f (reverse xs) (x ∷ [])) ∙ ap (map f) (sym (reverse-append (x ∷ []) xs))

all_reverse : {A : Type 0} (P : A → Type 0) (xs : List A) → All P xs → All P (reverse xs)
all_reverse P [] h = h
all_reverse P (x ∷ xs) h = subst (All P) (sym (reverse-append (x ∷ []) xs)) (All-push P (reverse xs) x (all_reverse P xs (All-tail P x xs h)) (All-head P x xs h))

pub all_back : {A : Type 0} (P : A → Type 0) (xs : List A) → All P (reverse xs) → All P xs
all_back P xs h = subst (All P) (reverse-reverse xs) (all_reverse P (reverse xs) h)

plain-append : (xs : List LogRow) (r : LogRow) → ArePlain xs → (r.merged ≡ None) × (r.caller ≡ outer_way → ⊥) → ArePlain (xs ++ (r ∷ []))
plain-append [] r h p = (p.0, p.1, tt)
plain-append (x ∷ xs) r h p = (h.0, h.1, plain-append xs r h.2 p)

plain_reverse : (xs : List LogRow) → ArePlain xs → ArePlain (reverse xs)
plain_reverse [] h = h
plain_reverse (x ∷ xs) h = subst ArePlain (sym (reverse-append (x ∷ []) xs)) (plain-append (reverse xs) x (plain_reverse xs h.2) (h.0, h.1))

started-append : (xs : List FrameWays) (f : FrameWays) → AllStarted xs → 1 ≤ f.start → AllStarted (xs ++ (f ∷ []))
started-append [] f h p = (p, tt)
started-append (x ∷ xs) f h p = (h.0, started-append xs f h.1 p)

started_reverse : (xs : List FrameWays) → AllStarted xs → AllStarted (reverse xs)
started_reverse [] h = h
started_reverse (x ∷ xs) h = subst AllStarted (sym (reverse-append (x ∷ []) xs)) (started-append (reverse xs) x (started_reverse xs h.1) h.0)

-- ---- where the ways end

linked_more : (a n k : ℕ) → 2 ≤ k → linked_to a n k ≡ n + k - 1
linked_more a n k l =
    let x : nat_eq k 0 ≡ false = ne_eqb _ _ (λ q. omega arith) in
    let y : nat_eq k 1 ≡ false = ne_eqb _ _ (λ q. omega arith) in
    rw (x, y)

linked_in : (a n k m : ℕ) → a ≤ n → k ≤ suc m → linked_to a n k ≤ n + m
linked_in a n zero m l h = omega arith
linked_in a n (suc zero) m l h = omega arith
linked_in a n (suc (suc k)) m l h = let z = linked_more a n (suc (suc k)) (omega arith) in omega arith

joined_in : (a n m : ℕ) (s : LoggedWays) → a ≤ n → AreIn (suc m) s → AreIn (n + m) (joined_ways a n s)
joined_in a n m s l h = (linked_in a n s.along.rows m l h.0, linked_in a n s.through.rows m l h.1)

gone_in : (a n m : ℕ) (wins : Bool) (s w : LoggedWays) → a ≤ n → AreIn (suc m) s → AreIn n w → AreIn (n + m) (gone_on_by (joined_ways a n s) wins w)
gone_in a n m true s w l h k = joined_in a n m s l h
gone_in a n m false s w l h k = (linked_in a n s.along.rows m l h.0, let z = k.1 in omega arith)

-- ---- the rows

-- the links of a join on one of both paths
abbrev link_on : Bool → Links → ℕ
link_on on l = cond on l.burdened l.plain

before_joined : (on : Bool) (l : Links) (e : Enclosure) (r : LogRow) → before_on on (joined_row l e r) ≡ linked_to (link_on on l) l.rows (before_on on r)
before_joined false l e r = refl
before_joined true l e r = refl

within_joined : (on : Bool) (l : Links) (e : Enclosure) (r : LogRow) → within_on on (joined_row l e r) ≡ linked_to (link_on on l) l.rows (within_on on r)
within_joined false l e r = refl
within_joined true l e r = refl

before_in : (on : Bool) (n : ℕ) (r : LogRow) → IsLinked n r → before_on on r ≤ n
before_in false n r h = h.before
before_in true n r h = h.burdened_before

within_in : (on : Bool) (n : ℕ) (r : LogRow) → IsLinked n r → within_on on r ≤ n
within_in false n r h = h.within
within_in true n r h = h.burdened_within

path_joined : (on : Bool) (l : Links) (limit : ℕ) (f : FrameWays) → path_of on (joined_frame l limit f) ≡ joined_ways (link_on on l) l.rows (path_of on f)
path_joined false l limit f = refl
path_joined true l limit f = refl

path_gone : (on : Bool) (l : Links) (wins : OnPaths) (outer f : FrameWays)
    → path_of on (gone_on l wins outer f) ≡ gone_on_by (joined_ways (link_on on l) l.rows (path_of on outer)) (on_path on wins) (path_of on f)
path_gone false l wins outer f = refl
path_gone true l wins outer f = refl

-- The rows of the log before, the last first, and the links to it.
module _ (links : Links) (e : Enclosure) (before : List LogRow) (count : links.rows ≡ length before) (plain : links.plain ≤ links.rows) (burdened : links.burdened ≤ links.rows) where
  -- the log, and that of the stretch, whose rows but for the first are these, the last first
  abbrev new : List LogRow → List LogRow
  new rs = map (joined_row links e) rs ++ before

  abbrev all : List LogRow → List LogRow
  all rs = rs ++ (outer_row ∷ [])

  new_count : (rs : List LogRow) → length (new rs) ≡ links.rows + length rs
  new_count rs = let x = length-append (map (joined_row links e) rs) before in let y = length-map rs (joined_row links e) in omega arith

  all_count : (rs : List LogRow) → length (all rs) ≡ suc (length rs)
  all_count rs = let x = length-append rs (outer_row ∷ []) in omega arith

  link_in : (on : Bool) → link_on on links ≤ links.rows
  link_in false = plain
  link_in true = burdened

  joined_linked : (rs : List LogRow) → AreLinked (all rs) → AreLinked before → AreLinked (new rs)
  joined_linked [] h b = b
  joined_linked (r ∷ rs) h b =
      let n = new_count rs in
      let m = all_count rs in
      let k : IsLinked (length (all rs)) r = h.0 in
      let in_both = λ (a way : ℕ) (l : a ≤ links.rows) (w : way ≤ length (all rs)). let z = linked_in a links.rows way (length rs) l (omega arith) in let y : linked_to a links.rows way ≤ length (new rs) = omega arith in y in (
        record {
          before = in_both links.plain r.before plain k.before;
          within = in_both links.plain r.within plain k.within;
          burdened_before = in_both links.burdened r.burdened_before burdened k.burdened_before;
          burdened_within = in_both links.burdened r.burdened_within burdened k.burdened_within;
          site = k.site;
        },
        joined_linked rs h.1 b,
      )

  fit_links : (rs : List LogRow) → AreLinked (all rs) → links.rows + suc (length rs) < 2 ^ 32 → All (FitLinks links) rs
  fit_links [] h few = All-nil (FitLinks links)
  fit_links (r ∷ rs) h few =
      let m = all_count rs in
      let k : IsLinked (length (all rs)) r = h.0 in
      All-cons (FitLinks links) r rs (record {
        before = (let z = k.before in omega arith);
        within = (let z = k.within in omega arith);
        burdened_before = (let z = k.burdened_before in omega arith);
        burdened_within = (let z = k.burdened_within in omega arith);
      }) (fit_links rs h.1 (omega arith))

  module _ (on : Bool) (base : Box Merged) (based : (key : Option ℕ) → way_row on before (link_on on links) key ≡ merged_on on base.value key) where
    -- what the log of the stretch comes to
    abbrev old : List LogRow → List LogRow
    old rs = map (enclosed_row e base) (all rs)

    old_count : (rs : List LogRow) → length (old rs) ≡ suc (length rs)
    old_count rs = length-map (all rs) (enclosed_row e base) ∙ all_count rs

    abbrev to : ℕ → ℕ
    to k = linked_to (link_on on links) links.rows k

    own : (r : LogRow) → r.merged ≡ None → (r.caller ≡ outer_way → ⊥) → (key : Option ℕ) → row_on on (joined_row links e r) key ≡ row_on on (enclosed_row e base r) key
    own r none inner key =
        let x : nat_eq r.caller outer_way ≡ false = ne_eqb _ _ inner in
        let m : cond (nat_eq r.caller outer_way) (Some base) r.merged ≡ None = ap (λ (b : Bool). cond b (Some base) r.merged) x ∙ none in
        sym (ap (λ (o : Option (Box Merged)). merged_row on (enclosed_row e base r) o key) m)

    copies : (rs : List LogRow) → AreLinked (all rs) → ArePlain rs → (k : ℕ) → k ≤ suc (length rs) → (key : Option ℕ) → way_row on (new rs) (to k) key ≡ way_row on (old rs) k key
    copies [] h p zero l key = rows_none on before key ∙ sym (rows_none on (old []) key)
    copies [] h p (suc zero) l key =
        based key ∙ sym (rows_last on (enclosed_row e base outer_row) [] key ∙ zero-plus (plus zero_row (row_on on (enclosed_row e base outer_row) key)) ∙ zero-plus (row_on on (enclosed_row e base outer_row) key))
    copies [] h p (suc (suc k)) l key = absurd (omega arith)
    copies (r ∷ rs) h p k l key =
        let n = new_count rs in
        let m = all_count rs in
        let o = old_count rs in
        let link : IsLinked (length (all rs)) r = h.0 in
        elim (eqb_tells k (suc (suc (length rs)))) [
          | inl is ↦
              let at : k ≡ suc (suc (length rs)) = is.1 in
              let here : to k ≡ suc (length (new rs)) = linked_more (link_on on links) links.rows k (omega arith) ∙ omega arith in
              let there : k ≡ suc (length (old rs)) = omega arith in
              let b = before_in on (length (all rs)) r link in
              let w = within_in on (length (all rs)) r link in
              let x : way_row on (new rs) (before_on on (joined_row links e r)) key ≡ way_row on (old rs) (before_on on (enclosed_row e base r)) key =
              ap (λ i. way_row on (new rs) i key) (before_joined on links e r) ∙ copies rs h.1 p.2 (before_on on r) (omega arith) key in
              let y : way_row on (new rs) (within_on on (joined_row links e r)) key ≡ way_row on (old rs) (within_on on (enclosed_row e base r)) key =
              ap (λ i. way_row on (new rs) i key) (within_joined on links e r) ∙ copies rs h.1 p.2 (within_on on r) (omega arith) key in
              ap (λ i. way_row on (joined_row links e r ∷ new rs) i key) here ∙ rows_last on (joined_row links e r) (new rs) key
              ∙ ap₂ plus x (ap₂ plus y (own r p.0 p.1 key))
              ∙ sym (ap (λ i. way_row on (enclosed_row e base r ∷ old rs) i key) there ∙ rows_last on (enclosed_row e base r) (old rs) key)
          | inr is ↦
              let less : k ≤ suc (length rs) = (let z = is.1 in omega arith) in
              let z = linked_in (link_on on links) links.rows k (length rs) (link_in on) less in
              rows_older on (joined_row links e r) (new rs) (to k) (omega arith) key
              ∙ copies rs h.1 p.2 k less key
              ∙ sym (rows_older on (enclosed_row e base r) (old rs) k (omega arith) key)
        ]

    -- ---- the ways of a frame

    module _ (rs : List LogRow) (linked : AreLinked (all rs)) (are_plain : ArePlain rs) where
      both_joined : (w : LoggedWays) (u : Ways) → AreIn (suc (length rs)) w → AreBoth on (old rs) w u → AreBoth on (new rs) (joined_ways (link_on on links) links.rows w) u
      both_joined w u l h =
          ((h.0.0, λ key. copies rs linked are_plain w.along.rows l.0 key ∙ h.0.1 key), (h.1.0, λ key. copies rs linked are_plain w.through.rows l.1 key ∙ h.1.1 key))

      both_gone : (wins : Bool) (s w : LoggedWays) (u v : Ways) → AreIn (suc (length rs)) s → AreIn (length before) w → AreBoth on (old rs) s u → AreBoth on before w v
          → AreBoth on (new rs) (gone_on_by (joined_ways (link_on on links) links.rows s) wins w) (joined_way wins u v)
      both_gone wins s w u v l m h k =
          let j = both_joined s u l h in
          ((ap₂ (λ (a b : ℕ). a + b) k.0.0 h.0.0, j.0.1), by wins)
        where
          by : (wins : Bool) → IsWay on (new rs) (gone_on_by (joined_ways (link_on on links) links.rows s) wins w).through (joined_way wins u v).through
          by true = (ap₂ (λ (a b : ℕ). a + b) k.0.0 h.1.0, (both_joined s u l h).1.1)
          by false = (k.1.0, λ key. rows_stay on (map (joined_row links e) rs) before w.through.rows m.1 key ∙ k.1.1 key)

      -- ---- the frames

      module _ (limit : ℕ) (wins : OnPaths) (outer f : FrameWays) (rest : List FrameWays) (laid : Laid (length before) (f ∷ rest)) (w : Ways) (ws : List Ways) (are : AllWays on before (f ∷ rest) (w ∷ ws)) where
        no_ways_left : (is : List FrameWays) → AllWays on (old rs) (is ++ (outer ∷ [])) [] → ⊥
        no_ways_left [] h = h
        no_ways_left (i ∷ is) h = h

        all_joined : (is : List FrameWays) (us : List Ways) (m : ℕ) → m ≤ suc (length rs) → Laid m (is ++ (outer ∷ [])) → AllWays on (old rs) (is ++ (outer ∷ [])) us
            → AllWays on (new rs) (map (joined_frame links limit) is ++ (gone_on links wins outer f ∷ rest)) (joined_list (on_path on wins) us w ws)
        all_joined [] [] m l d h = absurd h
        all_joined [] (u ∷ v ∷ us) m l d h = absurd h.1
        all_joined [] (u ∷ []) m l d h =
            let out : AreIn (suc (length rs)) (path_of on outer) = in_more m (suc (length rs)) l (path_of on outer) (in_path on m outer d.1 d.2) in
            let real : AreIn (length before) (path_of on f) = in_path on (length before) f laid.1 laid.2 in (
              subst (λ (x : LoggedWays). AreBoth on (new rs) x (joined_way (on_path on wins) u w)) (sym (path_gone on links wins outer f))
                  (both_gone (on_path on wins) (path_of on outer) (path_of on f) u w out real h.0 are.0),
              all_move on (length before) f.start before (new rs) (alike_more on (map (joined_row links e) rs) before (length before) (omega arith)) laid.0 rest ws laid.3 are.1,
            )
        all_joined (i ∷ is) [] m l d h = absurd h
        all_joined (i ∷ is) (u ∷ []) m l d h = absurd (no_ways_left is h.1)
        all_joined (i ∷ is) (u ∷ v ∷ us) m l d h =
            let here : AreIn (suc (length rs)) (path_of on i) = in_more m (suc (length rs)) l (path_of on i) (in_path on m i d.1 d.2) in
            let start : i.start ≤ m = d.0 in (
              subst (λ (x : LoggedWays). AreBoth on (new rs) x u) (sym (path_joined on links limit i)) (both_joined (path_of on i) u here h.0),
              all_joined is (v ∷ us) i.start (omega arith) d.3 h.1,
            )

  -- ---- where the ways of the frames end

  laid_joined : (limit : ℕ) (wins : OnPaths) (outer f : FrameWays) (rest : List FrameWays) → Laid (length before) (f ∷ rest) → (is : List FrameWays) (m : ℕ) → AllStarted is
      → Laid (suc m) (is ++ (outer ∷ [])) → Laid (links.rows + m) (map (joined_frame links limit) is ++ (gone_on links wins outer f ∷ rest))
  laid_joined limit wins outer f rest laid [] m s h =
      let d : Laid links.rows (f ∷ rest) = subst (λ k. Laid k (f ∷ rest)) (sym count) laid in (
        (let z = d.0 in omega arith),
        gone_in links.plain links.rows m wins.plain (plain_of outer) (plain_of f) plain h.1 d.1,
        gone_in links.burdened links.rows m wins.burdened (burdened_of outer) (burdened_of f) burdened h.2 d.2,
        d.3,
      )
  laid_joined limit wins outer f rest laid (i ∷ is) m s h =
      let a : i.start ≤ suc m = h.0 in
      let b : 1 ≤ i.start = s.0 in
      let x : i.start ≡ suc (i.start - 1) = omega arith in
      let y : links.rows + (i.start - 1) ≡ links.rows + i.start - 1 = omega arith in (
        omega arith,
        joined_in links.plain links.rows m (plain_of i) plain h.1,
        joined_in links.burdened links.rows m (burdened_of i) burdened h.2,
        subst (λ k. Laid k (map (joined_frame links limit) is ++ (gone_on links wins outer f ∷ rest))) y
            (laid_joined limit wins outer f rest laid is (i.start - 1) s.1 (subst (λ k. Laid k (is ++ (outer ∷ []))) x h.3)),
      )

  fit_frames : (fs : List FrameWays) (m : ℕ) → AllStarted fs → Laid m fs → links.rows + m < 2 ^ 32 → All (FitFrame links) fs
  fit_frames [] m s h few = All-nil (FitFrame links)
  fit_frames (f ∷ fs) m s h few =
      let a : f.start ≤ m = h.0 in
      All-cons (FitFrame links) f fs (record {
        along = (let z = h.1.0 in omega arith);
        through = (let z = h.1.1 in omega arith);
        burdened_along = (let z = h.2.0 in omega arith);
        burdened_through = (let z = h.2.1 in omega arith);
        start = omega arith;
        started = s.0;
      }) (fit_frames fs f.start s.1 h.3 (omega arith))

-- ---- a stretch that has ended

-- its log, where it has one row alone
pub outer_alone : (rows : List LogRow) → BeginsPlain rows → length rows ≤ 1 → rows ≡ outer_row ∷ []
outer_alone [] h l = absurd h
outer_alone (r ∷ []) h l = ap (λ x. x ∷ []) h.0
outer_alone (r ∷ s ∷ rs) h l = absurd (omega arith)

pub one_set : {A : Type 0} (xs : List A) (a : A) → length xs ≡ 1 → set xs 0 a ≡ a ∷ []
one_set [] a l = absurd (omega arith)
one_set (x ∷ []) a l = refl
one_set (x ∷ y ∷ xs) a l = absurd (omega arith)

-- ---- the whole

-- the stretch has no inner frames
pub fit_last : (on : Bool) (log : List LogRow) (outer : FrameWays) (us : List Ways) (w : Ways) (ws : List Ways) (wins : Bool) → AllWays on log (outer ∷ []) us → FitLast us w ws wins
    → FitTop (joined_list wins us w ws)
fit_last on log outer [] w ws wins h f = absurd h
fit_last on log outer (u ∷ []) w ws wins h f = f
fit_last on log outer (u ∷ v ∷ us) w ws wins h f = absurd h.1

-- the stretch s is joined onto the ways o, whose innermost frame is f
module _ (o : OpenWays) (s : LoggedStretch) (e : Enclosure) (wins : OnPaths) (links : Links) (f : FrameWays) (rest : List FrameWays)
    (open_frames : reverse o.frames.items ≡ f ∷ rest) (laid : IsLaid o) (stretch : IsStretch (stretch_rows s) (stretch_frames s))
    (plain : links.plain ≡ f.plain_rows) (burdened : links.burdened ≡ f.burdened_rows) (count : links.rows ≡ length o.log.rows.items) where
  abbrev rows : List LogRow
  rows = drop 1 s.log.rows.items

  abbrev inner : List FrameWays
  inner = drop 1 s.frames.items

  abbrev log : List LogRow
  log = reverse o.log.rows.items

  abbrev rs : List LogRow
  rs = reverse rows

  same_count : links.rows ≡ length log
  same_count = count ∙ sym (length-reverse o.log.rows.items)

  here : Laid (length log) (f ∷ rest)
  here = subst (λ k. Laid k (f ∷ rest)) (sym (length-reverse o.log.rows.items)) (subst (Laid (length o.log.rows.items)) open_frames laid.frames)

  plain_in : links.plain ≤ links.rows
  plain_in = let x = here.1.0 in let y = same_count in omega arith

  burdened_in : links.burdened ≤ links.rows
  burdened_in = let x = here.2.0 in let y = same_count in omega arith

  linked : AreLinked (rs ++ (outer_row ∷ []))
  linked = subst AreLinked (reverse-append (outer_row ∷ []) rows) stretch.linked

  frames_laid : Laid (suc (length rs)) (reverse inner ++ (s.outer ∷ []))
  frames_laid = subst (λ k. Laid k (reverse inner ++ (s.outer ∷ []))) (ap suc (sym (length-reverse rows))) (subst (Laid (length (stretch_rows s))) (reverse-append (s.outer ∷ []) inner) stretch.frames)

  pub rows_fit : links.rows + length (stretch_rows s) < 2 ^ 32 → All (FitLinks links) rows
  rows_fit few = all_back (FitLinks links) rows (fit_links links e log same_count plain_in burdened_in rs linked (let n = length-reverse rows in omega arith))

  pub frames_fit : links.rows + length (stretch_rows s) < 2 ^ 32 → All (FitFrame links) (stretch_frames s)
  frames_fit few =
      all_back (FitFrame links) (stretch_frames s)
      (fit_frames links e log same_count plain_in burdened_in (reverse (stretch_frames s)) (length (stretch_rows s)) (started_reverse (stretch_frames s) stretch.started) stretch.frames few)

  module _ (new : OpenWays) (limit : ℕ) (outer : List FrameWays) (is_outer : reverse outer ≡ gone_on links wins s.outer f ∷ rest)
      (is_log : new.log.rows.items ≡ o.log.rows.items ++ map (joined_row links e) rows) (is_frames : new.frames.items ≡ outer ++ map (joined_frame links limit) inner) where
    log_is : reverse new.log.rows.items ≡ map (joined_row links e) rs ++ log
    log_is = ap reverse is_log ∙ reverse-append o.log.rows.items (map (joined_row links e) rows) ∙ ap (λ l. l ++ log) (reverse_map (joined_row links e) rows)

    frames_are : reverse new.frames.items ≡ map (joined_frame links limit) (reverse inner) ++ (gone_on links wins s.outer f ∷ rest)
    frames_are =
        ap reverse is_frames ∙ reverse-append outer (map (joined_frame links limit) inner)
        ∙ ap₂ (λ (a b : List FrameWays). a ++ b) (reverse_map (joined_frame links limit) inner) is_outer

    new_length : length new.log.rows.items ≡ links.rows + length rs
    new_length =
        let a = length-append o.log.rows.items (map (joined_row links e) rows) in
        let b = length-map rows (joined_row links e) in
        let d = length-reverse rows in
        let n : length new.log.rows.items ≡ length (o.log.rows.items ++ map (joined_row links e) rows) = ap (λ (l : List LogRow). length l) is_log in
        omega arith

    pub join_laid : IsLaid new
    join_laid = record {
      linked = subst AreLinked (sym log_is) (joined_linked links e log same_count plain_in burdened_in rs linked laid.linked);
      frames = subst (λ k. Laid k (reverse new.frames.items)) (sym new_length) (subst (Laid (links.rows + length rs)) (sym frames_are)
          (laid_joined links e log same_count plain_in burdened_in limit wins s.outer f rest here (reverse inner) (length rs) (started_reverse inner stretch.started.1) frames_laid));
    }

    link_is : (on : Bool) → link_on on links ≡ (path_of on f).along.rows
    link_is false = plain
    link_is true = burdened

    pub join_ways : (on : Bool) (base : Box Merged) (w : Ways) (ws us : List Ways) → AreWays on o (w ∷ ws) → IsBase on base w.along → AreEnclosed on e base (stretch_rows s) (stretch_frames s) us
        → AreWays on new (joined_list (on_path on wins) us w ws)
    join_ways on base w ws us are is_base enclosed =
        let old : AllWays on log (f ∷ rest) (w ∷ ws) = subst (λ (l : List FrameWays). AllWays on log l (w ∷ ws)) open_frames are in
        let based = λ (key : Option ℕ). ap (λ k. way_row on log k key) (link_is on) ∙ old.0.0.1 key ∙ sym (is_base key) in
        let turned : reverse (map (enclosed_row e base) (stretch_rows s)) ≡ map (enclosed_row e base) (rs ++ (outer_row ∷ [])) =
        reverse_map (enclosed_row e base) (stretch_rows s) ∙ ap (map (enclosed_row e base)) (reverse-append (outer_row ∷ []) rows) in
        let inside : AllWays on (map (enclosed_row e base) (rs ++ (outer_row ∷ []))) (reverse inner ++ (s.outer ∷ [])) us =
        subst (λ (l : List LogRow). AllWays on l (reverse inner ++ (s.outer ∷ [])) us) turned
        (subst (λ (l : List FrameWays). AllWays on (reverse (map (enclosed_row e base) (stretch_rows s))) l us) (reverse-append (s.outer ∷ []) inner) enclosed) in
        subst (λ (l : List LogRow). AllWays on l (reverse new.frames.items) (joined_list (on_path on wins) us w ws)) (sym log_is)
        (subst (λ (l : List FrameWays). AllWays on (map (joined_row links e) rs ++ log) l (joined_list (on_path on wins) us w ws)) (sym frames_are)
        (all_joined links e log same_count plain_in burdened_in on base based rs linked (plain_reverse rows stretch.plain.1) limit wins s.outer f rest here w ws old (reverse inner) us (suc (length rs)) (omega arith) frames_laid inside))

-- ---- what the code reads before it joins

-- of n open frames the innermost one, which the links tell of
pub record Setup (o : OpenWays) (n : ℕ) (links : Links) : Type 0 where
  pub top : FrameWays
  pub below : List FrameWays
  pub is : reverse o.frames.items ≡ top ∷ below
  pub get : (d : FrameWays) → get_or o.frames.items (n - 1) d ≡ top
  pub put : (g : FrameWays) → reverse (set o.frames.items (n - 1) g) ≡ g ∷ below
  pub plain : links.plain ≡ top.plain_rows
  pub burdened : links.burdened ≡ top.burdened_rows
  pub count : links.rows ≡ length o.log.rows.items

pub setup : (o : OpenWays) → 0 < length o.frames.items → (n : ℕ) → n ≡ length o.frames.items → (x y : FrameWays) → x ≡ get_or o.frames.items (n - 1) x → y ≡ get_or o.frames.items (n - 1) y
    → (k : ℕ) → k ≡ length o.log.rows.items → Setup o n (record { plain = x.plain_rows; burdened = y.burdened_rows; rows = k })
setup o some n at x y is_x is_y k count =
    let t = topped o.frames.items some in
    let get = λ (d : FrameWays). ap (λ (m : ℕ). get_or o.frames.items (m - 1) d) at ∙ t.get d in
    record {
      top = t.top;
      below = t.below;
      is = t.is;
      get = get;
      put = λ g. ap (λ (m : ℕ). reverse (set o.frames.items (m - 1) g)) at ∙ t.put g;
      plain = ap (λ (f : FrameWays). f.plain_rows) (is_x ∙ get x);
      burdened = ap (λ (f : FrameWays). f.burdened_rows) (is_y ∙ get y);
      count = count;
    }

-- the innermost frame goes on by the stretch's outer one
pub put_gone : (o : OpenWays) (n : ℕ) (links : Links) (b : Setup o n links) (wins : OnPaths) (outer f new : FrameWays) → new ≡ gone_on links wins outer f → f ≡ get_or o.frames.items (n - 1) f
    → reverse (set o.frames.items (n - 1) new) ≡ gone_on links wins outer b.top ∷ b.below
put_gone o n links b wins outer f new is read =
    ap (λ (g : FrameWays). reverse (set o.frames.items (n - 1) g)) (is ∙ ap (gone_on links wins outer) (read ∙ b.get f)) ∙ b.put (gone_on links wins outer b.top)

pub none_behind : {A : Type 0} (xs : List A) → length xs < 2 → drop 1 xs ≡ []
none_behind [] l = refl
none_behind (x ∷ []) l = refl
none_behind (x ∷ y ∷ xs) l = absurd (omega arith)

-- the ways after a join, before rows are merged
pub record Done (o new : OpenWays) (s : LoggedStretch) (e : Enclosure) (wins : OnPaths) : Type 0 where
  pub laid : IsLaid new
  pub ways : (on : Bool) (base : Box Merged) (w : Ways) (ws us : List Ways) → AreWays on o (w ∷ ws) → IsBase on base w.along → AreEnclosed on e base (stretch_rows s) (stretch_frames s) us
      → AreWays on new (joined_list (on_path on wins) us w ws)
