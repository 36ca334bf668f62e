-- The frames that close in a stretch, in rows and one by one.
use Rattle.std.proofs.Common.{◌≡◌, ℕ, suc, ◌+◌, ◌<◌, ◌≤◌, false, List, [], ◌∷◌, ◌++◌, length, drop, get_or, cond, Option, Some, refl, sym, ap, ap₂, subst, ◌∙◌, arith}
use Rattle.std.proofs.lemmas.List.{map-append, drop_all}
use Rattle.std.proofs.Math.Seq.{drop-cons}
use Rattle.spp_dag.specs.declared.row.Row.{Row}
use Rattle.spp_dag.specs.Shares.{plus, zero_row}
use Rattle.spp_dag.specs.Steps.{same_key}
use Rattle.spp_site.specs.Rows.{Fits, frame_row}
use Rattle.spp_site.specs.Table.{Sums, row_at, IsAdded}
use Rattle.spp_site.specs.Profiles.{key_row}
use Rattle.spp_site.specs.declared.closed_frame.ClosedFrame.{ClosedFrame}
use Rattle.spp_site.proofs.Rows.{plus-zero, zero-plus, plus-assoc, plus-swap}
use Rattle.spp_ways.specs.Enclosures.{Enclosure, enclosed}
use Rattle.spp_pass.specs.declared.calls.CallRow.{CallRow}
use Rattle.spp_pass.specs.declared.narrow_frame.NarrowFrame.{NarrowFrame}
use Rattle.spp_pass.specs.CallRows.{enclosed_sums, calls_row, call_row, lone_row, AreCallsBelow, AreAdded, AreLight, IsLightFrame}
use Rattle.spp_site.specs.NarrowRows.{at_site}
use Rattle.spp_pass.specs.CallFrames.{frame_of, call_of, calls_of}
use Rattle.spp_pass.specs.declared.counted_frame.CountedFrame.{CountedFrame}
use Rattle.spp_pass.specs.Passes.{Seen, OnTop}
use Rattle.spp_pass.specs.Stretches.{enclosure, FitsJoin, CanJoin, IsJoined}
use Rattle.spp_pass.proofs.CallRows.{frame_within, more_added, push_light, all_light_as}
use Rattle.spp_site.proofs.Keys.{own_row, added_key, row_fits}

-- ---- two lists of rows

pub calls_append : (e : Enclosure) (xs ys : List CallRow) (key : Option ℕ) → calls_row e (xs ++ ys) key ≡ plus (calls_row e xs key) (calls_row e ys key)
calls_append e [] ys key = sym (zero-plus (calls_row e ys key))
calls_append e (c ∷ xs) ys key =
    let one : Row = cond (same_key (Some c.site) key) (enclosed_sums e c.site c.caller c.row) zero_row in
    ap (λ r. plus r one) (calls_append e xs ys key) ∙ plus-swap (calls_row e xs key) (calls_row e ys key) one

below_append : (n : ℕ) (xs ys : List CallRow) → AreCallsBelow n xs → AreCallsBelow n ys → AreCallsBelow n (xs ++ ys)
below_append n [] ys a b = b
below_append n (c ∷ xs) ys a b = (a.0, below_append n xs ys a.1 b)

pub below_left : (n : ℕ) (xs ys : List CallRow) → AreCallsBelow n (xs ++ ys) → AreCallsBelow n xs
below_left n [] ys h = tt
below_left n (c ∷ xs) ys h = (h.0, below_left n xs ys h.1)

pub below_right : (n : ℕ) (xs ys : List CallRow) → AreCallsBelow n (xs ++ ys) → AreCallsBelow n ys
below_right n [] ys h = h
below_right n (c ∷ xs) ys h = below_right n xs ys h.1

light_append : (n : ℕ) (xs ys : List CallRow) → AreLight n xs → AreLight n ys → AreLight n (xs ++ ys)
light_append n [] ys a b = b
light_append n (c ∷ xs) ys a b = (a.0, light_append n xs ys a.1 b)

light_left : (n : ℕ) (xs ys : List CallRow) → AreLight n (xs ++ ys) → AreLight n xs
light_left n [] ys h = tt
light_left n (c ∷ xs) ys h = (h.0, light_left n xs ys h.1)

pub light_right : (n : ℕ) (xs ys : List CallRow) → AreLight n (xs ++ ys) → AreLight n ys
light_right n [] ys h = h
light_right n (c ∷ xs) ys h = light_right n xs ys h.1

-- ---- one more frame

-- in the second list
pub added_right : (site caller : ℕ) (f : ClosedFrame) (xs old new : List CallRow) → AreAdded site caller f old new → AreAdded site caller f (xs ++ old) (xs ++ new)
added_right site caller f xs old new h = record {
  rows = λ e key. calls_append e xs new key ∙ ap (plus (calls_row e xs key)) (h.rows e key) ∙ sym (plus-assoc (calls_row e xs key) (calls_row e old key) (call_row e site caller f key))
      ∙ ap (λ r. plus r (call_row e site caller f key)) (sym (calls_append e xs old key));
  below = λ n low lt. below_append n xs new (below_left n xs old low) (h.below n (below_right n xs old low) lt);
}

pub lighter_right : (n : ℕ) (xs old new : List CallRow) → (AreLight n old → AreLight (n + 1) new) → AreLight n (xs ++ old) → AreLight (n + 1) (xs ++ new)
lighter_right n xs old new f h = light_append (n + 1) xs new (all_light_as n (n + 1) xs (omega arith) (light_left n xs old h)) (f (light_right n xs old h))

-- behind the first
added_left : (site caller : ℕ) (f : ClosedFrame) (xs ys : List CallRow) → AreAdded site caller f (xs ++ ys) ((xs ++ lone_row site caller f ∷ []) ++ ys)
added_left site caller f xs ys =
    let more = more_added site caller f xs in
    record {
      rows = λ e key. calls_append e (xs ++ lone_row site caller f ∷ []) ys key ∙ ap (λ r. plus r (calls_row e ys key)) (more.rows e key)
          ∙ plus-swap (calls_row e xs key) (call_row e site caller f key) (calls_row e ys key) ∙ ap (λ r. plus r (call_row e site caller f key)) (sym (calls_append e xs ys key));
      below = λ n low lt. below_append n (xs ++ lone_row site caller f ∷ []) ys (more.below n (below_left n xs ys low) lt) (below_right n xs ys low);
    }

lighter_left : (n site caller : ℕ) (f : ClosedFrame) (xs ys : List CallRow) → AreLight n (xs ++ ys) → IsLightFrame f → AreLight (n + 1) ((xs ++ lone_row site caller f ∷ []) ++ ys)
lighter_left n site caller f xs ys h light =
    light_append (n + 1) (xs ++ lone_row site caller f ∷ []) ys (push_light n xs site caller f (light_left n xs ys h) light) (all_light_as n (n + 1) ys (omega arith) (light_right n xs ys h))

-- one that is kept as it is
pushed : (fs more : List NarrowFrame) (g : NarrowFrame) (c : CallRow) (ys : List CallRow) → more ≡ fs ++ g ∷ [] → call_of g ≡ c → (calls_of fs ++ c ∷ []) ++ ys ≡ calls_of more ++ ys
pushed fs more g c ys is same = ap (λ (d : CallRow). (calls_of fs ++ d ∷ []) ++ ys) (sym same) ∙ ap (λ (l : List CallRow). l ++ ys) (sym (map-append call_of fs (g ∷ [])) ∙ ap calls_of (sym is))

pub frame_added : (site caller : ℕ) (f : ClosedFrame) (fs more : List NarrowFrame) (g : NarrowFrame) (ys : List CallRow) → more ≡ fs ++ g ∷ [] → call_of g ≡ lone_row site caller f
    → AreAdded site caller f (calls_of fs ++ ys) (calls_of more ++ ys)
frame_added site caller f fs more g ys is same = subst (AreAdded site caller f (calls_of fs ++ ys)) (pushed fs more g (lone_row site caller f) ys is same) (added_left site caller f (calls_of fs) ys)

pub frame_light : (n site caller : ℕ) (f : ClosedFrame) (fs more : List NarrowFrame) (g : NarrowFrame) (ys : List CallRow) → more ≡ fs ++ g ∷ [] → call_of g ≡ lone_row site caller f
    → AreLight n (calls_of fs ++ ys) → IsLightFrame f → AreLight (n + 1) (calls_of more ++ ys)
frame_light n site caller f fs more g ys is same h light = subst (AreLight (n + 1)) (pushed fs more g (lone_row site caller f) ys is same) (lighter_left n site caller f (calls_of fs) ys h light)

-- ---- frames that are added one by one

-- in place of a frame where there is none
abbrev pub no_frame : NarrowFrame
no_frame = record { local = 0; work = 0; span = 0; caller = 0; site = 0; top_site = false; top_caller = false }

-- rows, with those that they lack
abbrev pub Lacks : (Option ℕ → Row) → Enclosure → List CallRow → (Option ℕ → Row) → Type 0
Lacks now e cs whole = (key : Option ℕ) → plus (now key) (calls_row e cs key) ≡ whole key

pub lacks_at : (now : Option ℕ → Row) (e : Enclosure) (fs : List NarrowFrame) (k : ℕ) (d : NarrowFrame) (whole : Option ℕ → Row) → k < length fs → Lacks now e (calls_of (drop k fs)) whole
    → Lacks now e (call_of (get_or fs k d) ∷ calls_of (drop (k + 1) fs)) whole
lacks_at now e fs k d whole lt h =
    let next : suc k ≡ k + 1 = omega arith in
    subst (λ l. Lacks now e (calls_of l) whole) (drop-cons fs k d lt ∙ ap (λ n. get_or fs k d ∷ drop n fs) next) h

one_less : (now : Option ℕ → Row) (e : Enclosure) (f : NarrowFrame) (cs : List CallRow) (whole : Option ℕ → Row) → Lacks now e (call_of f ∷ cs) whole → (key : Option ℕ)
    → plus (plus (now key) (call_row e f.site f.caller (frame_of f) key)) (calls_row e cs key) ≡ whole key
one_less now e f cs whole h key =
    plus-swap (now key) (call_row e f.site f.caller (frame_of f) key) (calls_row e cs key) ∙ plus-assoc (now key) (calls_row e cs key) (call_row e f.site f.caller (frame_of f) key)
    ∙ ap (λ r. plus (now key) (plus (calls_row e cs key) (cond (same_key (Some f.site) key) r zero_row))) (sym (frame_within e f.site f.caller (frame_of f))) ∙ h key

pub lacks_fits : (now : Option ℕ → Row) (e : Enclosure) (f : NarrowFrame) (cs : List CallRow) (whole : Option ℕ → Row) → Lacks now e (call_of f ∷ cs) whole → ((key : Option ℕ) → Fits (whole key))
    → (key : Option ℕ) → Fits (plus (now key) (call_row e f.site f.caller (frame_of f) key))
lacks_fits now e f cs whole h fits key = row_fits (plus (now key) (call_row e f.site f.caller (frame_of f) key)) (calls_row e cs key) (whole key) (one_less now e f cs whole h key) (fits key)

pub lacks_added : (now then : Option ℕ → Row) (e : Enclosure) (f : NarrowFrame) (cs : List CallRow) (whole : Option ℕ → Row) → Lacks now e (call_of f ∷ cs) whole
    → ((key : Option ℕ) → then key ≡ plus (now key) (call_row e f.site f.caller (frame_of f) key)) → Lacks then e cs whole
lacks_added now then e f cs whole h added key = ap (λ r. plus r (calls_row e cs key)) (added key) ∙ one_less now e f cs whole h key

pub lacks_none : (now : Option ℕ → Row) (e : Enclosure) (fs : List NarrowFrame) (k : ℕ) (whole : Option ℕ → Row) → length fs ≤ k → Lacks now e (calls_of (drop k fs)) whole → (key : Option ℕ) → now key ≡ whole key
lacks_none now e fs k whole le h key = sym (plus-zero (now key)) ∙ ap (λ l. plus (now key) (calls_row e (calls_of l) key)) (sym (drop_all k fs le)) ∙ h key

-- of rows as well
pub lacks_row_at : (now : Option ℕ → Row) (e : Enclosure) (cs : List CallRow) (k : ℕ) (d : CallRow) (whole : Option ℕ → Row) → k < length cs → Lacks now e (drop k cs) whole
    → Lacks now e (get_or cs k d ∷ drop (k + 1) cs) whole
lacks_row_at now e cs k d whole lt h =
    let next : suc k ≡ k + 1 = omega arith in
    subst (λ l. Lacks now e l whole) (drop-cons cs k d lt ∙ ap (λ n. get_or cs k d ∷ drop n cs) next) h

row_less : (now : Option ℕ → Row) (e : Enclosure) (c : CallRow) (cs : List CallRow) (whole : Option ℕ → Row) (site : ℕ) (r : Row) → site ≡ c.site → r ≡ enclosed_sums e c.site c.caller c.row → Lacks now e (c ∷ cs) whole
    → (key : Option ℕ) → plus (plus (now key) (at_site site r key)) (calls_row e cs key) ≡ whole key
row_less now e c cs whole site r of is h key =
    plus-swap (now key) (at_site site r key) (calls_row e cs key) ∙ plus-assoc (now key) (calls_row e cs key) (at_site site r key)
    ∙ ap₂ (λ (n : ℕ) (x : Row). plus (now key) (plus (calls_row e cs key) (at_site n x key))) of is ∙ h key

pub lacks_row_fits : (now : Option ℕ → Row) (e : Enclosure) (c : CallRow) (cs : List CallRow) (whole : Option ℕ → Row) (site : ℕ) (r : Row) → site ≡ c.site → r ≡ enclosed_sums e c.site c.caller c.row
    → Lacks now e (c ∷ cs) whole → ((key : Option ℕ) → Fits (whole key)) → (key : Option ℕ) → Fits (plus (now key) (at_site site r key))
lacks_row_fits now e c cs whole site r of is h fits key = row_fits (plus (now key) (at_site site r key)) (calls_row e cs key) (whole key) (row_less now e c cs whole site r of is h key) (fits key)

pub lacks_row_added : (now then : Option ℕ → Row) (e : Enclosure) (c : CallRow) (cs : List CallRow) (whole : Option ℕ → Row) (site : ℕ) (r : Row) → site ≡ c.site → r ≡ enclosed_sums e c.site c.caller c.row
    → Lacks now e (c ∷ cs) whole → ((key : Option ℕ) → then key ≡ plus (now key) (at_site site r key)) → Lacks then e cs whole
lacks_row_added now then e c cs whole site r of is h added key = ap (λ x. plus x (calls_row e cs key)) (added key) ∙ row_less now e c cs whole site r of is h key

pub lacks_row_none : (now : Option ℕ → Row) (e : Enclosure) (cs : List CallRow) (k : ℕ) (whole : Option ℕ → Row) → length cs ≤ k → Lacks now e (drop k cs) whole → (key : Option ℕ) → now key ≡ whole key
lacks_row_none now e cs k whole le h key = sym (plus-zero (now key)) ∙ ap (λ l. plus (now key) (calls_row e l key)) (sym (drop_all k cs le)) ∙ h key

-- the row of a frame within what encloses it
pub row_inside : (e : Enclosure) (f : NarrowFrame) (r : Row) → r ≡ frame_row (enclosed e f.site f.caller (frame_of f)) → r ≡ enclosed_sums e f.site f.caller (frame_row (frame_of f))
row_inside e f r is = is ∙ sym (frame_within e f.site f.caller (frame_of f))

-- ---- first the rows of a stretch, and then its frames

-- the rows fit
pub rows_fit : (now : Row) (e : Enclosure) (frames rows : List CallRow) (key : Option ℕ) → Fits (plus now (calls_row e (frames ++ rows) key)) → Fits (plus now (calls_row e rows key))
rows_fit now e frames rows key fits =
    let f : Row = calls_row e frames key in
    let r : Row = calls_row e rows key in
    row_fits (plus now r) f (plus now (calls_row e (frames ++ rows) key)) (plus-swap now r f ∙ plus-assoc now f r ∙ ap (plus now) (sym (calls_append e frames rows key))) fits

-- and then the frames are lacking
pub begun : (now then : Option ℕ → Row) (e : Enclosure) (frames rows : List CallRow) → ((key : Option ℕ) → then key ≡ plus (now key) (calls_row e rows key)) → Lacks then e frames (λ key. plus (now key) (calls_row e (frames ++ rows) key))
begun now then e frames rows added key =
    let f : Row = calls_row e frames key in
    let r : Row = calls_row e rows key in
    ap (λ x. plus x f) (added key) ∙ plus-swap (now key) r f ∙ plus-assoc (now key) f r ∙ ap (plus (now key)) (sym (calls_append e frames rows key))

-- a frame that is added to a table, within what encloses it
pub own_fits : (t : Sums) (e : Enclosure) (f : NarrowFrame) (site : ℕ) (closed : ClosedFrame) → site ≡ f.site → closed ≡ enclosed e f.site f.caller (frame_of f)
    → ((key : Option ℕ) → Fits (plus (key_row t key) (call_row e f.site f.caller (frame_of f) key))) → Fits (plus (row_at t site) (frame_row closed))
own_fits t e f site closed of is fits =
    subst (λ n. Fits (plus (row_at t n) (frame_row closed))) (sym of)
    (subst (λ r. Fits (plus (row_at t f.site) r)) (own_row f.site (frame_row (enclosed e f.site f.caller (frame_of f))) ∙ ap frame_row (sym is)) (fits (Some f.site)))

pub added_call : (t u : Sums) (e : Enclosure) (f : NarrowFrame) (site : ℕ) (closed : ClosedFrame) → site ≡ f.site → closed ≡ enclosed e f.site f.caller (frame_of f)
    → IsAdded t u site (frame_row closed) → (key : Option ℕ) → key_row u key ≡ plus (key_row t key) (call_row e f.site f.caller (frame_of f) key)
added_call t u e f site closed of is h key =
    added_key t u site (frame_row closed) h key ∙ ap₂ (λ (n : ℕ) (c : ClosedFrame). plus (key_row t key) (cond (same_key (Some n) key) (frame_row c) zero_row)) of is

-- ---- the frames of a stretch that is joined

-- they fit a table where all its rows do
pub frames_fit : (t : Row) (e : Enclosure) (frames rows : List CallRow) (key : Option ℕ) → Fits (plus t (calls_row e (frames ++ rows) key)) → Fits (plus t (calls_row e frames key))
frames_fit t e frames rows key fits =
    let f : Row = calls_row e frames key in
    let r : Row = calls_row e rows key in
    row_fits (plus t f) r (plus t (calls_row e (frames ++ rows) key)) (plus-assoc t f r ∙ ap (plus t) (sym (calls_append e frames rows key))) fits

-- where they have been added
abbrev pub HasFramesAdded : List CallRow → Seen → Sums → Type 0
HasFramesAdded frames s t = (g : CountedFrame) (gs : List CountedFrame) → s.frames ≡ g ∷ gs → (key : Option ℕ) → key_row t key ≡ plus (key_row s.table key) (calls_row (enclosure g s) frames key)

all_added : (t u : Row) (e : Enclosure) (frames rows : List CallRow) (key : Option ℕ) → u ≡ plus t (calls_row e frames key) → plus u (calls_row e rows key) ≡ plus t (calls_row e (frames ++ rows) key)
all_added t u e frames rows key added =
    let f : Row = calls_row e frames key in
    let r : Row = calls_row e rows key in
    ap (λ x. plus x r) added ∙ plus-assoc t f r ∙ ap (plus t) (sym (calls_append e frames rows key))

pub can_rest : (first : ℕ) (fs : List CountedFrame) (outer : CountedFrame) (more : ℕ) (frames rows : List CallRow) (s : Seen) (t : Sums) → HasFramesAdded frames s t
    → CanJoin first fs outer more (frames ++ rows) s → CanJoin first fs outer more rows (record s { table = t })
can_rest first fs outer more frames rows s t added h = record {
  top = by s.frames refl h.top;
  work = h.work;
  sites = below_right 65536 frames rows h.sites;
  places = h.places;
}
  where
    by : (all : List CountedFrame) → s.frames ≡ all
        → OnTop (λ g. FitsJoin outer g × ((key : Option ℕ) → Fits (plus (key_row s.table key) (calls_row (enclosure g s) (frames ++ rows) key)))) all
        → OnTop (λ g. FitsJoin outer g × ((key : Option ℕ) → Fits (plus (key_row t key) (calls_row (enclosure g s) rows key)))) all
    by [] e h = h
    by (g ∷ gs) e h = (h.0, λ key. subst Fits (sym (all_added (key_row s.table key) (key_row t key) (enclosure g s) frames rows key (added g gs e key))) (h.1 key))

pub all_joined : (first : ℕ) (fs : List CountedFrame) (more : ℕ) (frames rows : List CallRow) (g : CountedFrame) (gs : List CountedFrame) (s new : Seen) (t : Sums) → s.frames ≡ g ∷ gs → HasFramesAdded frames s t
    → IsJoined first fs more rows g gs (record s { table = t }) new → IsJoined first fs more (frames ++ rows) g gs s new
all_joined first fs more frames rows g gs s new t is added h = record {
  frames = h.frames;
  open_sites = h.open_sites;
  open_funcs = h.open_funcs;
  work = h.work;
  table = λ key. h.table key ∙ all_added (key_row s.table key) (key_row t key) (enclosure g s) frames rows key (added g gs is key);
}
