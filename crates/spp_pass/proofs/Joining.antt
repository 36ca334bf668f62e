-- How a stretch goes on, and how it is joined onto what was counted before it.
use Rattle.std.proofs.Common.{◌≡◌, ℕ, zero, suc, ◌+◌, ◌-◌, ◌<◌, ◌≤◌, ◌^◌, Bool, true, false, cond, nat_eq, List, [], ◌∷◌, ◌++◌, length, reverse, take, drop, get_or, set, Option, Some, None, refl, sym, ap, ap₂, subst, ◌∙◌, arith}
use Rattle.std.proofs.lemmas.Grind.{reverse_onto}
use Rattle.std.proofs.lemmas.Bool.{eq-eqb}
use Rattle.std.proofs.lemmas.List.{length-reverse, reverse-append, take_all, get_or-reverse, drop_all}
use Rattle.std.proofs.lemmas.List.Elements.{All-get_or, All-from_recursion}
use Rattle.std.proofs.Math.Seq.{drop-cons, take-suc}
use Rattle.std.specs.List.{AllByRecursion}
use Rattle.spp_dag.specs.declared.row.Row.{Row}
use Rattle.spp_dag.specs.Shares.{plus, zero_row}
use Rattle.spp_site.specs.Rows.{Fits}
use Rattle.spp_site.specs.Table.{Sums, row_at, IsAdded}
use Rattle.spp_site.specs.Profiles.{key_row}
use Rattle.spp_site.specs.Marks.{with_mark}
use Rattle.spp_site.proofs.Rows.{plus-zero, plus-assoc, plus-swap}
use Rattle.spp_site.proofs.LastFirst.{topped}
use Rattle.spp_ways.specs.Enclosures.{Enclosure}
use Rattle.spp_pass.specs.declared.calls.CallRow.{CallRow}
use Rattle.spp_pass.specs.declared.counted_frame.CountedFrame.{CountedFrame}
use Rattle.spp_pass.specs.Passes.{OnTop, caller_in}
use Rattle.spp_pass.specs.Stretches.{stretch_frame, next_frames, placed, placed_frames, with_frames, FitsPlace, FitPlaces}
use Rattle.spp_pass.specs.CallRows.{enclosed_sums, calls_row, AreCallsBelow}
use Rattle.spp_pass.proofs.Bounded.{turned}
use Rattle.spp_site.proofs.Keys.{row_fits}

-- ---- the next stretch

next_last : (ys : List CountedFrame) (r : CountedFrame) → next_frames (ys ++ r ∷ []) ≡ ys ++ stretch_frame ∷ []
next_last [] r = refl
next_last (y ∷ []) r = refl
next_last (y ∷ z ∷ ys) r = ap (λ (l : List CountedFrame). y ∷ l) (next_last (z ∷ ys) r)

pub first_next : (fs : List CountedFrame) → 0 < length fs → reverse (set fs 0 stretch_frame) ≡ next_frames (reverse fs)
first_next [] some = absurd (omega arith)
first_next (r ∷ fs) some = reverse_onto fs stretch_frame [] ∙ sym (next_last (reverse fs) r) ∙ ap next_frames (sym (reverse_onto fs r []))

-- ---- the calls

-- the rows of a table, with those of calls that it lacks
abbrev pub Rest : Sums → Enclosure → List CallRow → (Option ℕ → Row) → Type 0
Rest t e cs whole = (key : Option ℕ) → plus (key_row t key) (calls_row e cs key) ≡ whole key

-- what one adds to that of its site
abbrev pub row_within : Enclosure → CallRow → Row
row_within e c = enclosed_sums e c.site c.caller c.row

pub call_below : (n : ℕ) (cs : List CallRow) (k : ℕ) (d : CallRow) → k < length cs → AreCallsBelow n cs → (get_or cs k d).site < n
call_below n [] k d lt h = absurd (omega arith)
call_below n (c ∷ cs) zero d lt h = h.0
call_below n (c ∷ cs) (suc k) d lt h = call_below n cs k d (omega arith) h.1

pub rest_at : (t : Sums) (e : Enclosure) (cs : List CallRow) (k : ℕ) (d : CallRow) (whole : Option ℕ → Row) → k < length cs → Rest t e (drop k cs) whole → Rest t e (get_or cs k d ∷ drop (k + 1) cs) whole
rest_at t e cs k d whole lt h =
    let next : suc k ≡ k + 1 = omega arith in
    subst (λ l. Rest t e l whole) (drop-cons cs k d lt ∙ ap (λ n. get_or cs k d ∷ drop n cs) next) h

pub call_fits : (t : Sums) (e : Enclosure) (c : CallRow) (cs : List CallRow) (whole : Option ℕ → Row) → Rest t e (c ∷ cs) whole → ((key : Option ℕ) → Fits (whole key))
    → Fits (plus (row_at t c.site) (row_within e c))
call_fits t e c cs whole h fits =
    let key : Option ℕ = Some c.site in
    row_fits (plus (row_at t c.site) (row_within e c)) (calls_row e cs key) (whole key)
    (plus-swap (row_at t c.site) (row_within e c) (calls_row e cs key) ∙ plus-assoc (row_at t c.site) (calls_row e cs key) (row_within e c)
    ∙ ap (λ b. plus (row_at t c.site) (plus (calls_row e cs key) (cond b (row_within e c) zero_row))) (sym (eq-eqb c.site c.site refl)) ∙ h key) (fits key)

pub call_added : (t u : Sums) (e : Enclosure) (c : CallRow) (cs : List CallRow) (whole : Option ℕ → Row) → Rest t e (c ∷ cs) whole → IsAdded t u c.site (row_within e c) → Rest u e cs whole
call_added t u e c cs whole h added None = ap (λ r. plus r (calls_row e cs None)) added.root ∙ ap (λ r. plus t.root r) (sym (plus-zero (calls_row e cs None))) ∙ h None
call_added t u e c cs whole h added (Some s) =
    let key : Option ℕ = Some s in
    ap (λ r. plus r (calls_row e cs key)) (added.sites s ∙ ap (λ b. cond b (plus (row_at t s) (row_within e c)) (row_at t s)) (turned s c.site)) ∙ by (nat_eq c.site s) ∙ h key
  where
    by : (b : Bool) → plus (cond b (plus (row_at t s) (row_within e c)) (row_at t s)) (calls_row e cs (Some s)) ≡ plus (row_at t s) (plus (calls_row e cs (Some s)) (cond b (row_within e c) zero_row))
    by true = plus-swap (row_at t s) (row_within e c) (calls_row e cs (Some s)) ∙ plus-assoc (row_at t s) (calls_row e cs (Some s)) (row_within e c)
    by false = ap (λ r. plus (row_at t s) r) (sym (plus-zero (calls_row e cs (Some s))))

pub rest_none : (t : Sums) (e : Enclosure) (cs : List CallRow) (k : ℕ) (whole : Option ℕ → Row) → length cs ≤ k → Rest t e (drop k cs) whole → (key : Option ℕ) → key_row t key ≡ whole key
rest_none t e cs k whole le h key = sym (plus-zero (key_row t key)) ∙ ap (λ l. plus (key_row t key) (calls_row e l key)) (sym (drop_all k cs le)) ∙ h key

-- ---- the frame in which it begins

-- the last of these
pub record Last (items : List CountedFrame) (last : ℕ) (x g : CountedFrame) (gs : List CountedFrame) : Type 0 where
  pub same : x ≡ g
  pub put : (z : CountedFrame) → reverse (set items last z) ≡ z ∷ gs

pub last_is : (items : List CountedFrame) (last : ℕ) (x g : CountedFrame) (gs : List CountedFrame) → last ≡ length items - 1 → x ≡ get_or items last x → reverse items ≡ g ∷ gs → Last items last x g gs
last_is items last x g gs at is e =
    let n : length (reverse items) ≡ length (g ∷ gs) = ap (λ (l : List CountedFrame). length l) e in
    let t = topped items (let m = length-reverse items in omega arith) in
    let both : t.top ∷ t.below ≡ g ∷ gs = sym t.is ∙ e in
    let head : t.top ≡ g = cc in
    let tail : t.below ≡ gs = cc in
    record {
      same = is ∙ ap (λ k. get_or items k x) at ∙ t.get x ∙ head;
      put = λ z. ap (λ k. reverse (set items k z)) at ∙ t.put z ∙ ap (λ l. z ∷ l) tail;
    }

pub last_has : (P : CountedFrame → Type 0) (items : List CountedFrame) (last : ℕ) (x : CountedFrame) → last ≡ length items - 1 → x ≡ get_or items last x → OnTop P (reverse items) → P x
last_has P items last x at is h = by (reverse items) refl h
  where
    by : (fs : List CountedFrame) → reverse items ≡ fs → OnTop P fs → P x
    by [] e h = absurd h
    by (g ∷ gs) e h = subst P (sym (last_is items last x g gs at is e).same) h

-- ---- the frames

-- the frames of a stretch, innermost first, up to the k-th of its items
abbrev pub upto : CountedFrame → List CountedFrame → ℕ → List CountedFrame
upto outer items k = reverse (outer ∷ take (k - 1) (drop 1 items))

pub upto_some : (outer : CountedFrame) (items : List CountedFrame) (k : ℕ) → 0 < length (upto outer items k)
upto_some outer items k = let n = length-reverse (outer ∷ take (k - 1) (drop 1 items)) in omega arith

pub upto_more : (outer : CountedFrame) (items : List CountedFrame) (k : ℕ) (d : CountedFrame) → 0 < k → k < length items → upto outer items (k + 1) ≡ get_or items k d ∷ upto outer items k
upto_more outer [] k d pos lt = absurd (omega arith)
upto_more outer (i ∷ is) zero d pos lt = absurd (omega arith)
upto_more outer (i ∷ is) (suc k) d pos lt =
    let a : suc k + 1 - 1 ≡ suc k = omega arith in
    let b : k ≡ suc k - 1 = omega arith in
    ap (λ n. reverse (outer ∷ take n is)) a ∙ ap (λ l. reverse (outer ∷ l)) (take-suc is k d (omega arith)) ∙ reverse-append (outer ∷ take k is) (get_or is k d ∷ [])
    ∙ ap (λ n. get_or is k d ∷ reverse (outer ∷ take n is)) b

pub upto_all : (outer : CountedFrame) (items : List CountedFrame) (k : ℕ) → length items ≤ k → 0 < k → upto outer items k ≡ reverse (outer ∷ drop 1 items)
upto_all outer items k le pos = ap (λ l. reverse (outer ∷ l)) (take_all (k - 1) (drop 1 items) (by items le))
  where
    by : (xs : List CountedFrame) → length xs ≤ k → length (drop 1 xs) ≤ k - 1
    by [] le = omega arith
    by (x ∷ xs) le = omega arith

-- one more frame
pub placed_more : (e : Enclosure) (before first : ℕ) (f : CountedFrame) (fs : List CountedFrame) (g : CountedFrame) (gs : List CountedFrame) → 0 < length fs
    → placed_frames e before first (f ∷ fs) g gs ≡ placed e before first (caller_in fs) f ∷ placed_frames e before first fs g gs
placed_more e before first f [] g gs some = absurd (omega arith)
placed_more e before first f (h ∷ fs) g gs some = refl

pub caller_more : (f : CountedFrame) (fs : List CountedFrame) → 0 < length fs → f.func ≡ caller_in (f ∷ fs)
caller_more f [] some = absurd (omega arith)
caller_more f (h ∷ fs) some = refl

pub with_more : (of : CountedFrame → ℕ) (f : CountedFrame) (fs : List CountedFrame) (marks : ℕ → Bool) (y : ℕ) → 0 < length fs → with_frames of (f ∷ fs) marks y ≡ with_mark (of f) (with_frames of fs marks) y
with_more of f [] marks y some = absurd (omega arith)
with_more of f (h ∷ fs) marks y some = refl

-- the frame at k is placed above those before it
pub frames_more : (e : Enclosure) (before first : ℕ) (outer : CountedFrame) (items : List CountedFrame) (k : ℕ) (x p : CountedFrame) (caller : ℕ) (g : CountedFrame) (gs now new : List CountedFrame)
    → 0 < k → k < length items → x ≡ get_or items k x → caller ≡ caller_in (upto outer items k) → p ≡ placed e before first caller x → new ≡ now ++ p ∷ []
    → reverse now ≡ placed_frames e before first (upto outer items k) g gs → reverse new ≡ placed_frames e before first (upto outer items (k + 1)) g gs
frames_more e before first outer items k x p caller g gs now new pos lt is called made pushed h =
    ap reverse pushed ∙ reverse-append now (p ∷ []) ∙ ap₂ (λ (y : CountedFrame) (l : List CountedFrame). y ∷ l) (made ∙ ap (λ n. placed e before first n x) called) h
    ∙ sym (placed_more e before first x (upto outer items k) g gs (upto_some outer items k))
    ∙ ap (λ (l : List CountedFrame). placed_frames e before first l g gs) (ap (λ y. y ∷ upto outer items k) is ∙ sym (upto_more outer items k x pos lt))

pub caller_next : (outer : CountedFrame) (items : List CountedFrame) (k : ℕ) (x : CountedFrame) → 0 < k → k < length items → x ≡ get_or items k x → x.func ≡ caller_in (upto outer items (k + 1))
caller_next outer items k x pos lt is =
    caller_more x (upto outer items k) (upto_some outer items k) ∙ ap caller_in (ap (λ y. y ∷ upto outer items k) is ∙ sym (upto_more outer items k x pos lt))

pub marks_more : (of : CountedFrame → ℕ) (outer : CountedFrame) (items : List CountedFrame) (k : ℕ) (x : CountedFrame) (marks now new : ℕ → Bool) → 0 < k → k < length items → x ≡ get_or items k x
    → ((y : ℕ) → new y ≡ with_mark (of x) now y) → ((y : ℕ) → now y ≡ with_frames of (upto outer items k) marks y) → (y : ℕ) → new y ≡ with_frames of (upto outer items (k + 1)) marks y
marks_more of outer items k x marks now new pos lt is added h y =
    added y ∙ ap (λ (m : ℕ → Bool). with_mark (of x) m y) (λ j z. h z j) ∙ sym (with_more of x (upto outer items k) marks y (upto_some outer items k))
    ∙ ap (λ (l : List CountedFrame). with_frames of l marks y) (ap (λ z. z ∷ upto outer items k) is ∙ sym (upto_more outer items k x pos lt))

-- ---- their places

abbrev pub HasPlace : ℕ → ℕ → CountedFrame → Type 0
HasPlace before first f = (before + f.before < 2 ^ 128) × (first + f.at < 2 ^ 32) × FitsPlace first f.child × FitsPlace first f.burdened_child

all_placed : (before first : ℕ) (fs : List CountedFrame) → FitPlaces before first fs → AllByRecursion (HasPlace before first) fs
all_placed before first [] h = tt
all_placed before first (f ∷ fs) h = ((h.0, h.1, h.2, h.3), all_placed before first fs h.4)

place_in : (before first : ℕ) (items : List CountedFrame) (k : ℕ) (d : CountedFrame) → k < length items → FitPlaces before first (reverse items) → HasPlace before first (get_or items k d)
place_in before first items k d lt h =
    let turn : length (reverse items) ≡ length items = length-reverse items in
    let back : get_or (reverse items) (length items - 1 - k) d ≡ get_or items k d =
    get_or-reverse items (length items - 1 - k) d (omega arith) ∙ ap (λ j. get_or items j d) (let z : length items - 1 - (length items - 1 - k) ≡ k = omega arith in z) in
    subst (HasPlace before first) back
    (All-get_or (HasPlace before first) (reverse items) (length items - 1 - k) d (omega arith) (All-from_recursion (HasPlace before first) (reverse items) (all_placed before first (reverse items) h)))

pub outer_place : (before first : ℕ) (outer : CountedFrame) (fs : List CountedFrame) → FitPlaces before first (reverse (outer ∷ fs)) → HasPlace before first outer
outer_place before first outer fs h = place_in before first (outer ∷ fs) 0 outer (omega arith) h

pub item_place : (before first : ℕ) (outer : CountedFrame) (items : List CountedFrame) (k : ℕ) (x : CountedFrame) → 0 < k → k < length items → x ≡ get_or items k x
    → FitPlaces before first (reverse (outer ∷ drop 1 items)) → HasPlace before first x
item_place before first outer [] k x pos lt is h = absurd (omega arith)
item_place before first outer (i ∷ is') zero x pos lt is h = absurd (omega arith)
item_place before first outer (i ∷ is') (suc k) x pos lt is h = subst (HasPlace before first) (sym is) (place_in before first (outer ∷ is') (suc k) x (omega arith) h)
