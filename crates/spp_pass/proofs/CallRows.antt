-- Rows of the frames that close in a stretch.
use Rattle.std.proofs.Common.{◌≡◌, ℕ, zero, suc, ◌+◌, ◌*◌, ◌<◌, ◌≤◌, ◌^◌, Bool, true, false, cond, not, ◌&&◌, List, [], ◌∷◌, ◌++◌, length, map, get_or, set, Option, Some, refl, sym, ap, ap₂, ◌∙◌, arith}
use Rattle.spp_dag.specs.declared.row.Row.{Row}
use Rattle.spp_dag.specs.Shares.{plus, zero_row}
use Rattle.spp_dag.specs.Steps.{same_key}
use Rattle.spp_site.specs.Rows.{Fits, frame_row}
use Rattle.spp_site.specs.declared.closed_frame.ClosedFrame.{ClosedFrame}
use Rattle.spp_site.proofs.Rows.{plus-zero, plus-assoc, plus-swap}
use Rattle.spp_ways.specs.Enclosures.{Enclosure, is_top_caller, enclosed}
use Rattle.spp_maxplus.specs.Weights.{close}
use Rattle.spp_pass.specs.declared.calls.CallRow.{CallRow}
use Rattle.spp_pass.specs.declared.counted_frame.CountedFrame.{CountedFrame}
use Rattle.spp_pass.specs.LeanFrames.{plain_sum}
use Rattle.spp_pass.specs.Passes.{Seen, closed_of}
use Rattle.spp_pass.specs.CallRows.{enclosed_sums, calls_row, call_row, no_calls, AreCallsBelow, AreAdded, IsLight, AreLight, IsLightFrame}
use Rattle.spp_pass.proofs.Projected.{lean}
use Rattle.spp_pass.proofs.Alone.{Alone, alone_as}

-- ---- rows within what encloses them

kept : (s t : Bool) (x : ℕ) → cond s (cond t x 0) 0 ≡ cond (t && s) x 0
kept true true x = refl
kept true false x = refl
kept false true x = refl
kept false false x = refl

-- that of a frame
pub frame_within : (e : Enclosure) (site caller : ℕ) (f : ClosedFrame) → enclosed_sums e site caller (frame_row f) ≡ frame_row (enclosed e site caller f)
frame_within e site caller f = λ j. record {
  count = 1;
  local = f.local;
  site_count = kept (not (e.sites site)) f.top_site 1 j;
  site_work = kept (not (e.sites site)) f.top_site f.work j;
  site_span = kept (not (e.sites site)) f.top_site f.span j;
  caller_count = kept (is_top_caller e caller) f.top_caller 1 j;
  caller_work = kept (is_top_caller e caller) f.top_caller f.work j;
  caller_span = kept (is_top_caller e caller) f.top_caller f.span j;
}

split : (s : Bool) (x y : ℕ) → cond s (x + y) 0 ≡ cond s x 0 + cond s y 0
split true x y = refl
split false x y = refl

-- that of a sum
pub sum_within : (e : Enclosure) (site caller : ℕ) (a b : Row) → enclosed_sums e site caller (plus a b) ≡ plus (enclosed_sums e site caller a) (enclosed_sums e site caller b)
sum_within e site caller a b = λ j. record {
  count = a.count + b.count;
  local = a.local + b.local;
  site_count = split (not (e.sites site)) a.site_count b.site_count j;
  site_work = split (not (e.sites site)) a.site_work b.site_work j;
  site_span = split (not (e.sites site)) a.site_span b.site_span j;
  caller_count = split (is_top_caller e caller) a.caller_count b.caller_count j;
  caller_work = split (is_top_caller e caller) a.caller_work b.caller_work j;
  caller_span = split (is_top_caller e caller) a.caller_span b.caller_span j;
}

-- ---- another row

more_row : (e : Enclosure) (cs : List CallRow) (c : CallRow) (key : Option ℕ)
    → calls_row e (cs ++ c ∷ []) key ≡ plus (calls_row e cs key) (cond (same_key (Some c.site) key) (enclosed_sums e c.site c.caller c.row) zero_row)
more_row e [] c key = refl
more_row e (d ∷ cs) c key =
    ap (λ r. plus r (cond (same_key (Some d.site) key) (enclosed_sums e d.site d.caller d.row) zero_row)) (more_row e cs c key)
    ∙ plus-swap (calls_row e cs key) (cond (same_key (Some c.site) key) (enclosed_sums e c.site c.caller c.row) zero_row) (cond (same_key (Some d.site) key) (enclosed_sums e d.site d.caller d.row) zero_row)

more_below : (n : ℕ) (cs : List CallRow) (c : CallRow) → AreCallsBelow n cs → c.site < n → AreCallsBelow n (cs ++ c ∷ [])
more_below n [] c h lt = (lt, tt)
more_below n (d ∷ cs) c h lt = (h.0, more_below n cs c h.1 lt)

pub more_added : (site caller : ℕ) (f : ClosedFrame) (cs : List CallRow) → AreAdded site caller f cs (cs ++ (record { row = frame_row f; site = site; caller = caller }) ∷ [])
more_added site caller f cs =
    let c : CallRow = record { row = frame_row f; site = site; caller = caller } in
    record {
      rows = λ e key. more_row e cs c key ∙ ap (λ r. plus (calls_row e cs key) (cond (same_key (Some site) key) r zero_row)) (frame_within e site caller f);
      below = λ n h lt. more_below n cs c h lt;
    }

-- ---- a row that is there

-- with that one changed
abbrev pub with_frame : List CallRow → ℕ → ClosedFrame → List CallRow
with_frame cs k f = set cs k (record (get_or cs k no_calls) { row = plus (get_or cs k no_calls).row (frame_row f) })

by_cond : (b : Bool) (x a c : Row) → plus x (cond b (plus a c) zero_row) ≡ plus (plus x (cond b a zero_row)) (cond b c zero_row)
by_cond true x a c = sym (plus-assoc x a c)
by_cond false x a c = sym (ap (λ r. plus r zero_row) (plus-zero x))

set_row : (e : Enclosure) (cs : List CallRow) (k : ℕ) (f : ClosedFrame) (key : Option ℕ) → k < length cs
    → calls_row e (with_frame cs k f) key ≡ plus (calls_row e cs key) (call_row e (get_or cs k no_calls).site (get_or cs k no_calls).caller f key)
set_row e [] k f key lt = absurd (omega arith)
set_row e (c ∷ cs) zero f key lt =
    ap (λ r. plus (calls_row e cs key) (cond (same_key (Some c.site) key) r zero_row)) (sum_within e c.site c.caller c.row (frame_row f) ∙ ap (plus (enclosed_sums e c.site c.caller c.row)) (frame_within e c.site c.caller f))
    ∙ by_cond (same_key (Some c.site) key) (calls_row e cs key) (enclosed_sums e c.site c.caller c.row) (frame_row (enclosed e c.site c.caller f))
set_row e (c ∷ cs) (suc k) f key lt =
    ap (λ r. plus r (cond (same_key (Some c.site) key) (enclosed_sums e c.site c.caller c.row) zero_row)) (set_row e cs k f key (omega arith))
    ∙ plus-swap (calls_row e cs key) (call_row e (get_or cs k no_calls).site (get_or cs k no_calls).caller f key) (cond (same_key (Some c.site) key) (enclosed_sums e c.site c.caller c.row) zero_row)

set_below : (n : ℕ) (cs : List CallRow) (k : ℕ) (f : ClosedFrame) → AreCallsBelow n cs → AreCallsBelow n (with_frame cs k f)
set_below n [] k f h = tt
set_below n (c ∷ cs) zero f h = h
set_below n (c ∷ cs) (suc k) f h = (h.0, set_below n cs k f h.1)

pub set_added : (site caller : ℕ) (f : ClosedFrame) (cs : List CallRow) (k : ℕ) → k < length cs → (get_or cs k no_calls).site ≡ site → (get_or cs k no_calls).caller ≡ caller → AreAdded site caller f cs (with_frame cs k f)
set_added site caller f cs k lt of by = record {
  rows = λ e key. set_row e cs k f key lt ∙ ap₂ (λ s c. plus (calls_row e cs key) (call_row e s c f key)) of by;
  below = λ n h lt. set_below n cs k f h;
}

-- ---- sums that fit

frame_light : (f : ClosedFrame) → IsLightFrame f → IsLight 1 (frame_row f)
frame_light f h = record {
  count = omega arith;
  local = (let l = h.local in omega arith);
  site_count = one f.top_site;
  site_work = part f.top_site f.work h.work;
  site_span = part f.top_site f.span h.span;
  caller_count = one f.top_caller;
  caller_work = part f.top_caller f.work h.work;
  caller_span = part f.top_caller f.span h.span;
}
  where
    one : (t : Bool) → cond t 1 0 ≤ 1
    one true = omega arith
    one false = omega arith

    part : (t : Bool) (x : ℕ) → x ≤ 4951760157141521099596496896 → cond t x 0 ≤ 1 * 4951760157141521099596496896
    part true x le = omega arith
    part false x le = omega arith

pub light_more : (n : ℕ) (a : Row) (f : ClosedFrame) → IsLight n a → IsLightFrame f → IsLight (n + 1) (plus a (frame_row f))
light_more n a f h light =
    let g = frame_light f light in
    record {
      count = (let x = h.count in let y = g.count in omega arith);
      local = (let x = h.local in let y = g.local in omega arith);
      site_count = (let x = h.site_count in let y = g.site_count in omega arith);
      site_work = (let x = h.site_work in let y = g.site_work in omega arith);
      site_span = (let x = h.site_span in let y = g.site_span in omega arith);
      caller_count = (let x = h.caller_count in let y = g.caller_count in omega arith);
      caller_work = (let x = h.caller_work in let y = g.caller_work in omega arith);
      caller_span = (let x = h.caller_span in let y = g.caller_span in omega arith);
    }

pub light_fits : (n : ℕ) (a : Row) → n < 2 ^ 33 → IsLight n a → Fits a
light_fits n a few h = record {
  count = (let x = h.count in omega arith);
  local = (let x = h.local in omega arith);
  site_count = (let x = h.site_count in omega arith);
  site_work = (let x = h.site_work in omega arith);
  site_span = (let x = h.site_span in omega arith);
  caller_count = (let x = h.caller_count in omega arith);
  caller_work = (let x = h.caller_work in omega arith);
  caller_span = (let x = h.caller_span in omega arith);
}

light_as : (n m : ℕ) (a : Row) → n ≤ m → IsLight n a → IsLight m a
light_as n m a le h = record {
  count = (let x = h.count in omega arith);
  local = (let x = h.local in omega arith);
  site_count = (let x = h.site_count in omega arith);
  site_work = (let x = h.site_work in omega arith);
  site_span = (let x = h.site_span in omega arith);
  caller_count = (let x = h.caller_count in omega arith);
  caller_work = (let x = h.caller_work in omega arith);
  caller_span = (let x = h.caller_span in omega arith);
}

pub all_light_as : (n m : ℕ) (cs : List CallRow) → n ≤ m → AreLight n cs → AreLight m cs
all_light_as n m [] le h = tt
all_light_as n m (c ∷ cs) le h = (light_as n m c.row le h.0, all_light_as n m cs le h.1)

pub light_at : (n : ℕ) (cs : List CallRow) (k : ℕ) → k < length cs → AreLight n cs → IsLight n (get_or cs k no_calls).row
light_at n [] k lt h = absurd (omega arith)
light_at n (c ∷ cs) zero lt h = h.0
light_at n (c ∷ cs) (suc k) lt h = light_at n cs k (omega arith) h.1

pub set_light : (n : ℕ) (cs : List CallRow) (k : ℕ) (f : ClosedFrame) → AreLight n cs → IsLightFrame f → AreLight (n + 1) (with_frame cs k f)
set_light n [] k f h light = tt
set_light n (c ∷ cs) zero f h light = (light_more n c.row f h.0 light, all_light_as n (n + 1) cs (omega arith) h.1)
set_light n (c ∷ cs) (suc k) f h light = (light_as n (n + 1) c.row (omega arith) h.0, set_light n cs k f h.1 light)

pub push_light : (n : ℕ) (cs : List CallRow) (site caller : ℕ) (f : ClosedFrame) → AreLight n cs → IsLightFrame f → AreLight (n + 1) (cs ++ (record { row = frame_row f; site = site; caller = caller }) ∷ [])
push_light n [] site caller f h light = (light_as 1 (n + 1) (frame_row f) (omega arith) (frame_light f light), tt)
push_light n (c ∷ cs) site caller f h light = (light_as n (n + 1) c.row (omega arith) h.0, push_light n cs site caller f h.1 light)

-- a frame of a stretch, after k events
pub closed_light : (k : ℕ) (a : Seen) (f : CountedFrame) (fs : List CountedFrame) → Alone k a → a.frames ≡ f ∷ fs → k ≤ 268435456 → IsLightFrame (closed_of f a.work)
closed_light k a f fs alone is few =
    let al = alone_as k a (f ∷ fs) is alone in
    let small : a.work ≤ 18446744073709551615 * k = al.small in
    let local : f.local ≤ a.work = al.within.0.0 in
    let weights : close f.plain + plain_sum (map lean fs) ≤ a.work = al.plain in
    record { local = omega arith; work = omega arith; span = omega arith }
