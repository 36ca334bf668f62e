-- The strands of open frames come to their rows, one frame after another.
use Rattle.std.proofs.Common.{◌≡◌, ℕ, suc, ◌+◌, ◌-◌, ◌<◌, ◌≤◌, Bool, true, false, cond, List, [], ◌∷◌, ◌++◌, length, reverse, drop, get_or, Option, refl, sym, ap, ap₂, subst, ◌∙◌, arith}
use Rattle.std.proofs.lemmas.Grind.{reverse_onto}
use Rattle.std.proofs.lemmas.List.{drop_all, length-reverse, get_or-reverse}
use Rattle.std.proofs.lemmas.List.Elements.{All-get_or, All-from_recursion}
use Rattle.std.proofs.Math.Seq.{drop-cons}
use Rattle.spp_dag.specs.declared.row.Row.{Row}
use Rattle.spp_dag.specs.Shares.{plus, zero_row}
use Rattle.spp_dag.specs.Steps.{same_key, strand_row}
use Rattle.spp_site.specs.Rows.{Fits}
use Rattle.spp_site.specs.Table.{Sums}
use Rattle.spp_site.proofs.Keys.{row_fits}
use Rattle.spp_site.proofs.Rows.{plus-zero, zero-plus, plus-assoc}
use Rattle.spp_dag.proofs.Shares.{same_rows}
use Rattle.spp_site.specs.Profiles.{key_row}
use Rattle.spp_pass.specs.declared.counted_frame.CountedFrame.{CountedFrame}
use Rattle.spp_pass.specs.Outside.{frame_key, local_rows, AreBelow, AreStrandsAdded}
use Rattle.spp_pass.proofs.Bounded.{same_self}

plus-turn : (a b : Row) → plus a b ≡ plus b a
plus-turn a b = same_rows _ _ (omega arith) (omega arith) (omega arith) (omega arith) (omega arith) (omega arith) (omega arith) (omega arith)

pub local_rows-append : (xs ys : List CountedFrame) (key : Option ℕ) → local_rows (xs ++ ys) key ≡ plus (local_rows xs key) (local_rows ys key)
local_rows-append [] ys key = sym (zero-plus (local_rows ys key))
local_rows-append (x ∷ xs) ys key =
    let r : Row = cond (same_key (frame_key x) key) (strand_row x.local) zero_row in
    ap (λ q. plus r q) (local_rows-append xs ys key) ∙ sym (plus-assoc r (local_rows xs key) (local_rows ys key))

pub local_rows-reverse : (xs : List CountedFrame) (key : Option ℕ) → local_rows (reverse xs) key ≡ local_rows xs key
local_rows-reverse [] key = refl
local_rows-reverse (x ∷ xs) key =
    let r : Row = cond (same_key (frame_key x) key) (strand_row x.local) zero_row in
    ap (λ l. local_rows l key) (reverse_onto xs x []) ∙ local_rows-append (reverse xs) (x ∷ []) key
    ∙ ap₂ plus (local_rows-reverse xs key) (plus-zero r) ∙ plus-turn (local_rows xs key) r

-- each of the frames is as all are, in whichever order they are told
pub one_below : (n : ℕ) (items read : List CountedFrame) (k : ℕ) (d : CountedFrame) → read ≡ items → k < length read → AreBelow n (reverse items) → (get_or read k d).site < n
one_below n items read k d same lt h =
    let len : length read ≡ length items = ap (λ (l : List CountedFrame). length l) same in
    let turned : length (reverse items) ≡ length items = length-reverse items in
    let back : get_or (reverse items) (length items - 1 - k) d ≡ get_or items k d =
    get_or-reverse items (length items - 1 - k) d (omega arith) ∙ ap (λ j. get_or items j d) (let z : length items - 1 - (length items - 1 - k) ≡ k = omega arith in z) in
    subst (λ (f : CountedFrame). f.site < n) (back ∙ ap (λ (l : List CountedFrame). get_or l k d) (sym same))
    (All-get_or (λ (f : CountedFrame). f.site < n) (reverse items) (length items - 1 - k) d (omega arith) (All-from_recursion (λ (f : CountedFrame). f.site < n) (reverse items) h))

-- the rows of a table, with the strands that it lacks
abbrev pub Whole : Sums → List CountedFrame → (Option ℕ → Row) → Type 0
Whole t fs whole = (key : Option ℕ) → plus (key_row t key) (local_rows fs key) ≡ whole key

-- the next frame's strands fit its row
pub next_fits : (t : Sums) (f : CountedFrame) (fs : List CountedFrame) (whole : Option ℕ → Row) → Whole t (f ∷ fs) whole → ((key : Option ℕ) → Fits (whole key))
    → Fits (plus (key_row t (frame_key f)) (strand_row f.local))
next_fits t f fs whole h fits =
    let key : Option ℕ = frame_key f in
    row_fits (plus (key_row t key) (strand_row f.local)) (local_rows fs key) (whole key)
    (plus-assoc (key_row t key) (strand_row f.local) (local_rows fs key)
    ∙ ap (λ c. plus (key_row t key) (plus (cond c (strand_row f.local) zero_row) (local_rows fs key))) (sym (same_self key)) ∙ h key) (fits key)

-- and are added
pub next_whole : (t u : Sums) (f : CountedFrame) (fs : List CountedFrame) (whole : Option ℕ → Row) → Whole t (f ∷ fs) whole → AreStrandsAdded t u (frame_key f) f.local
    → Whole u fs whole
next_whole t u f fs whole h added key = ap (λ r. plus r (local_rows fs key)) (added key) ∙ by (same_key (frame_key f) key) ∙ h key
  where
    by : (c : Bool) → plus (cond c (plus (key_row t key) (strand_row f.local)) (key_row t key)) (local_rows fs key)
        ≡ plus (key_row t key) (plus (cond c (strand_row f.local) zero_row) (local_rows fs key))
    by true = plus-assoc (key_row t key) (strand_row f.local) (local_rows fs key)
    by false = ap (λ r. plus (key_row t key) r) (sym (zero-plus (local_rows fs key)))

-- ---- by index

module _ (t : Sums) (items read : List CountedFrame) (k : ℕ) (d : CountedFrame) (whole : Option ℕ → Row) (same : read ≡ items) (lt : k < length read) (h : Whole t (drop k items) whole) where
  here : Whole t (get_or read k d ∷ drop (k + 1) items) whole
  here =
      let within : k < length items = (let z : length read ≡ length items = ap (λ (l : List CountedFrame). length l) same in omega arith) in
      let next : suc k ≡ k + 1 = omega arith in
      subst (λ l. Whole t l whole)
      (drop-cons items k d within ∙ ap₂ (λ (x : CountedFrame) (l : List CountedFrame). x ∷ l) (ap (λ (l : List CountedFrame). get_or l k d) (sym same)) (ap (λ n. drop n items) next)) h

  pub open_fits : ((key : Option ℕ) → Fits (whole key)) → Fits (plus (key_row t (frame_key (get_or read k d))) (strand_row (get_or read k d).local))
  open_fits fits = next_fits t (get_or read k d) (drop (k + 1) items) whole here fits

  pub open_whole : (u : Sums) → AreStrandsAdded t u (frame_key (get_or read k d)) (get_or read k d).local → Whole u (drop (k + 1) items) whole
  open_whole u added = next_whole t u (get_or read k d) (drop (k + 1) items) whole here added

pub all_whole : (t : Sums) (items read : List CountedFrame) (k : ℕ) (whole : Option ℕ → Row) → read ≡ items → length read ≤ k → Whole t (drop k items) whole → (key : Option ℕ) → key_row t key ≡ whole key
all_whole t items read k whole same le h key =
    let past : length items ≤ k = (let z : length read ≡ length items = ap (λ (l : List CountedFrame). length l) same in omega arith) in
    sym (plus-zero (key_row t key)) ∙ ap (λ l. plus (key_row t key) (local_rows l key)) (sym (drop_all k items past)) ∙ h key
