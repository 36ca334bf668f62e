-- The marks of neighbouring parts make those of both together.
use Rattle.std.proofs.Common.{◌≡◌, ℕ, zero, suc, ◌+◌, ◌-◌, ◌<◌, ◌≤◌, List, [], ◌∷◌, ◌++◌, length, take, drop, Some, inl, inr, refl, sym, ap, subst, ◌∙◌, arith}
use Rattle.std.specs.Prelude.{slice_get}
use Rattle.std.proofs.Math.Seq.{take-add}
use Rattle.std.proofs.lemmas.Bool.{cases_lt}
use Rattle.std.proofs.lemmas.List.{drop-drop}
use Rattle.std.proofs.lemmas.List.Sums.{sum_by-append, sum_by-cons}
use Rattle.spp_event.specs.declared.records.Event.{Event}
use Rattle.spp_cut.specs.Parts.{PartOf, CutOf, events_in}
use Rattle.spp_maxplus.specs.declared.state.Burdens.{Burdens}
use Rattle.spp_path.specs.Marks.{IsMark, AreMarksOf}
use Rattle.spp_jobs.specs.Names.{parts_from}
use Rattle.spp_jobs.proofs.Begins.{begin_in}

-- ---- how many events parts have

pub begin_events : (ps : List PartOf) (k : ℕ) → begin_in ps k ≡ events_in (take k ps)
begin_events [] zero = refl
begin_events [] (suc k) = refl
begin_events (p ∷ ps) zero = refl
begin_events (p ∷ ps) (suc k) = let h = begin_events ps k in let c = sum_by-cons (λ (q : PartOf). q.count) p (take k ps) in omega arith

-- the parts from i on up to k are those up to j, and those from there on
pub parts_parted : (cut : CutOf) (i j k : ℕ) → i ≤ j → j ≤ k → parts_from cut i k ≡ parts_from cut i j ++ parts_from cut j k
parts_parted cut i j k le more =
    let n : k - i ≡ (j - i) + (k - j) = omega arith in
    let m : i + (j - i) ≡ j = omega arith in
    ap (λ x. take x (drop i cut.parts)) n ∙ take-add (j - i) (k - j) (drop i cut.parts)
    ∙ ap (λ ps. take (j - i) (drop i cut.parts) ++ take (k - j) ps) (drop-drop (j - i) i cut.parts ∙ ap (λ x. drop x cut.parts) m)

pub events_parted : (cut : CutOf) (i j k : ℕ) → i ≤ j → j ≤ k → events_in (parts_from cut i k) ≡ events_in (parts_from cut i j) + events_in (parts_from cut j k)
events_parted cut i j k le more =
    ap (λ (ps : List PartOf). events_in ps) (parts_parted cut i j k le more) ∙ sum_by-append (λ (q : PartOf). q.count) (parts_from cut i j) (parts_from cut j k)

pub events_to : (cut : CutOf) (i j : ℕ) → i ≤ j → events_in (take j cut.parts) ≡ events_in (take i cut.parts) + events_in (parts_from cut i j)
events_to cut i j le =
    let n : j ≡ i + (j - i) = omega arith in
    ap (λ x. events_in (take x cut.parts)) n
    ∙ ap (λ (ps : List PartOf). events_in ps) (take-add i (j - i) cut.parts) ∙ sum_by-append (λ (q : PartOf). q.count) (take i cut.parts) (parts_from cut i j)

-- ---- marks

slice_get_left : (xs ys : List ℕ) (k : ℕ) → k < length xs → slice_get (xs ++ ys) k ≡ slice_get xs k
slice_get_left [] ys k lt = absurd (omega arith)
slice_get_left (x ∷ xs) ys zero lt = refl
slice_get_left (x ∷ xs) ys (suc k) lt = slice_get_left xs ys k (omega arith)

slice_get_right : (xs ys : List ℕ) (k : ℕ) → slice_get (xs ++ ys) (length xs + k) ≡ slice_get ys k
slice_get_right [] ys k = ap (λ n. slice_get ys n) (let z : 0 + k ≡ k = omega arith in z)
slice_get_right (x ∷ xs) ys k = ap (λ n. slice_get (x ∷ (xs ++ ys)) n) (let z : length (x ∷ xs) + k ≡ suc (length xs + k) = omega arith in z) ∙ slice_get_right xs ys k

-- those of some events, and those of the events behind them
pub marks_two : (es : List Event) (b : Burdens) (first second : ℕ) (xs ys : List ℕ) → second ≡ first + length xs → AreMarksOf es b first xs → AreMarksOf es b second ys
    → AreMarksOf es b first (xs ++ ys)
marks_two es b first second xs ys at left right k x is ps path = elim (cases_lt k (length xs)) [
  | inl lt ↦ left k x (sym (slice_get_left xs ys k lt) ∙ is) ps path
  | inr le ↦
      let n : length xs + (k - length xs) ≡ k = omega arith in
      let got : slice_get ys (k - length xs) ≡ Some x = sym (slice_get_right xs ys (k - length xs)) ∙ ap (λ j. slice_get (xs ++ ys) j) n ∙ is in
      let same : second + (k - length xs) ≡ first + k = omega arith in
      subst (λ j. IsMark ps j x) same (right (k - length xs) x got ps path)
]

-- the first of some first ones
take_fewer : (h n : ℕ) (qs : List PartOf) → h ≤ n → take h (take n qs) ≡ take h qs
take_fewer zero n qs le = refl
take_fewer (suc h) zero qs le = absurd (omega arith)
take_fewer (suc h) (suc n) [] le = refl
take_fewer (suc h) (suc n) (q ∷ qs) le = ap (λ (ps : List PartOf). q ∷ ps) (take_fewer h n qs (omega arith))

-- the first parts of a range, as it is lent
pub range_events : (cut : CutOf) (read : List PartOf) (i k h : ℕ) → read ≡ cut.parts → h ≤ k - i → events_in (take h (take (k - i) (drop i read))) ≡ events_in (parts_from cut i (i + h))
range_events cut read i k h same le =
    let m : (i + h) - i ≡ h = omega arith in
    ap (λ (qs : List PartOf). events_in (take h (take (k - i) (drop i qs)))) same
    ∙ ap (λ (qs : List PartOf). events_in qs) (take_fewer h (k - i) (drop i cut.parts) le) ∙ ap (λ x. events_in (take x (drop i cut.parts))) (sym m)
