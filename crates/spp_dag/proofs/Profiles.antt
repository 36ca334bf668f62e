-- Every frame has one span, so a row has one value; and a well-formed trace has one profile.
use Rattle.std.proofs.Common.{◌≡◌, ℕ, zero, suc, ◌+◌, ◌≤◌, ◌<◌, Bool, true, false, ◌&&◌, ◌||◌, refl, arith, sym, ◌∙◌, ap, subst, inl, inr, List, [], ◌∷◌, length, Option, Some, None, Ok, nat_eq}
use Rattle.std.proofs.lemmas.List.Sums.{sum_by-cons}
use Rattle.std.proofs.lemmas.Bool.{and_parts, or_cases, eqb-true, eq-eqb}
use Rattle.spp_event.specs.declared.records.Event.{Event}
use Rattle.spp_event.specs.declared.records.Event.TheVariants.{Strand, Call, Spawn, Ret, Sync}
use Rattle.spp_frame.specs.Nesting as nesting
use Rattle.spp_maxplus.specs.declared.state.Burdens.{Burdens}
use Rattle.spp_maxplus.specs.State.{unburdened, close}
use Rattle.spp_dag.specs.Trace.{records, event_at, weight, weight_of, closing, is_frame, IsWellFormed}
use Rattle.spp_dag.specs.Dag.{IsGreatest}
use Rattle.spp_dag.specs.Rows.{is_of, is_top_site, is_top_caller, work, row, everywhere, contains, AreSpans}
use Rattle.spp_dag.specs.Ranges.{within}
use Rattle.spp_dag.specs.Laws.{SpansAreOne, SharesAreOne, ContainsPassed, RootWorkIsAll, HasProfile, ProfileIsOne}
use Rattle.spp_dag.proofs.Machine.{Frame, stack, shape}
use Rattle.spp_dag.proofs.Span.{closes_with_greatest}
use Rattle.spp_dag.proofs.Ties.{path_exists, path_unique, closing_inside}
use Rattle.spp_dag.proofs.Sums.{sum-same, sum-front}
use Rattle.spp_dag.proofs.Shares.{same_rows, site_opens}

-- ---- spans

-- greatest weights are one
pub greatest_one : (es : List Event) (b : Burdens) (x y v w : ℕ) → IsGreatest es b x y v → IsGreatest es b x y w → v ≡ w
greatest_one es b x y v w g h =
    let a = h.1 g.0.0 v g.0.1 in
    let c = g.1 h.0.0 w h.0.1 in
    omega arith

-- what the innermost frame of a stack closes with
abbrev top_close : List Frame → ℕ
top_close [] = 0
top_close (f ∷ fs) = close f.state

abbrev pub spans_of : List Event → ℕ → ℕ
spans_of es f = top_close (stack es 1 (λ _. 0) (λ _. 0) (closing es f))

pub are_spans : (es : List Event) → IsWellFormed es → AreSpans es (spans_of es)
are_spans es wf f t =
    let h = shape es 1 (λ _. 0) (λ _. 0) wf (closing es f) (closing_inside es wf 0 0 f t) in
    subst (λ fs. IsGreatest es unburdened f (closing es f) (top_close fs)) (sym h.is) (closes_with_greatest es unburdened wf f t h)

-- the frames of a row are frames
pub row_frame : (es : List Event) (key : Option ℕ) (f : ℕ) → is_of es key f ≡ true → is_frame es f ≡ true
row_frame es None f e = subst (λ k. is_frame es k ≡ true) (sym (eqb-true f 0 e)) refl
row_frame es (Some site) zero e = refl
row_frame es (Some site) (suc o) e = site_opens (event_at es o) (Some site) e

pub rows_one : (es : List Event) (root : ℕ) (on : ℕ → Bool) (a b : ℕ → ℕ) (key : Option ℕ) → AreSpans es a → AreSpans es b → row es root a on key ≡ row es root b on key
rows_one es root on a b key g h =
    let n : ℕ = suc (length es) in
    let frame = λ (mark : ℕ → Bool) (f : ℕ) (e : ((on f && is_of es key f) && mark f) ≡ true).
    row_frame es key f (and_parts (on f) (is_of es key f) (and_parts (on f && is_of es key f) (mark f) e).0).1 in
    let same = λ (mark : ℕ → Bool) (f : ℕ) (l : f < n) (e : ((on f && is_of es key f) && mark f) ≡ true).
    greatest_one es unburdened f (closing es f) (a f) (b f) (g f (frame mark f e)) (h f (frame mark f e)) in
    same_rows _ _ refl refl refl refl
    (sum-same _ _ a b n (λ f l. refl) (same (is_top_site es)))
    refl refl
    (sum-same _ _ a b n (λ f l. refl) (same (is_top_caller es root)))

pub shares_one : SharesAreOne
shares_one es root on a b key from end g h =
    let n : ℕ = suc (length es) in
    let frame = λ (mark : ℕ → Bool) (f : ℕ) (e : (((on f && is_of es key f) && within from end (closing es f)) && mark f) ≡ true).
    row_frame es key f (and_parts (on f) (is_of es key f)
    (and_parts (on f && is_of es key f) (within from end (closing es f))
    (and_parts ((on f && is_of es key f) && within from end (closing es f)) (mark f) e).0).0).1 in
    let same = λ (mark : ℕ → Bool) (f : ℕ) (l : f < n) (e : (((on f && is_of es key f) && within from end (closing es f)) && mark f) ≡ true).
    greatest_one es unburdened f (closing es f) (a f) (b f) (g f (frame mark f e)) (h f (frame mark f e)) in
    same_rows _ _ refl refl refl refl
    (sum-same _ _ a b n (λ f l. refl) (same (is_top_site es)))
    refl refl
    (sum-same _ _ a b n (λ f l. refl) (same (is_top_caller es root)))

pub spans_law : SpansAreOne
spans_law es wf = ((spans_of es, are_spans es wf), rows_one es)

-- ---- the work of the root

pub root_work : RootWorkIsAll
root_work [] = refl
root_work (x ∷ es) =
    let a : work (x ∷ es) 0 ≡ weight (x ∷ es) 0 + work es 0 = sum-front (weight (x ∷ es)) (suc (length es)) in
    let b : nesting.work (records (x ∷ es)) ≡ nesting.weight (Ok x) + nesting.work (records es) = sum_by-cons nesting.weight (Ok x) (records es) in
    let c : work es 0 ≡ nesting.work (records es) = root_work es in
    let d : weight (x ∷ es) 0 ≡ nesting.weight (Ok x) = same x in
    omega arith
  where
    same : (e : Event) → weight_of (Some e) ≡ nesting.weight (Ok e)
    same (Strand n) = refl
    same (Call s f) = refl
    same (Spawn s f) = refl
    same Ret = refl
    same Sync = refl

-- ---- the path as a test

pub contains_passed : ContainsPassed
contains_passed x [] i = (
  (λ h. elim (or_cases (nat_eq x i) false h) [ inl t ↦ sym (eqb-true x i t) | inr t ↦ (let z = t in cc) ]),
  (λ h. let t : nat_eq x i ≡ true = eq-eqb x i (sym h) in ap (λ b. b || false) t),
)
contains_passed x (u ∷ ps) i =
    let r = contains_passed u ps i in (
      (λ h. elim (or_cases (nat_eq x i) (contains (u ∷ ps) i) h) [ inl t ↦ inl (sym (eqb-true x i t)) | inr t ↦ inr (r.0 t) ]),
      (λ h. elim h [
        | inl e ↦ (let t : nat_eq x i ≡ true = eq-eqb x i (sym e) in ap (λ b. b || contains (u ∷ ps) i) t)
        | inr e ↦ either (nat_eq x i) (contains (u ∷ ps) i) (r.1 e)
      ]),
    )
  where
    either : (a b : Bool) → b ≡ true → (a || b) ≡ true
    either true b e = refl
    either false b e = e

-- ---- the profile

pub has_profile : HasProfile
has_profile es wf root burdens =
    let path = path_exists es wf unburdened 0 refl in
    let way = path_exists es wf burdens 0 refl in
    let l : length es ≤ length es = omega arith in
    let h = shape es 1 (λ _. burdens.continuation) (λ _. burdens.join) wf (length es) l in (
      record {
        work = nesting.work (records es);
        span = spans_of es 0;
        burdened_span = close h.top.state;
        dag = row es root (spans_of es) everywhere;
        path = row es root (spans_of es) (contains (0 ∷ path.0));
        burdened_path = row es root (spans_of es) (contains (0 ∷ way.0));
      },
      record {
        well_formed = wf;
        work = refl;
        span = are_spans es wf 0 refl;
        burdened_span = closes_with_greatest es burdens wf 0 refl h;
        spans = spans_of es;
        are_spans = are_spans es wf;
        rest = path.0;
        is_path = path.1;
        dag = λ key. refl;
        path = λ key. refl;
        burdened_rest = way.0;
        is_burdened_path = way.1;
        burdened_path = λ key. refl;
      },
    )

pub profile_is_one : ProfileIsOne
profile_is_one es root burdens p q a b =
    let same : a.rest ≡ b.rest = path_unique es unburdened 0 (length es) a.rest b.rest a.is_path b.is_path in
    let way : a.burdened_rest ≡ b.burdened_rest = path_unique es burdens 0 (length es) a.burdened_rest b.burdened_rest a.is_burdened_path b.is_burdened_path in (
      a.work ∙ sym b.work,
      greatest_one es unburdened 0 (length es) p.span q.span a.span b.span,
      greatest_one es burdens 0 (length es) p.burdened_span q.burdened_span a.burdened_span b.burdened_span,
      λ key. (
        a.dag key ∙ rows_one es root everywhere a.spans b.spans key a.are_spans b.are_spans ∙ sym (b.dag key),
        a.path key ∙ rows_one es root (contains (0 ∷ a.rest)) a.spans b.spans key a.are_spans b.are_spans
            ∙ ap (λ ps. row es root b.spans (contains (0 ∷ ps)) key) same ∙ sym (b.path key),
        a.burdened_path key ∙ rows_one es root (contains (0 ∷ a.burdened_rest)) a.spans b.spans key a.are_spans b.are_spans
            ∙ ap (λ ps. row es root b.spans (contains (0 ∷ ps)) key) way ∙ sym (b.burdened_path key),
      ),
    )
