-- What the trace says of the open frames, how one event moves the machine, and the work as far as a position.
use Rattle.std.proofs.Common.{◌≡◌, ℕ, zero, suc, ◌+◌, ◌≤◌, true, cond, refl, arith, sym, ◌∙◌, ap, ap₂, subst, inl, inr, List, [], ◌∷◌, ◌++◌, length, take, Option, Some, None, Ok, nat_le, length-take}
use Rattle.std.proofs.lemmas.Bool.{cases_lt, cond-true, le-leb, lt-leb}
use Rattle.std.proofs.lemmas.List.{take_all}
use Rattle.std.proofs.lemmas.List.Sums.{sum_by-cons}
use Rattle.std.proofs.lemmas.Option.{slice_get_past}
use Rattle.spp_event.specs.declared.records.Event.{Event}
use Rattle.spp_event.specs.declared.records.Event.TheVariants.{Strand, Call, Spawn, Ret, Sync}
use Rattle.spp_event.specs.Recordings.{Record}
use Rattle.spp_frame.specs.Nesting as nesting
use Rattle.spp_maxplus.specs.declared.state.Burdens.{Burdens}
use Rattle.spp_dag.specs.declared.stack.OpenFrame.{OpenFrame}
use Rattle.spp_dag.specs.declared.stack.FrameKind.{FrameKind}
use Rattle.spp_dag.specs.declared.stack.FrameKind.TheVariants.{Root, Called, Spawned}
use Rattle.spp_dag.specs.Ranges.{sum_where}
use Rattle.spp_dag.specs.Trace.{records, event_at, weight, weight_of, opens, is_frame, IsWellFormed}
use Rattle.spp_dag.specs.Rows.{site_of, func_of, entered_by, function_of}
use Rattle.spp_dag.specs.Stack.{advance, run, root_frame}
use Rattle.spp_dag.specs.Laws.{run_on}
use Rattle.spp_dag.specs.Choices.{first_of}
use Rattle.spp_dag.specs.Steps.{site_by}
use Rattle.spp_dag.proofs.Depth.{inside, slice_get_no}
use Rattle.spp_dag.proofs.Pieces.{run-append}
use Rattle.spp_dag.proofs.Stacks.{stack_stands}
use Rattle.spp_dag.proofs.Sums.{sum-none}

-- ---- the event that opened a frame is that of the trace

abbrev pub TracedBy : List Event → ℕ → FrameKind → ℕ → ℕ → ℕ → Type 0
TracedBy es root Root at site func = func ≡ root
TracedBy es root Called at site func = event_at es at ≡ Some (Call site func)
TracedBy es root Spawned at site func = event_at es at ≡ Some (Spawn site func)

abbrev pub AllTraced : List Event → ℕ → List OpenFrame → Type 0
AllTraced es root [] = Unit {0}
AllTraced es root (f ∷ fs) = TracedBy es root f.kind f.at f.site f.func × AllTraced es root fs

abbrev AllSome : List Event → ℕ → Option (List OpenFrame) → Type 0
AllSome es root None = Unit {0}
AllSome es root (Some fs) = AllTraced es root fs

pub site_is : (es : List Event) (root : ℕ) (kind : FrameKind) (at site func : ℕ) → TracedBy es root kind at site func → entered_by es (first_of kind at) ≡ site_by kind site
site_is es root Root at site func t = refl
site_is es root Called at site func t = ap site_of t
site_is es root Spawned at site func t = ap site_of t

pub func_is : (es : List Event) (root : ℕ) (kind : FrameKind) (at site func : ℕ) → TracedBy es root kind at site func → function_of es root (first_of kind at) ≡ func
func_is es root Root at site func t = sym t
func_is es root Called at site func t = ap func_of t
func_is es root Spawned at site func t = ap func_of t

pub traced_frame : (es : List Event) (root : ℕ) (kind : FrameKind) (at site func : ℕ) → TracedBy es root kind at site func → is_frame es (first_of kind at) ≡ true
traced_frame es root Root at site func t = refl
traced_frame es root Called at site func t = ap opens t
traced_frame es root Spawned at site func t = ap opens t

advance_traced : (es : List Event) (burdens : Burdens) (root i : ℕ) (e : Event) → event_at es i ≡ Some e → (fs : List OpenFrame) → AllTraced es root fs → AllSome es root (advance burdens i e fs)
advance_traced es burdens root i e q [] t = tt
advance_traced es burdens root i (Strand n) q (f ∷ fs) t = t
advance_traced es burdens root i (Call s u) q (f ∷ fs) t = (q, t)
advance_traced es burdens root i (Spawn s u) q (f ∷ fs) t = (q, t)
advance_traced es burdens root i Sync q (f ∷ fs) t = t
advance_traced es burdens root i Ret q (f ∷ []) t = tt
advance_traced es burdens root i Ret q (f ∷ g ∷ fs) t = t.1

-- ---- one event further

take_next : (es : List Event) (i : ℕ) (e : Event) → event_at es i ≡ Some e → take (suc i) es ≡ take i es ++ (e ∷ [])
take_next [] i e q = absurd (let z = inside [] i e q in omega arith)
take_next (x ∷ es) zero e q = ap (λ y. y ∷ []) (let z : Some x ≡ Some e = q in let r : x ≡ e = cc in r)
take_next (x ∷ es) (suc i) e q = ap (λ l. x ∷ l) (take_next es i e q)

pub run_next : (es : List Event) (burdens : Burdens) (root i : ℕ) (e : Event) → event_at es i ≡ Some e → (fs : List OpenFrame)
    → run burdens 0 (take i es) (root_frame root ∷ []) ≡ Some fs → run burdens 0 (take (suc i) es) (root_frame root ∷ []) ≡ advance burdens i e fs
run_next es burdens root i e q fs r =
    let l = inside es i e q in
    let len : 0 + length (take i es) ≡ i = simp length-take (omega arith) in
    ap (λ part. run burdens 0 part (root_frame root ∷ [])) (take_next es i e q)
    ∙ run-append burdens 0 (take i es) (e ∷ []) (root_frame root ∷ [])
    ∙ ap₂ (λ k o. run_on burdens k (e ∷ []) o) len r
    ∙ one (advance burdens i e fs)
  where
    one : (o : Option (List OpenFrame)) → elim o [ None ↦ None | Some gs ↦ Some gs ] ≡ o
    one None = refl
    one (Some gs) = refl

-- each open frame is that of the trace
pub all_traced : (es : List Event) → IsWellFormed es → (burdens : Burdens) (root i : ℕ) → i ≤ length es → (fs : List OpenFrame)
    → run burdens 0 (take i es) (root_frame root ∷ []) ≡ Some fs → AllTraced es root fs
all_traced es wf burdens root zero l fs r = subst (λ o. AllSome es root o) r (refl, tt)
all_traced es wf burdens root (suc i) l fs r = by (event_at es i) refl (λ gs t. all_traced es wf burdens root i (omega arith) gs t)
  where
    by : (o : Option Event) → event_at es i ≡ o → ((gs : List OpenFrame) → run burdens 0 (take i es) (root_frame root ∷ []) ≡ Some gs → AllTraced es root gs) → AllTraced es root fs
    by None q before = absurd (slice_get_no es i l q)
    by (Some e) q before =
        let s = stack_stands es wf burdens root i (omega arith) in
        subst (λ o. AllSome es root o) (sym (run_next es burdens root i e q (s.0 ∷ s.1) s.2) ∙ r) (advance_traced es burdens root i e q (s.0 ∷ s.1) (before (s.0 ∷ s.1) s.2))

-- ---- the work as far as a position

abbrev pub work_to : List Event → ℕ → ℕ
work_to es i = nesting.work (take i (records es))

same_weight : (e : Event) → weight_of (Some e) ≡ nesting.weight (Ok e)
same_weight (Strand n) = refl
same_weight (Call s f) = refl
same_weight (Spawn s f) = refl
same_weight Ret = refl
same_weight Sync = refl

pub work_next : (es : List Event) (i : ℕ) → work_to es (suc i) ≡ work_to es i + weight es i
work_next [] i =
    let a : work_to [] (suc i) ≡ 0 = ap (λ (l : List Record). nesting.work l) (take_all (suc i) [] (omega arith)) in
    let b : work_to [] i ≡ 0 = ap (λ (l : List Record). nesting.work l) (take_all i [] (omega arith)) in
    let c : weight [] i ≡ 0 = ap weight_of (slice_get_past [] i (omega arith)) in
    omega arith
work_next (x ∷ es) zero =
    let a : work_to (x ∷ es) 1 ≡ nesting.weight (Ok x) + 0 = sum_by-cons nesting.weight (Ok x) [] in
    let b : weight (x ∷ es) 0 ≡ nesting.weight (Ok x) = same_weight x in
    let c : work_to (x ∷ es) 0 ≡ 0 = refl in
    omega arith
work_next (x ∷ es) (suc i) =
    let a : work_to (x ∷ es) (suc (suc i)) ≡ nesting.weight (Ok x) + work_to es (suc i) = sum_by-cons nesting.weight (Ok x) (take (suc i) (records es)) in
    let b : work_to (x ∷ es) (suc i) ≡ nesting.weight (Ok x) + work_to es i = sum_by-cons nesting.weight (Ok x) (take i (records es)) in
    let c : weight (x ∷ es) (suc i) ≡ weight es i = refl in
    let d = work_next es i in
    omega arith

-- the work from a position on
pub work_part : (es : List Event) (g n : ℕ) → g ≤ n → sum_where (nat_le g) (weight es) n + work_to es g ≡ work_to es n
work_part es g zero l =
    let e : work_to es g ≡ work_to es 0 = ap (λ k. work_to es k) (let z : g ≡ 0 = omega arith in z) in
    omega arith
work_part es g (suc n) l =
    let next = work_next es n in
    elim (cases_lt n g) [
      | inl a ↦
          let e : work_to es g ≡ work_to es (suc n) = ap (λ k. work_to es k) (let z : g ≡ suc n = omega arith in z) in
          let s : sum_where (nat_le g) (weight es) (suc n) ≡ 0 = sum-none (nat_le g) (weight es) (suc n) (λ k m. lt-leb g k (omega arith)) in
          omega arith
      | inr a ↦
          let before = work_part es g n a in
          let here : cond (nat_le g n) (weight es n) 0 ≡ weight es n = cond-true (nat_le g n) _ _ (le-leb g n a) in
          omega arith
    ]
