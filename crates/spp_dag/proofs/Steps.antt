-- What one event makes of the entry of its position.
use Rattle.std.proofs.Common.{◌≡◌, ℕ, suc, ◌+◌, ◌<◌, true, not, ◌||◌, refl, arith, sym, ◌∙◌, ap, ap₂, subst, List, [], ◌∷◌, length, map, Option, Some, None, nat_eq}
use Rattle.spp_event.specs.declared.records.Event.{Event}
use Rattle.spp_event.specs.declared.records.Event.TheVariants.{Strand, Call, Spawn, Ret, Sync}
use Rattle.spp_maxplus.specs.declared.state.Burdens.{Burdens}
use Rattle.spp_maxplus.specs.State.{start}
use Rattle.spp_dag.specs.declared.stack.OpenFrame.{OpenFrame}
use Rattle.spp_dag.specs.declared.stack.FrameKind.TheVariants.{Called, Spawned}
use Rattle.spp_dag.specs.Trace.{event_at, weight, weight_of, opens, owner, IsWellFormed}
use Rattle.spp_dag.specs.Rows.{site_of, entered_by, function_of, same_site, is_top_site, is_outermost}
use Rattle.spp_dag.specs.Stack.{advance}
use Rattle.spp_dag.specs.Choices.{first_of, entry_frame}
use Rattle.spp_dag.specs.Steps.{same_key, has_site, has_func, entry_after, EntryFollows}
use Rattle.spp_dag.proofs.Depth.{inside}
use Rattle.spp_dag.proofs.Machine.{Frame}
use Rattle.spp_dag.proofs.Owner.{owner_is}
use Rattle.spp_dag.proofs.Runs.{Same, plain_frame}
use Rattle.spp_dag.proofs.Stacks.{same_stack, stack_stands}
use Rattle.spp_dag.proofs.StepsListing.{any_first, frames_at, ShapeAt, shape_at, top_site_is, outermost_is}
use Rattle.spp_dag.proofs.StepsFrames.{AllTraced, site_is, func_is, run_next, all_traced, work_to, work_next}

same_keys : (o : Option ℕ) (site : ℕ) → same_key o (Some site) ≡ same_site o (Some site)
same_keys None site = refl
same_keys (Some a) site = refl

-- what of the entries is looked up is that of the trace's frames
has_site_is : (es : List Event) (root site : ℕ) (fs : List OpenFrame) → AllTraced es root fs
    → has_site (map (entry_frame es root) fs) site ≡ any_first (λ f. same_site (entered_by es f) (Some site)) (map plain_frame fs)
has_site_is es root site [] t = refl
has_site_is es root site (f ∷ fs) t =
    ap₂ (λ a b. a || b)
    (ap (λ o. same_key o (Some site)) (sym (site_is es root f.kind f.at f.site f.func t.0)) ∙ same_keys (entered_by es (first_of f.kind f.at)) site)
    (has_site_is es root site fs t.1)

has_func_is : (es : List Event) (root func : ℕ) (fs : List OpenFrame) → AllTraced es root fs
    → has_func (map (entry_frame es root) fs) func ≡ any_first (λ f. nat_eq (function_of es root f) func) (map plain_frame fs)
has_func_is es root func [] t = refl
has_func_is es root func (f ∷ fs) t =
    ap₂ (λ a b. a || b)
    (ap (λ g. nat_eq g func) (sym (func_is es root f.kind f.at f.site f.func t.0)))
    (has_func_is es root func fs t.1)

-- the work before the first position of a frame that is opened at i
work_before : (es : List Event) (i : ℕ) → weight es i ≡ 0 → work_to es i ≡ work_to es (suc i)
work_before es i n = let w = work_next es i in omega arith

head_is : (a b : Frame) (xs ys : List Frame) → a ∷ xs ≡ b ∷ ys → (a ≡ b) × (xs ≡ ys)
head_is a b xs ys e = (cc, cc)

module _ (es : List Event) (wf : IsWellFormed es) (root i : ℕ) (f : OpenFrame) (fs : List OpenFrame)
    (traced : AllTraced es root (f ∷ fs)) (same : map plain_frame (f ∷ fs) ≡ frames_at es wf i) (within : i < length es) where
  h : ShapeAt es wf i
  h = shape_at es wf i (omega arith)

  parts : (plain_frame f ≡ h.top) × (map plain_frame fs ≡ h.rest)
  parts = head_is (plain_frame f) h.top (map plain_frame fs) h.rest (same ∙ h.is)

  -- the marks of a frame that is opened there
  marks_site : (site : ℕ) → opens (event_at es i) ≡ true → site_of (event_at es i) ≡ Some site → not (has_site (map (entry_frame es root) (f ∷ fs)) site) ≡ is_top_site es (suc i)
  marks_site site t s =
      ap not (has_site_is es root site (f ∷ fs) traced ∙ ap (λ gs. any_first (λ f. same_site (entered_by es f) (Some site)) gs) same)
      ∙ ap (λ o. not (any_first (λ f. same_site (entered_by es f) o) (frames_at es wf i))) (sym s)
      ∙ sym (top_site_is es wf i t)

  first_is : h.top.first ≡ first_of f.kind f.at
  first_is = sym (ap (λ g. g.first) parts.0)

  marks_caller : not (has_func (map (entry_frame es root) fs) f.func) ≡ is_outermost es root (owner es i)
  marks_caller =
      let func : function_of es root h.top.first ≡ f.func = ap (function_of es root) first_is ∙ func_is es root f.kind f.at f.site f.func traced.0 in
      ap not (has_func_is es root f.func fs traced.1 ∙ ap₂ (λ u gs. any_first (λ f. nat_eq (function_of es root f) u) gs) (sym func) parts.1)
      ∙ sym (outermost_is es wf root i h)
      ∙ ap (is_outermost es root) (sym (owner_is es 1 (λ _. 0) (λ _. 0) wf i h))

-- what the machine makes of the frames has the entries that follow
abbrev Follows : List Event → Burdens → ℕ → ℕ → Event → List OpenFrame → Option (List OpenFrame) → Type 0
Follows es burdens root i e fs None = ⊥
Follows es burdens root i e fs (Some gs) = entry_after burdens i e (work_to es i) (map (entry_frame es root) fs) ≡ map (entry_frame es root) gs

follows : (es : List Event) (wf : IsWellFormed es) (burdens : Burdens) (root i : ℕ) (e : Event) → event_at es i ≡ Some e → (fs : List OpenFrame) → AllTraced es root fs → map plain_frame fs ≡ frames_at es wf i
    → (gs : List OpenFrame) → advance burdens i e fs ≡ Some gs → Follows es burdens root i e fs (advance burdens i e fs)
follows es wf burdens root i e q [] t s gs n = let z : None ≡ Some gs = n in cc
follows es wf burdens root i (Strand c) q (f ∷ fs) t s gs n = refl
follows es wf burdens root i (Call site func) q (f ∷ fs) t s gs n =
    let l = inside es i (Call site func) q in
    let a = marks_site es wf root i f fs t s l site (ap opens q) (ap site_of q) in
    let b = marks_caller es wf root i f fs t s l in
    let c = work_before es i (ap weight_of q) in
    λ j. record { kind = Called; at = i; site = site; func = func; before = c j; state = start; burdened = start; top_site = a j; top_caller = b j } ∷ map (entry_frame es root) (f ∷ fs)
follows es wf burdens root i (Spawn site func) q (f ∷ fs) t s gs n =
    let l = inside es i (Spawn site func) q in
    let a = marks_site es wf root i f fs t s l site (ap opens q) (ap site_of q) in
    let b = marks_caller es wf root i f fs t s l in
    let c = work_before es i (ap weight_of q) in
    λ j. record { kind = Spawned; at = i; site = site; func = func; before = c j; state = start; burdened = start; top_site = a j; top_caller = b j } ∷ map (entry_frame es root) (f ∷ fs)
follows es wf burdens root i Sync q (f ∷ fs) t s gs n = refl
follows es wf burdens root i Ret q (f ∷ []) t s gs n = let z : None ≡ Some gs = n in cc
follows es wf burdens root i Ret q (f ∷ g ∷ fs) t s gs n = refl

pub entry_follows : EntryFollows
entry_follows es wf burdens root i e q fs work entry =
    let l = inside es i e q in
    let r = run_next es burdens root i e q entry.0 entry.1 in
    let s = stack_stands es wf burdens root (suc i) l in
    let n : advance burdens i e entry.0 ≡ Some (s.0 ∷ s.1) = sym r ∙ s.2 in
    let t = all_traced es wf burdens root i (omega arith) entry.0 entry.1 in
    let same : Same es wf burdens i entry.0 = same_stack es wf burdens i (omega arith) entry.0 (root, entry.1) in
    let f : entry_after burdens i e (work_to es i) (map (entry_frame es root) entry.0) ≡ map (entry_frame es root) (s.0 ∷ s.1) =
    subst (λ o. Follows es burdens root i e entry.0 o) n (follows es wf burdens root i e q entry.0 t same.plain (s.0 ∷ s.1) n) in
    let w : work ≡ work_to es i = entry.3 in (
      s.0 ∷ s.1,
      s.2,
      ap₂ (λ k hs. entry_after burdens i e k hs) w entry.2 ∙ f,
      ap (λ k. k + weight es i) w ∙ sym (work_next es i),
    )
