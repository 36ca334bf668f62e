-- What one event adds to each row.
use Rattle.std.proofs.Common.{◌≡◌, ℕ, zero, suc, ◌+◌, ◌-◌, ◌≤◌, ◌<◌, Bool, true, false, cond, ◌&&◌, refl, arith, sym, ◌∙◌, ap, ap₂, subst, inl, inr, List, [], ◌∷◌, length, map, take, Option, Some, None, nat_le}
use Rattle.std.proofs.lemmas.Bool.{cases_eq, both_ways, and_parts, and_left, and_right, false_from_ne_true, ne_eqb}
use Rattle.spp_event.specs.declared.records.Event.{Event}
use Rattle.spp_event.specs.declared.records.Event.TheVariants.{Strand, Call, Spawn, Ret, Sync}
use Rattle.spp_maxplus.specs.declared.state.Burdens.{Burdens}
use Rattle.spp_maxplus.specs.State.{unburdened, close}
use Rattle.spp_dag.specs.declared.row.Row.{Row}
use Rattle.spp_dag.specs.declared.stack.EntryFrame.{EntryFrame}
use Rattle.spp_dag.specs.declared.stack.OpenFrame.{OpenFrame}
use Rattle.spp_dag.specs.declared.stack.FrameKind.{FrameKind}
use Rattle.spp_dag.specs.declared.stack.FrameKind.TheVariants.{Root, Called, Spawned}
use Rattle.spp_dag.specs.Ranges.{sum_where, within}
use Rattle.spp_dag.specs.Trace.{event_at, weight, weight_of, returns, is_frame, owner, closing, IsWellFormed}
use Rattle.spp_dag.specs.Rows.{site_of, same_site, is_of, is_top_site, is_top_caller, work, AreSpans}
use Rattle.spp_dag.specs.Stack.{run, root_frame}
use Rattle.spp_dag.specs.Shares.{share, zero_row}
use Rattle.spp_dag.specs.Choices.{first_of, entry_frame}
use Rattle.spp_dag.specs.Steps.{site_by, same_key, key_of, closed_row, strand_row, gain, ShareFollows}
use Rattle.spp_dag.specs.Laws.{HasTop}
use Rattle.spp_dag.proofs.Crossing.{owner_closing}
use Rattle.spp_dag.proofs.Depth.{inside, closed}
use Rattle.spp_dag.proofs.Owner.{owner_is, return_closes}
use Rattle.spp_dag.proofs.Profiles.{greatest_one, row_frame}
use Rattle.spp_dag.proofs.Shares.{same_rows}
use Rattle.spp_dag.proofs.Stacks.{plain_top, frames_give_spans}
use Rattle.spp_dag.proofs.StepsFrames.{TracedBy, traced_frame, all_traced, work_to, work_next, work_part}
use Rattle.spp_dag.proofs.StepsListing.{ShapeAt, shape_at}
use Rattle.spp_dag.proofs.Sums.{sum-none, sum-one, within_at, within_other}

-- the key of an open frame is that of the rows
key_is : (es : List Event) (root : ℕ) (kind : FrameKind) (at site func : ℕ) → TracedBy es root kind at site func → (key : Option ℕ)
    → is_of es key (first_of kind at) ≡ same_key (site_by kind site) key
key_is es root Root at site func t None = refl
key_is es root Root at site func t (Some s) = refl
key_is es root Called at site func t None = ne_eqb (suc at) 0 (λ e. omega arith)
key_is es root Called at site func t (Some s) = ap (λ e. same_site (site_of e) (Some s)) t
key_is es root Spawned at site func t None = ne_eqb (suc at) 0 (λ e. omega arith)
key_is es root Spawned at site func t (Some s) = ap (λ e. same_site (site_of e) (Some s)) t

and_all : (b : Bool) → (b && true) ≡ b
and_all true = refl
and_all false = refl

zero_either : (b : Bool) → cond {A = ℕ} b 0 0 ≡ 0
zero_either true = refl
zero_either false = refl

strand_either : (b : Bool) (n : ℕ) → strand_row (cond b n 0) ≡ cond b (strand_row n) zero_row
strand_either true n = refl
strand_either false n = refl

module _ (es : List Event) (wf : IsWellFormed es) (root : ℕ) (span : ℕ → ℕ) (on : ℕ → Bool) (key : Option ℕ) (i : ℕ) (l : i < length es) where
  abbrev N : ℕ
  N = suc (length es)

  abbrev frames : ℕ → Bool
  frames f = (on f && is_of es key f) && within i (suc i) (closing es f)

  abbrev places : ℕ → Bool
  places k = (on k && is_of es key (owner es k)) && within i (suc i) k

  abbrev marked : (ℕ → Bool) → ℕ → Bool
  marked mark f = frames f && mark f

  local_is : sum_where places (weight es) N ≡ cond (on i && is_of es key (owner es i)) (weight es i) 0
  local_is =
      let b : Bool = on i && is_of es key (owner es i) in
      let e : places i ≡ b = ap (λ c. b && c) (within_at i) ∙ and_all b in
      sum-one places (weight es) N i (omega arith) (λ k l d. and_right (on k && is_of es key (owner es k)) (within i (suc i) k) (within_other i k d))
      ∙ ap (λ c. cond c (weight es i) 0) e

  no_local : weight es i ≡ 0 → sum_where places (weight es) N ≡ 0
  no_local e = local_is ∙ ap (λ v. cond (on i && is_of es key (owner es i)) v 0) e ∙ zero_either (on i && is_of es key (owner es i))

  -- f is a frame that closes at i
  record Closes (f : ℕ) : Type 0 where
    frame : is_frame es f ≡ true
    at : closing es f ≡ i

  closes : (f : ℕ) → frames f ≡ true → Closes f
  closes f e =
      let a = and_parts (on f && is_of es key f) (within i (suc i) (closing es f)) e in
      let b = and_parts (on f) (is_of es key f) a.0 in
      record {
        frame = row_frame es key f b.1;
        at = elim (cases_eq (closing es f) i) [
          | inl q ↦ q
          | inr d ↦ absurd (both_ways (within i (suc i) (closing es f)) (within_other i (closing es f) d) a.1)
        ];
      }

  closes_return : (f : ℕ) → Closes f → returns (event_at es i) ≡ true
  closes_return zero c = absurd (let z : length es ≡ i = c.at in omega arith)
  closes_return (suc o) c = subst (λ k. returns (event_at es k) ≡ true) c.at (closed es wf o c.frame).return

  closes_owner : (f : ℕ) → Closes f → owner es i ≡ f
  closes_owner zero c = absurd (let z : length es ≡ i = c.at in omega arith)
  closes_owner (suc o) c = subst (λ k. owner es k ≡ suc o) c.at (owner_closing es wf o c.frame)

  -- but for a return no frame closes
  no_frame : returns (event_at es i) ≡ false → (f : ℕ) → frames f ≡ false
  no_frame n f = false_from_ne_true (frames f) (λ e. both_ways (returns (event_at es i)) n (closes_return f (closes f e)))

  quiet : returns (event_at es i) ≡ false → share es root span on key i (suc i) ≡ strand_row (cond (on i && is_of es key (owner es i)) (weight es i) 0)
  quiet n =
      let none = λ (f : ℕ) (l : f < N). no_frame n f in
      let also = λ (m : ℕ → Bool) (f : ℕ) (l : f < N). and_left (frames f) (m f) (no_frame n f) in
      same_rows _ _
      (sum-none _ _ N none)
      local_is
      (sum-none _ _ N (also (is_top_site es)))
      (sum-none _ _ N (also (is_top_site es)))
      (sum-none _ _ N (also (is_top_site es)))
      (sum-none _ _ N (also (is_top_caller es root)))
      (sum-none _ _ N (also (is_top_caller es root)))
      (sum-none _ _ N (also (is_top_caller es root)))

  silent : returns (event_at es i) ≡ false → weight es i ≡ 0 → share es root span on key i (suc i) ≡ zero_row
  silent n e = quiet n ∙ ap strand_row (ap (λ v. cond (on i && is_of es key (owner es i)) v 0) e ∙ zero_either (on i && is_of es key (owner es i)))

  -- the row of the frame g where b, which closes at i with the span s
  abbrev parts : ℕ → Bool → ℕ → Row
  parts g b s = record {
    count = cond b 1 0;
    local = 0;
    site_count = cond (b && is_top_site es g) 1 0;
    site_work = cond (b && is_top_site es g) (work_to es i - work_to es g) 0;
    site_span = cond (b && is_top_site es g) s 0;
    caller_count = cond (b && is_top_caller es root g) 1 0;
    caller_work = cond (b && is_top_caller es root g) (work_to es i - work_to es g) 0;
    caller_span = cond (b && is_top_caller es root g) s 0;
  }

  -- at a return the frame g closes, and no other
  module _ (g : ℕ) (at : closing es g ≡ i) (own : owner es i ≡ g) (before : g ≤ i) (zero_weight : weight es i ≡ 0) where
    abbrev here : Bool
    here = on g && is_of es key g

    only_frame : (f : ℕ) → (f ≡ g → ⊥) → frames f ≡ false
    only_frame f d = false_from_ne_true (frames f) (λ e. d (let z : owner es i ≡ f = closes_owner f (closes f e) in sym z ∙ own))

    frame_here : frames g ≡ here
    frame_here = ap (λ k. here && within i (suc i) k) at ∙ ap (λ b. here && b) (within_at i) ∙ and_all here

    count_is : sum_where frames (λ _. 1) N ≡ cond here 1 0
    count_is = sum-one frames (λ _. 1) N g (omega arith) (λ f l d. only_frame f d) ∙ ap (λ b. cond b 1 0) frame_here

    sum_is : (mark : ℕ → Bool) (value : ℕ → ℕ) (v : ℕ) → value g ≡ v → sum_where (marked mark) value N ≡ cond (here && mark g) v 0
    sum_is mark value v e =
        sum-one (marked mark) value N g (omega arith) (λ f l d. and_left (frames f) (mark f) (only_frame f d))
        ∙ ap₂ (λ b w. cond (b && mark g) w 0) frame_here e

    work_is : work es g ≡ work_to es i - work_to es g
    work_is =
        let a : work es g ≡ sum_where (nat_le g) (weight es) (suc i) = ap (λ k. sum_where (nat_le g) (weight es) (suc k)) at in
        let b : sum_where (nat_le g) (weight es) (suc i) + work_to es g ≡ work_to es (suc i) = work_part es g (suc i) (omega arith) in
        let c = work_next es i in
        omega arith

    closing_share : (s : ℕ) → span g ≡ s → share es root span on key i (suc i) ≡ parts g here s
    closing_share s e =
        same_rows _ _
        count_is
        (no_local zero_weight)
        (sum_is (is_top_site es) (λ _. 1) 1 refl)
        (sum_is (is_top_site es) (work es) (work_to es i - work_to es g) work_is)
        (sum_is (is_top_site es) span s e)
        (sum_is (is_top_caller es root) (λ _. 1) 1 refl)
        (sum_is (is_top_caller es root) (work es) (work_to es i - work_to es g) work_is)
        (sum_is (is_top_caller es root) span s e)

module _ (es : List Event) (wf : IsWellFormed es) (burdens : Burdens) (root : ℕ) (span : ℕ → ℕ) (spans : AreSpans es span) (on : ℕ → Bool) (key : Option ℕ) (i : ℕ) (f : OpenFrame) (fs : List OpenFrame)
    (stands : run burdens 0 (take i es) (root_frame root ∷ []) ≡ Some (f ∷ fs)) (l : i < length es) where
  abbrev first : ℕ
  first = first_of f.kind f.at

  upto : i ≤ length es
  upto = omega arith

  traced : TracedBy es root f.kind f.at f.site f.func
  traced = (all_traced es wf burdens root i upto (f ∷ fs) stands).0

  shape : ShapeAt es wf i
  shape = shape_at es wf i upto

  top_is : shape.top.first ≡ first
  top_is = sym (ap (λ t. t.first) (plain_top es wf burdens i upto f (fs, (root, stands)) shape))

  owner_first : owner es i ≡ first
  owner_first = owner_is es 1 (λ _. 0) (λ _. 0) wf i shape ∙ top_is

  keyed : (g : ℕ) → g ≡ first → is_of es key g ≡ same_key (key_of (entry_frame es root f)) key
  keyed g e = ap (is_of es key) e ∙ key_is es root f.kind f.at f.site f.func traced key

  -- the row of the frame that closes
  whole : (b : Bool) → parts es wf root span on key i l first b (close f.plain) ≡ cond b (closed_row (entry_frame es root f) (work_to es i)) zero_row
  whole true = refl
  whole false = refl

  share_is : (e : Event) → event_at es i ≡ Some e → share es root span on key i (suc i) ≡ gain on key i e (entry_frame es root f) (work_to es i)
  share_is (Strand n) q =
      quiet es wf root span on key i l (ap returns q)
      ∙ ap₂ (λ b w. strand_row (cond (on i && b) w 0)) (keyed (owner es i) owner_first) (ap weight_of q)
      ∙ strand_either (on i && same_key (key_of (entry_frame es root f)) key) n
  share_is (Call s u) q = silent es wf root span on key i l (ap returns q) (ap weight_of q)
  share_is (Spawn s u) q = silent es wf root span on key i l (ap returns q) (ap weight_of q)
  share_is Sync q = silent es wf root span on key i l (ap returns q) (ap weight_of q)
  share_is Ret q =
      let r = return_closes es 1 (λ _. 0) (λ _. 0) wf i shape (ap returns q) in
      let is : first ≡ suc r.0 = sym top_is ∙ r.1.first in
      let at : closing es first ≡ i = ap (closing es) is ∙ r.2 in
      let after : r.0 < i = r.1.after in
      let frame = traced_frame es root f.kind f.at f.site f.func traced in
      let top : HasTop es burdens (closing es first) f = subst (λ k. HasTop es burdens k f) (sym at) (fs, (root, stands)) in
      let s : span first ≡ close f.plain =
      greatest_one es unburdened first (closing es first) (span first) (close f.plain) (spans first frame) (frames_give_spans es wf burdens first frame f top).0 in
      closing_share es wf root span on key i l first at owner_first (omega arith) (ap weight_of q) (close f.plain) s
      ∙ whole (on first && is_of es key first)
      ∙ ap (λ b. cond (on first && b) (closed_row (entry_frame es root f) (work_to es i)) zero_row) (keyed first refl)

heads : (f g : EntryFrame) (fs gs : List EntryFrame) → f ∷ fs ≡ g ∷ gs → f ≡ g
heads f g fs gs e = cc

pub share_follows : ShareFollows
share_follows es wf burdens root span spans on key i e q f fs work entry = by entry.0 entry.1 entry.2
  where
    by : (hs : List OpenFrame) → run burdens 0 (take i es) (root_frame root ∷ []) ≡ Some hs → f ∷ fs ≡ map (entry_frame es root) hs
        → share es root span on key i (suc i) ≡ gain on key i e f work
    by [] r s = cc
    by (h ∷ hs) r s =
        share_is es wf burdens root span spans on key i h hs r (inside es i e q) e q
        ∙ sym (ap₂ (λ g w. gain on key i e g w) (heads f (entry_frame es root h) fs (map (entry_frame es root) hs) s) entry.3)
