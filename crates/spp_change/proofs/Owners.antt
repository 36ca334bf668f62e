-- The sites by which open frames were entered are those of the dag's frames.
use Rattle.std.proofs.Common.{◌≡◌, ℕ, zero, suc, ◌≤◌, List, [], ◌∷◌, length, map, take, Option, Some, None, Ok, refl, sym, ap, ◌∙◌, arith}
use Rattle.std.specs.Prelude.{slice_get}
use Rattle.spp_event.specs.declared.records.Event.{Event}
use Rattle.spp_event.specs.declared.records.Event.TheVariants.{Strand, Call, Spawn, Ret, Sync}
use Rattle.spp_event.specs.Recordings.{Record}
use Rattle.spp_maxplus.specs.declared.state.Burdens.{Burdens}
use Rattle.spp_maxplus.specs.State.{unburdened}
use Rattle.spp_dag.specs.declared.stack.OpenFrame.{OpenFrame}
use Rattle.spp_dag.specs.Trace.{records, event_at, owner, IsWellFormed}
use Rattle.spp_dag.specs.Rows.{entered_by}
use Rattle.spp_dag.specs.Stack.{advance, run, root_frame}
use Rattle.spp_dag.specs.Steps.{site_by}
use Rattle.spp_dag.proofs.Depth.{inside}
use Rattle.spp_dag.proofs.Owner.{owner_is}
use Rattle.spp_dag.proofs.Stacks.{stack_stands, plain_top}
use Rattle.spp_dag.proofs.StepsFrames.{all_traced, site_is}
use Rattle.spp_dag.proofs.StepsListing.{ShapeAt, shape_at}
use Rattle.spp_change.specs.declared.change.Change.{Change}
use Rattle.spp_change.specs.Changed.{changed_event, changed_from, sites_after, innermost}
use Rattle.spp_change.specs.Laws.{ChangedByOwner}

-- ---- the sites of the stack machine's frames

abbrev keys : List OpenFrame → List (Option ℕ)
keys fs = map (λ f. site_by f.kind f.site) fs

-- the root is behind the frames that these sites entered
abbrev keys_of : List ℕ → List (Option ℕ)
keys_of [] = None ∷ []
keys_of (s ∷ sites) = Some s ∷ keys_of sites

-- the sites behind some records
abbrev through : List ℕ → List Record → List ℕ
through sites [] = sites
through sites (r ∷ rs) = through (sites_after r sites) rs

closed : (sites : List ℕ) (x y : Option ℕ) (ks : List (Option ℕ)) → x ∷ y ∷ ks ≡ keys_of sites → y ∷ ks ≡ keys_of (sites_after (Ok Ret) sites)
closed [] x y ks e = cc
closed (s ∷ sites) x y ks e = cc

top_key : (sites : List ℕ) (x : Option ℕ) (ks : List (Option ℕ)) → x ∷ ks ≡ keys_of sites → x ≡ innermost sites
top_key [] x ks e = cc
top_key (s ∷ sites) x ks e = cc

-- what a step makes of the frames
told : (hs gs : List OpenFrame) (ks : List (Option ℕ)) → Some hs ≡ Some gs → keys hs ≡ ks → keys gs ≡ ks
told hs gs ks a k = let b : gs ≡ hs = cc in ap keys b ∙ k

advanced : (burdens : Burdens) (i : ℕ) (e : Event) (fs gs : List OpenFrame) (sites : List ℕ) → keys fs ≡ keys_of sites → advance burdens i e fs ≡ Some gs → keys gs ≡ keys_of (sites_after (Ok e) sites)
advanced burdens i e [] gs sites k a = cc
advanced burdens i (Strand n) (f ∷ fs) gs sites k a = told _ gs _ a k
advanced burdens i (Call s u) (f ∷ fs) gs sites k a = told _ gs _ a (ap (λ ks. Some s ∷ ks) k)
advanced burdens i (Spawn s u) (f ∷ fs) gs sites k a = told _ gs _ a (ap (λ ks. Some s ∷ ks) k)
advanced burdens i Sync (f ∷ fs) gs sites k a = told _ gs _ a k
advanced burdens i Ret (f ∷ []) gs sites k a = cc
advanced burdens i Ret (f ∷ g ∷ fs) gs sites k a = told _ gs _ a (closed sites (site_by f.kind f.site) (site_by g.kind g.site) (keys fs) k)

ran : (burdens : Burdens) (i : ℕ) (es : List Event) (fs gs : List OpenFrame) (sites : List ℕ) → keys fs ≡ keys_of sites → run burdens i es fs ≡ Some gs → keys gs ≡ keys_of (through sites (records es))
ran burdens i [] fs gs sites k r = let b : gs ≡ fs = cc in ap keys b ∙ k
ran burdens i (e ∷ es) fs gs sites k r = by (advance burdens i e fs) refl r (λ hs h q. ran burdens (suc i) es hs gs (sites_after (Ok e) sites) h q)
  where
    by : (o : Option (List OpenFrame)) → advance burdens i e fs ≡ o → elim o [ None ↦ None | Some hs ↦ run burdens (suc i) es hs ] ≡ Some gs
        → ((hs : List OpenFrame) → keys hs ≡ keys_of (sites_after (Ok e) sites) → run burdens (suc i) es hs ≡ Some gs → keys gs ≡ keys_of (through sites (records (e ∷ es))))
        → keys gs ≡ keys_of (through sites (records (e ∷ es)))
    by None a q more = cc
    by (Some hs) a q more = more hs (advanced burdens i e fs hs sites k a) q

-- the frame that directly holds a position was entered by the innermost of the sites
held_by : (es : List Event) → IsWellFormed es → (i : ℕ) → i ≤ length es → innermost (through [] (records (take i es))) ≡ entered_by es (owner es i)
held_by es wf i le =
    let s = stack_stands es wf unburdened 0 i le in
    let f = s.0 in
    let keyed : site_by f.kind f.site ∷ keys s.1 ≡ keys_of (through [] (records (take i es))) = ran unburdened 0 (take i es) (root_frame 0 ∷ []) (f ∷ s.1) [] refl s.2 in
    let shape : ShapeAt es wf i = shape_at es wf i le in
    let first = owner_is es 1 (λ _. 0) (λ _. 0) wf i shape ∙ sym (ap (λ t. t.first) (plain_top es wf unburdened i le f (s.1, (0, s.2)) shape)) in
    let traced = all_traced es wf unburdened 0 i le (f ∷ s.1) s.2 in
    sym (ap (entered_by es) first ∙ site_is es 0 f.kind f.at f.site f.func traced.0 ∙ top_key (through [] (records (take i es))) (site_by f.kind f.site) (keys s.1) keyed)

-- ---- the changed run by position

changed_at : (change : Change) (sites : List ℕ) (es : List Event) (i : ℕ) (e : Event) → event_at es i ≡ Some e
    → slice_get (changed_from change sites (records es)) i ≡ Some (Ok (changed_event change (innermost (through sites (records (take i es)))) e))
changed_at change sites [] i e q = cc
changed_at change sites (x ∷ es) zero e q = let same : x ≡ e = cc in ap (λ y. Some (Ok (changed_event change (innermost sites) y))) same
changed_at change sites (x ∷ es) (suc i) e q = changed_at change (sites_after (Ok x) sites) es i e q

pub changed_by_owner : ChangedByOwner
changed_by_owner change es wf i e q =
    let l = inside es i e q in
    changed_at change [] es i e q ∙ ap (λ by. Some (Ok (changed_event change by e))) (held_by es wf i (omega arith))
