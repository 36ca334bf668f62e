-- Frames that lie outside have no part in an event: it does to all frames what it does to those that were come to.
use Rattle.std.proofs.Common.{◌≡◌, ℕ, zero, suc, ◌<◌, Bool, true, ◌&&◌, nat_eq, List, [], ◌∷◌, ◌++◌, length, refl, sym, ap, subst, ◌∙◌, arith, inl, inr}
use Rattle.std.proofs.lemmas.Bool.{cases_Bool}
use Rattle.spp_event.specs.declared.records.Event.{Event}
use Rattle.spp_event.specs.declared.records.Event.TheVariants.{Strand, Call, Spawn, Ret, Sync}
use Rattle.spp_dag.specs.declared.stack.FrameKind.{FrameKind}
use Rattle.spp_dag.specs.declared.stack.FrameKind.TheVariants.{Called, Spawned}
use Rattle.spp_path.specs.declared.rows.EnteredFrame.{EnteredFrame}
use Rattle.spp_path.specs.declared.spans.OpenSpan.{OpenSpan}
use Rattle.spp_path.specs.Trails.{runs}
use Rattle.spp_path.specs.Rows.{Told, strand_told, enter_told, onward_told, leave_told, OnTop, IsOpen, CanAdd, CanReturn, IsReturned}
use Rattle.spp_path.specs.Spans as lean
use Rattle.spp_path.specs.Spans.{HasOpen, CanRun, OnBelow}
use Rattle.spp_path.proofs.Beginning.{with_outside}
use Rattle.spp_path.proofs.Events.{StrandDone, SyncDone, CallDone, SpawnDone}
use Rattle.spp_path.proofs.OpenWeights.{after_event, top_close}

-- ---- the rows

module _ (hs : List EnteredFrame) where
  abbrev out : Told → Told
  out t = with_outside hs t

  strand_out : (n : ℕ) (t : Told) → IsOpen t → IsOpen (strand_told n t) × (out (strand_told n t) ≡ strand_told n (out t))
  strand_out n t some = by t.frames some
    where
      by : (frames : List EnteredFrame) → OnTop (λ f. Unit {0}) frames
          → IsOpen (strand_told n (record t { frames = frames })) × (out (strand_told n (record t { frames = frames })) ≡ strand_told n (out (record t { frames = frames })))
      by [] h = absurd h
      by (f ∷ fs) h = (tt, refl)

  enter_out : (kind : FrameKind) (site func : ℕ) (t : Told) → IsOpen t → IsOpen (enter_told kind site func t) × (out (enter_told kind site func t) ≡ enter_told kind site func (out t))
  enter_out kind site func t some = by t.frames some
    where
      by : (frames : List EnteredFrame) → OnTop (λ f. Unit {0}) frames
          → IsOpen (enter_told kind site func (record t { frames = frames })) × (out (enter_told kind site func (record t { frames = frames })) ≡ enter_told kind site func (out (record t { frames = frames })))
      by [] h = absurd h
      by (f ∷ fs) h = (tt, refl)

  pub strand_lifted : (n : ℕ) (old new : Told) → IsOpen old → StrandDone n old new → IsOpen new × StrandDone n (out old) (out new)
  strand_lifted n old new some d =
      let o = strand_out n old some in (
        elim (cases_Bool (runs old.trail)) [
          | inl r ↦ subst IsOpen (sym (d.0 r)) o.0
          | inr r ↦ subst IsOpen (sym (d.1 r)) some
        ],
        ((λ r. ap out (d.0 r) ∙ o.1), λ r. ap out (d.1 r)),
      )

  pub call_lifted : (site func : ℕ) (old new : Told) → IsOpen old → CallDone site func old new → IsOpen new × CallDone site func (out old) (out new)
  call_lifted site func old new some d =
      let o = enter_out Called site func old some in (
        elim (cases_Bool (runs old.trail)) [
          | inl r ↦ subst IsOpen (sym (d.0 r)) o.0
          | inr r ↦ subst IsOpen (sym (d.1 r)) some
        ],
        ((λ r. ap out (d.0 r) ∙ o.1), λ r. ap out (d.1 r)),
      )

  pub spawn_lifted : (enters : Bool) (site func : ℕ) (old new : Told) → IsOpen old → SpawnDone enters site func old new → IsOpen new × SpawnDone enters site func (out old) (out new)
  spawn_lifted enters site func old new some d =
      let o = enter_out Spawned site func (onward_told true old) some in (
        elim (cases_Bool (nat_eq old.trail.skipped 0 && enters)) [
          | inl r ↦ subst IsOpen (sym (d.0 r)) o.0
          | inr r ↦ subst IsOpen (sym (d.1 r)) some
        ],
        ((λ r. ap out (d.0 r) ∙ o.1), λ r. ap out (d.1 r)),
      )

  pub sync_lifted : (old new : Told) → IsOpen old → SyncDone old new → IsOpen new × SyncDone (out old) (out new)
  sync_lifted old new some d = (by old.trail.skipped d, ((λ r. ap out (d.0 r)), λ r. ap out (d.1 r)))
    where
      by : (n : ℕ) → (n ≡ 0 → new ≡ onward_told true old) × (0 < n → new ≡ old) → IsOpen new
      by zero d = subst IsOpen (sym (d.0 refl)) some
      by (suc n) d = subst IsOpen (sym (d.1 (omega arith))) some

  -- what a return does
  abbrev pub Returned : ℕ → Told → Told → Type 0
  Returned v old new = (old.trail.skipped ≡ 0 → OnTop (λ f. IsReturned f v old new) old.frames) × (0 < old.trail.skipped → new ≡ leave_told old)

  pub return_lifted : (v : ℕ) (old new : Told) → IsOpen old → (old.trail.skipped ≡ 0 → 1 < length old.frames) → Returned v old new → IsOpen new × Returned v (out old) (out new)
  return_lifted v old new some two d = (by old.trail.skipped two d, ((λ r. lifted old.frames (d.0 r)), λ r. ap out (d.1 r)))
    where
      left : (frames : List EnteredFrame) → 1 < length frames → OnTop (λ f. IsReturned f v (record old { frames = frames }) new) frames → IsOpen new
      left [] l h = absurd h
      left (f ∷ []) l h = absurd (omega arith)
      left (f ∷ g ∷ fs) l h = subst (OnTop (λ f. Unit {0})) (sym h.frames) tt

      by : (n : ℕ) → (n ≡ 0 → 1 < length old.frames) → (n ≡ 0 → OnTop (λ f. IsReturned f v old new) old.frames) × (0 < n → new ≡ leave_told old) → IsOpen new
      by zero two d = left old.frames (two refl) (d.0 refl)
      by (suc n) two d = subst IsOpen (sym (d.1 (omega arith))) some

      lifted : (frames : List EnteredFrame) → OnTop (λ f. IsReturned f v (record old { frames = frames }) new) frames
          → OnTop (λ f. IsReturned f v (out (record old { frames = frames })) (out new)) (frames ++ hs)
      lifted [] h = absurd h
      lifted (f ∷ fs) h = record {
        frames = ap (λ (l : List EnteredFrame). l ++ hs) h.frames;
        trail = h.trail;
        open_sites = h.open_sites;
        open_funcs = h.open_funcs;
        work = h.work;
        table = h.table;
      }

  -- ---- what an event needs

  pub can_add_below : (n : ℕ) (t : Told) → IsOpen t → CanAdd n (out t) → CanAdd n t
  can_add_below n t some can = by t.frames some can
    where
      by : (frames : List EnteredFrame) → OnTop (λ f. Unit {0}) frames → CanAdd n (out (record t { frames = frames })) → CanAdd n (record t { frames = frames })
      by [] h can = absurd h
      by (f ∷ fs) h can = record { local = can.local; work = can.work }

  pub can_return_below : (v : ℕ) (t : Told) → 1 < length t.frames → OnTop (λ f. CanReturn f v (out t)) (t.frames ++ hs) → OnTop (λ f. CanReturn f v t) t.frames
  can_return_below v t two can = by t.frames two can
    where
      by : (frames : List EnteredFrame) → 1 < length frames → OnTop (λ f. CanReturn f v (out (record t { frames = frames }))) (frames ++ hs) → OnTop (λ f. CanReturn f v (record t { frames = frames })) frames
      by [] l can = absurd (omega arith)
      by (f ∷ fs) l can = record { deep = l; work_before = can.work_before; site = can.site; row = can.row }

-- ---- the weights

module _ (gs : List OpenSpan) where
  pub top_same : (s : List OpenSpan) → HasOpen s → top_close (s ++ gs) ≡ top_close s
  top_same [] h = absurd h
  top_same (f ∷ fs) h = refl

  -- any event but a return
  pub event_lifted : (e : Event) (s : List OpenSpan) → HasOpen s → (e ≡ Ret → 1 < length s) → HasOpen (after_event e s) × (after_event e s ++ gs ≡ after_event e (s ++ gs))
  event_lifted e [] h two = absurd h
  event_lifted (Strand n) (f ∷ fs) h two = (tt, refl)
  event_lifted (Call site func) (f ∷ fs) h two = (tt, refl)
  event_lifted (Spawn site func) (f ∷ fs) h two = (tt, refl)
  event_lifted Sync (f ∷ fs) h two = (tt, refl)
  event_lifted Ret (f ∷ []) h two = absurd (let z = two refl in omega arith)
  event_lifted Ret (f ∷ g ∷ fs) h two = (tt, refl)

  pub can_run_below : (n : ℕ) (s : List OpenSpan) → HasOpen s → lean.OnTop (CanRun n) (s ++ gs) → lean.OnTop (CanRun n) s
  can_run_below n [] h can = absurd h
  can_run_below n (f ∷ fs) h can = can

  pub can_close_below : (v : ℕ) (s : List OpenSpan) → 1 < length s → OnBelow (lean.CanReturn v) (s ++ gs) → OnBelow (lean.CanReturn v) s
  can_close_below v [] l can = absurd (omega arith)
  can_close_below v (f ∷ []) l can = absurd (omega arith)
  can_close_below v (f ∷ g ∷ fs) l can = can
