-- What the machine's open frames are like before any event: their first positions fall, the root is the last of them, and
-- each is a top frame by site where none below it was entered by its site.
use Rattle.std.proofs.Common.{◌≡◌, ℕ, zero, suc, ◌+◌, ◌*◌, ◌≤◌, ◌<◌, ◌^◌, not, List, [], ◌∷◌, length, Some, refl, sym, ap, subst, arith}
use Rattle.spp_event.specs.declared.records.Event.{Event}
use Rattle.spp_event.specs.declared.records.Event.TheVariants.{Strand, Call, Spawn, Ret, Sync}
use Rattle.spp_maxplus.specs.declared.state.Burdens.{Burdens}
use Rattle.spp_dag.specs.declared.stack.EntryFrame.{EntryFrame}
use Rattle.spp_dag.specs.declared.stack.FrameKind.{FrameKind}
use Rattle.spp_dag.specs.declared.stack.FrameKind.TheVariants.{Called, Spawned}
use Rattle.spp_dag.specs.Limits.{IsSmall}
use Rattle.spp_dag.specs.Trace.{event_at, weight, weight_of, IsWellFormed}
use Rattle.spp_dag.specs.Stack.{root_frame}
use Rattle.spp_dag.specs.Choices.{IsEntry, entry_frame}
use Rattle.spp_dag.specs.Steps.{has_site, opened, stranded, waited, returned, entry_after}
use Rattle.spp_dag.proofs.Entries.{entry_is_one}
use Rattle.spp_dag.proofs.OpenEntries.{AreOpen, open_more, open_state}
use Rattle.spp_dag.proofs.Steps.{entry_follows}
use Rattle.spp_path.proofs.OpenWeights.{first_open}
use Rattle.spp_path.proofs.Places.{Falls, first, falls_under}

abbrev pub AreTops : List EntryFrame → Type 0
AreTops [] = Unit {0}
AreTops (f ∷ fs) = (f.top_site ≡ not (has_site fs f.site)) × AreTops fs

pub record Ordered (i w : ℕ) (fs : List EntryFrame) : Type 0 where
  pub falls : Falls (suc i) fs
  pub open_frames : AreOpen w fs
  pub level : length fs ≤ suc i
  pub tops : AreTops fs
  pub small : w ≤ 18446744073709551616 * i

-- ---- one event

module _ (eb : Burdens) (i w : ℕ) where
  opens_one : (kind : FrameKind) (site func v : ℕ) → v ≡ w → (f : EntryFrame) (fs : List EntryFrame) → ((g : EntryFrame) → g ≡ opened kind i site func w f fs → AreOpen v (f ∷ fs) → AreOpen v (g ∷ f ∷ fs))
      → first (opened kind i site func w f fs) ≡ suc i → Ordered i w (f ∷ fs) → Ordered (suc i) v (opened kind i site func w f fs ∷ f ∷ fs)
  opens_one kind site func v same f fs opens at h = record {
    falls = ((let z = at in omega arith), subst (λ n. Falls n (f ∷ fs)) (sym at) h.falls);
    open_frames = opens (opened kind i site func w f fs) refl (open_more w v (let z = same in omega arith) (f ∷ fs) h.open_frames);
    level = (let z = h.level in omega arith);
    tops = (refl, h.tops);
    small = (let z = h.small in omega arith);
  }

  ordered_after : (e : Event) (v : ℕ) → v ≡ w + weight_of (Some e) → weight_of (Some e) < 2 ^ 64 → (f : EntryFrame) (fs : List EntryFrame) → Ordered i w (f ∷ fs)
      → 0 < length (entry_after eb i e w (f ∷ fs)) → Ordered (suc i) v (entry_after eb i e w (f ∷ fs))
  ordered_after (Strand n) v same short f fs h l = record {
    falls = falls_under (suc i) (suc (suc i)) (f ∷ fs) (omega arith) h.falls;
    open_frames = open_more w v (omega arith) (stranded n f ∷ fs) (open_state w f (stranded n f).state (stranded n f).burdened fs h.open_frames);
    level = (let z = h.level in omega arith);
    tops = h.tops;
    small = (let z = h.small in omega arith);
  }
  ordered_after (Call site func) v same short f fs h l =
      opens_one Called site func v (omega arith) f fs (λ g e o. subst (λ x. AreOpen v (x ∷ f ∷ fs)) (sym e) (refl, (let z : w ≤ v = omega arith in z), o)) refl h
  ordered_after (Spawn site func) v same short f fs h l =
      opens_one Spawned site func v (omega arith) f fs (λ g e o. subst (λ x. AreOpen v (x ∷ f ∷ fs)) (sym e) (refl, (let z : w ≤ v = omega arith in z), o)) refl h
  ordered_after Sync v same short f fs h l = record {
    falls = falls_under (suc i) (suc (suc i)) (f ∷ fs) (omega arith) h.falls;
    open_frames = open_more w v (omega arith) (waited f ∷ fs) (open_state w f (waited f).state (waited f).burdened fs h.open_frames);
    level = (let z = h.level in omega arith);
    tops = h.tops;
    small = (let z = h.small in omega arith);
  }
  ordered_after Ret v same short f [] h l = absurd (omega arith)
  ordered_after Ret v same short f (g ∷ fs) h l = record {
    falls = falls_under (first f) (suc (suc i)) (g ∷ fs) (let z : first f < suc i = h.falls.0 in omega arith) h.falls.1;
    open_frames = open_more w v (omega arith) (returned eb f g ∷ fs) (open_state w g (returned eb f g).state (returned eb f g).burdened fs h.open_frames.2);
    level = (let z = h.level in omega arith);
    tops = h.tops.1;
    small = (let z = h.small in omega arith);
  }

-- ---- all

module _ (es : List Event) (wf : IsWellFormed es) (small : IsSmall es) (root : ℕ) (eb : Burdens) where
  some_event : (i : ℕ) → i < length es → (e : Event) × (event_at es i ≡ Some e)
  some_event i l = event_in es i l
    where
      event_in : (xs : List Event) (k : ℕ) → k < length xs → (e : Event) × (event_at xs k ≡ Some e)
      event_in [] k b = absurd (omega arith)
      event_in (x ∷ xs) zero b = (x, refl)
      event_in (x ∷ xs) (suc k) b = event_in xs k (omega arith)

  pub ordered : (i : ℕ) → i ≤ length es → (fs : List EntryFrame) (w : ℕ) → IsEntry es eb root i fs w → Ordered i w fs
  ordered zero l fs w at =
      let start : List EntryFrame = entry_frame es root (root_frame root) ∷ [] in
      let one = (entry_is_one es wf eb root 0 l).1 fs start w 0 at (root_frame root ∷ [], refl, refl, refl) in
      subst (λ x. Ordered 0 w x) (sym one.0) (subst (λ n. Ordered 0 n start) (sym one.1) (record {
        falls = ((let z : 0 < 1 = omega arith in z), tt);
        open_frames = (refl, refl, refl, refl);
        level = omega arith;
        tops = (refl, tt);
        small = omega arith;
      }))
  ordered (suc i) l fs w at =
      let e = some_event i (omega arith) in
      let old = (entry_is_one es wf eb root i (omega arith)).0 in
      let h = ordered i (omega arith) old.0 old.1 old.2 in
      let next = entry_follows es wf eb root i e.0 e.1 old.0 old.1 old.2 in
      let one = (entry_is_one es wf eb root (suc i) l).1 fs (entry_after eb i e.0 old.1 old.0) w (old.1 + weight es i) at next in
      subst (λ x. Ordered (suc i) w x) (sym one.0) (subst (λ n. Ordered (suc i) n (entry_after eb i e.0 old.1 old.0)) (sym one.1) (by e.0 e.1 old.0 old.1 h (some_left (entry_after eb i e.0 old.1 old.0) (old.1 + weight es i) next)))
    where
      some_left : (gs : List EntryFrame) (v : ℕ) → IsEntry es eb root (suc i) gs v → 0 < length gs
      some_left gs v a = let o = first_open es wf root eb (suc i) gs v l a in let n = ap (λ (x : List EntryFrame). length x) o.2 in omega arith

      by : (e : Event) → event_at es i ≡ Some e → (gs : List EntryFrame) (v : ℕ) → Ordered i v gs → 0 < length (entry_after eb i e v gs) → Ordered (suc i) (v + weight es i) (entry_after eb i e v gs)
      by e is [] v h some = absurd h.open_frames
      by e is (g ∷ gs) v h some =
          let same : weight es i ≡ weight_of (Some e) = ap weight_of is in
          let short = small.strands i in
          ordered_after eb i v e (v + weight es i) (ap (λ n. v + n) same) (omega arith) g gs h some
