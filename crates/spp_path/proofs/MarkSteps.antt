-- What the pass that marks the events of a part has before each event, and what it tells of the event.
use Rattle.std.proofs.Common.{◌≡◌, ℕ, suc, ◌+◌, ◌-◌, ◌≤◌, ◌<◌, ◌↔◌, ◌&&◌, Bool, true, false, nat_eq, refl, arith, sym, ◌∙◌, ap, subst, inl, inr, List, [], ◌∷◌, ◌++◌, length, map, Some}
use Rattle.std.proofs.lemmas.Bool.{cases_Bool, ne_eqb, and_parts, both_ways}
use Rattle.spp_event.specs.declared.records.Event.{Event}
use Rattle.spp_event.specs.declared.records.Event.TheVariants.{Strand, Call, Spawn, Ret, Sync}
use Rattle.spp_maxplus.specs.declared.state.Burdens.{Burdens}
use Rattle.spp_dag.specs.declared.stack.EntryFrame.{EntryFrame}
use Rattle.spp_dag.specs.declared.stack.FrameKind.{FrameKind}
use Rattle.spp_dag.specs.declared.stack.FrameKind.TheVariants.{Called, Spawned}
use Rattle.spp_dag.specs.Trace.{event_at, syncs, IsWellFormed}
use Rattle.spp_dag.specs.Dag.{IsPath, On}
use Rattle.spp_dag.specs.Choices.{IsEntry}
use Rattle.spp_dag.specs.Steps.{opened, stranded, waited, returned}
use Rattle.spp_dag.proofs.Depth.{inside}
use Rattle.spp_dag.proofs.PathLaws.{whole_of, frame_passed, wait_passed}
use Rattle.spp_path.specs.declared.trail.Trail.{Trail}
use Rattle.spp_path.specs.Flags.{is_called}
use Rattle.spp_path.specs.Marks.{Marked, AreKinds, IsBack, with_kind, with_trail}
use Rattle.spp_path.specs.Trails.{runs, CanSkip, running_trail, skip_trail, leave_trail}
use Rattle.spp_path.proofs.OpenWeights.{two_open}
use Rattle.spp_path.proofs.Places.{PathFrame, Place, entries, new_frame, with_entry, is_on, not_on, owner_in, owner_out, strand_in, strand_out, sync_in, sync_out, call_in, call_beside, call_out, spawn_in, spawn_beside, spawn_out, return_in, return_back, return_out}

abbrev pub kinds_of : List PathFrame → List FrameKind
kinds_of ks = map (λ k. k.entry.kind) ks

abbrev pub trail_of : List EntryFrame → Bool → Trail
trail_of outs r = record { skipped = length outs; running = r }

-- ---- what an event does

abbrev pub CallDone : Marked → Marked → Type 0
CallDone old new = (runs old.trail ≡ true → new ≡ with_kind Called old) × (runs old.trail ≡ false → new ≡ with_trail (skip_trail old.trail) old)

abbrev pub SpawnDone : Bool → Marked → Marked → Type 0
SpawnDone enters old new = ((nat_eq old.trail.skipped 0 && enters) ≡ true → new ≡ with_kind Spawned (with_trail (running_trail true old.trail) old))
    × ((nat_eq old.trail.skipped 0 && enters) ≡ false → new ≡ with_trail (skip_trail old.trail) old)

abbrev pub SyncDone : Marked → Marked → Type 0
SyncDone old new = (old.trail.skipped ≡ 0 → new ≡ with_trail (running_trail true old.trail) old) × (0 < old.trail.skipped → new ≡ old)

abbrev pub ReturnDone : Marked → Marked → Type 0
ReturnDone old new = (old.trail.skipped ≡ 0 → IsBack old new) × (0 < old.trail.skipped → new ≡ with_trail (leave_trail old.trail) old)

not_zero : (n : ℕ) → nat_eq (suc n) 0 ≡ false
not_zero n = ne_eqb (suc n) 0 (λ e. absurd (omega arith))

more_kinds : (kind : FrameKind) (old new : Marked) (all : List FrameKind) → new ≡ with_kind kind old → AreKinds old all → AreKinds new (kind ∷ all)
more_kinds kind old new all is h = subst (λ (m : Marked). AreKinds m (kind ∷ all)) (sym is) (h.0, h.1, ap (λ (l : List FrameKind). kind ∷ l) h.2)

same_kinds : (t : Trail) (old new : Marked) (all : List FrameKind) → new ≡ with_trail t old → AreKinds old all → AreKinds new all
same_kinds t old new all is h = subst (λ (m : Marked). AreKinds m all) (sym is) h

trail_by : (t : Trail) (old new : Marked) → new ≡ with_trail t old → new.trail ≡ t
trail_by t old new is = ap (λ (m : Marked). m.trail) is

skipped_more : (t : Trail) (o : EntryFrame) (outs : List EntryFrame) (r : Bool) → t ≡ trail_of outs r → skip_trail t ≡ trail_of (o ∷ outs) r
skipped_more t o outs r e = ap skip_trail e ∙ ap (λ (n : ℕ). let u : Trail = record { skipped = n; running = r } in u) (let z : length outs + 1 ≡ suc (length outs) = omega arith in z)

skipped_less : (t : Trail) (o : EntryFrame) (outs : List EntryFrame) (r : Bool) → t ≡ trail_of (o ∷ outs) r → leave_trail t ≡ trail_of outs r
skipped_less t o outs r e = ap leave_trail e ∙ ap (λ (n : ℕ). let u : Trail = record { skipped = n; running = r } in u) (let z : suc (length outs) - 1 ≡ length outs = omega arith in z)

module _ (es : List Event) (wf : IsWellFormed es) (root : ℕ) (eb bd : Burdens) (rest : List ℕ) (path : IsPath es bd 0 (length es) rest) where
  abbrev PlaceAt : ℕ → ℕ → List EntryFrame → Bool → List PathFrame → Type 0
  PlaceAt = Place es wf root eb bd rest path

  -- before the event at i
  pub record Seen (i : ℕ) (m : Marked) : Type 0 where
    pub outs : List EntryFrame
    pub r : Bool
    pub ks : List PathFrame
    pub work : ℕ
    pub trail : m.trail ≡ trail_of outs r
    pub kinds : AreKinds m (kinds_of ks)
    pub place : PlaceAt i work outs r ks

  -- what is told of the event at i
  abbrev pub Says : ℕ → Bool → Type 0
  Says i b = (b ≡ true) ↔ On 0 rest i

  pub seen_skip : (i : ℕ) → i ≤ 268435456 → (m : Marked) → Seen i m → CanSkip m.trail
  seen_skip i short m s = subst CanSkip (sym s.trail) (let l = s.place.level in omega arith)

  module _ (i : ℕ) (old : Marked) where
    -- an event at which no frame waits is on the path where the innermost frame runs on
    pub says_runs : (e : Event) → event_at es i ≡ Some e → syncs (Some e) ≡ false → Seen i old → Says i (runs old.trail)
    says_runs e is n s = subst (λ (t : Trail). Says i (runs t)) (sym s.trail) (by s.outs s.ks s.place)
      where
        by : (outs : List EntryFrame) (ks : List PathFrame) → PlaceAt i s.work outs s.r ks → Says i (runs (trail_of outs s.r))
        by (o ∷ os) ks h = (
          (λ t. absurd (both_ways (nat_eq (suc (length os)) 0) (not_zero (length os)) (and_parts (nat_eq (suc (length os)) 0) s.r t).0)),
          λ on. absurd (not_on es wf root eb bd rest path i s.work o os s.r ks h e is n on),
        )
        by [] [] h = absurd h.open_frames
        by [] (k ∷ ks) h = is_on es wf root eb bd rest path i s.work s.r k ks h e is n

    -- one at which a frame waits is where that frame is entered
    pub says_enters : (e : Event) → event_at es i ≡ Some e → syncs (Some e) ≡ true → Seen i old → Says i (nat_eq old.trail.skipped 0)
    says_enters e is n s = subst (λ (t : Trail). Says i (nat_eq t.skipped 0)) (sym s.trail) (by s.outs s.ks s.place)
      where
        l : i < length es
        l = inside es i e is

        upto : i ≤ length es
        upto = let z = l in omega arith

        by : (outs : List EntryFrame) (ks : List PathFrame) → PlaceAt i s.work outs s.r ks → Says i (nat_eq (length outs) 0)
        by (o ∷ os) ks h = (
          (λ t. absurd (both_ways (nat_eq (suc (length os)) 0) (not_zero (length os)) t)),
          λ on. absurd (h.beside.0 (subst (λ g. On 0 rest g) (owner_out es wf root eb bd rest path i s.work o os s.r ks h l)
              (frame_passed es wf bd rest (whole_of es wf bd rest path).0 i (whole_of es wf bd rest path).1 upto on))),
        )
        by [] [] h = absurd h.open_frames
        by [] (k ∷ ks) h = (
          (λ _. wait_passed es wf bd rest (whole_of es wf bd rest path).0 i (whole_of es wf bd rest path).1 upto (λ _. ap syncs is ∙ n)
              (subst (λ g. On 0 rest g) (sym (owner_in es wf root eb bd rest path i s.work s.r k ks h l)) h.entered.0)),
          λ _. refl,
        )

    module _ (new : Marked) where
      pub strand_step : (n : ℕ) → event_at es i ≡ Some (Strand n) → Seen i old → Seen (suc i) old
      strand_step n is s = by s.outs s.ks s.trail s.kinds s.place
        where
          by : (outs : List EntryFrame) (ks : List PathFrame) → old.trail ≡ trail_of outs s.r → AreKinds old (kinds_of ks) → PlaceAt i s.work outs s.r ks → Seen (suc i) old
          by (o ∷ os) ks t q h = record { outs = stranded n o ∷ os; r = s.r; ks = ks; work = s.work + n; trail = t; kinds = q; place = strand_out es wf root eb bd rest path i s.work o os s.r ks h n is }
          by [] [] t q h = absurd h.open_frames
          by [] (k ∷ ks) t q h = record {
            outs = [];
            r = s.r;
            ks = record k { entry = stranded n k.entry; local = k.local } ∷ ks;
            work = s.work + n;
            trail = t;
            kinds = q;
            place = strand_in es wf root eb bd rest path i s.work s.r k ks h n k.local is;
          }

      pub sync_step : event_at es i ≡ Some Sync → Seen i old → SyncDone old new → Seen (suc i) new
      sync_step is s d = by s.outs s.ks s.trail s.kinds s.place
        where
          by : (outs : List EntryFrame) (ks : List PathFrame) → old.trail ≡ trail_of outs s.r → AreKinds old (kinds_of ks) → PlaceAt i s.work outs s.r ks → Seen (suc i) new
          by (o ∷ os) ks t q h =
              let same : new ≡ old = d.1 (let z : old.trail.skipped ≡ suc (length os) = ap (λ (x : Trail). x.skipped) t in omega arith) in
              subst (λ (m : Marked). Seen (suc i) m) (sym same)
              (record { outs = waited o ∷ os; r = s.r; ks = ks; work = s.work; trail = t; kinds = q; place = sync_out es wf root eb bd rest path i s.work o os s.r ks h is })
          by [] [] t q h = absurd h.open_frames
          by [] (k ∷ ks) t q h =
              let same : new ≡ with_trail (running_trail true old.trail) old = d.0 (ap (λ (x : Trail). x.skipped) t) in
              record {
                outs = [];
                r = true;
                ks = record k { entry = waited k.entry } ∷ ks;
                work = s.work;
                trail = trail_by (running_trail true old.trail) old new same ∙ ap (running_trail true) t;
                kinds = same_kinds (running_trail true old.trail) old new (kinds_of (k ∷ ks)) same q;
                place = sync_in es wf root eb bd rest path i s.work s.r k ks h is;
              }

      -- a frame is opened that the path doesn't enter
      beside_step : (outs : List EntryFrame) (r : Bool) (ks : List PathFrame) (w : ℕ) (o : EntryFrame) → old.trail ≡ trail_of outs r → AreKinds old (kinds_of ks)
          → new ≡ with_trail (skip_trail old.trail) old → PlaceAt (suc i) w (o ∷ outs) r ks → Seen (suc i) new
      beside_step outs r ks w o t q same h = record {
        outs = o ∷ outs;
        r = r;
        ks = ks;
        work = w;
        trail = trail_by (skip_trail old.trail) old new same ∙ skipped_more old.trail o outs r t;
        kinds = same_kinds (skip_trail old.trail) old new (kinds_of ks) same q;
        place = h;
      }

      pub call_step : (site func : ℕ) → event_at es i ≡ Some (Call site func) → Seen i old → CallDone old new → Seen (suc i) new
      call_step site func is s d = by s.outs s.ks s.trail s.kinds s.place
        where
          by : (outs : List EntryFrame) (ks : List PathFrame) → old.trail ≡ trail_of outs s.r → AreKinds old (kinds_of ks) → PlaceAt i s.work outs s.r ks → Seen (suc i) new
          by (o ∷ os) ks t q h =
              beside_step (o ∷ os) s.r ks s.work (opened Called i site func s.work o (os ++ entries ks)) t q (d.1 (ap runs t ∙ ap (λ c. c && s.r) (not_zero (length os))))
              (call_out es wf root eb bd rest path i s.work o os s.r ks h site func is)
          by [] [] t q h = absurd h.open_frames
          by [] (k ∷ ks) t q h = elim (cases_Bool s.r) [
            | inl r ↦
                let same : new ≡ with_kind Called old = d.0 (ap runs t ∙ r) in
                record {
                  outs = [];
                  r = true;
                  ks = new_frame Called i site func s.work k.entry (entries ks) ∷ k ∷ ks;
                  work = s.work;
                  trail = ap (λ (m : Marked). m.trail) same ∙ t ∙ ap (trail_of []) r;
                  kinds = more_kinds Called old new (kinds_of (k ∷ ks)) same q;
                  place = call_in es wf root eb bd rest path i s.work s.r k ks h site func is r;
                }
            | inr r ↦
                beside_step [] s.r (k ∷ ks) s.work (opened Called i site func s.work k.entry (entries ks)) t q (d.1 (ap runs t ∙ r))
                (call_beside es wf root eb bd rest path i s.work s.r k ks h site func is r)
          ]

      pub spawn_step : (enters : Bool) (site func : ℕ) → event_at es i ≡ Some (Spawn site func) → (enters ≡ true) ↔ On 0 rest (suc i) → Seen i old → SpawnDone enters old new → Seen (suc i) new
      spawn_step enters site func is on s d = by s.outs s.ks s.trail s.kinds s.place
        where
          cond_is : (outs : List EntryFrame) → old.trail ≡ trail_of outs s.r → (nat_eq old.trail.skipped 0 && enters) ≡ (nat_eq (length outs) 0 && enters)
          cond_is outs t = ap (λ (x : Trail). nat_eq x.skipped 0 && enters) t

          by : (outs : List EntryFrame) (ks : List PathFrame) → old.trail ≡ trail_of outs s.r → AreKinds old (kinds_of ks) → PlaceAt i s.work outs s.r ks → Seen (suc i) new
          by (o ∷ os) ks t q h =
              beside_step (o ∷ os) s.r ks s.work (opened Spawned i site func s.work o (os ++ entries ks)) t q (d.1 (cond_is (o ∷ os) t ∙ ap (λ c. c && enters) (not_zero (length os))))
              (spawn_out es wf root eb bd rest path i s.work o os s.r ks h site func is)
          by [] [] t q h = absurd h.open_frames
          by [] (k ∷ ks) t q h = elim (cases_Bool enters) [
            | inl e ↦
                let same : new ≡ with_kind Spawned (with_trail (running_trail true old.trail) old) = d.0 (cond_is [] t ∙ e) in
                record {
                  outs = [];
                  r = true;
                  ks = new_frame Spawned i site func s.work k.entry (entries ks) ∷ k ∷ ks;
                  work = s.work;
                  trail = ap (λ (m : Marked). m.trail) same ∙ ap (running_trail true) t;
                  kinds = more_kinds Spawned (with_trail (running_trail true old.trail) old) new (kinds_of (k ∷ ks)) same q;
                  place = spawn_in es wf root eb bd rest path i s.work s.r k ks h site func is (on.0 e);
                }
            | inr e ↦
                beside_step [] s.r (k ∷ ks) s.work (opened Spawned i site func s.work k.entry (entries ks)) t q (d.1 (cond_is [] t ∙ e))
                (spawn_beside es wf root eb bd rest path i s.work s.r k ks h site func is (λ x. both_ways enters e (on.1 x)))
          ]

      -- a return never meets the root alone
      not_alone : (f : EntryFrame) (w : ℕ) → event_at es i ≡ Some Ret → IsEntry es eb root i (f ∷ []) w → ⊥
      not_alone f w is at =
          let o = two_open es wf root eb i (f ∷ []) w is at in
          let n = ap (λ (x : List EntryFrame). length x) o.3 in
          omega arith

      pub return_step : event_at es i ≡ Some Ret → Seen i old → ReturnDone old new → Seen (suc i) new
      return_step is s d = by s.outs s.ks s.trail s.kinds s.place
        where
          left : (o : EntryFrame) (os : List EntryFrame) → old.trail ≡ trail_of (o ∷ os) s.r → new ≡ with_trail (leave_trail old.trail) old
          left o os t = d.1 (let z : old.trail.skipped ≡ suc (length os) = ap (λ (x : Trail). x.skipped) t in omega arith)

          by : (outs : List EntryFrame) (ks : List PathFrame) → old.trail ≡ trail_of outs s.r → AreKinds old (kinds_of ks) → PlaceAt i s.work outs s.r ks → Seen (suc i) new
          by (o ∷ p ∷ os) ks t q h = record {
            outs = returned eb o p ∷ os;
            r = s.r;
            ks = ks;
            work = s.work;
            trail = trail_by (leave_trail old.trail) old new (left o (p ∷ os) t) ∙ skipped_less old.trail o (p ∷ os) s.r t;
            kinds = same_kinds (leave_trail old.trail) old new (kinds_of ks) (left o (p ∷ os) t) q;
            place = return_out es wf root eb bd rest path i s.work o p os s.r ks h is;
          }
          by (o ∷ []) [] t q h = absurd h.open_frames
          by (o ∷ []) (k ∷ ks) t q h = record {
            outs = [];
            r = s.r;
            ks = with_entry (returned eb o k.entry) k ∷ ks;
            work = s.work;
            trail = trail_by (leave_trail old.trail) old new (left o [] t) ∙ skipped_less old.trail o [] s.r t;
            kinds = same_kinds (leave_trail old.trail) old new (kinds_of (k ∷ ks)) (left o [] t) q;
            place = return_back es wf root eb bd rest path i s.work o s.r k ks h is;
          }
          by [] [] t q h = absurd h.open_frames
          by [] (k ∷ []) t q h = absurd (not_alone k.entry s.work is h.entry)
          by [] (k ∷ g ∷ ks) t q h =
              let b = d.0 (ap (λ (x : Trail). x.skipped) t) k.entry.kind (kinds_of (g ∷ ks)) q in
              record {
                outs = [];
                r = is_called k.entry.kind;
                ks = with_entry (returned eb k.entry g.entry) g ∷ ks;
                work = s.work;
                trail = b.0 ∙ ap (running_trail (is_called k.entry.kind)) t;
                kinds = b.1;
                place = return_in es wf root eb bd rest path i s.work s.r k g ks h is;
              }
