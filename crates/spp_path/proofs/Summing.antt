-- In a well-formed trace the pass that sums up the rows of the path meets the conditions of each step.
use Rattle.std.proofs.Common.{◌≡◌, ℕ, suc, ◌+◌, ◌*◌, ◌<◌, ◌≤◌, ◌^◌, Bool, true, cond, List, [], ◌∷◌, length, map, Option, Some, None, refl, sym, ap, subst, ◌∙◌, arith}
use Rattle.std.proofs.lemmas.Bool.{eq-eqb}
use Rattle.spp_event.specs.declared.records.Event.{Event}
use Rattle.spp_event.specs.declared.records.Event.TheVariants.{Ret}
use Rattle.spp_maxplus.specs.declared.state.Burdens.{Burdens}
use Rattle.spp_dag.specs.declared.row.Row.{Row}
use Rattle.spp_dag.specs.declared.stack.EntryFrame.{EntryFrame}
use Rattle.spp_dag.specs.Trace.{event_at, IsWellFormed}
use Rattle.spp_dag.specs.Dag.{IsPath}
use Rattle.spp_dag.specs.Rows.{AreSpans}
use Rattle.spp_dag.specs.Shares.{plus, zero_row}
use Rattle.spp_dag.specs.Choices.{IsEntry}
use Rattle.spp_dag.specs.Steps.{key_of, same_key, strand_row}
use Rattle.spp_site.specs.Rows.{Fits}
use Rattle.spp_site.specs.Table.{Sums, row_at}
use Rattle.spp_path.specs.declared.rows.EnteredFrame.{EnteredFrame}
use Rattle.spp_site.specs.Profiles.{key_row}
use Rattle.spp_path.specs.Trails.{CanSkip}
use Rattle.spp_path.specs.Rows.{Told, CanAdd, CanReturn}
use Rattle.spp_path.proofs.OpenWeights.{ClosesIn, two_open}
use Rattle.spp_site.proofs.RowSums.{full_row, low_fits}
use Rattle.spp_path.proofs.Places.{PathFrame, entries}
use Rattle.spp_path.proofs.Sites.{AllEnterBelow, entry_below}
use Rattle.spp_path.proofs.Events.{HasFirst}
use Rattle.spp_path.proofs.Summed.{owed, on, shown, tell, shares_to, At, Summed, heads, row_is, return_rows, return_low}

pub same_self : (key : Option ℕ) → same_key key key ≡ true
same_self None = refl
same_self (Some s) = eq-eqb s s refl

module _ (es : List Event) (wf : IsWellFormed es) (root : ℕ) (eb : Burdens) (span : ℕ → ℕ) (spans : AreSpans es span) (bd : Burdens) (rest : List ℕ) (path : IsPath es bd 0 (length es) rest) (from : ℕ) where
  abbrev SummedTo : ℕ → Told → Type 0
  SummedTo = Summed es wf root eb span spans bd rest path from

  abbrev AtPlace : ℕ → List EntryFrame → Bool → List PathFrame → (ℕ → Bool) → (ℕ → Bool) → ℕ → Sums → Type 0
  AtPlace = At es wf root eb span spans bd rest path from

  abbrev so_far : ℕ → Option ℕ → Row
  so_far = shares_to es wf root eb span spans bd rest path from

  abbrev on_path : ℕ → Bool
  on_path = on es wf root eb span spans bd rest path from

  abbrev shows : PathFrame → EnteredFrame
  shows = shown es wf root eb span spans bd rest path from

  abbrev tells : List EntryFrame → Bool → List PathFrame → (ℕ → Bool) → (ℕ → Bool) → ℕ → Sums → Told
  tells = tell es wf root eb span spans bd rest path from

  abbrev ClosesAt : ℕ → ℕ → Type 0
  ClosesAt i v = ClosesIn es root eb i v

  -- ---- the conditions

  -- the innermost frame has no more strands than the work so far
  local_le : (i : ℕ) (outs : List EntryFrame) (r : Bool) (k : PathFrame) (ks : List PathFrame) (a b : ℕ → Bool) (w : ℕ) (t : Sums) → AtPlace i outs r (k ∷ ks) a b w t → k.local ≤ w
  local_le i outs r k ks a b w t h =
      let key : Option ℕ = key_of k.entry in
      let e : plus (key_row t key) (plus (strand_row k.local) (owed ks key)) ≡ so_far i key =
      ap (λ c. plus (key_row t key) (plus (cond c (strand_row k.local) zero_row) (owed ks key))) (sym (same_self key)) ∙ h.rows key in
      let m : (key_row t key).local + (k.local + (owed ks key).local) ≡ (so_far i key).local = ap (λ r. r.local) e in
      let l = (h.low key).local in
      omega arith

  pub can_add : (i n : ℕ) → i ≤ 268435456 → n < 2 ^ 64 → (t : Told) → SummedTo i t → CanAdd n t
  can_add i n short l t s =
      subst (λ x. CanAdd n x) (sym s.is) (by s.outs s.ks s.at)
    where
      by : (outs : List EntryFrame) (ks : List PathFrame) → AtPlace i outs t.trail.running ks t.open_sites t.open_funcs t.work t.table
          → CanAdd n (tells outs t.trail.running ks t.open_sites t.open_funcs t.work t.table)
      by outs [] h = absurd h.place.open_frames
      by outs (k ∷ ks) h =
          let m = h.small in
          let q = local_le i outs t.trail.running k ks t.open_sites t.open_funcs t.work t.table h in
          record { local = omega arith; work = omega arith }

  pub can_skip : (i : ℕ) → i ≤ 268435456 → (t : Told) → SummedTo i t → CanSkip t.trail
  can_skip i short t s =
      subst (λ x. CanSkip x.trail) (sym s.is) (by s.outs s.ks s.at)
    where
      by : (outs : List EntryFrame) (ks : List PathFrame) → AtPlace i outs t.trail.running ks t.open_sites t.open_funcs t.work t.table
          → CanSkip (tells outs t.trail.running ks t.open_sites t.open_funcs t.work t.table).trail
      by outs ks h = let l = h.place.level in omega arith

  -- some entered frame is open
  pub has_first : (i : ℕ) (t : Told) → SummedTo i t → (f : EnteredFrame) × HasFirst f t
  has_first i t s = by s.outs s.ks s.is s.at
    where
      by : (outs : List EntryFrame) (ks : List PathFrame) → t ≡ tells outs t.trail.running ks t.open_sites t.open_funcs t.work t.table
          → AtPlace i outs t.trail.running ks t.open_sites t.open_funcs t.work t.table → (f : EnteredFrame) × HasFirst f t
      by outs [] e h = absurd h.place.open_frames
      by outs (k ∷ ks) e h = (shows k, (map shows ks, ap (λ x. x.frames) e))

  -- a return never meets the root alone
  not_alone : (i : ℕ) (f : EntryFrame) (w : ℕ) → event_at es i ≡ Some Ret → IsEntry es eb root i (f ∷ []) w → ⊥
  not_alone i f w is at =
      let o = two_open es wf root eb i (f ∷ []) w is at in
      let n = ap (λ (x : List EntryFrame). length x) o.3 in
      omega arith

  pub can_return : AllEnterBelow 65536 es → (i : ℕ) → from ≤ i → event_at es i ≡ Some Ret → i ≤ 268435456 → (v : ℕ) → ClosesAt i v → v < 2 ^ 92 → (f : EnteredFrame) (t : Told) → HasFirst f t → SummedTo i t
      → t.trail.skipped ≡ 0 → CanReturn f v t
  can_return known i begun is short v closes light f t top s none =
      subst (λ x. CanReturn f v x) (sym s.is) (by s.outs s.ks s.at
      (subst (λ x. HasFirst f x) s.is top) (ap (λ x. x.trail.skipped) (sym s.is) ∙ none))
    where
      in_tell : (k g : PathFrame) (ks : List PathFrame) → AtPlace i [] t.trail.running (k ∷ g ∷ ks) t.open_sites t.open_funcs t.work t.table
          → CanReturn (shows k) v (tells [] t.trail.running (k ∷ g ∷ ks) t.open_sites t.open_funcs t.work t.table)
      in_tell k g ks h =
          let key : key_of k.entry ≡ Some k.entry.site = h.place.open_frames.0 in
          let same : same_key (key_of k.entry) (Some k.entry.site) ≡ true = ap (λ o. same_key o (Some k.entry.site)) key ∙ eq-eqb k.entry.site k.entry.site refl in
          let m : t.work ≤ 18446744073709551616 * i = h.small in
          let e = closes k.entry (entries (g ∷ ks)) t.work h.place.entry in
          let rows = ap (λ c. plus (cond c (plus (row_at t.table k.entry.site) (full_row k.entry k.local t.work)) (row_at t.table k.entry.site)) (owed (g ∷ ks) (Some k.entry.site))) (sym same)
          ∙ return_rows es wf root eb span spans bd rest path from i begun is t.trail.running k (g ∷ ks) t.open_sites t.open_funcs t.work t.table h (Some k.entry.site) in
          let fits = low_fits (suc i) t.work _ _ _ rows (return_low es wf root eb span spans bd rest path from i begun is short v closes light t.trail.running k (g ∷ ks) t.open_sites t.open_funcs t.work t.table h (Some k.entry.site)) (omega arith) (omega arith) in
          record {
            deep = omega arith;
            work_before = h.place.open_frames.1;
            site = entry_below 65536 (omega arith) es known root eb i k.entry (entries (g ∷ ks)) t.work h.place.entry;
            row = subst (λ r. Fits (plus (row_at t.table k.entry.site) r)) (sym (row_is es wf root eb span spans bd rest path from i begun k t.work v e)) fits;
          }

      by : (outs : List EntryFrame) (ks : List PathFrame) → AtPlace i outs t.trail.running ks t.open_sites t.open_funcs t.work t.table
          → HasFirst f (tells outs t.trail.running ks t.open_sites t.open_funcs t.work t.table) → length outs ≡ 0
          → CanReturn f v (tells outs t.trail.running ks t.open_sites t.open_funcs t.work t.table)
      by (o ∷ os) ks h top z = absurd (omega arith)
      by [] [] h top z = absurd h.place.open_frames
      by [] (k ∷ []) h top z = absurd (not_alone i k.entry t.work is h.place.entry)
      by [] (k ∷ g ∷ ks) h top z =
          subst (λ x. CanReturn x v (tells [] t.trail.running (k ∷ g ∷ ks) t.open_sites t.open_funcs t.work t.table))
          (sym (heads es wf root eb span spans bd rest path from i begun f top.0 k (g ∷ ks) top.1)) (in_tell k g ks h)
