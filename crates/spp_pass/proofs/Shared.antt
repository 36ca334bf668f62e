-- What the table's part of a pass keeps in a well-formed trace: its frames are the open ones, and the table and what
-- they owe are the shares of the positions from where it began.
use Rattle.std.proofs.Common.{◌≡◌, ℕ, suc, ◌+◌, ◌-◌, ◌≤◌, Bool, true, cond, not, List, [], ◌∷◌, length, map, take, Option, Some, None, refl, sym, ap, ap₂, subst, ◌∙◌, arith, Ok}
use Rattle.std.proofs.lemmas.List.{length-map, take_all}
use Rattle.spp_event.specs.declared.records.Event.{Event}
use Rattle.spp_event.specs.declared.records.Event.TheVariants.{Strand, Call, Spawn, Ret, Sync}
use Rattle.spp_event.specs.Recordings.{Record}
use Rattle.spp_frame.specs.Nesting as nesting
use Rattle.spp_maxplus.specs.declared.state.Burdens.{Burdens}
use Rattle.spp_maxplus.specs.State.{unburdened, start, close}
use Rattle.spp_dag.specs.declared.row.Row.{Row}
use Rattle.spp_dag.specs.declared.stack.OpenFrame.{OpenFrame}
use Rattle.spp_dag.specs.declared.stack.EntryFrame.{EntryFrame}
use Rattle.spp_dag.specs.declared.stack.FrameKind.{FrameKind}
use Rattle.spp_dag.specs.declared.stack.FrameKind.TheVariants.{Called, Spawned}
use Rattle.spp_dag.specs.Trace.{records, event_at, weight_of, IsWellFormed}
use Rattle.spp_dag.specs.Rows.{AreSpans, everywhere, row, work}
use Rattle.spp_dag.specs.Stack.{run, root_frame}
use Rattle.spp_dag.specs.Shares.{share, plus, zero_row}
use Rattle.spp_dag.specs.Laws.{own_row}
use Rattle.spp_dag.specs.Choices.{IsEntry, entry_frame}
use Rattle.spp_dag.specs.Steps.{site_by, key_of, same_key, has_site, has_func, opened, entry_after, closed_row, strand_row, gain}
use Rattle.spp_dag.proofs.Shares.{same_rows, shares_law, cut_law, end_law}
use Rattle.spp_dag.proofs.Stacks.{machine_gives_spans}
use Rattle.spp_dag.proofs.Steps.{entry_follows}
use Rattle.spp_dag.proofs.StepsShares.{share_follows}
use Rattle.spp_dag.proofs.Profiles.{greatest_one, root_work}
use Rattle.spp_site.specs.Table.{Sums, row_at}
use Rattle.spp_site.proofs.Rows.{plus-zero, zero-plus}
use Rattle.spp_site.specs.Profiles.{key_row}
use Rattle.spp_pass.proofs.TablePart.{Counted, Told, full_row, start_told, strand_told, sync_told, opened_frame, open_told, IsReturned}
use Rattle.spp_site.proofs.RowSums.{strand_owed, none_owed, closed_owed}
use Rattle.spp_site.proofs.RowSums.{doubled}
use Rattle.spp_pass.proofs.Bounded.{entries, owed, Bounded, tell, start_rows, added, left, root_key}
use Rattle.spp_dag.proofs.OpenEntries.{AreOpen}

-- before the event at i the pass, which began at `from`, has t
pub record Shared (es : List Event) (burdens : Burdens) (root : ℕ) (span : ℕ → ℕ) (from i : ℕ) (t : Told) : Type 0 where
  pub entry : IsEntry es burdens root i (entries t.frames) t.work
  pub rows : (key : Option ℕ) → plus (key_row t.table key) (owed t.frames key) ≡ share es root span everywhere key from i

-- ---- one event

module _ (es : List Event) (wf : IsWellFormed es) (burdens : Burdens) (root : ℕ) (span : ℕ → ℕ) (spans : AreSpans es span) (from i : ℕ) (begun : from ≤ i) where
  abbrev so_far : Option ℕ → Row
  so_far key = share es root span everywhere key from i

  -- the shares, with what the event adds
  share_next : (e : Event) → event_at es i ≡ Some e → (f : EntryFrame) (fs : List EntryFrame) (w : ℕ) → IsEntry es burdens root i (f ∷ fs) w → (key : Option ℕ)
      → plus (so_far key) (gain everywhere key i e f w) ≡ share es root span everywhere key from (suc i)
  share_next e is f fs w at key =
      ap (λ r. plus (so_far key) r) (sym (share_follows es wf burdens root span spans everywhere key i e is f fs w at))
      ∙ sym (shares_law es root span everywhere key from i (suc i) begun (omega arith))

  entry_next : (e : Event) → event_at es i ≡ Some e → (fs : List EntryFrame) (w v : ℕ) → IsEntry es burdens root i fs w → v ≡ w + weight_of (Some e)
      → IsEntry es burdens root (suc i) (entry_after burdens i e w fs) v
  entry_next e is fs w v at same =
      subst (λ n. IsEntry es burdens root (suc i) (entry_after burdens i e w fs) n) (ap (λ o. w + weight_of o) is ∙ sym same) (entry_follows es wf burdens root i e is fs w at)

  pub strand_shared : (n : ℕ) → event_at es i ≡ Some (Strand n) → (f : Counted) (fs : List Counted) (a b : ℕ → Bool) (w : ℕ) (t : Sums)
      → Shared es burdens root span from i (tell (f ∷ fs) a b w t) → Shared es burdens root span from (suc i) (strand_told n (tell (f ∷ fs) a b w t))
  strand_shared n is f fs a b w t h = record {
    entry = entry_next (Strand n) is (entries (f ∷ fs)) w (w + n) h.entry refl;
    rows = λ key. strand_owed (same_key (key_of f.entry) key) f.local n (key_row t key) (owed fs key)
        ∙ ap (λ r. plus r (cond (same_key (key_of f.entry) key) (strand_row n) zero_row)) (h.rows key)
        ∙ share_next (Strand n) is f.entry (entries fs) w h.entry key;
  }

  pub sync_shared : event_at es i ≡ Some Sync → (f : Counted) (fs : List Counted) (a b : ℕ → Bool) (w : ℕ) (t : Sums)
      → Shared es burdens root span from i (tell (f ∷ fs) a b w t) → Shared es burdens root span from (suc i) (sync_told (tell (f ∷ fs) a b w t))
  sync_shared is f fs a b w t h = record {
    entry = entry_next Sync is (entries (f ∷ fs)) w w h.entry (omega arith);
    rows = λ key. h.rows key ∙ sym (plus-zero (so_far key)) ∙ share_next Sync is f.entry (entries fs) w h.entry key;
  }

  -- the new frame is marked as it should be
  new_entry : (kind : FrameKind) (at site func : ℕ) (f : Counted) (fs : List Counted) (t : Told)
      → ((s : ℕ) → t.open_sites s ≡ has_site (entries (f ∷ fs)) s) → f.top_func ≡ not (has_func (entries fs) f.entry.func)
      → opened kind at site func t.work f.entry (entries fs) ≡ (opened_frame kind at site func t f).entry
  new_entry kind at site func f fs t sites func_is =
      let by_site : not (has_site (entries (f ∷ fs)) site) ≡ not (t.open_sites site) = ap not (sym (sites site)) in
      let by_func : not (has_func (entries fs) f.entry.func) ≡ f.top_func = sym func_is in
      ap₂ (λ (x y : Bool). let e : EntryFrame = record { kind = kind; at = at; site = site; func = func; before = t.work; state = start; burdened = start; top_site = x; top_caller = y } in e) by_site by_func

  -- an event that opens such a frame
  record Opens (e : Event) (kind : FrameKind) (site func : ℕ) : Type 0 where
    is : event_at es i ≡ Some e
    after : (w : ℕ) (f : EntryFrame) (fs : List EntryFrame) → entry_after burdens i e w (f ∷ fs) ≡ opened kind i site func w f fs ∷ f ∷ fs
    gains : (k : Option ℕ) (f : EntryFrame) (w : ℕ) → gain everywhere k i e f w ≡ zero_row
    light : weight_of (Some e) ≡ 0

  open_shared : (e : Event) (kind : FrameKind) (site func : ℕ) → Opens e kind site func → (f : Counted) (fs : List Counted) (a b : ℕ → Bool) (w : ℕ) (t : Sums)
      → Bounded i (tell (f ∷ fs) a b w t) → Shared es burdens root span from i (tell (f ∷ fs) a b w t) → Shared es burdens root span from (suc i) (open_told kind i site func (tell (f ∷ fs) a b w t))
  open_shared e kind site func o f fs a b w t bounds h =
      let old : Told = tell (f ∷ fs) a b w t in
      let light : weight_of (Some e) ≡ 0 = o.light in
      record {
        entry = subst (λ gs. IsEntry es burdens root (suc i) gs w) (o.after w f.entry (entries fs) ∙ ap (λ g. g ∷ entries (f ∷ fs)) (new_entry kind i site func f fs old bounds.sites bounds.marked.1))
            (entry_next e o.is (entries (f ∷ fs)) w w h.entry (omega arith));
        rows = λ key. ap (λ r. plus (key_row t key) r) (none_owed (same_key (site_by kind site) key) (owed (f ∷ fs) key)) ∙ h.rows key ∙ sym (plus-zero (so_far key))
            ∙ ap (λ r. plus (so_far key) r) (sym (o.gains key f.entry w)) ∙ share_next e o.is f.entry (entries fs) w h.entry key;
      }

  pub call_shared : (site func : ℕ) → event_at es i ≡ Some (Call site func) → (f : Counted) (fs : List Counted) (a b : ℕ → Bool) (w : ℕ) (t : Sums)
      → Bounded i (tell (f ∷ fs) a b w t) → Shared es burdens root span from i (tell (f ∷ fs) a b w t) → Shared es burdens root span from (suc i) (open_told Called i site func (tell (f ∷ fs) a b w t))
  call_shared site func is = open_shared (Call site func) Called site func (record { is = is; after = λ w f fs. refl; gains = λ k f w. refl; light = refl })

  pub spawn_shared : (site func : ℕ) → event_at es i ≡ Some (Spawn site func) → (f : Counted) (fs : List Counted) (a b : ℕ → Bool) (w : ℕ) (t : Sums)
      → Bounded i (tell (f ∷ fs) a b w t) → Shared es burdens root span from i (tell (f ∷ fs) a b w t) → Shared es burdens root span from (suc i) (open_told Spawned i site func (tell (f ∷ fs) a b w t))
  spawn_shared site func is = open_shared (Spawn site func) Spawned site func (record { is = is; after = λ w f fs. refl; gains = λ k f w. refl; light = refl })

  pub return_shared : event_at es i ≡ Some Ret → (f g : Counted) (fs : List Counted) (a b : ℕ → Bool) (w : ℕ) (t : Sums) (new : Told)
      → Bounded i (tell (f ∷ g ∷ fs) a b w t) → IsReturned burdens f (tell (f ∷ g ∷ fs) a b w t) new → Shared es burdens root span from i (tell (f ∷ g ∷ fs) a b w t) → Shared es burdens root span from (suc i) new
  return_shared is f g fs a b w t new bounds r h =
      let k : key_of f.entry ≡ Some f.entry.site = bounds.open_frames.0 in
      subst (λ x. Shared es burdens root span from (suc i) x) (sym (left burdens f g fs a b w t new r))
      (record {
        entry = entry_next Ret is (entries (f ∷ g ∷ fs)) w w h.entry (omega arith);
        rows = λ key. ap (λ x. plus x (owed (g ∷ fs) key)) (added f w t new.table k r.table key)
            ∙ closed_owed (same_key (key_of f.entry) key) f.entry f.local w (key_row t key) (owed (g ∷ fs) key)
            ∙ ap (λ r. plus r (cond (same_key (key_of f.entry) key) (closed_row f.entry w) zero_row)) (h.rows key)
            ∙ share_next Ret is f.entry (entries (g ∷ fs)) w h.entry key;
      })

-- ---- the start and the end

module _ (es : List Event) (wf : IsWellFormed es) (root : ℕ) (span : ℕ → ℕ) (spans : AreSpans es span) where
  pub share_none : (from : ℕ) (key : Option ℕ) → share es root span everywhere key from from ≡ zero_row
  share_none from key = doubled _ (shares_law es root span everywhere key from from from (omega arith) (omega arith))

  pub start_shared : (burdens : Burdens) → Shared es burdens root span 0 0 (start_told root)
  start_shared burdens = record {
    entry = (root_frame root ∷ [], refl, refl, refl);
    rows = λ key. start_rows root key ∙ sym (share_none 0 key);
  }

  -- at the end the root closes with the span
  record Ended (f : Counted) (w : ℕ) : Type 0 where
    span_is : close f.entry.state ≡ span 0
    work_is : w ≡ work es 0

  ended : (burdens : Burdens) (f : Counted) (fs : List Counted) (w : ℕ) → IsEntry es burdens root (length es) (entries (f ∷ fs)) w → Ended f w
  ended burdens f fs w at =
      let m = machine_gives_spans es wf burdens root in
      let all : take (length es) es ≡ es = take_all (length es) es (omega arith) in
      let ran : run burdens 0 es (root_frame root ∷ []) ≡ Some at.0 = ap (λ part. run burdens 0 part (root_frame root ∷ [])) (sym all) ∙ at.1 in
      let both : Some at.0 ≡ Some (m.0 ∷ []) = sym ran ∙ m.1 in
      let one : at.0 ≡ m.0 ∷ [] = cc in
      let frames : entries (f ∷ fs) ≡ entry_frame es root m.0 ∷ [] = at.2 ∙ ap (λ (os : List OpenFrame). map (entry_frame es root) os) one in
      let first : f.entry ≡ entry_frame es root m.0 = cc in
      let n : length (records es) ≡ length es = length-map es (λ e. Ok e) in
      let whole : take (length es) (records es) ≡ records es = take_all (length es) (records es) (omega arith) in
      record {
        span_is = ap (λ (e : EntryFrame). close e.state) first ∙ greatest_one es unburdened 0 (length es) (close m.0.plain) (span 0) m.2 (spans 0 refl);
        work_is = at.3 ∙ ap (λ (rs : List Record). nesting.work rs) whole ∙ sym (root_work es);
      }

  -- the root's row, which is what the end adds
  root_closed : (f : Counted) (w : ℕ) → AreOpen w (f.entry ∷ []) → close f.entry.state ≡ span 0 → w ≡ work es 0 → closed_row f.entry w ≡ own_row es span
  root_closed f w h s v =
      let before : f.entry.before ≡ 0 = h.1 in
      let site : f.entry.top_site ≡ true = h.2 in
      let caller : f.entry.top_caller ≡ true = h.3 in
      let all : w - f.entry.before ≡ work es 0 = omega arith in
      same_rows (closed_row f.entry w) (own_row es span) refl refl
      (ap (λ c. cond {A = ℕ} c 1 0) site) (ap (λ c. cond c (w - f.entry.before) 0) site ∙ all) (ap (λ c. cond c (close f.entry.state) 0) site ∙ s)
      (ap (λ c. cond {A = ℕ} c 1 0) caller) (ap (λ c. cond c (w - f.entry.before) 0) caller ∙ all) (ap (λ c. cond c (close f.entry.state) 0) caller ∙ s)

  root_added : (burdens : Burdens) (f : Counted) (a b : ℕ → Bool) (w : ℕ) (t : Sums) → AreOpen w (f.entry ∷ []) → Shared es burdens root span 0 (length es) (tell (f ∷ []) a b w t)
      → plus t.root (full_row f w) ≡ plus (share es root span everywhere None 0 (length es)) (closed_row f.entry w)
  root_added burdens f a b w t opens h =
      let same : same_key (key_of f.entry) None ≡ true = ap (λ o. same_key o None) (root_key w f opens) in
      sym (plus-zero (plus t.root (full_row f w)))
      ∙ ap (λ c. plus (cond c (plus t.root (full_row f w)) t.root) zero_row) (sym same)
      ∙ closed_owed (same_key (key_of f.entry) None) f.entry f.local w t.root zero_row
      ∙ ap₂ (λ (x : Row) (c : Bool). plus x (cond c (closed_row f.entry w) zero_row)) (h.rows None) same

  row_is : (key : Option ℕ) → row es root span everywhere key ≡ plus (share es root span everywhere key 0 (length es)) (share es root span everywhere key (length es) (suc (length es)))
  row_is key =
      cut_law es root span everywhere key (length es ∷ []) (omega arith, refl)
      ∙ ap (λ r. plus r (share es root span everywhere key (length es) (suc (length es)))) (plus-zero (share es root span everywhere key 0 (length es)))

  -- where the root alone is open at the end, the table with its row is that of the dag
  pub finished : (burdens : Burdens) (f : Counted) (a b : ℕ → Bool) (w : ℕ) (t : Sums) → AreOpen w (f.entry ∷ []) → Shared es burdens root span 0 (length es) (tell (f ∷ []) a b w t)
      → (key : Option ℕ) → key_row (record t { root = plus t.root (full_row f w) }) key ≡ row es root span everywhere key
  finished burdens f a b w t opens h None =
      let e = ended burdens f [] w h.entry in
      root_added burdens f a b w t opens h
      ∙ ap (λ r. plus (share es root span everywhere None 0 (length es)) r) (root_closed f w opens e.span_is e.work_is ∙ sym (end_law es wf root span everywhere).0)
      ∙ sym (row_is None)
  finished burdens f a b w t opens h (Some site) =
      sym (plus-zero (row_at t site))
      ∙ ap (λ r. plus (row_at t site) r) (sym (zero-plus zero_row))
      ∙ ap (λ o. plus (row_at t site) (plus (cond (same_key o (Some site)) (strand_row f.local) zero_row) zero_row)) (sym (root_key w f opens))
      ∙ h.rows (Some site)
      ∙ sym (plus-zero (share es root span everywhere (Some site) 0 (length es)))
      ∙ ap (λ r. plus (share es root span everywhere (Some site) 0 (length es)) r) (sym ((end_law es wf root span everywhere).1 site))
      ∙ sym (row_is (Some site))
