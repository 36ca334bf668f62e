-- What the pass over a part comes to where the part ends: the table, with the strands of the frames that are still open, has
-- the share of the part.
use Rattle.std.proofs.Common.{◌≡◌, ℕ, ◌*◌, ◌<◌, ◌≤◌, cond, List, [], ◌∷◌, ◌++◌, length, map, Option, refl, sym, ap, subst, ◌∙◌, arith}
use Rattle.std.specs.List.{AllByRecursion}
use Rattle.spp_event.specs.declared.records.Event.{Event}
use Rattle.spp_event.specs.Recordings.{Record, Recording}
use Rattle.spp_frame.specs.Nesting as nesting
use Rattle.spp_frame.specs.Nesting.{AreEvents}
use Rattle.spp_maxplus.specs.declared.state.Burdens.{Burdens}
use Rattle.spp_dag.specs.declared.stack.EntryFrame.{EntryFrame}
use Rattle.spp_dag.specs.Trace.{IsWellFormed}
use Rattle.spp_dag.specs.Dag.{IsPath}
use Rattle.spp_dag.specs.Rows.{AreSpans}
use Rattle.spp_dag.specs.Shares.{plus, zero_row}
use Rattle.spp_dag.specs.Steps.{same_key, key_of, strand_row}
use Rattle.spp_dag.proofs.Profiles.{spans_law}
use Rattle.spp_dag.proofs.Ties.{path_exists}
use Rattle.spp_site.specs.Table.{Sums}
use Rattle.spp_site.specs.Profiles.{key_row}
use Rattle.spp_site.proofs.Rows.{plus-zero}
use Rattle.spp_site.proofs.RowSums.{none_owed, low_fits}
use Rattle.spp_stack.specs.Chain.{StackOf}
use Rattle.spp_path.specs.declared.rows.EnteredFrame.{EnteredFrame}
use Rattle.spp_path.specs.Outside.{path_frames, local_rows, AreBelow, FitsOpen, IsSuspended}
use Rattle.spp_path.specs.Parts.{IsPathShare}
use Rattle.spp_path.specs.Rows.{Told}
use Rattle.spp_path.proofs.Beginning.{with_outside}
use Rattle.spp_path.proofs.PartPass.{RowsAt}
use Rattle.spp_path.proofs.PathPass.{IsRight, Known, Given, given}
use Rattle.spp_path.proofs.Places.{PathFrame, entries}
use Rattle.spp_path.proofs.Sites.{trace_enters, entries_below}
use Rattle.spp_path.proofs.Summed.{Summed, owed, shown, shares_to}
use Rattle.spp_path.proofs.Suspending.{local_rows-append}

-- frames outside owe nothing
none_outside : (hs : List EntryFrame) (key : Option ℕ) → local_rows (path_frames hs) key ≡ zero_row
none_outside [] key = refl
none_outside (h ∷ hs) key = none_owed (same_key (key_of h) key) (local_rows (path_frames hs) key) ∙ none_outside hs key

below_first : (n : ℕ) (fs more : List EnteredFrame) → AreBelow n (fs ++ more) → AreBelow n fs
below_first n [] more h = tt
below_first n (f ∷ fs) more h = (h.0, below_first n fs more h.1)

module _ (es : List Event) (wf : IsWellFormed es) (root : ℕ) (eb : Burdens) (span : ℕ → ℕ) (spans : AreSpans es span) (bd : Burdens) (rest : List ℕ) (path : IsPath es bd 0 (length es) rest) (from i : ℕ)
    (hs : List EntryFrame) (t : Told) (s : Summed es wf root eb span spans bd rest path from i (with_outside (path_frames hs) t)) where
  abbrev shows : PathFrame → EnteredFrame
  shows = shown es wf root eb span spans bd rest path from

  owed_is : (ks : List PathFrame) (key : Option ℕ) → local_rows (map shows ks) key ≡ owed ks key
  owed_is [] key = refl
  owed_is (k ∷ ks) key = ap (λ r. plus (cond (same_key (key_of k.entry) key) (strand_row k.local) zero_row) r) (owed_is ks key)

  frames_are : t.frames ++ path_frames hs ≡ map shows s.ks
  frames_are = ap (λ (x : Told). x.frames) s.is

  local_is : (key : Option ℕ) → local_rows t.frames key ≡ owed s.ks key
  local_is key =
      sym (plus-zero (local_rows t.frames key))
      ∙ ap (λ r. plus (local_rows t.frames key) r) (sym (none_outside hs key))
      ∙ sym (local_rows-append t.frames (path_frames hs) key)
      ∙ ap (λ (l : List EnteredFrame). local_rows l key) frames_are
      ∙ owed_is s.ks key

  pub rows_are : (key : Option ℕ) → plus (key_row t.table key) (local_rows t.frames key) ≡ shares_to es wf root eb span spans bd rest path from i key
  rows_are key = ap (λ r. plus (key_row t.table key) r) (local_is key) ∙ s.at.rows key

  pub rows_fit : i ≤ 268435456 → FitsOpen t
  rows_fit short key =
      let w : t.work ≤ 18446744073709551616 * i = s.at.small in
      low_fits i t.work (plus (key_row t.table key) (local_rows t.frames key)) zero_row _ (plus-zero (plus (key_row t.table key) (local_rows t.frames key)) ∙ rows_are key)
      (s.at.low key) (omega arith) (omega arith)

  sites_in : (n : ℕ) (outs : List EntryFrame) (ks : List PathFrame) → AllByRecursion (λ (f : EntryFrame). f.site < n) (outs ++ entries ks) → AreBelow n (map shows ks)
  sites_in n [] [] h = tt
  sites_in n [] (k ∷ ks) h = (h.0, sites_in n [] ks h.1)
  sites_in n (o ∷ os) ks h = sites_in n os ks h.1

  pub sites_are : AllByRecursion (λ (f : EntryFrame). f.site < 65536) (s.outs ++ entries s.ks) → AreBelow 65536 t.frames
  sites_are h = below_first 65536 t.frames (path_frames hs) (subst (λ (l : List EnteredFrame). AreBelow 65536 l) (sym frames_are) (sites_in 65536 s.outs s.ks h))

module _ (trace : Recording) (known : Known trace) (eb : Burdens) (from : ℕ) (P : List Event → Burdens → Type 0) (b : Burdens) (right : IsRight trace P b) (i : ℕ) (upto : i ≤ length trace.records)
    (outside : Option StackOf) (t : Told) (at : RowsAt trace eb from P i outside t) where
  abbrev g : Given trace b
  g = given trace b known

  summed_here : Summed g.es g.wf trace.root eb g.span g.fs b g.rest g.path from i (with_outside (path_frames at.hs) t)
  summed_here = at.kept g.es g.are g.wf g.span g.fs b (right g.es g.are) g.rest g.path

  pub can_suspend : FitsOpen t
  can_suspend = rows_fit g.es g.wf trace.root eb g.span g.fs b g.rest g.path from i at.hs t summed_here (let z = known.short in omega arith)

  pub are_sites : AreBelow 65536 t.frames
  are_sites =
      sites_are g.es g.wf trace.root eb g.span g.fs b g.rest g.path from i at.hs t summed_here
      (entries_below 65536 (omega arith) g.es (trace_enters 65536 (length trace.sites) (length trace.funcs) known.few trace.records known.events g.es g.are) trace.root eb i
      (summed_here.outs ++ entries summed_here.ks) t.work summed_here.at.place.entry)

  pub suspended : (p : Sums) → IsSuspended t p → (bd : Burdens) → IsRight trace P bd → (es : List Event) → AreEvents trace.records es → IsPathShare es bd trace.root from i p
  suspended p h bd goes es are =
      let wf : IsWellFormed es = subst (λ (rs : List Record). nesting.IsWellFormed rs) are known.formed in
      let sp = (spans_law es wf).0 in
      let q = path_exists es wf bd 0 refl in (
        sp.0,
        sp.1,
        (
          q.0,
          q.1,
          λ key. h key ∙ rows_are es wf trace.root eb sp.0 sp.1 bd q.0 q.1 from i at.hs t (at.kept es are wf sp.0 sp.1 bd (goes es are) q.0 q.1) key,
        ),
      )
