-- How the pass that sums up the rows of a path begins where a part of the run begins: the path enters some of the frames
-- that are open there, and of these the pass has the innermost.
use Rattle.std.proofs.Common.{◌≡◌, ℕ, suc, ◌+◌, ◌≤◌, Bool, true, false, not, List, [], ◌∷◌, ◌++◌, length, map, Option, Some, None, unwrap_or, refl, sym, ap, ap₂, subst, ◌∙◌, arith}
use Rattle.std.specs.FinMap as map
use Rattle.std.specs.Ordering.{nat_cmp}
use Rattle.std.proofs.lemmas.List.{length-append}
use Rattle.spp_event.specs.declared.records.Event.{Event}
use Rattle.spp_maxplus.specs.declared.state.Burdens.{Burdens}
use Rattle.spp_dag.specs.declared.row.Row.{Row}
use Rattle.spp_dag.specs.declared.stack.EntryFrame.{EntryFrame}
use Rattle.spp_dag.specs.declared.stack.FrameKind.{FrameKind}
use Rattle.spp_dag.specs.Trace.{IsWellFormed}
use Rattle.spp_dag.specs.Limits.{IsSmall}
use Rattle.spp_dag.specs.Dag.{IsPath}
use Rattle.spp_dag.specs.Rows.{AreSpans}
use Rattle.spp_dag.specs.Choices.{IsEntry}
use Rattle.spp_dag.specs.Shares.{plus, zero_row}
use Rattle.spp_dag.specs.Steps.{has_site, has_func, key_of, same_key}
use Rattle.spp_dag.proofs.OpenEntries.{AreOpen}
use Rattle.spp_dag.proofs.Shares.{shares_law}
use Rattle.spp_site.specs.Profiles.{key_row}
use Rattle.spp_site.specs.Table.{empty}
use Rattle.spp_site.proofs.Rows.{zero-plus}
use Rattle.spp_site.proofs.RowSums.{doubled, none_owed, Low, low_zero}
use Rattle.spp_path.specs.declared.rows.EnteredFrame.{EnteredFrame}
use Rattle.spp_path.specs.Flags.{AreFlags, is_called, flags_of, flags_within, flags_under}
use Rattle.spp_path.specs.Outside.{path_frame, path_frames, IsBegun}
use Rattle.spp_path.specs.Rows.{Told}
use Rattle.spp_path.proofs.Ordered.{AreTops, Ordered, ordered}
use Rattle.spp_path.proofs.Places.{PathFrame, Place, AreMarked, AllBeside, AllEntered, Falls, entries}
use Rattle.spp_path.proofs.Summed.{Summed, summed, owed, on, shown, shares_to}

empty_rows : (key : Option ℕ) → key_row empty key ≡ zero_row
empty_rows None = refl
empty_rows (Some s) = ap (λ o. unwrap_or o zero_row) (map.get-empty nat_cmp s)

-- frames outside stand below those that the pass has
abbrev pub with_outside : List EnteredFrame → Told → Told
with_outside hs t = record t { frames = t.frames ++ hs }

-- open frames of the path, with no strands of their own yet
abbrev pub rested : List EntryFrame → List PathFrame
rested [] = []
rested (f ∷ fs) = record { entry = f; local = 0; top_func = not (has_func fs f.func) } ∷ rested fs

pub kinds_rested : (fs : List EntryFrame) → map (λ (k : PathFrame). k.entry.kind) (rested fs) ≡ map (λ (f : EntryFrame). f.kind) fs
kinds_rested [] = refl
kinds_rested (f ∷ fs) = ap (λ (l : List FrameKind). f.kind ∷ l) (kinds_rested fs)

entries_rested : (fs : List EntryFrame) → entries (rested fs) ≡ fs
entries_rested [] = refl
entries_rested (f ∷ fs) = ap (λ (l : List EntryFrame). f ∷ l) (entries_rested fs)

owed_rested : (fs : List EntryFrame) (key : Option ℕ) → owed (rested fs) key ≡ zero_row
owed_rested [] key = refl
owed_rested (f ∷ fs) key = none_owed (same_key (key_of f) key) (owed (rested fs) key) ∙ owed_rested fs key

length_rested : (fs : List EntryFrame) → length (rested fs) ≡ length fs
length_rested [] = refl
length_rested (f ∷ fs) = ap suc (length_rested fs)

marked_rested : (fs : List EntryFrame) → AreTops fs → AreMarked (rested fs)
marked_rested [] h = tt
marked_rested (f ∷ fs) h = (
  h.0 ∙ ap (λ (l : List EntryFrame). not (has_site l f.site)) (sym (entries_rested fs)),
  ap (λ (l : List EntryFrame). not (has_func l f.func)) (sym (entries_rested fs)),
  marked_rested fs h.1,
)

-- what holds of all holds of those below others
tops_below : (fs gs : List EntryFrame) → AreTops (fs ++ gs) → AreTops gs
tops_below [] gs h = h
tops_below (f ∷ fs) gs h = tops_below fs gs h.1

below_open : (w : ℕ) (outs : List EntryFrame) (f : EntryFrame) (fs : List EntryFrame) → AreOpen w (outs ++ f ∷ fs) → AreOpen w (f ∷ fs)
below_open w [] f fs h = h
below_open w (o ∷ []) f fs h = h.2
below_open w (o ∷ p ∷ os) f fs h = below_open w (p ∷ os) f fs h.2

module _ (es : List Event) (wf : IsWellFormed es) (small : IsSmall es) (root : ℕ) (eb : Burdens) (span : ℕ → ℕ) (spans : AreSpans es span) (bd : Burdens) (rest : List ℕ) (path : IsPath es bd 0 (length es) rest)
    (i : ℕ) (upto : i ≤ length es) where
  abbrev Beside : List EntryFrame → Type 0
  Beside = AllBeside es wf root eb bd rest path

  abbrev Entered : Bool → List PathFrame → Type 0
  Entered = AllEntered es wf root eb bd rest path i

  abbrev shows : PathFrame → EnteredFrame
  shows = shown es wf root eb span spans bd rest path i

  under : (kind : FrameKind) (fs : List EntryFrame) → AreFlags es bd i fs (flags_under kind fs) → AreFlags es bd i fs (flags_within (is_called kind) fs)
  under kind [] h = h
  under kind (f ∷ fs) h = h

  entered_by : (r : Bool) (fs : List EntryFrame) → AreFlags es bd i fs (flags_within r fs) → Entered r (rested fs)
  entered_by r [] h = tt
  entered_by r (f ∷ fs) h = let z = h.0 rest path in (z.0.0 refl, z.1, entered_by (is_called f.kind) fs (under f.kind fs h.1))

  beside_by : (outs : List EntryFrame) (r : Bool) (ks : List EntryFrame) → AreFlags es bd i (outs ++ ks) (flags_of outs r ks) → Beside outs × AreFlags es bd i ks (flags_within r ks)
  beside_by [] r ks h = (tt, h)
  beside_by (o ∷ os) r ks h =
      let z = beside_by os r ks h.1 in
      (((λ e. let x : false ≡ true = (h.0 rest path).0.1 e in absurd cc), z.0), z.1)

  shown_rested : (fs : List EntryFrame) → path_frames fs ≡ map shows (rested fs)
  shown_rested [] = refl
  shown_rested (f ∷ fs) = ap (λ (l : List EnteredFrame). path_frame f (not (has_func fs f.func)) ∷ l) (shown_rested fs)

  none_yet : (key : Option ℕ) → shares_to es wf root eb span spans bd rest path i i key ≡ zero_row
  none_yet key = doubled _ (shares_law es root span (on es wf root eb span spans bd rest path i) key i i i (omega arith) (omega arith))

  -- the place where a part begins
  pub begun_place : (outs : List EntryFrame) (f : EntryFrame) (fs : List EntryFrame) (r : Bool) (w : ℕ)
      → IsEntry es eb root i (outs ++ f ∷ fs) w → AreFlags es bd i (outs ++ f ∷ fs) (flags_of outs r (f ∷ fs))
      → Place es wf root eb bd rest path i w outs r (rested (f ∷ fs))
  begun_place outs f fs r w at flags = record {
    entry = subst (λ l. IsEntry es eb root i (outs ++ l) w) (sym same) at;
    beside = flagged.0;
    entered = entered_by r (f ∷ fs) flagged.1;
    falls = subst (λ l. Falls (suc i) (outs ++ l)) (sym same) o.falls;
    open_frames = subst (λ l. AreOpen w l) (sym same) (below_open w outs f fs o.open_frames);
    level = level;
  }
    where
      o : Ordered i w (outs ++ f ∷ fs)
      o = ordered es wf small root eb i upto (outs ++ f ∷ fs) w at

      same : entries (rested (f ∷ fs)) ≡ f ∷ fs
      same = entries_rested (f ∷ fs)

      flagged : Beside outs × AreFlags es bd i (f ∷ fs) (flags_within r (f ∷ fs))
      flagged = beside_by outs r (f ∷ fs) flags

      level : length outs + length (rested (f ∷ fs)) ≤ suc i
      level =
          let n = length_rested fs in
          let m = length-append outs (f ∷ fs) in
          let k = o.level in
          omega arith

  pub begun_summed : (outs : List EntryFrame) (f : EntryFrame) (fs : List EntryFrame) (r : Bool) (w : ℕ) (t : Told)
      → IsEntry es eb root i (outs ++ f ∷ fs) w → AreFlags es bd i (outs ++ f ∷ fs) (flags_of outs r (f ∷ fs)) → IsBegun f fs w (record { skipped = length outs; running = r }) t
      → Summed es wf root eb span spans bd rest path i i (with_outside (path_frames fs) t)
  begun_summed outs f fs r w t at flags b =
      summed es wf root eb span spans bd rest path i i (with_outside (path_frames fs) t) outs r (rested (f ∷ fs)) t.open_sites t.open_funcs w empty
      (λ j. record { frames = frames_is j; trail = b.trail_is j; open_sites = t.open_sites; open_funcs = t.open_funcs; work = b.work j; table = b.table j })
      (record {
        place = begun_place outs f fs r w at flags;
        rows = λ key. ap₂ (λ (x y : Row). plus x y) (empty_rows key) (owed_rested (f ∷ fs) key) ∙ zero-plus zero_row ∙ sym (none_yet key);
        low = λ key. subst (λ x. Low i w x) (sym (none_yet key)) (low_zero i w);
        sites = λ s. b.open_sites s ∙ ap (λ (l : List EntryFrame). has_site l s) (sym same);
        funcs = λ s. b.open_funcs s ∙ ap (λ (l : List EntryFrame). has_func l s) (sym same);
        marked = marked_rested (f ∷ fs) (tops_below outs (f ∷ fs) o.tops);
        small = o.small;
      })
    where
      o : Ordered i w (outs ++ f ∷ fs)
      o = ordered es wf small root eb i upto (outs ++ f ∷ fs) w at

      same : entries (rested (f ∷ fs)) ≡ f ∷ fs
      same = entries_rested (f ∷ fs)

      frames_is : t.frames ++ path_frames fs ≡ map shows (rested (f ∷ fs))
      frames_is = ap (λ (l : List EnteredFrame). l ++ path_frames fs) b.frames ∙ shown_rested (f ∷ fs)
