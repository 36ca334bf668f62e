-- The ways into the open frames have the rows of the path so far, and at the end those of the whole path.
use Rattle.std.proofs.Common.{◌≡◌, ℕ, zero, suc, ◌+◌, ◌-◌, ◌≤◌, Bool, true, false, cond, ◌&&◌, refl, arith, sym, ◌∙◌, ap, ap₂, subst, inl, inr, List, [], ◌∷◌, length, map, take, Option, Some, None, Ok}
use Rattle.std.proofs.lemmas.List.{length-map, take_all}
use Rattle.spp_event.specs.declared.records.Event.{Event}
use Rattle.spp_event.specs.Recordings.{Record}
use Rattle.spp_frame.specs.Nesting as nesting
use Rattle.spp_maxplus.specs.declared.state.Burdens.{Burdens}
use Rattle.spp_maxplus.specs.State.{unburdened, close}
use Rattle.spp_dag.specs.declared.row.Row.{Row}
use Rattle.spp_dag.specs.declared.stack.OpenFrame.{OpenFrame}
use Rattle.spp_dag.specs.declared.stack.EntryFrame.{EntryFrame}
use Rattle.spp_dag.specs.declared.stack.FrameKind.{FrameKind}
use Rattle.spp_dag.specs.declared.stack.FrameKind.TheVariants.{Root, Called, Spawned}
use Rattle.spp_dag.specs.Trace.{records, event_at, weight, IsWellFormed}
use Rattle.spp_dag.specs.Dag.{IsPath, IsGreatest}
use Rattle.spp_dag.specs.Stack.{run, root_frame}
use Rattle.spp_dag.specs.Rows.{AreSpans, row, work, contains, is_top_site, is_top_caller}
use Rattle.spp_dag.specs.Choices.{IsEntry, entry_frame, first_of}
use Rattle.spp_dag.specs.Shares.{share, plus, zero_row}
use Rattle.spp_dag.specs.Laws.{own_row}
use Rattle.spp_dag.specs.Steps.{site_by, key_of, same_key, entry_after, closed_row, gain}
use Rattle.spp_dag.proofs.Machine.{Frame, shape}
use Rattle.spp_dag.proofs.Entries.{entry_is_one}
use Rattle.spp_dag.proofs.Depth.{inside, closed_at_end}
use Rattle.spp_dag.proofs.Shares.{same_rows, shares_law, cut_law, end_law}
use Rattle.spp_dag.proofs.Stacks.{machine_gives_spans}
use Rattle.spp_dag.proofs.Steps.{entry_follows}
use Rattle.spp_dag.proofs.StepsShares.{share_follows}
use Rattle.spp_dag.proofs.Profiles.{greatest_one, root_work}
use Rattle.spp_site.proofs.Rows.{plus-zero}
use Rattle.spp_site.proofs.RowSums.{doubled}
use Rattle.spp_ways.specs.Laws.{WaysGiveRows}
use Rattle.spp_ways.specs.Ways.{Ways, HasWays, rows_at, no_ways, closed_rows, way_on, takes, state_on, burdens_on, ways_after}
use Rattle.spp_ways.proofs.Going.{goes}
use Rattle.spp_ways.proofs.Opened.{never_empty, top_of}
use Rattle.spp_ways.proofs.Waiting.{co, re}
use Rattle.spp_ways.proofs.Parts.{adds, none_added, closed_added}
use Rattle.spp_ways.proofs.Adding.{total, AsMany, takes_here, event_adds}

module _ (es : List Event) (wf : IsWellFormed es) (burdens : Burdens) (root : ℕ) (span : ℕ → ℕ) (spans : AreSpans es span) (on : Bool) (ps : List ℕ) (path : IsPath es (burdens_on on burdens) 0 (length es) ps) where
  abbrev Enters : ℕ → Bool
  Enters k = contains (0 ∷ ps) k

  abbrev so_far : ℕ → Option ℕ → Row
  so_far i key = share es root span Enters key 0 i

  none_yet : (key : Option ℕ) → so_far 0 key ≡ zero_row
  none_yet key = doubled _ (shares_law es root span Enters key 0 0 0 (omega arith) (omega arith))

  -- these ways have what the path has so far
  record Have (i : ℕ) (fs : List EntryFrame) (ws : List Ways) : Type 0 where
    many : AsMany fs ws
    rows : (key : Option ℕ) → total ps on fs ws key ≡ so_far i key

  start : (fs : List EntryFrame) (v : ℕ) → IsEntry es burdens root 0 fs v → Have 0 fs (no_ways ∷ [])
  start fs v at = subst (λ gs. Have 0 gs (no_ways ∷ [])) (sym same) (record {
    many = tt;
    rows = λ key. ap (λ r. plus r zero_row) (by on key) ∙ plus-zero zero_row ∙ sym (none_yet key);
  })
    where
      same : fs ≡ entry_frame es root (root_frame root) ∷ []
      same =
          let e : Some (root_frame root ∷ []) ≡ Some at.0 = at.1 in
          let one : at.0 ≡ root_frame root ∷ [] = cc in
          at.2 ∙ ap (λ (os : List OpenFrame). map (entry_frame es root) os) one

      by : (b : Bool) (key : Option ℕ) → adds (Enters 0) (goes ps (state_on b (entry_frame es root (root_frame root)))) None no_ways key ≡ zero_row
      by true key = none_added (Enters 0) None key
      by false key = none_added (Enters 0) None key

  next : (i : ℕ) (e : Event) → event_at es i ≡ Some e → (fs : List EntryFrame) (v : ℕ) (ws : List Ways) → IsEntry es burdens root i fs v → Have i fs ws
      → Have (suc i) (entry_after burdens i e v fs) (ways_after on burdens e v fs ws)
  next i e q [] v ws at h =
      let l = inside es i e q in
      absurd (never_empty es wf burdens root i (omega arith) on v at (shape es 1 (co es wf (burdens_on on burdens)) (re es wf (burdens_on on burdens)) wf i (omega arith)))
  next i e q (f ∷ fs) v [] at h = absurd h.many
  next i e q (f ∷ fs) v (w ∷ ws) at h =
      let a = event_adds es wf burdens root on ps path i e q f fs w ws v at h.many in
      record {
        many = a.0;
        rows = λ key. a.1 key ∙ ap (λ r. plus r (gain Enters key i e f v)) (h.rows key)
            ∙ ap (λ r. plus (so_far i key) r) (sym (share_follows es wf burdens root span spans Enters key i e q f fs v at))
            ∙ sym (shares_law es root span Enters key 0 i (suc i) (omega arith) (omega arith));
      }

  have : (i : ℕ) → i ≤ length es → (fs : List EntryFrame) (v : ℕ) (ws : List Ways) → IsEntry es burdens root i fs v → HasWays es burdens root on i ws → Have i fs ws
  have zero l fs v ws at h = subst (λ us. Have 0 fs us) (sym h) (start fs v at)
  have (suc i) l fs v ws at h =
      let e : Event = h.0 in
      let q : event_at es i ≡ Some e = h.1 in
      let gs : List EntryFrame = h.2.0 in
      let u : ℕ = h.2.1 in
      let before = have i (omega arith) gs u h.2.2 h.2.3 h.2.4 in
      let follows = entry_follows es wf burdens root i e q gs u h.2.3 in
      let one = (entry_is_one es wf burdens root (suc i) l).1 fs (entry_after burdens i e u gs) v (u + weight es i) at follows in
      subst (λ us. Have (suc i) fs us) (sym h.2.5) (subst (λ xs. Have (suc i) xs (ways_after on burdens e u gs h.2.2)) (sym one.0) (next i e q gs u h.2.2 h.2.3 before))

  -- ---- the end

  at_zero : (kind : FrameKind) (at site : ℕ) → first_of kind at ≡ 0 → site_by kind site ≡ None
  at_zero Root at site e = refl
  at_zero Called at site e = absurd (let z : suc at ≡ 0 = e in omega arith)
  at_zero Spawned at site e = absurd (let z : suc at ≡ 0 = e in omega arith)

  module _ (f : EntryFrame) (v : ℕ) (at : IsEntry es burdens root (length es) (f ∷ []) v) where
    -- the root frame, as the machine has it
    record Last : Type 0 where
      frame : OpenFrame
      is : f ≡ entry_frame es root frame
      greatest : IsGreatest es unburdened 0 (length es) (close frame.plain)

    last : Last
    last =
        let m = machine_gives_spans es wf burdens root in
        let all : take (length es) es ≡ es = take_all (length es) es (omega arith) in
        let ran : run burdens 0 es (root_frame root ∷ []) ≡ Some at.0 = ap (λ part. run burdens 0 part (root_frame root ∷ [])) (sym all) ∙ at.1 in
        let both : Some at.0 ≡ Some (m.0 ∷ []) = sym ran ∙ m.1 in
        let one : at.0 ≡ m.0 ∷ [] = cc in
        let frames : f ∷ [] ≡ entry_frame es root m.0 ∷ [] = at.2 ∙ ap (λ (os : List OpenFrame). map (entry_frame es root) os) one in
        record { frame = m.0; is = cc; greatest = m.2 }

    first : first_of f.kind f.at ≡ 0
    first =
        let l : length es ≤ length es = omega arith in
        let h = shape es 1 (co es wf unburdened) (re es wf unburdened) wf (length es) l in
        let top = (top_of es wf burdens root (length es) l false f [] v at h).0 in
        ap (λ (g : Frame). g.first) top ∙ elim h.case [
          | inl r ↦ r.first
          | inr w ↦ absurd (let d = w.1.level in let z = closed_at_end es wf in omega arith)
        ]

    first_is : first_of last.frame.kind last.frame.at ≡ 0
    first_is = ap (λ (g : EntryFrame). first_of g.kind g.at) (sym last.is) ∙ first

    site : f.top_site ≡ true
    site = ap (λ (g : EntryFrame). g.top_site) last.is ∙ ap (λ n. is_top_site es n) first_is

    caller : f.top_caller ≡ true
    caller = ap (λ (g : EntryFrame). g.top_caller) last.is ∙ ap (λ n. is_top_caller es root n) first_is

    before : f.before ≡ 0
    before = ap (λ (g : EntryFrame). g.before) last.is ∙ ap (λ n. nesting.work (take n (records es))) first_is

    spans_is : close f.state ≡ span 0
    spans_is = ap (λ (g : EntryFrame). close g.state) last.is ∙ greatest_one es unburdened 0 (length es) (close last.frame.plain) (span 0) last.greatest (spans 0 refl)

    work_is : v - f.before ≡ work es 0
    work_is =
        let n : length (records es) ≡ length es = length-map es (λ e. Ok e) in
        let whole : take (length es) (records es) ≡ records es = take_all (length es) (records es) (omega arith) in
        let w : v ≡ work es 0 = at.3 ∙ ap (λ (rs : List Record). nesting.work rs) whole ∙ sym (root_work es) in
        let b = before in
        omega arith

    root_row : closed_row f v ≡ own_row es span
    root_row =
        same_rows (closed_row f v) (own_row es span) refl refl
        (ap (λ c. cond {A = ℕ} c 1 0) site) (ap (λ c. cond c (v - f.before) 0) site ∙ work_is) (ap (λ c. cond c (close f.state) 0) site ∙ spans_is)
        (ap (λ c. cond {A = ℕ} c 1 0) caller) (ap (λ c. cond c (v - f.before) 0) caller ∙ work_is) (ap (λ c. cond c (close f.state) 0) caller ∙ spans_is)

    root_key : key_of f ≡ None
    root_key = at_zero f.kind f.at f.site first

    enters_root : Enters (first_of f.kind f.at) ≡ true
    enters_root = ap Enters first

    -- what the end adds is the root's own row
    end_is : (key : Option ℕ) → share es root span Enters key (length es) (suc (length es)) ≡ cond (Enters (first_of f.kind f.at) && same_key (key_of f) key) (closed_row f v) zero_row
    end_is key = by key ∙ ap₂ (λ (b : Bool) (o : Option ℕ). cond (b && same_key o key) (closed_row f v) zero_row) (sym enters_root) (sym root_key)
      where
        by : (key : Option ℕ) → share es root span Enters key (length es) (suc (length es)) ≡ cond (same_key None key) (closed_row f v) zero_row
        by None = (end_law es wf root span Enters).0 ∙ sym root_row
        by (Some s) = (end_law es wf root span Enters).1 s

    row_is : (key : Option ℕ) → row es root span Enters key ≡ plus (so_far (length es) key) (share es root span Enters key (length es) (suc (length es)))
    row_is key =
        cut_law es root span Enters key (length es ∷ []) (omega arith, refl)
        ∙ ap (λ r. plus r (share es root span Enters key (length es) (suc (length es)))) (plus-zero (so_far (length es) key))

    ended : (w : Ways) → HasWays es burdens root on (length es) (w ∷ []) → (key : Option ℕ)
        → row es root span Enters key ≡ rows_at (closed_rows None (closed_row f v) (way_on (takes (state_on on f)) w)) key
    ended w ways key =
        let l : length es ≤ length es = omega arith in
        let h = have (length es) l (f ∷ []) v (w ∷ []) at ways in
        let a : Bool = Enters (first_of f.kind f.at) in
        let t : Bool = goes ps (state_on on f) in
        let tk : Bool = takes (state_on on f) in
        let x : Row = adds a t (key_of f) w key in
        row_is key
        ∙ ap₂ plus (sym (h.rows key) ∙ plus-zero x) (end_is key)
        ∙ closed_added a t tk (key_of f) key (closed_row f v) w (takes_here es wf burdens root on ps path (length es) l (λ z. absurd (omega arith)) f [] v at)
        ∙ ap₂ (λ (b : Bool) (o : Option ℕ). cond b (rows_at (closed_rows o (closed_row f v) (way_on tk w)) key) zero_row) enters_root root_key

pub ways_give_rows : WaysGiveRows
ways_give_rows es wf burdens root span spans on rest path f work w entry ways key = ended es wf burdens root span spans on rest path f work entry w ways key
