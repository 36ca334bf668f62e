-- What the ways into all open frames have of the rows of the path, and that one event adds its gain to it.
use Rattle.std.proofs.Common.{◌≡◌, ℕ, suc, ◌+◌, ◌≤◌, ◌<◌, Bool, true, false, cond, not, ◌&&◌, refl, arith, sym, ◌∙◌, ap, ap₂, subst, List, [], ◌∷◌, length, map, Option, Some}
use Rattle.spp_event.specs.declared.records.Event.{Event}
use Rattle.spp_event.specs.declared.records.Event.TheVariants.{Strand, Call, Spawn, Ret, Sync}
use Rattle.spp_maxplus.specs.declared.state.Burdens.{Burdens}
use Rattle.spp_dag.specs.declared.row.Row.{Row}
use Rattle.spp_dag.specs.declared.stack.EntryFrame.{EntryFrame}
use Rattle.spp_dag.specs.declared.stack.FrameKind.{FrameKind}
use Rattle.spp_dag.specs.declared.stack.FrameKind.TheVariants.{Called, Spawned}
use Rattle.spp_dag.specs.Trace.{event_at, weight, returns, syncs, partner, IsWellFormed}
use Rattle.spp_dag.specs.Dag.{IsPath}
use Rattle.spp_dag.specs.Rows.{contains}
use Rattle.spp_dag.specs.Choices.{IsEntry, first_of}
use Rattle.spp_dag.specs.Shares.{plus, zero_row}
use Rattle.spp_dag.specs.Steps.{key_of, same_key, opened, stranded, waited, returned, entry_after, closed_row, strand_row, gain}
use Rattle.spp_dag.proofs.Depth.{inside}
use Rattle.spp_dag.proofs.Machine.{Frame, Opened, shape}
use Rattle.spp_dag.proofs.Owner.{return_closes}
use Rattle.spp_dag.proofs.Steps.{entry_follows}
use Rattle.spp_site.proofs.Rows.{plus-zero, zero-plus, plus-assoc, plus-swap}
use Rattle.spp_ways.specs.Ways.{Leaf, Ways, rows_at, no_ways, strand_ways, waited_ways, way_on, closed_rows, returned_ways, state_on, burdens_on, takes, wins, ways_after}
use Rattle.spp_ways.proofs.Waiting.{co, re, At}
use Rattle.spp_ways.proofs.Going.{goes, passes_where, takes_where}
use Rattle.spp_ways.proofs.Opened.{frame_on, opening_of, never_empty, top_of}
use Rattle.spp_ways.proofs.Parts.{adds, none_added, strand_added, sync_added, closed_added}
use Rattle.spp_ways.proofs.Returned.{returned_goes}

-- what the ways into these frames have, for the path through these positions
abbrev pub total : List ℕ → Bool → List EntryFrame → List Ways → Option ℕ → Row
total ps on [] ws key = zero_row
total ps on (f ∷ fs) [] key = zero_row
total ps on (f ∷ fs) (w ∷ ws) key =
    plus (adds (contains (0 ∷ ps) (first_of f.kind f.at)) (goes ps (state_on on f)) (key_of f) w key) (total ps on fs ws key)

-- as many ways as frames
abbrev pub AsMany : List EntryFrame → List Ways → Type 0
AsMany [] [] = Unit {0}
AsMany [] (w ∷ ws) = ⊥
AsMany (f ∷ fs) [] = ⊥
AsMany (f ∷ fs) (w ∷ ws) = AsMany fs ws

goes_stranded : (ps : List ℕ) (on : Bool) (n : ℕ) (f : EntryFrame) → goes ps (state_on on (stranded n f)) ≡ goes ps (state_on on f)
goes_stranded ps false n f = refl
goes_stranded ps true n f = refl

goes_waited : (ps : List ℕ) (on : Bool) (f : EntryFrame) → goes ps (state_on on (waited f)) ≡ false
goes_waited ps false f = refl
goes_waited ps true f = refl

goes_opened : (ps : List ℕ) (on : Bool) (kind : FrameKind) (i site func work : ℕ) (f : EntryFrame) (fs : List EntryFrame) → goes ps (state_on on (opened kind i site func work f fs)) ≡ false
goes_opened ps false kind i site func work f fs = refl
goes_opened ps true kind i site func work f fs = refl

module _ (es : List Event) (wf : IsWellFormed es) (burdens : Burdens) (root : ℕ) (on : Bool) (ps : List ℕ) (path : IsPath es (burdens_on on burdens) 0 (length es) ps) (i : ℕ) where
  abbrev bd : Burdens
  bd = burdens_on on burdens

  abbrev Enters : ℕ → Bool
  Enters k = contains (0 ∷ ps) k

  -- an event adds its gain
  abbrev pub Adds : Event → List EntryFrame → List Ways → EntryFrame → ℕ → Type 0
  Adds e fs ws f work = AsMany (entry_after burdens i e work fs) (ways_after on burdens e work fs ws)
      × ((key : Option ℕ) → total ps on (entry_after burdens i e work fs) (ways_after on burdens e work fs ws) key ≡ plus (total ps on fs ws key) (gain (contains (0 ∷ ps)) key i e f work))

  -- the machine's stack here
  here : i ≤ length es → At es wf bd i
  here l = shape es 1 (co es wf bd) (re es wf bd) wf i l

  -- where a frame waits, it takes the child that waits where the path goes through it
  pub takes_here : i ≤ length es → (i < length es → syncs (event_at es i) ≡ true) → (f : EntryFrame) (fs : List EntryFrame) (work : ℕ) → IsEntry es burdens root i (f ∷ fs) work
      → Enters (first_of f.kind f.at) ≡ true → takes (state_on on f) ≡ goes ps (state_on on f)
  takes_here l n f fs work at =
      subst (λ (g : Frame). Enters g.first ≡ true → takes g.state ≡ goes ps g.state) (sym (top_of es wf burdens root i l on f fs work at (here l)).0)
      (takes_where es wf bd ps path i l n (here l))

  strand_adds : (n : ℕ) → event_at es i ≡ Some (Strand n) → (f : EntryFrame) (fs : List EntryFrame) (w : Ways) (ws : List Ways) (work : ℕ) → IsEntry es burdens root i (f ∷ fs) work → AsMany fs ws
      → Adds (Strand n) (f ∷ fs) (w ∷ ws) f work
  strand_adds n q f fs w ws work at many = (many, λ key. by key)
    where
      l : i < length es
      l = inside es i (Strand n) q

      passes : Enters i ≡ (Enters (first_of f.kind f.at) && not (goes ps (state_on on f)))
      passes =
          let h = here (omega (arith, l)) in
          passes_where es wf bd ps path i l (ap syncs q) h
          ∙ ap (λ (g : Frame). Enters g.first && not (goes ps g.state)) (sym (top_of es wf burdens root i (omega (arith, l)) on f fs work at h).0)

      by : (key : Option ℕ) → total ps on (stranded n f ∷ fs) (strand_ways n w ∷ ws) key ≡ plus (total ps on (f ∷ fs) (w ∷ ws) key) (cond (Enters i && same_key (key_of f) key) (strand_row n) zero_row)
      by key =
          let a : Bool = Enters (first_of f.kind f.at) in
          let t : Bool = goes ps (state_on on f) in
          let x : Row = adds a t (key_of f) w key in
          let rest : Row = total ps on fs ws key in
          let s : Row = cond ((a && not t) && same_key (key_of f) key) (strand_row n) zero_row in
          ap (λ b. plus (adds a b (key_of f) (strand_ways n w) key) rest) (goes_stranded ps on n f)
          ∙ ap (λ r. plus r rest) (strand_added a t (key_of f) key n w)
          ∙ plus-swap x s rest
          ∙ ap (λ b. plus (plus x rest) (cond (b && same_key (key_of f) key) (strand_row n) zero_row)) (sym passes)

  sync_adds : event_at es i ≡ Some Sync → (f : EntryFrame) (fs : List EntryFrame) (w : Ways) (ws : List Ways) (work : ℕ) → IsEntry es burdens root i (f ∷ fs) work → AsMany fs ws
      → Adds Sync (f ∷ fs) (w ∷ ws) f work
  sync_adds q f fs w ws work at many = (many, λ key. by key)
    where
      l : i < length es
      l = inside es i Sync q

      by : (key : Option ℕ) → total ps on (waited f ∷ fs) (waited_ways (takes (state_on on f)) w ∷ ws) key ≡ plus (total ps on (f ∷ fs) (w ∷ ws) key) zero_row
      by key =
          let a : Bool = Enters (first_of f.kind f.at) in
          let t : Bool = goes ps (state_on on f) in
          let rest : Row = total ps on fs ws key in
          ap (λ b. plus (adds a b (key_of f) (waited_ways (takes (state_on on f)) w) key) rest) (goes_waited ps on f)
          ∙ ap (λ r. plus r rest) (sync_added a t (takes (state_on on f)) (key_of f) key w (takes_here (omega (arith, l)) (λ z. ap syncs q) f fs work at))
          ∙ sym (plus-zero (total ps on (f ∷ fs) (w ∷ ws) key))

  -- a frame that is opened has nothing yet
  open_adds : (kind : FrameKind) (site func : ℕ) (f : EntryFrame) (fs : List EntryFrame) (ws : List Ways) (work : ℕ) (key : Option ℕ)
      → total ps on (opened kind i site func work f fs ∷ f ∷ fs) (no_ways ∷ ws) key ≡ plus (total ps on (f ∷ fs) ws key) zero_row
  open_adds kind site func f fs ws work key =
      let new : EntryFrame = opened kind i site func work f fs in
      let rest : Row = total ps on (f ∷ fs) ws key in
      ap (λ b. plus (adds (Enters (first_of kind i)) b (key_of new) no_ways key) rest) (goes_opened ps on kind i site func work f fs)
      ∙ ap (λ r. plus r rest) (none_added (Enters (first_of kind i)) (key_of new) key)
      ∙ zero-plus rest ∙ sym (plus-zero rest)

  return_adds : event_at es i ≡ Some Ret → (f g : EntryFrame) (fs : List EntryFrame) (w v : Ways) (ws : List Ways) (work : ℕ) → IsEntry es burdens root i (f ∷ g ∷ fs) work → AsMany fs ws
      → Adds Ret (f ∷ g ∷ fs) (w ∷ v ∷ ws) f work
  return_adds q f g fs w v ws work at many = (many, λ key. by key)
    where
      l : i < length es
      l = inside es i Ret q

      le : i ≤ length es
      le = let z = l in omega arith

      h : At es wf bd i
      h = here le

      top : (frame_on on f ≡ h.top) × (map (frame_on on) (g ∷ fs) ≡ h.rest)
      top = top_of es wf burdens root i le on f (g ∷ fs) work at h

      c : (o : ℕ) × Opened es 1 (co es wf bd) (re es wf bd) i h.top h.rest o × (partner es o ≡ i)
      c = return_closes es 1 (co es wf bd) (re es wf bd) wf i h (ap returns q)

      k : At es wf bd (suc i)
      k = shape es 1 (co es wf bd) (re es wf bd) wf (suc i) l

      o : ℕ
      o = c.0

      g0 : At es wf bd o
      g0 = shape es 1 (co es wf bd) (re es wf bd) wf o (let z = c.1.after in omega (arith, l))

      -- what the machine has for the two frames, and for the parent after the return
      opener : first_of f.kind f.at ≡ suc o
      opener = ap (λ (x : Frame). x.first) top.0 ∙ c.1.first

      parent : frame_on on g ≡ g0.top
      parent = let e : frame_on on g ∷ map (frame_on on) fs ≡ g0.top ∷ g0.rest = top.1 ∙ c.1.below ∙ g0.is in cc

      after : frame_on on (returned burdens f g) ≡ k.top
      after =
          let next = entry_follows es wf burdens root i Ret q (f ∷ g ∷ fs) work at in
          (top_of es wf burdens root (suc i) l on (returned burdens f g) fs (work + weight es i) next k).0

      rows : List Leaf
      rows = closed_rows (key_of f) (closed_row f work) (way_on (takes (state_on on f)) w)

      Won : Bool
      Won = wins bd (state_on on f) (state_on on g)

      back : (key : Option ℕ) → plus (cond (Enters (first_of f.kind f.at)) (rows_at rows key) zero_row) (adds (Enters (first_of g.kind g.at)) (goes ps (state_on on g)) (key_of g) v key)
          ≡ adds (Enters (first_of g.kind g.at)) (goes ps (state_on on (returned burdens f g))) (key_of g) (returned_ways f.kind Won rows v) key
      back key =
          ap₂ (λ (n : ℕ) (x : Frame). plus (cond (Enters n) (rows_at rows key) zero_row) (adds (Enters x.first) (goes ps x.state) (key_of g) v key)) opener parent
          ∙ returned_goes es wf bd ps path o i c.2 c.1.opened g0 h k f.kind f.at opener (opening_of es wf burdens root i le f (g ∷ fs) work at) (key_of g) key rows v
          ∙ sym right
        where
          right : adds (Enters (first_of g.kind g.at)) (goes ps (state_on on (returned burdens f g))) (key_of g) (returned_ways f.kind Won rows v) key
              ≡ adds (Enters g0.top.first) (goes ps k.top.state) (key_of g) (returned_ways f.kind (wins bd h.top.state g0.top.state) rows v) key
          right = λ j. adds (Enters (parent j).first) (goes ps (after j).state) (key_of g) (returned_ways f.kind (wins bd (top.0 j).state (parent j).state) rows v) key

      by : (key : Option ℕ) → total ps on (returned burdens f g ∷ fs) (ways_after on burdens Ret work (f ∷ g ∷ fs) (w ∷ v ∷ ws)) key
          ≡ plus (total ps on (f ∷ g ∷ fs) (w ∷ v ∷ ws) key) (cond (Enters (first_of f.kind f.at) && same_key (key_of f) key) (closed_row f work) zero_row)
      by key =
          let a : Bool = Enters (first_of f.kind f.at) in
          let x : Row = adds a (goes ps (state_on on f)) (key_of f) w key in
          let y : Row = adds (Enters (first_of g.kind g.at)) (goes ps (state_on on g)) (key_of g) v key in
          let rest : Row = total ps on fs ws key in
          let r : Row = cond (a && same_key (key_of f) key) (closed_row f work) zero_row in
          let own : Row = cond a (rows_at rows key) zero_row in
          let closed : plus x r ≡ own = closed_added a (goes ps (state_on on f)) (takes (state_on on f)) (key_of f) key (closed_row f work) w (takes_here le (λ z. ap syncs q) f (g ∷ fs) work at) in
          sym (plus-swap x (plus y rest) r ∙ ap (λ b. plus b (plus y rest)) closed ∙ sym (plus-assoc own y rest) ∙ ap (λ b. plus b rest) (back key))

  -- each event does
  pub event_adds : (e : Event) → event_at es i ≡ Some e → (f : EntryFrame) (fs : List EntryFrame) (w : Ways) (ws : List Ways) (work : ℕ) → IsEntry es burdens root i (f ∷ fs) work → AsMany fs ws
      → Adds e (f ∷ fs) (w ∷ ws) f work
  event_adds (Strand n) q f fs w ws work at many = strand_adds n q f fs w ws work at many
  event_adds (Call site func) q f fs w ws work at many = (many, λ key. open_adds Called site func f fs (w ∷ ws) work key)
  event_adds (Spawn site func) q f fs w ws work at many = (many, λ key. open_adds Spawned site func f fs (w ∷ ws) work key)
  event_adds Sync q f fs w ws work at many = sync_adds q f fs w ws work at many
  event_adds Ret q f [] w ws work at many =
      let l = inside es i Ret q in
      let next = entry_follows es wf burdens root i Ret q (f ∷ []) work at in
      absurd (never_empty es wf burdens root (suc i) l on (work + weight es i) next (shape es 1 (co es wf bd) (re es wf bd) wf (suc i) l))
  event_adds Ret q f (g ∷ fs) w [] work at many = absurd many
  event_adds Ret q f (g ∷ fs) w (v ∷ ws) work at many = return_adds q f g fs w v ws work at many
