-- What the ways into a frame have of the rows of the path, after the return of a frame that it opened.
use Rattle.std.proofs.Common.{◌≡◌, ℕ, suc, Bool, true, false, cond, refl, arith, sym, ◌∙◌, ap, subst, List, length, Option, Some}
use Rattle.spp_event.specs.declared.records.Event.{Event}
use Rattle.spp_maxplus.specs.declared.state.Burdens.{Burdens}
use Rattle.spp_dag.specs.declared.stack.FrameKind.{FrameKind}
use Rattle.spp_dag.specs.declared.stack.FrameKind.TheVariants.{Root, Called, Spawned}
use Rattle.spp_dag.specs.Trace.{event_at, opens, spawns, partner, IsWellFormed}
use Rattle.spp_dag.specs.Dag.{IsPath}
use Rattle.spp_dag.specs.Choices.{first_of}
use Rattle.spp_dag.specs.Shares.{plus, zero_row}
use Rattle.spp_dag.proofs.Machine.{Frame}
use Rattle.spp_ways.specs.Ways.{Leaf, Ways, rows_at, returned_ways, wins}
use Rattle.spp_ways.proofs.Waiting.{waiting, At, return_waits, Back, goes_back}
use Rattle.spp_ways.proofs.Going.{enters, goes, passed, called_where, spawned_where, waits_after, entered_wins, other_waits}
use Rattle.spp_ways.proofs.Opened.{IsOpening}
use Rattle.spp_ways.proofs.Parts.{adds, called_added, entered_added, other_added}

module _ (es : List Event) (wf : IsWellFormed es) (bd : Burdens) (ps : List ℕ) (path : IsPath es bd 0 (length es) ps) where
  abbrev Enters : ℕ → Bool
  Enters i = passed es wf bd ps path i

  -- the rows of the frame opened at o are in its parent's way where the path enters it
  abbrev pub Goes : (o p : ℕ) → At es wf bd o → At es wf bd p → At es wf bd (suc p) → FrameKind → Option ℕ → Option ℕ → List Leaf → Ways → Type 0
  Goes o p g h k kind own key rows v =
      plus (cond (Enters (suc o)) (rows_at rows key) zero_row) (adds (Enters g.top.first) (goes ps g.top.state) own v key)
      ≡ adds (Enters g.top.first) (goes ps k.top.state) own (returned_ways kind (wins bd h.top.state g.top.state) rows v) key

  module _ (o : ℕ) (g : At es wf bd o) (h : At es wf bd (partner es o)) (k : At es wf bd (suc (partner es o))) (own key : Option ℕ) (rows : List Leaf) (v : Ways) where
    abbrev on : Bool
    on = Enters g.top.first

    abbrev through : Bool
    through = goes ps g.top.state

    abbrev Won : Bool
    Won = wins bd h.top.state g.top.state

    called_goes : opens (event_at es o) ≡ true → spawns (event_at es o) ≡ false → Goes o (partner es o) g h k Called own key rows v
    called_goes t n =
        ap (λ b. plus (cond b (rows_at rows key) zero_row) (adds on through own v key)) (called_where es wf bd ps path o t n g)
        ∙ called_added on through own key rows Won v
        ∙ ap (λ c. adds on (enters ps c) own (returned_ways Called Won rows v) key) (sym same)
      where
        r : Back es wf bd o (partner es o) g h k
        r = goes_back es wf bd o t g h k

        same : waiting k.top.state ≡ waiting g.top.state
        same =
            ap (λ (f : Frame). waiting f.state) r.is ∙ return_waits es wf bd h.top g.top o r.first
            ∙ ap (λ b. cond b (cond Won (Some o) (waiting g.top.state)) (waiting g.top.state)) n

    spawned_goes : opens (event_at es o) ≡ true → spawns (event_at es o) ≡ true → Goes o (partner es o) g h k Spawned own key rows v
    spawned_goes u t = by (Enters (suc o)) refl
      where
        after : goes ps k.top.state ≡ cond Won (Enters (suc o)) through
        after = ap (enters ps) (waits_after es wf bd ps path o t g h k) ∙ pick Won
          where
            pick : (b : Bool) → enters ps (cond b (Some o) (waiting g.top.state)) ≡ cond b (Enters (suc o)) through
            pick true = refl
            pick false = refl

        by : (b : Bool) → Enters (suc o) ≡ b → plus (cond b (rows_at rows key) zero_row) (adds on through own v key) ≡ adds on (goes ps k.top.state) own (returned_ways Spawned Won rows v) key
        by true e = left ∙ entered_added own key rows v ∙ sym right
          where
            first : (on ≡ true) × (through ≡ false)
            first = spawned_where es wf bd ps path o u g e

            won : Won ≡ true
            won = entered_wins es wf bd ps path o t g h k e

            then : goes ps k.top.state ≡ true
            then = after ∙ ap (λ b. cond b (Enters (suc o)) through) won ∙ e

            left : plus (rows_at rows key) (adds on through own v key) ≡ plus (rows_at rows key) (adds true false own v key)
            left = λ j. plus (rows_at rows key) (adds (first.0 j) (first.1 j) own v key)

            right : adds on (goes ps k.top.state) own (returned_ways Spawned Won rows v) key ≡ adds true true own (returned_ways Spawned true rows v) key
            right = λ j. adds (first.0 j) (then j) own (returned_ways Spawned (won j) rows v) key
        by false e =
            other_added on through Won own key rows v (λ y. other_waits es wf bd ps path o t g h k e y)
            ∙ ap (λ b. adds on b own (returned_ways Spawned Won rows v) key) (sym (after ∙ ap (λ b. cond Won b through) e))

  pub returned_goes : (o p : ℕ) → partner es o ≡ p → opens (event_at es o) ≡ true → (g : At es wf bd o) (h : At es wf bd p) (k : At es wf bd (suc p)) (kind : FrameKind) (at : ℕ) → first_of kind at ≡ suc o
      → IsOpening es kind at → (own key : Option ℕ) (rows : List Leaf) (v : Ways) → Goes o p g h k kind own key rows v
  returned_goes o p e u g h k Root at f t own key rows v = let z : 0 ≡ suc o = f in absurd (omega arith)
  returned_goes o p e u g h k Called at f t own key rows v =
      let z : suc at ≡ suc o = f in
      let q : at ≡ o = omega arith in
      subst (λ n. (h : At es wf bd n) (k : At es wf bd (suc n)) → Goes o n g h k Called own key rows v) e
      (λ h k. called_goes o g h k own key rows v u (subst (λ n. spawns (event_at es n) ≡ false) q t.1)) h k
  returned_goes o p e u g h k Spawned at f t own key rows v =
      let z : suc at ≡ suc o = f in
      let q : at ≡ o = omega arith in
      subst (λ n. (h : At es wf bd n) (k : At es wf bd (suc n)) → Goes o n g h k Spawned own key rows v) e
      (λ h k. spawned_goes o g h k own key rows v u (subst (λ n. spawns (event_at es n) ≡ true) q t)) h k
