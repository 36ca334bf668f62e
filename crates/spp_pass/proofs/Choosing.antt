-- In a well-formed trace what a pass notes is all choices so far: each return of a spawned child, and at each place where
-- children join the one that is taken, if any.
use Rattle.std.proofs.Common.{◌≡◌, ℕ, zero, suc, ◌<◌, ◌≤◌, ◌↔◌, ◌⊎◌, true, false, List, [], ◌∷◌, ◌++◌, length, map, take, Option, Some, None, refl, sym, ap, subst, ◌∙◌, arith, inl, inr}
use Rattle.std.specs.Prelude.{Contains, slice_index_or}
use Rattle.std.proofs.lemmas.Bool.{cases_eq, cases_lt, both_ways}
use Rattle.std.proofs.lemmas.List.{map-append, append-nil}
use Rattle.std.proofs.lemmas.List.Elements.{Contains-append_left, Contains-append_right, Contains-append_cases}
use Rattle.spp_event.specs.declared.records.Event.{Event}
use Rattle.spp_event.specs.declared.records.Event.TheVariants.{Ret}
use Rattle.spp_maxplus.specs.declared.state.Burdens.{Burdens}
use Rattle.spp_maxplus.specs.declared.state.State.{State}
use Rattle.spp_maxplus.specs.State.{unburdened, taken}
use Rattle.spp_dag.specs.declared.stack.OpenFrame.{OpenFrame}
use Rattle.spp_dag.specs.declared.stack.FrameKind.{FrameKind}
use Rattle.spp_dag.specs.declared.stack.FrameKind.TheVariants.{Root, Called, Spawned}
use Rattle.spp_dag.specs.Trace.{event_at, returns, spawns, syncs, partner, owner, join, IsWellFormed}
use Rattle.spp_dag.specs.Stack.{run, root_frame}
use Rattle.spp_dag.specs.Laws.{Waits, JoinsAt, HasTop}
use Rattle.spp_dag.specs.Choices.{IsChoice, HasChoice, IsWaited, first_of}
use Rattle.spp_dag.proofs.Crossing.{owner_closing}
use Rattle.spp_dag.proofs.Depth.{closed}
use Rattle.spp_dag.proofs.Entries.{taken_is_choice, child_is_waited}
use Rattle.spp_dag.proofs.Machine.{Opened, Shape, shape}
use Rattle.spp_dag.proofs.Owner.{owner_is, return_closes}
use Rattle.spp_dag.proofs.Stacks.{stack_stands, plain_top, path_takes_child}
use Rattle.spp_dag.proofs.StepsFrames.{TracedBy, all_traced}
use Rattle.spp_dag.proofs.Ties.{path_exists_to}
use Rattle.spp_dag.proofs.Upper.{spawns_opens}
use Rattle.spp_dag.specs.declared.choices.End.{End}
use Rattle.spp_dag.specs.declared.choices.Choice.{Choice}
use Rattle.spp_dag.specs.ChoiceLists.{AreRising, IsEnd, IsJoin}
use Rattle.spp_dag.proofs.JoinPlaces.{join_waits}
use Rattle.spp_pass.specs.Passes.{choice_of, listed, joins_at, ends_at}

-- ---- lists in order of position

module _ {X : Type 0} (at : X → ℕ) (P : X → Type 0) where
  -- the list has all with P below i, in order
  pub record AreTo (i : ℕ) (xs : List X) : Type 0 where
    pub rise : AreRising (map at xs)
    pub are : (x : X) → Contains xs x ↔ (P x × (at x < i))

  -- it has all with P at i, of which there is one at most
  pub record AreAt (i : ℕ) (ys : List X) : Type 0 where
    pub few : (ys ≡ []) ⊎ ((y : X) × (ys ≡ y ∷ []))
    pub are : (x : X) → Contains ys x ↔ (P x × (at x ≡ i))

  rises_on : (xs : List X) (p : ℕ) → AreRising (map at xs) → ((x : X) → Contains xs x → at x < p) → AreRising (map at xs ++ p ∷ [])
  rises_on [] p r h = tt
  rises_on (x ∷ []) p r h = (h x (0, omega arith, refl), tt)
  rises_on (x ∷ y ∷ xs) p r h = (r.0, rises_on (y ∷ xs) p r.1 (λ z c. h z (suc c.0, (let l : c.0 < length (y ∷ xs) = c.1 in let m : suc c.0 < length (x ∷ y ∷ xs) = omega arith in m), c.2)))

  none_in : (x : X) → Contains [] x → ⊥
  none_in x c = let l : c.0 < 0 = c.1 in absurd (omega arith)

  one_in : (x y : X) → Contains (y ∷ []) x → y ≡ x
  one_in x y c = by c.0 c.1 c.2
    where
      by : (k : ℕ) → k < 1 → slice_index_or (y ∷ []) k x ≡ x → y ≡ x
      by zero l e = e
      by (suc k) l e = absurd (omega arith)

  pub none_at : (i : ℕ) → ((x : X) → P x → at x ≡ i → ⊥) → AreAt i []
  none_at i h = record { few = inl refl; are = λ x. (λ c. absurd (none_in x c), λ p. absurd (h x p.0 p.1)) }

  pub one_at : (i : ℕ) (y : X) → P y → at y ≡ i → ((x : X) → P x → at x ≡ i → y ≡ x) → AreAt i (y ∷ [])
  one_at i y p e h = record {
    few = inr (y, refl);
    are = λ x. (
      λ c. subst (λ z. P z × (at z ≡ i)) (one_in x y c) (p, e),
      λ q. subst (λ z. Contains (y ∷ []) z) (h x q.0 q.1) (0, omega arith, refl),
    );
  }

  pub none_to : AreTo 0 []
  none_to = record { rise = tt; are = λ x. (λ c. absurd (none_in x c), λ p. absurd (let l : at x < 0 = p.1 in omega arith)) }

  -- one position more
  pub more_to : (i : ℕ) (xs ys : List X) → AreTo i xs → AreAt i ys → AreTo (suc i) (xs ++ ys)
  more_to i xs ys a b = record { rise = rise ys b.few (λ y c. ((b.are y).0 c).1); are = λ x. (forth x, back x) }
    where
      rise : (ys : List X) → (ys ≡ []) ⊎ ((y : X) × (ys ≡ y ∷ [])) → ((y : X) → Contains ys y → at y ≡ i) → AreRising (map at (xs ++ ys))
      rise ys (inl e) here = subst (λ l. AreRising (map at l)) (sym (ap (λ l. xs ++ l) e ∙ append-nil xs)) a.rise
      rise ys (inr w) here =
          let p : at w.0 ≡ i = here w.0 (subst (λ l. Contains l w.0) (sym w.1) (0, omega arith, refl)) in
          let n = rises_on xs (at w.0) a.rise (λ x c. let l = ((a.are x).0 c).1 in omega arith) in
          subst (λ l. AreRising (map at (xs ++ l))) (sym w.1) (subst AreRising (sym (map-append at xs (w.0 ∷ []))) n)

      forth : (x : X) → Contains (xs ++ ys) x → P x × (at x < suc i)
      forth x c = elim (Contains-append_cases xs ys x c) [
        | inl m ↦ let q = (a.are x).0 m in let l = q.1 in (q.0, omega arith)
        | inr m ↦ let q = (b.are x).0 m in let l = q.1 in (q.0, omega arith)
      ]

      back : (x : X) → P x × (at x < suc i) → Contains (xs ++ ys) x
      back x q = let l = q.1 in elim (cases_eq (at x) i) [
        | inl e ↦ Contains-append_right xs ys x ((b.are x).1 (q.0, e))
        | inr n ↦ Contains-append_left xs ys x ((a.are x).1 (q.0, below (at x) i n l))
      ]
        where
          below : (m i : ℕ) → (m ≡ i → ⊥) → m < suc i → m < i
          below m i n l = elim (cases_lt m i) [ inl k ↦ k | inr k ↦ absurd (n (omega arith)) ]

-- ---- those from a position on

module _ {X : Type 0} (at : X → ℕ) (P : X → Type 0) (from : ℕ) where
  -- before that position there are none
  pub none_from : AreTo at (λ x. P x × (from ≤ at x)) from []
  none_from = record {
    rise = tt;
    are = λ x. (λ c. absurd (let l : c.0 < 0 = c.1 in omega arith), λ p. absurd (let l : from ≤ at x = p.0.1 in let m : at x < from = p.1 in omega arith));
  }

  at_from : (i : ℕ) (ys : List X) → from ≤ i → AreAt at P i ys → AreAt at (λ x. P x × (from ≤ at x)) i ys
  at_from i ys l a = record {
    few = a.few;
    are = λ x. (
      λ c. let q = (a.are x).0 c in let e : at x ≡ i = q.1 in ((q.0, omega arith), e),
      λ q. (a.are x).1 (q.0.0, q.1),
    );
  }

  -- one position more
  pub more_from : (i : ℕ) (xs ys : List X) → from ≤ i → AreTo at (λ x. P x × (from ≤ at x)) i xs → AreAt at P i ys → AreTo at (λ x. P x × (from ≤ at x)) (suc i) (xs ++ ys)
  more_from i xs ys l a b = more_to at (λ x. P x × (from ≤ at x)) i xs ys a (at_from i ys l b)

-- ---- the choices at a position

module _ (es : List Event) (wf : IsWellFormed es) (i : ℕ) where
  -- a child returns at a return
  end_returns : (x : End) → IsEnd es x → x.at ≡ i → returns (event_at es i) ≡ true
  end_returns x p e = subst (λ k. returns (event_at es k) ≡ true) (p.1 ∙ e) (closed es wf x.spawn (spawns_opens (event_at es x.spawn) p.0)).return

  pub no_end : returns (event_at es i) ≡ false → AreAt (λ (e : End). e.at) (IsEnd es) i []
  no_end n = none_at (λ (e : End). e.at) (IsEnd es) i (λ x p e. both_ways (returns (event_at es i)) n (end_returns x p e))

  -- a child joins where its frame waits
  pub no_join : (paths : Burdens) → i < length es → syncs (event_at es i) ≡ false → AreAt (λ (j : Choice). j.at) (IsJoin es paths) i []
  no_join paths l n = none_at (λ (j : Choice). j.at) (IsJoin es paths) i (λ x p e.
      let j : JoinsAt es x.at p.1.0 = p.1.1 in
      let k : join es p.1.0 ≡ i = j.1 ∙ e in
      both_ways (syncs (event_at es i)) n (subst (λ m. syncs (event_at es m) ≡ true) k ((join_waits es wf p.1.0 j.0).1 (omega arith))))

  -- ---- where a frame waits

  -- what is chosen is one
  same_choice : (paths : Burdens) → Waits es i → (o t : Option ℕ) → IsChoice es paths i t → IsChoice es paths i o → t ≡ o
  same_choice paths waits None None c d = refl
  same_choice paths waits None (Some t) c d = let ps = path_exists_to es wf paths i waits.0 waits.1 in absurd (d t c.0 ps.0 ps.1 (c.1 ps.0 ps.1))
  same_choice paths waits (Some s) None c d = let ps = path_exists_to es wf paths i waits.0 waits.1 in absurd (c s d.0 ps.0 ps.1 (d.1 ps.0 ps.1))
  same_choice paths waits (Some s) (Some t) c d =
      let stands = stack_stands es wf paths 0 i waits.0 in
      let top : HasTop es paths i stands.0 = (stands.1, (0, stands.2)) in
      let ps = path_exists_to es wf paths i waits.0 waits.1 in
      let takes = λ (k : ℕ) (c : IsChoice es paths i (Some k)). ((path_takes_child es wf paths i waits stands.0 top k c.0.0 c.0.1).1 ps.0 ps.1).0 (c.1 ps.0 ps.1) in
      sym (takes t c) ∙ takes s d

  same_join : (x : Choice) (t : Option ℕ) → x.at ≡ i → t ≡ x.taken → record { at = i; taken = t } ≡ x
  same_join x t a b = λ j. record { at = sym a j; taken = b j }

  -- a state that holds a child where one joins, and takes what is chosen
  joins_by : (paths : Burdens) → Waits es i → (s : State) → IsWaited es i s.child → IsChoice es paths i (taken s) → AreAt (λ (j : Choice). j.at) (IsJoin es paths) i (joins_at i s)
  joins_by paths waits s held chosen = by s.child held
    where
      by : (o : Option (ℕ × ℕ)) → IsWaited es i o → AreAt (λ (j : Choice). j.at) (IsJoin es paths) i (listed (choice_of i o (taken s)))
      by None w = none_at (λ (j : Choice). j.at) (IsJoin es paths) i (λ x p e. w (subst (λ k. HasChoice es k) e p.1))
      by (Some c) w =
          one_at (λ (j : Choice). j.at) (IsJoin es paths) i (record { at = i; taken = taken s }) (waits.0, (c.1, w), chosen) refl
          (λ x p e. same_join x (taken s) e (same_choice paths waits x.taken (taken s) chosen (subst (λ k. IsChoice es paths k x.taken) e p.2)))

  module _ (burdens : Burdens) (root : ℕ) (f : OpenFrame) (fs : List OpenFrame) (stands : run burdens 0 (take i es) (root_frame root ∷ []) ≡ Some (f ∷ fs)) (l : i ≤ length es) where
    top : HasTop es burdens i f
    top = (fs, (root, stands))

    at_top : Shape es 1 (λ _. 0) (λ _. 0) i
    at_top = shape es 1 (λ _. 0) (λ _. 0) wf i l

    top_is : at_top.top.first ≡ first_of f.kind f.at
    top_is = sym (ap (λ t. t.first) (plain_top es wf burdens i l f top at_top))

    owner_first : owner es i ≡ first_of f.kind f.at
    owner_first = owner_is es 1 (λ _. 0) (λ _. 0) wf i at_top ∙ top_is

    -- the child that returns there is the innermost frame
    end_first : (x : End) → IsEnd es x → x.at ≡ i → first_of f.kind f.at ≡ suc x.spawn
    end_first x p e =
        sym owner_first ∙ ap (owner es) (sym (p.1 ∙ e)) ∙ owner_closing es wf x.spawn (spawns_opens (event_at es x.spawn) p.0)

    same_end : (x : End) (s : ℕ) → x.at ≡ i → s ≡ x.spawn → record { at = i; spawn = s } ≡ x
    same_end x s a b = λ j. record { at = sym a j; spawn = b j }

    pub return_ends : event_at es i ≡ Some Ret → AreAt (λ (e : End). e.at) (IsEnd es) i (ends_at i f.kind f.at)
    return_ends is = by f.kind (all_traced es wf burdens root i l (f ∷ fs) stands).0 (sym top_is ∙ r.1.first) (λ x p e. end_first x p e)
      where
        r : (o : ℕ) × Opened es 1 (λ _. 0) (λ _. 0) i at_top.top at_top.rest o × (partner es o ≡ i)
        r = return_closes es 1 (λ _. 0) (λ _. 0) wf i at_top (ap returns is)

        by : (kind : FrameKind) → TracedBy es root kind f.at f.site f.func → first_of kind f.at ≡ suc r.0
            → ((x : End) → IsEnd es x → x.at ≡ i → first_of kind f.at ≡ suc x.spawn) → AreAt (λ (e : End). e.at) (IsEnd es) i (ends_at i kind f.at)
        by Root t q h = none_at (λ (e : End). e.at) (IsEnd es) i (λ x p e. let z : 0 ≡ suc x.spawn = h x p e in absurd (omega arith))
        by Called t q h = none_at (λ (e : End). e.at) (IsEnd es) i (λ x p e.
            let z : suc f.at ≡ suc x.spawn = h x p e in
            let s : f.at ≡ x.spawn = omega arith in
            both_ways (spawns (event_at es f.at)) (ap spawns t) (subst (λ k. spawns (event_at es k) ≡ true) (sym s) p.0))
        by Spawned t q h =
            let s : r.0 ≡ f.at = (let z : suc f.at ≡ suc r.0 = q in omega arith) in
            one_at (λ (e : End). e.at) (IsEnd es) i (record { at = i; spawn = f.at }) (ap spawns t, ap (partner es) (sym s) ∙ r.2) refl
            (λ x p e. same_end x f.at e (let z : suc f.at ≡ suc x.spawn = h x p e in omega arith))

    -- where a frame waits, the machine holds a child where one joins, and takes what is chosen
    pub wait_joins : Waits es i → AreAt (λ (j : Choice). j.at) (IsJoin es unburdened) i (joins_at i f.plain)
    wait_joins waits =
        let held = child_is_waited es wf burdens i waits f top in
        let chosen = taken_is_choice es wf burdens i waits f top in
        joins_by unburdened waits f.plain held.0 chosen.0

    -- and under the burdens
    pub wait_burdened : Waits es i → AreAt (λ (j : Choice). j.at) (IsJoin es burdens) i (joins_at i f.burdened)
    wait_burdened waits =
        let held = child_is_waited es wf burdens i waits f top in
        let chosen = taken_is_choice es wf burdens i waits f top in
        joins_by burdens waits f.burdened held.1 chosen.1
