-- What stands of the settling of a range when some of its choices are left: what was found are the entered children whose
-- joins were taken.
use Rattle.std.proofs.Common.{◌≡◌, ℕ, zero, suc, ◌+◌, ◌-◌, ◌*◌, ◌≤◌, ◌<◌, Bool, true, false, refl, arith, sym, ◌∙◌, ap, subst, inl, inr, List, [], ◌∷◌, length, map, take, get_or, slice_get, Option, Some, None, nat_lt, cond}
use Rattle.std.specs.Prelude.{Contains}
use Rattle.std.proofs.lemmas.Bool.{cases_lt, ltb-true, ltb-false}
use Rattle.std.proofs.lemmas.List.{get_or-map, get_or-take, length-take-le, length-map}
use Rattle.std.proofs.lemmas.Option.{slice_get_within, slice_get-get_or, get_or_from_slice_get}
use Rattle.spp_event.specs.declared.records.Event.{Event}
use Rattle.spp_maxplus.specs.declared.state.Burdens.{Burdens}
use Rattle.spp_dag.specs.Trace.{event_at, spawns, IsWellFormed, partner, join}
use Rattle.spp_dag.specs.Dag.{On, IsPath}
use Rattle.spp_dag.proofs.Upper.{spawns_opens}
use Rattle.spp_dag.proofs.Crossing.{join_spec}
use Rattle.spp_dag.specs.declared.choices.End.{End}
use Rattle.spp_dag.specs.declared.choices.Choice.{Choice}
use Rattle.spp_path.specs.declared.settling.Note.TheVariants as note
use Rattle.spp_path.specs.declared.settling.Onward.TheVariants.{Live}
use Rattle.spp_path.specs.declared.settling.WayBack.{WayBack}
use Rattle.spp_dag.specs.ChoiceLists.{AreRising, IsJoin, IsWithin}
use Rattle.spp_dag.specs.Choices.{IsChoice}
use Rattle.spp_path.specs.Settling.{last, later, runs_to, ended, IsEntering, IsTaken, IsJoined}
use Rattle.spp_path.specs.Ways.{Says, AreFound, AreNotesIn, HasCome}
use Rattle.spp_path.proofs.Passing.{passes_join, chosen_entered, one_entered}
use Rattle.spp_path.proofs.Modes.{Quiet, says_ended, runs_passes, passes_runs, says_passed, says_taken, none_entered, says_none}
use Rattle.spp_path.proofs.Rising.{rises}
use Rattle.spp_path.proofs.Found.{found_down, found_more}

-- Of a list of positions the first m are left: those lie before the time, and the others at it or after it. The one at
-- k has the time 2k + d.
pub record Left (d : ℕ) (xs : List ℕ) (m t : ℕ) : Type 0 where
  pub before : (i : ℕ) → i < m → 2 * get_or xs i 0 + d < t
  pub after : (i : ℕ) → m ≤ i → i < length xs → t ≤ 2 * get_or xs i 0 + d

-- the last of those is taken
left_popped : (d : ℕ) (xs : List ℕ) (m k t : ℕ) → AreRising xs → 0 < m → m ≤ length xs → 2 * get_or xs (m - 1) 0 + d ≡ k → Left d xs m t → Left d xs (m - 1) k
left_popped d xs m k t r pos l e h = record {
  before = λ i a. let z = rises xs i (m - 1) r a (omega arith) in omega arith;
  after = λ i a b. elim (cases_lt (m - 1) i) [
    | inl x ↦ (let z = h.after i (omega arith) b in let y = h.before (m - 1) (omega arith) in omega arith)
    | inr x ↦ subst (λ n. k ≤ 2 * get_or xs n 0 + d) (let y : m - 1 ≡ i = omega arith in y) (omega arith)
  ];
}

-- the time goes down, and not to the last of those
left_kept : (d : ℕ) (xs : List ℕ) (m k t : ℕ) → AreRising xs → m ≤ length xs → k < t → (0 < m → 2 * get_or xs (m - 1) 0 + d < k) → Left d xs m t → Left d xs m k
left_kept d xs m k t r l a b h = record {
  before = λ i x. elim (cases_lt i (m - 1)) [
    | inl y ↦ (let z = rises xs i (m - 1) r y (omega arith) in let w = b (omega arith) in omega arith)
    | inr y ↦ subst (λ n. 2 * get_or xs n 0 + d < k) (let z : m - 1 ≡ i = omega arith in z) (b (omega arith))
  ];
  after = λ i x y. let z = h.after i x y in omega arith;
}

-- the last of the first m is the one before m
pub last_taken : {X : Type 0} (xs : List X) (m : ℕ) (x : X) → m ≤ length xs → last (take m xs) ≡ Some x → (0 < m) × (slice_get xs (m - 1) ≡ Some x)
last_taken xs m x l e =
    let n = length-take-le m xs l in
    let w = slice_get_within (take m xs) (length (take m xs) - 1) x e in
    let pos : 0 < m = omega arith in
    let g = get_or_from_slice_get (take m xs) (length (take m xs) - 1) x x e in
    let at : length (take m xs) - 1 ≡ m - 1 = omega arith in
    let h : get_or (take m xs) (m - 1) x ≡ x = subst (λ i. get_or (take m xs) i x ≡ x) at g in
    let t = get_or-take m xs (m - 1) x (omega arith) in
    (pos, slice_get-get_or xs (m - 1) x (omega arith) ∙ ap Some (sym t ∙ h))

-- where there is no last one m is 0
none_taken : {X : Type 0} (xs : List X) (m : ℕ) → m ≤ length xs → last (take m xs) ≡ None → m ≡ 0
none_taken xs zero l e = refl
none_taken [] (suc m) l e = absurd (omega arith)
none_taken (x ∷ xs) (suc m) l e =
    let n = length-take-le (suc m) (x ∷ xs) l in
    let s = slice_get-get_or (take (suc m) (x ∷ xs)) (length (take (suc m) (x ∷ xs)) - 1) x (omega arith) in
    let z : None ≡ Some (get_or (take (suc m) (x ∷ xs)) (length (take (suc m) (x ∷ xs)) - 1) x) = sym e ∙ s in
    cc

pub contains_at : {X : Type 0} (xs : List X) (i : ℕ) (x : X) → slice_get xs i ≡ Some x → Contains xs x
contains_at xs i x e = (i, slice_get_within xs i x e, get_or_from_slice_get xs i x x e)

-- the positions of the choices
abbrev end_ats : List End → List ℕ
end_ats xs = map (λ (e : End). e.at) xs

abbrev join_ats : List Choice → List ℕ
join_ats xs = map (λ (j : Choice). j.at) xs

-- the position of the i-th
end_at : (xs : List End) (i : ℕ) (e : End) → slice_get xs i ≡ Some e → get_or (end_ats xs) i 0 ≡ e.at
end_at xs i e s =
    let l = slice_get_within xs i e s in
    get_or-map (λ (e : End). e.at) xs i e 0 l ∙ ap (λ (e : End). e.at) (get_or_from_slice_get xs i e e s)

join_at : (xs : List Choice) (i : ℕ) (j : Choice) → slice_get xs i ≡ Some j → get_or (join_ats xs) i 0 ≡ j.at
join_at xs i j s =
    let l = slice_get_within xs i j s in
    get_or-map (λ (j : Choice). j.at) xs i j 0 l ∙ ap (λ (j : Choice). j.at) (get_or_from_slice_get xs i j j s)

-- ---- what stands

-- m ends and n joins of the range are left
pub record Stage (es : List Event) (ps : List ℕ) (from end : ℕ) (ends : List End) (joins : List Choice) (m n : ℕ) (s : WayBack) : Type 0 where
  pub time : ℕ
  pub above : 2 * from ≤ time
  pub ends_left : Left 1 (end_ats ends) m time
  pub joins_left : Left 0 (join_ats joins) n time
  pub says : Says es ps time s.onward
  pub found : AreFound es ps time s.ahead.items s.behind.items
  pub no_ends : (u : ℕ) → spawns (event_at es u) ≡ true → 2 * partner es u + 1 < time → partner es u < end
  pub no_joins : (u : ℕ) → spawns (event_at es u) ≡ true → On 0 ps (suc u) → 2 * join es u < time → join es u < end

-- the same for each run and range with these choices, to the end of which the way back has come
abbrev pub Settles : List End → List Choice → ℕ → ℕ → WayBack → WayBack → Type 0
Settles ends joins m n old new = (es : List Event) (bd : Burdens) (ps : List ℕ) (from end : ℕ) → IsWellFormed es → IsPath es bd 0 (length es) ps → AreNotesIn es bd from end ends joins
    → HasCome es ps end old → Stage es ps from end ends joins m n new

module _ (es : List Event) (bd : Burdens) (ps : List ℕ) (wf : IsWellFormed es) (p : IsPath es bd 0 (length es) ps) (from end : ℕ) (ends : List End) (joins : List Choice)
    (h : AreNotesIn es bd from end ends joins) where
  -- the choices of a child have their places in the lists
  end_place : (u : ℕ) → spawns (event_at es u) ≡ true → from ≤ partner es u → partner es u < end → (i : ℕ) × (i < length (end_ats ends)) × (get_or (end_ats ends) i 0 ≡ partner es u)
  end_place u t a b =
      let e : End = record { at = partner es u; spawn = u } in
      let k = (h.are_ends.are e).1 ((t, refl), (a, b)) in
      let n = length-map ends (λ (e : End). e.at) in
      (k.0, (let l = k.1 in omega arith), get_or-map (λ (e : End). e.at) ends k.0 e 0 k.1 ∙ ap (λ (e : End). e.at) k.2)

  join_place : (s : ℕ) → spawns (event_at es s) ≡ true → On 0 ps (suc s) → from ≤ join es s → join es s < end
      → (i : ℕ) × (i < length (join_ats joins)) × (get_or (join_ats joins) i 0 ≡ join es s)
  join_place s t on a b =
      let j : Choice = record { at = join es s; taken = Some s } in
      let is = chosen_entered es wf bd ps p s t on in
      let k = (h.are_joins.are j).1 (((join_spec es wf s (spawns_opens (event_at es s) t)).upper, (s, is.0), is), (a, b)) in
      let n = length-map joins (λ (j : Choice). j.at) in
      (k.0, (let l = k.1 in omega arith), get_or-map (λ (j : Choice). j.at) joins k.0 j 0 k.1 ∙ ap (λ (j : Choice). j.at) k.2)

  -- all that are left lie at the last choice or before it
  quiet : (m n k : ℕ) (s : WayBack) (g : Stage es ps from end ends joins m n s) → k < g.time → 2 * from ≤ k → ((i : ℕ) → i < m → 2 * get_or (end_ats ends) i 0 + 1 ≤ k)
      → ((i : ℕ) → i < n → 2 * get_or (join_ats joins) i 0 + 0 ≤ k) → Quiet es wf bd ps p k g.time
  quiet m n k s g l f x y = record {
    below = l;
    ends = λ u v z.
        let b = g.no_ends u v z in
        elim (cases_lt (partner es u) from) [
          | inl q ↦ omega arith
          | inr q ↦
              let i = end_place u v q b in
              elim (cases_lt i.0 m) [
                | inl w ↦ (let c = x i.0 w in omega (arith, i.2))
                | inr w ↦ (let c = g.ends_left.after i.0 w i.1 in omega (arith, i.2))
              ]
        ];
    joins = λ u v e z.
        let b = g.no_joins u v e z in
        elim (cases_lt (join es u) from) [
          | inl q ↦ omega arith
          | inr q ↦
              let i = join_place u v e q b in
              elim (cases_lt i.0 n) [
                | inl w ↦ (let c = y i.0 w in omega (arith, i.2))
                | inr w ↦ (let c = g.joins_left.after i.0 w i.1 in omega (arith, i.2))
              ]
        ];
  }

  -- the last choice is an end
  pub stage_ended : (m n : ℕ) (s : WayBack) (e : End) → m ≤ length ends → n ≤ length joins → 0 < m → slice_get ends (m - 1) ≡ Some e
      → (0 < n → get_or (join_ats joins) (n - 1) 0 ≤ e.at) → Stage es ps from end ends joins m n s
      → (g : Stage es ps from end ends joins (m - 1) n (record s { onward = ended e s.onward })) × (g.time ≡ 2 * e.at + 1)
  stage_ended m n s e lm ln pos is le g =
      let k : ℕ = 2 * e.at + 1 in
      let at = end_at ends (m - 1) e is in
      let ne = length-map ends (λ (e : End). e.at) in
      let nj = length-map joins (λ (j : Choice). j.at) in
      let was = (h.are_ends.are e).0 (contains_at ends (m - 1) e is) in
      let low : from ≤ e.at = was.1.0 in
      let below : k < g.time = (let z = g.ends_left.before (m - 1) (omega arith) in omega arith) in
      let a = left_popped 1 (end_ats ends) m k g.time h.are_ends.rise pos (omega arith) (let z : 2 * get_or (end_ats ends) (m - 1) 0 + 1 ≡ k = omega arith in z) g.ends_left in
      let b = left_kept 0 (join_ats joins) n k g.time h.are_joins.rise (omega arith) below (λ z. let y = le z in omega arith) g.joins_left in
      let q = quiet m n k s g below (omega arith)
      (λ i z. elim (cases_lt i (m - 1)) [ inl y ↦ (let x = a.before i y in omega arith) | inr y ↦ subst (λ j. 2 * get_or (end_ats ends) j 0 + 1 ≤ k) (let x : m - 1 ≡ i = omega arith in x) (omega arith) ])
      (λ i z. let y = b.before i z in omega arith) in (
        record {
          time = k;
          above = omega arith;
          ends_left = a;
          joins_left = b;
          says = says_ended es wf bd ps p e k g.time was.0 refl q s.onward g.says;
          found = found_down es ps k g.time below s.ahead.items s.behind.items (λ u t on x y. let z = q.joins u t on y in omega arith) g.found;
          no_ends = λ u t x. g.no_ends u t (omega arith);
          no_joins = λ u t on x. g.no_joins u t on (omega arith);
        },
        refl,
      )

  -- the last choice is a join
  module _ (m n : ℕ) (s : WayBack) (j : Choice) (lm : m ≤ length ends) (ln : n ≤ length joins) (pos : 0 < n) (is_last : slice_get joins (n - 1) ≡ Some j)
      (lt : 0 < m → get_or (end_ats ends) (m - 1) 0 < j.at) (g : Stage es ps from end ends joins m n s) where
    abbrev K : ℕ
    K = 2 * j.at

    -- the time goes down to its own
    below : K < g.time
    below = let at = join_at joins (n - 1) j is_last in let z = g.joins_left.before (n - 1) (omega arith) in omega arith

    -- it is one of the range
    is : IsJoin es bd j × IsWithin from end j.at
    is = (h.are_joins.are j).0 (contains_at joins (n - 1) j is_last)

    -- what is left below it
    left_ends : Left 1 (end_ats ends) m K
    left_ends =
        let ne = length-map ends (λ (e : End). e.at) in
        left_kept 1 (end_ats ends) m K g.time h.are_ends.rise (omega arith) below (λ z. let y = lt z in omega arith) g.ends_left

    left_joins : Left 0 (join_ats joins) (n - 1) K
    left_joins =
        let at = join_at joins (n - 1) j is_last in
        let nj = length-map joins (λ (j : Choice). j.at) in
        left_popped 0 (join_ats joins) n K g.time h.are_joins.rise pos (omega arith) (let z : 2 * get_or (join_ats joins) (n - 1) 0 + 0 ≡ K = omega arith in z) g.joins_left

    -- and nothing stands between
    still : Quiet es wf bd ps p K g.time
    still =
        let at = join_at joins (n - 1) j is_last in
        let low : from ≤ j.at = is.1.0 in
        quiet m n K s g below (omega arith)
        (λ i z. let y = left_ends.before i z in omega arith)
        (λ i z. elim (cases_lt i (n - 1)) [ inl y ↦ (let x = left_joins.before i y in omega arith) | inr y ↦ subst (λ k. 2 * get_or (join_ats joins) k 0 + 0 ≤ K) (let x : n - 1 ≡ i = omega arith in x) (omega arith) ])

    -- what stands then
    stage : (t : WayBack) → Says es ps K t.onward → AreFound es ps K t.ahead.items t.behind.items → Stage es ps from end ends joins m (n - 1) t
    stage t says found =
        let low : from ≤ j.at = is.1.0 in
        let down = below in
        record {
          time = K;
          above = omega arith;
          ends_left = left_ends;
          joins_left = left_joins;
          says = says;
          found = found;
          no_ends = λ u t x. g.no_ends u t (omega arith);
          no_joins = λ u t on x. g.no_joins u t on (omega arith);
        }

    -- nothing was found, where no child that is entered joins here
    unchanged : ((u : ℕ) → spawns (event_at es u) ≡ true → On 0 ps (suc u) → join es u ≡ j.at → ⊥) → AreFound es ps K s.ahead.items s.behind.items
    unchanged none = found_down es ps K g.time below s.ahead.items s.behind.items (λ u t on x y. let z = still.joins u t on y in absurd (none u t on (omega arith))) g.found

    -- the path doesn't come to it
    pub stage_passed : runs_to j.at s.onward ≡ false → Stage es ps from end ends joins m (n - 1) s
    stage_passed r =
        stage s (says_passed es wf bd ps p j.at g.time still s.onward g.says r)
        (unchanged (λ u t on z. passes_runs es wf bd ps p j.at g.time still s.onward g.says r (subst (λ k. On 0 ps k) z (passes_join es wf bd ps p u t on))))

    -- the path comes to it along the parent
    pub stage_beside : runs_to j.at s.onward ≡ true → j.taken ≡ None → Stage es ps from end ends joins m (n - 1) (record s { onward = Live })
    stage_beside r none =
        let chosen : IsChoice es bd j.at None = subst (λ o. IsChoice es bd j.at o) none is.0.2 in
        stage (record s { onward = Live }) (says_none es wf bd ps p j.at g.time still s.onward g.says r chosen)
        (unchanged (λ u t on z. none_entered es wf bd ps p j.at u chosen t on z))

    -- the path comes to it, from its child
    pub stage_taken : runs_to j.at s.onward ≡ true → (spawn : ℕ) → j.taken ≡ Some spawn → (new : WayBack) → IsEntering spawn s new → Stage es ps from end ends joins m (n - 1) new
    stage_taken r spawn takes new enters =
        let chosen : IsChoice es bd j.at (Some spawn) = subst (λ o. IsChoice es bd j.at o) takes is.0.2 in
        let t = says_taken es wf bd ps p j.at spawn chosen (runs_passes es wf bd ps p j.at g.time is.0.0 still s.onward g.says r) in
        let at : join es spawn ≡ j.at = chosen.0.1 in
        stage new (subst (λ w. Says es ps K w) (sym enters.onward) t.0)
        (found_more es wf bd ps p K g.time spawn s new below chosen.0.0 t.1 (omega arith)
        (λ u v on x y. let z = still.joins u v on y in one_entered es wf bd ps p u spawn v chosen.0.0 on t.1 (omega arith)) enters g.found)

  -- nothing of the range was taken yet
  pub stage_first : (s : WayBack) → HasCome es ps end s → Stage es ps from end ends joins (length ends) (length joins) s
  stage_first s c =
      let ne = length-map ends (λ (e : End). e.at) in
      let nj = length-map joins (λ (j : Choice). j.at) in
      let up = c.after in
      let rising = h.rising in
      record {
        time = c.time;
        above = omega arith;
        ends_left = record {
          before = λ i l.
              let some = slice_get-get_or ends i (record { at = 0; spawn = 0 }) l in
              let e : End = get_or ends i (record { at = 0; spawn = 0 }) in
              let was = (h.are_ends.are e).0 (contains_at ends i e some) in
              let at = end_at ends i e some in
              let lt : e.at < end = was.1.1 in
              omega arith;
          after = λ i a b. absurd (omega arith);
        };
        joins_left = record {
          before = λ i l.
              let some = slice_get-get_or joins i (record { at = 0; taken = None }) l in
              let j : Choice = get_or joins i (record { at = 0; taken = None }) in
              let was = (h.are_joins.are j).0 (contains_at joins i j some) in
              let at = join_at joins i j some in
              let lt : j.at < end = was.1.1 in
              omega arith;
          after = λ i a b. absurd (omega arith);
        };
        says = c.says;
        found = c.found;
        no_ends = c.no_ends;
        no_joins = c.no_joins;
      }

  -- all were taken
  pub stage_done : (s : WayBack) → Stage es ps from end ends joins 0 0 s → HasCome es ps from s
  stage_done s g = record {
    time = g.time;
    after = g.above;
    says = g.says;
    found = g.found;
    no_ends = λ u t x. elim (cases_lt (partner es u) from) [
      | inl a ↦ a
      | inr a ↦ (let i = end_place u t a (g.no_ends u t x) in let z = g.ends_left.after i.0 (omega arith) i.1 in absurd (omega (arith, i.2)))
    ];
    no_joins = λ u t on x. elim (cases_lt (join es u) from) [
      | inl a ↦ a
      | inr a ↦ (let i = join_place u t on a (g.no_joins u t on x) in let z = g.joins_left.after i.0 (omega arith) i.1 in absurd (omega (arith, i.2)))
    ];
  }

-- ---- the steps, for every run that has these choices

-- the later of two notes, where it is an end: the other isn't after it
pub later_end : (a : Option End) (b : Option Choice) (e : End) → later a b ≡ Some (note.End e) → (a ≡ Some e) × ((j : Choice) → b ≡ Some j → j.at ≤ e.at)
later_end None None e q = cc
later_end None (Some j) e q = cc
later_end (Some d) None e q = (cc, λ j z. cc)
later_end (Some d) (Some j) e q = pick (nat_lt d.at j.at) refl q
  where
    pick : (b : Bool) → nat_lt d.at j.at ≡ b → cond b (Some (note.Join j)) (Some (note.End d)) ≡ Some (note.End e) → (Some d ≡ Some e) × ((k : Choice) → Some j ≡ Some k → k.at ≤ e.at)
    pick true x z = cc
    pick false x z =
        let y : d ≡ e = cc in
        let l = ltb-false d.at j.at x in
        let f : d.at ≡ e.at = ap (λ (v : End). v.at) y in
        (ap Some y, λ k r. let v : j ≡ k = cc in let u : j.at ≡ k.at = ap (λ (v : Choice). v.at) v in omega arith)

-- the same, where it is a join
later_join : (a : Option End) (b : Option Choice) (j : Choice) → later a b ≡ Some (note.Join j) → (b ≡ Some j) × ((e : End) → a ≡ Some e → e.at < j.at)
later_join None None j q = cc
later_join None (Some k) j q = (let z : k ≡ j = cc in ap Some z, λ e z. cc)
later_join (Some d) None j q = cc
later_join (Some d) (Some k) j q = pick (nat_lt d.at k.at) refl q
  where
    pick : (b : Bool) → nat_lt d.at k.at ≡ b → cond b (Some (note.Join k)) (Some (note.End d)) ≡ Some (note.Join j) → (Some k ≡ Some j) × ((e : End) → Some d ≡ Some e → e.at < j.at)
    pick false x z = cc
    pick true x z =
        let y : k ≡ j = cc in
        let l = ltb-true d.at k.at x in
        let f : k.at ≡ j.at = ap (λ (v : Choice). v.at) y in
        (ap Some y, λ e r. let v : d ≡ e = cc in let u : d.at ≡ e.at = ap (λ (v : End). v.at) v in omega arith)

-- where there is none, both lists are empty
later_none : (a : Option End) (b : Option Choice) → later a b ≡ None → (a ≡ None) × (b ≡ None)
later_none None None q = (refl, refl)
later_none None (Some j) q = cc
later_none (Some d) None q = cc
later_none (Some d) (Some j) q = pick (nat_lt d.at j.at) q
  where
    pick : (b : Bool) → cond b (Some (note.Join j)) (Some (note.End d)) ≡ None → (Some d ≡ None) × (Some j ≡ None)
    pick true z = cc
    pick false z = cc

-- the last of the first m is there, where m isn't 0
pub last_there : {X : Type 0} (xs : List X) (m : ℕ) (f : X → ℕ) → m ≤ length xs → 0 < m → (x : X) × (last (take m xs) ≡ Some x) × (get_or (map f xs) (m - 1) 0 ≡ f x)
last_there [] m f l pos = absurd (omega arith)
last_there (x ∷ xs) m f l pos =
    let n = length-take-le m (x ∷ xs) l in
    let a = slice_get-get_or (take m (x ∷ xs)) (length (take m (x ∷ xs)) - 1) x (omega arith) in
    let y = get_or (take m (x ∷ xs)) (length (take m (x ∷ xs)) - 1) x in
    let t = last_taken (x ∷ xs) m y l a in
    (y, a, get_or-map f (x ∷ xs) (m - 1) x 0 (omega arith) ∙ ap f (get_or_from_slice_get (x ∷ xs) (m - 1) y x t.1))

-- a join is taken
pub settles_joined : (ends : List End) (joins : List Choice) (m n : ℕ) (old s new : WayBack) (j : Choice) → m ≤ length ends → n ≤ length joins
    → later (last (take m ends)) (last (take n joins)) ≡ Some (note.Join j) → IsJoined j s new → Settles ends joins m n old s → Settles ends joins m (n - 1) old new
settles_joined ends joins m n old s new j lm ln q step g es bd ps from end wf p h c =
    let l = later_join (last (take m ends)) (last (take n joins)) j q in
    let t = last_taken joins n j ln l.0 in
    let lt = λ (z : 0 < m). (let e = last_there ends m (λ (e : End). e.at) lm z in let y = l.1 e.0 e.1 in let x : get_or (end_ats ends) (m - 1) 0 < j.at = omega (arith, e.2) in x) in
    let stage = g es bd ps from end wf p h c in
    by (runs_to j.at s.onward) refl j.taken refl lt t stage
  where
    by : (b : Bool) → runs_to j.at s.onward ≡ b → (o : Option ℕ) → j.taken ≡ o → (0 < m → get_or (end_ats ends) (m - 1) 0 < j.at)
        → (0 < n) × (slice_get joins (n - 1) ≡ Some j) → Stage es ps from end ends joins m n s → Stage es ps from end ends joins m (n - 1) new
    by false r o k lt t stage =
        subst (λ w. Stage es ps from end ends joins m (n - 1) w) (sym (step.passes r)) (stage_passed es bd ps wf p from end ends joins h m n s j lm ln t.0 t.1 lt stage r)
    by true r None k lt t stage =
        let is : IsTaken None s new = subst (λ o. IsTaken o s new) k (step.comes r) in
        subst (λ w. Stage es ps from end ends joins m (n - 1) w) (sym is) (stage_beside es bd ps wf p from end ends joins h m n s j lm ln t.0 t.1 lt stage r k)
    by true r (Some spawn) k lt t stage =
        let is : IsTaken (Some spawn) s new = subst (λ o. IsTaken o s new) k (step.comes r) in
        stage_taken es bd ps wf p from end ends joins h m n s j lm ln t.0 t.1 lt stage r spawn k new is

-- before the first choice
pub settles_first : (ends : List End) (joins : List Choice) (s : WayBack) → Settles ends joins (length ends) (length joins) s s
settles_first ends joins s es bd ps from end wf p h c = stage_first es bd ps wf p from end ends joins h s c

-- where no choice is left the way back has come to the beginning of the range
pub settled : (ends : List End) (joins : List Choice) (m n : ℕ) (old s : WayBack) → m ≤ length ends → n ≤ length joins
    → later (last (take m ends)) (last (take n joins)) ≡ None → Settles ends joins m n old s
    → (es : List Event) (bd : Burdens) (ps : List ℕ) (from end : ℕ) → IsWellFormed es → IsPath es bd 0 (length es) ps → AreNotesIn es bd from end ends joins → HasCome es ps end old → HasCome es ps from s
settled ends joins m n old s lm ln q g es bd ps from end wf p h c =
    let l = later_none (last (take m ends)) (last (take n joins)) q in
    let stage = g es bd ps from end wf p h c in
    let a : m ≡ 0 = none_taken ends m lm l.0 in
    let b : n ≡ 0 = none_taken joins n ln l.1 in
    stage_done es bd ps wf p from end ends joins h s (subst (λ k. Stage es ps from end ends joins k 0 s) a (subst (λ k. Stage es ps from end ends joins m k s) b stage))
