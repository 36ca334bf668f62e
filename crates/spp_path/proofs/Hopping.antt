-- What stands of the settling of a range where it hops back over the choices within a child that the path goes beside.
use Rattle.std.proofs.Common.{◌≡◌, ℕ, suc, ◌+◌, ◌-◌, ◌*◌, ◌≤◌, ◌<◌, true, false, Bool, refl, arith, sym, ◌∙◌, ap, subst, ◌⊎◌, inl, inr, List, length, map, take, get_or, Option, Some, None, nat_le, nat_eq, cond}
use Rattle.std.proofs.lemmas.Bool.{cases_lt, eq-eqb, both_ways}
use Rattle.std.proofs.lemmas.List.{length-map, get_or-map}
use Rattle.std.proofs.lemmas.Option.{slice_get-get_or}
use Rattle.spp_event.specs.declared.records.Event.{Event}
use Rattle.spp_maxplus.specs.declared.state.Burdens.{Burdens}
use Rattle.spp_dag.specs.Trace.{event_at, spawns, IsWellFormed, partner, join}
use Rattle.spp_dag.specs.Dag.{On, IsPath}
use Rattle.spp_dag.specs.ChoiceLists.{AreRising, IsEnd}
use Rattle.spp_dag.proofs.Upper.{spawns_opens}
use Rattle.spp_dag.proofs.Depth.{closed}
use Rattle.spp_dag.proofs.Crossing.{nested}
use Rattle.spp_dag.specs.declared.choices.End.{End}
use Rattle.spp_dag.specs.declared.choices.Choice.{Choice}
use Rattle.spp_path.specs.Hops.{IsHop, AreBefore, child_skipped, child_beside, hop_to}
use Rattle.spp_path.specs.declared.hops.Left.{Left}
use Rattle.spp_path.specs.Settling.{last, later, ended}
use Rattle.spp_path.specs.Ways.{Says, Skipping, Seeking, AreFound, AreNotesIn}
use Rattle.spp_path.specs.declared.settling.Note.TheVariants as note
use Rattle.spp_path.specs.declared.settling.Onward.{Onward}
use Rattle.spp_path.specs.declared.settling.Pace.{Pace}
use Rattle.spp_path.specs.declared.settling.Pace.TheVariants.{Each, Hops}
use Rattle.spp_path.specs.declared.settling.Onward.TheVariants.{Live, Skip, Seek}
use Rattle.spp_path.specs.declared.settling.WayBack.{WayBack}
use Rattle.spp_path.proofs.Passing.{passes_join, passes_within, passes_after}
use Rattle.spp_path.proofs.Modes.{not_both}
use Rattle.spp_path.proofs.Rising.{rises}
use Rattle.spp_path.proofs.Found.{found_down, join_inside}
use Rattle.spp_path.proofs.Stages.{Left as LiesBefore, Stage, Settles, settles_first, stage_ended, later_end, last_taken, last_there, contains_at}

-- the time to which it hops: behind the spawn, and no further than the beginning of the range
record Behind (from u k : ℕ) : Type 0 where
  range : 2 * from ≤ k
  spawn : 2 * u + 2 ≤ k
  one : (k ≡ 2 * from) ⊎ (k ≡ 2 * u + 2)

behind : (from u : ℕ) → (k : ℕ) × Behind from u k
behind from u = elim (cases_lt (2 * u + 2) (2 * from)) [
  | inl l ↦ (2 * from, record { range = omega arith; spawn = omega arith; one = inl refl })
  | inr l ↦ (2 * u + 2, record { range = omega arith; spawn = omega arith; one = inr refl })
]

-- those that are left then lie before it
left_hopped : (d : ℕ) (xs : List ℕ) (m n u from k t : ℕ) → d ≤ 1 → AreRising xs → m ≤ length xs → ((i : ℕ) → i < length xs → from ≤ get_or xs i 0) → Behind from u k → k ≤ t
    → IsHop xs m u n → LiesBefore d xs m t → LiesBefore d xs n k
left_hopped d xs m n u from k t small r l in_range b le hop h = record {
  before = λ i a.
      let z = hop.kept (omega arith) in
      let most = hop.most in
      let low = b.spawn in
      elim (cases_lt i (n - 1)) [
        | inl x ↦ (let y = rises xs i (n - 1) r x (omega arith) in omega arith)
        | inr x ↦ (let e : n - 1 ≡ i = omega arith in subst (λ j. 2 * get_or xs j 0 + d < k) e (omega arith))
      ];
  after = λ i a c.
      let start = in_range i c in
      elim (cases_lt i m) [
        | inr x ↦ (let y = h.after i x c in omega arith)
        | inl x ↦
            let past = hop.past (omega arith) in
            let high : u < get_or xs i 0 = elim (cases_lt n i) [
              | inl y ↦ (let z = rises xs n i r y c in omega arith)
              | inr y ↦ (let e : n ≡ i = omega arith in subst (λ j. u < get_or xs j 0) e past)
            ] in
            elim b.one [ inl y ↦ omega arith | inr y ↦ omega arith ]
      ];
}

module _ (es : List Event) (bd : Burdens) (ps : List ℕ) (wf : IsWellFormed es) (p : IsPath es bd 0 (length es) ps) (from end : ℕ) (ends : List End) (joins : List Choice)
    (h : AreNotesIn es bd from end ends joins) where
  abbrev end_ats : List ℕ
  end_ats = map (λ (e : End). e.at) ends

  abbrev join_ats : List ℕ
  join_ats = map (λ (j : Choice). j.at) joins

  ends_in : (i : ℕ) → i < length end_ats → from ≤ get_or end_ats i 0
  ends_in i l =
      let n = length-map ends (λ (e : End). e.at) in
      let some = slice_get-get_or ends i (record { at = 0; spawn = 0 }) (omega arith) in
      let was = (h.are_ends.are (get_or ends i (record { at = 0; spawn = 0 }))).0 (contains_at ends i _ some) in
      let low = was.1.0 in
      let at = get_or-map (λ (e : End). e.at) ends i (record { at = 0; spawn = 0 }) 0 (omega arith) in
      omega arith

  joins_in : (i : ℕ) → i < length join_ats → from ≤ get_or join_ats i 0
  joins_in i l =
      let n = length-map joins (λ (j : Choice). j.at) in
      let some = slice_get-get_or joins i (record { at = 0; taken = None }) (omega arith) in
      let was = (h.are_joins.are (get_or joins i (record { at = 0; taken = None }))).0 (contains_at joins i _ some) in
      let low = was.1.0 in
      let at = get_or-map (λ (j : Choice). j.at) joins i (record { at = 0; taken = None }) 0 (omega arith) in
      omega arith

  -- it hops to behind a spawn, where the path is told in the same way there and no entered child joins between
  stage_hopped : (m n a b u k : ℕ) (s : WayBack) → m ≤ length ends → n ≤ length joins → (g : Stage es ps from end ends joins m n s) → Behind from u k → k ≤ g.time → IsHop end_ats m u a → IsHop join_ats n u b
      → Says es ps k s.onward → ((v : ℕ) → spawns (event_at es v) ≡ true → On 0 ps (suc v) → k ≤ 2 * join es v → 2 * join es v < g.time → ⊥)
      → Stage es ps from end ends joins a b s
  stage_hopped m n a b u k s lm ln g at le x y says none =
      let ne = length-map ends (λ (e : End). e.at) in
      let nj = length-map joins (λ (j : Choice). j.at) in
      record {
        time = k;
        above = at.range;
        ends_left = left_hopped 1 end_ats m a u from k g.time (omega arith) h.are_ends.rise (omega arith) ends_in at le x g.ends_left;
        joins_left = left_hopped 0 join_ats n b u from k g.time (omega arith) h.are_joins.rise (omega arith) joins_in at le y g.joins_left;
        says = says;
        found = elim (cases_lt k g.time) [
          | inl z ↦ found_down es ps k g.time z s.ahead.items s.behind.items none g.found
          | inr z ↦ (let e : g.time ≡ k = omega arith in subst (λ t. AreFound es ps t s.ahead.items s.behind.items) e g.found)
        ];
        no_ends = λ v t z. g.no_ends v t (omega arith);
        no_joins = λ v t on z. g.no_joins v t on (omega arith);
      }

  -- over a child that it skips
  pub stage_skipped : (m n a b u : ℕ) (s : WayBack) → m ≤ length ends → n ≤ length joins → Stage es ps from end ends joins m n s → s.onward ≡ Skip u → IsHop end_ats m u a → IsHop join_ats n u b
      → Stage es ps from end ends joins a b s
  stage_skipped m n a b u s lm ln g is x y =
      let k = behind from u in
      let says : Skipping es ps g.time u = subst (λ w. Says es ps g.time w) is g.says in
      let lower = says.lower in
      let upper = says.upper in
      let start = g.above in
      let le : k.0 ≤ g.time = elim k.1.one [ inl z ↦ omega arith | inr z ↦ omega arith ] in
      let low = k.1.spawn in
      let here : Skipping es ps k.0 u = record { spawned = says.spawned; out = says.out; lower = omega arith; upper = omega arith; before = says.before } in
      stage_hopped m n a b u k.0 s lm ln g k.1 le x y (subst (λ w. Says es ps k.0 w) (sym is) here)
      (λ v t on c d. says.out (passes_within es wf bd ps p u (join es v) (spawns_opens (event_at es u) says.spawned) (omega arith) (omega arith) (passes_join es wf bd ps p v t on)))

  -- over a child that has just returned, where it seeks another
  pub stage_passed_by : (m n a b w : ℕ) (e : End) (s : WayBack) → m ≤ length ends → n ≤ length joins → (g : Stage es ps from end ends joins m n s) → g.time ≡ 2 * e.at + 1 → IsEnd es e → s.onward ≡ Seek w
      → (w ≡ e.spawn → ⊥) → IsHop end_ats m e.spawn a → IsHop join_ats n e.spawn b → Stage es ps from end ends joins a b s
  stage_passed_by m n a b w e s lm ln g time end_is is other x y =
      let u = e.spawn in
      let k = behind from u in
      let says : Seeking es ps g.time w = subst (λ o. Says es ps g.time o) is g.says in
      let lower = says.lower in
      let upper = says.upper in
      let start = g.above in
      let at = end_is.1 in
      let ou = spawns_opens (event_at es u) end_is.0 in
      let ow = spawns_opens (event_at es w) says.spawned in
      let after : u < partner es u = (closed es wf u ou).after in
      let le : k.0 ≤ g.time = elim k.1.one [ inl z ↦ omega arith | inr z ↦ omega arith ] in
      let low = k.1.spawn in
      let early : partner es w < u = elim (cases_lt (partner es w) u) [
        | inl z ↦ z
        | inr z ↦
            let ne : partner es w ≡ u → ⊥ = λ q. not_both es wf bd ps p u w end_is.0 says.spawned q in
            elim (cases_lt w u) [
              | inl v ↦ absurd (let q = nested es wf w u ow ou v (omega arith) in omega (arith, ne))
              | inr v ↦
                  let ne2 : u ≡ w → ⊥ = λ q. other (sym q) in
                  let q = join_inside es wf bd ps p u w end_is.0 says.spawned (omega (arith, ne2)) (let r = (closed es wf w ow).after in omega arith) in
                  absurd (omega arith)
            ]
      ] in
      let here : Seeking es ps k.0 w = record { spawned = says.spawned; entered = says.entered; lower = omega arith; upper = omega arith } in
      stage_hopped m n a b u k.0 s lm ln g k.1 le x y (subst (λ o. Says es ps k.0 o) (sym is) here)
      (λ v t on c d. let q = passes_after es wf bd ps p w (join es v) says.spawned says.entered (omega arith) (passes_join es wf bd ps p v t on) in absurd (omega arith))

-- ---- the steps, for every run that has these choices

abbrev ats : List End → List ℕ
ats ends = map (λ (e : End). e.at) ends

abbrev joins_at : List Choice → List ℕ
joins_at joins = map (λ (j : Choice). j.at) joins

-- where it begins, maybe in a child that it skips
pub settles_begun : (ends : List End) (joins : List Choice) (left : Left) (s : WayBack) (pace : Pace)
    → AreBefore (ats ends) (joins_at joins) (record { ends = length ends; joins = length joins }) (hop_to pace (child_skipped s.onward)) left → Settles ends joins left.ends left.joins s s
settles_begun ends joins left s pace x es bd ps from end wf p h c =
    let first = settles_first ends joins s es bd ps from end wf p h c in
    by pace s.onward refl x first
  where
    same : left ≡ record { ends = length ends; joins = length joins } → Stage es ps from end ends joins (length ends) (length joins) s → Stage es ps from end ends joins left.ends left.joins s
    same e g = subst (λ (l : Left). Stage es ps from end ends joins l.ends l.joins s) (sym e) g

    by : (q : Pace) (w : Onward) → s.onward ≡ w → AreBefore (ats ends) (joins_at joins) (record { ends = length ends; joins = length joins }) (hop_to q (child_skipped w)) left
        → Stage es ps from end ends joins (length ends) (length joins) s → Stage es ps from end ends joins left.ends left.joins s
    by Each w e y g = same y g
    by Hops Live e y g = same y g
    by Hops (Seek u) e y g = same y g
    by Hops (Skip u) e y g = stage_skipped es bd ps wf p from end ends joins h (length ends) (length joins) left.ends left.joins u s (omega arith) (omega arith) g e y.0 y.1

-- where an end is taken, and maybe it goes beside a child then
pub settles_returned : (ends : List End) (joins : List Choice) (m n : ℕ) (left : Left) (old s : WayBack) (e : End) (pace : Pace) → m ≤ length ends → n ≤ length joins
    → later (last (take m ends)) (last (take n joins)) ≡ Some (note.End e)
    → AreBefore (ats ends) (joins_at joins) (record { ends = m - 1; joins = n }) (hop_to pace (child_beside e (ended e s.onward))) left
    → Settles ends joins m n old s → Settles ends joins left.ends left.joins old (record s { onward = ended e s.onward })
settles_returned ends joins m n left old s e pace lm ln q x g es bd ps from end wf p h c =
    let l = later_end (last (take m ends)) (last (take n joins)) e q in
    let t = last_taken ends m e lm l.0 in
    let end_is = (h.are_ends.are e).0 (contains_at ends (m - 1) e t.1) in
    let stage = stage_ended es bd ps wf p from end ends joins h m n s e lm ln t.0 t.1
    (λ z. let j = last_there joins n (λ (j : Choice). j.at) ln z in let y = l.1 j.0 j.1 in omega (arith, j.2))
    (g es bd ps from end wf p h c) in
    go pace (ended e s.onward) refl x stage.0 stage.1 end_is.0
  where
    new : WayBack
    new = record s { onward = ended e s.onward }

    -- it does not seek the child that has returned
    other : (v : Onward) (d : ℕ) → ended e v ≡ Seek d → d ≡ e.spawn → ⊥
    other Live d i r = cc
    other (Skip f) d i r = skip (nat_le e.at f) i
      where
        skip : (t : Bool) → cond t (Skip e.spawn) (Skip f) ≡ Seek d → ⊥
        skip true z = cc
        skip false z = cc
    other (Seek f) d i r = seek (nat_eq f e.spawn) refl i
      where
        seek : (t : Bool) → nat_eq f e.spawn ≡ t → cond t Live (Seek f) ≡ Seek d → ⊥
        seek true a z = cc
        seek false a z = (let same : f ≡ d = cc in both_ways (nat_eq f e.spawn) a (eq-eqb f e.spawn (same ∙ r)))

    go : (q : Pace) (v : Onward) → ended e s.onward ≡ v → AreBefore (ats ends) (joins_at joins) (record { ends = m - 1; joins = n }) (hop_to q (child_beside e v)) left
        → (stage : Stage es ps from end ends joins (m - 1) n new) → stage.time ≡ 2 * e.at + 1 → IsEnd es e → Stage es ps from end ends joins left.ends left.joins new
    go Each v i y stage time end_is = subst (λ (l : Left). Stage es ps from end ends joins l.ends l.joins new) (sym y) stage
    go Hops Live i y stage time end_is = subst (λ (l : Left). Stage es ps from end ends joins l.ends l.joins new) (sym y) stage
    go Hops (Skip d) i y stage time end_is = stage_skipped es bd ps wf p from end ends joins h (m - 1) n left.ends left.joins d new (omega arith) ln stage i y.0 y.1
    go Hops (Seek d) i y stage time end_is =
        stage_passed_by es bd ps wf p from end ends joins h (m - 1) n left.ends left.joins d e new (omega arith) ln stage time end_is i (λ r. other s.onward d i r) y.0 y.1

-- no more are left than there were
pub before_most : (ends joins : List ℕ) (old new : Left) (o : Option ℕ) → AreBefore ends joins old o new → (new.ends ≤ old.ends) × (new.joins ≤ old.joins)
before_most ends joins old new None x =
    let a = ap (λ (l : Left). l.ends) x in
    let b = ap (λ (l : Left). l.joins) x in
    (omega arith, omega arith)
before_most ends joins old new (Some u) x = let a = x.0.most in let b = x.1.most in (a, b)
