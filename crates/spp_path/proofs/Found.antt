-- What the way back has found, when a choice is taken and when all were.
use Rattle.std.proofs.Common.{◌≡◌, ℕ, zero, suc, ◌+◌, ◌-◌, ◌*◌, ◌≤◌, ◌<◌, true, refl, arith, sym, ◌∙◌, ap, subst, ◌⊎◌, inl, inr, List, [], ◌∷◌, ◌++◌, length, reverse, take, get_or, Some}
use Rattle.std.specs.Prelude.{Contains}
use Rattle.std.proofs.lemmas.Bool.{cases_lt}
use Rattle.std.proofs.lemmas.List.{append_assoc, reverse-append, reverse-reverse, take_more, take_all}
use Rattle.std.proofs.lemmas.List.Elements.{Contains-append_left, Contains-append_right, Contains-append_cases, Contains-push}
use Rattle.std.proofs.lemmas.Option.{slice_get_within, slice_get-get_or, get_or_from_slice_get}
use Rattle.spp_event.specs.declared.records.Event.{Event}
use Rattle.spp_maxplus.specs.declared.state.Burdens.{Burdens}
use Rattle.spp_dag.specs.Trace.{event_at, spawns, IsWellFormed, partner, owner, join}
use Rattle.spp_dag.specs.Dag.{On, IsPath}
use Rattle.spp_dag.specs.ChoiceLists.{AreRising}
use Rattle.spp_dag.proofs.Depth.{closed, inside_opens}
use Rattle.spp_dag.proofs.Upper.{spawns_opens}
use Rattle.spp_dag.proofs.Crossing.{nested, within_owner, owned, join_spec, join_within}
use Rattle.spp_dag.proofs.Ties.{path_unique}
use Rattle.spp_path.specs.declared.settling.WayBack.{WayBack}
use Rattle.spp_path.specs.declared.settling.Onward.TheVariants.{Live}
use Rattle.spp_path.specs.Entered.{AreEnteredIn}
use Rattle.spp_path.specs.Settling.{last, IsEntering, IsLeft, IsLeaving}
use Rattle.spp_path.specs.Ways.{Says, IsFound, AreFound, HasCome}
use Rattle.spp_path.proofs.Passing.{clear, clear_opening, passes_clear, passes_after}
use Rattle.spp_path.proofs.Modes.{says_first}
use Rattle.spp_path.proofs.Rising.{contains_cases, contains_none, contains_reverse, contains_reversed, rising_both, rising_left, rising_right, rising_parts, below_last}

-- the time goes down, and no entered child joins between
pub found_down : (es : List Event) (ps : List ℕ) (k t : ℕ) → k < t → (ahead behind : List ℕ)
    → ((u : ℕ) → spawns (event_at es u) ≡ true → On 0 ps (suc u) → k ≤ 2 * join es u → 2 * join es u < t → ⊥) → AreFound es ps t ahead behind → AreFound es ps k ahead behind
found_down es ps k t l ahead behind none f = record {
  rise = f.rise;
  fall = f.fall;
  parted = f.parted;
  passed = λ u c. let z = f.passed u c in omega arith;
  are = λ s. (
    (λ c. let x = (f.are s).0 c in (x.0, x.1, (let z = x.2 in omega arith))),
    (λ x. (f.are s).1 (
      x.0,
      x.1,
      (elim (cases_lt (2 * join es s) t) [
        | inl z ↦ absurd (none s x.0 x.1 x.2 z)
        | inr z ↦ z
      ]),
    )),
  );
}

-- one more is passed
pub left_more : (at spawn : ℕ) (old s new : WayBack) → IsLeft at old s → s.ahead.items ≡ new.ahead.items ++ spawn ∷ [] → new.behind.items ≡ s.behind.items ++ spawn ∷ [] → at ≤ spawn
    → new.onward ≡ s.onward → IsLeft at old new
left_more at spawn old s new h popped pushed le same = record {
  onward = same ∙ h.onward;
  moved = spawn ∷ h.moved;
  were_ahead = h.were_ahead ∙ ap (λ xs. xs ++ h.moved) popped ∙ append_assoc new.ahead.items (spawn ∷ []) h.moved;
  are_behind = pushed ∙ ap (λ xs. xs ++ spawn ∷ []) h.are_behind ∙ append_assoc old.behind.items (reverse h.moved) (spawn ∷ [])
      ∙ ap (λ xs. old.behind.items ++ xs) (sym (reverse-append (spawn ∷ []) h.moved));
  late = λ u c. elim (contains_cases spawn u h.moved c) [
    | inl e ↦ omega arith
    | inr d ↦ h.late u d
  ];
}

-- a list is what comes before its last, and its last
last_split : (xs : List ℕ) (l : ℕ) → last xs ≡ Some l → xs ≡ take (length xs - 1) xs ++ l ∷ []
last_split [] l e = cc
last_split (x ∷ xs) l e =
    let w = slice_get_within (x ∷ xs) (length (x ∷ xs) - 1) l e in
    let at : get_or (x ∷ xs) (length (x ∷ xs) - 1) l ≡ l = get_or_from_slice_get (x ∷ xs) (length (x ∷ xs) - 1) l l e in
    let more = take_more (x ∷ xs) (length (x ∷ xs) - 1) l w in
    let next : take (length (x ∷ xs) - 1 + 1) (x ∷ xs) ≡ x ∷ xs = ap (λ k. take k (x ∷ xs)) (let z : length (x ∷ xs) - 1 + 1 ≡ length (x ∷ xs) = omega arith in z) ∙ take_all (length (x ∷ xs)) (x ∷ xs) (omega arith) in
    sym next ∙ more ∙ ap (λ k. take (length (x ∷ xs) - 1) (x ∷ xs) ++ k ∷ []) at

pub left_next : (at spawn : ℕ) (old s new : WayBack) → IsLeft at old s → last s.ahead.items ≡ Some spawn → new.ahead.items ≡ take (length s.ahead.items - 1) s.ahead.items
    → new.behind.items ≡ s.behind.items ++ spawn ∷ [] → at ≤ spawn → new.onward ≡ s.onward → IsLeft at old new
left_next at spawn old s new h e popped pushed le same =
    left_more at spawn old s new h (last_split s.ahead.items spawn e ∙ ap (λ xs. xs ++ spawn ∷ []) (sym popped)) pushed le same

-- the last of a list that isn't empty
last_of : (xs : List ℕ) → (xs ≡ []) ⊎ ((l : ℕ) × (last xs ≡ Some l))
last_of [] = inl refl
last_of (x ∷ xs) = inr (_, slice_get-get_or (x ∷ xs) (length (x ∷ xs) - 1) x (omega arith))

module _ (es : List Event) (wf : IsWellFormed es) (bd : Burdens) (ps : List ℕ) (p : IsPath es bd 0 (length es) ps) where
  -- a child spawned within another joins within it
  pub join_inside : (s u : ℕ) → spawns (event_at es s) ≡ true → spawns (event_at es u) ≡ true → s < u → u ≤ partner es s → join es u ≤ partner es s
  join_inside s u t v a b =
      let os = spawns_opens (event_at es s) t in
      let ou = spawns_opens (event_at es u) v in
      let w = within_owner es wf s u os a b in
      by (owner es u) refl w
    where
      by : (f : ℕ) → owner es u ≡ f → s < f → join es u ≤ partner es s
      by zero e l = absurd (omega arith)
      by (suc o) e l =
          let os = spawns_opens (event_at es s) t in
          let ou = spawns_opens (event_at es u) v in
          let n = inside_opens es u ou in
          let w = owned es wf u o (omega arith) e in
          let j = join_within es wf u o ou e in
          let after : o < u = w.after in
          elim (cases_lt s o) [
            | inl x ↦ (let z = nested es wf s o os w.opened x (omega arith) in omega arith)
            | inr x ↦ (let q : o ≡ s = omega arith in let z : partner es o ≡ partner es s = ap (λ k. partner es k) q in omega arith)
          ]

  -- the path passes the spawn of a child that it enters
  passes_spawn : (u : ℕ) → spawns (event_at es u) ≡ true → On 0 ps (suc u) → On 0 ps u
  passes_spawn u t on =
      let o = spawns_opens (event_at es u) t in
      let c = closed es wf u o in
      let after : u < partner es u = c.after in
      let n = inside_opens es u o in
      passes_clear es wf bd ps p u (omega arith) (clear_opening es wf bd ps p u (suc u) o (omega arith) (omega arith) (clear es wf bd ps p (suc u) on))

  -- an entered child that joins after another, and is spawned after it, is spawned at the other's join or after it
  apart : (s u : ℕ) → spawns (event_at es s) ≡ true → spawns (event_at es u) ≡ true → On 0 ps (suc s) → On 0 ps (suc u) → s < u → join es s < join es u → join es s ≤ u
  apart s u t v a b l m = elim (cases_lt (partner es s) u) [
    | inl x ↦ passes_after es wf bd ps p s u t a x (passes_spawn u v b)
    | inr x ↦
        let j = join_inside s u t v l (omega arith) in
        let k : suc (partner es s) ≤ join es s = (join_spec es wf s (spawns_opens (event_at es s) t)).lower in
        absurd (omega arith)
  ]

  -- the child of a join is found
  pub found_more : (k t spawn : ℕ) (old new : WayBack) → k < t → spawns (event_at es spawn) ≡ true → On 0 ps (suc spawn) → 2 * join es spawn ≡ k
      → ((u : ℕ) → spawns (event_at es u) ≡ true → On 0 ps (suc u) → k ≤ 2 * join es u → 2 * join es u < t → u ≡ spawn)
      → IsEntering spawn old new → AreFound es ps t old.ahead.items old.behind.items → AreFound es ps k new.ahead.items new.behind.items
  found_more k t spawn old new l spawned on at only e f =
      let mid = e.before in
      let lv = e.leaves.left in
      let mv = lv.moved in
      let ahead : new.ahead.items ≡ mid.ahead.items ++ spawn ∷ [] = e.ahead in
      let behind : new.behind.items ≡ old.behind.items ++ reverse mv = e.behind ∙ lv.are_behind in
      let back : reverse (old.behind.items ++ reverse mv) ≡ mv ++ reverse old.behind.items = reverse-append old.behind.items (reverse mv) ∙ ap (λ xs. xs ++ reverse old.behind.items) (reverse-reverse mv) in
      let were : AreRising (mid.ahead.items ++ mv) = subst AreRising lv.were_ahead f.rise in
      let in_ahead = λ (s : ℕ) (c : Contains (mid.ahead.items ++ mv) s). (let z : Contains old.ahead.items s = subst (λ xs. Contains xs s) (sym lv.were_ahead) c in z) in
      let after : spawn < join es spawn = (let c = (closed es wf spawn (spawns_opens (event_at es spawn) spawned)).after in let j = (join_spec es wf spawn (spawns_opens (event_at es spawn) spawned)).lower in omega arith) in
      -- what was ahead and is not below the new one lies behind its join
      let late = λ (u : ℕ) (c : Contains mv u). (
      let is = (f.are u).0 (inl (in_ahead u (Contains-append_right mid.ahead.items mv u c))) in
      let m = lv.late u c in
      let j = is.2 in
      let z : join es spawn ≤ u = elim (cases_lt spawn u) [
        | inl x ↦ apart spawn u spawned is.0 on is.1 x (omega arith)
        | inr x ↦ (let q : u ≡ spawn = omega arith in let w : join es u ≡ join es spawn = ap (λ n. join es n) q in absurd (omega arith))
      ] in z) in
      let low = λ (s : ℕ) (c : Contains mid.ahead.items s). (
      let z : s < spawn = elim (last_of mid.ahead.items) [
        | inl n ↦ absurd (contains_none s (subst (λ xs. Contains xs s) n c))
        | inr m ↦ (let x = below_last mid.ahead.items m.0 (rising_left mid.ahead.items mv were) m.1 s c in let y = e.leaves.early m.0 m.1 in omega arith)
      ] in z) in
      let parted = λ (s u : ℕ) (c : Contains (mid.ahead.items ++ spawn ∷ []) s) (d : Contains (old.behind.items ++ reverse mv) u). (
      let z : s < u = elim (Contains-append_cases mid.ahead.items (spawn ∷ []) s c) [
        | inl x ↦ elim (Contains-append_cases old.behind.items (reverse mv) u d) [
          | inl y ↦ f.parted s u (in_ahead s (Contains-append_left mid.ahead.items mv s x)) y
          | inr y ↦ rising_parts mid.ahead.items mv were s u x (contains_reversed mv u y)
        ]
        | inr x ↦
            let q : spawn ≡ s = only_one spawn s x in
            elim (Contains-append_cases old.behind.items (reverse mv) u d) [
              | inl y ↦ (let w = f.passed u y in omega arith)
              | inr y ↦ (let w = late u (contains_reversed mv u y) in omega arith)
            ]
      ] in z) in
      record {
        rise = subst AreRising (sym ahead) (rising_both mid.ahead.items (spawn ∷ []) (rising_left mid.ahead.items mv were) tt (λ x y c d. let z = low x c in let q : spawn ≡ y = only_one spawn y d in omega arith));
        fall = subst (λ xs. AreRising (reverse xs)) (sym behind)
            (subst AreRising (sym back) (rising_both mv (reverse old.behind.items) (rising_right mid.ahead.items mv were) f.fall
            (λ x y c d. f.parted x y (in_ahead x (Contains-append_right mid.ahead.items mv x c)) (contains_reversed old.behind.items y d))));
        parted = λ s u c d. parted s u (subst (λ xs. Contains xs s) ahead c) (subst (λ xs. Contains xs u) behind d);
        passed = λ u c. elim (Contains-append_cases old.behind.items (reverse mv) u (subst (λ xs. Contains xs u) behind c)) [
          | inl y ↦ (let w = f.passed u y in omega arith)
          | inr y ↦ (let w = late u (contains_reversed mv u y) in omega arith)
        ];
        are = λ s. (
          (λ c. elim c [
            | inl x ↦ elim (Contains-append_cases mid.ahead.items (spawn ∷ []) s (subst (λ xs. Contains xs s) ahead x)) [
              | inl y ↦ (let z = (f.are s).0 (inl (in_ahead s (Contains-append_left mid.ahead.items mv s y))) in (z.0, z.1, (let w = z.2 in omega arith)))
              | inr y ↦ subst (λ u. IsFound es ps k u) (only_one spawn s y) (spawned, on, (let w : k ≤ 2 * join es spawn = omega arith in w))
            ]
            | inr x ↦ elim (Contains-append_cases old.behind.items (reverse mv) s (subst (λ xs. Contains xs s) behind x)) [
              | inl y ↦ (let z = (f.are s).0 (inr y) in (z.0, z.1, (let w = z.2 in omega arith)))
              | inr y ↦ (let z = (f.are s).0 (inl (in_ahead s (Contains-append_right mid.ahead.items mv s (contains_reversed mv s y)))) in (z.0, z.1, (let w = z.2 in omega arith)))
            ]
          ]),
          (λ x. elim (cases_lt (2 * join es s) t) [
            | inl z ↦ inl (subst (λ xs. Contains xs s) (sym ahead) (subst (λ u. Contains (mid.ahead.items ++ spawn ∷ []) u) (sym (only s x.0 x.1 x.2 z)) (Contains-push mid.ahead.items spawn)))
            | inr z ↦ elim ((f.are s).1 (x.0, x.1, z)) [
              | inl y ↦ elim (Contains-append_cases mid.ahead.items mv s (subst (λ xs. Contains xs s) lv.were_ahead y)) [
                | inl c ↦ inl (subst (λ xs. Contains xs s) (sym ahead) (Contains-append_left mid.ahead.items (spawn ∷ []) s c))
                | inr c ↦ inr (subst (λ xs. Contains xs s) (sym behind) (Contains-append_right old.behind.items (reverse mv) s (contains_reverse mv s c)))
              ]
              | inr y ↦ inr (subst (λ xs. Contains xs s) (sym behind) (Contains-append_left old.behind.items (reverse mv) s y))
            ]
          ]),
        );
      }
    where
      only_one : (x y : ℕ) → Contains (x ∷ []) y → x ≡ y
      only_one x y (zero, l, e) = e
      only_one x y (suc k, l, e) = absurd (let z : suc k < length (x ∷ []) = l in omega arith)

  -- at the beginning of the run, where those ahead were passed too, all that is entered was found
  pub all_found : (old new : WayBack) → HasCome es ps 0 old → IsLeaving 0 old new → AreEnteredIn es bd 0 (length es) (reverse new.behind.items)
  all_found old new c lv_all =
      let lv = lv_all.left in
      let f = c.found in
      let gone : new.ahead.items ≡ [] = elim (last_of new.ahead.items) [
        | inl n ↦ n
        | inr m ↦ (let z = lv_all.early m.0 m.1 in absurd (omega arith))
      ] in
      let moved : old.ahead.items ≡ lv.moved = lv.were_ahead ∙ ap (λ xs. xs ++ lv.moved) gone in
      let back : reverse new.behind.items ≡ old.ahead.items ++ reverse old.behind.items =
      ap (λ xs. reverse xs) lv.are_behind ∙ reverse-append old.behind.items (reverse lv.moved) ∙ ap (λ xs. xs ++ reverse old.behind.items) (reverse-reverse lv.moved ∙ sym moved) in
      subst (λ xs. AreEnteredIn es bd 0 (length es) xs) (sym back) (record {
        rise = rising_both old.ahead.items (reverse old.behind.items) f.rise f.fall (λ x y a b. f.parted x y a (contains_reversed old.behind.items y b));
        are = λ s. (
          (λ h.
              let is = (f.are s).0 (elim (Contains-append_cases old.ahead.items (reverse old.behind.items) s h) [ inl a ↦ inl a | inr a ↦ inr (contains_reversed old.behind.items s a) ]) in
              let o = spawns_opens (event_at es s) is.0 in (
                (is.0, λ qs q. subst (λ r. On 0 r (suc s)) (path_unique es bd 0 (length es) ps qs p q) is.1),
                ((let z : 0 ≤ s = omega arith in z), inside_opens es s o),
              )),
          (λ h.
              let on = h.0.1 ps p in
              elim ((f.are s).1 (h.0.0, on, (elim (cases_lt (2 * join es s) c.time) [ inl z ↦ absurd (let w = c.no_joins s h.0.0 on z in omega arith) | inr z ↦ z ]))) [
                | inl a ↦ Contains-append_left old.ahead.items (reverse old.behind.items) s a
                | inr a ↦ Contains-append_right old.ahead.items (reverse old.behind.items) s (contains_reverse old.behind.items s a)
              ]),
        );
      })

  -- nothing was taken yet
  pub come_first : (s : WayBack) → s.onward ≡ Live → s.ahead.items ≡ [] → s.behind.items ≡ [] → HasCome es ps (suc (length es)) s
  come_first s on ahead behind = record {
    time = 2 * suc (length es);
    after = (let z : 2 * suc (length es) ≤ 2 * suc (length es) = omega arith in z);
    says = subst (λ w. Says es ps (2 * suc (length es)) w) (sym on) (says_first es wf bd ps p);
    found = record {
      rise = subst AreRising (sym ahead) tt;
      fall = subst (λ xs. AreRising (reverse xs)) (sym behind) tt;
      parted = λ u v c d. absurd (contains_none u (subst (λ xs. Contains xs u) ahead c));
      passed = λ u c. absurd (contains_none u (subst (λ xs. Contains xs u) behind c));
      are = λ u. (
        (λ c. elim c [
          | inl x ↦ absurd (contains_none u (subst (λ xs. Contains xs u) ahead x))
          | inr x ↦ absurd (contains_none u (subst (λ xs. Contains xs u) behind x))
        ]),
        (λ x. absurd (let z = (join_spec es wf u (spawns_opens (event_at es u) x.0)).upper in let y = x.2 in omega arith)),
      );
    };
    no_ends = λ u t x. omega arith;
    no_joins = λ u t on x. omega arith;
  }
