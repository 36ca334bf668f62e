-- How large weights can get.
use Rattle.std.proofs.Common.{◌≡◌, ℕ, zero, suc, pred, ◌+◌, ◌-◌, ◌*◌, ◌≤◌, ◌<◌, Bool, true, false, cond, ◌&&◌, refl, arith, sym, ap, subst, inl, inr, List, [], ◌∷◌, length, map, Option, Some, None, nat_le, nat_lt, nat_eq}
use Rattle.std.proofs.lemmas.Bool.{cases_lt, cases_Bool, and_parts, leb-true, lt-leb, le-leb, cond-true, cond-false, false_from_ne_true, eqb-true}
use Rattle.std.proofs.Math.Nat.{mul-le-mul_left, mul-le-mul_right}
use Rattle.std.proofs.lemmas.Option.{slice_get_past}
use Rattle.spp_event.specs.declared.records.Event.{Event}
use Rattle.spp_event.specs.declared.records.Event.TheVariants.{Strand, Call, Spawn, Ret, Sync}
use Rattle.spp_maxplus.specs.declared.state.Burdens.{Burdens}
use Rattle.spp_maxplus.specs.Candidate.{greatest, better}
use Rattle.spp_maxplus.specs.State.{unburdened, close}
use Rattle.spp_dag.specs.declared.stack.OpenFrame.{OpenFrame}
use Rattle.spp_dag.specs.Ranges.{sum_where, within, least_of}
use Rattle.spp_dag.specs.Trace.{event_at, weight, weight_of, returns, syncs, depth, partner, owner, join, closing, is_frame, is_spawned}
use Rattle.spp_dag.specs.Dag.{EdgeOf, EdgeBack, ReturnEdge, Walk}
use Rattle.spp_dag.specs.Rows.{AreSpans, work, is_of, is_top_site, is_top_caller}
use Rattle.spp_dag.specs.Shares.{share}
use Rattle.spp_dag.specs.Limits.{IsSmall, AreSmall, IsSmallRow, plain_sum, burdened_sum, WorkFits, WalkFits, StackFits, RowsFit}
use Rattle.spp_dag.proofs.Ranges.{greatest_to_spec}
use Rattle.spp_dag.proofs.Machine.{Frame, on_return, step, stack}
use Rattle.spp_dag.proofs.Upper.{child_weight, spine_le_close, child_le_close, returned_called, returned_spawned}
use Rattle.spp_dag.proofs.Runs.{plain_frame, burdened_frame}
use Rattle.spp_dag.proofs.Stacks.{same_stack}
use Rattle.spp_dag.proofs.Sums.{sum-none, sum-one}
use Rattle.spp_dag.proofs.Shares.{closing_le, share_all}
use Rattle.spp_dag.proofs.Profiles.{row_frame, root_work}

-- ---- sums

-- the sum of f over the numbers below n
abbrev pub sum_below : (ℕ → ℕ) → ℕ → ℕ
sum_below f zero = 0
sum_below f (suc n) = sum_below f n + f n

sum_below_same : (f : ℕ → ℕ) (m n : ℕ) → ((k : ℕ) → f k ≤ m) → sum_below f n ≤ n * m
sum_below_same f m zero h = omega arith
sum_below_same f m (suc n) h =
    let a = sum_below_same f m n h in
    let b = h n in
    let e : suc n * m ≡ n * m + m = grind arith in
    omega arith

-- a sum from f on, with what stands before it
sum_from : (w : ℕ → ℕ) (f n : ℕ) → f ≤ n → sum_where (λ k. nat_le f k) w n + sum_below w f ≡ sum_below w n
sum_from w f zero l =
    let z : 0 ≡ f = omega arith in
    let e : sum_below w f ≡ 0 = subst (λ k. sum_below w k ≡ 0) z refl in
    omega arith
sum_from w f (suc n) l =
    elim (cases_lt n f) [
      | inl a ↦
          let e : f ≡ suc n = omega arith in
          let none : sum_where (λ k. nat_le f k) w (suc n) ≡ 0 = sum-none (λ k. nat_le f k) w (suc n) (λ k b. lt-leb f k (omega arith)) in
          let same = ap (sum_below w) e in
          omega arith
      | inr a ↦
          let before = sum_from w f n a in
          let here : cond (nat_le f n) (w n) 0 ≡ w n = cond-true (nat_le f n) _ _ (le-leb f n a) in
          omega arith
    ]

false_where : (b : Bool) → (b ≡ true → ⊥) → b ≡ false
false_where b h = false_from_ne_true b h

-- a sum over some is at most the sum over all
places_le : (p : ℕ → Bool) (f : ℕ → ℕ) (n : ℕ) → sum_where p f n ≤ sum_below f n
places_le p f zero = omega arith
places_le p f (suc n) = let a = places_le p f n in let b = at (p n) in omega arith
  where
    at : (b : Bool) → cond b (f n) 0 ≤ f n
    at true = omega arith
    at false = omega arith

least_of_le : (p : ℕ → Bool) (k n : ℕ) → k ≤ least_of p k n
least_of_le p k zero = omega arith
least_of_le p k (suc n) = go (let z = least_of_le p (suc k) n in omega arith) (p k)
  where
    go : k ≤ least_of p (suc k) n → (b : Bool) → k ≤ elim b [ true ↦ k | false ↦ least_of p (suc k) n ]
    go rest true = omega arith
    go rest false = rest

sum_below_le : (w : ℕ → ℕ) (a n : ℕ) → sum_below w a ≤ sum_below w (a + n)
sum_below_le w a zero = let z : a ≡ a + 0 = omega arith in subst (λ k. sum_below w a ≤ sum_below w k) z (let y : sum_below w a ≤ sum_below w a = omega arith in y)
sum_below_le w a (suc n) =
    let z : suc (a + n) ≡ a + suc n = omega arith in
    let h = sum_below_le w a n in
    subst (λ k. sum_below w a ≤ sum_below w k) z (let y : sum_below w a ≤ sum_below w (a + n) + w (a + n) = omega arith in y)

sum_below_mono : (w : ℕ → ℕ) (a b : ℕ) → a ≤ b → sum_below w a ≤ sum_below w b
sum_below_mono w a b l = subst (λ k. sum_below w a ≤ sum_below w k) (let z : a + (b - a) ≡ b = omega arith in z) (sum_below_le w a (b - a))

module _ (es : List Event) (burdens : Burdens) where
  pub partner_after : (o : ℕ) → suc o ≤ partner es o
  partner_after o = least_of_le (λ j. returns (event_at es j) && nat_eq (depth es (suc j)) (depth es o)) (suc o) (length es - suc o)

  join_after : (s : ℕ) → suc (partner es s) ≤ join es s
  join_after s = least_of_le (λ k. syncs (event_at es k) && nat_eq (owner es k) (owner es s)) (suc (partner es s)) (length es - suc (partner es s))

  owned_before : (u o : ℕ) → owner es u ≡ suc o → u ≤ partner es o
  owned_before u o e =
      let g = greatest_to_spec (λ f. is_frame es f && nat_le u (closing es f)) u in
      let a = g.passes (omega (arith, e)) in
      let b = subst (λ f. (is_frame es f && nat_le u (closing es f)) ≡ true) e a in
      leb-true u (partner es o) (and_parts _ _ b).1

  -- an edge leads on, and bears no more than both burdens
  abbrev pub Forward : ℕ → ℕ → ℕ → Type 0
  Forward u v c = (u < v) × (c ≤ burdens.continuation + burdens.join)

  back_forward : (b : Bool) (o u v c : ℕ) → u ≤ partner es o → EdgeBack es burdens b o u v c → Forward u v c
  back_forward true o u v c l e = let j = join_after o in (omega (arith, e.0), (let z = e.1 in omega arith))
  back_forward false o u v c l e = (omega (arith, e.0), (let z = e.1 in omega arith))

  return_forward : (f u v c : ℕ) → owner es u ≡ f → ReturnEdge es burdens f u v c → Forward u v c
  return_forward zero u v c q e = absurd e
  return_forward (suc o) u v c q e = back_forward (is_spawned es (suc o)) o u v c (owned_before u o q) e

  pub edge_forward : (e : Option Event) (u v c : ℕ) → EdgeOf es burdens e u v c → Forward u v c
  edge_forward None u v c h = absurd h
  edge_forward (Some (Strand n)) u v c h = (omega (arith, h.0), (let z = h.1 in omega arith))
  edge_forward (Some (Call s f)) u v c h = (omega (arith, h.0), (let z = h.1 in omega arith))
  edge_forward (Some (Spawn s f)) u v c (inl h) = (omega (arith, h.0), (let z = h.1 in omega arith))
  edge_forward (Some (Spawn s f)) u v c (inr h) = let p = partner_after u in (omega (arith, h.0), (let z = h.1 in omega arith))
  edge_forward (Some Ret) u v c h = return_forward (owner es u) u v c refl h
  edge_forward (Some Sync) u v c h = (omega (arith, h.0), (let z = h.1 in omega arith))

  -- what a position and its edges can add to a walk
  abbrev most_at : ℕ → ℕ
  most_at k = weight es k + (burdens.continuation + burdens.join)

  -- no walk weighs more than what it spans
  walk_le : (rest : List ℕ) (x y w : ℕ) → Walk es burdens x rest y w → w + sum_below most_at x ≤ sum_below most_at (suc y)
  walk_le [] x y w t =
      let e : sum_below most_at (suc x) ≡ sum_below most_at (suc y) = ap (λ k. sum_below most_at (suc k)) t.0 in
      let f = t.1 in
      omega arith
  walk_le (u ∷ rest) x y w t =
      let s = edge_forward (event_at es x) x u t.0 t.2 in
      let h = walk_le rest u y t.1 t.3 in
      let m = sum_below_mono most_at (suc x) u s.0 in
      let e = t.4 in
      let z = s.1 in
      omega arith

module _ (es : List Event) where
  first_before : (f : ℕ) → f ≤ closing es f
  first_before zero = omega arith
  first_before (suc o) = partner_after es unburdened o

  sum_weights : (n : ℕ) → sum_below (most_at es unburdened) n ≡ sum_below (weight es) n
  sum_weights zero = refl
  sum_weights (suc n) = let a = sum_weights n in omega arith

  -- without burdens the span of a frame is at most its work
  span_le : (span : ℕ → ℕ) → AreSpans es span → (f : ℕ) → is_frame es f ≡ true → span f ≤ work es f
  span_le span spans f t =
      let g = (spans f t).0 in
      let h = walk_le es unburdened g.0 f (closing es f) (span f) g.1 in
      let b = first_before f in
      let x = sum_weights f in
      let y = sum_weights (suc (closing es f)) in
      let s = sum_from (weight es) f (suc (closing es f)) (omega arith) in
      omega arith

-- ---- rows

sum_where_le : (p : ℕ → Bool) (f : ℕ → ℕ) (m n : ℕ) → ((k : ℕ) → k < n → p k ≡ true → f k ≤ m) → sum_where p f n ≤ n * m
sum_where_le p f m zero h = omega arith
sum_where_le p f m (suc n) h =
    let before = sum_where_le p f m n (λ k l. h k (omega arith)) in
    let here : cond (p n) (f n) 0 ≤ m = at (p n) (h n (omega arith)) in
    let e : suc n * m ≡ n * m + m = grind arith in
    omega arith
  where
    at : (b : Bool) → (b ≡ true → f n ≤ m) → cond b (f n) 0 ≤ m
    at true v = v refl
    at false v = omega arith

-- the same where the first does not pass
sum_later_le : (p : ℕ → Bool) (f : ℕ → ℕ) (m n : ℕ) → p 0 ≡ false → ((k : ℕ) → k < suc n → p k ≡ true → f k ≤ m) → sum_where p f (suc n) ≤ n * m
sum_later_le p f m zero z h = let a : cond (p 0) (f 0) 0 ≡ 0 = cond-false {A = ℕ} (p 0) (f 0) 0 z in omega arith
sum_later_le p f m (suc n) z h =
    let before = sum_later_le p f m n z (λ k l. h k (omega arith)) in
    let here : cond (p (suc n)) (f (suc n)) 0 ≤ m = at (p (suc n)) (h (suc n) (omega arith)) in
    let e : suc n * m ≡ n * m + m = grind arith in
    omega arith
  where
    at : (b : Bool) → (b ≡ true → f (suc n) ≤ m) → cond b (f (suc n)) 0 ≤ m
    at true v = v refl
    at false v = omega arith

module _ (es : List Event) (small : IsSmall es) where
  -- the weights before any place
  weights_le : (n : ℕ) → n ≤ suc (length es) → sum_below (weight es) n ≤ 4951760157141521099328061440
  weights_le n l = elim (cases_lt (length es) n) [
    | inl a ↦
        let e : n ≡ suc (length es) = omega arith in
        let z : weight es (length es) ≡ 0 = ap weight_of (slice_get_past es (length es) (omega arith)) in
        let s = sum_below_same (weight es) 18446744073709551615 (length es) (λ k. let z = small.strands k in omega arith) in
        let w : sum_below (weight es) n ≡ sum_below (weight es) (suc (length es)) = ap (sum_below (weight es)) e in
        omega (arith, small.events)
    | inr a ↦
        let s = sum_below_same (weight es) 18446744073709551615 n (λ k. let z = small.strands k in omega arith) in
        omega (arith, small.events)
  ]

  work_le : (f : ℕ) → f < suc (length es) → work es f ≤ 4951760157141521099328061440
  work_le f l =
      let c = closing_le es f l in
      let b = first_before es f in
      let s = sum_from (weight es) f (suc (closing es f)) (omega arith) in
      let w = weights_le (suc (closing es f)) c in
      omega arith

  -- a sum over the frames of a row
  frames_le : (key : Option ℕ) (p : ℕ → Bool) (f : ℕ → ℕ) (m : ℕ) → ((k : ℕ) → p k ≡ true → is_of es key k ≡ true) → ((k : ℕ) → k < suc (length es) → p k ≡ true → f k ≤ m) → sum_where p f (suc (length es)) ≤ 268435456 * m
  frames_le None p f m h most =
      let e = sum-one p f (suc (length es)) 0 (omega arith) (λ k l d. false_where (p k) (λ t. d (eqb-true k 0 (h k t)))) in
      let a : cond (p 0) (f 0) 0 ≤ m = at (p 0) (most 0 (omega arith)) in
      omega arith
    where
      at : (b : Bool) → (b ≡ true → f 0 ≤ m) → cond b (f 0) 0 ≤ m
      at true v = v refl
      at false v = omega arith
  frames_le (Some site) p f m h most =
      let a = sum_later_le p f m (length es) (false_where (p 0) (λ t. let z = h 0 t in cc)) most in
      let b : length es * m ≤ 268435456 * m = mul-le-mul_right m small.events in
      omega arith

  share_small : (root : ℕ) (span : ℕ → ℕ) → AreSpans es span → (on : ℕ → Bool) (key : Option ℕ) (from end : ℕ) → IsSmallRow (share es root span on key from end)
  share_small root span spans on key from end =
      let n : ℕ = suc (length es) in
      let one : ℕ → ℕ = λ _. 1 in
      let frames : ℕ → Bool = λ f. (on f && is_of es key f) && within from end (closing es f) in
      let of = λ (f : ℕ) (e : frames f ≡ true). (and_parts (on f) (is_of es key f) (and_parts (on f && is_of es key f) (within from end (closing es f)) e).0).1 in
      let marked = λ (mark : ℕ → Bool) (f : ℕ) (e : (frames f && mark f) ≡ true). of f (and_parts (frames f) (mark f) e).0 in
      let ones = λ (mark : ℕ → Bool). frames_le key (λ f. frames f && mark f) one 1 (marked mark) (λ f l e. let z : 1 ≤ 1 = omega arith in z) in
      let works = λ (mark : ℕ → Bool). frames_le key (λ f. frames f && mark f) (work es) 4951760157141521099328061440 (marked mark) (λ f l e. work_le f l) in
      let spans_ = λ (mark : ℕ → Bool). frames_le key (λ f. frames f && mark f) span 4951760157141521099328061440 (marked mark)
      (λ f l e. let a = span_le es span spans f (row_frame es key f (marked mark f e)) in let b = work_le f l in omega arith) in
      record {
        count = (let a = frames_le key frames one 1 of (λ f l e. let z : 1 ≤ 1 = omega arith in z) in omega arith);
        local = (let a = places_le (λ k. (on k && is_of es key (owner es k)) && within from end k) (weight es) n in let b = weights_le n (omega arith) in omega arith);
        site_count = (let a = ones (is_top_site es) in omega arith);
        site_work = (let a = works (is_top_site es) in omega arith);
        site_span = (let a = spans_ (is_top_site es) in omega arith);
        caller_count = (let a = ones (is_top_caller es root) in omega arith);
        caller_work = (let a = works (is_top_caller es root) in omega arith);
        caller_span = (let a = spans_ (is_top_caller es root) in omega arith);
      }

pub rows_fit : RowsFit
rows_fit es small root span spans on key = (
  subst (λ r. IsSmallRow r) (share_all es root span on key) (share_small es small root span spans on key 0 (suc (length es))),
  λ from end. share_small es small root span spans on key from end,
)

-- ---- walks and work

pub work_fits : WorkFits
work_fits es small = let a = work_le es small 0 (omega arith) in let b = root_work es in omega arith

split_sum : (f : ℕ → ℕ) (c n : ℕ) → sum_below (λ k. f k + c) n ≡ sum_below f n + n * c
split_sum f c zero = omega arith
split_sum f c (suc n) = let a = split_sum f c n in let e : suc n * c ≡ n * c + c = grind arith in omega arith

few_burdens : (burdens : Burdens) → AreSmall burdens → (n : ℕ) → n ≤ 268435457 → n * (burdens.continuation + burdens.join) ≤ 2305843017803628544
few_burdens burdens s n l =
    let a : burdens.continuation + burdens.join ≤ 8589934592 = (let x = s.continuation in let y = s.join in omega arith) in
    let b : n * (burdens.continuation + burdens.join) ≤ n * 8589934592 = mul-le-mul_left n a in
    omega arith

pub walk_fits : WalkFits
walk_fits es small burdens s x y w rest l t =
    let h = walk_le es burdens rest x y w t in
    let a = split_sum (weight es) (burdens.continuation + burdens.join) (suc y) in
    let b = weights_le es small (suc y) (omega arith) in
    let c = few_burdens burdens s (suc y) (omega (arith, small.events)) in
    omega arith

-- ---- the stack

greatest_le : (m s : ℕ) (c : Option (ℕ × ℕ)) → s ≤ m → child_weight c ≤ m → greatest s c ≤ m
greatest_le m s None a b = a
greatest_le m s (Some c) a b = omega arith

better_le : (m : ℕ) (c : Option (ℕ × ℕ)) (new : ℕ × ℕ) → child_weight c ≤ m → new.0 ≤ m → child_weight (better c (Some new)) ≤ m
better_le m None new a b = b
better_le m (Some c) new a b = pick (nat_lt c.0 new.0)
  where
    pick : (x : Bool) → child_weight (cond x (Some new) (Some c)) ≤ m
    pick true = b
    pick false = a

-- the weights that the frames on a stack would close with
abbrev pub closes_of : List Frame → ℕ
closes_of [] = 0
closes_of (f ∷ fs) = close f.state + closes_of fs

module _ (es : List Event) (co re : ℕ) where
  abbrev go : ℕ → ℕ
  go s = co

  abbrev back : ℕ → ℕ
  back s = re

  after_return_le : (f g : Frame) → close (on_return es 1 go back f g).state ≤ (close f.state + close g.state) + (co + re)
  after_return_le f g =
      let a = spine_le_close g.state in
      let b = child_le_close g.state in
      elim (cases_Bool (is_spawned es f.first)) [
        | inl t ↦
            subst (λ s. close s ≤ (close f.state + close g.state) + (co + re)) (sym (returned_spawned es 1 go back f g t))
            (greatest_le ((close f.state + close g.state) + (co + re)) (g.state.spine + co) (better g.state.child (Some (g.state.spine + (close f.state + re), pred f.first))) (omega arith)
            (better_le ((close f.state + close g.state) + (co + re)) g.state.child (g.state.spine + (close f.state + re), pred f.first) (omega arith) (omega arith)))
        | inr t ↦
            subst (λ s. close s ≤ (close f.state + close g.state) + (co + re)) (sym (returned_called es 1 go back f g t))
            (greatest_le ((close f.state + close g.state) + (co + re)) (g.state.spine + close f.state) g.state.child (omega arith) (omega arith))
      ]

  step_le : (p : ℕ) (e : Option Event) (fs : List Frame) → closes_of (step es 1 go back p e fs) ≤ (closes_of fs + weight_of e) + (co + re)
  step_le p None fs = omega arith
  step_le p (Some (Strand n)) [] = omega arith
  step_le p (Some (Strand n)) (f ∷ fs) =
      let a = spine_le_close f.state in
      let b = child_le_close f.state in
      let c = greatest_le (close f.state + n) (f.state.spine + 1 * n) f.state.child (omega arith) (omega arith) in
      omega arith
  step_le p (Some (Call a u)) fs = omega arith
  step_le p (Some (Spawn a u)) fs = omega arith
  step_le p (Some Ret) [] = omega arith
  step_le p (Some Ret) (f ∷ []) = omega arith
  step_le p (Some Ret) (f ∷ g ∷ fs) = let a = after_return_le f g in omega arith
  step_le p (Some Sync) [] = omega arith
  step_le p (Some Sync) (f ∷ fs) = omega arith

  -- all frames together never hold more than the work so far and both burdens for each event
  pub stack_bounded : (p : ℕ) → closes_of (stack es 1 go back p) ≤ sum_below (weight es) p + sum_below (λ i. co + re) p
  stack_bounded zero = omega arith
  stack_bounded (suc p) =
      let a = stack_bounded p in
      let b = step_le p (event_at es p) (stack es 1 go back p) in
      omega arith

plain_is : (fs : List OpenFrame) → closes_of (map plain_frame fs) ≡ plain_sum fs
plain_is [] = refl
plain_is (f ∷ fs) = let a = plain_is fs in omega arith

burdened_is : (fs : List OpenFrame) → closes_of (map burdened_frame fs) ≡ burdened_sum fs
burdened_is [] = refl
burdened_is (f ∷ fs) = let a = burdened_is fs in omega arith

pub stack_fits : StackFits
stack_fits es wf small burdens s k fs l t =
    let h = same_stack es wf burdens k l fs t in
    let a : closes_of (map plain_frame fs) ≡ closes_of (stack es 1 (λ _. 0) (λ _. 0) k) = ap closes_of h.plain in
    let b : closes_of (map burdened_frame fs) ≡ closes_of (stack es 1 (λ _. burdens.continuation) (λ _. burdens.join) k) = ap closes_of h.burdened in
    let c = plain_is fs in
    let d = burdened_is fs in
    let e = stack_bounded es 0 0 k in
    let f = stack_bounded es burdens.continuation burdens.join k in
    let w = weights_le es small k (omega arith) in
    let x = sum_below_same (λ i. 0) 0 k (λ i. let z : 0 ≤ 0 = omega arith in z) in
    let y = sum_below_same (λ i. burdens.continuation + burdens.join) (burdens.continuation + burdens.join) k (λ i. let z : burdens.continuation + burdens.join ≤ burdens.continuation + burdens.join = omega arith in z) in
    let g = few_burdens burdens s k (omega (arith, small.events)) in
    (omega arith, omega arith)
