-- The machine stops at a return of the root, and else its stack is as deep as the trace says.
use Rattle.std.specs.Option.{option_map}
use Rattle.std.proofs.lemmas.List.{length-map}
use Rattle.std.proofs.Common.{zero, true, Option, Ok, ◌≤◌, ◌≡◌, ℕ, suc, ◌+◌, ◌<◌, Bool, false, refl, arith, sym, ◌∙◌, ap, subst, ◌⊎◌, inl, inr, List, [], ◌∷◌, length, Some, None}
use Rattle.std.proofs.lemmas.Bool.{cases_lt, both_ways}
use Rattle.spp_event.specs.declared.records.Event.{Event}
use Rattle.spp_event.specs.declared.records.Event.TheVariants.{Strand, Call, Spawn, Ret, Sync}
use Rattle.spp_dag.proofs.Ranges.{count_below}
use Rattle.spp_event.specs.declared.records.EventFault.{EventFault}
use Rattle.spp_event.specs.Recordings.{Record}
use Rattle.spp_frame.specs.declared.Why.{Why}
use Rattle.spp_frame.specs.declared.Why.TheVariants as why
use Rattle.spp_frame.specs.Nesting.{wrong, wrong_at}
use Rattle.spp_maxplus.specs.declared.state.Burdens.{Burdens}
use Rattle.spp_dag.specs.Trace.{records, event_at, opens, returns, depth}
use Rattle.spp_dag.specs.Laws.{EndsWith, MachineFindsFaults}
use Rattle.spp_dag.specs.declared.stack.OpenFrame.{OpenFrame}
use Rattle.spp_dag.specs.Stack.{advance, run, root_frame}
use Rattle.spp_dag.proofs.Ranges.{count_below-true, count_below-false}
use Rattle.spp_dag.proofs.Depth.{slice_get_no, inside_returns, depth_counts, record_is, is_return}

-- a return stands where only the root is open
abbrev IsBadReturn : List Event → ℕ → Type 0
IsBadReturn es i = (returns (event_at es i) ≡ true) × (depth es i ≡ 0)

module _ (es : List Event) (burdens : Burdens) where
  abbrev O : ℕ → Bool
  O k = opens (event_at es k)

  abbrev R : ℕ → Bool
  R k = returns (event_at es k)

  -- no bad return stands before p, and the stack there is as deep as the trace says
  record Good (p : ℕ) (fs : List OpenFrame) : Type 0 where
    fine : (i : ℕ) → i < p → IsBadReturn es i → ⊥
    level : length fs + count_below R p ≡ suc (count_below O p)
    some : 0 < length fs

  later : (p : ℕ) → ((i : ℕ) → i < p → IsBadReturn es i → ⊥) → (IsBadReturn es p → ⊥) → (i : ℕ) → i < suc p → IsBadReturn es i → ⊥
  later p f g i l b = elim (cases_lt i p) [ inl a ↦ f i a b | inr a ↦ g (subst (λ k. IsBadReturn es k) (let q : i ≡ p = omega arith in q) b) ]

  no_return : (p : ℕ) (e : Event) → event_at es p ≡ Some e → returns (Some e) ≡ false → IsBadReturn es p → ⊥
  no_return p e q n b = both_ways (R p) (ap returns q ∙ n) b.0

  -- one event: the machine goes on well, or stops at a bad return
  advances : (p : ℕ) (e : Event) (fs : List OpenFrame) → event_at es p ≡ Some e → Good p fs
      → ((gs : List OpenFrame) × (advance burdens p e fs ≡ Some gs) × Good (suc p) gs) ⊎ ((advance burdens p e fs ≡ None) × IsBadReturn es p)
  advances p e [] q h = absurd (let z = h.some in omega arith)
  advances p (Strand n) (f ∷ fs) q h =
      let a = count_below-false O p (ap opens q) in
      let b = count_below-false R p (ap returns q) in
      inl (_, refl, record { fine = later p h.fine (no_return p (Strand n) q refl); level = (let z = h.level in omega arith); some = omega arith })
  advances p (Call s u) (f ∷ fs) q h =
      let a = count_below-true O p (ap opens q) in
      let b = count_below-false R p (ap returns q) in
      inl (_, refl, record { fine = later p h.fine (no_return p (Call s u) q refl); level = (let z = h.level in omega arith); some = omega arith })
  advances p (Spawn s u) (f ∷ fs) q h =
      let a = count_below-true O p (ap opens q) in
      let b = count_below-false R p (ap returns q) in
      inl (_, refl, record { fine = later p h.fine (no_return p (Spawn s u) q refl); level = (let z = h.level in omega arith); some = omega arith })
  advances p Sync (f ∷ fs) q h =
      let a = count_below-false O p (ap opens q) in
      let b = count_below-false R p (ap returns q) in
      inl (_, refl, record { fine = later p h.fine (no_return p Sync q refl); level = (let z = h.level in omega arith); some = omega arith })
  advances p Ret (f ∷ []) q h = inr (refl, (ap returns q, (let z = h.level in let d = depth_counts es p in omega arith)))
  advances p Ret (f ∷ g ∷ fs) q h =
      let a = count_below-false O p (ap opens q) in
      let b = count_below-true R p (ap returns q) in
      inl (
        _,
        refl,
        record {
          fine = later p h.fine (λ b. let z = h.level in let d = depth_counts es p in let y : depth es p ≡ 0 = b.1 in omega arith);
          level = (let z = h.level in omega arith);
          some = omega arith;
        },
      )

  -- a whole run, from p on
  runs_well : (p : ℕ) (part : List Event) (fs : List OpenFrame) → ((k : ℕ) → k < length part → event_at part k ≡ event_at es (p + k)) → Good p fs
      → ((gs : List OpenFrame) × (run burdens p part fs ≡ Some gs) × Good (p + length part) gs)
      ⊎ ((run burdens p part fs ≡ None) × ((i : ℕ) × IsBadReturn es i × ((j : ℕ) → j < i → IsBadReturn es j → ⊥)))
  runs_well p [] fs e h = inl (fs, refl, subst (λ k. Good k fs) (let z : p ≡ p + 0 = omega arith in z) h)
  runs_well p (x ∷ part) fs e h =
      let q : event_at es p ≡ Some x = sym (e 0 (omega arith) ∙ ap (λ k. event_at es k) (let z : p + 0 ≡ p = omega arith in z)) in
      elim (advances p x fs q h) [
        | inl a ↦
            elim (runs_well (suc p) part a.0 (λ k m. e (suc k) (omega arith) ∙ ap (λ k. event_at es k) (let z : p + suc k ≡ suc p + k = omega arith in z)) a.2) [
              | inl r ↦ inl (r.0, rw (a.1, run) r.1, subst (λ k. Good k r.0) (let z : suc p + length part ≡ p + suc (length part) = omega arith in z) r.2)
              | inr r ↦ inr (rw (a.1, run) r.0, r.1)
            ]
        | inr a ↦ inr (rw (a.0, run), (p, a.1, h.fine))
      ]

  -- the machine runs through where no return is bad, or stops at the first
  pub run_finds : (func : ℕ)
      → ((fs : List OpenFrame) × (run burdens 0 es (root_frame func ∷ []) ≡ Some fs) × ((i : ℕ) → IsBadReturn es i → ⊥) × (length fs ≡ suc (depth es (length es))))
      ⊎ ((run burdens 0 es (root_frame func ∷ []) ≡ None) × ((i : ℕ) × IsBadReturn es i × ((j : ℕ) → j < i → IsBadReturn es j → ⊥)))
  run_finds func =
      elim (runs_well 0 es (root_frame func ∷ []) (λ k m. ap (λ x. event_at es x) (let z : k ≡ 0 + k = omega arith in z))
      (record { fine = λ i l b. absurd (let z : i < 0 = l in omega arith); level = refl; some = omega arith })) [
        | inl r ↦
            let h = subst (λ k. Good k r.0) (let z : 0 + length es ≡ length es = omega arith in z) r.2 in
            inl (r.0, r.1, (λ i b. h.fine i (inside_returns es i b.0) b), (let z = h.level in let d = depth_counts es (length es) in let y = h.some in omega arith))
        | inr r ↦ inr r
      ]

-- ---- the first fault of the records

wrong_return : (es : List Event) (i : ℕ) (o : Option Event) → event_at es i ≡ o → wrong_at (records es) i ≡ Some why.RootReturn → IsBadReturn es i
wrong_return es i o q e = by o (depth es i) refl q (ap (λ (r : Option Record). wrong r (depth es i)) (sym (record_is es i o q)) ∙ e)
  where
    by : (o : Option Event) (d : ℕ) → depth es i ≡ d → event_at es i ≡ o → wrong (option_map (λ (e : Event). Ok e) o) d ≡ Some why.RootReturn → IsBadReturn es i
    by None zero x y z = cc
    by None (suc d) x y z = cc
    by (Some (Strand n)) d x y z = cc
    by (Some (Call s f)) d x y z = cc
    by (Some (Spawn s f)) d x y z = cc
    by (Some Ret) zero x y z = (ap returns y, x)
    by (Some Ret) (suc d) x y z = cc
    by (Some Sync) d x y z = cc

return_wrong : (es : List Event) (i : ℕ) → IsBadReturn es i → wrong_at (records es) i ≡ None → ⊥
return_wrong es i b e =
    let q : wrong (Some (Ok Ret)) (depth es i) ≡ None = ap (λ (r : Option Record). wrong r (depth es i)) (sym (record_is es i (Some Ret) (is_return (event_at es i) b.0))) ∙ e in
    let z : wrong (Some (Ok Ret)) 0 ≡ None = subst (λ d. wrong (Some (Ok Ret)) d ≡ None) b.1 q in
    cc

wrong_end : (es : List Event) (i d : ℕ) (o : Option Event) → event_at es i ≡ o → wrong_at (records es) i ≡ Some (why.Unclosed d) → (length es ≤ i) × (depth es i ≡ d)
wrong_end es i d o q e = by o (depth es i) refl q (ap (λ (r : Option Record). wrong r (depth es i)) (sym (record_is es i o q)) ∙ e)
  where
    past : event_at es i ≡ None → length es ≤ i
    past y = elim (cases_lt i (length es)) [ inl l ↦ absurd (slice_get_no es i l y) | inr g ↦ g ]

    by : (o : Option Event) (k : ℕ) → depth es i ≡ k → event_at es i ≡ o → wrong (option_map (λ (e : Event). Ok e) o) k ≡ Some (why.Unclosed d) → (length es ≤ i) × (depth es i ≡ d)
    by None zero x y z = cc
    by None (suc k) x y z = (past y, x ∙ (let r : suc k ≡ d = cc in r))
    by (Some (Strand n)) k x y z = cc
    by (Some (Call s f)) k x y z = cc
    by (Some (Spawn s f)) k x y z = cc
    by (Some Ret) zero x y z = cc
    by (Some Ret) (suc k) x y z = cc
    by (Some Sync) k x y z = cc

no_fault : (es : List Event) (i : ℕ) (f : EventFault) (o : Option Event) → event_at es i ≡ o → wrong_at (records es) i ≡ Some (why.Event f) → ⊥
no_fault es i f o q e = by o (depth es i) (ap (λ (r : Option Record). wrong r (depth es i)) (sym (record_is es i o q)) ∙ e)
  where
    by : (o : Option Event) (k : ℕ) → wrong (option_map (λ (e : Event). Ok e) o) k ≡ Some (why.Event f) → ⊥
    by None zero z = cc
    by None (suc k) z = cc
    by (Some (Strand n)) k z = cc
    by (Some (Call s f)) k z = cc
    by (Some (Spawn s f)) k z = cc
    by (Some Ret) zero z = cc
    by (Some Ret) (suc k) z = cc
    by (Some Sync) k z = cc

pub machine_finds : MachineFindsFaults
machine_finds es burdens func f b = by f.why b.is_wrong (run_finds es burdens func)
  where
    by : (w : Why) → wrong_at (records es) f.at ≡ Some w
        → ((fs : List OpenFrame) × (run burdens 0 es (root_frame func ∷ []) ≡ Some fs) × ((i : ℕ) → IsBadReturn es i → ⊥) × (length fs ≡ suc (depth es (length es))))
        ⊎ ((run burdens 0 es (root_frame func ∷ []) ≡ None) × ((i : ℕ) × IsBadReturn es i × ((j : ℕ) → j < i → IsBadReturn es j → ⊥)))
        → EndsWith w (run burdens 0 es (root_frame func ∷ []))
    by (why.Event x) e r = no_fault es f.at x (event_at es f.at) refl e
    by why.RootReturn e (inl r) = absurd (r.2 f.at (wrong_return es f.at (event_at es f.at) refl e))
    by why.RootReturn e (inr r) = r.0
    by (why.Unclosed d) e (inl r) =
        let w = wrong_end es f.at d (event_at es f.at) refl e in
        let n : length (records es) ≡ length es = length-map es (λ (e : Event). Ok e) in
        let at : f.at ≡ length es = omega (arith, b.within, w.0) in
        let deep : depth es (length es) ≡ d = subst (λ k. depth es k ≡ d) at w.1 in
        (r.0, r.1, (let z = r.3 in omega arith))
    by (why.Unclosed d) e (inr r) =
        let w = wrong_end es f.at d (event_at es f.at) refl e in
        let bad = r.1.1 in
        let l = inside_returns es r.1.0 bad.0 in
        absurd (return_wrong es r.1.0 bad (b.first r.1.0 (omega (arith, w.0))))
