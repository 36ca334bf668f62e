-- The owner of a position is the innermost frame of the stack there.
use Rattle.std.proofs.Common.{◌≡◌, ℕ, zero, suc, ◌≤◌, ◌<◌, true, arith, sym, subst, inl, inr, List, nat_le, ◌&&◌}
use Rattle.std.proofs.lemmas.Bool.{cases_lt, and_parts, and_from, le-leb, leb-true}
use Rattle.spp_event.specs.declared.records.Event.{Event}
use Rattle.spp_dag.specs.Trace.{event_at, opens, returns, depth, IsWellFormed, partner, owner, is_frame, closing}
use Rattle.spp_dag.proofs.Ranges.{greatest_is}
use Rattle.spp_dag.proofs.Depth.{open_at_return, deeper, closed, partner_at}
use Rattle.spp_dag.proofs.Machine.{Opened, Shape}

module _ (es : List Event) (scale : ℕ) (go back : ℕ → ℕ) (wf : IsWellFormed es) where
  -- a frame that holds p is not within the innermost frame of the stack at p
  pub above : (p : ℕ) (h : Shape es scale go back p) (o : ℕ) → opens (event_at es o) ≡ true → o < p → p ≤ partner es o → o < h.top.first
  above p h o t a b =
      let d = deeper es wf o p t a b in
      elim h.case [
        | inl r ↦ absurd (omega (arith, r.level))
        | inr w ↦
            let r = w.1 in
            elim (cases_lt w.0 o) [
              | inl l ↦
                  let i : p ≤ partner es w.0 = r.within in
                  let e = deeper es wf w.0 o r.opened l (omega arith) in
                  absurd (omega (arith, r.level))
              | inr g ↦ omega (arith, r.first)
            ]
      ]

  none_after : (p : ℕ) (h : Shape es scale go back p) (j : ℕ) → h.top.first < j → j ≤ p → (is_frame es j && nat_le p (closing es j)) ≡ true → ⊥
  none_after p h zero a b e = absurd (omega arith)
  none_after p h (suc o) a b e =
      let both = and_parts _ _ e in
      let c = above p h o both.0 b (leb-true _ _ both.1) in
      absurd (omega arith)

  pub owner_is : (p : ℕ) (h : Shape es scale go back p) → owner es p ≡ h.top.first
  owner_is p h =
      greatest_is (λ f. is_frame es f && nat_le p (closing es f)) p h.top.first
      (elim h.case [ inl r ↦ omega (arith, r.first) | inr w ↦ let z = w.1.after in omega (arith, w.1.first) ])
      (λ pos. elim h.case [
        | inl r ↦ absurd (omega (arith, r.first))
        | inr w ↦ subst (λ f. (is_frame es f && nat_le p (closing es f)) ≡ true) (sym w.1.first) (and_from _ _ w.1.opened (le-leb _ _ w.1.within))
      ])
      (none_after p h)

  -- where a frame closes it is the innermost one
  pub at_closing : (o : ℕ) → opens (event_at es o) ≡ true → (h : Shape es scale go back (partner es o)) → Opened es scale go back (partner es o) h.top h.rest o
  at_closing o t h =
      let c = closed es wf o t in
      let l = above (partner es o) h o t c.after (let z : partner es o ≤ partner es o = omega arith in z) in
      elim h.case [
        | inl r ↦ absurd (omega (arith, r.level, c.depth_at))
        | inr w ↦
            let r = w.1 in
            let same : w.0 ≡ o = elim (cases_lt o w.0) [
              | inl s ↦
                  let i = r.after in
                  let d = deeper es wf o w.0 t s (omega arith) in
                  absurd (omega (arith, r.level, c.depth_at))
              | inr g ↦ omega (arith, r.first)
            ] in
            subst (λ k. Opened es scale go back (partner es o) h.top h.rest k) same r
      ]

  -- a return closes the innermost frame
  pub return_closes : (p : ℕ) (h : Shape es scale go back p) → returns (event_at es p) ≡ true → (o : ℕ) × Opened es scale go back p h.top h.rest o × (partner es o ≡ p)
  return_closes p h t = elim h.case [
    | inl r ↦ absurd (let room : 0 < depth es p = open_at_return es wf p t in omega (arith, r.level))
    | inr w ↦ (w.0, w.1, partner_at es wf w.0 p w.1.opened w.1.after w.1.within t w.1.level)
  ]
