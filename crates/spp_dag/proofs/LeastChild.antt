-- The path takes the least of the children through which a greatest walk goes.
use Rattle.std.proofs.Common.{◌≡◌, ℕ, suc, ◌≤◌, ◌<◌, true, refl, arith, sym, ◌∙◌, ap, subst, ◌⊎◌, inl, inr, List, [], ◌∷◌, ◌++◌, length, Option, Some, None, nat_eq}
use Rattle.std.proofs.lemmas.Bool.{cases_lt, and_parts, and_from, eq-eqb, eqb-true}
use Rattle.spp_event.specs.declared.records.Event.{Event}
use Rattle.spp_event.specs.declared.records.Event.TheVariants.{Strand, Call, Spawn, Ret, Sync}
use Rattle.spp_maxplus.specs.declared.state.Burdens.{Burdens}
use Rattle.spp_dag.specs.Trace.{event_at, opens, syncs, spawns, partner, owner, join, IsWellFormed}
use Rattle.spp_dag.specs.Dag.{Walk, AtMost, IsPath, Before, On}
use Rattle.spp_dag.specs.Laws.{PathTakesLeast, WalksAreOrdered}
use Rattle.spp_dag.proofs.Ranges.{least_le}
use Rattle.spp_dag.proofs.Depth.{closed, inside_opens}
use Rattle.spp_dag.proofs.Walks.{StepOf, Trail, joined}
use Rattle.spp_dag.proofs.Upper.{spawns_opens}
use Rattle.spp_dag.proofs.Span.{trail_of, walk_of}
use Rattle.spp_dag.proofs.Parting.{one_enters, enters_before, before_not_both, before_not_same}
use Rattle.spp_dag.proofs.Crossing.{within_owner, owner_le, waits_for, join_spec, passes_opening, Split, split_at, on_left, on_right, on_bounds, on_either}
use Rattle.spp_dag.proofs.Ties.{none, to_won}
use Rattle.spp_dag.proofs.PathLaws.{passes_or_skips}

-- lists with the same beginning are in the order of what follows
before_after : (ps as' bs : List ℕ) → Before as' bs → Before (ps ++ as') (ps ++ bs)
before_after [] as' bs b = b
before_after (p ∷ ps) as' bs b = inr (refl, before_after ps as' bs b)

module _ (es : List Event) (wf : IsWellFormed es) (burdens : Burdens) where
  abbrev Go : ℕ → List ℕ → ℕ → ℕ → Type 0
  Go = Trail es 1 (none es) (λ _. burdens.continuation) (λ _. burdens.join)

  abbrev Cut : ℕ → ℕ → ℕ → List ℕ → ℕ → Type 0
  Cut = Split es wf 1 (none es) (λ _. burdens.continuation) (λ _. burdens.join)

  -- a child of the frame that is waited for at s, where another is spawned, joins where that one does
  same_join : (s t : ℕ) → spawns (event_at es s) ≡ true → spawns (event_at es t) ≡ true → owner es t ≡ owner es s → partner es t < s → s < join es t → join es t ≡ join es s
  same_join s t a b e l m =
      let os = spawns_opens (event_at es s) a in
      let ot = spawns_opens (event_at es t) b in
      let ps = join_spec es wf s os in
      let pt = join_spec es wf t ot in
      let inside : s ≤ length es = (let z = inside_opens es s os in omega arith) in
      let lower : suc (partner es s) ≤ join es s = ps.lower in
      let after : s < partner es s = (closed es wf s os).after in
      let first : join es t ≤ join es s = elim (cases_lt (join es s) (length es)) [
        | inl i ↦
            let w = and_parts (syncs (event_at es (join es s))) (nat_eq (owner es (join es s)) (owner es s)) (ps.passes i) in
            let o : owner es (join es s) ≡ owner es t = eqb-true _ _ w.1 ∙ sym e in
            least_le (waits_for es wf t) (suc (partner es t)) (length es) (join es s) (omega arith) i (and_from _ _ w.0 (eq-eqb _ _ o))
        | inr i ↦ (let z = pt.upper in omega arith)
      ] in
      let second : join es s ≤ join es t = elim (cases_lt (join es t) (length es)) [
        | inl i ↦
            let w = and_parts (syncs (event_at es (join es t))) (nat_eq (owner es (join es t)) (owner es t)) (pt.passes i) in
            let o : owner es (join es t) ≡ owner es s = eqb-true _ _ w.1 ∙ e in
            elim (cases_lt (partner es s) (join es t)) [
              | inl k ↦ least_le (waits_for es wf s) (suc (partner es s)) (length es) (join es t) k i (and_from _ _ w.0 (eq-eqb _ _ o))
              | inr k ↦ absurd (let z = within_owner es wf s (join es t) os m k in let y = owner_le es wf s inside in omega arith)
            ]
        | inr i ↦ (let z = ps.upper in omega arith)
      ] in
      omega arith

  -- the first step of a walk out of a spawn
  steps : (s y v : ℕ) (ps : List ℕ) → spawns (event_at es s) ≡ true → s < y → Go s ps y v
      → ((rest : List ℕ) × (ps ≡ suc s ∷ rest)) ⊎ ((rest : List ℕ) × (ps ≡ suc (partner es s) ∷ rest) × ((i : ℕ) → s < i → i ≤ partner es s → On s ps i → ⊥))
  steps s y v [] t l g = absurd (omega (arith, g.0))
  steps s y v (u ∷ ps) t l g = by (event_at es s) refl t g.2
    where
      by : (e : Option Event) → event_at es s ≡ e → spawns e ≡ true → StepOf es 1 (none es) (λ _. burdens.continuation) (λ _. burdens.join) e s u g.0
          → ((rest : List ℕ) × (u ∷ ps ≡ suc s ∷ rest)) ⊎ ((rest : List ℕ) × (u ∷ ps ≡ suc (partner es s) ∷ rest) × ((i : ℕ) → s < i → i ≤ partner es s → On s (u ∷ ps) i → ⊥))
      by None q h x = cc
      by (Some (Strand n)) q h x = cc
      by (Some (Call a f)) q h x = cc
      by (Some (Spawn a f)) q h (inl x) = inl (ps, ap (λ k. k ∷ ps) x.0)
      by (Some (Spawn a f)) q h (inr x) = inr (
        ps,
        ap (λ k. k ∷ ps) x.0,
        λ i m n on. elim on [
          | inl z ↦ absurd (omega arith)
          | inr z ↦ absurd (let b = on_bounds es wf 1 (none es) (λ _. burdens.continuation) (λ _. burdens.join) u y i g.1 ps g.3 z in omega (arith, x.0, b.0))
        ],
      )
      by (Some Ret) q h x = cc
      by (Some Sync) q h x = cc

  -- the walk passes the spawn of each child that it enters
  passes_spawn : (x y v s : ℕ) (ps : List ℕ) → opens (event_at es s) ≡ true → x ≤ s → Go x ps y v → On x ps (suc s) → On x ps s
  passes_spawn x y v s ps t l g on =
      let co : ℕ → ℕ = λ _. burdens.continuation in
      let re : ℕ → ℕ = λ _. burdens.join in
      let c = split_at es wf 1 (none es) co re x (suc s) y ps v g on in
      let after : s < partner es s = (closed es wf s t).after in
      let p = passes_opening es wf 1 (none es) co re x (suc s) c.first s c.before c.left t l (omega arith) after in
      subst (λ r. On x r s) (sym c.is) (on_left es wf 1 (none es) co re x s c.before c.after p.0)

  -- a greatest walk that enters the child at s shows that the path, where it passes s, enters it too
  enters : (f k s w : ℕ) (qs rs : List ℕ) → spawns (event_at es s) ≡ true → s < k
      → (p : IsPath es burdens f k qs) → Walk es burdens f rs k w → AtMost es burdens f k w → f ≤ s → On f qs s → On f rs (suc s) → On f qs (suc s)
  enters f k s w qs rs t l p r most le onq onr =
      let co : ℕ → ℕ = λ _. burdens.continuation in
      let re : ℕ → ℕ = λ _. burdens.join in
      let gq = trail_of es burdens f k p.0 qs p.1 in
      let gr = trail_of es burdens f k w rs r in
      let ons = passes_spawn f k w s rs (spawns_opens (event_at es s) t) le gr onr in
      let cq = split_at es wf 1 (none es) co re f s k qs p.0 gq onq in
      let cr = split_at es wf 1 (none es) co re f s k rs w gr ons in
      let one = joined es 1 (none es) co re f s k cq.first cr.second cq.before cr.after cq.left cr.right in
      let two = joined es 1 (none es) co re f s k cr.first cq.second cr.before cq.after cr.left cq.right in
      let a = p.2 (cq.before ++ cr.after) one.0 (walk_of es burdens f k one.0 (cq.before ++ cr.after) one.1) in
      let b = most (cr.before ++ cq.after) two.0 (walk_of es burdens f k two.0 (cr.before ++ cq.after) two.1) in
      let c = p.2 rs w r in
      let d = most qs p.0 p.1 in
      let same : one.0 ≡ p.0 = omega (arith, one.2, two.2, cq.sum, cr.sum) in
      let new : Walk es burdens f (cq.before ++ cr.after) k p.0 = subst (λ v. Walk es burdens f (cq.before ++ cr.after) k v) same (walk_of es burdens f k one.0 (cq.before ++ cr.after) one.1) in
      let order = p.3 (cq.before ++ cr.after) new in
      by cq cr order (steps s k cq.second cq.after t l cq.right) (steps s k cr.second cr.after t l cr.right)
    where
      by : (cq : Cut f s k qs p.0) (cr : Cut f s k rs w) → (cq.before ++ cr.after ≡ qs) ⊎ Before qs (cq.before ++ cr.after)
          → ((rest : List ℕ) × (cq.after ≡ suc s ∷ rest)) ⊎ ((rest : List ℕ) × (cq.after ≡ suc (partner es s) ∷ rest) × ((i : ℕ) → s < i → i ≤ partner es s → On s cq.after i → ⊥))
          → ((rest : List ℕ) × (cr.after ≡ suc s ∷ rest)) ⊎ ((rest : List ℕ) × (cr.after ≡ suc (partner es s) ∷ rest) × ((i : ℕ) → s < i → i ≤ partner es s → On s cr.after i → ⊥))
          → On f qs (suc s)
      by cq cr order (inl h) other =
          let on : On s cq.after (suc s) = subst (λ l. On s l (suc s)) (sym h.1) (inr (head (suc s) h.0)) in
          subst (λ l. On f l (suc s)) (sym cq.is) (on_right es wf 1 (none es) (λ _. burdens.continuation) (λ _. burdens.join) f s (suc s) cq.first cq.before cq.after cq.left on)
        where
          head : (x : ℕ) (l : List ℕ) → On x l x
          head x [] = refl
          head x (u ∷ us) = inl refl
      by cq cr order (inr g) (inl h) =
          let after : s < partner es s = (closed es wf s (spawns_opens (event_at es s) t)).after in
          let less : Before cr.after cq.after = subst (λ l. Before l cq.after) (sym h.1) (subst (λ l. Before (suc s ∷ h.0) l) (sym g.1) (inl (let z : suc s < suc (partner es s) = omega arith in z))) in
          let whole : Before (cq.before ++ cr.after) qs = subst (λ l. Before (cq.before ++ cr.after) l) (sym cq.is) (before_after cq.before cr.after cq.after less) in
          elim order [
            | inl e ↦ absurd (before_not_same qs (subst (λ l. Before l qs) e whole))
            | inr e ↦ absurd (before_not_both qs (cq.before ++ cr.after) e whole)
          ]
      by cq cr order (inr g) (inr h) =
          let after : s < partner es s = (closed es wf s (spawns_opens (event_at es s) t)).after in
          let gr = trail_of es burdens f k w rs r in
          let co : ℕ → ℕ = λ _. burdens.continuation in
          let re : ℕ → ℕ = λ _. burdens.join in
          elim (on_either es wf 1 (none es) co re f s (suc s) cr.first cr.before cr.after cr.left (subst (λ l. On f l (suc s)) cr.is onr)) [
            | inl z ↦ absurd (let b = on_bounds es wf 1 (none es) co re f s (suc s) cr.first cr.before cr.left z in omega (arith, b.1))
            | inr z ↦ absurd (h.2 (suc s) (omega arith) (omega arith) z)
          ]

pub path_takes_least : PathTakesLeast
path_takes_least es wf burdens k l qs p s j rs w r most on =
    let t : spawns (event_at es s) ≡ true = j.0 in
    let o = spawns_opens (event_at es s) t in
    let spec = join_spec es wf s o in
    let lower : suc (partner es s) ≤ join es s = spec.lower in
    let after : s < partner es s = (closed es wf s o).after in
    let low : s < k = omega (arith, j.1) in
    let inside : s ≤ length es = omega arith in
    let le : owner es k ≤ s = (let z = owner_le es wf s inside in omega (arith, j.2)) in
    let g = to_won es wf burdens.continuation burdens.join (owner es k) k p.0 qs (trail_of es burdens (owner es k) k p.0 qs p.1) in
    elim (passes_or_skips es wf burdens (owner es k) k _ s qs g inside (omega (arith, j.2)) le (omega arith)) [
      | inl x ↦ (s, omega arith, j, enters es wf burdens (owner es k) k s w qs rs t low p r most le x on)
      | inr x ↦
          let u : ℕ = x.0 in
          let ou = spawns_opens (event_at es u) x.1 in
          let au : u < partner es u = (closed es wf u ou).after in
          let b : partner es u < s = x.3 in
          let same = same_join es wf burdens s u t x.1 x.2 b x.4 in
          let co : ℕ → ℕ = λ _. burdens.continuation in
          let re : ℕ → ℕ = λ _. burdens.join in
          let trail = trail_of es burdens (owner es k) k p.0 qs p.1 in
          let c = split_at es wf 1 (none es) co re (owner es k) (partner es u) k qs p.0 trail x.5 in
          let lu : owner es k ≤ u = (let z = owner_le es wf u (let y : u ≤ length es = omega arith in y) in omega (arith, j.2, x.2)) in
          let q = passes_opening es wf 1 (none es) co re (owner es k) (partner es u) c.first u c.before c.left ou lu au (omega arith) in
          (u, omega arith, (x.1, same ∙ j.1, x.2 ∙ j.2), subst (λ l. On (owner es k) l (suc u)) (sym c.is) (on_left es wf 1 (none es) co re (owner es k) (suc u) c.before c.after q.1))
    ]

pub walks_ordered : WalksAreOrdered
walks_ordered es wf burdens x y v w ps qs s t =
    let co : ℕ → ℕ = λ _. burdens.continuation in
    let re : ℕ → ℕ = λ _. burdens.join in
    elim (one_enters es wf 1 (λ _. 0) co re x y v w ps qs (trail_of es burdens x y v ps s) (trail_of es burdens x y w qs t)) [
      | inl e ↦ inl e
      | inr e ↦ elim e [
        | inl a ↦ inr (inl (enters_before es wf 1 (λ _. 0) co re x ps qs a))
        | inr a ↦ inr (inr (enters_before es wf 1 (λ _. 0) co re x qs ps a))
      ]
    ]
