use Rattle.std.proofs.Common.{◌≡◌, ◌∙◌, refl, sym, ap, subst, ℕ, length, arith, List, [], ◌∷◌, ◌++◌, append_assoc, None, Option, get_or}
use Rattle.std.proofs.lemmas.List.{append-nil}
use Rattle.spp_dag.specs.Dag.{IsPath}
use Rattle.spp_dag.proofs.Ties.{path_exists}
use Rattle.spp_reference.specs.Walks.{IsBest}
use Rattle.spp_reference.proofs.Greatest.{path_at_end}
use Rattle.spp_reference.proofs.walks.path.Goals as goal

pub loop-at-init : goal.loop-at-init
loop-at-init c =
    let p = path_exists c.args.dag.now c.end-end.ensures.well_formed c.args.burdens 0 refl in
    let e : c.push.new.self.items ≡ 0 ∷ [] = c.in_ok-push.ensures.items ∙ ap (λ (xs : List ℕ). xs ++ 0 ∷ []) c.new-path.ensures.items in
    record {
      within = omega arith;
      reaches = (p.0, p.1.0, p.1.1);
      leads = ([], e, λ rest h. h);
    }

pub next-at-requires-clause-best : goal.next-at-requires-clause-best
next-at-requires-clause-best c = λ x l.
    let b : IsBest c.args.dag.now c.args.burdens x c.end-end.result (get_or c.in_ok-best.best.items x None) = c.in_ok-best.ensures.best x (omega arith) in
    let e : get_or c.in_ok-best.best.items x None ≡ get_or c.as_slice.result.now x None = ap (λ (xs : List (Option ℕ)). get_or xs x None) (sym c.as_slice.ensures.value) in
    subst (λ (o : Option ℕ). IsBest c.args.dag.now c.args.burdens x (length c.args.dag.now) o) e
    (subst (λ (n : ℕ). IsBest c.args.dag.now c.args.burdens x n (get_or c.in_ok-best.best.items x None)) c.end-end.ensures.count b)

pub loop-at-preserved : goal.loop-at-preserved
loop-at-preserved c =
    let h = c.loop-at.invariant.leads in
    let v : ℕ = c.next-at.result in
    let e : c.push-in-loop-at.new.self.items ≡ 0 ∷ (h.0 ++ v ∷ []) = c.in_ok-push-2.ensures.items ∙ ap (λ (xs : List ℕ). xs ++ v ∷ []) h.1 in
    record {
      within = c.next-at.ensures.within;
      reaches = c.next-at.ensures.reaches;
      leads = (
        h.0 ++ v ∷ [],
        e,
        λ rest p.
            subst (λ (xs : List ℕ). IsPath c.args.dag.now c.args.burdens 0 (length c.args.dag.now) xs) (sym (append_assoc h.0 (v ∷ []) rest))
            (h.2 (v ∷ rest) (c.next-at.ensures.first rest p)),
      );
    }

pub returns : goal.returns
returns c =
    let h = c.loop-at.invariant.leads in
    let n : ℕ = length c.args.dag.now in
    let e : length c.args.dag.now ≡ c.loop-at.at = omega arith in
    let p = subst (λ (x : ℕ). IsPath c.args.dag.now c.args.burdens x (length c.args.dag.now) []) e (path_at_end c.args.dag.now c.args.burdens (length c.args.dag.now)) in
    (h.0, h.1, subst (λ (xs : List ℕ). IsPath c.args.dag.now c.args.burdens 0 (length c.args.dag.now) xs) (append-nil h.0) (h.2 [] p))
