use Rattle.std.proofs.Common.{◌≡◌, ◌∙◌, refl, sym, arith, rules, Option, ℕ, ◌+◌, ◌-◌, ap, subst, List}
use Rattle.std.specs.Option.{option_map}
use Rattle.spp_dag.specs.Limits.{AreSmall}
use Rattle.spp_dag.specs.Trace.{weight}
use Rattle.spp_reference.specs.Walks.{IsBest, weight_along}
use Rattle.spp_reference.proofs.Greatest.{filled_first, filled_more, entry_is}
use Rattle.spp_reference.proofs.walks.greatest_weights.Goals as goal

pub loop-after-init : goal.loop-after-init
loop-after-init c =
    let sm : AreSmall c.args.burdens = record { continuation = omega arith; join = omega arith } in
    filled_first c.args.dag.now c.args.burdens c.end.ensures.small sm c.args.end (c.args.end - 0) (c.args.end + 1) c.in_ok-best.best.items c.from.result
    (omega arith) (omega arith) (c.in_ok-best.ensures.items_if_clones_equal (λ y h. search rules)) (omega arith) (c.from.ensures ∙ c.weight.ensures)

pub loop-after-preserved : goal.loop-after-preserved
loop-after-preserved c =
    let sm : AreSmall c.args.burdens = record { continuation = omega arith; join = omega arith } in
    let at : ℕ = c.args.end - 1 - c.loop-after.after in
    let inv = c.loop-after.invariant in
    let f : c.along-first.result ≡ weight_along c.edges-edges.result.first c.loop-after.best.items = c.along-first.ensures ∙ ap (λ (xs : List (Option ℕ)). weight_along c.edges-edges.result.first xs) c.as_slice.ensures.value in
    let s : c.along-second.result ≡ weight_along c.edges-edges.result.second c.loop-after.best.items = c.along-second.ensures ∙ ap (λ (xs : List (Option ℕ)). weight_along c.edges-edges.result.second xs) c.as_slice-in-loop-after.ensures.value in
    let h = entry_is c.args.dag.now c.args.burdens c.args.end c.loop-after.after c.loop-after.best.items c.edges-edges.result at c.along-first.result c.along-second.result c.max.result
    refl c.loop-after-test.true inv c.edges-edges.ensures.are f s c.max.ensures in
    let e : option_map (λ t. weight c.args.dag.now at + t) c.max.result ≡ c.from_here.result =
    ap (λ k. option_map (λ t. k + t) c.max.result) (sym c.weight-in-loop-after.ensures) ∙ sym c.from_here.ensures in
    filled_more c.args.dag.now c.args.burdens c.end.ensures.small sm c.args.end (c.args.end - (c.loop-after.after + 1)) at at c.loop-after.best.items c.from_here.result
    (omega arith) inv.count inv.small (λ x k d. inv.known x (omega arith) d) (omega arith) refl (omega arith)
    (subst (λ (o : Option ℕ). IsBest c.args.dag.now c.args.burdens at c.args.end o) e h)
