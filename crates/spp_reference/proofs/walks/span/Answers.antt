use Rattle.std.proofs.Common.{◌∙◌, subst, ℕ, arith, None, Some, Option}
use Rattle.spp_dag.specs.Trace.{closing}
use Rattle.spp_dag.proofs.Shares.{closing_le}
use Rattle.spp_dag.proofs.Ties.{path_exists}
use Rattle.spp_reference.specs.Walks.{IsBest}
use Rattle.spp_reference.proofs.Greatest.{walk_forward, read_is}
use Rattle.spp_reference.proofs.walks.span.Goals as goal

pub greatest_weights-requires : goal.greatest_weights-requires
greatest_weights-requires c = let l = closing_le c.args.dag.now c.args.frame (omega arith) in omega arith

pub index-requires : goal.index-requires
index-requires c =
    let p = path_exists c.args.dag.now c.end.ensures.well_formed c.args.burdens c.args.frame c.requires.begins in
    let l = walk_forward c.args.dag.now c.args.burdens p.0 c.args.frame (closing c.args.dag.now c.args.frame) p.1.0 p.1.1 in
    let n = c.in_ok-best.ensures.count in
    omega arith

pub unreachable-requires : goal.unreachable-requires
unreachable-requires c =
    let p = path_exists c.args.dag.now c.end.ensures.well_formed c.args.burdens c.args.frame c.requires.begins in
    let l = walk_forward c.args.dag.now c.args.burdens p.0 c.args.frame (closing c.args.dag.now c.args.frame) p.1.0 p.1.1 in
    let n = c.in_ok-best.ensures.count in
    let e = read_is c.in_ok-best.best.items c.args.frame c.index.result.now (omega arith) c.index.ensures in
    let b : IsBest c.args.dag.now c.args.burdens c.args.frame c.closing.result None =
    subst (λ (o : Option ℕ). IsBest c.args.dag.now c.args.burdens c.args.frame c.closing.result o) (e ∙ c.in-None.is) (c.in_ok-best.ensures.best c.args.frame (omega arith)) in
    (subst (λ (y : ℕ). IsBest c.args.dag.now c.args.burdens c.args.frame y None) c.closing.ensures.is b) p.0 p.1.0 p.1.1

pub returns : goal.returns
returns c =
    let p = path_exists c.args.dag.now c.end.ensures.well_formed c.args.burdens c.args.frame c.requires.begins in
    let l = walk_forward c.args.dag.now c.args.burdens p.0 c.args.frame (closing c.args.dag.now c.args.frame) p.1.0 p.1.1 in
    let n = c.in_ok-best.ensures.count in
    let e = read_is c.in_ok-best.best.items c.args.frame c.index.result.now (omega arith) c.index.ensures in
    let b : IsBest c.args.dag.now c.args.burdens c.args.frame c.closing.result (Some c.in-Some.weight) =
    subst (λ (o : Option ℕ). IsBest c.args.dag.now c.args.burdens c.args.frame c.closing.result o) (e ∙ c.in-Some.is) (c.in_ok-best.ensures.best c.args.frame (omega arith)) in
    subst (λ (y : ℕ). IsBest c.args.dag.now c.args.burdens c.args.frame y (Some c.in-Some.weight)) c.closing.ensures.is b
