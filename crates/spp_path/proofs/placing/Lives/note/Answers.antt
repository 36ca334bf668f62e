use Rattle.std.proofs.Common.{rules, ◌<◌, Some, refl, subst, arith}
use Rattle.std.proofs.lemmas.Option.{slice_get-get_or}
use Rattle.std.specs.Vec.{with_item}
use Rattle.spp_stack.specs.Chain.{IsUnder}
use Rattle.spp_path.specs.declared.placing.Lives.{Lives}
use Rattle.spp_path.proofs.Lived.{over_below, falling_noted, known_noted}
use Rattle.spp_path.proofs.placing.Lives.note.Goals as goal

pub loop-number-preserved : goal.loop-number-preserved
loop-number-preserved c =
    let i = c.loop-number.invariant in
    let s : Lives = c.loop-number.self in
    let above : c.args.live < c.loop-number.number = search rules in
    let new : Lives = record { nodes = s.nodes; known = with_item s.known c.loop-number.number (Some c.args.live) } in
    let under : c.in-Some.below < c.loop-number.number = subst (λ o. IsUnder c.loop-number.number o) c.in-Some.is (i.falling.tree c.loop-number.number _ (slice_get-get_or s.nodes.now c.loop-number.number _ i.there)) in
    let is = slice_get-get_or s.nodes.now c.loop-number.number _ i.there in
    record {
      there = (let z = i.there in omega arith);
      nodes = i.nodes;
      falling = falling_noted s new c.loop-number.number c.args.live refl refl above i.falling;
      known = λ enters over known. over_below enters s.nodes.now c.loop-number.number c.args.live c.in-Some.below _ is c.in-Some.is above (i.known enters over known);
      noted = λ enters over known. known_noted s new c.loop-number.number c.args.live refl refl enters (i.known enters over known) (i.noted enters over known);
    }

pub returns-in-None-clause-falling : goal.returns-in-None-clause-falling
returns-in-None-clause-falling c =
    let s : Lives = c.loop-number.self in
    let new : Lives = record { nodes = s.nodes; known = with_item s.known c.loop-number.number (Some c.args.live) } in
    falling_noted s new c.loop-number.number c.args.live refl refl (search rules) c.loop-number.invariant.falling

pub returns-in-None-clause-known : goal.returns-in-None-clause-known
returns-in-None-clause-known c = λ enters over known.
    let i = c.loop-number.invariant in
    let s : Lives = c.loop-number.self in
    let new : Lives = record { nodes = s.nodes; known = with_item s.known c.loop-number.number (Some c.args.live) } in
    known_noted s new c.loop-number.number c.args.live refl refl enters (i.known enters over known) (i.noted enters over known)
