use Rattle.std.proofs.Common.{◌≤◌, ℕ, length, sym, arith}
use Rattle.std.proofs.lemmas.Result.{IfOk-weaker}
use Rattle.spp_event.specs.Recordings.{Recording}
use Rattle.spp_pass.proofs.Passed.{light_of}
use Rattle.spp_part.specs.Readings.{InBounds}
use Rattle.spp_part.proofs.part_profile.PartProfile.of_none.Goals as goal

pub finish-requires : goal.finish-requires
finish-requires c =
    let trace : Recording = c.args.part.now.trace in
    let first : ℕ = c.args.part.now.first in
    let limits = c.keeps_limits.ensures.limits in
    let bounds : InBounds trace c.args.burdens =
    record { light = light_of c.args.burdens c.are_small.ensures.continuation c.are_small.ensures.join; short = limits.events; sites = limits.sites; funcs = limits.funcs } in
    record {
      is = (trace, c.args.burdens, first, c.in_ok-reading.ensures trace c.args.burdens first bounds (let z = c.keeps_limits.ensures.within in let y : first ≤ length trace.records = omega arith in y));
      few = omega arith;
    }

pub returns : goal.returns
returns c =
    let trace : Recording = c.args.part.now.trace in
    let first : ℕ = c.args.part.now.first in
    let limits = c.keeps_limits.ensures.limits in
    let bounds : InBounds trace c.args.burdens =
    record { light = light_of c.args.burdens c.are_small.ensures.continuation c.are_small.ensures.join; short = limits.events; sites = limits.sites; funcs = limits.funcs } in
    IfOk-weaker c.finish.result _ _ (λ p is. is trace c.args.burdens first c.args.part.now.count
    (c.in_ok-reading.ensures trace c.args.burdens first bounds (let z = c.keeps_limits.ensures.within in let y : first ≤ length trace.records = omega arith in y)) (sym c.requires) c.keeps_limits.ensures.within) c.finish.ensures
