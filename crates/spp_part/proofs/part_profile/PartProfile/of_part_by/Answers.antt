use Rattle.std.proofs.Common.{◌≡◌, ◌+◌, ◌≤◌, ◌<◌, ℕ, suc, length, sym, subst, ◌∙◌, arith}
use Rattle.std.proofs.lemmas.Result.{IfOk-weaker}
use Rattle.spp_event.specs.Recordings.{Recording}
use Rattle.spp_pass.proofs.Passed.{light_of, is_read}
use Rattle.spp_part.specs.Readings.{IsReading, IsAhead}
use Rattle.spp_part.proofs.part_profile.PartProfile.of_part_by.Goals as goal

pub loop-at-init : goal.loop-at-init
loop-at-init g c =
    let trace : Recording = c.args.part.now.trace in
    let first : ℕ = c.args.part.now.first in
    let limits = c.keeps_limits.ensures.limits in
    let light = light_of c.args.burdens c.are_small.ensures.continuation c.are_small.ensures.join in
    record {
      is = c.in_ok-reading.ensures trace c.args.burdens first (record { light = light; short = limits.events; sites = limits.sites; funcs = limits.funcs })
          (let z = c.keeps_limits.ensures.within in let y : first ≤ length trace.records = omega arith in y);
      stands = subst (λ n. g.R.Reader.stands c.args.events trace n) (let z : first ≡ first + 0 = omega arith in z) c.requires;
    }

pub loop-at-preserved : goal.loop-at-preserved
loop-at-preserved g c =
    let trace : Recording = c.args.part.now.trace in
    let first : ℕ = c.args.part.now.first in
    let at : ℕ = c.loop-at.at in
    let within : first + at < length trace.records = (let z = c.keeps_limits.ensures.within in omega (arith, c.count-at-end.ensures)) in
    let ahead : IsAhead trace c.args.burdens first at c.in-Ok.event c.loop-at.reading = record {
      is = c.loop-at.invariant.is;
      within = within;
      at = is_read trace (first + at) c.read_at.result c.in-Ok.event c.read_at.ensures.said c.read_at.ensures.within c.in-Ok.is;
    } in
    record {
      is = subst (λ n. IsReading trace c.args.burdens first n c.read.new.self) (let z : suc at ≡ at + 1 = omega arith in z) (c.in_ok-read-in-Ok.ensures trace first ahead);
      stands = subst (λ n. g.R.Reader.stands c.read_at.new.events trace n) (let z : first + at + 1 ≡ first + (at + 1) = omega arith in z) c.read_at.ensures.next;
    }

pub returns-in-Err : goal.returns-in-Err
returns-in-Err g c =
    IfOk-weaker c.finish.result _ _ (λ p is. is c.args.part.now.trace c.args.burdens c.args.part.now.first c.args.part.now.count c.loop-at.invariant.is
    (omega (arith, c.count-at-end.ensures), sym c.read_at.ensures.said ∙ c.in-Err.is) c.keeps_limits.ensures.within) c.finish.ensures

pub finish-requires-2 : goal.finish-requires-2
finish-requires-2 g c =
    let trace : Recording = c.args.part.now.trace in
    let first : ℕ = c.args.part.now.first in
    let end : c.loop-at.at ≡ c.count.result = omega (arith, c.count-at-end.ensures, c.count.ensures) in
    record {
      is = (trace, c.args.burdens, first, subst (λ n. IsReading trace c.args.burdens first n c.loop-at.reading) end c.loop-at.invariant.is);
      few = (let z = c.keeps_limits.ensures.within in let y = c.keeps_limits.ensures.limits.events in let x = c.count.ensures in omega arith);
    }

pub returns : goal.returns
returns g c =
    let trace : Recording = c.args.part.now.trace in
    let first : ℕ = c.args.part.now.first in
    let end : c.loop-at.at ≡ c.count.result = omega (arith, c.count-at-end.ensures, c.count.ensures) in
    IfOk-weaker c.finish-2.result _ _ (λ p is. is trace c.args.burdens first c.args.part.now.count (subst (λ n. IsReading trace c.args.burdens first n c.loop-at.reading) end c.loop-at.invariant.is)
    c.count.ensures c.keeps_limits.ensures.within) c.finish-2.ensures
