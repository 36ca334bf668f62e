use Rattle.std.proofs.Common.{◌≡◌, ◌+◌, ◌≤◌, ◌<◌, ℕ, suc, length, sym, subst, ◌∙◌, arith}
use Rattle.std.proofs.lemmas.Result.{IfOk-weaker}
use Rattle.spp_event.specs.Recordings.{Recording}
use Rattle.spp_pass.proofs.Passed.{light_of}
use Rattle.spp_part.specs.Readings.{IsReading, IsAhead}
use Rattle.spp_part.proofs.RecordParts.{Has, part_within, part_bounds, part_record, part_event, part_alone, alone_has}
use Rattle.spp_part.proofs.part_profile.PartProfile.of_bytes_by.Goals as goal

pub loop-at-init : goal.loop-at-init
loop-at-init g c =
    let version = g.B.BytesReader.version in
    let n : ℕ = c.args.count in
    let light = light_of c.args.burdens c.are_small.ensures.continuation c.are_small.ensures.join in
    record {
      is = λ trace first h. c.in_ok-reading.ensures trace c.args.burdens first
          (part_bounds version c.args.sites c.args.funcs n c.args.bytes.now trace first h c.args.burdens light c.requires.sites c.requires.funcs)
          (let z = part_within version c.args.sites c.args.funcs n c.args.bytes.now trace first h in let y : first ≤ length trace.records = omega arith in y);
      next = c.requires.here;
    }

pub read-requires : goal.read-requires
read-requires g c =
    let version = g.B.BytesReader.version in
    let n : ℕ = c.args.count in
    let trace : Recording = part_alone version c.args.sites c.args.funcs n c.args.bytes.now in
    let h = alone_has version c.args.sites c.args.funcs n c.args.bytes.now c.requires.few in (
      trace,
      0,
      record {
        is = c.loop-at.invariant.is trace 0 h;
        within = (let z = part_within version c.args.sites c.args.funcs n c.args.bytes.now trace 0 h in omega (arith, c.loop-at-test.true));
        at = part_event version c.args.sites c.args.funcs n c.args.bytes.now trace 0 h c.loop-at.at (omega (arith, c.loop-at-test.true)) c.read_in.result
            c.read_in.ensures.said c.read_in.ensures.within c.in-Ok.event c.in-Ok.is;
      },
    )

pub loop-at-preserved : goal.loop-at-preserved
loop-at-preserved g c =
    let version = g.B.BytesReader.version in
    let n : ℕ = c.args.count in
    let at : ℕ = c.loop-at.at in
    let ahead : (trace : Recording) (first : ℕ) → Has version c.args.sites c.args.funcs n c.args.bytes.now trace first → IsAhead trace c.args.burdens first at c.in-Ok.event c.loop-at.reading = λ trace first h. record {
      is = c.loop-at.invariant.is trace first h;
      within = (let z = part_within version c.args.sites c.args.funcs n c.args.bytes.now trace first h in omega (arith, c.loop-at-test.true));
      at = part_event version c.args.sites c.args.funcs n c.args.bytes.now trace first h at (omega (arith, c.loop-at-test.true)) c.read_in.result
          c.read_in.ensures.said c.read_in.ensures.within c.in-Ok.event c.in-Ok.is;
    } in
    record {
      is = λ trace first h. subst (λ k. IsReading trace c.args.burdens first k c.read.new.self) (let z : suc at ≡ at + 1 = omega arith in z) (c.in_ok-read-in-Ok.ensures trace first (ahead trace first h));
      next = c.read_in.ensures.next;
    }

pub finish-requires : goal.finish-requires
finish-requires g c =
    let version = g.B.BytesReader.version in
    let n : ℕ = c.args.count in
    let trace : Recording = part_alone version c.args.sites c.args.funcs n c.args.bytes.now in
    record {
      is = (trace, c.args.burdens, 0, c.loop-at.invariant.is trace 0 (alone_has version c.args.sites c.args.funcs n c.args.bytes.now c.requires.few));
      few = omega (arith, c.loop-at-test.true, c.requires.few);
    }

pub returns-in-Err : goal.returns-in-Err
returns-in-Err g c = IfOk-weaker c.finish.result _ _ (λ p is trace first h.
    let version = g.B.BytesReader.version in
    let n : ℕ = c.args.count in
    let at : ℕ = c.loop-at.at in
    let lt : at < n = omega (arith, c.loop-at-test.true) in
    is trace c.args.burdens first n (c.loop-at.invariant.is trace first h) (
      lt,
      part_record version c.args.sites c.args.funcs n c.args.bytes.now trace first h at lt ∙ sym c.read_in.ensures.said ∙ c.in-Err.is,
    )
    (part_within version c.args.sites c.args.funcs n c.args.bytes.now trace first h)) c.finish.ensures

pub finish-requires-2 : goal.finish-requires-2
finish-requires-2 g c =
    let version = g.B.BytesReader.version in
    let n : ℕ = c.args.count in
    let trace : Recording = part_alone version c.args.sites c.args.funcs n c.args.bytes.now in
    let end : c.loop-at.at ≡ n = omega (arith, c.loop-at-test.false, c.loop-at.auto.at-end) in
    record {
      is = (trace, c.args.burdens, 0, subst (λ k. IsReading trace c.args.burdens 0 k c.loop-at.reading) end (c.loop-at.invariant.is trace 0 (alone_has version c.args.sites c.args.funcs n c.args.bytes.now c.requires.few)));
      few = c.requires.few;
    }

pub returns : goal.returns
returns g c = IfOk-weaker c.finish-2.result _ _ (λ p is trace first h.
    let version = g.B.BytesReader.version in
    let n : ℕ = c.args.count in
    let end : c.loop-at.at ≡ n = omega (arith, c.loop-at-test.false, c.loop-at.auto.at-end) in
    is trace c.args.burdens first n (subst (λ k. IsReading trace c.args.burdens first k c.loop-at.reading) end (c.loop-at.invariant.is trace first h))
    (let z : n ≡ n = omega arith in z) (part_within version c.args.sites c.args.funcs n c.args.bytes.now trace first h)) c.finish-2.ensures
