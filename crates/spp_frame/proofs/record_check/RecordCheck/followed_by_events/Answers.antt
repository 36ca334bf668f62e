use Rattle.std.proofs.Common.{sym, arith, length-append}
use Rattle.spp_event.specs.Recordings.{records_of}
use Rattle.spp_event.proofs.RecordPlaces.{length-records_of}
use Rattle.spp_frame.proofs.Pieces.{bad_in, good_in, bad_front}
use Rattle.spp_frame.proofs.record_check.RecordCheck.followed_by_events.Goals as goal

pub returns-in-Some-clause-seen : goal.returns-in-Some-clause-seen
returns-in-Some-clause-seen g c = λ rs seen.
    let new = records_of g.B.BytesReader.version c.args.sites c.args.funcs c.args.count c.args.bytes.now in
    let m = length-records_of g.B.BytesReader.version c.args.sites c.args.funcs c.args.count c.args.bytes.now in
    let n = seen.count in
    record {
      count = omega (arith, length-append rs new);
      found = bad_front rs new c.in-Some.fault (bad_in c.args.self.bad c.in-Some.fault _ rs seen.found c.in-Some.is);
    }

pub returns-in-Err-clause-seen : goal.returns-in-Err-clause-seen
returns-in-Err-clause-seen g c = λ rs seen.
    let new = records_of g.B.BytesReader.version c.args.sites c.args.funcs c.args.count c.args.bytes.now in
    let m = length-records_of g.B.BytesReader.version c.args.sites c.args.funcs c.args.count c.args.bytes.now in
    let n = seen.count in
    record {
      count = omega (arith, length-append rs new);
      found = c.in-Err.ensures.seen rs (sym n) (good_in c.args.self.bad _ rs seen.found c.in_default.is);
    }

pub returns-clause-seen : goal.returns-clause-seen
returns-clause-seen g c = λ rs seen.
    let new = records_of g.B.BytesReader.version c.args.sites c.args.funcs c.args.count c.args.bytes.now in
    let m = length-records_of g.B.BytesReader.version c.args.sites c.args.funcs c.args.count c.args.bytes.now in
    let n = seen.count in
    record {
      count = omega (arith, length-append rs new);
      found = c.in-Ok.ensures.seen rs (sym n) (good_in c.args.self.bad _ rs seen.found c.in_default.is);
    }
