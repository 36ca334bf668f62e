use Rattle.std.proofs.Common.{◌≡◌, ◌+◌, ◌<◌, ◌++◌, ℕ, length, refl, sym, subst, ◌∙◌, arith}
use Rattle.std.proofs.lemmas.List.{length-append}
use Rattle.spp_event.specs.Recordings.{record_at, records_of}
use Rattle.spp_event.proofs.RecordPlaces.{length-records_of, record_at-records_of}
use Rattle.spp_frame.specs.Pieces.{Far}
use Rattle.spp_frame.proofs.Far.{far_more}
use Rattle.spp_frame.proofs.Pieces.{far_front, bad_here, record_behind}
use Rattle.spp_frame.proofs.record_check.walk.Goals as goal

pub loop-k-init : goal.loop-k-init
loop-k-init g c = record {
  far = λ rs n far.
      let new = records_of g.B.BytesReader.version c.args.sites c.args.funcs c.args.count c.args.bytes.now in
      let e : length rs ≡ c.args.at + 0 = omega arith in
      subst (λ (k : ℕ). Far (rs ++ new) k c.args.before.depth c.args.before.work) e (far_front rs new (length rs) c.args.before.depth c.args.before.work (omega arith) far);
  deep = omega (arith, c.requires.deep);
  small = omega (arith, c.requires.small);
  next = c.requires.here;
}

pub returns-in-Err-clause-seen : goal.returns-in-Err-clause-seen
returns-in-Err-clause-seen g c = λ rs n far.
    let new = records_of g.B.BytesReader.version c.args.sites c.args.funcs c.args.count c.args.bytes.now in
    let k = c.loop-k.k in
    let m = length-records_of g.B.BytesReader.version c.args.sites c.args.funcs c.args.count c.args.bytes.now in
    let lt : c.args.at + k < length (rs ++ new) = omega (arith, length-append rs new) in
    let is : record_at (rs ++ new) (c.args.at + k) ≡ c.read_in.result =
    record_behind rs new c.args.at k n ∙ record_at-records_of g.B.BytesReader.version c.args.sites c.args.funcs c.args.count c.args.bytes.now k (omega arith) ∙ sym c.read_in.ensures.said in
    bad_here (rs ++ new) (c.args.at + k) (c.args.at + k) c.loop-k.frames.depth c.loop-k.frames.work c.read_in.result c.in-Err.why refl lt is (c.loop-k.invariant.far rs n far) c.in-Err.ensures.wrong

pub loop-k-preserved : goal.loop-k-preserved
loop-k-preserved g c = record {
  far = λ rs n far.
      let new = records_of g.B.BytesReader.version c.args.sites c.args.funcs c.args.count c.args.bytes.now in
      let k = c.loop-k.k in
      let m = length-records_of g.B.BytesReader.version c.args.sites c.args.funcs c.args.count c.args.bytes.now in
      let lt : c.args.at + k < length (rs ++ new) = omega (arith, length-append rs new) in
      let is : record_at (rs ++ new) (c.args.at + k) ≡ c.read_in.result =
      record_behind rs new c.args.at k n ∙ record_at-records_of g.B.BytesReader.version c.args.sites c.args.funcs c.args.count c.args.bytes.now k (omega arith) ∙ sym c.read_in.ensures.said in
      let taken = c.in_default.ensures in
      let more = far_more (rs ++ new) (c.args.at + k) c.loop-k.frames.depth c.loop-k.frames.work c.take.new.self.depth c.take.new.self.work c.read_in.result lt is (c.loop-k.invariant.far rs n far) taken.right taken.depth taken.work in
      let e : c.args.at + k + 1 ≡ c.args.at + (k + 1) = omega arith in
      subst (λ (j : ℕ). Far (rs ++ new) j c.take.new.self.depth c.take.new.self.work) e more;
  deep = omega (arith, c.in_default.ensures.deeper, c.loop-k.invariant.deep);
  small = omega (arith, c.in_default.ensures.more, c.loop-k.invariant.small);
  next = c.read_in.ensures.next;
}

pub returns-clause-seen : goal.returns-clause-seen
returns-clause-seen g c = λ rs n far.
    let new = records_of g.B.BytesReader.version c.args.sites c.args.funcs c.args.count c.args.bytes.now in
    let m = length-records_of g.B.BytesReader.version c.args.sites c.args.funcs c.args.count c.args.bytes.now in
    let end : c.args.at + c.loop-k.k ≡ length (rs ++ new) = omega (arith, length-append rs new) in
    subst (λ (k : ℕ). Far (rs ++ new) k c.loop-k.frames.depth c.loop-k.frames.work) end (c.loop-k.invariant.far rs n far)
