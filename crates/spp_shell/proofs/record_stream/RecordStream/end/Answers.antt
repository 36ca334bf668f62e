use Rattle.std.proofs.Common.{◌≡◌, ◌-◌, ◌+◌, List, ℕ, length, take, arith}
use Rattle.std.proofs.lemmas.List.{length-take-le}
use Rattle.spp_shell.proofs.RecordStreams.{gone_over}
use Rattle.spp_shell.proofs.record_stream.RecordStream.end.Goals as goal

pub go_over-requires-clause-seen : goal.go_over-requires-clause-seen
go_over-requires-clause-seen g c κs within le =
    let q = c.requires.3 in
    (c.requires.0, q.done, q.whole, q.joint, q.seen le)

pub go_over-requires-clause-count : goal.go_over-requires-clause-count
go_over-requires-clause-count g c κs within = c.requires.3.count

pub go_over-requires-clause-limit : goal.go_over-requires-clause-limit
go_over-requires-clause-limit g c =
    let h = c.requires.3.is_head in
    omega (arith, h.count_is, h.limits.events)

pub returns-clause-streamed : goal.returns-clause-streamed
returns-clause-streamed g c = λ first header xs p.
    let self = c.args.self in
    let e = c.in_ok-records.ensures in
    let old : List ℕ = take self.filled self.bytes.items in
    let left : List ℕ = take c.in_ok-records.left c.in_ok-records.bytes.items in
    let n : length old ≡ self.filled = length-take-le self.filled self.bytes.items self.held in
    let m : length left ≡ c.in_ok-records.left = length-take-le c.in_ok-records.left c.in_ok-records.bytes.items e.held in
    let b = self.before + (self.filled - c.in_ok-records.left) in
    let at : b ≡ self.before + (length old - length left) = omega (arith, n, m) in
    gone_over g.V.Records.seen_by g.V.Records.has_seen first self.records self.head self.events self.before header old xs p c.in_ok-records.records c.in_ok-records.events b left e.gone at
