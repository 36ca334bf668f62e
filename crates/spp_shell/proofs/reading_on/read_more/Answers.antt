use Rattle.std.proofs.Common.{◌+◌, ◌≤◌, ◌<◌, ◌^◌, ◌++◌, List, ℕ, length, take, drop, length-append, arith}
use Rattle.std.proofs.lemmas.List.{length-drop, length-take-le}
use Rattle.spp_shell.proofs.Streams.{stream_same, stream_grown, stream_ended, stream_long}
use Rattle.spp_shell.proofs.reading_on.read_more.Goals as goal

pub returns-in_default-answer-clause-read : goal.returns-in_default-answer-clause-read
returns-in_default-answer-clause-read g c = λ n s xs lt e h.
    let r = c.in-Ok.ensures in
    stream_same g.S.Source.answered g.S.Source.failed g.S.Source.failures n s c.args.source.now c.pull_behind.new.source xs c.args.bytes.now.items c.pull_behind.new.bytes.items c.args.filled c.in-Ok.answer h r.kept r.answered r.same c.in_default-answer.is

pub returns-then-n-eq0-clause-read : goal.returns-then-n-eq0-clause-read
returns-then-n-eq0-clause-read g c = λ n s xs lt e h.
    let r = c.in-Ok.ensures in
    stream_ended g.S.Source.answered g.S.Source.failed g.S.Source.failures n s c.args.source.now c.pull_behind.new.source xs c.args.bytes.now.items c.pull_behind.new.bytes.items c.args.filled c.in-Ok.answer h r.kept r.answered r.same c.in-Some.n c.in-Some.is c.if-n-eq0.true lt

pub returns-then-before-more-gt-INPUT_LIMIT-clause-refused : goal.returns-then-before-more-gt-INPUT_LIMIT-clause-refused
returns-then-before-more-gt-INPUT_LIMIT-clause-refused g c = λ n s xs lt e h.
    let r = c.in-Ok.ensures in
    let f = c.args.filled in
    let k = c.in-Some.n in
    let new : List ℕ = c.pull_behind.new.bytes.items in
    let room : f + k ≤ length new = rw c.in-Some.is at r.within in
    let long : 2 ^ 33 < length (xs ++ take (f + k) new) = omega (arith, length-append xs (take (f + k) new), length-take-le (f + k) new room, c.if-before-more-gt-INPUT_LIMIT.true) in
    stream_long g.S.Source.answered g.S.Source.failed g.S.Source.failures n s c.args.source.now c.pull_behind.new.source xs c.args.bytes.now.items new f c.in-Ok.answer h r.kept r.answered r.same k c.in-Some.is lt long

pub returns-clause-read : goal.returns-clause-read
returns-clause-read g c = λ n s xs lt e h.
    let r = c.in-Ok.ensures in
    let f = c.args.filled in
    let k = c.in-Some.n in
    let new : List ℕ = c.pull_behind.new.bytes.items in
    let room : f + k ≤ length new = rw c.in-Some.is at r.within in
    let w : k ≤ length (drop f new) = omega (arith, length-drop f new) in
    let few : length (xs ++ take (f + k) new) ≤ 2 ^ 33 = omega (arith, length-append xs (take (f + k) new), length-take-le (f + k) new room, c.if-before-more-gt-INPUT_LIMIT.false) in
    stream_grown g.S.Source.answered g.S.Source.failed g.S.Source.failures n s c.args.source.now c.pull_behind.new.source xs c.args.bytes.now.items new f c.in-Ok.answer h r.kept r.answered r.same k c.in-Some.is w c.if-n-eq0.false few
