use Rattle.std.proofs.Common.{◌≡◌, ◌≤◌, ◌+◌, ◌++◌, ◌<◌, ℕ, List, length, take, drop, sym, subst, ◌∙◌, arith}
use Rattle.std.proofs.lemmas.List.{length-drop, length-take-le}
use Rattle.std.proofs.Math.Seq.{take-add}
use Rattle.spp_shell.proofs.Readings.{SoFar, so_far_none, so_far_some, so_far_ended, so_far_passed}
use Rattle.spp_shell.proofs.reading.read_within.Goals as goal

pub loop-preserved-in_default-answer : goal.loop-preserved-in_default-answer
loop-preserved-in_default-answer g c =
    let f = c.loop.filled in
    let new : List ℕ = c.pull_behind.new.bytes.items in
    let kept : take f new ≡ take f c.loop.bytes.items = c.in-Ok-pull_behind.ensures.kept ∙ c.in-Ok.ensures.kept in
    let reads = subst (λ l. SoFar g.S.Source.answered c.loop.counter c.args.source.now l c.loop.source) (sym kept) c.loop.invariant.reads in
    record {
      reads = so_far_none g.S.Source.answered _ _ _ _ _ (drop f new) _ reads c.in-Ok-pull_behind.ensures.answered c.in_default-answer.is;
      within = c.loop.invariant.within;
      room = omega (arith, c.in-Ok-pull_behind.ensures.room, c.in-Ok.ensures.room);
      same = c.in-Ok-pull_behind.ensures.same ∙ c.loop.invariant.same;
    }

pub returns-then-n-eq0-clause-all : goal.returns-then-n-eq0-clause-all
returns-then-n-eq0-clause-all g c =
    let f = c.loop.filled in
    let new : List ℕ = c.pull_behind.new.bytes.items in
    let kept : c.truncate.new.self.items ≡ take f c.loop.bytes.items = c.truncate.ensures.items ∙ (c.in-Ok-pull_behind.ensures.kept ∙ c.in-Ok.ensures.kept) in
    let reads = subst (λ l. SoFar g.S.Source.answered c.loop.counter c.args.source.now l c.loop.source) (sym kept) c.loop.invariant.reads in
    so_far_ended g.S.Source.answered _ _ _ _ _ _ (drop f new) _ _ reads c.in-Ok-pull_behind.ensures.answered c.in-Some.is c.if-n-eq0.true c.loop-test.true

pub returns-then-filled-most-clause-refused : goal.returns-then-filled-most-clause-refused
returns-then-filled-most-clause-refused g c =
    let f = c.loop.filled in
    let n = c.in-Some.n in
    let new : List ℕ = c.pull_behind.new.bytes.items in
    let kept : take f new ≡ take f c.loop.bytes.items = c.in-Ok-pull_behind.ensures.kept ∙ c.in-Ok.ensures.kept in
    let reads = subst (λ l. SoFar g.S.Source.answered c.loop.counter c.args.source.now l c.loop.source) (sym kept) c.loop.invariant.reads in
    let room : f + n ≤ length new = rw c.in-Some.is at c.in-Ok-pull_behind.ensures.within in
    let few : length (take f new) ≤ c.args.most = omega (arith, length-take-le f new (omega arith), c.loop.invariant.within) in
    let many : c.args.most < length (take f new ++ take n (drop f new)) =
    subst (λ l. c.args.most < length l) (take-add f n new) (omega (arith, length-take-le (f + n) new room, c.if-filled-most.true)) in (
      so_far_passed g.S.Source.answered _ _ _ _ _ _ _ (drop f new) _ n reads few c.loop-test.true c.in-Ok-pull_behind.ensures.answered c.in-Some.is many,
      c.in-Ok-pull_behind.ensures.same ∙ c.loop.invariant.same,
    )

pub loop-preserved : goal.loop-preserved
loop-preserved g c =
    let f = c.loop.filled in
    let n = c.in-Some.n in
    let new : List ℕ = c.pull_behind.new.bytes.items in
    let kept : take f new ≡ take f c.loop.bytes.items = c.in-Ok-pull_behind.ensures.kept ∙ c.in-Ok.ensures.kept in
    let reads = subst (λ l. SoFar g.S.Source.answered c.loop.counter c.args.source.now l c.loop.source) (sym kept) c.loop.invariant.reads in
    let room : f + n ≤ length new = rw c.in-Some.is at c.in-Ok-pull_behind.ensures.within in
    let w : n ≤ length (drop f new) = omega (arith, length-drop f new) in
    let more = so_far_some g.S.Source.answered _ _ _ _ _ (drop f new) _ n reads c.in-Ok-pull_behind.ensures.answered c.in-Some.is w c.if-n-eq0.false in
    record {
      reads = subst (λ l. SoFar g.S.Source.answered (c.loop.counter + 1) c.args.source.now l c.pull_behind.new.source) (sym (take-add f n new)) more;
      within = omega (arith, c.if-filled-most.false);
      room = room;
      same = c.in-Ok-pull_behind.ensures.same ∙ c.loop.invariant.same;
    }
