use Rattle.std.proofs.Common.{◌≡◌, ◌<◌, ◌-◌, ◌+◌, ◌^◌, ◌++◌, List, ℕ, [], ◌∷◌, length, take, ap, subst, ◌∙◌, append-nil, arith, refl, inl, inr}
use Rattle.std.proofs.lemmas.List.{length-append, length-take-le}
use Rattle.spp_shell.specs.Devices.{Giving, giving_of}
use Rattle.spp_shell.specs.Encode.{IsEncodeText, IsOneEncodeLine}
use Rattle.spp_shell.specs.Streams.{HasRead}
use Rattle.spp_shell.specs.TextSoFar.{IsForeseenLine}
use Rattle.spp_shell.specs.declared.place.Place.TheVariants.{Only}
use Rattle.spp_shell.specs.declared.reading.ReadFault.TheVariants.{TooLong}
use Rattle.spp_shell.specs.declared.refusal.Refusal.TheVariants.{Memory}
use Rattle.spp_shell.proofs.Checks.{read_refused}
use Rattle.spp_shell.proofs.Inputs.{err_again, foreseen_refused}
use Rattle.spp_shell.proofs.Refusals.{line_then}
use Rattle.spp_shell.proofs.Streams.{began_within, read_first, stream_turns}
use Rattle.spp_shell.proofs.TextsApart.{moved_behind}
use Rattle.spp_shell.proofs.Told.{line_of_given, told_of_given, refused_of_given}
use Rattle.spp_shell.proofs.encode_task.encode_input.Goals as goal

pub returns-in_err-now-clause-refused : goal.returns-in_err-now-clause-refused
returns-in_err-now-clause-refused g c =
    let q = c.loop.invariant.come in
    let lt : c.loop.counter < 2 ^ 33 = omega (arith, c.loop-test.true) in
    let input : Giving = giving_of g.S.Source.answered g.S.Source.failed g.S.Source.failures c.args.source.now c.loop.source in
    let came : List ℕ = q.0 ++ take c.loop.filled c.loop.bytes.items in
    let told = c.in_err-now.field-0.0 in
    let began = read_first g.S.Source.answered g.S.Source.failed g.S.Source.failures c.loop.counter c.args.source.now c.loop.source came q.4 lt in
    err_again _ told _ c.from_residual.ensures.1
    (foreseen_refused input Only IsOneEncodeLine came began (began_within g.S.Source.answered g.S.Source.failed g.S.Source.failures c.args.source.now c.loop.source came began) told (c.in_err-now.ensures.refused q.0 q.1 q.2))

pub returns-in_err-make_room-clause-refused : goal.returns-in_err-make_room-clause-refused
returns-in_err-make_room-clause-refused g c =
    let q = c.loop.invariant.come in
    let lt : c.loop.counter < 2 ^ 33 = omega (arith, c.loop-test.true) in
    let came : List ℕ = q.0 ++ take c.loop.filled c.loop.bytes.items in
    let began = read_first g.S.Source.answered g.S.Source.failed g.S.Source.failures c.loop.counter c.args.source.now c.loop.source came q.4 lt in
    err_again _ Memory _ c.from_residual-in_err-make_room.ensures.1 (began_within g.S.Source.answered g.S.Source.failed g.S.Source.failures c.args.source.now c.loop.source came began)

pub returns-in-Err-clause-refused : goal.returns-in-Err-clause-refused
returns-in-Err-clause-refused g c =
    let q = c.loop.invariant.come in
    let lt : c.loop.counter < 2 ^ 33 = omega (arith, c.loop-test.true) in
    let front : List ℕ = q.0 in
    let old : List ℕ = c.loop.bytes.items in
    let left = c.in_ok-now.left in
    let block = c.in_ok-now.ensures in
    let within = block.within in
    let read : List ℕ = front ++ take (c.loop.filled - left) old in
    let come = block.come front q.1 q.2 in
    let here = subst (λ (l : List ℕ). HasRead g.S.Source.answered g.S.Source.failed g.S.Source.failures c.loop.counter c.args.source.now l c.loop.source) (moved_behind front old c.make_room.new.bytes.items c.loop.filled left within (c.in_ok-make_room.ensures.kept ∙ block.left)) q.4 in
    let held = c.loop.invariant.held in
    let long : length read ≡ c.loop.before + (c.loop.filled - left) = omega (arith, q.3, length-append front (take (c.loop.filled - left) old), length-take-le (c.loop.filled - left) old (omega (arith, held))) in
    let input : Giving = giving_of g.S.Source.answered g.S.Source.failed g.S.Source.failures c.args.source.now c.read_more.new.source in
    read_refused input Only IsOneEncodeLine c.in-Err.fault c.refusal_of_read.result c.refusal_of_read.ensures (c.in-Err.ensures.refused c.loop.counter c.args.source.now read lt long here) (λ r. inl r.0)

pub returns-in_err-followed_by-in-Ok-None-clause-refused : goal.returns-in_err-followed_by-in-Ok-None-clause-refused
returns-in_err-followed_by-in-Ok-None-clause-refused g c =
    let q = c.loop.invariant.come in
    let lt : c.loop.counter < 2 ^ 33 = omega (arith, c.loop-test.true) in
    let front : List ℕ = q.0 in
    let old : List ℕ = c.loop.bytes.items in
    let left = c.in_ok-now.left in
    let block = c.in_ok-now.ensures in
    let within = block.within in
    let read : List ℕ = front ++ take (c.loop.filled - left) old in
    let come = block.come front q.1 q.2 in
    let here = subst (λ (l : List ℕ). HasRead g.S.Source.answered g.S.Source.failed g.S.Source.failures c.loop.counter c.args.source.now l c.loop.source) (moved_behind front old c.make_room.new.bytes.items c.loop.filled left within (c.in_ok-make_room.ensures.kept ∙ block.left)) q.4 in
    let held = c.loop.invariant.held in
    let long : length read ≡ c.loop.before + (c.loop.filled - left) = omega (arith, q.3, length-append front (take (c.loop.filled - left) old), length-take-le (c.loop.filled - left) old (omega (arith, held))) in
    let input : Giving = giving_of g.S.Source.answered g.S.Source.failed g.S.Source.failures c.args.source.now c.read_more.new.source in
    let all : List ℕ = read ++ take left c.make_room.new.bytes.items in
    let gave = rw c.in-Ok-None.field-0-is at (c.in-Ok-None.ensures.read c.loop.counter c.args.source.now read lt long here) in
    let same = ap (λ (l : List ℕ). take left l) c.deref.ensures.value ∙ c.in-Ok-None.ensures.kept in
    let told = c.in_err-followed_by-in-Ok-None.field-0.0 in
    err_again _ told _ c.from_residual-in_err-followed_by-in-Ok-None.ensures.1
    (line_of_given input all gave (inr (all, gave)) Only IsOneEncodeLine told
    (line_then told (IsForeseenLine all) (IsOneEncodeLine all) (rw same at (c.in_err-followed_by-in-Ok-None.ensures.refused read come.0 come.1)) (λ line is. subst (λ (l : List ℕ). IsOneEncodeLine l line) (append-nil all) (is [] (inr refl)))))

pub returns-in-Ok-None-clause-text : goal.returns-in-Ok-None-clause-text
returns-in-Ok-None-clause-text g c =
    let q = c.loop.invariant.come in
    let lt : c.loop.counter < 2 ^ 33 = omega (arith, c.loop-test.true) in
    let front : List ℕ = q.0 in
    let old : List ℕ = c.loop.bytes.items in
    let left = c.in_ok-now.left in
    let block = c.in_ok-now.ensures in
    let within = block.within in
    let read : List ℕ = front ++ take (c.loop.filled - left) old in
    let come = block.come front q.1 q.2 in
    let here = subst (λ (l : List ℕ). HasRead g.S.Source.answered g.S.Source.failed g.S.Source.failures c.loop.counter c.args.source.now l c.loop.source) (moved_behind front old c.make_room.new.bytes.items c.loop.filled left within (c.in_ok-make_room.ensures.kept ∙ block.left)) q.4 in
    let held = c.loop.invariant.held in
    let long : length read ≡ c.loop.before + (c.loop.filled - left) = omega (arith, q.3, length-append front (take (c.loop.filled - left) old), length-take-le (c.loop.filled - left) old (omega (arith, held))) in
    let input : Giving = giving_of g.S.Source.answered g.S.Source.failed g.S.Source.failures c.args.source.now c.read_more.new.source in
    let all : List ℕ = read ++ take left c.make_room.new.bytes.items in
    let gave = rw c.in-Ok-None.field-0-is at (c.in-Ok-None.ensures.read c.loop.counter c.args.source.now read lt long here) in
    let same = ap (λ (l : List ℕ). take left l) c.deref.ensures.value ∙ c.in-Ok-None.ensures.kept in
    let whole = rw same at (c.in_ok-followed_by-in-Ok-None.ensures.come read come.0 come.1) in
    told_of_given input all gave (λ bytes text. IsEncodeText (bytes ∷ []) text.items) c.end.result (c.end.ensures.text all whole)

pub returns-in-Ok-None-clause-refused : goal.returns-in-Ok-None-clause-refused
returns-in-Ok-None-clause-refused g c =
    let q = c.loop.invariant.come in
    let lt : c.loop.counter < 2 ^ 33 = omega (arith, c.loop-test.true) in
    let front : List ℕ = q.0 in
    let old : List ℕ = c.loop.bytes.items in
    let left = c.in_ok-now.left in
    let block = c.in_ok-now.ensures in
    let within = block.within in
    let read : List ℕ = front ++ take (c.loop.filled - left) old in
    let come = block.come front q.1 q.2 in
    let here = subst (λ (l : List ℕ). HasRead g.S.Source.answered g.S.Source.failed g.S.Source.failures c.loop.counter c.args.source.now l c.loop.source) (moved_behind front old c.make_room.new.bytes.items c.loop.filled left within (c.in_ok-make_room.ensures.kept ∙ block.left)) q.4 in
    let held = c.loop.invariant.held in
    let long : length read ≡ c.loop.before + (c.loop.filled - left) = omega (arith, q.3, length-append front (take (c.loop.filled - left) old), length-take-le (c.loop.filled - left) old (omega (arith, held))) in
    let input : Giving = giving_of g.S.Source.answered g.S.Source.failed g.S.Source.failures c.args.source.now c.read_more.new.source in
    let all : List ℕ = read ++ take left c.make_room.new.bytes.items in
    let gave = rw c.in-Ok-None.field-0-is at (c.in-Ok-None.ensures.read c.loop.counter c.args.source.now read lt long here) in
    let same = ap (λ (l : List ℕ). take left l) c.deref.ensures.value ∙ c.in-Ok-None.ensures.kept in
    let whole = rw same at (c.in_ok-followed_by-in-Ok-None.ensures.come read come.0 come.1) in
    refused_of_given input all gave (inr (all, gave)) Only IsOneEncodeLine c.end.result (c.end.ensures.line all whole)

pub loop-preserved : goal.loop-preserved
loop-preserved g c =
    let q = c.loop.invariant.come in
    let lt : c.loop.counter < 2 ^ 33 = omega (arith, c.loop-test.true) in
    let front : List ℕ = q.0 in
    let old : List ℕ = c.loop.bytes.items in
    let left = c.in_ok-now.left in
    let block = c.in_ok-now.ensures in
    let within = block.within in
    let read : List ℕ = front ++ take (c.loop.filled - left) old in
    let come = block.come front q.1 q.2 in
    let here = subst (λ (l : List ℕ). HasRead g.S.Source.answered g.S.Source.failed g.S.Source.failures c.loop.counter c.args.source.now l c.loop.source) (moved_behind front old c.make_room.new.bytes.items c.loop.filled left within (c.in_ok-make_room.ensures.kept ∙ block.left)) q.4 in
    let held = c.loop.invariant.held in
    let long : length read ≡ c.loop.before + (c.loop.filled - left) = omega (arith, q.3, length-append front (take (c.loop.filled - left) old), length-take-le (c.loop.filled - left) old (omega (arith, held))) in
    let more = rw c.in-Ok-Some.field-0-is at c.in-Ok-Some.ensures.within in
    let next = rw c.in-Ok-Some.field-0-is at (c.in-Ok-Some.ensures.read c.loop.counter c.args.source.now read lt long here) in
    record { come = (read, come.0, come.1, long, next); held = more.1; within = more.2 }

pub returns-clause-refused : goal.returns-clause-refused
returns-clause-refused g c =
    let q = c.loop.invariant.come in
    let input : Giving = giving_of g.S.Source.answered g.S.Source.failed g.S.Source.failures c.args.source.now c.loop.source in
    read_refused input Only IsOneEncodeLine TooLong c.refusal_of_read-2.result c.refusal_of_read-2.ensures
    (stream_turns g.S.Source.answered g.S.Source.failed g.S.Source.failures c.loop.counter c.args.source.now c.loop.source (q.0 ++ take c.loop.filled c.loop.bytes.items) q.4 (omega arith) (omega arith)) (λ r. inl r.0)
