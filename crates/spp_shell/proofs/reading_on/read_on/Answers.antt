use Rattle.std.proofs.Common.{◌<◌, ◌^◌, [], List, ℕ, take, refl, sym, subst, ◌∙◌, arith}
use Rattle.spp_shell.specs.Devices.{giving_of}
use Rattle.spp_shell.specs.Streams.{HasRead}
use Rattle.spp_shell.proofs.Streams.{stream_turns}
use Rattle.spp_shell.proofs.reading_on.read_on.Goals as goal
use Rattle.spp_shell.proofs.reading_on.read_on.Goals.{in_default-via-in-None-1, in_default-via-in-Some+else-is_in}

pub returns-in-Err-clause-refused : goal.returns-in-Err-clause-refused
returns-in-Err-clause-refused g c = λ s h.
    let lt : c.loop-turn.turn < 2 ^ 33 = omega (arith, c.loop-turn-test.true) in
    let here = subst (λ (l : List ℕ). HasRead g.S.Source.answered g.S.Source.failed g.S.Source.failures c.loop-turn.turn s l c.loop-turn.source) (sym c.in-Ok.ensures.kept) (c.loop-turn.invariant.read s h) in
    c.in-Err.ensures.refused c.loop-turn.turn s [] lt refl here

pub returns-in-Ok-None-clause-read : goal.returns-in-Ok-None-clause-read
returns-in-Ok-None-clause-read g c = λ s h.
    let lt : c.loop-turn.turn < 2 ^ 33 = omega (arith, c.loop-turn-test.true) in
    let here = subst (λ (l : List ℕ). HasRead g.S.Source.answered g.S.Source.failed g.S.Source.failures c.loop-turn.turn s l c.loop-turn.source) (sym c.in-Ok.ensures.kept) (c.loop-turn.invariant.read s h) in
    let got = rw c.in-Ok-None.field-0-is at (c.in-Ok-None.ensures.read c.loop-turn.turn s [] lt refl here) in
    subst (λ (l : List ℕ). (giving_of g.S.Source.answered g.S.Source.failed g.S.Source.failures s c.read_more.new.source).Gave l) (sym (c.truncate.ensures.items ∙ c.in-Ok-None.ensures.kept)) got

pub returns-in-loop-turn-clause-read : goal.returns-in-loop-turn-clause-read
returns-in-loop-turn-clause-read g c = λ s h. c.loop-turn.invariant.read s h

pub loop-turn-preserved : goal.loop-turn-preserved
loop-turn-preserved g c =
    let within = rw c.in-Ok-Some.field-0-is at c.in-Ok-Some.ensures.within in
    record {
      read = λ s h.
          let lt : c.loop-turn.turn < 2 ^ 33 = omega (arith, c.loop-turn-test.true) in
          let here = subst (λ (l : List ℕ). HasRead g.S.Source.answered g.S.Source.failed g.S.Source.failures c.loop-turn.turn s l c.loop-turn.source) (sym c.in-Ok.ensures.kept) (c.loop-turn.invariant.read s h) in
          rw c.in-Ok-Some.field-0-is at (c.in-Ok-Some.ensures.read c.loop-turn.turn s [] lt refl here);
      room = within.1;
      few = omega (arith, within.2);
      none = λ e. elim c.in_default.branch [
        | in_default-via-in-None-1 w ↦ w.header-is ∙ c.loop-turn.invariant.none e
        | in_default-via-in-Some+else-is_in w ↦ let before = c.loop-turn.invariant.none e in absurd (cc (before, w.in-Some.is))
      ];
    }

pub returns-clause-refused : goal.returns-clause-refused
returns-clause-refused g c = λ s h.
    stream_turns g.S.Source.answered g.S.Source.failed g.S.Source.failures c.loop-turn.turn s c.loop-turn.source (take c.loop-turn.filled c.loop-turn.bytes.items) (c.loop-turn.invariant.read s h) (omega arith) (omega arith)
