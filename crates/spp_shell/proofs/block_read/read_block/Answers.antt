use Rattle.std.proofs.Common.{◌≡◌, ◌<◌, ◌^◌, ◌++◌, List, ℕ, take, sym, subst, ◌∙◌, arith}
use Rattle.spp_shell.specs.Devices.{giving_of}
use Rattle.spp_shell.specs.Streams.{HasRead}
use Rattle.spp_shell.proofs.BlockReads.{next_kept, prefix_kept}
use Rattle.spp_shell.proofs.Streams.{stream_memory, stream_turns}
use Rattle.spp_shell.proofs.block_read.read_block.Goals as goal

pub returns-in_default-clause-refused : goal.returns-in_default-clause-refused
returns-in_default-clause-refused g c = λ s xs e h.
    let lt : c.loop-turn.turn < 2 ^ 33 = omega (arith, c.loop-turn-test.true) in
    stream_memory g.S.Source.answered g.S.Source.failed g.S.Source.failures c.loop-turn.turn s c.loop-turn.source (xs ++ take c.loop-turn.filled c.loop-turn.bytes.items) (c.loop-turn.invariant.read s xs e h) lt

pub returns-in-Err-clause-refused : goal.returns-in-Err-clause-refused
returns-in-Err-clause-refused g c = λ s xs e h.
    let lt : c.loop-turn.turn < 2 ^ 33 = omega (arith, c.loop-turn-test.true) in
    let here = subst (λ (l : List ℕ). HasRead g.S.Source.answered g.S.Source.failed g.S.Source.failures c.loop-turn.turn s (xs ++ l) c.loop-turn.source) (sym c.in-Ok.ensures.kept) (c.loop-turn.invariant.read s xs e h) in
    c.in-Err.ensures.refused c.loop-turn.turn s xs lt e here

pub returns-in-Ok-None-clause-next : goal.returns-in-Ok-None-clause-next
returns-in-Ok-None-clause-next g c =
    let old : List ℕ = c.args.came.bytes.items in
    let new : List ℕ = c.read_more.new.bytes.items in
    let f = c.args.came.filled in
    let k = c.loop-turn.filled in
    let same : take k new ≡ take k c.loop-turn.bytes.items = c.in-Ok-None.ensures.kept ∙ c.in-Ok.ensures.kept in
    let kept : take f new ≡ take f old = prefix_kept f k old c.loop-turn.bytes.items new c.loop-turn.invariant.grown same c.loop-turn.invariant.kept in
    let lt : c.loop-turn.turn < 2 ^ 33 = omega (arith, c.loop-turn-test.true) in
    record {
      kept = next_kept f k old new c.args.came.held c.loop-turn.invariant.grown kept;
      within = c.loop-turn.invariant.within;
      full = λ no. absurd (cc no);
      read = λ s xs e h.
          let here = subst (λ (l : List ℕ). HasRead g.S.Source.answered g.S.Source.failed g.S.Source.failures c.loop-turn.turn s (xs ++ l) c.loop-turn.source) (sym c.in-Ok.ensures.kept) (c.loop-turn.invariant.read s xs e h) in
          let got = rw c.in-Ok-None.field-0-is at (c.in-Ok-None.ensures.read c.loop-turn.turn s xs lt e here) in
          ((λ no. absurd (cc no)), (λ ends. subst (λ (l : List ℕ). (giving_of g.S.Source.answered g.S.Source.failed g.S.Source.failures s c.read_more.new.source).Gave (xs ++ l)) (sym c.in-Ok-None.ensures.kept) got));
    }

pub loop-turn-preserved : goal.loop-turn-preserved
loop-turn-preserved g c =
    let within = rw c.in-Ok-Some.field-0-is at c.in-Ok-Some.ensures.within in
    let lt : c.loop-turn.turn < 2 ^ 33 = omega (arith, c.loop-turn-test.true) in
    record {
      read = λ s xs e h.
          let here = subst (λ (l : List ℕ). HasRead g.S.Source.answered g.S.Source.failed g.S.Source.failures c.loop-turn.turn s (xs ++ l) c.loop-turn.source) (sym c.in-Ok.ensures.kept) (c.loop-turn.invariant.read s xs e h) in
          rw c.in-Ok-Some.field-0-is at (c.in-Ok-Some.ensures.read c.loop-turn.turn s xs lt e here);
      held = within.1;
      within = within.2;
      grown = (let g = c.loop-turn.invariant.grown in omega (arith, within.0, g));
      kept = prefix_kept c.args.came.filled c.loop-turn.filled c.args.came.bytes.items c.loop-turn.bytes.items c.read_more.new.bytes.items c.loop-turn.invariant.grown (c.in-Ok-Some.ensures.kept ∙ c.in-Ok.ensures.kept) c.loop-turn.invariant.kept;
    }

pub returns-clause-refused : goal.returns-clause-refused
returns-clause-refused g c = λ s xs e h.
    stream_turns g.S.Source.answered g.S.Source.failed g.S.Source.failures c.loop-turn.turn s c.loop-turn.source (xs ++ take c.loop-turn.filled c.loop-turn.bytes.items) (c.loop-turn.invariant.read s xs e h) (omega arith) (omega arith)
