use Rattle.std.proofs.Common.{◌≡◌, ◌+◌, ap, arith, sym, subst, refl, List, length, Some, [], ◌∷◌, ◌++◌, ◌∙◌}
use Rattle.std.specs.Prelude.{slice_get}
use Rattle.std.proofs.lemmas.Option.{slice_get_within}
use Rattle.std.proofs.lemmas.List.{length-append}
use Rattle.spp_maxplus.specs.declared.state.Burdens.{Burdens}
use Rattle.spp_dag.specs.Limits.{AreSmall}
use Rattle.spp_stack.specs.declared.stacks.Start.{Start}
use Rattle.spp_stack.proofs.PartsPassed.{going, gone_first, tops_more, told_next, told_first}
use Rattle.spp_stack.proofs.part_by_part.entries.Goals as goal

first : (c : goal.In_ok-push) → c.push.new.self.items ≡ record { top = 0; at = 0; work = 0 } ∷ []
first c = c.in_ok-push.ensures.items ∙ ap (λ (l : List Start). l ++ record { top = 0; at = 0; work = 0 } ∷ []) c.in_ok-starts.ensures.items

pub loop-summary-init : goal.loop-summary-init
loop-summary-init c = record {
  gone = λ es burdens p. gone_first es burdens c.args.root c.args.summaries.now p c.in_ok-builder.builder c.in_ok-builder.ensures.stands;
  told = λ es burdens p. told_first es burdens c.args.root c.args.summaries.now c.in_ok-builder.builder c.push.new.self.items
      (gone_first es burdens c.args.root c.args.summaries.now p c.in_ok-builder.builder c.in_ok-builder.ensures.stands)
      c.in_ok-builder.ensures.kept (sym c.in_ok-builder.ensures.one) (let s = c.in_ok-builder.ensures.stands in sym s.work) (first c);
  at = refl;
  kept = c.in_ok-builder.ensures.kept;
  starts = ap length (first c);
  nodes = c.in_ok-builder.ensures.one;
  tops = λ k t e. tops_more [] (record { top = 0; at = 0; work = 0 }) 0 (length c.in_ok-builder.builder.nodes.items) (omega arith) (omega (arith, c.in_ok-builder.ensures.one))
      (λ j u g. let l = slice_get_within [] j u g in absurd (omega arith)) k t (subst (λ l. slice_get l k ≡ Some t) (first c) e);
}

pub pass-requires-clause-sound : goal.pass-requires-clause-sound
pass-requires-clause-sound c =
    let p = c.requires.parts in
    let g = c.loop-summary.invariant.gone p.0 p.1 p.2 in
    let n = going p.0 p.1 c.args.root c.args.summaries.now p.2 c.loop-summary.summary-index c.summary-item.result c.loop-summary.builder c.loop-summary-test.true c.summary-item.is g in
    n.sound

pub pass-requires-clause-stands : goal.pass-requires-clause-stands
pass-requires-clause-stands c =
    let p = c.requires.parts in
    let g = c.loop-summary.invariant.gone p.0 p.1 p.2 in
    let n = going p.0 p.1 c.args.root c.args.summaries.now p.2 c.loop-summary.summary-index c.summary-item.result c.loop-summary.builder c.loop-summary-test.true c.summary-item.is g in
    let light : AreSmall c.summary-item.result.burdens = subst (λ (b : Burdens). AreSmall b) c.burdens.ensures (record { continuation = c.are_small.ensures.continuation; join = c.are_small.ensures.join }) in
    (g.at, g.stands, n.goes, n.load light)

pub pass-requires-clause-few : goal.pass-requires-clause-few
pass-requires-clause-few c =
    let p = c.requires.parts in
    let g = c.loop-summary.invariant.gone p.0 p.1 p.2 in
    let n = going p.0 p.1 c.args.root c.args.summaries.now p.2 c.loop-summary.summary-index c.summary-item.result c.loop-summary.builder c.loop-summary-test.true c.summary-item.is g in
    omega (arith, n.frames, c.loop-summary.invariant.nodes, c.requires.few, c.loop-summary-test.true)

pub pass-requires-clause-before : goal.pass-requires-clause-before
pass-requires-clause-before c =
    let p = c.requires.parts in
    let g = c.loop-summary.invariant.gone p.0 p.1 p.2 in
    let n = going p.0 p.1 c.args.root c.args.summaries.now p.2 c.loop-summary.summary-index c.summary-item.result c.loop-summary.builder c.loop-summary-test.true c.summary-item.is g in
    let s = g.stands in
    omega (arith, n.before, s.work)

pub pass-requires-clause-work : goal.pass-requires-clause-work
pass-requires-clause-work c =
    let p = c.requires.parts in
    let g = c.loop-summary.invariant.gone p.0 p.1 p.2 in
    let n = going p.0 p.1 c.args.root c.args.summaries.now p.2 c.loop-summary.summary-index c.summary-item.result c.loop-summary.builder c.loop-summary-test.true c.summary-item.is g in
    let s = g.stands in
    omega (arith, n.work, s.work)

pub overflow_add-at : goal.overflow_add-at
overflow_add-at c =
    let p = c.requires.parts in
    let g = c.loop-summary.invariant.gone p.0 p.1 p.2 in
    let small = p.2.small in
    let gone = g.follows in
    omega (arith, c.loop-summary.invariant.at, gone.within, small.events, c.events-at.ensures.range)

pub last-requires-clause-few : goal.last-requires-clause-few
last-requires-clause-few c =
    let p = c.requires.parts in
    let g = c.loop-summary.invariant.gone p.0 p.1 p.2 in
    let n = going p.0 p.1 c.args.root c.args.summaries.now p.2 c.loop-summary.summary-index c.summary-item.result c.loop-summary.builder c.loop-summary-test.true c.summary-item.is g in
    omega (arith, n.frames, c.loop-summary.invariant.nodes, c.requires.few, c.loop-summary-test.true, c.in_ok-pass.ensures.count)

pub loop-summary-preserved : goal.loop-summary-preserved
loop-summary-preserved c =
    let i = c.loop-summary.summary-index in
    let p = c.requires.parts in
    let h = c.loop-summary.invariant.gone p.0 p.1 p.2 in
    let m = going p.0 p.1 c.args.root c.args.summaries.now p.2 i c.summary-item.result c.loop-summary.builder c.loop-summary-test.true c.summary-item.is h in
    let long = ap length c.in_ok-push-2.ensures.items in
    record {
      gone = λ es burdens q.
          let g = c.loop-summary.invariant.gone es burdens q in
          let n = going es burdens c.args.root c.args.summaries.now q i c.summary-item.result c.loop-summary.builder c.loop-summary-test.true c.summary-item.is g in
          n.next c.pass.new.self (c.in_ok-pass.ensures.stands g.at g.stands n.goes);
      told = λ es burdens q.
          let g = c.loop-summary.invariant.gone es burdens q in
          let n = going es burdens c.args.root c.args.summaries.now q i c.summary-item.result c.loop-summary.builder c.loop-summary-test.true c.summary-item.is g in
          told_next es burdens c.args.root c.args.summaries.now c.loop-summary.builder c.pass.new.self c.loop-summary.starts.items c.push-in-loop-summary.new.self.items c.last.result (c.loop-summary.at + c.events-at.result) c.pass.new.self.work i
          (c.loop-summary.invariant.told es burdens q) c.in_ok-pass.ensures.chains (n.next c.pass.new.self (c.in_ok-pass.ensures.stands g.at g.stands n.goes))
          c.in_ok-pass.ensures.kept c.last.ensures (omega (arith, c.loop-summary.invariant.at, c.events-at.ensures.value, n.begin)) refl c.loop-summary.invariant.starts c.in_ok-push-2.ensures.items;
      at = omega (arith, c.loop-summary.invariant.at, c.events-at.ensures.value, m.begin);
      kept = c.in_ok-pass.ensures.kept;
      starts = omega (arith, c.loop-summary.invariant.starts, length-append c.loop-summary.starts.items (record { top = c.last.result; at = c.loop-summary.at + c.events-at.result; work = c.pass.new.self.work } ∷ []));
      nodes = omega (arith, c.in_ok-pass.ensures.count, c.loop-summary.invariant.nodes, m.opened);
      tops = λ k t e. tops_more c.loop-summary.starts.items (record { top = c.last.result; at = c.loop-summary.at + c.events-at.result; work = c.pass.new.self.work }) (length c.loop-summary.builder.nodes.items) (length c.pass.new.self.nodes.items)
          (omega (arith, c.in_ok-pass.ensures.count)) (omega (arith, c.last.ensures)) c.loop-summary.invariant.tops k t (subst (λ l. slice_get l k ≡ Some t) c.in_ok-push-2.ensures.items e);
    }

pub invariant_of-result : goal.invariant_of-result
invariant_of-result c =
    let p = c.requires.parts in
    let g = c.loop-summary.invariant.gone p.0 p.1 p.2 in
    let s = g.stands in
    record {
      some = omega (arith, c.loop-summary.invariant.starts);
      tops = c.loop-summary.invariant.tops;
      tree = s.tree;
      linked = s.linked;
    }
