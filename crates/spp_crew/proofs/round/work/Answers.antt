use Rattle.std.proofs.Common.{rules, ◌≡◌, [], ◌+◌, length, false, ◌∷◌, ◌++◌, arith, sym, ap, ◌∙◌, subst, length-append}
use Rattle.spp_book.specs.Counters.{has_past}
use Rattle.spp_crew.specs.Rounds.{IsBehind}
use Rattle.spp_crew.proofs.Draws.{AreApart, few_apart, more_apart, drained_now, behind_now, on_err}
use Rattle.spp_crew.proofs.round.work.Goals as goal

pub loop-draw-preserved : goal.loop-draw-preserved
loop-draw-preserved g c =
    let parts = g.J.Job.parts_of g.N.Naming.job in
    let before = c.loop-draw.invariant in
    let drawn = c.in-Some.ensures.drawn in
    let more = more_apart parts c.in-Some.number c.loop-draw.pass.drawn before.apart drawn.0 drawn.1 in
    let is : c.put.new.pass.drawn ≡ c.loop-draw.pass.drawn ++ c.in-Some.number ∷ [] = ap (λ p. p.drawn) c.put.ensures.kept ∙ drawn.2 in
    let long = ap length is in
    let append = length-append c.loop-draw.pass.drawn (c.in-Some.number ∷ []) in
    let raised : c.put.new.pass.share ≡ c.draw.new.pass.share + 1 = c.in-Ok.ensures.raised in
    let same : c.draw.new.pass.share ≡ c.loop-draw.pass.share = ap (λ p. p.share) c.draw.ensures.kept in
    record {
      unfinished = search rules;
      workers = search rules;
      of = search rules;
      apart = subst (AreApart parts) (sym is) more;
      count = omega (arith, long, append, before.count);
      put = omega (arith, long, append, raised, same, before.put);
    }

pub returns-in_default-clause-drained : goal.returns-in_default-clause-drained
returns-in_default-clause-drained g c =
    let before = c.loop-draw.invariant in
    let now = c.draw.new.pass in
    let drawn = c.in_default.ensures.drawn in
    let parts : now.parts ≡ c.loop-draw.pass.parts = ap (λ p. p.parts) c.draw.ensures.kept in
    let share : now.share ≡ c.loop-draw.pass.share = ap (λ p. p.share) c.draw.ensures.kept in
    let unfinished = subst (λ n. has_past n c.loop-draw.pass.drawn ≡ false) (sym parts) before.unfinished in
    drained_now now c.loop-draw.pass.drawn drawn.0 drawn.2 unfinished c.in_default.ensures.past (share ∙ before.put)

pub returns-in_err-content-clause-stopped : goal.returns-in_err-content-clause-stopped
returns-in_err-content-clause-stopped g c =
    let before = c.loop-draw.invariant in
    let now = c.draw.new.pass in
    let share : now.share ≡ c.loop-draw.pass.share = ap (λ p. p.share) c.draw.ensures.kept in
    on_err c.from_residual.result (IsBehind now)
    (behind_now now c.loop-draw.pass.drawn c.in-Some.number c.in-Some.ensures.drawn.2 c.in-Some.ensures.past (share ∙ before.put))

pub returns-in_default-put-clause-stopped : goal.returns-in_default-put-clause-stopped
returns-in_default-put-clause-stopped g c =
    let before = c.loop-draw.invariant in
    let now = c.draw.new.pass in
    let share : now.share ≡ c.loop-draw.pass.share = ap (λ p. p.share) c.draw.ensures.kept in
    subst IsBehind (sym c.in_default-put.ensures.same)
    (behind_now now c.loop-draw.pass.drawn c.in-Some.number c.in-Some.ensures.drawn.2 c.in-Some.ensures.past (share ∙ before.put))

pub unreachable-requires : goal.unreachable-requires
unreachable-requires g c =
    let before = c.loop-draw.invariant in
    let few = few_apart (g.J.Job.parts_of g.N.Naming.job) c.loop-draw.pass.drawn before.apart in
    let draws = c.parts-draws.ensures.parts in
    omega (arith, few, before.count, ap g.J.Job.parts_of c.requires.job, draws, c.loop-draw-test.false)
