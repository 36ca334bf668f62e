use Rattle.std.proofs.Common.{◌≡◌, ℕ, reverse, sym, ap, ◌∙◌}
use Rattle.spp_ways.specs.declared.both_ways.BothWays.{BothWays}
use Rattle.spp_ways.specs.Logs.{rest_in}
use Rattle.spp_ways.specs.PathSums.{way_of, last_of, unless_at}
use Rattle.spp_ways.proofs.Pairs.{none_on}
use Rattle.spp_ways.proofs.Leading.{rest_none, unless_at_rest}
use Rattle.spp_ways.proofs.log.Log.merge_rest.Goals as goal

pub returns-then-last-eq0 : goal.returns-then-last-eq0
returns-then-last-eq0 c on key =
    let stops : BothWays = c.args.stops in
    let w : BothWays = unless_at stops c.args.ways in
    let none : last_of w ≡ 0 = ap last_of (sym c.unless_at.ensures) ∙ sym c.last.ensures ∙ c.if-last-eq0.true in
    c.none.ensures on key ∙ sym (rest_none on (reverse c.args.self.now.rows.items) (way_of on stops) key)
    ∙ ap (λ (n : ℕ). rest_in on c.args.self.now n (way_of on stops) key) (sym (none_on w none on))
    ∙ unless_at_rest on (reverse c.args.self.now.rows.items) stops c.args.ways key
