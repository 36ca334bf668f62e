use Rattle.std.proofs.Common.{◌≡◌, ◌<◌, sym, ap, ◌∙◌, arith, false}
use Rattle.spp_book.specs.Counters.{has_past}
use Rattle.spp_book.proofs.Counters.{splits_kept}
use Rattle.spp_book.proofs.counter.split_as.Goals as goal

pub split_seat-other-requires : goal.split_seat-other-requires
split_seat-other-requires g c =
    let me = c.args.me in
    let key = c.args.counter.now.table.shared.key in
    let same : key.parts ≡ me.parts = c.args.counter.now.of_parts ∙ sym c.requires.table.1 in
    let free : has_past key.parts me.seat.me.0.drawn ≡ false = ap (λ p. has_past p me.seat.me.0.drawn) same ∙ c.requires.open in
    let some : 0 < g.G.Giving.given = omega (arith, c.requires.some, c.requires.given) in
    let le : g.G.Giving.given < me.seat.me.0.workers = omega (arith, me.allowance, c.requires.rest, c.requires.given) in (
      c.requires.table.0,
      omega (arith, c.args.counter.now.one_word),
      λ s kept at. splits_kept key.parts key.workers s.words s.views me.seat.id me.seat.me.0 g.G.Giving.given kept at free some le,
    )
