use Rattle.std.proofs.Common.{◌≡◌, ◌∙◌}
use Rattle.spp_book.proofs.Counters.{whole_drawn}
use Rattle.spp_book.proofs.counter.Counter.close.Goals as goal

pub returns : goal.returns
returns c =
    let me = c.args.me in
    let key = c.args.self.table.shared.key in
    let last = c.close_with.ensures.values.2 in
    let s = last.0 in
    let kept = last.1.0 in
    let whole : me.seat.me.0.workers ≡ key.workers = me.allowance ∙ c.requires.whole in
    (kept.next, whole_drawn key.parts key.workers s.words s.views me.seat.id me.seat.me.0 kept last.1.1 whole)
