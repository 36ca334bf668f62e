use Rattle.std.proofs.Common.{◌≡◌, ◌+◌, ◌||◌, sym, ap, ap₂, ◌∙◌, arith}
use Rattle.spp_book.specs.Counters.{has_past}
use Rattle.spp_book.proofs.Totals.{has_past_append}
use Rattle.spp_book.proofs.Counters.{joins_kept}
use Rattle.spp_book.proofs.counter.Counter.rejoin.Goals.{then-one, else-one}
use Rattle.spp_book.proofs.counter.Counter.rejoin.Goals as goal

pub join_seat-requires : goal.join_seat-requires
join_seat-requires c =
    let me = c.args.me in
    let other = c.args.other in
    let key = c.args.self.now.table.shared.key in (
      c.requires.table.0,
      c.requires.table.1,
      other.bare,
      omega (arith, c.args.self.now.one_word),
      λ s kept at apart there. joins_kept key.parts key.workers s.words s.views me.seat.id me.seat.me.0 other.seat.id other.seat.me.0 kept at apart there,
    )

pub invariant_of-result : goal.invariant_of-result
invariant_of-result c =
    let me = c.args.me in
    let other = c.args.other in
    let e = c.join_seat.ensures.2 in
    let xs = me.seat.me.0.drawn in
    let ys = other.seat.me.0.drawn in
    let is : c.if-one.result ≡ (me.finished || other.finished) =
    elim c.if-one.branch [
      | then-one w ↦ w.result-is ∙ w.if-one.true ∙ sym (ap (λ b. b || other.finished) w.if-one.true)
      | else-one w ↦ w.result-is ∙ sym (ap (λ b. b || other.finished) w.if-one.false)
    ] in
    let theirs : other.finished ≡ has_past me.parts ys = other.is_finished ∙ ap (λ p. has_past p ys) c.requires.parts in
    record {
      bare = ap (λ m. m.1) e ∙ me.bare;
      allowance = ap (λ m. m.0.workers) e ∙ ap₂ (λ a b. a + b) me.allowance other.allowance;
      some = omega (arith, me.some);
      is_finished = is ∙ (ap₂ (λ a b. a || b) me.is_finished theirs ∙ sym (ap (λ m. has_past me.parts m.0.drawn) e ∙ has_past_append me.parts xs ys));
    }
