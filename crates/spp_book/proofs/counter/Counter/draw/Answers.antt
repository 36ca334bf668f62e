use Rattle.std.proofs.Common.{◌≡◌, ◌<◌, ◌≤◌, slice_index, ◌++◌, ◌∷◌, [], sym, ap, ◌∙◌, arith, refl, false}
use Rattle.atomic_table.specs.Table.{keeps}
use Rattle.spp_book.specs.Counters.{hand, has_past}
use Rattle.spp_book.proofs.Totals.{snoc_same, snoc_now}
use Rattle.spp_book.proofs.Counters.{draws_kept, draw_new}
use Rattle.spp_book.proofs.counter.Counter.draw.Goals as goal

pub fetch_add-found-requires : goal.fetch_add-found-requires
fetch_add-found-requires c =
    let me = c.args.me.now in
    let key = c.args.self.now.table.shared.key in
    let same : key.parts ≡ me.parts = c.args.self.now.of_parts ∙ sym c.requires.parts in
    let free : has_past key.parts me.seat.me.0.drawn ≡ false = ap (λ p. has_past p me.seat.me.0.drawn) same ∙ c.requires.open in
    let some_worker : 0 < me.seat.me.0.workers = omega (arith, me.allowance, me.some) in (
      c.requires.table,
      omega (arith, c.args.self.now.one_word),
      λ s kept homes at small. (
        hand me.seat.me.0.workers (me.seat.me.0.drawn ++ slice_index s.words 0 ∷ []),
        keeps,
        tt,
        draws_kept key.parts key.workers s.words s.views me.seat.id me.seat.me.0 kept at free some_worker,
        record { new = refl; fresh = draw_new key.parts key.workers s.words s.views me.seat.id me.seat.me.0 kept at },
      ),
    )

pub invariant_of-me : goal.invariant_of-me
invariant_of-me c =
    let me = c.args.me.now in
    let e = c.fetch_add-found.ensures.2.new in
    let drawn = me.seat.me.0.drawn in
    let found = c.fetch_add-found.result in
    let lt : found < me.parts = omega (arith, c.if-found-self.true, c.requires.parts) in
    record {
      bare = ap (λ m. m.1) e ∙ me.bare;
      allowance = ap (λ m. m.0.workers) e ∙ me.allowance;
      some = me.some;
      is_finished = snoc_same me.parts drawn found me.finished me.is_finished lt ∙ sym (ap (λ m. has_past me.parts m.0.drawn) e);
    }

pub invariant_of-me-else-found-self : goal.invariant_of-me-else-found-self
invariant_of-me-else-found-self c =
    let me = c.args.me.now in
    let e = c.fetch_add-found.ensures.2.new in
    let drawn = me.seat.me.0.drawn in
    let found = c.fetch_add-found.result in
    let le : me.parts ≤ found = omega (arith, c.if-found-self.false, c.requires.parts) in
    record {
      bare = ap (λ m. m.1) e ∙ me.bare;
      allowance = ap (λ m. m.0.workers) e ∙ me.allowance;
      some = me.some;
      is_finished = snoc_now me.parts drawn found le ∙ sym (ap (λ m. has_past me.parts m.0.drawn) e);
    }
