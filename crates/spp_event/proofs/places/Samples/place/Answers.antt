use Rattle.std.proofs.Common.{◌≡◌, ◌+◌, ◌*◌, ◌/◌, ℕ, List, length, slice_get, Some, refl, sym, subst, arith}
use Rattle.std.proofs.lemmas.Bool.{ltb-true}
use Rattle.std.proofs.lemmas.Option.{slice_get_read}
use Rattle.spp_event.specs.Places.{IsItemPlace}
use Rattle.spp_event.proofs.ItemPlaces.{next_place, end_place, no_items}
use Rattle.spp_event.proofs.places.Samples.place.Goals as goal
use Rattle.spp_event.proofs.places.Samples.place.Goals.{then-place-body, else-place-body}

pub loop-init : goal.loop-init
loop-init c = subst (λ (k : ℕ). IsItemPlace c.args.body.now k c.in-Some.first.now) (let s : c.args.i / 64 * 64 ≡ c.args.i / 64 * 64 + 0 = omega arith in s)
    (c.requires.each (c.args.i / 64) c.in-Some.first.now
    (subst (λ (l : List ℕ). slice_get l (c.args.i / 64) ≡ Some c.in-Some.first.now) c.deref.ensures.value
    (slice_get_read c.deref.result.now (length c.deref.result.now) (c.args.i / 64) c.in-Some.first.now refl (ltb-true (c.args.i / 64) (length c.deref.result.now) (sym c.in-Some.ensures.lookup.0)) c.in-Some.ensures.lookup.1)))

pub loop-preserved : goal.loop-preserved
loop-preserved c =
    let body = c.args.body.now in
    let n = c.args.i / 64 * 64 in
    let h = c.loop.invariant in
    let s : n + c.loop.counter + 1 ≡ n + (c.loop.counter + 1) = omega arith in
    subst (λ (k : ℕ). IsItemPlace body k c.if-place-body.place) s (elim c.if-place-body.branch [
      | then-place-body w ↦ subst (λ (p : ℕ). IsItemPlace body (n + c.loop.counter + 1) p) (sym w.place-is) (next_place body (n + c.loop.counter) c.loop.place w.behind_item-place.result h w.behind_item-place.ensures)
      | else-place-body w ↦
          let none = no_items body (n + c.loop.counter) c.loop.place h (omega arith) in
          subst (λ (p : ℕ). IsItemPlace body (n + c.loop.counter + 1) p) (sym w.place-is) (end_place body (n + c.loop.counter + 1) c.loop.place (let w2 = h.within in omega arith) (omega arith))
    ])
