use Rattle.std.proofs.Common.{refl, ◌∙◌, List, ℕ, length, ap, sym, arith}
use Rattle.std.proofs.lemmas.List.{length-drop, length-append}
use Rattle.spp_event.specs.Items.{item_of}
use Rattle.spp_event.proofs.ItemFronts.{in_front_of}
use Rattle.spp_event.proofs.items.if_it_ends.Goals as goal

pub overflow_sub-result : goal.overflow_sub-result
overflow_sub-result c =
    let sum = sym (length-drop c.args.place c.args.body.now) ∙ ap (λ (l : List ℕ). length l) c.requires.is ∙ length-append (item_of c.args.event) c.args.rest.now in
    omega (arith, c.requires.within)

pub returns-then-goes_on-clause-between : goal.returns-then-goes_on-clause-between
returns-then-goes_on-clause-between c = (in_front_of c.args.body.now c.args.place c.args.event c.args.rest.now c.requires.within c.requires.is (c.if-goes_on.ensures.0 refl)).between
