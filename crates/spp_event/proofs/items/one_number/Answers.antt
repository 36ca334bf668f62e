use Rattle.std.proofs.Common.{◌≡◌, [], sym, refl, ◌∙◌, arith}
use Rattle.std.proofs.lemmas.List.{append-nil}
use Rattle.spp_event.specs.Items.{operand}
use Rattle.spp_event.proofs.ItemNumbers.{same_rest}
use Rattle.spp_event.proofs.items.one_number.Goals as goal

pub returns-in_err-n-clause-none : goal.returns-in_err-n-clause-none
returns-in_err-n-clause-none c none n small e = c.in_err-n.ensures.none refl n [] small (e ∙ sym (append-nil (operand n)))

pub returns-else-is_empty-clause-none : goal.returns-else-is_empty-clause-none
returns-else-is_empty-clause-none c none n small e =
    let h : c.in_ok-n.rest.now ≡ [] = same_rest c.in_ok-n.n n c.in_ok-n.rest.now [] (sym c.in_ok-n.ensures.some ∙ e ∙ sym (append-nil (operand n))) in
    absurd (grind (arith, h, c.if-is_empty.false))
