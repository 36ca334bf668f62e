use Rattle.std.proofs.Common.{◌≡◌, ◌++◌, ◌∙◌, ◌+◌, ◌-◌, ◌*◌, ◌∷◌, ℕ, List, IfSome, ap, sym, subst, arith}
use Rattle.spp_event.specs.Items.{operand}
use Rattle.spp_event.proofs.ItemNumbers.{two_digits, three_digits, digits_three}
use Rattle.spp_event.proofs.items.operand_in_front.Goals as goal

pub returns-then-last-ge-BASE : goal.returns-then-last-ge-BASE
returns-then-last-ge-BASE c =
    c.in_ok-first.ensures.cases.0
    ∙ ap (λ (l : List ℕ). c.in_ok-first.first.now ∷ l) c.in_ok-second.ensures.cases.0
    ∙ two_digits c.in_ok-first.first.now c.in_ok-second.second.now (c.from-digit.result * 64 + (c.from-last.result - 64)) c.in_ok-second.rest.now
    (omega arith) (omega arith) (omega arith) (omega arith) (omega arith)

pub returns-then-end-ge-BASE : goal.returns-then-end-ge-BASE
returns-then-end-ge-BASE c =
    c.in_ok-first.ensures.cases.0
    ∙ ap (λ (l : List ℕ). c.in_ok-first.first.now ∷ l) (c.in_ok-second.ensures.cases.0 ∙ ap (λ (l : List ℕ). c.in_ok-second.second.now ∷ l) c.in_ok-third.ensures.cases.0)
    ∙ three_digits c.in_ok-first.first.now c.in_ok-second.second.now c.in_ok-third.third.now ((c.from-digit.result * 64 + c.from-last.result) * 64 + (c.from-end.result - 64))
    c.in_ok-third.rest.now
    (omega arith) (omega arith) (omega arith) (omega arith) (omega arith) (omega arith)

pub returns : goal.returns
returns c =
    let rest = c.in_ok-third.rest.now in
    let digits = digits_three c.in_ok-first.first.now c.in_ok-second.second.now c.in_ok-third.third.now ((c.from-digit.result * 64 + c.from-last.result) * 64 + c.from-end.result)
    (omega arith) (omega arith) (omega arith) (omega arith) (omega arith) in
    let is = ap (λ (l : List ℕ). l ++ rest) digits
    ∙ sym (c.in_ok-first.ensures.cases.0
    ∙ ap (λ (l : List ℕ). c.in_ok-first.first.now ∷ l) (c.in_ok-second.ensures.cases.0 ∙ ap (λ (l : List ℕ). c.in_ok-second.second.now ∷ l) c.in_ok-third.ensures.cases.0)) in
    subst (λ (l : List ℕ). IfSome c.long_operand.result (λ x. l ≡ operand x.0 ++ x.1.now)) is c.long_operand.ensures
