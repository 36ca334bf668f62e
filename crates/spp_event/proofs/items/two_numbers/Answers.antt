use Rattle.std.proofs.Common.{◌≡◌, ◌++◌, ◌∙◌, [], ℕ, List, sym, refl, ap, arith}
use Rattle.spp_event.specs.Items.{operand}
use Rattle.spp_event.proofs.ItemNumbers.{same_number, same_rest}
use Rattle.spp_event.proofs.items.two_numbers.Goals as goal
use Rattle.spp_event.proofs.items.two_numbers.Goals.{then-n-via-then-n, then-n-via-else-n+then-m}

pub returns-in_err-m-clause-none : goal.returns-in_err-m-clause-none
returns-in_err-m-clause-none c none n m a b e =
    let h : c.in_ok-n.rest.now ≡ operand m = same_rest c.in_ok-n.n n c.in_ok-n.rest.now (operand m) (sym c.in_ok-n.ensures.some ∙ e) in
    c.in_err-m.ensures.none refl m (omega arith) h

pub returns-then-n-clause-none : goal.returns-then-n-clause-none
returns-then-n-clause-none c none n m a b e =
    let first = same_number c.in_ok-n.n n c.in_ok-n.rest.now (operand m) (sym c.in_ok-n.ensures.some ∙ e) in
    let rest : c.in_ok-n.rest.now ≡ operand m = same_rest c.in_ok-n.n n c.in_ok-n.rest.now (operand m) (sym c.in_ok-n.ensures.some ∙ e) in
    let second = same_number c.in_ok-m.m m [] [] (ap (λ (l : List ℕ). l ++ []) (sym c.in_ok-m.ensures.some ∙ rest)) in
    elim c.then-n.branch [
      | then-n-via-then-n w ↦ absurd (omega arith)
      | then-n-via-else-n+then-m w ↦ absurd (omega arith)
    ]
