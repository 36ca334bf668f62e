use Rattle.std.proofs.Common.{◌++◌, ◌∷◌, [], ◌/◌, ◌%◌, List, ℕ, sym, ap, ◌∙◌, arith}
use Rattle.std.proofs.lemmas.List.{append_assoc}
use Rattle.std.proofs.lemmas.Int.Digits.{digits_of_step}
use Rattle.std.specs.Int.Digits.{digits_of}
use Rattle.spp_event.proofs.items.+push_digits.Goals as goal

pub returns : goal.returns
returns t c =
    let n = c.args.n in
    c.in_ok-push.ensures.items
    ∙ ap (λ (l : List ℕ). l ++ (n % 64) ∷ []) (c.in_ok-push_digits.ensures)
    ∙ append_assoc c.args.bytes.now.items (digits_of 64 (n / 64)) ((n % 64) ∷ [])
    ∙ ap (λ (l : List ℕ). c.args.bytes.now.items ++ l) (sym (digits_of_step 64 n (omega arith) (omega arith)))
