use Rattle.std.proofs.Common.{◌≡◌, ◌↔◌, IsTrue, Bool, length, subst, sym, ◌∙◌, arith}
use Rattle.std.proofs.lemmas.Bool.{eqb-false}
use Rattle.spp_event.specs.Header.{IsName}
use Rattle.spp_event.proofs.GoodNames.{is_name_decides, is_name_by_bytes}
use Rattle.spp_event.proofs.names.is_name.Goals as goal

pub returns-then-name-le200-clause-is : goal.returns-then-name-le200-clause-is
returns-then-name-le200-clause-is c =
    let name = c.args.name.now in
    let some : length name ≡ 0 → ⊥ = eqb-false (length name) 0 (sym c.is_empty.ensures ∙ c.if-name-le200.true.0) in
    subst (λ (b : Bool). IsTrue b ↔ IsName name) (is_name_by_bytes name (omega arith) c.if-name-le200.true.1 ∙ sym c.is_printable.ensures) (is_name_decides name)
