use Rattle.std.proofs.Common.{◌≡◌, [], Result, refl, sym, subst, inl}
use Rattle.std.specs.Prelude.{IfErr, IsErrAnd}
use Rattle.std.proofs.lemmas.Result.{err_from_is_err_and}
use Rattle.spp_text.specs.declared.fault.TextFault.{TextFault}
use Rattle.spp_text.specs.Parsed.{IsTextFault, IsLineReached}
use Rattle.spp_text.proofs.LineByLine.{fault_of_whole}
use Rattle.spp_text.proofs.parse.parse_text.Goals as goal

-- the exit of a `?`, of whose error a fact holds
err_again : {T : Type 0} (r : Result T TextFault) (e : TextFault) (P : TextFault → Type 0) → IsErrAnd r (λ y. y ≡ e) → P e → IfErr r P
err_again r e P is p =
    let found = err_from_is_err_and r is in
    subst (λ x. IfErr x P) (sym found.1) (subst P (sym found.2) p)

pub returns-in_err-lines-clause-refused : goal.returns-in_err-lines-clause-refused
returns-in_err-lines-clause-refused c =
    let fault = c.in_err-lines.field-0.0 in
    err_again c.from_residual.result fault (IsTextFault c.args.text.now) c.from_residual.ensures.1 (fault_of_whole c.args.text.now fault (c.in_err-lines.ensures.refused [] c.new.ensures (inl refl)))

pub returns-in_err-lines-clause-line : goal.returns-in_err-lines-clause-line
returns-in_err-lines-clause-line c =
    let fault = c.in_err-lines.field-0.0 in
    err_again c.from_residual.result fault (λ fault. IsLineReached c.args.text.now fault.line) c.from_residual.ensures.1 (c.in_err-lines.ensures.line [] c.new.ensures (inl refl))

pub returns-clause-found : goal.returns-clause-found
returns-clause-found c = c.end.ensures.found c.args.text.now (c.in_ok-lines.ensures.read [] c.new.ensures (inl refl))

pub returns-clause-refused : goal.returns-clause-refused
returns-clause-refused c = c.end.ensures.refused c.args.text.now (c.in_ok-lines.ensures.read [] c.new.ensures (inl refl))

pub returns-clause-line : goal.returns-clause-line
returns-clause-line c = c.end.ensures.line c.args.text.now (c.in_ok-lines.ensures.read [] c.new.ensures (inl refl))
