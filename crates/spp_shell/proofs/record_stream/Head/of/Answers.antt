use Rattle.std.proofs.Common.{◌++◌, ◌≡◌, List, ℕ, length, take, drop, sym, ap, subst, ◌∙◌, arith, append_assoc}
use Rattle.std.proofs.lemmas.List.{length-take-le, take-append-drop, take-take}
use Rattle.spp_event.specs.Heads.{IsHeadOf}
use Rattle.spp_shell.specs.Check.{TellsHeader}
use Rattle.spp_shell.proofs.Inputs.{err_again}
use Rattle.spp_shell.proofs.Refusals.{line_then}
use Rattle.spp_shell.proofs.record_stream.Head.of.Goals as goal

pub returns-in_err-trace-clause-refused : goal.returns-in_err-trace-clause-refused
returns-in_err-trace-clause-refused c =
    let all : List ℕ = c.args.bytes.now in
    let n = c.front_len.result in
    err_again _ c.in_err-trace.field-0.0 _ c.from_residual.ensures.1
    (line_then c.in_err-trace.field-0.0 _ _ c.in_err-trace.ensures.refused (λ line told more. subst (λ (l : List ℕ). TellsHeader l line)
    (sym (append_assoc (take n all) (drop n all) more) ∙ ap (λ (l : List ℕ). l ++ more) (take-append-drop n all)) (told (drop n all ++ more))))

pub returns-clause-head : goal.returns-clause-head
returns-clause-head c =
    let all : List ℕ = c.args.bytes.now in
    let n = c.front_len.result in
    let h = c.of_trace.result in
    let len : length (take n all) ≡ n = length-take-le n all c.front_len.ensures in
    subst (λ (l : List ℕ). IsHeadOf h.version l h.sites h.funcs h.count) (take-take h.len n all (omega (arith, len, c.of_trace.ensures.within))) c.of_trace.ensures.head
