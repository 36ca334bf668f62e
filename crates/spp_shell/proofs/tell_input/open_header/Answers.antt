use Rattle.std.proofs.Common.{◌++◌, ◌≡◌, List, ℕ, length, take, drop, sym, ap, subst, ◌∙◌, arith, append_assoc}
use Rattle.std.proofs.lemmas.List.{take-append-drop, take-take}
use Rattle.spp_event.specs.Header.{IsTraceOf}
use Rattle.spp_event.specs.Heads.{IsHeadOf}
use Rattle.spp_shell.specs.Check.{TellsHeader}
use Rattle.spp_shell.proofs.Inputs.{err_again}
use Rattle.spp_shell.proofs.Refusals.{line_then}
use Rattle.spp_shell.proofs.tell_input.open_header.Goals as goal

pub returns-in_err-trace-clause-refused : goal.returns-in_err-trace-clause-refused
returns-in_err-trace-clause-refused c =
    let all : List ℕ = c.args.bytes.now in
    let header : List ℕ = c.args.header.now in
    let n = length header in
    err_again _ c.in_err-trace.field-0.0 _ c.from_residual.ensures.1
    (line_then c.in_err-trace.field-0.0 _ _ c.in_err-trace.ensures.refused (λ line told more. subst (λ (l : List ℕ). TellsHeader l line)
    (ap (λ (l : List ℕ). l ++ (drop n all ++ more)) c.requires.front ∙ sym (append_assoc (take n all) (drop n all) more) ∙ ap (λ (l : List ℕ). l ++ more) (take-append-drop n all)) (told (drop n all ++ more))))

pub returns-clause-head : goal.returns-clause-head
returns-clause-head c =
    let all : List ℕ = c.args.bytes.now in
    let header : List ℕ = c.args.header.now in
    let h = c.of_trace-head.result in
    subst (λ (l : List ℕ). IsHeadOf h.version l h.sites h.funcs h.count)
    (ap (λ (l : List ℕ). take h.len l) c.requires.front ∙ take-take h.len (length header) all c.of_trace-head.ensures.within) c.of_trace-head.ensures.head

pub returns-clause-trace : goal.returns-clause-trace
returns-clause-trace c =
    let all : List ℕ = c.args.bytes.now in
    let header : List ℕ = c.args.header.now in
    let h = c.of_trace-head.result in
    let same : length header ≡ h.len = omega (arith, c.of_trace-head.ensures.within, c.if-head-header.false) in
    subst (λ (l : List ℕ). IsTraceOf l c.in-Some.trace) (c.requires.front ∙ ap (λ (k : ℕ). take k all) same) (rw c.in-Some.is at c.in_ok-trace.ensures.found)
