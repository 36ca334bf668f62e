use Rattle.std.proofs.Common.{◌≡◌, ◌++◌, List, ℕ, length, take, inl, ap, subst, ◌∙◌}
use Rattle.spp_shell.specs.BlockReads.{IsNoBlock, IsNextBlock}
use Rattle.spp_shell.specs.Devices.{Giving, giving_of}
use Rattle.spp_shell.specs.Inputs.{NoLine}
use Rattle.spp_shell.specs.declared.refusal.Refusal.TheVariants.{Memory}
use Rattle.spp_shell.proofs.BlockReads.{block_within}
use Rattle.spp_shell.proofs.Checks.{read_refused}
use Rattle.spp_shell.proofs.Inputs.{err_again}
use Rattle.spp_shell.proofs.beside.follow_beside.Goals as goal

pub returns-in-Err-clause-refused : goal.returns-in-Err-clause-refused
returns-in-Err-clause-refused g c = λ s xs e h.
    let new = c.follow_while_reading-read.new.source in
    let input : Giving = giving_of g.S.Source.answered g.S.Source.failed g.S.Source.failures s new in
    let room : List ℕ = c.copy_to_front.new.others.items in
    let kept : take c.len-2.result room ≡ c.args.on.rest.items = ap (λ (k : ℕ). take k room) (c.len-2.ensures ∙ c.args.on.rest.ok.0) ∙ subst (λ (l : List ℕ). take (length l) room ≡ l) c.as_slice.ensures.value c.in-Ok.ensures.kept in
    let none = subst (λ (l : List ℕ). IsNoBlock g.S.Source.answered g.S.Source.failed g.S.Source.failures c.args.on.before c.args.on.reads l c.args.source.now c.in-Err.fault new) kept (rw c.in-Err.is at c.follow_while_reading-read.ensures.none) in
    read_refused input c.args.place NoLine c.in-Err.fault c.refusal_of_read.result c.refusal_of_read.ensures (none s xs e h) (λ r. inl r.0)

pub returns-in_err-records-clause-refused : goal.returns-in_err-records-clause-refused
returns-in_err-records-clause-refused g c = λ s xs e h.
    let next = c.in-Ok-read.next in
    let new = c.follow_while_reading-read.new.source in
    let room : List ℕ = c.copy_to_front.new.others.items in
    let kept : take c.len-2.result room ≡ c.args.on.rest.items = ap (λ (k : ℕ). take k room) (c.len-2.ensures ∙ c.args.on.rest.ok.0) ∙ subst (λ (l : List ℕ). take (length l) room ≡ l) c.as_slice.ensures.value c.in-Ok.ensures.kept in
    let is = subst (λ (l : List ℕ). IsNextBlock g.S.Source.answered g.S.Source.failed g.S.Source.failures c.args.on.before c.args.on.due c.args.on.reads l c.args.source.now next new) kept (rw c.in-Ok-read.is at c.follow_while_reading-read.ensures.next) in
    let all : List ℕ = xs ++ take next.came.filled next.came.bytes.items in
    err_again _ Memory _ c.from_residual.ensures.1
    (block_within g.S.Source.answered g.S.Source.failed g.S.Source.failures next.came.reads s new all next.ended next.came.turns (is.read s xs e h))
