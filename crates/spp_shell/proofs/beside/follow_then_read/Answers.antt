use Rattle.std.proofs.Common.{◌≡◌, ◌++◌, List, ℕ, length, take, inl, ap, subst, ◌∙◌}
use Rattle.spp_shell.specs.Devices.{Giving, giving_of}
use Rattle.spp_shell.specs.BlockReads.{IsNoBlock}
use Rattle.spp_shell.specs.Inputs.{NoLine}
use Rattle.spp_shell.specs.declared.refusal.Refusal.TheVariants.{Memory}
use Rattle.spp_shell.proofs.Checks.{read_refused}
use Rattle.spp_shell.proofs.Inputs.{err_again}
use Rattle.spp_shell.proofs.Streams.{began_within, read_first}
use Rattle.spp_shell.proofs.beside.follow_then_read.Goals as goal

pub returns-clause-refused : goal.returns-clause-refused
returns-clause-refused g c = λ s xs e h.
    let input : Giving = giving_of g.S.Source.answered g.S.Source.failed g.S.Source.failures s c.read_block.new.source in
    let room : List ℕ = c.copy_to_front.new.others.items in
    let kept : take c.len.result room ≡ c.args.on.rest.items = ap (λ (k : ℕ). take k room) (c.len.ensures ∙ c.args.on.rest.ok.0) ∙ subst (λ (l : List ℕ). take (length l) room ≡ l) c.as_slice.ensures.value c.in-Ok.ensures.kept in
    let none = subst (λ (l : List ℕ). IsNoBlock g.S.Source.answered g.S.Source.failed g.S.Source.failures c.args.on.before c.args.on.reads l c.args.source.now c.in-Err.fault c.read_block.new.source) kept c.in-Err.ensures.refused in
    read_refused input c.args.place NoLine c.in-Err.fault c.refusal_of_read.result c.refusal_of_read.ensures (none s xs e h) (λ r. inl r.0)

pub returns-in_err-records-clause-refused : goal.returns-in_err-records-clause-refused
returns-in_err-records-clause-refused g c = λ s xs e h.
    let all : List ℕ = xs ++ c.args.on.rest.items in
    err_again _ Memory _ c.from_residual.ensures.1
    (began_within g.S.Source.answered g.S.Source.failed g.S.Source.failures s c.args.source.now all (read_first g.S.Source.answered g.S.Source.failed g.S.Source.failures c.args.on.reads s c.args.source.now all h c.args.on.turns))
