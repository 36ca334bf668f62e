use Rattle.std.proofs.Common.{inl}
use Rattle.spp_shell.specs.Devices.{Giving, giving_of}
use Rattle.spp_shell.specs.Inputs.{NoLine}
use Rattle.spp_shell.proofs.Checks.{read_refused}
use Rattle.spp_shell.proofs.Streams.{read_nothing}
use Rattle.spp_shell.proofs.input.read_front.Goals as goal

pub returns-in-Ok-clause-read : goal.returns-in-Ok-clause-read
returns-in-Ok-clause-read g c =
    let none = read_nothing g.S.Source.answered g.S.Source.failed g.S.Source.failures c.args.input.now c.nothing.result.bytes.items c.nothing.result.reads c.nothing.result.filled c.nothing.ensures.reads c.nothing.ensures.bytes in
    c.in-Ok.ensures.read c.args.input.now none

pub returns-in-Err-clause-refused : goal.returns-in-Err-clause-refused
returns-in-Err-clause-refused g c =
    let input : Giving = giving_of g.S.Source.answered g.S.Source.failed g.S.Source.failures c.args.input.now c.read_on.new.source in
    let none = read_nothing g.S.Source.answered g.S.Source.failed g.S.Source.failures c.args.input.now c.nothing.result.bytes.items c.nothing.result.reads c.nothing.result.filled c.nothing.ensures.reads c.nothing.ensures.bytes in
    read_refused input c.args.place NoLine c.in-Err.fault c.refusal_of_read.result c.refusal_of_read.ensures (c.in-Err.ensures.refused c.args.input.now none) (λ r. inl r.0)
