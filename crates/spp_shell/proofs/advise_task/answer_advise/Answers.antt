use Rattle.std.proofs.Common.{inl, refl}
use Rattle.spp_shell.specs.Advise.{IsOneAdviseLine}
use Rattle.spp_shell.specs.Check.{TellsHeader}
use Rattle.spp_shell.specs.Devices.{Giving, giving_of}
use Rattle.spp_shell.specs.declared.place.Place.TheVariants.{Only}
use Rattle.spp_shell.proofs.Inputs.{err_again, refused_as}
use Rattle.spp_shell.proofs.advise_task.answer_advise.Goals as goal

pub returns-in_err-bytes-clause-refused : goal.returns-in_err-bytes-clause-refused
returns-in_err-bytes-clause-refused g c =
    let input : Giving = giving_of g.S.Source.answered g.S.Source.failed g.S.Source.failures c.args.source.now c.read_trace_or_refuse.new.input in
    let told = c.in_err-bytes.field-0.0 in
    err_again _ told _ c.from_residual.ensures.1 (refused_as input Only TellsHeader (IsOneAdviseLine c.args.options.now) (λ bytes line is. (bytes, refl, inl is)) told c.in_err-bytes.ensures.refused)
