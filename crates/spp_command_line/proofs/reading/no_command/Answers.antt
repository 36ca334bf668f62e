use Rattle.std.proofs.Common.{inl, refl}
use Rattle.clap.specs.declared.error.kind.ErrorKind.TheVariants.{MissingSubcommand}
use Rattle.spp_command_line.proofs.reading.no_command.Goals as goal

pub returns-in-Ok : goal.returns-in-Ok
returns-in-Ok c = (MissingSubcommand, inl refl, refl)
