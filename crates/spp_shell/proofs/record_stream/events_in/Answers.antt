use Rattle.std.proofs.Common.{arith}
use Rattle.spp_event.specs.declared.version.Version.TheVariants.{Two}
use Rattle.spp_shell.proofs.RecordStreams.{count_few}
use Rattle.spp_shell.proofs.record_stream.events_in.Goals as goal

pub returns-in-Two-clause-few : goal.returns-in-Two-clause-few
returns-in-Two-clause-few c = (let few = count_few Two c.args.bytes.now in omega (arith, few, c.items_in.ensures))
