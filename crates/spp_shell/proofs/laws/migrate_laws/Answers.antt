use Rattle.spp_shell.proofs.Migrated.{migrated_answers_alike}
use Rattle.spp_shell.proofs.laws.migrate_laws.Goals as goal

pub returns : goal.returns
returns c = migrated_answers_alike
