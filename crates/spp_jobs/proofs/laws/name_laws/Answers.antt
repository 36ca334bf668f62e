use Rattle.spp_jobs.proofs.Spelling.{spell_one}
use Rattle.spp_jobs.proofs.laws.name_laws.Goals as goal

pub returns : goal.returns
returns c = spell_one
