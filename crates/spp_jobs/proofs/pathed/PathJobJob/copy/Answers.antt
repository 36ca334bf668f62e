use Rattle.spp_jobs.proofs.Paths.{pathed_again}
use Rattle.spp_jobs.proofs.pathed.PathJobJob.copy.Goals as goal

pub returns : goal.returns
returns c = pathed_again c.args.content.now (record { path = c.in_ok-copy.field-0; burdened_path = c.in_ok-copy-2.field-0 }) c.in_ok-copy.ensures.same c.in_ok-copy-2.ensures.same
