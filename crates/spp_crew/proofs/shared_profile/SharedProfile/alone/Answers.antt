use Rattle.spp_crew.proofs.Shared.{none_shared}
use Rattle.spp_crew.proofs.shared_profile.SharedProfile.alone.Goals as goal

pub returns : goal.returns
returns c trace burdens i so_far = none_shared trace burdens i c.args.so_far so_far
