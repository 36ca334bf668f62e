use Rattle.spp_crew.proofs.shared_profile.SharedProfile.start.Goals as goal

pub returns : goal.returns
returns c trace burdens root limits good light heavy = c.alone.ensures trace burdens 0 (c.in_ok-so_far.ensures trace burdens root limits good light heavy)
