use Rattle.std.proofs.Common.{refl}
use Rattle.spp_ways.proofs.frame_ways.FrameWays.inherit.Goals as goal

pub returns-else-stored-gt0 : goal.returns-else-stored-gt0
returns-else-stored-gt0 c = (c.args.self.now.stored, c.args.self.now.limit, refl)
