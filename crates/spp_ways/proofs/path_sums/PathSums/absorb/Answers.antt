use Rattle.std.proofs.Common.{true, false}
use Rattle.spp_site.specs.Profiles.{key_row}
use Rattle.spp_ways.proofs.PathSums.{firsts_fit, seconds_fit}
use Rattle.spp_ways.proofs.path_sums.PathSums.absorb.Goals as goal

pub absorb-requires : goal.absorb-requires
absorb-requires c key =
    firsts_fit (key_row c.args.self.now.common key) (key_row c.args.self.now.plain key) (key_row c.args.merged.now.common key) (key_row c.args.merged.now.plain key) (c.requires false key)

pub absorb-requires-2 : goal.absorb-requires-2
absorb-requires-2 c key =
    seconds_fit (key_row c.args.self.now.common key) (key_row c.args.self.now.plain key) (key_row c.args.merged.now.common key) (key_row c.args.merged.now.plain key) (c.requires false key)

pub absorb-requires-3 : goal.absorb-requires-3
absorb-requires-3 c key =
    seconds_fit (key_row c.args.self.now.common key) (key_row c.args.self.now.burdened key) (key_row c.args.merged.now.common key) (key_row c.args.merged.now.burdened key) (c.requires true key)
