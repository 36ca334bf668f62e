use Rattle.std.proofs.Common.{true, false}
use Rattle.spp_site.specs.Profiles.{key_row}
use Rattle.spp_ways.proofs.PathSums.{left_fits, right_fits}
use Rattle.spp_ways.proofs.path_sums.PathSums.into_merged.Goals as goal

pub into_list-requires : goal.into_list-requires
into_list-requires c key = left_fits (key_row c.args.self.common key) (key_row c.args.self.plain key) (c.requires false key)

pub into_list-requires-2 : goal.into_list-requires-2
into_list-requires-2 c key = right_fits (key_row c.args.self.common key) (key_row c.args.self.plain key) (c.requires false key)

pub into_list-requires-3 : goal.into_list-requires-3
into_list-requires-3 c key = right_fits (key_row c.args.self.common key) (key_row c.args.self.burdened key) (c.requires true key)
