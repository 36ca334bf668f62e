use Rattle.std.proofs.Common.{arith}
use Rattle.spp_pass.specs.Passes.{seen_with}
use Rattle.spp_pass.proofs.Tops.{some_open}
use Rattle.spp_pass.proofs.Reaching.{reached_one}
use Rattle.spp_pass.proofs.counting.Counting.reach.Goals as goal

pub returns : goal.returns
returns c n =
    reached_one (seen_with c.args.self.now n) c.args.self.now.frames.items c.insert.new.self.items c.entered.result c.args.outside c.in-Some.entry c.innermost.result.now c.below.result
    c.in-Some.is c.in_ok-insert.ensures.items (some_open _ c.args.self.now.frames.items c.requires) (omega arith) c.entered.ensures c.innermost.ensures.frame c.below.ensures.some c.below.ensures.none
