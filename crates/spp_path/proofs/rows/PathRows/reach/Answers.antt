use Rattle.std.proofs.Common.{arith}
use Rattle.spp_stack.specs.declared.node.Node.{Node}
use Rattle.spp_path.specs.declared.rows.EnteredFrame.{EnteredFrame}
use Rattle.spp_path.specs.Outside.{path_frame, path_frames}
use Rattle.spp_path.proofs.Tops.{some_open}
use Rattle.spp_path.proofs.Reaching.{reached_one, path_node}
use Rattle.spp_path.proofs.rows.PathRows.reach.Goals as goal

pub returns-clause-reached : goal.returns-clause-reached
returns-clause-reached c =
    reached_one EnteredFrame (λ (n : Node). path_frame n.frame n.top_func) path_frames c.args.self.now.frames.items c.insert.new.self.items c.entered.result c.args.outside c.in-Some.entry c.innermost.result.now c.below.result
    (path_node c.innermost.result.now) c.in-Some.is c.in_ok-insert.ensures.items (some_open _ c.args.self.now.frames.items c.requires) (omega arith) c.entered.ensures c.innermost.ensures.frame c.below.ensures.some c.below.ensures.none
