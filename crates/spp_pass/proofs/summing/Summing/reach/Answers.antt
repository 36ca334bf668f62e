use Rattle.spp_pass.specs.Passes.{notes_of}
use Rattle.spp_pass.proofs.summing.Summing.reach.Goals as goal

pub returns : goal.returns
returns c = c.in_ok-left.ensures (notes_of c.args.self.now.choices)
