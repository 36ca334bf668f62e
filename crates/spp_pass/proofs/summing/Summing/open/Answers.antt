use Rattle.spp_pass.specs.Passes.{notes_of}
use Rattle.spp_pass.proofs.summing.Summing.open.Goals as goal

pub returns : goal.returns
returns c = c.in_ok-open.ensures (notes_of c.args.self.now.choices)
