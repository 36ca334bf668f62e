use Rattle.spp_pass.specs.Passes.{notes_of}
use Rattle.spp_pass.proofs.summing.Summing.strand.Goals as goal

pub returns : goal.returns
returns c = c.strand.ensures (notes_of c.args.self.now.choices)
