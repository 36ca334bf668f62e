use Rattle.spp_pass.specs.Passes.{no_notes}
use Rattle.spp_part.proofs.GoingOn.{can_add, fit_strand, strand_stands}
use Rattle.spp_part.proofs.so_far.ProfileSoFar.strands.Goals as goal

pub strand-requires : goal.strand-requires
strand-requires c = let q = c.requires in can_add q.1 q.2 q.3 q.4 q.5 q.6 c.args.self.now.counting c.args.self.now.ways c.args.count q.7 q.8

pub strand-requires-2-clause-fits : goal.strand-requires-2-clause-fits
strand-requires-2-clause-fits c on = let q = c.requires in fit_strand q.1 q.2 q.3 q.4 q.5 q.6 c.args.self.now.counting c.args.self.now.ways c.args.count q.7 q.8 on

pub returns-clause-stands : goal.returns-clause-stands
returns-clause-stands c rest trace burdens first i j settled st go =
    let w = c.strand-2.ensures in
    strand_stands trace burdens first i j settled c.args.self.now.counting c.args.self.now.ways c.args.count st go
    c.strand.new.self c.strand-2.new.self (c.strand.ensures no_notes) w.laid w.ways w.rows
