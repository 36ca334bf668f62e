use Rattle.spp_part.proofs.Ends.{opens, one, waits}
use Rattle.spp_part.proofs.so_far.ProfileSoFar.sync.Goals as goal

pub takes-takes-requires : goal.takes-takes-requires
takes-takes-requires c = let q = c.requires in opens q.1 q.2 q.3 c.args.self.now.counting c.args.self.now.ways q.4 q.6

pub wait-requires-clause-some : goal.wait-requires-clause-some
wait-requires-clause-some c = let q = c.requires in one q.1 q.2 q.3 c.args.self.now.counting c.args.self.now.ways q.4 q.6

pub returns-clause-stands : goal.returns-clause-stands
returns-clause-stands c rest trace burdens at st e lt =
    waits trace burdens at c.args.self.now.counting c.args.self.now.ways st lt e c.takes-takes.result c.takes-takes.ensures c.sync.new.self
    c.sync.ensures c.wait.new.self c.wait.ensures.laid c.wait.ensures.ways c.wait.ensures.rows
