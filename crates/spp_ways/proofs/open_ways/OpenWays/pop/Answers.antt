use Rattle.spp_ways.proofs.Enclosed.{put_stretch, put_enclosed, laid_of}
use Rattle.spp_ways.proofs.open_ways.OpenWays.pop.Goals as goal

pub returns-clause-stretch : goal.returns-clause-stretch
returns-clause-stretch c =
    put_stretch c.args.kind c.args.takes c.args.wins c.args.site c.args.caller c.args.closed.now c.args.self.now c.put.new.self c.requires.site c.requires.caller c.requires.stretch c.in_ok-put.ensures.put

pub returns-clause-ways : goal.returns-clause-ways
returns-clause-ways c on e base ws h =
    put_enclosed c.args.kind c.args.takes c.args.wins c.args.site c.args.caller c.args.closed.now c.args.self.now c.put.new.self c.requires.site (laid_of c.args.self.now c.requires.stretch) c.in_ok-put.ensures.put
    c.requires.caller e base on ws h
