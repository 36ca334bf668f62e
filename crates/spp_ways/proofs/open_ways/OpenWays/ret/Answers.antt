use Rattle.spp_ways.specs.OpenWays.{on_path, bare_row, returned_list}
use Rattle.spp_ways.proofs.Enclosed.{put_laid, put_ways}
use Rattle.spp_ways.proofs.open_ways.OpenWays.ret.Goals as goal

pub merge-requires-clause-laid : goal.merge-requires-clause-laid
merge-requires-clause-laid c = put_laid c.args.kind c.args.takes c.args.wins c.args.site 0 c.args.closed.now c.args.self.now c.put.new.self c.requires.site c.requires.laid c.in_ok-put.ensures.put

pub merge-requires-clause-fits : goal.merge-requires-clause-fits
merge-requires-clause-fits c on =
    let f = c.requires.fits on in (
      returned_list c.args.kind (on_path on c.args.takes) (on_path on c.args.wins) c.args.site (bare_row c.args.closed.now) f.0,
      put_ways c.args.kind c.args.takes c.args.wins c.args.site 0 c.args.closed.now c.args.self.now c.put.new.self c.requires.site c.requires.laid c.in_ok-put.ensures.put on f.0 f.1,
      f.2,
    )

pub returns-in_ok-merge-clause-ways : goal.returns-in_ok-merge-clause-ways
returns-in_ok-merge-clause-ways c on ws h =
    c.in_ok-merge.ensures.ways on (returned_list c.args.kind (on_path on c.args.takes) (on_path on c.args.wins) c.args.site (bare_row c.args.closed.now) ws)
    (put_ways c.args.kind c.args.takes c.args.wins c.args.site 0 c.args.closed.now c.args.self.now c.put.new.self c.requires.site c.requires.laid c.in_ok-put.ensures.put on ws h)

pub returns-else-branch-clause-laid : goal.returns-else-branch-clause-laid
returns-else-branch-clause-laid c = put_laid c.args.kind c.args.takes c.args.wins c.args.site 0 c.args.closed.now c.args.self.now c.put.new.self c.requires.site c.requires.laid c.in_ok-put.ensures.put

pub returns-else-branch-clause-ways : goal.returns-else-branch-clause-ways
returns-else-branch-clause-ways c on ws h = put_ways c.args.kind c.args.takes c.args.wins c.args.site 0 c.args.closed.now c.args.self.now c.put.new.self c.requires.site c.requires.laid c.in_ok-put.ensures.put on ws h
