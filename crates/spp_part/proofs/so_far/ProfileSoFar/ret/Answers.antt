use Rattle.std.proofs.Common.{suc}
use Rattle.spp_part.specs.Parts.{rest_of}
use Rattle.spp_part.proofs.Standing.{aside_same}
use Rattle.spp_part.proofs.so_far.ProfileSoFar.ret.Goals as goal

pub ret_aside-requires : goal.ret_aside-requires
ret_aside-requires c = c.requires

pub ret_counted-requires : goal.ret_counted-requires
ret_counted-requires c = let q = c.requires in (rest_of c.args.self.now q.0, q.1, q.2, q.3, q.4, q.5)

pub returns-clause-stands : goal.returns-clause-stands
returns-clause-stands c is lent trace at st e lt =
    aside_same lent c.args.self.now.aside c.ret_counted.new.self.aside c.in_ok-returns.ensures.aside trace c.args.burdens (suc at) c.ret_counted.new.self.counting c.ret_counted.new.self.ways
    (c.in_ok-returns.ensures.stands is (rest_of c.args.self.now lent) trace at st e lt)

pub returns-clause-fault : goal.returns-clause-fault
returns-clause-fault c is lent trace at st e lt = c.in_ok-returns.ensures.fault is (rest_of c.args.self.now lent) trace at st e lt
