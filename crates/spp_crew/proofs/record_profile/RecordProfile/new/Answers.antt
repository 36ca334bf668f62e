use Rattle.std.proofs.Common.{refl}
use Rattle.spp_crew.proofs.RecordProfiles.{events_nil}
use Rattle.spp_crew.proofs.record_profile.RecordProfile.new.Goals as goal

pub returns-clause-seen : goal.returns-clause-seen
returns-clause-seen c =
    record {
      count = refl;
      good = events_nil c.args.head.sites c.args.head.funcs;
      found = λ t b. c.in_ok-behind.ensures.come t c.args.burdens 0 (c.in_ok-so_far.ensures t c.args.burdens b.root_is b.limits b.good c.are_small.ensures.continuation c.are_small.ensures.join);
    }
