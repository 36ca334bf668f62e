use Rattle.spp_crew.proofs.Shared.{none_away, brought_back}
use Rattle.spp_crew.proofs.shared_profile.SharedProfile.with_rows_of.Goals as goal

pub take_back-requires : goal.take_back-requires
take_back-requires g c =
    let q = c.requires in
    (q.0, q.1, q.2, q.3, brought_back q.1 q.2 q.3 c.args.so_far c.args.adder q.0 q.4 c.in-Some.thread c.in_ok-rows-in-Some.rows c.in-Some.is c.in_ok-rows-in-Some.ensures)

pub returns-in-None : goal.returns-in-None
returns-in-None g c lent trace burdens i so_far = none_away trace burdens i c.args.so_far c.args.adder lent so_far c.in-None.is

pub returns-in_ok-take_back-in-Some : goal.returns-in_ok-take_back-in-Some
returns-in_ok-take_back-in-Some g c lent trace burdens i so_far =
    c.in_ok-take_back-in-Some.ensures lent trace burdens i
    (brought_back trace burdens i c.args.so_far c.args.adder lent so_far c.in-Some.thread c.in_ok-rows-in-Some.rows c.in-Some.is c.in_ok-rows-in-Some.ensures)
