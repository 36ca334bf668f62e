use Rattle.std.proofs.Common.{◌+◌}
use Rattle.spp_crew.specs.Shared.{adder_row}
use Rattle.spp_crew.proofs.shared_profile.SharedProfile.join_and_share.Goals as goal

pub with_rows_of-requires : goal.with_rows_of-requires
with_rows_of-requires g c = let q = c.requires in (adder_row c.args.self.later, q.0, c.args.burdens, q.1, q.3)

pub join_aside-requires : goal.join_aside-requires
join_aside-requires g c =
    let q = c.requires in
    (adder_row c.args.self.later, q.0, q.1, q.2, c.in-Ok.ensures (adder_row c.args.self.later) q.0 c.args.burdens q.1 q.3, q.4)

pub sharing-requires : goal.sharing-requires
sharing-requires g c =
    let q = c.requires in
    (q.0, c.args.burdens, q.1 + q.2, c.in-Ok-join_aside.ensures.so_far (adder_row c.args.self.later) q.0 q.1 q.2 (c.in-Ok.ensures (adder_row c.args.self.later) q.0 c.args.burdens q.1 q.3) q.4)

pub returns-in_ok-sharing-in-Ok-join_aside-clause-so_far : goal.returns-in_ok-sharing-in-Ok-join_aside-clause-so_far
returns-in_ok-sharing-in-Ok-join_aside-clause-so_far g c trace i count shared part =
    c.in_ok-sharing-in-Ok-join_aside.ensures trace c.args.burdens (i + count)
    (c.in-Ok-join_aside.ensures.so_far (adder_row c.args.self.later) trace i count (c.in-Ok.ensures (adder_row c.args.self.later) trace c.args.burdens i shared) part)

pub returns-in-Err-clause-fault : goal.returns-in-Err-clause-fault
returns-in-Err-clause-fault g c trace i count shared part = c.in-Err.ensures.fault (adder_row c.args.self.later) trace i count (c.in-Ok.ensures (adder_row c.args.self.later) trace c.args.burdens i shared) part
