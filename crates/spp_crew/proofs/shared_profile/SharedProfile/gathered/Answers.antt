use Rattle.spp_part.specs.Parts.{no_rows}
use Rattle.spp_crew.specs.Shared.{adder_row}
use Rattle.spp_crew.proofs.Shared.{with_none}
use Rattle.spp_crew.proofs.Profiled.{if_ok}
use Rattle.spp_crew.proofs.shared_profile.SharedProfile.gathered.Goals as goal

pub with_rows_of-requires : goal.with_rows_of-requires
with_rows_of-requires g c = let q = c.requires in (adder_row c.args.self.later, q.0, q.1, q.2, q.3)

pub with_rows_of-requires-in-Ok : goal.with_rows_of-requires-in-Ok
with_rows_of-requires-in-Ok g c =
    let q = c.requires in
    (no_rows, q.0, q.1, q.2, with_none q.0 q.1 q.2 c.in-Ok.so_far c.args.self.later (c.in-Ok.ensures (adder_row c.args.self.later) q.0 q.1 q.2 q.3))

pub returns-in-Ok : goal.returns-in-Ok
returns-in-Ok g c = if_ok c.with_rows_of-in-Ok.result (λ r h. λ trace burdens i shared. h no_rows trace burdens i
    (with_none trace burdens i c.in-Ok.so_far c.args.self.later (c.in-Ok.ensures (adder_row c.args.self.later) trace burdens i shared))) c.with_rows_of-in-Ok.ensures
