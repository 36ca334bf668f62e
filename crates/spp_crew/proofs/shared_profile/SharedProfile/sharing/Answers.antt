use Rattle.std.proofs.Common.{ap}
use Rattle.spp_pass.specs.declared.aside.RowsAside.{RowsAside}
use Rattle.spp_pass.specs.AsideRows.{aside_row}
use Rattle.spp_crew.specs.Shared.{adder_row}
use Rattle.spp_crew.proofs.Joinings.{ok_told}
use Rattle.spp_crew.proofs.Shared.{lent_out, lent_back, earlier_alone, later_alone}
use Rattle.spp_crew.proofs.shared_profile.SharedProfile.sharing.Goals as goal

pub take_back-requires : goal.take_back-requires
take_back-requires g c =
    let q = c.requires in
    (adder_row c.args.earlier, q.0, q.1, q.2, lent_back q.0 q.1 q.2 c.lend-rows.new.self c.args.earlier c.lend-rows.result c.in-Err-Ok.rows (ok_told _ c.in-Err-Ok.field-0 c.in-Err-Ok.rows c.in-Err-Ok.field-0-is c.in-Err-Ok.ensures.rows) (c.lend-rows.ensures.so_far (adder_row c.args.earlier) q.0 q.1 q.2 q.3))

pub returns-then-not-owes_rows : goal.returns-then-not-owes_rows
returns-then-not-owes_rows g c trace burdens i so_far = later_alone trace burdens i c.args.so_far c.args.earlier so_far

pub returns-in-Ok : goal.returns-in-Ok
returns-in-Ok g c trace burdens i so_far =
    lent_out trace burdens i c.lend-rows.new.self c.args.earlier c.lend-rows.result c.in-Ok.thread.promise.0.value (λ key. ap (λ (r : RowsAside). aside_row r key) c.in-Ok.ensures.thread)
    (c.lend-rows.ensures.so_far (adder_row c.args.earlier) trace burdens i so_far)

pub returns-in-Ok-take_back : goal.returns-in-Ok-take_back
returns-in-Ok-take_back g c trace burdens i so_far =
    earlier_alone trace burdens i c.take_back.new.self c.args.earlier
    (c.in-Ok-take_back.ensures (adder_row c.args.earlier) trace burdens i
    (lent_back trace burdens i c.lend-rows.new.self c.args.earlier c.lend-rows.result c.in-Err-Ok.rows (ok_told _ c.in-Err-Ok.field-0 c.in-Err-Ok.rows c.in-Err-Ok.field-0-is c.in-Err-Ok.ensures.rows) (c.lend-rows.ensures.so_far (adder_row c.args.earlier) trace burdens i so_far)))
