use Rattle.std.proofs.Common.{Result, Ok, Err, OnOk}
use Rattle.spp_event.specs.declared.version.Version.TheVariants.{One, Two}
use Rattle.spp_crew.proofs.BlockParts.{read_there, so_far_there}
use Rattle.spp_crew.proofs.RecordProfiles.{if_err}
use Rattle.spp_crew.proofs.profiled_blocks.read_on.Goals as goal

on_ok : {X E A B : Type 0} (r : Result X E) → (A → B) → OnOk r A → OnOk r B
on_ok (Ok x) f a = f a
on_ok (Err e) f a = tt

pub returns-in-One-clause-so_far : goal.returns-in-One-clause-so_far
returns-in-One-clause-so_far c =
    let block = c.args.block.now in
    let counted = c.requires.readable.counted in
    on_ok c.read_records.result (λ then. λ trace i so_far at. so_far_there trace block.burdens i block One c.in-One.is c.deref.result.now c.read_records.new.self c.deref.ensures.value counted
    (then trace i so_far (read_there trace block.burdens i block at One c.in-One.is c.deref.result.now c.deref.ensures.value counted))) c.read_records.ensures.so_far

pub returns-in-One-clause-fault : goal.returns-in-One-clause-fault
returns-in-One-clause-fault c =
    let block = c.args.block.now in
    if_err c.read_records.result (λ f told. λ trace i so_far at. told trace i so_far (read_there trace block.burdens i block at One c.in-One.is c.deref.result.now c.deref.ensures.value c.requires.readable.counted)) c.read_records.ensures.fault

pub returns-in-Two-clause-so_far : goal.returns-in-Two-clause-so_far
returns-in-Two-clause-so_far c =
    let block = c.args.block.now in
    let counted = c.requires.readable.counted in
    on_ok c.read_items.result (λ then. λ trace i so_far at. so_far_there trace block.burdens i block Two c.in-Two.is c.deref.result.now c.read_items.new.self c.deref.ensures.value counted
    (then trace i so_far (read_there trace block.burdens i block at Two c.in-Two.is c.deref.result.now c.deref.ensures.value counted))) c.read_items.ensures.so_far

pub returns-in-Two-clause-fault : goal.returns-in-Two-clause-fault
returns-in-Two-clause-fault c =
    let block = c.args.block.now in
    if_err c.read_items.result (λ f told. λ trace i so_far at. told trace i so_far (read_there trace block.burdens i block at Two c.in-Two.is c.deref.result.now c.deref.ensures.value c.requires.readable.counted)) c.read_items.ensures.fault
