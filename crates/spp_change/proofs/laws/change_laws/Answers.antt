use Rattle.spp_change.proofs.Nesting.{is_as_long, is_well_formed, keeps_fault, called_keeps_work, spawned_keeps_work}
use Rattle.spp_change.proofs.Owners.{changed_by_owner}
use Rattle.spp_change.proofs.laws.change_laws.Goals as goal

pub returns-clause-owner : goal.returns-clause-owner
returns-clause-owner c = changed_by_owner

pub returns-clause-long : goal.returns-clause-long
returns-clause-long c = is_as_long

pub returns-clause-formed : goal.returns-clause-formed
returns-clause-formed c = is_well_formed

pub returns-clause-fault : goal.returns-clause-fault
returns-clause-fault c = keeps_fault

pub returns-clause-called : goal.returns-clause-called
returns-clause-called c = called_keeps_work

pub returns-clause-spawned : goal.returns-clause-spawned
returns-clause-spawned c = spawned_keeps_work
