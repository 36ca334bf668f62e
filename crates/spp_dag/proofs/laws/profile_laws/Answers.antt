-- The laws of profiles.
use Rattle.spp_dag.proofs.Profiles.{spans_law, contains_passed, root_work, has_profile, profile_is_one}
use Rattle.spp_dag.proofs.laws.profile_laws.Goals as goal

pub returns-clause-spans : goal.returns-clause-spans
returns-clause-spans c = spans_law

pub returns-clause-contains : goal.returns-clause-contains
returns-clause-contains c = contains_passed

pub returns-clause-work : goal.returns-clause-work
returns-clause-work c = root_work

pub returns-clause-exists : goal.returns-clause-exists
returns-clause-exists c = has_profile

pub returns-clause-one : goal.returns-clause-one
returns-clause-one c = profile_is_one
