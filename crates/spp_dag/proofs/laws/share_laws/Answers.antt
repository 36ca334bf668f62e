-- The laws of shares.
use Rattle.spp_dag.proofs.Profiles.{shares_one}
use Rattle.spp_dag.proofs.Shares.{shares_law, cut_law, end_law}
use Rattle.spp_dag.proofs.laws.share_laws.Goals as goal

pub returns-clause-add : goal.returns-clause-add
returns-clause-add c = shares_law

pub returns-clause-whole : goal.returns-clause-whole
returns-clause-whole c = cut_law

pub returns-clause-end : goal.returns-clause-end
returns-clause-end c = end_law

pub returns-clause-spans : goal.returns-clause-spans
returns-clause-spans c = shares_one
