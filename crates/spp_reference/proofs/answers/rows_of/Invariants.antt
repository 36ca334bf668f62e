use Rattle.std.proofs.Common.{get_or, Some}
use Rattle.spp_dag.specs.Rows.{row}
use Rattle.spp_reference.specs.Dags.{Lists}
use Rattle.spp_reference.specs.Places.{holds}
use Rattle.spp_reference.proofs.answers.rows_of.Given as goal

abbrev pub invariant-loop-site : goal.invariant-loop-site
invariant-loop-site l = Lists l.site (λ site. row l.dag l.root (λ f. get_or l.spans f 0) (holds l.places) (Some site)) l.rows.items
