use Rattle.std.proofs.Common.{◌≡◌, ◌&&◌, true}
use Rattle.spp_dag.specs.Ranges.{none_below}
use Rattle.spp_dag.specs.Rows.{encloses, entered_by, same_site}
use Rattle.spp_reference.proofs.rows.is_top_site.Given as goal

-- none of the frames before f
abbrev pub invariant-loop-f : goal.invariant-loop-f
invariant-loop-f l = none_below (λ f. encloses l.dag f l.g && same_site (entered_by l.dag f) (entered_by l.dag l.g)) l.f ≡ true
