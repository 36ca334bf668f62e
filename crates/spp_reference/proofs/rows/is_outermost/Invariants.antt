use Rattle.std.proofs.Common.{◌≡◌, ◌&&◌, true, nat_eq}
use Rattle.spp_dag.specs.Ranges.{none_below}
use Rattle.spp_dag.specs.Rows.{encloses, function_of}
use Rattle.spp_reference.proofs.rows.is_outermost.Given as goal

-- none of the frames before f
abbrev pub invariant-loop-f : goal.invariant-loop-f
invariant-loop-f l =
    none_below (λ f. encloses l.dag f l.g && nat_eq (function_of l.dag l.root f) (function_of l.dag l.root l.g)) l.f ≡ true
