-- Figures of runs within the limits of a trace.
use Rattle.std.specs.Prelude.{◌<◌, ◌^◌}
use Rattle.spp_dag.specs.declared.figures.Figures.{Figures}

pub record AreSmall (f : Figures) : Type 0 where
  pub work : f.work < 2 ^ 92
  pub span : f.span < 2 ^ 93
  pub burdened : f.burdened < 2 ^ 93
