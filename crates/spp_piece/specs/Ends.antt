-- What a whole trace comes to.
use Rattle.std.specs.Prelude.{ℕ, List, [], ◌∷◌, length, Result, Ok, Err}
use Rattle.spp_maxplus.specs.State.{close}
use Rattle.spp_frame.specs.declared.Fault.{Fault}
use Rattle.spp_frame.specs.declared.Why.TheVariants.{Unclosed}
use Rattle.spp_dag.specs.declared.figures.Figures.{Figures}
use Rattle.spp_piece.specs.declared.pieces.Frame.{Frame}
use Rattle.spp_piece.specs.Stack.{Stack}

abbrev pub figures_by : List Frame → ℕ → Stack → Result Figures Fault
figures_by [] end s = Ok (record { work = s.work; span = close s.root.plain; burdened = close s.root.burdened })
figures_by (f ∷ fs) end s = Err (record { at = end; why = Unclosed (length (f ∷ fs)) })

-- the stack at the end of a trace gives the figures, or a fault
abbrev pub figures_of : ℕ → Result Stack Fault → Result Figures Fault
figures_of end (Ok s) = figures_by s.frames end s
figures_of end (Err fault) = Err fault
