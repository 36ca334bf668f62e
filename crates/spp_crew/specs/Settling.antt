-- What is known of a path that was settled over the choices of the parts.
use Rattle.std.specs.Prelude.{◌≡◌, ℕ, List, length}
use Rattle.spp_event.specs.declared.records.Event.{Event}
use Rattle.spp_maxplus.specs.declared.state.Burdens.{Burdens}
use Rattle.spp_dag.specs.declared.choices.Choices.{Choices}
use Rattle.spp_stack.specs.Chain.{Stacks}
use Rattle.spp_path.specs.declared.settled.Under.{Under}
use Rattle.spp_path.specs.Settled.{PathOf, AreOfRun, IsSettled, burdens_under}

-- it was settled over these stacks; and where they and the choices are those of a run, it is the path of that run under the
-- burdens, or without them
pub record IsSettledBy (over : Stacks) (choices : List Choices) (under : Under) (s : PathOf) : Type 0 where
  pub stacks : s.stacks ≡ over
  pub count : length s.starts ≡ length over.starts
  pub settled : (es : List Event) (burdens : Burdens) (root : ℕ) → AreOfRun es burdens root over choices → IsSettled es (burdens_under under burdens) s
