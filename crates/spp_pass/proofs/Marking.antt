-- What of a stack is outside.
use Rattle.std.proofs.Common.{◌≡◌, List, [], Option, Some, None, refl}
use Rattle.std.specs.Prelude.{IfSome}
use Rattle.spp_dag.specs.declared.stack.EntryFrame.{EntryFrame}
use Rattle.spp_stack.specs.Chain.{StackOf, HasFrames}
use Rattle.spp_pass.specs.Outside.{IsOutside}

-- what is left outside of a stack is what is below its innermost frame
pub outside_below : (o : Option StackOf) (fs : List EntryFrame) → IfSome o (λ e. HasFrames e fs) → (o ≡ None → fs ≡ []) → IsOutside o fs
outside_below None fs h none = none refl
outside_below (Some e) fs h none = h
