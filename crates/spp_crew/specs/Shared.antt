-- The profile so far of a run, some of whose rows a thread adds up.
use Rattle.std.specs.Prelude.{ℕ, Option, Some, None, Result}
use Rattle.std.specs.declared.alloc.AllocError.{AllocError}
use Rattle.std.specs.declared.thread.PromisedHandle.{PromisedHandle}
use Rattle.spp_event.specs.Recordings.{Recording}
use Rattle.spp_maxplus.specs.declared.state.Burdens.{Burdens}
use Rattle.spp_dag.specs.declared.row.Row.{Row}
use Rattle.spp_dag.specs.Shares.{plus, zero_row}
use Rattle.spp_pass.specs.declared.aside.RowsAside.{RowsAside}
use Rattle.spp_pass.specs.AsideRows.{aside_row}
use Rattle.spp_part.specs.Parts.{IsSoFarBut}
use Rattle.spp_crew.specs.declared.shared_profile.SameRows.{SameRows}
use Rattle.spp_crew.specs.declared.shared_profile.SharedProfile.{SharedProfile}

-- what the rows that a thread has add to that of a key
abbrev pub adder_row : Option (PromisedHandle (Result RowsAside AllocError) SameRows) → Option ℕ → Row
adder_row None key = zero_row
adder_row (Some thread) key = aside_row thread.promise.0.value key

-- that is the profile of the first i events
abbrev pub IsShared : Recording → Burdens → ℕ → SharedProfile → Type 0
IsShared trace burdens i s = IsSoFarBut (λ key. plus (adder_row s.earlier key) (adder_row s.later key)) trace burdens i s.so_far
