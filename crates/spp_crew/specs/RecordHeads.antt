-- What a header says.
use Rattle.std.specs.Prelude.{◌<◌, ◌≤◌, ◌^◌}
use Rattle.spp_crew.specs.declared.record_head.RecordHead.{RecordHead}

-- the numbers that a header says are within the limits of a trace
pub record IsHead (head : RecordHead) : Type 0 where
  pub root : head.root < head.funcs
  pub funcs : head.funcs ≤ 65536
  pub sites : head.sites ≤ 65536
  pub count : head.count ≤ 2 ^ 28
