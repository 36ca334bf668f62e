-- What a pass along a path knows of it between two events, and what an event does to that.
use Rattle.std.specs.Prelude.{◌+◌, ◌-◌, ◌<◌, ◌^◌, Bool, ◌&&◌, nat_eq}
use Rattle.spp_path.specs.declared.trail.Trail.{Trail}

-- the innermost open frame is entered, and runs on along the path
abbrev pub runs : Trail → Bool
runs t = nat_eq t.skipped 0 && t.running

-- the innermost entered frame runs on, or doesn't
abbrev pub running_trail : Bool → Trail → Trail
running_trail b t = record t { running = b }

-- a frame is open that the path doesn't enter
abbrev pub skip_trail : Trail → Trail
skip_trail t = record t { skipped = t.skipped + 1 }

-- one more can be open
abbrev pub CanSkip : Trail → Type 0
CanSkip t = t.skipped + 1 < 2 ^ 32

-- such a frame has closed
abbrev pub leave_trail : Trail → Trail
leave_trail t = record t { skipped = t.skipped - 1 }
