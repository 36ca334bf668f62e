-- What a run without figures, or without a profile, is answered with.
use Rattle.std.specs.Prelude.{List}
use Rattle.spp_event.specs.Recordings.{Record}
use Rattle.spp_frame.specs.Nesting.{IsFirstBad}
use Rattle.spp_frame.specs.declared.profile_fault.ProfileFault.{ProfileFault}
use Rattle.spp_frame.specs.declared.profile_fault.ProfileFault.TheVariants.{Bad, Memory}

-- what is refused as bad has just that first bad event; want of memory is told of any run
abbrev pub IsFaultOf : List Record → ProfileFault → Type 0
IsFaultOf records (Bad fault) = IsFirstBad records fault
IsFaultOf records Memory = Unit {0}
