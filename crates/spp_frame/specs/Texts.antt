-- The texts of faults, as a line of fault tells them.
use Rattle.std.specs.Prelude.{ℕ, List, ◌++◌, codes, decimal}
use Rattle.spp_event.specs.Texts.{event_fault_text}
use Rattle.spp_frame.specs.declared.Why.{Why}
use Rattle.spp_frame.specs.declared.Why.TheVariants.{Event, RootReturn, Unclosed}
use Rattle.spp_frame.specs.declared.Fault.{Fault}
use Rattle.spp_frame.specs.declared.profile_fault.ProfileFault.{ProfileFault}
use Rattle.spp_frame.specs.declared.profile_fault.ProfileFault.TheVariants.{Bad, Memory}

abbrev pub why_text : Why → List ℕ
why_text (Event fault) = event_fault_text fault
why_text RootReturn = codes "root return"
why_text (Unclosed depth) = codes "unclosed " ++ decimal depth

abbrev pub fault_text : Fault → List ℕ
fault_text fault = decimal fault.at ++ codes ": " ++ why_text fault.why

abbrev pub profile_fault_text : ProfileFault → List ℕ
profile_fault_text (Bad fault) = codes "bad event " ++ fault_text fault
profile_fault_text Memory = codes "out of memory"
