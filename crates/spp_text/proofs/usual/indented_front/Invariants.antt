use Rattle.std.proofs.Common.{◌≡◌, true, take}
use Rattle.std.specs.List.{list_all}
use Rattle.spp_text.specs.Reading.{is_blank}
use Rattle.spp_text.proofs.usual.indented_front.Given as goal

abbrev pub invariant-loop-start : goal.invariant-loop-start
invariant-loop-start l = list_all is_blank (take l.start l.text) ≡ true
