-- The texts of refused cuts.
use Rattle.std.specs.Prelude.{ℕ, List, ◌++◌, codes, decimal}
use Rattle.spp_cut.specs.declared.cutting.CutFault.{CutFault}
use Rattle.spp_cut.specs.declared.cutting.CutFault.TheVariants.{TooMany, OutOfRange, NotRising, Memory}

abbrev pub cut_fault_text : CutFault → List ℕ
cut_fault_text TooMany = codes "too many cuts"
cut_fault_text (OutOfRange k) = codes "cut " ++ decimal k ++ codes " is behind the end"
cut_fault_text (NotRising k) = codes "cut " ++ decimal k ++ codes " is not above the one before"
cut_fault_text Memory = codes "out of memory"
