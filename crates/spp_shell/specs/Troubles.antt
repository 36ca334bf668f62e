-- What is told, and by which status the program ends, where neither the definitions of a trace nor the words of the
-- command line decide it.
use Rattle.std.specs.Prelude.{ℕ, List, ◌++◌, codes}
use Rattle.spp_report.specs.Figures.{line}
use Rattle.spp_shell.specs.declared.trouble.Trouble.{Trouble}
use Rattle.spp_shell.specs.declared.trouble.Trouble.TheVariants.{CannotOpen, CannotRead, TooLong, CannotWrite, NoMemory}
use Rattle.spp_shell.specs.Places.{place_words}

abbrev pub trouble_line : Trouble → List ℕ
trouble_line (CannotOpen place) = line (place_words place ++ codes "cannot open input")
trouble_line (CannotRead place) = line (place_words place ++ codes "cannot read input")
trouble_line (TooLong place) = line (place_words place ++ codes "input too long")
trouble_line CannotWrite = line (codes "cannot write output")
trouble_line NoMemory = line (codes "out of memory")

abbrev pub trouble_status : Trouble → ℕ
trouble_status (CannotOpen place) = 3
trouble_status (CannotRead place) = 3
trouble_status (TooLong place) = 3
trouble_status CannotWrite = 3
trouble_status NoMemory = 4
