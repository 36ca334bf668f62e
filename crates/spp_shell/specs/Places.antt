-- How a line of fault names the input that it is about.
use Rattle.std.specs.Prelude.{ℕ, List, [], codes}
use Rattle.spp_shell.specs.declared.place.Place.{Place}
use Rattle.spp_shell.specs.declared.place.Place.TheVariants.{Only, Before, After}

-- the words that the line begins with
abbrev pub place_words : Place → List ℕ
place_words Only = []
place_words Before = codes "before: "
place_words After = codes "after: "
