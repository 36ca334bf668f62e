-- What the parts of a cut tell of a run's choices.
use Rattle.std.specs.Prelude.{◌+◌, List, [], ◌∷◌}
use Rattle.spp_event.specs.declared.records.Event.{Event}
use Rattle.spp_cut.specs.Parts.{PartOf}
use Rattle.spp_maxplus.specs.declared.state.Burdens.{Burdens}
use Rattle.spp_dag.specs.declared.choices.Choices.{Choices}
use Rattle.spp_dag.specs.ChoiceLists.{AreChoicesIn}

-- for each part, in order, those at its positions, for the paths without burdens and under these
abbrev pub AreChoicesOf : List Event → Burdens → List PartOf → List Choices → Type 0
AreChoicesOf es burdens [] [] = Unit {0}
AreChoicesOf es burdens [] (c ∷ cs) = ⊥
AreChoicesOf es burdens (p ∷ ps) [] = ⊥
AreChoicesOf es burdens (p ∷ ps) (c ∷ cs) = AreChoicesIn es burdens p.first (p.first + p.count) c × AreChoicesOf es burdens ps cs
