-- The summaries of the parts of a cut.
use Rattle.std.specs.Prelude.{◌≡◌, List, map}
use Rattle.spp_cut.specs.Parts.{CutOf, records_in}
use Rattle.spp_maxplus.specs.declared.state.Burdens.{Burdens}
use Rattle.spp_piece.specs.Account.{Account, account_of}

-- for each part, in order, that of its records, under the burdens
abbrev pub AreSummariesOf : CutOf → Burdens → List Account → Type 0
AreSummariesOf cut burdens accounts = accounts ≡ map (λ p. account_of burdens p.first (records_in p)) cut.parts
