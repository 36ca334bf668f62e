-- What the definitions give for a request and the bytes of its inputs.
use Rattle.std.specs.Prelude.{ℕ, Bool, List}
use Rattle.spp_request.specs.declared.request.Command.{Command}
use Rattle.spp_request.specs.declared.request.Command.TheVariants.{Check, Figures, Profile, Compare, Encode, Migrate}
use Rattle.spp_maxplus.specs.declared.state.Burdens.{Burdens}
use Rattle.spp_shell.specs.Check.{IsCheckText, IsCheckLine}
use Rattle.spp_shell.specs.Compare.{IsCompareText, IsCompareLine}
use Rattle.spp_shell.specs.Encode.{IsEncodeText, IsEncodeLine}
use Rattle.spp_shell.specs.Figures.{IsFiguresText}
use Rattle.spp_shell.specs.Migrate.{IsMigrateText, IsMigrateLine}
use Rattle.spp_shell.specs.Profiles.{IsProfileText}

-- the text of the answer, with these burdens, and as comma-separated values or not, where the command asks for these
abbrev pub text_for : Command → Burdens → Bool → List (List ℕ) → List ℕ → Type 0
text_for Check burdens csv = IsCheckText
text_for Figures burdens csv = IsFiguresText burdens
text_for Profile burdens csv = IsProfileText burdens csv
text_for Compare burdens csv = IsCompareText burdens
text_for Encode burdens csv = IsEncodeText
text_for Migrate burdens csv = IsMigrateText

-- the line of fault of inputs that are refused
abbrev pub line_for : Command → List (List ℕ) → List ℕ → Type 0
line_for Check = IsCheckLine
line_for Figures = IsCheckLine
line_for Profile = IsCheckLine
line_for Compare = IsCompareLine
line_for Encode = IsEncodeLine
line_for Migrate = IsMigrateLine
