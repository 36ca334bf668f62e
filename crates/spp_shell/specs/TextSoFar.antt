-- What is known of a text that is encoded as its lines come.
use Rattle.std.specs.Prelude.{◌≡◌, ◌≢◌, ◌⊎◌, ℕ, List, [], ◌++◌, min, IsUtf8}
use Rattle.spp_text.specs.declared.fault.TextWhy.TheVariants.{Memory}
use Rattle.spp_text.specs.TextDrafts.{AreWholeLines, IsDraftOf, IsFirstFault}
use Rattle.spp_shell.specs.Encode.{IsOneEncodeLine, end_line}
use Rattle.spp_shell.specs.declared.text_so_far.TextSoFar.{TextSoFar}
use Rattle.spp_shell.specs.declared.text_so_far.TextSoFar.TheVariants.{Good, Bad}

-- no line has a fault; or this is the first fault, and the number of the line that the text ends on
abbrev pub ComesTo : TextSoFar → List ℕ → Type 0
ComesTo (Good draft) text = IsDraftOf draft text
ComesTo (Bad fault line) text = (fault.why ≢ Memory) × IsFirstFault text fault × (line ≡ min (end_line text) 4294967295)

-- this text has come, and it is UTF-8
pub record IsTextSoFar (so_far : TextSoFar) (text : List ℕ) : Type 0 where
  pub utf8 : IsUtf8 text
  pub read : ComesTo so_far text

-- what the text is refused with: whatever follows, where it is whole lines, else where nothing follows
abbrev pub IsForeseenLine : List ℕ → List ℕ → Type 0
IsForeseenLine text told = (more : List ℕ) → AreWholeLines text ⊎ (more ≡ []) → IsOneEncodeLine (text ++ more) told
