-- What the lines of a text say that are read as they come.
use Rattle.std.specs.Prelude.{◌≡◌, ◌≢◌, ◌⊎◌, ℕ, suc, List, [], ◌∷◌, ◌++◌, length, min, Err}
use Rattle.std.specs.Str.Lines.{lines}
use Rattle.spp_text.specs.declared.fault.TextWhy.TheVariants.{Memory}
use Rattle.spp_text.specs.declared.fault.TextFault.{TextFault}
use Rattle.spp_text.specs.declared.text_draft.TextDraft.{TextDraft}
use Rattle.spp_text.specs.Parsed.{SaysSoFar}
use Rattle.spp_text.specs.Reading.{nothing, read_text}

-- the text is empty, or its last byte is a line feed
abbrev pub AreWholeLines : List ℕ → Type 0
AreWholeLines text = (text ≡ []) ⊎ ((front : List ℕ) × (text ≡ front ++ 10 ∷ []))

-- the lines of this text were read without a fault: what they say, and the number of the next line
pub record IsDraftOf (draft : TextDraft) (text : List ℕ) : Type 0 where
  pub said : SaysSoFar nothing (lines text) draft.draft
  pub next : draft.number ≡ min (suc (length (lines text))) 4294967295

-- the first fault of the text: whatever follows, where it is whole lines, else where nothing follows; or memory was refused
abbrev pub IsFirstFault : List ℕ → TextFault → Type 0
IsFirstFault text fault = fault.why ≢ Memory → (more : List ℕ) → AreWholeLines text ⊎ (more ≡ []) → read_text (text ++ more) ≡ Err fault
