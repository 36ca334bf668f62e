-- What `encode` answers: the bytes of the trace that the input names as a text, or the line of its first fault.
use Rattle.std.specs.Prelude.{◌≡◌, ◌==◌, ◌⊎◌, ◌+◌, ℕ, List, [], ◌∷◌, ◌++◌, take, codes, decimal, count_by, Err, IsUtf8}
use Rattle.std.specs.Str.{IsValidUpTo}
use Rattle.spp_text.specs.declared.fault.TextWhy.TheVariants.{Word}
use Rattle.spp_text.specs.declared.fault.TextFault.{TextFault}
use Rattle.spp_text.specs.FaultTexts.{text_why_text}
use Rattle.spp_text.specs.Parsed.{IsEncoded}
use Rattle.spp_text.specs.Reading.{read_text, fault_at}
use Rattle.spp_report.specs.Figures.{line}

abbrev pub text_line : TextFault → List ℕ
text_line fault = line (codes "bad text line " ++ decimal fault.line ++ codes ": " ++ text_why_text fault.why)

-- the bytes are UTF-8, and as a text they have this fault first
abbrev pub IsBadText : List ℕ → TextFault → Type 0
IsBadText bytes fault = IsUtf8 bytes × (read_text bytes ≡ Err fault)

-- the number of the line that the bytes end on: one more than there are line feeds in them
abbrev pub end_line : List ℕ → ℕ
end_line bytes = 1 + count_by (λ b. b == 10) bytes

-- the bytes are UTF-8 up to n and no further, and the fault is a wrong word on the line where that is
abbrev pub IsNoText : List ℕ → TextFault → Type 0
IsNoText bytes fault = (n : ℕ) × IsValidUpTo bytes n × (fault ≡ fault_at (end_line (take n bytes)) Word)

-- the text for one input: the bytes of the trace that it names
abbrev pub IsEncodeText : List (List ℕ) → List ℕ → Type 0
IsEncodeText inputs text = (bytes : List ℕ) × (inputs ≡ bytes ∷ []) × IsUtf8 bytes × IsEncoded bytes text

-- the line for one input that is refused
abbrev pub IsEncodeLine : List (List ℕ) → List ℕ → Type 0
IsEncodeLine inputs told =
    (bytes : List ℕ) × (fault : TextFault) × (inputs ≡ bytes ∷ []) × (IsBadText bytes fault ⊎ IsNoText bytes fault) × (told ≡ text_line fault)

-- the line for these bytes alone
abbrev pub IsOneEncodeLine : List ℕ → List ℕ → Type 0
IsOneEncodeLine bytes told = IsEncodeLine (bytes ∷ []) told
