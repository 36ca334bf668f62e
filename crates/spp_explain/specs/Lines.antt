-- What a line of fault says, and an explanation.
use Rattle.std.specs.Prelude.{◌≡◌, ◌≢◌, ◌⊎◌, ◌<◌, ◌^◌, ◌++◌, [], ℕ, List, codes, cond, decimal, map}
use Rattle.std.specs.Char.{is_control}
use Rattle.std.specs.Str.{NoCharPasses, chars, encode_utf8_all}
use Rattle.spp_event.specs.Texts.{header_fault_text}
use Rattle.spp_event.specs.declared.header.HeaderFault.{HeaderFault}
use Rattle.spp_event.specs.declared.header.HeaderFault.TheVariants as header
use Rattle.spp_frame.specs.Texts.{fault_text}
use Rattle.spp_frame.specs.declared.Why.{Why}
use Rattle.spp_frame.specs.declared.Why.TheVariants as why
use Rattle.spp_request.specs.declared.request.Command.{Command}
use Rattle.spp_request.specs.declared.request.Command.TheVariants as command
use Rattle.spp_text.specs.FaultTexts.{text_why_text}
use Rattle.spp_text.specs.declared.fault.TextWhy.TheVariants as text
use Rattle.spp_explain.specs.declared.input.Input.{Input}
use Rattle.spp_explain.specs.declared.input.Run.{Run}
use Rattle.spp_explain.specs.declared.line.Told.{Told}
use Rattle.spp_explain.specs.declared.line.Told.TheVariants.{Header, Event, Text, NoSite, CannotOpen, CannotRead, TooLong, CannotWrite, Memory}

-- a fault of a header that a line tells; to have no memory is told without a header
abbrev pub IsToldHeader : HeaderFault → Type 0
IsToldHeader (header.Name number) = number < 2 ^ 32
IsToldHeader (header.SameName number) = number < 2 ^ 32
IsToldHeader header.Memory = ⊥
IsToldHeader _ = Unit {0}

abbrev pub IsToldWhy : Why → Type 0
IsToldWhy (why.Unclosed depth) = depth < 2 ^ 32
IsToldWhy _ = Unit {0}

-- what lines of fault tell, whose numbers are of 32 bits
abbrev pub IsTold : Told → Type 0
IsTold (Header fault) = IsToldHeader fault
IsTold (Event fault) = (fault.at < 2 ^ 32) × IsToldWhy fault.why
IsTold (Text fault) = (fault.line < 2 ^ 32) × (fault.why ≢ text.Memory)
IsTold _ = Unit {0}

-- the line that tells it, without the words that name an input and without its line feed
abbrev pub line_of : Told → List ℕ
line_of (Header fault) = codes "bad header: " ++ header_fault_text fault
line_of (Event fault) = codes "bad event " ++ fault_text fault
line_of (Text fault) = codes "bad text line " ++ decimal fault.line ++ codes ": " ++ text_why_text fault.why
line_of NoSite = codes "no such call site"
line_of CannotOpen = codes "cannot open input"
line_of CannotRead = codes "cannot read input"
line_of TooLong = codes "input too long"
line_of CannotWrite = codes "cannot write output"
line_of Memory = codes "out of memory"

-- the line of fault that tells it, with the words for which of two inputs it is about or without
abbrev pub IsLineOf : Told → List ℕ → Type 0
IsLineOf t line = (line ≡ line_of t) ⊎ (line ≡ codes "before: " ++ line_of t) ⊎ (line ≡ codes "after: " ++ line_of t)

-- one line for a terminal: no control character, as a line feed is one
abbrev pub IsOneLine : List ℕ → Type 0
IsOneLine line = NoCharPasses is_control line

-- what is shown of a character: of a control character a question mark (63)
abbrev pub shown_char : ℕ → ℕ
shown_char c = cond (is_control c) 63 c

-- a text as one line
abbrev pub one_line : List ℕ → List ℕ
one_line text = encode_utf8_all (map shown_char (chars text))

-- the words for what a fault is of, by its name; none where either of two inputs may have taken the memory
abbrev pub subject_of : Told → Command → List ℕ → List ℕ
subject_of Memory command.Compare name = []
subject_of _ _ name = name ++ codes ": "

-- the line is about that subject
abbrev pub IsAbout : List ℕ → List ℕ → Type 0
IsAbout subject line = (rest : List ℕ) × (line ≡ one_line (codes "spprof: " ++ subject ++ rest))

-- the line explains a fault of this input, or of the output where that can't be written
abbrev pub Explains : Told → Run → Input → List ℕ → Type 0
Explains CannotWrite run input line = IsAbout (subject_of CannotWrite run.command run.output.name.now) line
Explains t run input line = IsAbout (subject_of t run.command input.name.now) line
