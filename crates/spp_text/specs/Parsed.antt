-- What a step of reading, and the whole of it, answers.
use Rattle.std.specs.Prelude.{◌≡◌, ◌≢◌, ℕ, suc, ◌≤◌, List, [], ◌∷◌, length, take, map, min, unwrap_or, Result, Ok, Err}
use Rattle.std.specs.List.{flat_map}
use Rattle.std.specs.Str.Lines.{lines}
use Rattle.spp_event.specs.declared.version.Version.TheVariants.{One}
use Rattle.spp_event.specs.Records.{spelling}
use Rattle.spp_event.specs.Recordings.{Recording}
use Rattle.spp_event.specs.Header.{IsTraceOf}
use Rattle.spp_text.specs.declared.fault.TextWhy.{TextWhy}
use Rattle.spp_text.specs.declared.fault.TextWhy.TheVariants.{Memory}
use Rattle.spp_text.specs.declared.fault.TextFault.{TextFault}
use Rattle.spp_text.specs.Reading.{Said, nothing, read_line, read_text}

-- the fault is the one that was to come, or want of memory
abbrev pub IsWhy : {T : Type 0} → TextWhy → Result T TextWhy → Type 0
IsWhy Memory read = Unit {0}
IsWhy why read = read ≡ Err why

-- what a step answered, and what has been said after it, is what was to come
abbrev pub Reads : {X : Type 0} → Result X TextWhy → Result Said TextWhy → Said → Type 0
Reads (Ok x) read new = read ≡ Ok new
Reads (Err why) read new = IsWhy why read

-- the trace of which all this has been said, in version 1
abbrev pub recording_of : Said → Recording
recording_of s = record { funcs = s.funcs; sites = s.sites; root = unwrap_or s.root 0; records = map (λ e. Ok e) s.events; version = One; body = flat_map spelling s.events }

-- the text names this trace, whatever its version
abbrev pub Names : List ℕ → Recording → Type 0
Names text t = (s : Said) × (read_text text ≡ Ok s) × (t ≡ record (recording_of s) { version = t.version; body = t.body })

-- the text says this, and these are the bytes of the trace of which it says so: its header and the spellings of its
-- events, no more
abbrev pub IsEncoded : List ℕ → List ℕ → Type 0
IsEncoded text bytes = (s : Said) × (read_text text ≡ Ok s) × IsTraceOf bytes (recording_of s)

-- the first fault of the text's least line that has one, or want of memory
abbrev pub IsTextFault : List ℕ → TextFault → Type 0
IsTextFault text fault = fault.why ≢ Memory → read_text text ≡ Err fault

-- where s has been said, these lines are read one after the other without a fault, and then t has been said
abbrev pub SaysSoFar : Said → List (List ℕ) → Said → Type 0
SaysSoFar s [] t = s ≡ t
SaysSoFar s (l ∷ ls) t = (u : Said) × (read_line s l ≡ Ok u) × SaysSoFar u ls t

-- the number of a line of the text, from 1, or of the end behind the last, up to which all lines are read without a
-- fault; numbers past 32 bits are told as the greatest
abbrev pub IsLineReached : List ℕ → ℕ → Type 0
IsLineReached text number = (n : ℕ) × (s : Said) × (n ≤ length (lines text)) × SaysSoFar nothing (take n (lines text)) s × (number ≡ min (suc n) 4294967295)
