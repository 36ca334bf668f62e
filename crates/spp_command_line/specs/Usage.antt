-- What a request has of the words, and how a program ends whose words are no request. What `clap` finds in words, and
-- which kinds of error it has for those that it refuses, are definitions of its own.
use Rattle.std.specs.Prelude.{◌≡◌, ◌⊎◌, ℕ, Bool, true, false, List, [], ◌∷◌, ◌++◌, Option, Some, None, cond, codes, map, ◌≤◌}
use Rattle.std.specs.Str.{bytes_eq}
use Rattle.std.specs.Str.Parse.{IsNumeral, digits_value, without_leading_plus}
use Rattle.std.specs.Option.{option_map}
use Rattle.std.specs.String.{string_bytes}
use Rattle.clap.specs.Walk.{Row, Text, first_of, one_of}
use Rattle.clap.specs.Kinds.{IsAmong, Kinds}
use Rattle.clap.specs.declared.error.kind.ErrorKind.{ErrorKind}
use Rattle.clap.specs.declared.error.kind.ErrorKind.TheVariants.{DisplayHelp, DisplayVersion}
use Rattle.spp_maxplus.specs.declared.state.Burdens.{Burdens}
use Rattle.spp_request.specs.declared.advise_options.AdviseOptions.{AdviseOptions}
use Rattle.spp_request.specs.declared.request.Request.{Request}
use Rattle.spp_request.specs.declared.request.Command.{Command}
use Rattle.spp_request.specs.declared.request.Command.TheVariants.{Check, Figures, Profile, Compare, Encode, Migrate}
use Rattle.spp_request.specs.declared.request.UsageFault.{UsageFault}
use Rattle.spp_request.specs.declared.request.UsageFault.TheVariants.{Shown, Memory}
use Rattle.spp_command_line.specs.declared.asked.Asked.{Asked}

-- the words as they are handed to `clap`: `help` before one more word asks for the help of that command, and alone for all
-- help; the first word is the program's name
abbrev pub spoken : List Text → List Text
spoken (program ∷ word ∷ []) = cond (bytes_eq word (codes "help")) (program ∷ codes "--help" ∷ []) (program ∷ word ∷ [])
spoken (program ∷ word ∷ command ∷ []) =
    cond (bytes_eq word (codes "help")) (program ∷ command ∷ codes "--help" ∷ []) (program ∷ word ∷ command ∷ [])
spoken words = words

-- the status that a text goes with: 0 where help or the version was asked for, and else 2
abbrev pub status_of : ErrorKind → ℕ
status_of DisplayHelp = 0
status_of DisplayVersion = 0
status_of _ = 2

-- a text that is shown goes with the status of one of these kinds of error
abbrev pub EndsBy : Kinds → UsageFault → Type 0
EndsBy kinds (Shown text status) = (k : ErrorKind) × IsAmong k kinds × (status ≡ status_of k)
EndsBy kinds Memory = Unit {0}

-- the command of a name; whoever asks for advice about a run has the request of one who asks for its profile
abbrev pub IsNamed : Text → Command → Type 0
IsNamed name Check = name ≡ codes "check"
IsNamed name Figures = name ≡ codes "figures"
IsNamed name Profile = (name ≡ codes "profile") ⊎ (name ≡ codes "advise")
IsNamed name Compare = name ≡ codes "compare"
IsNamed name Encode = name ≡ codes "encode"
IsNamed name Migrate = name ≡ codes "migrate"

-- the file of a command over one input: none where no file is named, or `-`
abbrev pub path_of : Option (List ℕ) → List (List ℕ)
path_of None = []
path_of (Some path) = cond (bytes_eq path (codes "-")) [] (path ∷ [])

-- a file that must be named
abbrev pub named_path : Option (List ℕ) → List (List ℕ)
named_path None = []
named_path (Some path) = path ∷ []

-- the files of a request
abbrev pub paths_of : Option (List ℕ) → Option (List ℕ) → Option (List ℕ) → List (List ℕ)
paths_of file before after = path_of file ++ named_path before ++ named_path after

-- the number that a text spells
abbrev pub number_of : Text → ℕ
number_of text = digits_value 10 (without_leading_plus text)

-- the text spells a number in the bounds
abbrev pub IsNumberIn : ℕ → ℕ → Text → Type 0
IsNumberIn least most text =
    IsNumeral 10 (without_leading_plus text) × (least ≤ number_of text) × (number_of text ≤ most)

-- n is the number that the text spells; where there is no text, or it spells none in the bounds, n is the fallback
abbrev pub IsNumberOr : ℕ → ℕ → ℕ → Option Text → ℕ → Type 0
IsNumberOr least most fallback None n = n ≡ fallback
IsNumberOr least most fallback (Some text) n =
    (IsNumberIn least most text → n ≡ number_of text)
    × ((IsNumberIn least most text → ⊥) → n ≡ fallback)

-- whether a flag was set, by the text that `clap` holds for it
abbrev pub IsFlag : Option Text → Bool → Type 0
IsFlag text b = (text ≡ None → b ≡ false) × (text ≡ Some (codes "false") → b ≡ false) × (text ≡ Some (codes "true") → b ≡ true)

-- what edges bear: --burden is for both kinds, and 15000 without it; --join-burden, where it is given, is for the edges
-- of returns in its place
abbrev pub AreBurdens : List Row → Burdens → Type 0
AreBurdens rows b =
    IsNumberOr 0 4294967295 15000 (one_of (codes "burden") rows) b.continuation
    × IsNumberOr 0 4294967295 b.continuation (one_of (codes "join-burden") rows) b.join

-- what `clap` found, a command's name and the texts of its arguments, gives a request these values; an argument that the
-- command hasn't got, as --parts has none at `check`, has no text
abbrev pub Gives : Option (Text × List Row) → Command → List Text → Burdens → ℕ → ℕ → Bool → Bool → Type 0
Gives None command files burdens parts workers csv explain = ⊥
Gives (Some (name, rows)) command files burdens parts workers csv explain =
    IsNamed name command
    × (files ≡ paths_of (first_of (codes "FILE") rows) (first_of (codes "BEFORE") rows) (first_of (codes "AFTER") rows))
    × AreBurdens rows burdens
    × IsNumberOr 1 65536 16 (one_of (codes "parts") rows) parts
    × IsNumberOr 1 64 4 (one_of (codes "workers") rows) workers
    × IsFlag (one_of (codes "csv") rows) csv
    × IsFlag (one_of (codes "explain") rows) explain

-- what is asked for is what `clap` found
abbrev pub IsAskedBy : Option (Text × List Row) → Asked → Type 0
IsAskedBy found a =
    Gives found a.request.command (map string_bytes a.request.files.items) a.request.burdens a.request.parts a.request.workers a.request.csv a.explain

-- what `clap` found asks for advice, with these options: --top is 10 and --faster is 2 where they aren't given
abbrev pub GivesAdvice : Option (Text × List Row) → ℕ → ℕ → Option Text → Type 0
GivesAdvice None top factor site = ⊥
GivesAdvice (Some (name, rows)) top factor site =
    (name ≡ codes "advise")
    × IsNumberOr 0 4294967295 10 (one_of (codes "top") rows) top
    × IsNumberOr 2 1000 2 (one_of (codes "faster") rows) factor
    × (site ≡ first_of (codes "site") rows)

-- advice is asked for just where `clap` found the command `advise`
abbrev pub IsAdvised : Option (Text × List Row) → Option AdviseOptions → Type 0
IsAdvised None advise = ⊥
IsAdvised (Some (name, rows)) None = name ≡ codes "advise" → ⊥
IsAdvised (Some (name, rows)) (Some o) = GivesAdvice (Some (name, rows)) o.top o.factor (option_map string_bytes o.site)

-- the request is what `clap` found, with --explain or without
abbrev pub IsRequestOf : Option (Text × List Row) → Request → Type 0
IsRequestOf found r = (explain : Bool) × Gives found r.command (map string_bytes r.files.items) r.burdens r.parts r.workers r.csv explain
