-- What words ask for. The program's name stands before them.
use Rattle.std.specs.Prelude.{◌≡◌, ◌==◌, ℕ, Bool, true, false, List, [], ◌∷◌, Option, Some, None, codes, map}
use Rattle.std.specs.String.{string_bytes}
use Rattle.clap.specs.Walk.{Text}
use Rattle.clap.specs.Simple.{subcommand_of}
use Rattle.clap.specs.Faults.{fault_of}
use Rattle.clap.specs.declared.error.kind.ErrorKind.{ErrorKind}
use Rattle.clap.specs.declared.error.kind.ErrorKind.TheVariants.{DisplayHelp, DisplayVersion, MissingRequiredArgument, MissingSubcommand, UnknownArgument, ValueValidation}
use Rattle.std.specs.Option.{option_map}
use Rattle.spp_request.specs.declared.advise_options.AdviseOptions.{AdviseOptions}
use Rattle.spp_request.specs.declared.request.Command.{Command}
use Rattle.spp_request.specs.declared.request.Command.TheVariants.{Check, Figures, Profile, Compare, Encode, Migrate}
use Rattle.spp_maxplus.specs.declared.state.Burdens.{Burdens}
use Rattle.spp_maxplus.specs.State.{equal}
use Rattle.spp_command_line.specs.Spprof.{spprof}
use Rattle.spp_command_line.specs.declared.asked.Asked.{Asked}
use Rattle.spp_command_line.specs.Usage.{Gives, GivesAdvice, IsAdvised, IsAskedBy, spoken}

-- the words have no fault, they ask for these values, and nothing that they ask for has others
abbrev pub AskFor : List Text → Command → List Text → Burdens → ℕ → ℕ → Bool → Bool → Type 0
AskFor words command files burdens parts workers csv explain =
    (fault_of spprof (spoken (codes "spprof" ∷ words)) ≡ [])
    × ((a : Asked) → IsAskedBy (subcommand_of spprof (spoken (codes "spprof" ∷ words))) a
    → (a.request.command ≡ command) × (map string_bytes a.request.files.items ≡ files) × (a.request.burdens ≡ burdens) × (a.request.parts ≡ parts) × (a.request.workers ≡ workers) × (a.request.csv ≡ csv) × (a.explain ≡ explain))
    × Gives (subcommand_of spprof (spoken (codes "spprof" ∷ words))) command files burdens parts workers csv explain

-- the same of words that ask for no explanation
abbrev pub Ask : List Text → Command → List Text → Burdens → ℕ → ℕ → Bool → Type 0
Ask words command files burdens parts workers csv = AskFor words command files burdens parts workers csv false

-- the words have just this fault
abbrev pub Fail : List Text → ErrorKind → Type 0
Fail words kind = fault_of spprof (spoken (codes "spprof" ∷ words)) ≡ kind ∷ []

abbrev pub name_of : Command → Text
name_of Check = codes "check"
name_of Figures = codes "figures"
name_of Profile = codes "profile"
name_of Compare = codes "compare"
name_of Encode = codes "encode"
name_of Migrate = codes "migrate"

-- all commands but `compare` are over one input
abbrev pub IsOverOne : Command → Type 0
IsOverOne Compare = ⊥
IsOverOne _ = Unit {0}

-- a command over one input, alone asks for itself, over standard input, with the defaults
abbrev pub CommandAlone : Type 0
CommandAlone = (command : Command) → IsOverOne command → Ask (name_of command ∷ []) command [] (equal 15000) 16 4 false

-- and so with `-`
abbrev pub Dash : Type 0
Dash = (command : Command) → IsOverOne command → Ask (name_of command ∷ codes "-" ∷ []) command [] (equal 15000) 16 4 false

-- one word more, if it doesn't begin with `-` (45), is the file
abbrev pub OneWord : Type 0
OneWord = (command : Command) (first : ℕ) (rest : Text) → IsOverOne command → (first == 45) ≡ false
    → Ask (name_of command ∷ (first ∷ rest) ∷ []) command ((first ∷ rest) ∷ []) (equal 15000) 16 4 false

-- a second such word is a fault
abbrev pub TwoWords : Type 0
TwoWords = (command : Command) (first second : ℕ) (rest more : Text) → IsOverOne command → (first == 45) ≡ false → (second == 45) ≡ false
    → Fail (name_of command ∷ (first ∷ rest) ∷ (second ∷ more) ∷ []) UnknownArgument

abbrev pub FiguresInParts : Type 0
FiguresInParts =
    Ask (codes "figures" ∷ codes "--burden" ∷ codes "7" ∷ codes "--parts=4" ∷ codes "a" ∷ []) Figures (codes "a" ∷ []) (equal 7) 4 4 false

abbrev pub ProfileAsCsv : Type 0
ProfileAsCsv = Ask (codes "profile" ∷ codes "--csv" ∷ codes "-" ∷ []) Profile [] (equal 15000) 16 4 true

abbrev pub ProfileByWorkers : Type 0
ProfileByWorkers =
    Ask (codes "profile" ∷ codes "--workers" ∷ codes "2" ∷ codes "--parts=7" ∷ codes "a" ∷ []) Profile (codes "a" ∷ []) (equal 15000) 7 2 false

-- every command explains its faults where it is asked to, before its file as behind it
abbrev pub Explained : Type 0
Explained =
    AskFor (codes "check" ∷ codes "--explain" ∷ []) Check [] (equal 15000) 16 4 false true
    × AskFor (codes "figures" ∷ codes "--explain" ∷ []) Figures [] (equal 15000) 16 4 false true
    × AskFor (codes "profile" ∷ codes "--explain" ∷ codes "--csv" ∷ codes "a" ∷ []) Profile (codes "a" ∷ []) (equal 15000) 16 4 true true
    × AskFor (codes "compare" ∷ codes "a" ∷ codes "b" ∷ codes "--explain" ∷ []) Compare (codes "a" ∷ codes "b" ∷ []) (equal 15000) 16 4 false true
    × AskFor (codes "encode" ∷ codes "a" ∷ codes "--explain" ∷ []) Encode (codes "a" ∷ []) (equal 15000) 16 4 false true
    × AskFor (codes "migrate" ∷ codes "--explain" ∷ []) Migrate [] (equal 15000) 16 4 false true

-- --join-burden alone leaves the burden of continuation edges as it is
abbrev pub JoinBurden : Type 0
JoinBurden =
    Ask (codes "figures" ∷ codes "--join-burden" ∷ codes "3" ∷ []) Figures [] (record { continuation = 15000; join = 3 }) 16 4 false

-- beside --burden it wins, before it as behind it
abbrev pub TwoBurdens : Type 0
TwoBurdens =
    Ask (codes "profile" ∷ codes "--burden" ∷ codes "3" ∷ codes "--join-burden=0" ∷ []) Profile [] (record { continuation = 3; join = 0 }) 16 4 false
    × Ask (codes "profile" ∷ codes "--join-burden=0" ∷ codes "--burden" ∷ codes "3" ∷ []) Profile [] (record { continuation = 3; join = 0 }) 16 4 false

-- the greatest burdens, and one more
abbrev pub GreatBurdens : Type 0
GreatBurdens =
    Ask (codes "figures" ∷ codes "--burden=4294967295" ∷ []) Figures [] (equal 4294967295) 16 4 false
    × Ask (codes "figures" ∷ codes "--burden=0" ∷ codes "--join-burden=4294967295" ∷ []) Figures [] (record { continuation = 0; join = 4294967295 }) 16 4 false
    × Fail (codes "figures" ∷ codes "--burden=4294967296" ∷ []) ValueValidation
    × Fail (codes "figures" ∷ codes "--join-burden=4294967296" ∷ []) ValueValidation

-- two words are the files of `compare`, the first that of the run before
abbrev pub CompareBoth : Type 0
CompareBoth = Ask (codes "compare" ∷ codes "a" ∷ codes "b" ∷ []) Compare (codes "a" ∷ codes "b" ∷ []) (equal 15000) 16 4 false

-- with options between them and behind
abbrev pub CompareInParts : Type 0
CompareInParts =
    Ask (codes "compare" ∷ codes "a" ∷ codes "--burden=3" ∷ codes "b" ∷ codes "--join-burden=0" ∷ codes "--parts=7" ∷ codes "--workers=2" ∷ [])
    Compare (codes "a" ∷ codes "b" ∷ []) (record { continuation = 3; join = 0 }) 7 2 false

-- a file left out, one too many, an option that `compare` hasn't got, and numbers out of their ranges
abbrev pub NoCompare : Type 0
NoCompare =
    Fail (codes "compare" ∷ []) MissingRequiredArgument
    × Fail (codes "compare" ∷ codes "a" ∷ []) MissingRequiredArgument
    × Fail (codes "compare" ∷ codes "a" ∷ codes "b" ∷ codes "c" ∷ []) UnknownArgument
    × Fail (codes "compare" ∷ codes "--csv" ∷ codes "a" ∷ codes "b" ∷ []) UnknownArgument
    × Fail (codes "compare" ∷ codes "--parts=0" ∷ codes "a" ∷ codes "b" ∷ []) ValueValidation
    × Fail (codes "compare" ∷ codes "--workers=65" ∷ codes "a" ∷ codes "b" ∷ []) ValueValidation

abbrev pub NoCommand : Type 0
NoCommand = Fail [] MissingSubcommand

abbrev pub Help : Type 0
Help = Fail (codes "--help" ∷ []) DisplayHelp × ((command : Command) → Fail (name_of command ∷ codes "--help" ∷ []) DisplayHelp)

-- so does `help`, alone and before a command
abbrev pub HelpBefore : Type 0
HelpBefore = Fail (codes "help" ∷ []) DisplayHelp × ((command : Command) → Fail (codes "help" ∷ name_of command ∷ []) DisplayHelp)

abbrev pub Version : Type 0
Version = Fail (codes "--version" ∷ []) DisplayVersion

abbrev pub NoParts : Type 0
NoParts =
    Fail (codes "figures" ∷ codes "--parts" ∷ codes "0" ∷ []) ValueValidation
    × Fail (codes "profile" ∷ codes "--parts" ∷ codes "0" ∷ []) ValueValidation

-- no worker, one too many, and a command that has none
abbrev pub NoWorkers : Type 0
NoWorkers =
    Fail (codes "figures" ∷ codes "--workers" ∷ codes "0" ∷ []) ValueValidation
    × Fail (codes "profile" ∷ codes "--workers" ∷ codes "0" ∷ []) ValueValidation
    × Fail (codes "profile" ∷ codes "--workers=65" ∷ []) ValueValidation
    × Fail (codes "check" ∷ codes "--workers" ∷ codes "2" ∷ []) UnknownArgument

-- these are the options
abbrev pub AreOptions : Option AdviseOptions → ℕ → ℕ → Option Text → Type 0
AreOptions None top factor site = ⊥
AreOptions (Some o) top factor site = (o.top ≡ top) × (o.factor ≡ factor) × (option_map string_bytes o.site ≡ site)

-- the words have no fault, they ask for advice about the run of these files with these options and else with the defaults, as
-- comma-separated values or not, and for nothing else
abbrev pub AskAdvice : List Text → List Text → Bool → ℕ → ℕ → Option Text → Type 0
AskAdvice words files csv top factor site =
    Ask words Profile files (equal 15000) 16 4 csv
    × ((o : Option AdviseOptions) → IsAdvised (subcommand_of spprof (spoken (codes "spprof" ∷ words))) o → AreOptions o top factor site)
    × GivesAdvice (subcommand_of spprof (spoken (codes "spprof" ∷ words))) top factor site

-- alone, with `-`, with a file, and with all its options
abbrev pub Advise : Type 0
Advise =
    AskAdvice (codes "advise" ∷ []) [] false 10 2 None
    × AskAdvice (codes "advise" ∷ codes "-" ∷ []) [] false 10 2 None
    × ((first : ℕ) (rest : Text) → (first == 45) ≡ false → AskAdvice (codes "advise" ∷ (first ∷ rest) ∷ []) ((first ∷ rest) ∷ []) false 10 2 None)
    × AskAdvice (codes "advise" ∷ codes "--top" ∷ codes "3" ∷ codes "--site" ∷ codes "b" ∷ codes "--faster=1000" ∷ codes "--csv" ∷ codes "a" ∷ []) (codes "a" ∷ []) true 3 1000 (Some (codes "b"))

-- a second file, numbers out of their ranges, and an option of another command
abbrev pub NoAdvise : Type 0
NoAdvise =
    ((first second : ℕ) (rest more : Text) → (first == 45) ≡ false → (second == 45) ≡ false
    → Fail (codes "advise" ∷ (first ∷ rest) ∷ (second ∷ more) ∷ []) UnknownArgument)
    × Fail (codes "advise" ∷ codes "--top" ∷ codes "0" ∷ []) ValueValidation
    × Fail (codes "advise" ∷ codes "--top=65537" ∷ []) ValueValidation
    × Fail (codes "advise" ∷ codes "--faster=1" ∷ []) ValueValidation
    × Fail (codes "advise" ∷ codes "--faster=1001" ∷ []) ValueValidation
    × Fail (codes "profile" ∷ codes "--top=3" ∷ []) UnknownArgument

-- its help
abbrev pub AdviseHelp : Type 0
AdviseHelp =
    Fail (codes "advise" ∷ codes "--help" ∷ []) DisplayHelp
    × Fail (codes "help" ∷ codes "advise" ∷ []) DisplayHelp
