-- What `profile` answers: the report of the run whose trace the input is. Its line of fault is that of `check`.
use Rattle.std.specs.Prelude.{◌≡◌, ℕ, Bool, true, false, List, [], ◌∷◌}
use Rattle.spp_event.specs.Recordings.{Recording}
use Rattle.spp_event.specs.Header.{IsTraceOf}
use Rattle.spp_maxplus.specs.declared.state.Burdens.{Burdens}
use Rattle.spp_site.specs.declared.profile.Profile.{Profile}
use Rattle.spp_site.specs.Profiles.{IsProfileOf}
use Rattle.spp_report.specs.Csv.{csv_text}
use Rattle.spp_report.specs.Plain.{plain_text}

-- the tables as comma-separated values where these are asked for, and otherwise figures and tables as text
abbrev pub report_text : Bool → Recording → Profile → List ℕ
report_text true t p = csv_text t p
report_text false t p = plain_text t p

-- the bytes are those of a well-formed trace, and the text tells the profile of its run
abbrev pub TellsProfile : Burdens → Bool → List ℕ → List ℕ → Type 0
TellsProfile burdens csv bytes text =
    (t : Recording) × (p : Profile) × IsTraceOf bytes t × IsProfileOf t burdens p × (text ≡ report_text csv t p)

-- the text for one input
abbrev pub IsProfileText : Burdens → Bool → List (List ℕ) → List ℕ → Type 0
IsProfileText burdens csv inputs text = (bytes : List ℕ) × (inputs ≡ bytes ∷ []) × TellsProfile burdens csv bytes text
