-- A header by itself, whatever stands behind it.
use Rattle.std.specs.Prelude.{◌≡◌, ℕ, List, length}
use Rattle.spp_event.specs.declared.version.Version.{Version}
use Rattle.spp_event.specs.declared.version.Version.TheVariants.{One}
use Rattle.spp_event.specs.Recordings.{Recording, InLimits}
use Rattle.spp_event.specs.Header.{HasGoodNames, header_spelling}

-- the header of a trace of that version with so many sites, functions and events
pub record IsHeadOf (version : Version) (head : List ℕ) (sites funcs count : ℕ) : Type 0 where
  pub trace : Recording
  pub spelled : head ≡ header_spelling trace
  pub version_is : trace.version ≡ version
  pub limits : InLimits trace
  pub names : HasGoodNames trace
  pub sites_are : length trace.sites ≡ sites
  pub funcs_are : length trace.funcs ≡ funcs
  pub count_is : length trace.records ≡ count

-- that of a trace of version 1
abbrev pub IsRecordHead : List ℕ → ℕ → ℕ → ℕ → Type 0
IsRecordHead head sites funcs count = IsHeadOf One head sites funcs count
