-- What is known of a run that is profiled as its records come, and what is told of one.
use Rattle.std.specs.Prelude.{◌≡◌, ℕ, ◌<◌, ◌^◌, List, [], length}
use Rattle.spp_event.specs.declared.version.Version.{Version}
use Rattle.spp_event.specs.Recordings.{Recording, records_of}
use Rattle.spp_event.specs.Header.{IsTraceOf}
use Rattle.spp_frame.specs.Nesting.{IsWellFormed}
use Rattle.spp_maxplus.specs.declared.state.Burdens.{Burdens}
use Rattle.spp_site.specs.declared.profile.Profile.{Profile}
use Rattle.spp_site.specs.Profiles.{IsProfileOf}
use Rattle.spp_crew.specs.declared.record_head.RecordHead.{RecordHead}
use Rattle.spp_crew.specs.RecordProfiles.{HasSeen, seen_by}
use Rattle.spp_shell.specs.declared.profiled_records.ProfiledRecords.{ProfiledRecords}

-- how many records have been profiled
abbrev pub profiled_by : ProfiledRecords → ℕ
profiled_by r = seen_by r.profile

-- these bytes of whole events of that version have been profiled, in a trace with the header and under the burdens of the first
pub record IsProfiled (version : Version) (first now : ProfiledRecords) (bytes : List ℕ) : Type 0 where
  pub head : now.profile.head ≡ first.profile.head
  pub burdens : now.profile.burdens ≡ first.profile.burdens
  pub seen : HasSeen now.profile (records_of version now.profile.head.sites now.profile.head.funcs (profiled_by now) bytes)

-- the header of the trace says these numbers
abbrev pub IsRunOf : Recording → RecordHead → Type 0
IsRunOf trace head = head ≡ record { root = trace.root; sites = length trace.sites; funcs = length trace.funcs; count = length trace.records }

-- the records of this trace are to be profiled under these burdens, and none has been yet
pub record IsBeginning (trace : Recording) (burdens : Burdens) (r : ProfiledRecords) : Type 0 where
  pub run : IsRunOf trace r.profile.head
  pub under : r.profile.burdens ≡ burdens
  pub seen : HasSeen r.profile []

-- the bytes are those of a well-formed trace whose call sites have the names of this one, and that is its run's profile
pub record IsProfiledBy (burdens : Burdens) (bytes : List ℕ) (names : Recording) (profile : Profile) : Type 0 where
  pub trace : Recording
  pub sites : trace.sites ≡ names.sites
  pub is_trace : IsTraceOf bytes trace
  pub good : IsWellFormed trace.records
  pub is_profile : IsProfileOf trace burdens profile

-- the bytes are those of a well-formed trace, and that is told of its run's profile
pub record IsTold {T : Type 0} (tells : Recording → Profile → T → Type 0) (burdens : Burdens) (bytes : List ℕ) (told : T) : Type 0 where
  pub trace : Recording
  pub profile : Profile
  pub is_trace : IsTraceOf bytes trace
  pub good : IsWellFormed trace.records
  pub is_profile : IsProfileOf trace burdens profile
  pub small : profile.figures.work < 2 ^ 92
  pub is_told : tells trace profile told
