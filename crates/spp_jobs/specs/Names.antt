-- The names of jobs: lists of numbers, each of which spells one job. No two jobs have one name: `name_laws` says so.
use Rattle.std.specs.Prelude.{◌≡◌, ℕ, ◌-◌, ◌++◌, List, [], ◌∷◌, length, map, flat_map, sum, take, drop, slice_index_or, Result, Ok, Err}
use Rattle.spp_event.specs.declared.records.Event.{Event}
use Rattle.spp_event.specs.declared.records.Event.TheVariants.{Strand, Call, Spawn, Ret, Sync}
use Rattle.spp_event.specs.declared.records.EventFault.{EventFault}
use Rattle.spp_event.specs.declared.records.EventFault.TheVariants.{Truncated, Tag, Padding, Operand, Site, Func}
use Rattle.spp_event.specs.Recordings.{Recording, version_number}
use Rattle.spp_cut.specs.Parts.{PartOf, CutOf, IsCut, HasFewParts}
use Rattle.spp_maxplus.specs.declared.state.Burdens.{Burdens}

-- what is done with the parts of a cut trace
pub data Kind : Type 0 where
  surveys : Kind
  tables : Kind
  paths : Kind
  profiles : Kind

-- a job: its kind, the parts, and the burdens
pub record JobOf : Type 0 where
  pub kind : Kind
  pub cut : CutOf
  pub burdens : Burdens

-- ---- spelling

-- a kind as a number
abbrev pub spell_kind : Kind → ℕ
spell_kind surveys = 0
spell_kind tables = 1
spell_kind paths = 2
spell_kind profiles = 3

-- a fault of a record as a number
abbrev pub spell_fault : EventFault → ℕ
spell_fault Truncated = 0
spell_fault Tag = 1
spell_fault Padding = 2
spell_fault Site = 3
spell_fault Func = 4
spell_fault Operand = 5

-- a record in three numbers
abbrev pub spell_record : Result Event EventFault → List ℕ
spell_record (Ok (Strand count)) = 0 ∷ count ∷ 0 ∷ []
spell_record (Ok (Call site func)) = 1 ∷ site ∷ func ∷ []
spell_record (Ok (Spawn site func)) = 2 ∷ site ∷ func ∷ []
spell_record (Ok Ret) = 3 ∷ 0 ∷ 0 ∷ []
spell_record (Ok Sync) = 4 ∷ 0 ∷ 0 ∷ []
spell_record (Err fault) = 5 ∷ spell_fault fault ∷ 0 ∷ []

-- a list behind its length
abbrev pub spell_list : List ℕ → List ℕ
spell_list xs = length xs ∷ xs

-- lists behind their number
abbrev pub spell_lists : List (List ℕ) → List ℕ
spell_lists xss = length xss ∷ flat_map spell_list xss

-- a recording: its functions, its sites, its body, its version, its root function and its records
abbrev pub spell_trace : Recording → List ℕ
spell_trace t = spell_lists t.funcs ++ (spell_lists t.sites ++ (spell_list t.body ++ version_number t.version ∷ t.root ∷ flat_map spell_record t.records))

-- how many events each part has
abbrev pub counts_of : CutOf → List ℕ
counts_of c = map (λ p. p.count) c.parts

-- the name of a job: how many events each part has, its kind, its burdens, and the recording
abbrev pub spell : JobOf → List ℕ
spell j = spell_list (counts_of j.cut) ++ (spell_kind j.kind ∷ j.burdens.continuation ∷ j.burdens.join ∷ spell_trace j.cut.trace)

-- ---- what a name tells of parts

-- how many there are
abbrev pub parts_in : List ℕ → ℕ
parts_in [] = 0
parts_in (n ∷ rest) = n

-- the position of the first event of part k, and the number of its events
abbrev pub range_in : List ℕ → ℕ → ℕ × ℕ
range_in [] k = (0, 0)
range_in (n ∷ rest) k = (sum (take k rest), slice_index_or rest k 0)

-- the parts from number i up to, not including, k
abbrev pub parts_from : CutOf → ℕ → ℕ → List PartOf
parts_from c i k = take (k - i) (drop i c.parts)

-- the job is one of a cut trace, and has that kind and that name
pub record IsNamed (kind : Kind) (name : List ℕ) (j : JobOf) : Type 0 where
  pub kind_is : j.kind ≡ kind
  pub named : spell j ≡ name
  pub cut : IsCut j.cut
  pub few : HasFewParts j.cut
