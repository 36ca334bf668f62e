-- A block of events, where it stands in a trace, and what it comes to.
use Rattle.std.specs.Prelude.{◌≡◌, ℕ, ◌+◌, ◌≤◌, ◌^◌, List, length, take}
use Rattle.spp_event.specs.Recordings.{Record, Recording, count_in, records_of}
use Rattle.spp_maxplus.specs.declared.state.Burdens.{Burdens}
use Rattle.spp_piece.specs.Account.{Account, account_of}
use Rattle.spp_part.specs.declared.part_profile.PartProfile.{PartProfile}
use Rattle.spp_part.specs.Parts.{IsPartProfile}
use Rattle.spp_part.specs.RecordParts.{HasPart}
use Rattle.spp_crew.specs.declared.block.Block.{Block}

-- the bytes of a block's events
abbrev pub bytes_of : Block → List ℕ
bytes_of block = take block.len block.bytes.items

-- how many events it has
abbrev pub count_of : Block → ℕ
count_of block = block.count

-- its records
abbrev pub records_in : Block → List Record
records_in block = records_of block.version block.sites block.funcs (count_of block) (bytes_of block)

-- its numbers are within the limits of a trace
pub record IsReadable (block : Block) : Type 0 where
  pub sites : block.sites ≤ 65536
  pub funcs : block.funcs ≤ 65536
  pub within : block.len ≤ length block.bytes.items
  pub counted : count_of block ≡ count_in block.version (bytes_of block)
  pub few : block.first + count_of block ≤ 2 ^ 28

-- it is read under these burdens, and its records are those of the trace from the one at i on
pub record IsBlockAt (trace : Recording) (burdens : Burdens) (i : ℕ) (block : Block) : Type 0 where
  pub under : block.burdens ≡ burdens
  pub first : block.first ≡ i
  pub part : HasPart trace block.sites block.funcs i (records_in block)

-- that is what the block comes to, in whichever trace it stands
abbrev pub IsPartOf : Block → PartProfile → Type 0
IsPartOf block part = (trace : Recording) (i : ℕ) → HasPart trace block.sites block.funcs i (records_in block) → IsPartProfile trace block.burdens i (count_of block) part

-- that is the summary of the block
abbrev pub IsSummaryOf : Block → Account → Type 0
IsSummaryOf block summary = summary ≡ account_of block.burdens block.first (records_in block)

-- that is the summary of the first k records of the trace
abbrev pub IsSummaryOfFirst : Recording → Burdens → ℕ → Account → Type 0
IsSummaryOfFirst trace burdens k summary = summary ≡ account_of burdens 0 (take k trace.records)
