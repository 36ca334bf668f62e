-- Reading an input block by block.
use Rattle.std.specs.Prelude.{◌≡◌, ℕ, ◌+◌, ◌≤◌, ◌^◌, List, ◌++◌, length, take, Bool, true, false, Option}
use Rattle.spp_shell.specs.Devices.{giving_of}
use Rattle.spp_shell.specs.Streams.{HasRead}
use Rattle.spp_shell.specs.declared.block_read.NextBlock.{NextBlock}
use Rattle.spp_shell.specs.declared.reading.ReadFault.{ReadFault}

module _ {S : Type 0} (answered : S → Option (List ℕ) → S → Type 0) (failed : S → S → Type 0) (failures : S → ℕ) where
  -- n reads gave these bytes, and the end was not seen; or these are all the bytes up to the end
  abbrev pub IsReadTo : ℕ → S → List ℕ → S → Bool → Type 0
  IsReadTo n s xs t ended = (ended ≡ false → HasRead answered failed failures n s xs t) × (ended ≡ true → (giving_of answered failed failures s t).Gave xs)

  -- n reads had given `before` bytes and then `rest`, with which `next` begins; more came behind, until there were `due` bytes, not
  -- counting those before, or the input ended
  pub record IsNextBlock (before due n : ℕ) (rest : List ℕ) (old : S) (next : NextBlock) (new : S) : Type 0 where
    pub kept : take (length rest) (take next.came.filled next.came.bytes.items) ≡ rest
    pub within : before + next.came.filled ≤ 2 ^ 33
    pub full : next.ended ≡ false → due ≤ next.came.filled
    pub read : (s : S) (xs : List ℕ) → length xs ≡ before → HasRead answered failed failures n s (xs ++ rest) old
        → IsReadTo next.came.reads s (xs ++ take next.came.filled next.came.bytes.items) new next.ended

  -- or no more could be read, for this reason
  abbrev pub IsNoBlock : ℕ → ℕ → List ℕ → S → ReadFault → S → Type 0
  IsNoBlock before n rest old fault new = (s : S) (xs : List ℕ) → length xs ≡ before → HasRead answered failed failures n s (xs ++ rest) old
      → (giving_of answered failed failures s new).Refused fault
