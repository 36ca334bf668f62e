-- Reading an input step by step: what came so far, and what is known where no more is read.
use Rattle.std.specs.Prelude.{◌≡◌, ℕ, ◌≤◌, ◌^◌, List, length, take, All, Option, ⊤}
use Rattle.spp_shell.specs.Reading.{Reads, given, IsNoEnd}
use Rattle.spp_shell.specs.Devices.{giving_of}
use Rattle.spp_shell.specs.declared.reading_on.Front.{Front}
use Rattle.spp_shell.specs.declared.reading_on.Front.TheVariants.{Whole, Part}

-- all was read
abbrev pub IsWhole : Front → Type 0
IsWhole (Whole bytes) = ⊤
IsWhole (Part came) = ⊥

module _ {S : Type 0} (answered : S → Option (List ℕ) → S → Type 0) (failed : S → S → Type 0) (failures : S → ℕ) where
  -- n reads gave these bytes, which are not too many; the end was not seen, and no read failed
  pub record HasRead (n : ℕ) (s : S) (xs : List ℕ) (t : S) : Type 0 where
    pub reads : (rs : List (Option (List ℕ))) × Reads answered s rs t × All IsNoEnd rs × (xs ≡ given rs) × (length rs ≡ n)
    pub few : length xs ≤ 2 ^ 33
    pub same : failures t ≡ failures s

  -- these are all the bytes up to the end, or those that so many reads gave
  abbrev pub IsFront : S → S → Front → Type 0
  IsFront s t (Whole bytes) = (giving_of answered failed failures s t).Gave bytes.items
  IsFront s t (Part came) = HasRead came.reads s (take came.filled came.bytes.items) t
