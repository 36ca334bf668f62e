-- What is known of the devices of a run when it has ended.
use Rattle.std.specs.Prelude.{◌≡◌, ℕ, ◌≤◌, ◌^◌, ◌⊎◌, List, [], ◌∷◌, length, take, Option}
use Rattle.spp_report.specs.Devices.{FailedAfter}
use Rattle.spp_shell.specs.Reading.{GaveAll, GaveFirst, ReadWithin}
use Rattle.spp_shell.specs.Refusals.{ReadRefused}
use Rattle.spp_shell.specs.declared.reading.ReadFault.{ReadFault}

-- What is known of a device that takes bytes. Where its failures stood at their greatest value before, they tell nothing.
pub record Taking : Type 1 where
  -- it took exactly these bytes
  pub Took : List ℕ → Type 0
  -- it says that it has sent on what it took
  pub Finished : Type 0
  -- it has no more failures than before
  pub Unfailing : Type 0
  -- it took exactly these bytes without a failure, then its failures rose, or stand at their greatest value, and it took
  -- no more
  pub FailedAfter : List ℕ → Type 0
  -- it was not used at all
  pub Untouched : Type 0

-- the same of a sink, from its state before to that after
abbrev pub taking_of : {D : Type 0} → (D → List ℕ → D → Type 0) → (D → Type 0) → (D → ℕ) → D → D → Taking
taking_of took finished failures old new = record {
  Took = λ text. took old text new;
  Finished = finished new;
  Unfailing = failures new ≡ failures old;
  FailedAfter = λ text. FailedAfter took failures old text new;
  Untouched = new ≡ old;
}

-- it took exactly this text, has sent it on, and never failed
abbrev pub TookWhole : Taking → List ℕ → Type 0
TookWhole d text = d.Took text × d.Finished × d.Unfailing

-- It took exactly a first part of the text, and then it failed. That may be the whole text, where the sending on failed,
-- or where it was sent on and something that was asked behind it failed.
abbrev pub TookPart : Taking → List ℕ → Type 0
TookPart d text = (n : ℕ) × (n ≤ length text) × d.Took (take n text) × d.FailedAfter (take n text)

-- it was told this line: it took the line whole, or failed at it
abbrev pub Told : Taking → List ℕ → Type 0
Told d told = TookWhole d told ⊎ TookPart d told

-- what is known of a device that gives bytes
pub record Giving : Type 1 where
  -- it gave exactly these bytes up to its end, at most 2^33 of them in as many reads, and never failed
  pub Gave : List ℕ → Type 0
  -- it gave exactly these bytes first, at most 2^33 of them in fewer reads, and never failed; its end was not seen, and it
  -- wasn't asked for more
  pub Began : List ℕ → Type 0
  -- it could not be read whole, for this reason
  pub Refused : ReadFault → Type 0
  -- at most 2^33 bytes came of it in as many reads, up to its end or not
  pub Within : Type 0
  -- it was not used at all
  pub Untouched : Type 0

module _ {S : Type 0} (answered : S → Option (List ℕ) → S → Type 0) (failed : S → S → Type 0) (failures : S → ℕ) (old new : S) where
  abbrev GaveWithin : List ℕ → Type 0
  GaveWithin bytes = (length bytes ≤ 2 ^ 33) × GaveAll answered (2 ^ 33) old bytes new × (failures new ≡ failures old)

  -- the same of a source, from its state before to that after
  abbrev pub giving_of : Giving
  giving_of = record {
    Gave = GaveWithin;
    Began = λ front. GaveFirst answered (2 ^ 33) (2 ^ 33) old front new × (failures new ≡ failures old);
    Refused = λ fault. ReadRefused answered failed failures (2 ^ 33) (2 ^ 33) old fault new;
    Within = ReadWithin answered (2 ^ 33) (2 ^ 33) old new ⊎ ((bytes : List ℕ) × GaveWithin bytes);
    Untouched = new ≡ old;
  }

-- the inputs of a run: most runs read the first alone
pub record Inputs : Type 1 where
  pub first : Giving
  pub second : Giving

-- the inputs that were read gave exactly these bytes, in order; no other was used
abbrev pub WasRead : Inputs → List (List ℕ) → Type 0
WasRead d [] = ⊥
WasRead d (bytes ∷ []) = d.first.Gave bytes × d.second.Untouched
WasRead d (before ∷ after ∷ []) = d.first.Gave before × d.second.Gave after
WasRead d (before ∷ after ∷ other ∷ more) = ⊥

-- the last input that was read began with the front; those read before it gave exactly these bytes, in order; no other was
-- used
abbrev pub WasBegun : Inputs → List (List ℕ) → List ℕ → Type 0
WasBegun d [] front = d.first.Began front × d.second.Untouched
WasBegun d (before ∷ []) front = d.first.Gave before × d.second.Began front
WasBegun d (before ∷ other ∷ more) front = ⊥

-- all devices of a run: its inputs, its output, and the device for faults
pub record Devices : Type 1 where
  pub inputs : Inputs
  pub out : Taking
  pub err : Taking

abbrev pub inputs_of : Giving → Giving → Inputs
inputs_of first second = record { first = first; second = second }

abbrev pub devices_of : Inputs → Taking → Taking → Devices
devices_of inputs out err = record { inputs = inputs; out = out; err = err }

-- an input that a run hasn't got
abbrev pub no_input : Giving
no_input = record { Gave = λ bytes. ⊥; Began = λ front. ⊥; Refused = λ fault. ⊥; Within = ⊥; Untouched = Unit {0} }

-- the one input of a run that has no second
abbrev pub input_alone : Giving → Inputs
input_alone input = inputs_of input no_input
