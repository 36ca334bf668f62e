-- When reading is refused.
use Rattle.std.specs.Prelude.{◌≡◌, ℕ, List, Option}
use Rattle.spp_report.specs.Devices.{Raised}
use Rattle.spp_shell.specs.Reading.{ReadWithin, PassedBound}
use Rattle.spp_shell.specs.declared.reading.ReadFault.{ReadFault}
use Rattle.spp_shell.specs.declared.reading.ReadFault.TheVariants.{Device, TooLong, Memory}

-- the device failed at a read that was allowed, and nothing was asked of it afterwards
abbrev pub FailedWithin : {S : Type 0} → (S → Option (List ℕ) → S → Type 0) → (S → S → Type 0) → (S → ℕ) → ℕ → ℕ → S → S → Type 0
FailedWithin answered failed failures most turns s t =
    (m : _) × ReadWithin answered most turns s m × (failures m ≡ failures s) × failed m t × Raised (failures m) (failures t)

-- a fault of the device comes only with a failure, and the others only without one
abbrev pub ReadRefused : {S : Type 0} → (S → Option (List ℕ) → S → Type 0) → (S → S → Type 0) → (S → ℕ) → ℕ → ℕ → S → ReadFault → S → Type 0
ReadRefused answered failed failures most turns s Device t = FailedWithin answered failed failures most turns s t
ReadRefused answered failed failures most turns s TooLong t = PassedBound answered most turns s t × (failures t ≡ failures s)
ReadRefused answered failed failures most turns s Memory t = ReadWithin answered most turns s t × (failures t ≡ failures s)
