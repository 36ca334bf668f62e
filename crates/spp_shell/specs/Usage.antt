-- How the program ends where it was asked for help, or wrongly.
use Rattle.std.specs.Prelude.{◌≡◌, ◌≢◌, ℕ, ⊤}
use Rattle.std.specs.String.{string_bytes}
use Rattle.spp_request.specs.declared.request.UsageFault.{UsageFault}
use Rattle.spp_request.specs.declared.request.UsageFault.TheVariants.{Shown, Memory}
use Rattle.spp_shell.specs.declared.trouble.Trouble.TheVariants.{NoMemory}
use Rattle.spp_shell.specs.Devices.{Taking, Told}
use Rattle.spp_shell.specs.Endings.{WritingEnds}
use Rattle.spp_shell.specs.Troubles.{trouble_line}

-- a text that goes with this status, or want of memory
abbrev pub GoesWith : ℕ → UsageFault → Type 0
GoesWith status (Shown text told) = told ≡ status
GoesWith status Memory = ⊤

-- Help goes to the output, whole or as far as the output took it. The text of a usage fault goes to the device for
-- faults, and the program ends with the status that came with it.
abbrev pub UsageEnds : Taking → Taking → UsageFault → ℕ → Type 0
UsageEnds out err (Shown text told) status =
    (told ≡ 0 → WritingEnds out err (string_bytes text) status) × (told ≢ 0 → (status ≡ told) × out.Untouched × Told err (string_bytes text))
UsageEnds out err Memory status = (status ≡ 4) × out.Untouched × Told err (trouble_line NoMemory)
