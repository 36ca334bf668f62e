use Rattle.std.proofs.Common.{◌≡◌, ◌<◌, ℕ, []}
use Rattle.std.specs.Prelude.{slice_index_or}
use Rattle.spp_shell.proofs.told_sites.site_named.Given as goal

-- none of the call sites before has the name
abbrev pub invariant-loop-site : goal.invariant-loop-site
invariant-loop-site l = (k : ℕ) → k < l.site → slice_index_or l.trace.sites k [] ≡ l.name → ⊥
