use Rattle.std.proofs.Common.{◌≡◌, take}
use Rattle.std.specs.List.{flat_map}
use Rattle.spp_shell.specs.Advise.{changes_at}
use Rattle.spp_shell.proofs.advising.changes_of.Given as goal

abbrev pub invariant-loop-site : goal.invariant-loop-site
invariant-loop-site l = l.changes.items ≡ flat_map (changes_at l.factor l.counts) (take l.site-index l.first)
