use Rattle.spp_event.specs.Readers.{Stands}
use Rattle.trace_tests.proofs.compact.read_all.Given as goal

-- the reader stands at the event that is read next
abbrev pub invariant-loop-i : goal.invariant-loop-i
invariant-loop-i l = Stands l.events l.trace l.i
