use Rattle.spp_crew.proofs.round.+crew+fn-crew-join+arg2+fn-crew-join+arg3.Given as goal

-- for how many workers the pass stands
abbrev pub decreases-crew : goal.decreases-crew
decreases-crew g l = l.pass.workers

abbrev pub decreases-join+arg2 : goal.decreases-join+arg2
decreases-join+arg2 g l = l.other.workers

abbrev pub decreases-join+arg3 : goal.decreases-join+arg3
decreases-join+arg3 g l = l.mine.workers
