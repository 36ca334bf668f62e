use Rattle.spp_crew.proofs.round.run_round.Given as goal

-- the ledger of the blank, and the name of the job
abbrev pub ghosts-run_named-N-Ledger : goal.ghosts-run_named-N-Ledger
ghosts-run_named-N-Ledger g a = record { name = a.blank.name; parts = a.blank.parts }

abbrev pub ghosts-run_named-N-Naming : goal.ghosts-run_named-N-Naming
ghosts-run_named-N-Naming g a = record { job = g.J.Job.name a.job.now }
