use Rattle.memory_probe.proofs.book.shared.Given as goal

-- the ledger of the blank, and the name of the job
abbrev pub ghosts-shared_as-N-Ledger : goal.ghosts-shared_as-N-Ledger
ghosts-shared_as-N-Ledger g a = record { name = a.blank.name; parts = a.blank.parts }

abbrev pub ghosts-shared_as-N-Naming : goal.ghosts-shared_as-N-Naming
ghosts-shared_as-N-Naming g a = record { job = a.job.now.numbers.now }
