use Rattle.book_tests.proofs.threads.filled_by_two.Given as goal

-- the ledger of the blank, and the name of the job
abbrev pub ghosts-filled_at-N-Ledger : goal.ghosts-filled_at-N-Ledger
ghosts-filled_at-N-Ledger g a = record { name = a.blank.name; parts = a.blank.parts }

abbrev pub ghosts-filled_at-N-Naming : goal.ghosts-filled_at-N-Naming
ghosts-filled_at-N-Naming g a = record { job = a.job.now.numbers.now }
