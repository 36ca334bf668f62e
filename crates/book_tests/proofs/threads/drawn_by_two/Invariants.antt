use Rattle.book_tests.proofs.threads.drawn_by_two.Given as goal

-- the ledger of the blank, and the name of the job
abbrev pub ghosts-drawn_at-N-Ledger : goal.ghosts-drawn_at-N-Ledger
ghosts-drawn_at-N-Ledger g a = record { name = a.blank.name; parts = a.blank.parts }

abbrev pub ghosts-drawn_at-N-Naming : goal.ghosts-drawn_at-N-Naming
ghosts-drawn_at-N-Naming g a = record { job = a.job.now.numbers.now }
