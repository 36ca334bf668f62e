use Rattle.book_tests.proofs.desk.shown_to_two.Given as goal

-- the ledger of the blank, and the name of the job
abbrev pub ghosts-shown_at-N-Ledger : goal.ghosts-shown_at-N-Ledger
ghosts-shown_at-N-Ledger g a = record { name = a.blank.name; parts = a.blank.parts }

abbrev pub ghosts-shown_at-N-Naming : goal.ghosts-shown_at-N-Naming
ghosts-shown_at-N-Naming g a = record { job = a.job.now.numbers.now }
