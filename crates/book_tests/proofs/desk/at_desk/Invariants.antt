use Rattle.book_tests.proofs.desk.at_desk.Given as goal

-- the ledger of the blank, and the name of the job
abbrev pub ghosts-at_named_desk-N-Ledger : goal.ghosts-at_named_desk-N-Ledger
ghosts-at_named_desk-N-Ledger g a = record { name = a.blank.name; parts = a.blank.parts }

abbrev pub ghosts-at_named_desk-N-Naming : goal.ghosts-at_named_desk-N-Naming
ghosts-at_named_desk-N-Naming g a = record { job = a.job.now.numbers.now }
