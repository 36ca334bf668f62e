use Rattle.spp_book.proofs.counter.Counter.split.Given as goal

-- as many as the call gives away
abbrev pub ghosts-split_as : goal.ghosts-split_as
ghosts-split_as a = record { given = a.workers }
