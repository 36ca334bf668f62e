use Rattle.spp_book.proofs.desk.Desk.close.Goals as goal

pub returns-clause-drawn : goal.returns-clause-drawn
returns-clause-drawn g c = rw (← c.pass.view_is) c.close.ensures
