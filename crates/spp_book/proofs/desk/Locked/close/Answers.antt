use Rattle.std.proofs.Common.{◌≡◌, ◌∙◌, sym}
use Rattle.spp_book.specs.Books.{count_of}
use Rattle.spp_book.proofs.Desks.{shorts}
use Rattle.spp_book.proofs.desk.Locked.close.Goals as goal

pub returns-clause-missing : goal.returns-clause-missing
returns-clause-missing g c =
    let locked = c.args.self in
    let counted : c.args.share.amount ≡ count_of locked.book.accepted = c.audit.ensures.whole c.requires ∙ sym locked.counted in
    shorts c.close.result locked.book.accepted c.args.share.amount (g.J.Job.parts_of g.N.Naming.job) locked.flags counted c.close.ensures.missing
