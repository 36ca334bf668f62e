use Rattle.std.proofs.Common.{◌≡◌, Some}
use Rattle.spp_book.specs.Books.{end_at}
use Rattle.spp_book.proofs.book.Book.join_all.Given as goal

abbrev pub invariant-loop-at : goal.invariant-loop-at
invariant-loop-at g l =
    record {
      name : l.self.name ≡ l.fn.self.name;
      accepted : l.self.accepted ≡ l.fn.self.accepted;
      whole : end_at l.fn.self.runs 0 ≡ Some (g.J.Job.parts_of l.fn.self.name) → l.self.runs ≡ l.fn.self.runs;
    }
