use Rattle.std.proofs.Common.{◌≡◌, ◌<◌, ℕ, true}
use Rattle.spp_book.specs.Books.{is_accepted}
use Rattle.spp_book.proofs.book.Book.missing.Given as goal

abbrev pub invariant-loop-at : goal.invariant-loop-at
invariant-loop-at g l = (k : ℕ) → k < l.at → is_accepted l.fn.self.accepted k ≡ true
