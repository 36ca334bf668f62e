use Rattle.std.proofs.Common.{sym, subst}
use Rattle.spp_book.specs.Books.{IsOneOrBoth}
use Rattle.spp_book.proofs.book.Book.join_at.Goals as goal

pub returns-in-Some-clause-runs : goal.returns-in-Some-clause-runs
returns-in-Some-clause-runs g c =
    let left = c.in-Some.ensures.left in
    record {
      both = λ f m. subst (λ k. IsOneOrBoth k c.args.at c.args.self.now.runs c.join.new.self.runs) (sym (left.1 f m)) c.join.ensures.runs;
      none = λ no. absurd (no (c.in-Some.first, left.0));
    }

pub returns-in-Some-clause-whole : goal.returns-in-Some-clause-whole
returns-in-Some-clause-whole g c = λ whole. absurd (c.in-Some.ensures.alone whole (c.in-Some.first, c.in-Some.ensures.left.0))
