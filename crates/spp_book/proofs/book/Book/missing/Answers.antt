use Rattle.std.proofs.Common.{◌∙◌, inl, inr, ap, arith}
use Rattle.std.specs.Prelude.{map, is_some}
use Rattle.std.proofs.lemmas.Bool.{cases_eq}
use Rattle.std.proofs.lemmas.List.{length-map}
use Rattle.spp_book.specs.Books.{is_accepted}
use Rattle.spp_book.proofs.Lists.{flag_here, all_counted}
use Rattle.spp_book.proofs.book.Book.missing.Goals as goal

pub loop-at-preserved : goal.loop-at-preserved
loop-at-preserved g c = λ k l. elim (cases_eq k c.loop-at.at) [
  | inl e ↦ rw (← c.self.view_is) (ap (λ i. is_accepted (map is_some c.self.inside.notes.items) i) e
      ∙ flag_here c.self.inside.notes.items c.loop-at.at c.index.result.now (omega (arith, c.loop-at-test.true, c.len-at-end.ensures)) c.index.ensures c.if-is_none.ensures)
  | inr n ↦ c.loop-at.invariant k (omega (arith, n))
]

pub returns : goal.returns
returns g c =
    let notes = c.self.inside.notes.items in
    let flags = map is_some notes in
    let all = rw (← c.self.view_is) at c.loop-at.invariant in
    let many = length-map notes is_some in
    rw (← c.self.view_is) (all_counted flags (λ k l. all k (omega (arith, many, c.loop-at-test.false, c.len-at-end.ensures))) ∙ many ∙ c.self.invariant.notes)
