use Rattle.std.proofs.Common.{◌≡◌, ◌<◌, ◌∙◌, Some, false, sym, arith, length}
use Rattle.std.specs.Prelude.{map, is_some}
use Rattle.std.proofs.lemmas.List.{length-map}
use Rattle.spp_book.specs.Books.{end_at, is_accepted}
use Rattle.spp_book.proofs.Lists.{flag_is}
use Rattle.spp_book.proofs.Meetings.{ends_of, whole_is_noted}
use Rattle.spp_book.proofs.book.Book.close.Goals as goal

pub returns-in-Some-clause-joined : goal.returns-in-Some-clause-joined
returns-in-Some-clause-joined g c = λ whole.
    let name = g.J.Job.name c.book.inside.job.now in
    let parts = g.J.Job.parts_of name in
    let runs = c.book.inside.runs.items in
    let notes = c.book.inside.notes.items in
    let number = c.in-Some.number in
    let all : end_at (ends_of runs) 0 ≡ Some parts = rw (← c.book.view_is) at whole in
    let few : number < length (map is_some notes) = rw (← c.book.view_is) at (c.in-Some.ensures.0) in
    let free : is_accepted (map is_some notes) number ≡ false = rw (← c.book.view_is) at (c.in-Some.ensures.1) in
    let part : number < parts = omega (arith, length-map notes is_some, c.book.invariant.notes) in
    sym free ∙ flag_is notes number ∙ whole_is_noted parts (g.J.Job.is_value name) runs notes c.book.invariant.are number part all
