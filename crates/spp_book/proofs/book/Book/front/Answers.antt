use Rattle.std.proofs.Common.{◌≡◌, ◌<◌, ◌∙◌, ℕ, ap, sym, arith, length, Option, Some}
use Rattle.std.specs.Prelude.{map, is_some, unwrap_or}
use Rattle.std.specs.Option.{option_map}
use Rattle.spp_book.specs.declared.book.Run.{Run}
use Rattle.spp_book.specs.Books.{entry}
use Rattle.spp_book.proofs.Lists.{counted_from, ends_is, flag_is, place_here}
use Rattle.spp_book.proofs.book.Book.front.Goals as goal

pub returns-in_ok-copy-in-Some-clause-front : goal.returns-in_ok-copy-in-Some-clause-front
returns-in_ok-copy-in-Some-clause-front g c =
    let C = g.row.J-Content.Denot in
    let name = g.J.Job.name c.self.inside.job.now in
    let runs = c.self.inside.runs.items in
    let r = c.in-Some.run' in
    let first : 0 < length runs = omega (arith, c.self.invariant.runs, c.self.invariant.some) in
    let here : entry runs 0 ≡ Some r = place_here runs 0 c.index.result.now first c.index.ensures ∙ c.in-Some.is in
    let run = c.self.invariant.are.runs 0 r here in
    rw (← c.self.view_is) (record {
      parts = sym (ap (λ (o : Option ℕ). unwrap_or o 0) (ends_is runs 0 ∙ ap (λ o. option_map (λ (u : Run C). u.end) o) here));
      accepted = c.self.invariant.counted;
      content = (run.some, c.in_ok-copy-in-Some.ensures name 0 r.end run.content);
    })

pub returns-in_ok-copy-in-Some-clause-within : goal.returns-in_ok-copy-in-Some-clause-within
returns-in_ok-copy-in-Some-clause-within g c =
    let runs = c.self.inside.runs.items in
    let notes = c.self.inside.notes.items in
    let r = c.in-Some.run' in
    let first : 0 < length runs = omega (arith, c.self.invariant.runs, c.self.invariant.some) in
    let here : entry runs 0 ≡ Some r = place_here runs 0 c.index.result.now first c.index.ensures ∙ c.in-Some.is in
    let run = c.self.invariant.are.runs 0 r here in
    let some = counted_from (map is_some notes) r.end (λ k lt. flag_is notes k ∙ run.taken k (omega arith) lt) in
    omega (arith, some, c.self.invariant.counted)
