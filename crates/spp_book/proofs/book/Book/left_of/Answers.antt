use Rattle.std.proofs.Common.{◌≡◌, ◌-◌, ◌<◌, ◌∙◌, ap, sym, arith, length, true, false}
use Rattle.std.specs.Prelude.{is_some}
use Rattle.spp_book.specs.Books.{entry, AreMet}
use Rattle.spp_book.proofs.Runs.{no_some}
use Rattle.spp_book.proofs.Lists.{place_here, none_behind}
use Rattle.spp_book.proofs.Meetings.{ends_of, note_before, right_run, noted_or_not, whole_is_alone}
use Rattle.spp_book.proofs.book.Book.left_of.Goals.{then-place-eq0-via-then-place-eq0, then-place-eq0-via-else-place-eq0+then-place-len, then-place-eq0-via-else-place-eq0+else-place-len+then-is_none}
use Rattle.spp_book.proofs.book.Book.left_of.Goals as goal

pub returns-then-place-eq0-clause-left : goal.returns-then-place-eq0-clause-left
returns-then-place-eq0-clause-left g c =
    let name = g.J.Job.name c.self.inside.job.now in
    let runs = c.self.inside.runs.items in
    let notes = c.self.inside.notes.items in
    let parts = g.J.Job.parts_of name in
    let value = g.J.Job.is_value name in
    let are = c.self.invariant.are in
    rw (← c.self.view_is) (λ (m : AreMet (ends_of runs) c.args.at).
    let r = right_run parts value runs notes are m.0 c.args.at m.1 in
    let b = note_before parts value runs notes are m.0 c.args.at m.1 in
    elim c.then-place-eq0.branch [
      | then-place-eq0-via-then-place-eq0 w ↦ absurd (omega (arith, w.if-place-eq0.true, b.0))
      | then-place-eq0-via-else-place-eq0+then-place-len w ↦ no_some (entry runs c.args.at) r.0 (none_behind runs c.args.at (omega (arith, w.if-place-len.true, w.len.ensures))) r.1
      | then-place-eq0-via-else-place-eq0+else-place-len+then-is_none w ↦
          let few : c.args.at < length runs = omega (arith, w.if-place-len.false, w.len.ensures) in
          let here : entry runs c.args.at ≡ w.index.result.now = place_here runs c.args.at w.index.result.now few w.index.ensures in
          let x : true ≡ false = sym (ap is_some r.1) ∙ ap is_some here ∙ w.if-is_none.ensures in
          absurd cc
    ])

pub returns-clause-left : goal.returns-clause-left
returns-clause-left g c =
    let name = g.J.Job.name c.self.inside.job.now in
    let runs = c.self.inside.runs.items in
    let notes = c.self.inside.notes.items in
    let parts = g.J.Job.parts_of name in
    let value = g.J.Job.is_value name in
    let are = c.self.invariant.are in
    let few : c.args.at < length runs = omega (arith, c.if-place-len.false, c.len.ensures) in
    let some : 0 < c.args.at = omega (arith, c.if-place-eq0.false) in
    let less : c.args.at - 1 < length notes = omega (arith, c.self.invariant.runs, c.self.invariant.notes) in
    let here : is_some (entry runs c.args.at) ≡ true = ap is_some (place_here runs c.args.at c.index.result.now few c.index.ensures) ∙ c.if-is_none.ensures in
    let note : entry notes (c.args.at - 1) ≡ c.index-2.result.now = place_here notes (c.args.at - 1) c.index-2.result.now less c.index-2.ensures in
    rw (← c.self.view_is) (noted_or_not parts value runs notes are c.args.at c.index-2.result.now some here note)

pub returns-then-place-eq0-clause-alone : goal.returns-then-place-eq0-clause-alone
returns-then-place-eq0-clause-alone g c =
    let name = g.J.Job.name c.self.inside.job.now in
    rw (← c.self.view_is) (λ whole. whole_is_alone (g.J.Job.parts_of name) (g.J.Job.is_value name) c.self.inside.runs.items c.self.inside.notes.items c.self.invariant.are c.args.at whole)

pub returns-clause-alone : goal.returns-clause-alone
returns-clause-alone g c =
    let name = g.J.Job.name c.self.inside.job.now in
    rw (← c.self.view_is) (λ whole. whole_is_alone (g.J.Job.parts_of name) (g.J.Job.is_value name) c.self.inside.runs.items c.self.inside.notes.items c.self.invariant.are c.args.at whole)
