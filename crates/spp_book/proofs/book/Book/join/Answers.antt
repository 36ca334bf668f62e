use Rattle.std.proofs.Common.{◌-◌, ◌∙◌, ap, sym, subst, refl, arith, length, Some, set, inl, inr}
use Rattle.std.specs.Prelude.{map, is_some, IsSome}
use Rattle.std.proofs.Math.ListN.{length-set}
use Rattle.spp_book.specs.Books.{MeetAt, AreRuns, count_of, entry}
use Rattle.spp_book.proofs.Meetings.{ends_of}
use Rattle.spp_book.proofs.Joining as joining
use Rattle.spp_book.proofs.book.Book.join.Goals as goal

pub unwrap-left-requires : goal.unwrap-left-requires
unwrap-left-requires g c =
    let name = g.J.Job.name c.self.inside.job.now in
    let m : MeetAt (ends_of c.self.inside.runs.items) c.args.first c.args.at = rw (← c.self.view_is) at c.requires in
    subst IsSome (sym (joining.first_there (g.J.Job.parts_of name) (g.J.Job.is_value name) c.self.inside.runs.items c.self.inside.notes.items c.self.invariant.are c.args.first c.args.at m
    c.take.new.self c.index_mut-2.result.now c.take-2.result c.index_mut-2.ensures.value c.take-2.ensures.value)) refl

pub joined-requires-after_bounds : goal.joined-requires-after_bounds
joined-requires-after_bounds g c κs within =
    let name = g.J.Job.name c.self.inside.job.now in
    let parts = g.J.Job.parts_of name in
    let value = g.J.Job.is_value name in
    let runs = c.self.inside.runs.items in
    let notes = c.self.inside.notes.items in
    let are = c.self.invariant.are in
    let f = c.args.first in
    let p = c.args.at in
    let left = c.unwrap-left.result in
    let right = c.unwrap-right.result in
    let m : MeetAt (ends_of runs) f p = rw (← c.self.view_is) at c.requires in
    let t = joining.taken parts value runs notes are f p m c.take.new.self c.index_mut.result.now c.index_mut-2.result.now c.take.result c.take-2.result left right
    c.index_mut.ensures.value c.take.ensures.value c.unwrap-right.ensures c.index_mut-2.ensures.value c.take-2.ensures.value c.unwrap-left.ensures in
    let r = are.runs p right t.is_right in (
      name,
      f,
      p,
      right.end,
      joining.before parts value runs notes are f p left right t.is_left t.is_right t.meet,
      r.some,
      r.inside,
      joining.left_value parts value runs notes are f p left right t.is_left t.is_right t.meet,
      r.content,
    )

pub overflow_sub-run : goal.overflow_sub-run
overflow_sub-run g c =
    let name = g.J.Job.name c.self.inside.job.now in
    let parts = g.J.Job.parts_of name in
    let value = g.J.Job.is_value name in
    let runs = c.self.inside.runs.items in
    let notes = c.self.inside.notes.items in
    let are = c.self.invariant.are in
    let f = c.args.first in
    let p = c.args.at in
    let left = c.unwrap-left.result in
    let right = c.unwrap-right.result in
    let m : MeetAt (ends_of runs) f p = rw (← c.self.view_is) at c.requires in
    let t = joining.taken parts value runs notes are f p m c.take.new.self c.index_mut.result.now c.index_mut-2.result.now c.take.result c.take-2.result left right
    c.index_mut.ensures.value c.take.ensures.value c.unwrap-right.ensures c.index_mut-2.ensures.value c.take-2.ensures.value c.unwrap-left.ensures in
    let some = (are.runs p right t.is_right).some in
    omega (arith, c.in-Ok.ensures.end)

pub fill-requires : goal.fill-requires
fill-requires g c =
    let name = g.J.Job.name c.self.inside.job.now in
    let parts = g.J.Job.parts_of name in
    let value = g.J.Job.is_value name in
    let runs = c.self.inside.runs.items in
    let notes = c.self.inside.notes.items in
    let are = c.self.invariant.are in
    let f = c.args.first in
    let p = c.args.at in
    let left = c.unwrap-left.result in
    let right = c.unwrap-right.result in
    let m : MeetAt (ends_of runs) f p = rw (← c.self.view_is) at c.requires in
    let t = joining.taken parts value runs notes are f p m c.take.new.self c.index_mut.result.now c.index_mut-2.result.now c.take.result c.take-2.result left right
    c.index_mut.ensures.value c.take.ensures.value c.unwrap-right.ensures c.index_mut-2.ensures.value c.take-2.ensures.value c.unwrap-left.ensures in
    let r = are.runs p right t.is_right in
    let both = c.in-Ok.run' in
    let is_value : value f right.end both.content = c.in-Ok.ensures.content name f p right.end (joining.before parts value runs notes are f p left right t.is_left t.is_right t.meet) r.some r.inside
    (joining.left_value parts value runs notes are f p left right t.is_left t.is_right t.meet) r.content in
    joining.note_place parts value runs notes are f p left right t.is_left t.is_right t.meet c.take.new.self c.take-2.new.self c.take.ensures.after both c.in-Ok.ensures.end is_value

pub invariant_of-self : goal.invariant_of-self
invariant_of-self g c =
    let name = g.J.Job.name c.self.inside.job.now in
    let parts = g.J.Job.parts_of name in
    let value = g.J.Job.is_value name in
    let runs = c.self.inside.runs.items in
    let notes = c.self.inside.notes.items in
    let are = c.self.invariant.are in
    let f = c.args.first in
    let p = c.args.at in
    let left = c.unwrap-left.result in
    let right = c.unwrap-right.result in
    let m : MeetAt (ends_of runs) f p = rw (← c.self.view_is) at c.requires in
    let t = joining.taken parts value runs notes are f p m c.take.new.self c.index_mut.result.now c.index_mut-2.result.now c.take.result c.take-2.result left right
    c.index_mut.ensures.value c.take.ensures.value c.unwrap-right.ensures c.index_mut-2.ensures.value c.take-2.ensures.value c.unwrap-left.ensures in
    let r = are.runs p right t.is_right in
    let both = c.in-Ok.run' in
    let is_value : value f right.end both.content = c.in-Ok.ensures.content name f p right.end (joining.before parts value runs notes are f p left right t.is_left t.is_right t.meet) r.some r.inside
    (joining.left_value parts value runs notes are f p left right t.is_left t.is_right t.meet) r.content in
    let runs_are = c.fill-in-Ok.ensures in
    let notes_are = c.fill.ensures in
    record {
      runs = ap length runs_are ∙ joining.one_length parts value runs notes are f p left right t.is_left t.is_right t.meet c.take.new.self c.take-2.new.self c.take.ensures.after both c.in-Ok.ensures.end is_value ∙ c.self.invariant.runs;
      notes = ap length notes_are ∙ length-set notes (both.end - 1) (Some f) ∙ c.self.invariant.notes;
      are = subst (λ rs. AreRuns parts value (entry rs) (entry c.fill.new.places.items)) (sym runs_are)
          (subst (λ ns. AreRuns parts value (entry (set (set (set runs p c.take.new.self) f c.take-2.new.self) f (Some both))) (entry ns)) (sym notes_are)
          (joining.one_are parts value runs notes are f p left right t.is_left t.is_right t.meet c.take.new.self c.take-2.new.self c.take.ensures.after both c.in-Ok.ensures.end is_value));
      counted = c.self.invariant.counted ∙ sym (ap (λ ns. count_of (map is_some ns)) notes_are ∙ ap count_of (joining.one_flags parts value runs notes are f p left right t.is_left t.is_right t.meet c.take.new.self c.take-2.new.self c.take.ensures.after both c.in-Ok.ensures.end is_value));
      some = c.self.invariant.some;
      most = c.self.invariant.most;
    }

pub invariant_of-self-in-Err : goal.invariant_of-self-in-Err
invariant_of-self-in-Err g c =
    let name = g.J.Job.name c.self.inside.job.now in
    let parts = g.J.Job.parts_of name in
    let value = g.J.Job.is_value name in
    let runs = c.self.inside.runs.items in
    let notes = c.self.inside.notes.items in
    let are = c.self.invariant.are in
    let f = c.args.first in
    let p = c.args.at in
    let left = c.unwrap-left.result in
    let right = c.unwrap-right.result in
    let m : MeetAt (ends_of runs) f p = rw (← c.self.view_is) at c.requires in
    let t = joining.taken parts value runs notes are f p m c.take.new.self c.index_mut.result.now c.index_mut-2.result.now c.take.result c.take-2.result left right
    c.index_mut.ensures.value c.take.ensures.value c.unwrap-right.ensures c.index_mut-2.ensures.value c.take-2.ensures.value c.unwrap-left.ensures in
    let r = are.runs p right t.is_right in
    let l' = c.in-Err.field-0.left in
    let r' = c.in-Err.field-0.right in
    let left_is : value f p l'.content = c.in-Err.ensures.contents.0 name f p (joining.left_value parts value runs notes are f p left right t.is_left t.is_right t.meet) in
    let right_is : value p right.end r'.content = c.in-Err.ensures.contents.1 name p right.end r.content in
    let first_is = c.fill-in-Err.ensures in
    let runs_are = c.fill-in-Err-2.ensures ∙ ap (λ rs. set rs p (Some r')) first_is in
    record {
      runs = ap length runs_are ∙ joining.two_length parts value runs notes are f p left right t.is_left t.is_right t.meet c.take.new.self c.take-2.new.self l' r' c.in-Err.ensures.ends.0 c.in-Err.ensures.ends.1 left_is right_is ∙ c.self.invariant.runs;
      notes = c.self.invariant.notes;
      are = subst (λ rs. AreRuns parts value (entry rs) (entry notes)) (sym runs_are) (joining.two_are parts value runs notes are f p left right t.is_left t.is_right t.meet c.take.new.self c.take-2.new.self l' r' c.in-Err.ensures.ends.0 c.in-Err.ensures.ends.1 left_is right_is);
      counted = c.self.invariant.counted;
      some = c.self.invariant.some;
      most = c.self.invariant.most;
    }

pub returns-in-Ok-clause-accepted : goal.returns-in-Ok-clause-accepted
returns-in-Ok-clause-accepted g c =
    let name = g.J.Job.name c.self.inside.job.now in
    let parts = g.J.Job.parts_of name in
    let value = g.J.Job.is_value name in
    let runs = c.self.inside.runs.items in
    let notes = c.self.inside.notes.items in
    let are = c.self.invariant.are in
    let f = c.args.first in
    let p = c.args.at in
    let left = c.unwrap-left.result in
    let right = c.unwrap-right.result in
    let m : MeetAt (ends_of runs) f p = rw (← c.self.view_is) at c.requires in
    let t = joining.taken parts value runs notes are f p m c.take.new.self c.index_mut.result.now c.index_mut-2.result.now c.take.result c.take-2.result left right
    c.index_mut.ensures.value c.take.ensures.value c.unwrap-right.ensures c.index_mut-2.ensures.value c.take-2.ensures.value c.unwrap-left.ensures in
    let r = are.runs p right t.is_right in
    let both = c.in-Ok.run' in
    let is_value : value f right.end both.content = c.in-Ok.ensures.content name f p right.end (joining.before parts value runs notes are f p left right t.is_left t.is_right t.meet) r.some r.inside
    (joining.left_value parts value runs notes are f p left right t.is_left t.is_right t.meet) r.content in
    rw (← c.self.view_is) (ap (λ ns. map is_some ns) c.fill.ensures ∙ joining.one_flags parts value runs notes are f p left right t.is_left t.is_right t.meet c.take.new.self c.take-2.new.self c.take.ensures.after both c.in-Ok.ensures.end is_value)

pub returns-in-Ok-clause-runs : goal.returns-in-Ok-clause-runs
returns-in-Ok-clause-runs g c =
    let name = g.J.Job.name c.self.inside.job.now in
    let parts = g.J.Job.parts_of name in
    let value = g.J.Job.is_value name in
    let runs = c.self.inside.runs.items in
    let notes = c.self.inside.notes.items in
    let are = c.self.invariant.are in
    let f = c.args.first in
    let p = c.args.at in
    let left = c.unwrap-left.result in
    let right = c.unwrap-right.result in
    let m : MeetAt (ends_of runs) f p = rw (← c.self.view_is) at c.requires in
    let t = joining.taken parts value runs notes are f p m c.take.new.self c.index_mut.result.now c.index_mut-2.result.now c.take.result c.take-2.result left right
    c.index_mut.ensures.value c.take.ensures.value c.unwrap-right.ensures c.index_mut-2.ensures.value c.take-2.ensures.value c.unwrap-left.ensures in
    let r = are.runs p right t.is_right in
    let both = c.in-Ok.run' in
    let is_value : value f right.end both.content = c.in-Ok.ensures.content name f p right.end (joining.before parts value runs notes are f p left right t.is_left t.is_right t.meet) r.some r.inside
    (joining.left_value parts value runs notes are f p left right t.is_left t.is_right t.meet) r.content in
    rw (← c.self.view_is) (inl (ap ends_of c.fill-in-Ok.ensures ∙ joining.one_ends parts value runs notes are f p left right t.is_left t.is_right t.meet c.take.new.self c.take-2.new.self c.take.ensures.after both c.in-Ok.ensures.end is_value))

pub returns-in-Err-clause-runs : goal.returns-in-Err-clause-runs
returns-in-Err-clause-runs g c =
    let name = g.J.Job.name c.self.inside.job.now in
    let parts = g.J.Job.parts_of name in
    let value = g.J.Job.is_value name in
    let runs = c.self.inside.runs.items in
    let notes = c.self.inside.notes.items in
    let are = c.self.invariant.are in
    let f = c.args.first in
    let p = c.args.at in
    let left = c.unwrap-left.result in
    let right = c.unwrap-right.result in
    let m : MeetAt (ends_of runs) f p = rw (← c.self.view_is) at c.requires in
    let t = joining.taken parts value runs notes are f p m c.take.new.self c.index_mut.result.now c.index_mut-2.result.now c.take.result c.take-2.result left right
    c.index_mut.ensures.value c.take.ensures.value c.unwrap-right.ensures c.index_mut-2.ensures.value c.take-2.ensures.value c.unwrap-left.ensures in
    let r = are.runs p right t.is_right in
    let l' = c.in-Err.field-0.left in
    let r' = c.in-Err.field-0.right in
    let left_is : value f p l'.content = c.in-Err.ensures.contents.0 name f p (joining.left_value parts value runs notes are f p left right t.is_left t.is_right t.meet) in
    let right_is : value p right.end r'.content = c.in-Err.ensures.contents.1 name p right.end r.content in
    let runs_are = c.fill-in-Err-2.ensures ∙ ap (λ rs. set rs p (Some r')) c.fill-in-Err.ensures in
    rw (← c.self.view_is) (inr (ap ends_of runs_are ∙ joining.two_ends parts value runs notes are f p left right t.is_left t.is_right t.meet c.take.new.self c.take-2.new.self l' r' c.in-Err.ensures.ends.0 c.in-Err.ensures.ends.1 left_is right_is))
