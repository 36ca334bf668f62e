use Rattle.std.proofs.Common.{◌∙◌, sym, subst}
use Rattle.spp_event.specs.Recordings.{Recording}
use Rattle.spp_frame.specs.Nesting.{AreEvents}
use Rattle.spp_path.specs.Marks.{AreMarksOf}
use Rattle.spp_shell.proofs.Advised.{written_whole}
use Rattle.spp_shell.proofs.advise_task.path_counts.Goals as goal

pub returns-clause-counts : goal.returns-clause-counts
returns-clause-counts g c es are =
    let new = c.burdened_marks.new.marks in
    let marks = c.in_ok-marks.marks in
    let whole = written_whole new marks.items marks.len (c.in_ok-burdened_marks.ensures.length ∙ c.as_mut_slice.ensures.len) in
    let burdens = c.args.request.now.burdens in
    c.in_ok-spawn_counts.ensures.path es burdens are
    (subst (λ m. AreMarksOf es burdens 0 m) (sym (c.as_slice.ensures.value ∙ whole)) (c.in_ok-burdened_marks.ensures.marks es (subst (λ (t : Recording). AreEvents t.records es) (sym c.in_ok-cut.ensures.trace) are)))
