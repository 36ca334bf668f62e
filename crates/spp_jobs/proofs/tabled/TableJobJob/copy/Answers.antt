use Rattle.std.proofs.Common.{List, [], ◌++◌, sym, subst}
use Rattle.spp_dag.specs.declared.choices.Choices.{Choices}
use Rattle.spp_jobs.specs.Tables.{AreSame}
use Rattle.spp_jobs.proofs.Tables.{tabled_again}
use Rattle.spp_jobs.proofs.tabled.TableJobJob.copy.Goals as goal

pub returns : goal.returns
returns c =
    let none : AreSame [] c.in_ok-choices.choices.items = subst (λ (l : List Choices). AreSame [] l) (sym c.in_ok-choices.ensures.items) tt in
    let front : AreSame c.as_slices.result.0.now c.push_copies.new.all.items = c.in_ok-push_copies.ensures [] none in
    let both : AreSame (c.as_slices.result.0.now ++ c.as_slices.result.1.now) c.push_copies-2.new.all.items = c.in_ok-push_copies-2.ensures c.as_slices.result.0.now front in
    tabled_again c.args.content.now (record { share = c.in_ok-copy.field-0; choices = c.push_copies-2.new.all }) c.in_ok-copy.ensures.same
    (subst (λ (l : List Choices). AreSame l c.push_copies-2.new.all.items) c.as_slices.ensures.items both)
