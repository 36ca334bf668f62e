use Rattle.std.proofs.Common.{ℕ, sym, subst, ◌∙◌}
use Rattle.spp_site.specs.Rows.{Fits}
use Rattle.spp_site.specs.Table.{Sums, row_at}
use Rattle.memory_probe.proofs.Small.{ten_fits, with_ten, same_small, both_fit, sum_fits, when_refused, when_done}
use Rattle.memory_probe.proofs.tables.shared.Goals as goal
use Rattle.memory_probe.proofs.tables.shared.Goals.{else-was_refused-via-then-was_refused+else-is_err, else-was_refused-via-else-was_refused}

pub add-requires-clause-fits : goal.add-requires-clause-fits
add-requires-clause-fits c = ten_fits c.new-table.result 40000 c.new-table.ensures

pub merge-requires-clause-sites_fit : goal.merge-requires-clause-sites_fit
merge-requires-clause-sites_fit c =
    let table = with_ten c.new-table.result c.add.new.self 40000 c.new-table.ensures c.in_ok-add.ensures.added in
    let share = same_small c.add.new.self c.into_share-share.result c.into_share-share.ensures table in
    both_fit c.into_share-share.result c.in_ok-other.other share (same_small c.into_share-share.result c.in_ok-other.other c.in_ok-other.ensures.same share)

pub merge-requires-then-was_refused-clause-sites_fit :
    goal.merge-requires-then-was_refused-clause-sites_fit
merge-requires-then-was_refused-clause-sites_fit c =
    let table = with_ten c.new-table.result c.add.new.self 40000 c.new-table.ensures c.in_ok-add.ensures.added in
    let share = same_small c.add.new.self c.into_share-share.result c.into_share-share.ensures table in
    let stays = when_refused c.merge.result (sym c.is_err-was_refused.ensures.value ∙ c.if-was_refused.true) c.merge.ensures.stays in
    both_fit c.merge.new.self c.in_ok-other.other (same_small c.into_share-share.result c.merge.new.self stays share)
    (same_small c.into_share-share.result c.in_ok-other.other c.in_ok-other.ensures.same share)

pub from_share-requires-clause-sites_fit : goal.from_share-requires-clause-sites_fit
from_share-requires-clause-sites_fit c =
    let table = with_ten c.new-table.result c.add.new.self 40000 c.new-table.ensures c.in_ok-add.ensures.added in
    let share = same_small c.add.new.self c.into_share-share.result c.into_share-share.ensures table in
    let other = same_small c.into_share-share.result c.in_ok-other.other c.in_ok-other.ensures.same share in
    elim c.else-was_refused.branch [
      | else-was_refused-via-then-was_refused+else-is_err w ↦
          let stays = when_refused c.merge.result (sym c.is_err-was_refused.ensures.value ∙ w.if-was_refused.true) c.merge.ensures.stays in
          let refused = same_small c.into_share-share.result c.merge.new.self stays share in
          let sums = when_done w.merge-then-was_refused.result (sym w.is_err.ensures.value ∙ w.if-is_err.false) w.merge-then-was_refused.ensures.sums in
          subst (λ (t : Sums). (s : ℕ) → Fits (row_at t s)) (sym w.share-is)
          (sum_fits c.merge.new.self c.in_ok-other.other w.merge-then-was_refused.new.self refused other sums)
      | else-was_refused-via-else-was_refused w ↦
          let sums = when_done c.merge.result (sym c.is_err-was_refused.ensures.value ∙ w.if-was_refused.false) c.merge.ensures.sums in
          subst (λ (t : Sums). (s : ℕ) → Fits (row_at t s)) (sym w.share-is)
          (sum_fits c.into_share-share.result c.in_ok-other.other c.merge.new.self share other sums)
    ]
