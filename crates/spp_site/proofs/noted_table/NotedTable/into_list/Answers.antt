use Rattle.std.proofs.Common.{Some, ap, ◌∙◌}
use Rattle.spp_site.specs.Table.{Sums}
use Rattle.spp_site.specs.Profiles.{key_row}
use Rattle.spp_site.specs.NarrowTables.{with_known}
use Rattle.spp_site.proofs.Noted.{taken_list, left_none}
use Rattle.spp_site.proofs.noted_table.NotedTable.into_list.Goals as goal

pub invariant_of-left : goal.invariant_of-left
invariant_of-left c = (c.in_ok-taken.ensures.small, λ s none. c.in_ok-taken.ensures.none (Some s))

pub returns-clause-list : goal.returns-clause-list
returns-clause-list c key =
    ap (λ (t : Sums). key_row t key) (c.new-list.ensures ∙ ap (λ (t : Sums). with_known t c.in_ok-taken.taken.items) c.into_share.ensures)
    ∙ taken_list c.self.inside.wide c.self.inside.rows.items c.in_ok-taken.taken.items c.in_ok-taken.ensures.taken key
    ∙ ap (λ (t : Sums). key_row t key) c.self.view_is

pub returns-clause-left : goal.returns-clause-left
returns-clause-left c = left_none c.new.result c.take_rows.new.rows.items c.new.ensures c.in_ok-taken.ensures.none
