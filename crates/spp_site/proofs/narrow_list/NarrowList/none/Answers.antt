use Rattle.std.proofs.Common.{List, ap₂, ◌∙◌}
use Rattle.spp_site.specs.declared.narrow_row.KnownRow.{KnownRow}
use Rattle.spp_site.specs.Table.{Sums}
use Rattle.spp_site.specs.Profiles.{key_row}
use Rattle.spp_site.specs.NarrowTables.{with_known}
use Rattle.spp_site.proofs.Keys.{empty_key}
use Rattle.spp_site.proofs.narrow_list.NarrowList.none.Goals as goal

pub returns : goal.returns
returns c key = ap₂ (λ (t : Sums) (l : List KnownRow). key_row (with_known t l) key) (c.into_share.ensures ∙ c.new-2.ensures) c.new.ensures.items ∙ empty_key key
