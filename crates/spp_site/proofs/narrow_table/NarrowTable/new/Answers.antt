use Rattle.std.proofs.Common.{List, ap₂, ◌∙◌}
use Rattle.spp_dag.specs.Shares.{plus}
use Rattle.spp_site.specs.declared.narrow_row.NarrowRow.{NarrowRow}
use Rattle.spp_site.specs.Table.{Sums}
use Rattle.spp_site.specs.Profiles.{key_row}
use Rattle.spp_site.specs.NarrowRows.{narrow_at}
use Rattle.spp_site.proofs.Keys.{empty_key}
use Rattle.spp_site.proofs.NarrowRows.{none_narrow}
use Rattle.spp_site.proofs.NarrowTables.{narrow_key}
use Rattle.spp_site.proofs.narrow_table.NarrowTable.new.Goals as goal

pub returns : goal.returns
returns c key =
    narrow_key c.new-2.result c.new.result.items key
    ∙ ap₂ (λ (t : Sums) (rows : List NarrowRow). plus (key_row t key) (narrow_at rows key)) c.new-2.ensures c.new.ensures.items ∙ ap₂ plus (empty_key key) (none_narrow key)
