use Rattle.std.proofs.Common.{subst}
use Rattle.spp_site.specs.Table.{HasNoZeroRow}
use Rattle.spp_site.proofs.Stored.{stored_no_zero}
use Rattle.spp_site.proofs.share.Share.no_row_is_zero.Goals as goal

pub returns : goal.returns
returns c = subst (λ t. HasNoZeroRow t) c.self.view_is (stored_no_zero c.self.inside.root c.self.inside.rows.items)
