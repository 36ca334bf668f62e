use Rattle.std.proofs.Common.{sym, subst}
use Rattle.spp_site.specs.Rows.{Fits}
use Rattle.spp_pass.proofs.AsideRows.{zero_fits, none_aside}
use Rattle.spp_pass.proofs.aside.RowsAside.new.Goals as goal

pub invariant_of-result : goal.invariant_of-result
invariant_of-result c = record { fits = λ key. subst Fits (sym (none_aside c.new.result c.new-2.result.items c.new-3.result.items c.new.ensures c.new-2.ensures.items c.new-3.ensures.items key)) zero_fits }

pub returns : goal.returns
returns c = none_aside c.new.result c.new-2.result.items c.new-3.result.items c.new.ensures c.new-2.ensures.items c.new-3.ensures.items
