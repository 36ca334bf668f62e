use Rattle.std.proofs.Common.{sym, subst}
use Rattle.spp_dag.specs.Shares.{plus}
use Rattle.spp_site.specs.Rows.{Fits}
use Rattle.spp_site.specs.NarrowRows.{known_rows}
use Rattle.spp_site.specs.Profiles.{key_row}
use Rattle.spp_pass.proofs.AsideRows.{more_aside}
use Rattle.spp_pass.proofs.aside.RowsAside.with.Goals as goal

pub invariant_of-result : goal.invariant_of-result
invariant_of-result c = record {
  fits = λ key. subst Fits (sym (more_aside (plus (key_row c.args.self.table key) (known_rows c.args.self.known.items key)) c.args.self.owed.items c.push.new.self.items c.args.owed c.in_ok-push.ensures.items key)) (c.requires key);
}

pub returns : goal.returns
returns c key = more_aside (plus (key_row c.args.self.table key) (known_rows c.args.self.known.items key)) c.args.self.owed.items c.push.new.self.items c.args.owed c.in_ok-push.ensures.items key
