use Rattle.std.proofs.Common.{reverse, refl}
use Rattle.spp_summary.proofs.ReadEvents.{skip_told, laid_skipped}
use Rattle.spp_summary.proofs.reading.Reading.skip.Goals as goal

pub returns : goal.returns
returns c =
    let p = c.args.self.now in
    let k = c.args.child.now in
    let os = reverse p.opens.items in
    let ss = reverse p.states.items in
    record {
      value = λ burdens at. skip_told p.returns.items p.middle p.since p.fault ss p.run p.before burdens at k.gap k.at k.site k.func k.kind k.kept os c.requires.called c.requires.plain c.requires.laid;
      laid = laid_skipped p.run p.before p.since ss k os c.requires.plain c.requires.laid;
      fault = refl;
    }
