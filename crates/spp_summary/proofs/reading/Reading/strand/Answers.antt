use Rattle.std.proofs.Common.{◌+◌, ◌∙◌, ap, reverse, arith}
use Rattle.spp_summary.specs.KeptFrames.{told}
use Rattle.spp_summary.proofs.ReadEvents.{strand_told, laid_later}
use Rattle.spp_summary.proofs.reading.Reading.strand.Goals as goal

pub returns-clause-value : goal.returns-clause-value
returns-clause-value c =
    let p = c.args.self.now in
    ap (λ n. told p.returns.items p.middle p.since (reverse p.opens.items) (reverse p.states.items) (p.run + n) p.before p.fault) c.from.ensures
    ∙ strand_told p.returns.items p.middle p.since p.fault (reverse p.states.items) p.run p.before (reverse p.opens.items) c.args.count c.requires.laid

pub returns-clause-laid : goal.returns-clause-laid
returns-clause-laid c =
    let p = c.args.self.now in
    laid_later p.run (p.run + c.from.result) p.before p.since (reverse p.states.items) (reverse p.opens.items) (omega arith) c.requires.laid
