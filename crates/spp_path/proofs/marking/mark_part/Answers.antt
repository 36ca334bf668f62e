use Rattle.spp_path.proofs.MarkPass.{on_ok_more}
use Rattle.spp_path.proofs.Placed.{placed_goes}
use Rattle.spp_path.proofs.marking.mark_part.Goals as goal

pub mark_within-requires-clause-goes : goal.mark_within-requires-clause-goes
mark_within-requires-clause-goes c = (
  c.requires.settled.0,
  placed_goes c.args.part.now c.args.entry c.args.settled.now c.requires.placed c.number-number.result c.number-number.ensures c.live-live.result c.live-live.ensures
      c.new-trail.result c.new-trail.ensures c.entered.result.now c.entered.ensures c.requires.settled.0 c.requires.settled.1,
)

pub returns-clause-marks : goal.returns-clause-marks
returns-clause-marks c =
    on_ok_more _ _ c.mark_within.result
    (λ h bd settled. h bd
    (placed_goes c.args.part.now c.args.entry c.args.settled.now c.requires.placed c.number-number.result c.number-number.ensures c.live-live.result c.live-live.ensures
    c.new-trail.result c.new-trail.ensures c.entered.result.now c.entered.ensures bd settled))
    c.mark_within.ensures.marks
