use Rattle.std.proofs.Common.{refl, sym}
use Rattle.spp_event.proofs.RecordPlaces.{truncated}
use Rattle.spp_event.proofs.readers.record_event_in.Goals as goal

pub returns-in-None-clause-said : goal.returns-in-None-clause-said
returns-in-None-clause-said c = sym (truncated c.args.sites c.args.funcs c.args.body.now c.args.i (c.in-None.ensures.none refl))
