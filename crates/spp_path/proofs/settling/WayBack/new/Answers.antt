use Rattle.std.proofs.Common.{refl}
use Rattle.spp_path.specs.declared.settling.Onward.TheVariants.{Live}
use Rattle.spp_path.proofs.Found.{come_first}
use Rattle.spp_path.proofs.settling.WayBack.new.Goals as goal

pub returns : goal.returns
returns c = λ es bd ps wf p. come_first es wf bd ps p (record { onward = Live; ahead = c.new.result; behind = c.new-2.result }) refl c.new.ensures.items c.new-2.ensures.items
