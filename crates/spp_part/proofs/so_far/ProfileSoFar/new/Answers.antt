use Rattle.std.proofs.Common.{sym}
use Rattle.std.proofs.lemmas.Result.{IfOk-weaker}
use Rattle.spp_part.proofs.so_far.ProfileSoFar.new.Goals as goal

pub returns : goal.returns
returns c = IfOk-weaker c.start.result _ _
    (λ r so burdens light heavy. so c.args.trace.now burdens (sym c.root.ensures) c.keeps_limits.ensures.limits c.keeps_limits.ensures.events light heavy)
    c.start.ensures
