use Rattle.spp_maxplus.proofs.SegLaws.{then_assoc, then_idle, idle_then, act-then, exact}
use Rattle.spp_maxplus.proofs.laws.seg_laws.Goals as goal

pub returns : goal.returns
returns c = record { assoc = then_assoc; idle_after = then_idle; idle_before = idle_then; acts = act-then; exact = exact }
