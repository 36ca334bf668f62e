use Rattle.std.proofs.Common.{subst, sym, ◌∙◌}
use Rattle.spp_stack.specs.Chain.{StackOf, HasFrames}
use Rattle.spp_stack.proofs.Framed.{frames_chained}
use Rattle.spp_stack.proofs.stacks.Entry.frames.Goals as goal

pub returns : goal.returns
returns c = λ fs h.
    c.new.ensures ∙ frames_chained c.self.inside.nodes.now c.self.inside.top fs (subst (λ (s : StackOf). HasFrames s fs) (sym c.self.view_is) h)
