use Rattle.std.proofs.Common.{ap₂, ◌∙◌}
use Rattle.spp_dag.specs.declared.stack.FrameKind.{FrameKind}
use Rattle.spp_path.specs.declared.trail.Trail.{Trail}
use Rattle.spp_path.specs.Flags.{is_called}
use Rattle.spp_path.specs.Trails.{running_trail}
use Rattle.spp_path.proofs.marking.Marking.ret.Goals as goal

pub returns-then-on-clause-returned : goal.returns-then-on-clause-returned
returns-then-on-clause-returned c = λ z kind rest h.
    let t = c.take-kind.ensures.kinds kind rest h in
    (c.resume.ensures ∙ ap₂ (λ (k : FrameKind) (x : Trail). running_trail (is_called k) x) t.0 (c.take-kind.ensures.trail ∙ c.leave-on.ensures.entered z), t.1)
