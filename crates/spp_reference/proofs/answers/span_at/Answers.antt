use Rattle.std.proofs.Common.{◌≡◌, ℕ, subst, true}
use Rattle.std.proofs.lemmas.Result.{IfOk-weaker}
use Rattle.std.specs.Prelude.{IfOk}
use Rattle.spp_maxplus.specs.declared.state.Burdens.{Burdens}
use Rattle.spp_maxplus.specs.State.{unburdened}
use Rattle.spp_dag.specs.Trace.{closing, is_frame}
use Rattle.spp_dag.specs.Dag.{IsGreatest}
use Rattle.spp_reference.proofs.Greatest.{default_is}
use Rattle.spp_reference.proofs.answers.span_at.Goals as goal

pub returns-then-is_frame : goal.returns-then-is_frame
returns-then-is_frame c =
    let is : ℕ → Type 0 = λ w. IsGreatest c.args.dag.now unburdened c.args.at (closing c.args.dag.now c.args.at) w in
    IfOk-weaker c.span.result is (λ w. is_frame c.args.dag.now c.args.at ≡ true → is w) (λ w h _. h)
    (subst (λ (b : Burdens). IfOk c.span.result (λ w. IsGreatest c.args.dag.now b c.args.at (closing c.args.dag.now c.args.at) w)) (default_is c.default.result c.default.ensures) c.span.ensures)
