use Rattle.std.proofs.Common.{◌&&◌, nat_eq, sym, ◌∙◌, arith, ℕ, Bool}
use Rattle.spp_dag.specs.Rows.{encloses, function_of}
use Rattle.spp_reference.proofs.Sums.{none_more, none_some}
use Rattle.spp_reference.proofs.rows.is_outermost.Goals as goal

pub returns-then-is_of_function : goal.returns-then-is_of_function
returns-then-is_of_function c =
    let test : ℕ → Bool = λ f. encloses c.args.dag.now f c.args.g && nat_eq (function_of c.args.dag.now c.args.root f) (function_of c.args.dag.now c.args.root c.args.g) in
    sym (none_some test c.loop-f.f c.args.g (omega arith) (sym c.is_of_function.ensures ∙ c.if-is_of_function.true))

pub loop-f-preserved : goal.loop-f-preserved
loop-f-preserved c =
    let test : ℕ → Bool = λ f. encloses c.args.dag.now f c.args.g && nat_eq (function_of c.args.dag.now c.args.root f) (function_of c.args.dag.now c.args.root c.args.g) in
    none_more test c.loop-f.f c.loop-f.invariant (sym c.is_of_function.ensures ∙ c.if-is_of_function.false)
