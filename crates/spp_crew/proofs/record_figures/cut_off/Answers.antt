use Rattle.std.proofs.Common.{◌≡◌, ℕ, length, Result, IfOk, subst, arith}
use Rattle.spp_dag.specs.declared.figures.Figures.{Figures}
use Rattle.spp_frame.specs.declared.Fault.{Fault}
use Rattle.spp_frame.specs.Nesting.{IsWellFormed, IsGoodBefore}
use Rattle.spp_crew.proofs.CutRecords.{bad_before, cut_there, bad_told}
use Rattle.spp_crew.proofs.record_figures.cut_off.Goals as goal

pub returns-in-Err : goal.returns-in-Err
returns-in-Err c = λ rs behind n ok err some is. bad_before rs behind c.in-Err.fault (omega (arith, n, c.if-fault-at.true)) (bad_told rs c.args.found c.in-Err.fault c.in-Err.is err)

pub returns-in_default : goal.returns-in_default
returns-in_default c = λ rs behind n ok err some is.
    let bad = bad_told rs c.args.found c.in-Err.fault c.in-Err.is err in
    let within = bad.within in
    let end : c.in-Err.fault.at ≡ length rs = omega (arith, n, within, c.if-fault-at.false) in
    cut_there rs behind c.args.at n (subst (λ (k : ℕ). IsGoodBefore rs k) end bad.first) some is

pub returns-in_default-2 : goal.returns-in_default-2
returns-in_default-2 c = λ rs behind n ok err some is.
    let good : IsWellFormed rs = subst (λ (x : Result Figures Fault). IfOk x (λ f. IsWellFormed rs)) c.in_default.is ok in
    cut_there rs behind c.args.at n (λ k lt. good k (omega (arith, lt))) some is
