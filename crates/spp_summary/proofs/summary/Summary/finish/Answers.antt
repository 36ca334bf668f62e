use Rattle.std.proofs.Common.{◌≡◌, List, Result, Ok, Err, IfOk, IfErr, sym, subst}
use Rattle.spp_event.specs.Recordings.{Record}
use Rattle.spp_frame.specs.declared.Fault.{Fault}
use Rattle.spp_frame.specs.Nesting.{IsFirstBad}
use Rattle.spp_dag.specs.declared.figures.Figures.{Figures}
use Rattle.spp_dag.specs.Figures.{AreFigures}
use Rattle.spp_piece.specs.Account.{account_of}
use Rattle.spp_summary.proofs.Totals.{account_told}
use Rattle.spp_summary.proofs.summary.Summary.finish.Goals as goal

-- what holds of an answer for all records
all_ok : (x : Result Figures Fault) (P : List Record → Figures → Type 0) (Q : List Record → Type 0)
    → ((rs : List Record) → Q rs → IfOk x (P rs)) → IfOk x (λ f. (rs : List Record) → Q rs → P rs f)
all_ok (Ok f) P Q h = h
all_ok (Err f) P Q h = tt

all_err : (x : Result Figures Fault) (P : List Record → Fault → Type 0) (Q : List Record → Type 0)
    → ((rs : List Record) → Q rs → IfErr x (P rs)) → IfErr x (λ f. (rs : List Record) → Q rs → P rs f)
all_err (Ok f) P Q h = tt
all_err (Err f) P Q h = h

pub returns-clause-figures : goal.returns-clause-figures
returns-clause-figures c =
    let a = c.args.self.now in
    all_ok c.ended.result (λ rs f. AreFigures rs a.burdens f) (λ rs. a ≡ account_of a.burdens 0 rs)
    (λ rs is. subst (λ r. IfOk r (AreFigures rs a.burdens)) (sym c.ended.ensures.value) (account_told a.burdens rs a is).0)

pub returns-clause-fault : goal.returns-clause-fault
returns-clause-fault c =
    let a = c.args.self.now in
    all_err c.ended.result (λ rs f. IsFirstBad rs f) (λ rs. a ≡ account_of a.burdens 0 rs)
    (λ rs is. subst (λ r. IfErr r (IsFirstBad rs)) (sym c.ended.ensures.value) (account_told a.burdens rs a is).1)
