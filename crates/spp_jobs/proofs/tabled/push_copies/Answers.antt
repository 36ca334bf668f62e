use Rattle.std.proofs.Common.{◌≡◌, ◌+◌, List, [], ◌∷◌, ◌++◌, take, sym, ap, subst, ◌∙◌, append_assoc}
use Rattle.std.proofs.lemmas.List.{take_more}
use Rattle.spp_dag.specs.declared.choices.Choices.{Choices}
use Rattle.spp_jobs.specs.Tables.{AreSame}
use Rattle.spp_jobs.proofs.Tables.{same_more}
use Rattle.spp_jobs.proofs.tabled.push_copies.Goals as goal

pub loop-of_part-preserved : goal.loop-of_part-preserved
loop-of_part-preserved c cs same =
    let all : List Choices = c.args.choices.now in
    let i = c.loop-of_part.of_part-index in
    let x : Choices = c.of_part-item.result in
    let more : take (i + 1) all ≡ take i all ++ x ∷ [] = take_more all i x c.loop-of_part-test.true ∙ ap (λ (y : Choices). take i all ++ y ∷ []) (sym c.of_part-item.is) in
    let e = c.in_ok-copied.ensures in
    subst (λ (l : List Choices). AreSame (cs ++ take (i + 1) all) l) (sym c.in_ok-push_back.ensures.items)
    (subst (λ (l : List Choices). AreSame l (c.loop-of_part.all.items ++ c.in_ok-copied.field-0 ∷ [])) (append_assoc cs (take i all) (x ∷ []) ∙ ap (λ (l : List Choices). cs ++ l) (sym more))
    (same_more (cs ++ take i all) c.loop-of_part.all.items x c.in_ok-copied.field-0 (c.loop-of_part.invariant cs same) e.0 e.1 e.2))
