use Rattle.std.proofs.Common.{◌≡◌, ◌&&◌, ◌+◌, ℕ, Bool, suc, length, get_or, sym, ◌∙◌, ap, subst, arith}
use Rattle.spp_dag.specs.Trace.{owner}
use Rattle.spp_dag.specs.Rows.{is_of}
use Rattle.spp_dag.specs.Shares.{plus}
use Rattle.spp_dag.specs.Limits.{IsSmallRow}
use Rattle.spp_dag.proofs.Bounds.{rows_fit}
use Rattle.spp_reference.specs.Places.{holds}
use Rattle.spp_reference.specs.Sums.{row_below}
use Rattle.spp_reference.proofs.Sums.{row_fits, row_next}
use Rattle.spp_reference.proofs.rows.row.Goals as goal

pub sum-row-requires : goal.sum-row-requires
sum-row-requires c =
    let es = c.args.dag.now in
    let span : ℕ → ℕ = λ f. get_or c.args.spans.now f 0 in
    let frames : ℕ → Bool = λ f. holds c.args.places f && is_of es c.args.site f in
    let places : ℕ → Bool = λ k. holds c.args.places k && is_of es c.args.site (owner es k) in
    let at = c.loop-at.at in
    let upto = row_below es c.args.root span frames places in
    let next : plus c.loop-at.row c.term.result ≡ upto (suc at) =
    ap (λ r. plus r c.term.result) c.loop-at.invariant
    ∙ ap (λ t. plus (upto at) t) c.term.ensures
    ∙ row_next es c.args.root span (holds c.args.places) c.args.site at in
    subst (λ r. IsSmallRow r) (sym next)
    (row_fits es c.args.root span frames places (suc at) (suc (length es)) (omega (arith, c.end-at-end.ensures.count))
    (rows_fit es c.end-at-end.ensures.small c.args.root span c.requires.spans (holds c.args.places) c.args.site).0)

pub loop-at-preserved : goal.loop-at-preserved
loop-at-preserved c =
    let es = c.args.dag.now in
    let span : ℕ → ℕ = λ f. get_or c.args.spans.now f 0 in
    let frames : ℕ → Bool = λ f. holds c.args.places f && is_of es c.args.site f in
    let places : ℕ → Bool = λ k. holds c.args.places k && is_of es c.args.site (owner es k) in
    let at = c.loop-at.at in
    let upto = row_below es c.args.root span frames places in
    c.sum-row.ensures
    ∙ ap (λ r. plus r c.term.result) c.loop-at.invariant
    ∙ ap (λ t. plus (upto at) t) c.term.ensures
    ∙ row_next es c.args.root span (holds c.args.places) c.args.site at
    ∙ ap upto (let q : suc at ≡ at + 1 = omega arith in q)

pub returns : goal.returns
returns c =
    let es = c.args.dag.now in
    let end : c.loop-at.at ≡ suc (length es) = omega (arith, c.end-at-end.ensures.count) in
    let span : ℕ → ℕ = λ f. get_or c.args.spans.now f 0 in
    let frames : ℕ → Bool = λ f. holds c.args.places f && is_of es c.args.site f in
    let places : ℕ → Bool = λ k. holds c.args.places k && is_of es c.args.site (owner es k) in
    c.loop-at.invariant ∙ ap (row_below es c.args.root span frames places) end
