use Rattle.std.proofs.Common.{◌&&◌, sym, ◌∙◌, arith, ℕ, Bool}
use Rattle.spp_dag.specs.Rows.{encloses, entered_by, same_site}
use Rattle.spp_reference.proofs.Sums.{none_more, none_some}
use Rattle.spp_reference.proofs.rows.is_top_site.Goals as goal

pub returns-then-is_of_site : goal.returns-then-is_of_site
returns-then-is_of_site c =
    let test : ℕ → Bool = λ f. encloses c.args.dag.now f c.args.g && same_site (entered_by c.args.dag.now f) (entered_by c.args.dag.now c.args.g) in
    sym (none_some test c.loop-f.f c.args.g (omega arith) (sym c.is_of_site.ensures ∙ c.if-is_of_site.true))

pub loop-f-preserved : goal.loop-f-preserved
loop-f-preserved c =
    let test : ℕ → Bool = λ f. encloses c.args.dag.now f c.args.g && same_site (entered_by c.args.dag.now f) (entered_by c.args.dag.now c.args.g) in
    none_more test c.loop-f.f c.loop-f.invariant (sym c.is_of_site.ensures ∙ c.if-is_of_site.false)
