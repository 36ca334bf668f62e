use Rattle.std.proofs.Common.{[], ◌∷◌, ◌++◌, ap, ◌∙◌, arith}
use Rattle.spp_summary.specs.declared.returns.Close.TheVariants.{Strand}
use Rattle.spp_summary.specs.Returns.{Returned, returns_of, kept_count, return_of}
use Rattle.spp_summary.proofs.Closes.{count-append, pushed_strand}
use Rattle.spp_summary.proofs.returns.Returns.push.Goals as goal

pub invariant_of-self-in-Some : goal.invariant_of-self-in-Some
invariant_of-self-in-Some c =
    let r = c.self.inside in
    omega (arith, ap kept_count c.in_ok-push_back.ensures.items, count-append r.closes.items (Strand c.args.at c.in-Some.run' ∷ []), c.self.invariant)

pub returns-in-Some : goal.returns-in-Some
returns-in-Some c =
    let r = c.self.inside in
    ap (λ cs. returns_of cs r.segs.items) c.in_ok-push_back.ensures.items
    ∙ pushed_strand r.closes.items r.segs.items c.in-Some.run' c.args.at c.args.segs.now c.self.invariant c.in-Some.ensures
    ∙ ap (λ (x : Returned). x.items ++ return_of c.args.segs.now c.args.at ∷ []) c.self.view_is
