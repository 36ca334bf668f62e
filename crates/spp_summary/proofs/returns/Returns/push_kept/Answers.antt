use Rattle.std.proofs.Common.{[], ◌∷◌, ◌++◌, length, ap, ap₂, ◌∙◌, arith}
use Rattle.std.proofs.lemmas.List.{length-append}
use Rattle.spp_summary.specs.declared.returns.Close.TheVariants.{Kept}
use Rattle.spp_summary.specs.Returns.{Returned, returns_of, kept_count, return_of}
use Rattle.spp_summary.proofs.Closes.{count-append, pushed_kept}
use Rattle.spp_summary.proofs.returns.Returns.push_kept.Goals as goal

pub invariant_of-self-2 : goal.invariant_of-self-2
invariant_of-self-2 c =
    let r = c.self.inside in
    omega (arith, ap kept_count c.push_back_reserved.ensures.items, ap kept_count c.in_ok-reserve.ensures.items, count-append c.reserve.new.self.items (Kept c.args.at ∷ []), ap length c.in_ok-push_back.ensures.items, length-append r.segs.items (c.args.segs.now ∷ []), c.self.invariant)

pub returns : goal.returns
returns c =
    let r = c.self.inside in
    ap₂ returns_of (c.push_back_reserved.ensures.items ∙ ap (λ cs. cs ++ Kept c.args.at ∷ []) c.in_ok-reserve.ensures.items) c.in_ok-push_back.ensures.items
    ∙ pushed_kept r.closes.items r.segs.items c.args.at c.args.segs.now c.self.invariant
    ∙ ap (λ (x : Returned). x.items ++ return_of c.args.segs.now c.args.at ∷ []) c.self.view_is
