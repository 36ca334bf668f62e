use Rattle.std.proofs.Common.{◌≡◌, sym, ap, ◌∙◌}
use Rattle.spp_frame.proofs.Laws.{well_formed_has_none}
use Rattle.spp_change.specs.Changed.{changed}
use Rattle.spp_change.proofs.Nesting.{is_well_formed}
use Rattle.spp_piece.specs.Account.{Account, account_of}
use Rattle.spp_summary.proofs.changed.changed_figures.Goals as goal

pub unreachable-requires : goal.unreachable-requires
unreachable-requires c =
    let rs = changed c.args.change c.args.trace.now.records in
    let a = c.in_ok-summary.summary in
    let is : a ≡ account_of c.args.burdens 0 rs = c.in_ok-summary.ensures in
    let told : a ≡ account_of a.burdens 0 rs = is ∙ sym (ap (λ (x : Account). account_of x.burdens 0 rs) is) in
    well_formed_has_none rs c.in-Err.field-0 (is_well_formed c.args.change c.args.trace.now.records c.requires) (c.in-Err.ensures.fault rs told)
