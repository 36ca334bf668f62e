use Rattle.std.proofs.Common.{ℕ, sym, ap₂, ◌∙◌}
use Rattle.spp_change.proofs.Nesting.{is_as_long}
use Rattle.spp_piece.specs.Account.{Account}
use Rattle.spp_piece.specs.Summary.{Sum}
use Rattle.spp_summary.proofs.summary.Summary.of_changed.Goals as goal

pub returns : goal.returns
returns c =
    let account : ℕ → Sum → Account = λ n s. record { burdens = c.args.burdens; first = 0; events = n; sum = s } in
    ap₂ account (c.count-events.ensures.count ∙ sym (is_as_long c.args.change c.args.trace.now.records)) (c.finish.ensures.value ∙ c.in_ok-reading.ensures.value)
