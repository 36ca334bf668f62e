use Rattle.std.proofs.Common.{◌≡◌, List, [], ◌∷◌, ◌++◌, reverse, ap, sym, subst, ◌∙◌}
use Rattle.spp_ways.specs.declared.log.LogRow.{LogRow}
use Rattle.spp_ways.specs.declared.frame_ways.FrameWays.{FrameWays}
use Rattle.spp_ways.specs.Ways.{no_ways}
use Rattle.spp_ways.specs.OpenWays.{AllWays}
use Rattle.spp_ways.proofs.Steps.{opened, opened_ways}
use Rattle.spp_ways.proofs.open_ways.OpenWays.new.Goals as goal

pub returns-clause-ways : goal.returns-clause-ways
returns-clause-ways c on =
    let log : List LogRow = reverse c.new.result.rows.items in
    let items : c.push.new.self.items ≡ opened 0 c.max-limit.result ∷ [] =
    c.in_ok-push.ensures.items ∙ ap (λ (l : List FrameWays). l ++ (c.opened.result ∷ [])) c.new-frames.ensures.items ∙ ap (λ (f : FrameWays). f ∷ []) c.opened.ensures in
    subst (λ (l : List FrameWays). AllWays on log (reverse l) (no_ways ∷ [])) (sym items) (opened_ways on log 0 c.max-limit.result, tt)
