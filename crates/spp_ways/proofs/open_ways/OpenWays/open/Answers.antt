use Rattle.std.proofs.Common.{◌≡◌, List, [], ◌∷◌, ◌++◌, map, reverse, ap, sym, subst, ◌∙◌}
use Rattle.std.proofs.lemmas.List.{reverse-append}
use Rattle.spp_ways.specs.declared.log.LogRow.{LogRow}
use Rattle.spp_ways.specs.declared.frame_ways.FrameWays.{FrameWays}
use Rattle.spp_ways.specs.Ways.{no_ways}
use Rattle.spp_ways.specs.OpenWays.{AllWays}
use Rattle.spp_ways.specs.Stretches.{enclosed_row}
use Rattle.spp_ways.proofs.Steps.{opened, opened_ways}
use Rattle.spp_ways.proofs.Enclosed.{open_stretch}
use Rattle.spp_ways.proofs.open_ways.OpenWays.open.Goals as goal

pub returns-clause-ways : goal.returns-clause-ways
returns-clause-ways c on ws h =
    let log : List LogRow = reverse c.args.self.now.log.rows.items in
    let fs : List FrameWays = c.args.self.now.frames.items in
    let items : c.push.new.self.items ≡ fs ++ (c.opened.result ∷ []) = c.in_ok-push.ensures.items in
    let frames : reverse c.push.new.self.items ≡ opened c.len.result c.args.self.now.limit ∷ reverse fs =
    ap reverse (items ∙ ap (λ (f : FrameWays). fs ++ (f ∷ [])) c.opened.ensures) ∙ reverse-append fs (opened c.len.result c.args.self.now.limit ∷ []) in
    subst (λ (l : List FrameWays). AllWays on log l (no_ways ∷ ws)) (sym frames) (opened_ways on log c.len.result c.args.self.now.limit, h)

pub returns-clause-stretch : goal.returns-clause-stretch
returns-clause-stretch c s =
    open_stretch c.args.self.now.log.rows.items c.args.self.now.frames.items c.push.new.self.items c.len.result c.args.self.now.limit c.len.ensures
    (c.in_ok-push.ensures.items ∙ ap (λ (f : FrameWays). c.args.self.now.frames.items ++ (f ∷ [])) c.opened.ensures) s

pub returns-clause-enclosed : goal.returns-clause-enclosed
returns-clause-enclosed c on e base ws h =
    let log : List LogRow = reverse (map (enclosed_row e base) c.args.self.now.log.rows.items) in
    let fs : List FrameWays = c.args.self.now.frames.items in
    let frames : reverse c.push.new.self.items ≡ opened c.len.result c.args.self.now.limit ∷ reverse fs =
    ap reverse (c.in_ok-push.ensures.items ∙ ap (λ (f : FrameWays). fs ++ (f ∷ [])) c.opened.ensures) ∙ reverse-append fs (opened c.len.result c.args.self.now.limit ∷ []) in
    subst (λ (l : List FrameWays). AllWays on log l (no_ways ∷ ws)) (sym frames) (opened_ways on log c.len.result c.args.self.now.limit, h)
