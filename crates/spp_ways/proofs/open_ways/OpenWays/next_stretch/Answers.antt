use Rattle.std.proofs.Common.{◌≡◌, ◌≤◌, List, [], ◌∷◌, ◌++◌, length, set, ap, ap₂, ◌∙◌, arith}
use Rattle.spp_ways.specs.declared.log.LogRow.{LogRow}
use Rattle.spp_ways.specs.declared.frame_ways.FrameWays.{FrameWays}
use Rattle.spp_ways.specs.declared.open_ways.OpenWays.{OpenWays}
use Rattle.spp_ways.specs.Stretches.{outer_frame}
use Rattle.spp_ways.proofs.Joining.{outer_alone, one_set}
use Rattle.spp_ways.proofs.open_ways.OpenWays.next_stretch.Goals.{then-len-gt1+in_ok-push, else-len-gt1}
use Rattle.spp_ways.proofs.open_ways.OpenWays.next_stretch.Goals as goal

pub returns-clause-begun : goal.returns-clause-begun
returns-clause-begun c =
    let fs : List FrameWays = c.args.self.now.frames.items in
    let begun : set fs 0 c.outer-2.result ≡ outer_frame ∷ [] = one_set fs c.outer-2.result c.requires.one ∙ ap (λ (f : FrameWays). f ∷ []) c.outer-2.ensures in
    elim c.if-len-gt1.branch [
      | then-len-gt1+in_ok-push w ↦ (
        ap (λ (o : OpenWays). o.log.rows.items) w.self-is ∙ ap (λ l. l.rows.items) w.swap.ensures.x_after ∙ w.in_ok-push.ensures.row
            ∙ ap₂ (λ (l : List LogRow) (r : LogRow). l ++ (r ∷ [])) c.new-log.ensures w.outer.ensures,
        ap (λ (o : OpenWays). set o.frames.items 0 c.outer-2.result) w.self-is ∙ begun,
      )
      | else-len-gt1 w ↦
          let few : length c.args.self.now.log.rows.items ≤ 1 = omega (arith, c.len.ensures, w.if-len-gt1.false) in (
            ap (λ (o : OpenWays). o.log.rows.items) w.self-is ∙ outer_alone c.args.self.now.log.rows.items c.requires.stretch.plain few,
            ap (λ (o : OpenWays). set o.frames.items 0 c.outer-2.result) w.self-is ∙ begun,
          )
    ]
