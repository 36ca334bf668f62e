use Rattle.std.proofs.Common.{OnOk}
use Rattle.std.proofs.lemmas.Result.{on_ok_weaker}
use Rattle.spp_site.specs.Marks.{is_marked}
use Rattle.spp_ways.specs.declared.frame_ways.FrameWays.{FrameWays}
use Rattle.spp_ways.proofs.Marking.{FourMarked, four_marked}
use Rattle.spp_ways.proofs.frame_ways.FrameWays.mark.Goals.{After-add-4}
use Rattle.spp_ways.proofs.frame_ways.FrameWays.mark.Goals as goal

marked : (c : After-add-4) → OnOk c.add-4.result (FourMarked c.args.self.now.plain_rows c.args.self.now.plain_through_rows c.args.self.now.burdened_rows c.args.self.now.burdened_through_rows (is_marked c.args.marks.now) (is_marked c.add-4.new.self))
marked c =
    let f : FrameWays = c.args.self.now in
    on_ok_weaker c.add-4.result (λ last. four_marked f.plain_rows f.plain_through_rows f.burdened_rows f.burdened_through_rows (is_marked c.args.marks.now)
    (is_marked c.add.new.self) (is_marked c.add-2.new.self) (is_marked c.add-3.new.self) (is_marked c.add-4.new.self) c.in_ok-add.ensures.added c.in_ok-add-2.ensures.added c.in_ok-add-3.ensures.added last) c.add-4.ensures.added

pub returns-clause-kept : goal.returns-clause-kept
returns-clause-kept c = on_ok_weaker c.add-4.result (λ h. record { along = h.first; through = h.second; burdened_along = h.third; burdened_through = h.fourth }) (marked c)

pub returns-clause-more : goal.returns-clause-more
returns-clause-more c = on_ok_weaker c.add-4.result (λ h. h.more) (marked c)
