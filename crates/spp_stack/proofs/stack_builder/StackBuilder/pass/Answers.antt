use Rattle.std.proofs.Common.{◌≡◌, ◌+◌, ◌<◌, ◌^◌, arith, sym, subst, refl}
use Rattle.spp_maxplus.specs.Seg.{peak}
use Rattle.spp_piece.specs.declared.segs.Segs.{Segs}
use Rattle.spp_piece.specs.Bound.{cost}
use Rattle.spp_piece.specs.Summary.{play_returns, play_frames}
use Rattle.spp_stack.specs.Machine.{entry_ops, along_by}
use Rattle.spp_stack.specs.StackBuilder.{Stands}
use Rattle.spp_stack.proofs.Standing.{moved_stands, top_peak, worked_stands}
use Rattle.spp_stack.proofs.Passing.{open_returns, returns_load, played_by, stands_is}
use Rattle.spp_stack.proofs.stack_builder.StackBuilder.pass.Goals as goal

pub close_all-requires : goal.close_all-requires
close_all-requires c =
    let h = c.requires.stands in
    let s = c.args.summary.now.sum in
    (h.0, h.1, open_returns c.args.summary.now.burdens s h.0 c.requires.sound h.2, omega (arith, h.3))

pub along-requires : goal.along-requires
along-requires c =
    let h = c.requires.stands in
    let s = c.args.summary.now.sum in
    let y = play_returns (entry_ops c.args.summary.now.burdens) s.returns h.0 in
    let stands = c.close_all.ensures.stands h.0 h.1 (open_returns c.args.summary.now.burdens s h.0 c.requires.sound h.2) in
    let same : c.middle.result ≡ s.middle = c.middle.ensures.value in
    subst (λ (m : Segs). peak c.close_all.new.self.top.frame.state + peak c.close_all.new.self.top.frame.burdened + cost m < 2 ^ 127) (sym same)
    (omega (arith, top_peak c.close_all.new.self y stands, returns_load c.args.summary.now.burdens s.returns h.0, h.3))

pub open_all-requires-clause-stands : goal.open_all-requires-clause-stands
open_all-requires-clause-stands c =
    let h = c.requires.stands in
    let s = c.args.summary.now.sum in
    let y = play_returns (entry_ops c.args.summary.now.burdens) s.returns h.0 in
    let stands = c.close_all.ensures.stands h.0 h.1 (open_returns c.args.summary.now.burdens s h.0 c.requires.sound h.2) in
    let m = along_by y.frames c.middle.result y.work in
    let after : Stands c.along.new.self m = subst (λ w. Stands w m) (sym c.along.ensures) (moved_stands c.close_all.new.self c.middle.result y stands) in
    (m, c.in_ok-keep.ensures.stands m after)

pub returns-clause-stands : goal.returns-clause-stands
returns-clause-stands c x st goes =
    let s = c.args.summary.now.sum in
    let y = play_returns (entry_ops c.args.summary.now.burdens) s.returns x in
    let stands = c.close_all.ensures.stands x st (open_returns c.args.summary.now.burdens s x c.requires.sound goes) in
    let m = along_by y.frames c.middle.result y.work in
    let after : Stands c.along.new.self m = subst (λ w. Stands w m) (sym c.along.ensures) (moved_stands c.close_all.new.self c.middle.result y stands) in
    let z = play_frames (entry_ops c.args.summary.now.burdens) s.frames m in
    let end = c.in_ok-open_all.ensures.stands m (c.in_ok-keep.ensures.stands m after) in
    let all = worked_stands c.open_all.new.self _ c.work.result refl refl refl refl refl z end in
    stands_is _ _ _ (played_by c.args.summary.now.burdens s x c.middle.result c.work.result c.requires.sound c.middle.ensures.value c.work.ensures.value) all
