use Rattle.std.proofs.Common.{◌≡◌, List, reverse, ap, ◌∙◌}
use Rattle.spp_pass.specs.declared.counted_frame.CountedFrame.{CountedFrame}
use Rattle.spp_pass.specs.Passes.{Notes, seen_with, notes_of, noted_sync}
use Rattle.spp_pass.proofs.Tops.{noted_top}
use Rattle.spp_pass.proofs.summing.Summing.sync.Goals as goal

pub returns : goal.returns
returns c =
    let frames : List CountedFrame = reverse c.args.self.now.counting.frames.items in
    let n : Notes = notes_of c.args.self.now.choices in
    let m : Notes = notes_of c.note_joins.new.choices in
    let noted : m ≡ noted_sync c.args.at frames n =
    noted_top c.top.result.now frames c.top.ensures c.args.at m.ends m.joins m.burdened_joins n
    (ap (λ (v : _). v.items) c.note_joins.ensures.ends) c.in_ok-note_joins.ensures.joins c.in_ok-note_joins.ensures.burdened in
    ap (seen_with c.sync.new.self) noted ∙ c.sync.ensures c.args.at n
