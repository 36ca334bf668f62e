use Rattle.std.proofs.Common.{◌≡◌, ◌++◌, List, is_some, reverse, ap, sym, subst, ◌∙◌}
use Rattle.spp_pass.specs.declared.counted_frame.CountedFrame.{CountedFrame}
use Rattle.spp_pass.specs.Passes.{Seen, Notes, seen_with, notes_of, noted_return, ends_at, Returns}
use Rattle.spp_pass.proofs.Tops.{returned_top}
use Rattle.spp_pass.proofs.summing.Summing.ret.Goals as goal

pub returns : goal.returns
returns c =
    let frames : List CountedFrame = reverse c.args.self.now.counting.frames.items in
    let n : Notes = notes_of c.args.self.now.choices in
    let old : Seen = seen_with c.args.self.now.counting n in
    let f : CountedFrame = c.top-child.result.now in
    let m : Notes = record { ends = c.note_end.new.ends.items; joins = c.note_joins.new.choices.joins.items; burdened_joins = c.note_joins.new.choices.burdened_joins.items } in
    let noted : m ≡ noted_return c.args.at frames n =
    returned_top f frames c.top-child.ensures c.args.at m.ends m.joins m.burdened_joins n
    (c.in_ok-note_end.ensures ∙ ap (λ (v : _). v.items ++ ends_at c.args.at f.kind f.at) c.note_joins.ensures.ends) c.in_ok-note_joins.ensures.joins c.in_ok-note_joins.ensures.burdened in
    let told = c.in_ok-closing.ensures.returns c.args.at n in
    subst (λ went. Returns c.args.burdens c.args.at old frames went (seen_with c.ret.new.self m)) (sym c.is_some.ensures)
    (subst (λ (k : Notes). Returns c.args.burdens c.args.at old frames (is_some c.in_ok-closing.closing) (seen_with c.ret.new.self k)) (sym noted) told)
