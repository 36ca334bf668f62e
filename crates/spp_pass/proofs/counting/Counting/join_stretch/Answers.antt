use Rattle.std.proofs.Common.{◌≡◌, ◌-◌, ℕ, List, length, Option, sym, ap, subst, ◌∙◌, arith}
use Rattle.spp_dag.specs.Shares.{plus}
use Rattle.spp_site.specs.Rows.{Fits}
use Rattle.spp_site.specs.Profiles.{key_row}
use Rattle.spp_pass.specs.declared.calls.CallRow.{CallRow}
use Rattle.spp_pass.specs.declared.narrow_frame.NarrowFrame.{NarrowFrame}
use Rattle.spp_pass.specs.declared.counted_frame.CountedFrame.{CountedFrame}
use Rattle.spp_pass.specs.Passes.{Seen, seen_with, no_notes}
use Rattle.spp_pass.specs.CallRows.{calls_row}
use Rattle.spp_pass.specs.CallFrames.{calls_of, stretch_calls}
use Rattle.spp_pass.specs.Stretches.{enclosure, frames_of, FitsJoin, CanJoin, IsJoined}
use Rattle.spp_pass.proofs.Joining.{last_is, last_has}
use Rattle.spp_pass.proofs.CallFrames.{frames_fit, HasFramesAdded, can_rest, all_joined}
use Rattle.spp_site.proofs.Keys.{ok_more}
use Rattle.spp_pass.proofs.counting.Counting.join_stretch.Goals as goal

pub add_frames-requires : goal.add_frames-requires
add_frames-requires c = λ key.
    let s : Seen = seen_with c.args.self.now no_notes in
    let x : CountedFrame = c.index.result.now in
    let fs : List CountedFrame = c.args.self.now.frames.items in
    let at : c.len-last.result - 1 ≡ length fs - 1 = omega (arith, c.len-last.ensures, c.args.self.now.frames.ok.0) in
    let fit = (last_has (λ g. FitsJoin c.args.stretch.now.outer g × ((key : Option ℕ) → Fits (plus (key_row s.table key) (calls_row (enclosure g s) (stretch_calls c.args.calls.now) key)))) fs (c.len-last.result - 1) x
    at c.index.ensures c.requires.top).1 key in
    subst (λ (l : List NarrowFrame). Fits (plus (key_row s.table key) (calls_row (enclosure x s) (calls_of l) key))) (sym c.deref.ensures.value)
    (frames_fit (key_row s.table key) (enclosure x s) (calls_of c.args.calls.now.frames.items) c.args.calls.now.rows.items key fit)

pub join-requires : goal.join-requires
join-requires c =
    let s : Seen = seen_with c.args.self.now no_notes in
    let fs : List CountedFrame = c.args.self.now.frames.items in
    let at : c.len-last.result - 1 ≡ length fs - 1 = omega (arith, c.len-last.ensures, c.args.self.now.frames.ok.0) in
    let has : HasFramesAdded (calls_of c.args.calls.now.frames.items) s c.add_frames.new.table = λ g gs is key.
    c.in_ok-add_frames.ensures key ∙ ap (λ (f : CountedFrame). plus (key_row s.table key) (calls_row (enclosure f s) (calls_of c.deref.result.now) key)) (last_is fs (c.len-last.result - 1) c.index.result.now g gs at c.index.ensures is).same
    ∙ ap (λ (l : List NarrowFrame). plus (key_row s.table key) (calls_row (enclosure g s) (calls_of l) key)) c.deref.ensures.value in
    subst (λ (l : List CallRow). CanJoin c.args.first (frames_of c.args.stretch.now) c.args.stretch.now.outer c.args.stretch.now.work l (record s { table = c.add_frames.new.table })) (sym c.deref-2.ensures.value)
    (can_rest c.args.first (frames_of c.args.stretch.now) c.args.stretch.now.outer c.args.stretch.now.work (calls_of c.args.calls.now.frames.items) c.args.calls.now.rows.items s c.add_frames.new.table has c.requires)

pub returns : goal.returns
returns c =
    ok_more _ _
    (λ joined g gs is m n.
    let s : Seen = seen_with c.args.self.now m in
    let fs : List CountedFrame = c.args.self.now.frames.items in
    let at : c.len-last.result - 1 ≡ length fs - 1 = omega (arith, c.len-last.ensures, c.args.self.now.frames.ok.0) in
    let has : HasFramesAdded (calls_of c.args.calls.now.frames.items) s c.add_frames.new.table = λ g gs is key.
    c.in_ok-add_frames.ensures key ∙ ap (λ (f : CountedFrame). plus (key_row s.table key) (calls_row (enclosure f s) (calls_of c.deref.result.now) key)) (last_is fs (c.len-last.result - 1) c.index.result.now g gs at c.index.ensures is).same
    ∙ ap (λ (l : List NarrowFrame). plus (key_row s.table key) (calls_row (enclosure g s) (calls_of l) key)) c.deref.ensures.value in
    all_joined c.args.first (frames_of c.args.stretch.now) c.args.stretch.now.work (calls_of c.args.calls.now.frames.items) c.args.calls.now.rows.items g gs s (seen_with c.join.new.self n) c.add_frames.new.table is has
    (subst (λ (l : List CallRow). IsJoined c.args.first (frames_of c.args.stretch.now) c.args.stretch.now.work l g gs (record s { table = c.add_frames.new.table }) (seen_with c.join.new.self n)) c.deref-2.ensures.value (joined g gs is m n)))
    c.join.result c.join.ensures
