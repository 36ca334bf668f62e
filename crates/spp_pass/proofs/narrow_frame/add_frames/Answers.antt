use Rattle.spp_site.specs.declared.closed_frame.ClosedFrame.{ClosedFrame}
use Rattle.std.proofs.Common.{◌+◌, ℕ, List, drop, get_or, Option, ◌∙◌, ap₂}
use Rattle.spp_dag.specs.declared.row.Row.{Row}
use Rattle.spp_dag.specs.Shares.{plus}
use Rattle.spp_site.specs.Profiles.{key_row}
use Rattle.spp_ways.specs.Enclosures.{Enclosure, enclosure_of, enclosed}
use Rattle.spp_pass.specs.declared.narrow_frame.NarrowFrame.{NarrowFrame}
use Rattle.spp_pass.specs.CallRows.{calls_row}
use Rattle.spp_pass.specs.CallFrames.{calls_of}
use Rattle.spp_pass.proofs.CallFrames.{no_frame, lacks_at, lacks_fits, lacks_added, lacks_none, own_fits, added_call}
use Rattle.spp_pass.proofs.narrow_frame.add_frames.Goals as goal

pub close-requires-clause-fits : goal.close-requires-clause-fits
close-requires-clause-fits c =
    let e : Enclosure = enclosure_of c.args.enclosing.now in
    let fs : List NarrowFrame = c.args.frames.now in
    let k : ℕ = c.loop-frame.frame-index in
    let f : NarrowFrame = get_or fs k no_frame in
    let whole : Option ℕ → Row = λ key. plus (key_row c.args.table.now key) (calls_row e (calls_of fs) key) in
    own_fits c.loop-frame.table e f c.from-site.result c.closed-in-loop-frame.result c.from-site.ensures (c.closed-in-loop-frame.ensures ∙ ap₂ (λ (n : ℕ) (t : ClosedFrame). enclosed e n f.caller t) c.from-site.ensures c.closed.ensures)
    (lacks_fits (key_row c.loop-frame.table) e f (calls_of (drop (k + 1) fs)) whole (lacks_at (key_row c.loop-frame.table) e fs k no_frame whole c.loop-frame-test.true c.loop-frame.invariant) c.requires)

pub loop-frame-preserved : goal.loop-frame-preserved
loop-frame-preserved c =
    let e : Enclosure = enclosure_of c.args.enclosing.now in
    let fs : List NarrowFrame = c.args.frames.now in
    let k : ℕ = c.loop-frame.frame-index in
    let f : NarrowFrame = get_or fs k no_frame in
    let whole : Option ℕ → Row = λ key. plus (key_row c.args.table.now key) (calls_row e (calls_of fs) key) in
    lacks_added (key_row c.loop-frame.table) (key_row c.close.new.self) e f (calls_of (drop (k + 1) fs)) whole
    (lacks_at (key_row c.loop-frame.table) e fs k no_frame whole c.loop-frame-test.true c.loop-frame.invariant)
    (added_call c.loop-frame.table c.close.new.self e f c.from-site.result c.closed-in-loop-frame.result c.from-site.ensures (c.closed-in-loop-frame.ensures ∙ ap₂ (λ (n : ℕ) (t : ClosedFrame). enclosed e n f.caller t) c.from-site.ensures c.closed.ensures) c.in_ok-close.ensures.added)

pub returns : goal.returns
returns c =
    let e : Enclosure = enclosure_of c.args.enclosing.now in
    lacks_none (key_row c.loop-frame.table) e c.args.frames.now c.loop-frame.frame-index (λ key. plus (key_row c.args.table.now key) (calls_row e (calls_of c.args.frames.now) key)) c.loop-frame-test.false c.loop-frame.invariant
