use Rattle.std.proofs.Common.{◌+◌, ◌≤◌, ℕ, List, length, drop, get_or, Option, Some, refl, sym, subst}
use Rattle.spp_dag.specs.declared.row.Row.{Row}
use Rattle.spp_dag.specs.Shares.{plus}
use Rattle.spp_site.specs.Rows.{Fits}
use Rattle.spp_site.specs.Table.{row_at}
use Rattle.spp_site.proofs.Keys.{own_row, added_key}
use Rattle.spp_ways.specs.Enclosures.{Enclosure, enclosure_of}
use Rattle.spp_pass.specs.declared.calls.CallRow.{CallRow}
use Rattle.spp_pass.specs.declared.narrow_frame.NarrowFrame.{NarrowFrame}
use Rattle.spp_pass.specs.CallRows.{no_calls, calls_row, EachBelow}
use Rattle.spp_pass.specs.CallFrames.{call_of, calls_of, stretch_calls}
use Rattle.spp_site.specs.NarrowRows.{narrow_row}
use Rattle.spp_site.specs.Profiles.{key_row}
use Rattle.spp_pass.proofs.CallFrames.{no_frame, Lacks, lacks_at, lacks_row_at, lacks_row_fits, lacks_row_added, lacks_row_none, lacks_none, row_inside, rows_fit, begun}
use Rattle.spp_pass.proofs.owed.add_stretch.Goals as goal

pub add_row-requires-clause-limit : goal.add_row-requires-clause-limit
add_row-requires-clause-limit c = subst (λ (l : List CallRow). EachBelow 65536 l) (sym c.deref-call-items.ensures.value) c.requires.below c.loop-call.call-index c.loop-call-test.true

pub add_row-requires-clause-fits : goal.add_row-requires-clause-fits
add_row-requires-clause-fits c =
    let e : Enclosure = enclosure_of c.args.enclosing.now in
    let cs : List CallRow = c.deref-call-items.result.now in
    let k : ℕ = c.loop-call.call-index in
    let one : CallRow = get_or cs k no_calls in
    let whole : Option ℕ → Row = λ key. plus (key_row c.args.table.now key) (calls_row e c.args.calls.now.rows.items key) in
    let lacks = lacks_row_at (key_row c.loop-call.table) e cs k no_calls whole c.loop-call-test.true
    (subst (λ (l : List CallRow). Lacks (key_row c.loop-call.table) e (drop k l) whole) (sym c.deref-call-items.ensures.value) c.loop-call.invariant) in
    subst (λ r. Fits (plus (row_at c.loop-call.table one.site) r)) (own_row one.site c.within.result)
    (lacks_row_fits (key_row c.loop-call.table) e one (drop (k + 1) cs) whole one.site c.within.result refl c.within.ensures lacks
    (λ key. rows_fit (key_row c.args.table.now key) e (calls_of c.args.calls.now.frames.items) c.args.calls.now.rows.items key (c.requires.fits key)) (Some one.site))

pub loop-call-preserved : goal.loop-call-preserved
loop-call-preserved c =
    let e : Enclosure = enclosure_of c.args.enclosing.now in
    let cs : List CallRow = c.deref-call-items.result.now in
    let k : ℕ = c.loop-call.call-index in
    let one : CallRow = get_or cs k no_calls in
    let whole : Option ℕ → Row = λ key. plus (key_row c.args.table.now key) (calls_row e c.args.calls.now.rows.items key) in
    let lacks = lacks_row_at (key_row c.loop-call.table) e cs k no_calls whole c.loop-call-test.true
    (subst (λ (l : List CallRow). Lacks (key_row c.loop-call.table) e (drop k l) whole) (sym c.deref-call-items.ensures.value) c.loop-call.invariant) in
    subst (λ (l : List CallRow). Lacks (key_row c.add_row.new.self) e (drop (k + 1) l) whole) c.deref-call-items.ensures.value
    (lacks_row_added (key_row c.loop-call.table) (key_row c.add_row.new.self) e one (drop (k + 1) cs) whole one.site c.within.result refl c.within.ensures lacks
    (added_key c.loop-call.table c.add_row.new.self one.site c.within.result c.in_ok-add_row.ensures.added))

pub loop-frame-init : goal.loop-frame-init
loop-frame-init c =
    let e : Enclosure = enclosure_of c.args.enclosing.now in
    let rows : List CallRow = c.args.calls.now.rows.items in
    begun (key_row c.args.table.now) (key_row c.loop-call.table) e (calls_of c.args.calls.now.frames.items) rows
    (lacks_row_none (key_row c.loop-call.table) e rows c.loop-call.call-index (λ key. plus (key_row c.args.table.now key) (calls_row e rows key))
    (subst (λ (l : List CallRow). length l ≤ c.loop-call.call-index) c.deref-call-items.ensures.value c.loop-call-test.false) c.loop-call.invariant)

pub add-requires : goal.add-requires
add-requires c =
    let e : Enclosure = enclosure_of c.args.enclosing.now in
    let fs : List NarrowFrame = c.deref-frame-items.result.now in
    let k : ℕ = c.loop-frame.frame-index in
    let f : NarrowFrame = get_or fs k no_frame in
    let whole : Option ℕ → Row = λ key. plus (key_row c.args.table.now key) (calls_row e (stretch_calls c.args.calls.now) key) in
    let lacks = lacks_at (key_row c.loop-frame.table) e fs k no_frame whole c.loop-frame-test.true
    (subst (λ (l : List NarrowFrame). Lacks (key_row c.loop-frame.table) e (calls_of (drop k l)) whole) (sym c.deref-frame-items.ensures.value) c.loop-frame.invariant) in
    let is = row_inside e f (narrow_row c.within-in-loop-frame.result) c.within-in-loop-frame.ensures in
    subst (λ r. Fits (plus (row_at c.loop-frame.table f.site) r)) (own_row f.site (narrow_row c.within-in-loop-frame.result))
    (lacks_row_fits (key_row c.loop-frame.table) e (call_of f) (calls_of (drop (k + 1) fs)) whole f.site (narrow_row c.within-in-loop-frame.result) refl is lacks c.requires.fits (Some f.site))

pub loop-frame-preserved : goal.loop-frame-preserved
loop-frame-preserved c =
    let e : Enclosure = enclosure_of c.args.enclosing.now in
    let fs : List NarrowFrame = c.deref-frame-items.result.now in
    let k : ℕ = c.loop-frame.frame-index in
    let f : NarrowFrame = get_or fs k no_frame in
    let whole : Option ℕ → Row = λ key. plus (key_row c.args.table.now key) (calls_row e (stretch_calls c.args.calls.now) key) in
    let lacks = lacks_at (key_row c.loop-frame.table) e fs k no_frame whole c.loop-frame-test.true
    (subst (λ (l : List NarrowFrame). Lacks (key_row c.loop-frame.table) e (calls_of (drop k l)) whole) (sym c.deref-frame-items.ensures.value) c.loop-frame.invariant) in
    let is = row_inside e f (narrow_row c.within-in-loop-frame.result) c.within-in-loop-frame.ensures in
    subst (λ (l : List NarrowFrame). Lacks (key_row c.add.new.self) e (calls_of (drop (k + 1) l)) whole) c.deref-frame-items.ensures.value
    (lacks_row_added (key_row c.loop-frame.table) (key_row c.add.new.self) e (call_of f) (calls_of (drop (k + 1) fs)) whole f.site (narrow_row c.within-in-loop-frame.result) refl is lacks
    (added_key c.loop-frame.table c.add.new.self f.site (narrow_row c.within-in-loop-frame.result) c.in_ok-add.ensures.added))

pub returns : goal.returns
returns c =
    let e : Enclosure = enclosure_of c.args.enclosing.now in
    let whole : Option ℕ → Row = λ key. plus (key_row c.args.table.now key) (calls_row e (stretch_calls c.args.calls.now) key) in
    lacks_none (key_row c.loop-frame.table) e c.args.calls.now.frames.items c.loop-frame.frame-index whole
    (subst (λ (l : List NarrowFrame). length l ≤ c.loop-frame.frame-index) c.deref-frame-items.ensures.value c.loop-frame-test.false) c.loop-frame.invariant
