use Rattle.std.proofs.Common.{◌+◌, ◌≤◌, ℕ, List, length, drop, get_or, Option, refl, sym, subst}
use Rattle.spp_dag.specs.declared.row.Row.{Row}
use Rattle.spp_dag.specs.Shares.{plus}
use Rattle.spp_ways.specs.Enclosures.{Enclosure, enclosure_of}
use Rattle.spp_pass.specs.declared.calls.CallRow.{CallRow}
use Rattle.spp_pass.specs.declared.narrow_frame.NarrowFrame.{NarrowFrame}
use Rattle.spp_pass.specs.CallRows.{no_calls, calls_row, EachBelow}
use Rattle.spp_pass.specs.CallFrames.{call_of, calls_of, stretch_calls}
use Rattle.spp_site.specs.NarrowRows.{narrow_row}
use Rattle.spp_pass.specs.AsideRows.{aside_row}
use Rattle.spp_pass.proofs.CallFrames.{no_frame, Lacks, lacks_at, lacks_row_at, lacks_row_fits, lacks_row_added, lacks_row_none, lacks_none, row_inside, rows_fit, begun}
use Rattle.spp_pass.proofs.aside.RowsAside.put_stretch.Goals as goal

pub put_row-requires-clause-limit : goal.put_row-requires-clause-limit
put_row-requires-clause-limit c = subst (λ (l : List CallRow). EachBelow 65536 l) (sym c.deref-call-items.ensures.value) c.requires.below c.loop-call.call-index c.loop-call-test.true

pub put_row-requires-clause-fits : goal.put_row-requires-clause-fits
put_row-requires-clause-fits c =
    let e : Enclosure = enclosure_of c.args.enclosing.now in
    let cs : List CallRow = c.deref-call-items.result.now in
    let k : ℕ = c.loop-call.call-index in
    let one : CallRow = get_or cs k no_calls in
    let whole : Option ℕ → Row = λ key. plus (aside_row c.args.self.now key) (calls_row e c.args.calls.now.rows.items key) in
    let lacks = lacks_row_at (aside_row c.loop-call.self) e cs k no_calls whole c.loop-call-test.true
    (subst (λ (l : List CallRow). Lacks (aside_row c.loop-call.self) e (drop k l) whole) (sym c.deref-call-items.ensures.value) c.loop-call.invariant) in
    lacks_row_fits (aside_row c.loop-call.self) e one (drop (k + 1) cs) whole one.site c.within.result refl c.within.ensures lacks
    (λ key. rows_fit (aside_row c.args.self.now key) e (calls_of c.args.calls.now.frames.items) c.args.calls.now.rows.items key (c.requires.fits key))

pub loop-call-preserved : goal.loop-call-preserved
loop-call-preserved c =
    let e : Enclosure = enclosure_of c.args.enclosing.now in
    let cs : List CallRow = c.deref-call-items.result.now in
    let k : ℕ = c.loop-call.call-index in
    let one : CallRow = get_or cs k no_calls in
    let whole : Option ℕ → Row = λ key. plus (aside_row c.args.self.now key) (calls_row e c.args.calls.now.rows.items key) in
    let lacks = lacks_row_at (aside_row c.loop-call.self) e cs k no_calls whole c.loop-call-test.true
    (subst (λ (l : List CallRow). Lacks (aside_row c.loop-call.self) e (drop k l) whole) (sym c.deref-call-items.ensures.value) c.loop-call.invariant) in
    subst (λ (l : List CallRow). Lacks (aside_row c.put_row.new.self) e (drop (k + 1) l) whole) c.deref-call-items.ensures.value
    (lacks_row_added (aside_row c.loop-call.self) (aside_row c.put_row.new.self) e one (drop (k + 1) cs) whole one.site c.within.result refl c.within.ensures lacks c.in_ok-put_row.ensures.kept)

pub loop-frame-init : goal.loop-frame-init
loop-frame-init c =
    let e : Enclosure = enclosure_of c.args.enclosing.now in
    let rows : List CallRow = c.args.calls.now.rows.items in
    begun (aside_row c.args.self.now) (aside_row c.loop-call.self) e (calls_of c.args.calls.now.frames.items) rows
    (lacks_row_none (aside_row c.loop-call.self) e rows c.loop-call.call-index (λ key. plus (aside_row c.args.self.now key) (calls_row e rows key))
    (subst (λ (l : List CallRow). length l ≤ c.loop-call.call-index) c.deref-call-items.ensures.value c.loop-call-test.false) c.loop-call.invariant)

pub put-requires : goal.put-requires
put-requires c =
    let e : Enclosure = enclosure_of c.args.enclosing.now in
    let fs : List NarrowFrame = c.deref-frame-items.result.now in
    let k : ℕ = c.loop-frame.frame-index in
    let f : NarrowFrame = get_or fs k no_frame in
    let whole : Option ℕ → Row = λ key. plus (aside_row c.args.self.now key) (calls_row e (stretch_calls c.args.calls.now) key) in
    let lacks = lacks_at (aside_row c.loop-frame.self) e fs k no_frame whole c.loop-frame-test.true
    (subst (λ (l : List NarrowFrame). Lacks (aside_row c.loop-frame.self) e (calls_of (drop k l)) whole) (sym c.deref-frame-items.ensures.value) c.loop-frame.invariant) in
    let is = row_inside e f (narrow_row c.within-in-loop-frame.result) c.within-in-loop-frame.ensures in
    record { fits = lacks_row_fits (aside_row c.loop-frame.self) e (call_of f) (calls_of (drop (k + 1) fs)) whole f.site (narrow_row c.within-in-loop-frame.result) refl is lacks c.requires.fits }

pub loop-frame-preserved : goal.loop-frame-preserved
loop-frame-preserved c =
    let e : Enclosure = enclosure_of c.args.enclosing.now in
    let fs : List NarrowFrame = c.deref-frame-items.result.now in
    let k : ℕ = c.loop-frame.frame-index in
    let f : NarrowFrame = get_or fs k no_frame in
    let whole : Option ℕ → Row = λ key. plus (aside_row c.args.self.now key) (calls_row e (stretch_calls c.args.calls.now) key) in
    let lacks = lacks_at (aside_row c.loop-frame.self) e fs k no_frame whole c.loop-frame-test.true
    (subst (λ (l : List NarrowFrame). Lacks (aside_row c.loop-frame.self) e (calls_of (drop k l)) whole) (sym c.deref-frame-items.ensures.value) c.loop-frame.invariant) in
    let is = row_inside e f (narrow_row c.within-in-loop-frame.result) c.within-in-loop-frame.ensures in
    subst (λ (l : List NarrowFrame). Lacks (aside_row c.put.new.self) e (calls_of (drop (k + 1) l)) whole) c.deref-frame-items.ensures.value
    (lacks_row_added (aside_row c.loop-frame.self) (aside_row c.put.new.self) e (call_of f) (calls_of (drop (k + 1) fs)) whole f.site (narrow_row c.within-in-loop-frame.result) refl is lacks c.in_ok-put.ensures.kept)

pub returns : goal.returns
returns c =
    let e : Enclosure = enclosure_of c.args.enclosing.now in
    let whole : Option ℕ → Row = λ key. plus (aside_row c.args.self.now key) (calls_row e (stretch_calls c.args.calls.now) key) in
    lacks_none (aside_row c.loop-frame.self) e c.args.calls.now.frames.items c.loop-frame.frame-index whole
    (subst (λ (l : List NarrowFrame). length l ≤ c.loop-frame.frame-index) c.deref-frame-items.ensures.value c.loop-frame-test.false) c.loop-frame.invariant
