use Rattle.std.proofs.Common.{◌+◌, ℕ, List, drop, get_or, Option, refl, sym, subst, arith}
use Rattle.spp_dag.specs.declared.row.Row.{Row}
use Rattle.spp_dag.specs.Shares.{plus}
use Rattle.spp_site.specs.Rows.{Fits}
use Rattle.spp_site.specs.Table.{row_at, IsAdded}
use Rattle.spp_site.specs.Profiles.{key_row}
use Rattle.spp_ways.specs.Enclosures.{Enclosure, enclosure_of}
use Rattle.spp_pass.specs.declared.calls.CallRow.{CallRow}
use Rattle.spp_pass.specs.CallRows.{calls_row, no_calls}
use Rattle.spp_pass.proofs.Joining.{rest_at, call_fits, call_added, rest_none}
use Rattle.spp_pass.proofs.calls.add_calls.Goals as goal

pub loop-call-init : goal.loop-call-init
loop-call-init c = λ key. refl

pub add-requires-clause-limit : goal.add-requires-clause-limit
add-requires-clause-limit c = c.requires.below c.loop-call.call-index c.loop-call-test.true

pub add-requires-clause-fits : goal.add-requires-clause-fits
add-requires-clause-fits c =
    let e : Enclosure = enclosure_of c.args.enclosing.now in
    let calls : List CallRow = c.args.calls.now in
    let k : ℕ = c.loop-call.call-index in
    let call : CallRow = get_or calls k no_calls in
    let whole : Option ℕ → Row = λ key. plus (key_row c.args.table.now key) (calls_row e calls key) in
    subst (λ (r : Row). Fits (plus (row_at c.loop-call.table call.site) r)) (sym c.within.ensures)
    (call_fits c.loop-call.table e call (drop (k + 1) calls) whole (rest_at c.loop-call.table e calls k no_calls whole c.loop-call-test.true c.loop-call.invariant) c.requires.fits)

pub loop-call-preserved : goal.loop-call-preserved
loop-call-preserved c =
    let e : Enclosure = enclosure_of c.args.enclosing.now in
    let calls : List CallRow = c.args.calls.now in
    let k : ℕ = c.loop-call.call-index in
    let call : CallRow = get_or calls k no_calls in
    let whole : Option ℕ → Row = λ key. plus (key_row c.args.table.now key) (calls_row e calls key) in
    call_added c.loop-call.table c.add.new.self e call (drop (k + 1) calls) whole (rest_at c.loop-call.table e calls k no_calls whole c.loop-call-test.true c.loop-call.invariant)
    (subst (IsAdded c.loop-call.table c.add.new.self call.site) c.within.ensures c.in_ok-add.ensures.added)

pub returns : goal.returns
returns c =
    let e : Enclosure = enclosure_of c.args.enclosing.now in
    rest_none c.loop-call.table e c.args.calls.now c.loop-call.call-index (λ key. plus (key_row c.args.table.now key) (calls_row e c.args.calls.now key)) (omega (arith, c.loop-call-test.false)) c.loop-call.invariant
