use Rattle.std.proofs.Common.{◌≡◌, ℕ, suc, ◌+◌, ◌-◌, ◌≤◌, ◌<◌, Bool, true, false, List, length, reverse, get_or, Option, sym, ap, ap₂, subst, ◌∙◌, arith}
use Rattle.spp_dag.specs.declared.row.Row.{Row}
use Rattle.spp_dag.specs.Shares.{plus}
use Rattle.spp_site.specs.Rows.{Fits}
use Rattle.spp_site.proofs.Keys.{row_fits}
use Rattle.spp_site.proofs.Rows.{plus-zero, plus-assoc}
use Rattle.spp_ways.specs.declared.log.LogRow.{LogRow}
use Rattle.spp_ways.specs.declared.both_ways.BothWays.{BothWays}
use Rattle.spp_ways.specs.Logs.{row_in, rest_in}
use Rattle.spp_ways.specs.PathSums.{way_of, last_of, sums_on, ended_row, left_before, left_within, unless_at}
use Rattle.spp_ways.proofs.Pairs.{none_on}
use Rattle.spp_ways.proofs.Leading.{rest_none, unless_at_rest, unless_at_apart, unless_at_less, turned, turned_less, turned_in, turned_sums, within_less}
use Rattle.spp_ways.proofs.log.Log.add_up_rest.Goals as goal

pub loop-stops-init : goal.loop-stops-init
loop-stops-init c =
    let log : List LogRow = reverse c.args.self.now.rows.items in
    let stops : BothWays = c.args.stops in
    let ways : BothWays = c.args.ways in
    let at : c.unless_at-at.result ≡ unless_at stops ways = c.unless_at-at.ensures in
    record {
      within = λ on. subst (λ (w : BothWays). way_of on w ≤ length c.args.self.now.rows.items) (sym at) (let a = unless_at_less on stops ways in let b : way_of on ways ≤ length c.args.self.now.rows.items = c.requires.ways on in omega arith);
      apart = λ on. subst (λ (w : BothWays). way_of on w ≡ way_of on stops → way_of on w ≡ 0) (sym at) (unless_at_apart on stops ways);
      empty = c.new-left.ensures.items;
      sums = λ (on : Bool) (key : Option ℕ).
          ap (plus (sums_on on c.args.sums.now key)) (ap (λ (w : BothWays). rest_in on c.args.self.now (way_of on w) (way_of on stops) key) at ∙ unless_at_rest on log stops ways key);
    }

pub index-row-requires : goal.index-row-requires
index-row-requires c =
    let items : List LogRow = c.args.self.now.rows.items in
    let w : BothWays = c.loop-stops.at in
    let k : ℕ = c.last-in-loop-stops.result in
    let some : 0 < last_of w = (let z = c.loop-stops-test.true in let y : c.last.result ≡ last_of w = c.last.ensures in omega arith) in
    let y : k ≡ last_of w = c.last-in-loop-stops.ensures in
    let p : w.plain ≤ length items = c.loop-stops.invariant.within false in
    let b : w.burdened ≤ length items = c.loop-stops.invariant.within true in
    omega (arith, c.args.self.now.rows.ok.0)

pub add-requires : goal.add-requires
add-requires c on key =
    let items : List LogRow = c.args.self.now.rows.items in
    let stops : BothWays = c.args.stops in
    let w : BothWays = c.loop-stops.at in
    let k : ℕ = c.last-in-loop-stops.result in
    let some : 0 < last_of w = (let z = c.loop-stops-test.true in let y : c.last.result ≡ last_of w = c.last.ensures in omega arith) in
    let j : ℕ = k - 1 in
    let last : last_of w ≡ suc j = (let y : k ≡ last_of w = c.last-in-loop-stops.ensures in omega arith) in
    let lt : j < length items = (let p : w.plain ≤ length items = c.loop-stops.invariant.within false in let b : w.burdened ≤ length items = c.loop-stops.invariant.within true in omega arith) in
    let d : LogRow = c.index-row.result.now in
    let row : LogRow = get_or items j d in
    let is_row : d ≡ row = c.index-row.ensures in
    let old : Row = sums_on on c.loop-stops.sums key in
    let own : Row = ended_row on row w key in
    let more : Row = plus (row_in on c.args.self.now (way_of on (left_within row w)) key) (rest_in on c.args.self.now (way_of on (turned items c.requires.linked d w stops j last lt)) (way_of on stops) key) in
    let step : plus old (plus own more) ≡ plus (sums_on on c.args.sums.now key) (rest_in on c.args.self.now (way_of on c.args.ways) (way_of on stops) key) =
    ap (plus old) (sym (turned_sums items c.requires.linked d w stops j last lt on (c.loop-stops.invariant.apart on) key)) ∙ c.loop-stops.invariant.sums on key in
    subst (λ (r : LogRow). Fits (plus old (ended_row on r w key))) (sym is_row)
    (row_fits (plus old own) more _ (plus-assoc old own more ∙ step) (c.requires.fits on key))

pub add_up_both-requires-clause-ways : goal.add_up_both-requires-clause-ways
add_up_both-requires-clause-ways c on =
    let items : List LogRow = c.args.self.now.rows.items in
    let stops : BothWays = c.args.stops in
    let w : BothWays = c.loop-stops.at in
    let k : ℕ = c.last-in-loop-stops.result in
    let some : 0 < last_of w = (let z = c.loop-stops-test.true in let y : c.last.result ≡ last_of w = c.last.ensures in omega arith) in
    let j : ℕ = k - 1 in
    let last : last_of w ≡ suc j = (let y : k ≡ last_of w = c.last-in-loop-stops.ensures in omega arith) in
    let lt : j < length items = (let p : w.plain ≤ length items = c.loop-stops.invariant.within false in let b : w.burdened ≤ length items = c.loop-stops.invariant.within true in omega arith) in
    let d : LogRow = c.index-row.result.now in
    let inner : c.left_within.result ≡ left_within (get_or items j d) w = c.left_within.ensures ∙ ap (λ (r : LogRow). left_within r w) c.index-row.ensures in
    subst (λ (v : BothWays). way_of on v ≤ length items) (sym inner) (within_less items c.requires.linked d w stops j last lt on)

pub add_up_both-requires-clause-fits : goal.add_up_both-requires-clause-fits
add_up_both-requires-clause-fits c on key =
    let items : List LogRow = c.args.self.now.rows.items in
    let stops : BothWays = c.args.stops in
    let w : BothWays = c.loop-stops.at in
    let k : ℕ = c.last-in-loop-stops.result in
    let some : 0 < last_of w = (let z = c.loop-stops-test.true in let y : c.last.result ≡ last_of w = c.last.ensures in omega arith) in
    let j : ℕ = k - 1 in
    let last : last_of w ≡ suc j = (let y : k ≡ last_of w = c.last-in-loop-stops.ensures in omega arith) in
    let lt : j < length items = (let p : w.plain ≤ length items = c.loop-stops.invariant.within false in let b : w.burdened ≤ length items = c.loop-stops.invariant.within true in omega arith) in
    let d : LogRow = c.index-row.result.now in
    let row : LogRow = get_or items j d in
    let is_row : d ≡ row = c.index-row.ensures in
    let old : Row = sums_on on c.loop-stops.sums key in
    let own : Row = ended_row on row w key in
    let inner : c.left_within.result ≡ left_within row w = c.left_within.ensures ∙ ap (λ (r : LogRow). left_within r w) is_row in
    let x : Row = row_in on c.args.self.now (way_of on (left_within row w)) key in
    let y : Row = rest_in on c.args.self.now (way_of on (turned items c.requires.linked d w stops j last lt)) (way_of on stops) key in
    let step : plus old (plus own (plus x y)) ≡ plus (sums_on on c.args.sums.now key) (rest_in on c.args.self.now (way_of on c.args.ways) (way_of on stops) key) =
    ap (plus old) (sym (turned_sums items c.requires.linked d w stops j last lt on (c.loop-stops.invariant.apart on) key)) ∙ c.loop-stops.invariant.sums on key in
    let added : sums_on on c.add.new.self key ≡ plus old own = c.in_ok-add.ensures on key ∙ ap (λ (r : LogRow). plus old (ended_row on r w key)) is_row in
    let whole : plus (plus (plus old own) x) y ≡ plus (sums_on on c.args.sums.now key) (rest_in on c.args.self.now (way_of on c.args.ways) (way_of on stops) key) =
    plus-assoc (plus old own) x y ∙ plus-assoc old own (plus x y) ∙ step in
    let fits : Fits (plus (plus old own) x) = row_fits (plus (plus old own) x) y _ whole (c.requires.fits on key) in
    subst (λ (s : Row). Fits (plus s (row_in on c.args.self.now (way_of on c.left_within.result) key))) (sym added)
    (subst (λ (v : BothWays). Fits (plus (plus old own) (row_in on c.args.self.now (way_of on v) key))) (sym inner) fits)

pub loop-stops-smaller : goal.loop-stops-smaller
loop-stops-smaller c =
    let items : List LogRow = c.args.self.now.rows.items in
    let stops : BothWays = c.args.stops in
    let w : BothWays = c.loop-stops.at in
    let k : ℕ = c.last-in-loop-stops.result in
    let some : 0 < last_of w = (let z = c.loop-stops-test.true in let y : c.last.result ≡ last_of w = c.last.ensures in omega arith) in
    let j : ℕ = k - 1 in
    let last : last_of w ≡ suc j = (let y : k ≡ last_of w = c.last-in-loop-stops.ensures in omega arith) in
    let lt : j < length items = (let p : w.plain ≤ length items = c.loop-stops.invariant.within false in let b : w.burdened ≤ length items = c.loop-stops.invariant.within true in omega arith) in
    let d : LogRow = c.index-row.result.now in
    let is_row : d ≡ get_or items j d = c.index-row.ensures in
    let next : c.unless_at-at-in-loop-stops.result ≡ turned items c.requires.linked d w stops j last lt =
    c.unless_at-at-in-loop-stops.ensures ∙ ap (unless_at stops) (c.left_before.ensures ∙ ap (λ (r : LogRow). left_before r w) is_row) in
    subst (λ (v : BothWays). v.plain + v.burdened < w.plain + w.burdened) (sym next) (turned_less items c.requires.linked d w stops j last lt)

pub loop-stops-preserved : goal.loop-stops-preserved
loop-stops-preserved c =
    let items : List LogRow = c.args.self.now.rows.items in
    let stops : BothWays = c.args.stops in
    let w : BothWays = c.loop-stops.at in
    let k : ℕ = c.last-in-loop-stops.result in
    let some : 0 < last_of w = (let z = c.loop-stops-test.true in let y : c.last.result ≡ last_of w = c.last.ensures in omega arith) in
    let j : ℕ = k - 1 in
    let last : last_of w ≡ suc j = (let y : k ≡ last_of w = c.last-in-loop-stops.ensures in omega arith) in
    let lt : j < length items = (let p : w.plain ≤ length items = c.loop-stops.invariant.within false in let b : w.burdened ≤ length items = c.loop-stops.invariant.within true in omega arith) in
    let d : LogRow = c.index-row.result.now in
    let row : LogRow = get_or items j d in
    let is_row : d ≡ row = c.index-row.ensures in
    let next : c.unless_at-at-in-loop-stops.result ≡ turned items c.requires.linked d w stops j last lt =
    c.unless_at-at-in-loop-stops.ensures ∙ ap (unless_at stops) (c.left_before.ensures ∙ ap (λ (r : LogRow). left_before r w) is_row) in
    let inner : c.left_within.result ≡ left_within row w = c.left_within.ensures ∙ ap (λ (r : LogRow). left_within r w) is_row in
    record {
      within = λ on. subst (λ (v : BothWays). way_of on v ≤ length items) (sym next) (turned_in items c.requires.linked d w stops j last lt on (c.loop-stops.invariant.within on));
      apart = λ on. subst (λ (v : BothWays). way_of on v ≡ way_of on stops → way_of on v ≡ 0) (sym next) (unless_at_apart on stops (left_before row w));
      empty = c.in_ok-add_up_both.ensures.empty;
      sums = λ (on : Bool) (key : Option ℕ).
          let old : Row = sums_on on c.loop-stops.sums key in
          let own : Row = ended_row on row w key in
          let x : Row = row_in on c.args.self.now (way_of on (left_within row w)) key in
          let y : Row = rest_in on c.args.self.now (way_of on (turned items c.requires.linked d w stops j last lt)) (way_of on stops) key in
          let added : sums_on on c.add.new.self key ≡ plus old own = c.in_ok-add.ensures on key ∙ ap (λ (r : LogRow). plus old (ended_row on r w key)) is_row in
          let both : sums_on on c.add_up_both.new.sums key ≡ plus (plus old own) x =
          c.in_ok-add_up_both.ensures.sums on key ∙ ap₂ plus added (ap (λ (v : BothWays). row_in on c.args.self.now (way_of on v) key) inner) in
          let rest : rest_in on c.args.self.now (way_of on c.unless_at-at-in-loop-stops.result) (way_of on stops) key ≡ y = ap (λ (v : BothWays). rest_in on c.args.self.now (way_of on v) (way_of on stops) key) next in
          ap₂ plus both rest ∙ plus-assoc (plus old own) x y ∙ plus-assoc old own (plus x y)
          ∙ ap (plus old) (sym (turned_sums items c.requires.linked d w stops j last lt on (c.loop-stops.invariant.apart on) key)) ∙ c.loop-stops.invariant.sums on key;
    }

pub returns : goal.returns
returns c on key =
    let stops : BothWays = c.args.stops in
    let w : BothWays = c.loop-stops.at in
    let none : last_of w ≡ 0 = sym c.last.ensures ∙ c.loop-stops-test.false in
    let s : Row = sums_on on c.loop-stops.sums key in
    sym (plus-zero s)
    ∙ ap (plus s) (sym (ap (λ (n : ℕ). rest_in on c.args.self.now n (way_of on stops) key) (none_on w none on) ∙ rest_none on (reverse c.args.self.now.rows.items) (way_of on stops) key))
    ∙ c.loop-stops.invariant.sums on key
