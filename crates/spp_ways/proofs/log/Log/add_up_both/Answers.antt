use Rattle.std.proofs.Common.{◌≡◌, ℕ, suc, ◌-◌, ◌≤◌, ◌<◌, Bool, true, false, List, [], ◌∷◌, ◌++◌, length, reverse, get_or, Option, sym, ap, ap₂, subst, ◌∙◌, arith}
use Rattle.spp_dag.specs.declared.row.Row.{Row}
use Rattle.spp_dag.specs.Shares.{plus}
use Rattle.spp_site.specs.Rows.{Fits}
use Rattle.spp_site.proofs.Keys.{row_fits}
use Rattle.spp_site.proofs.Rows.{plus-assoc}
use Rattle.spp_ways.specs.declared.log.LogRow.{LogRow}
use Rattle.spp_ways.specs.declared.both_ways.BothWays.{BothWays}
use Rattle.spp_ways.specs.PathSums.{last_of, sums_on, ended_row, left_before, left_within, put_ways}
use Rattle.spp_ways.proofs.Summing.{all_rows, AllIn}
use Rattle.spp_ways.proofs.Pairs.{ways_on, turns, AllSome, pair_in, pair_some, first_in, first_some, first_rows, next, next_in, next_some, next_fewer, next_sums}
use Rattle.spp_ways.proofs.log.Log.add_up_both.Goals as goal

pub loop-both-init : goal.loop-both-init
loop-both-init c =
    let items : List LogRow = c.args.self.now.rows.items in
    let log : List LogRow = reverse items in
    let w : BothWays = c.args.ways in
    let put : c.put.new.left.items ≡ put_ways [] w = c.in_ok-put.ensures ∙ ap (λ (l : List BothWays). put_ways l w) c.requires.empty in
    record {
      within = λ on. subst (λ (l : List BothWays). AllIn (length items) (ways_on on l)) (sym put) (first_in (length items) on w (c.requires.ways on));
      some = subst AllSome (sym put) (first_some w);
      sums = λ (on : Bool) (key : Option ℕ).
          ap (plus (sums_on on c.args.sums.now key)) (ap (λ (l : List BothWays). all_rows on log (ways_on on l) key) put ∙ first_rows on log w key);
    }

pub overflow_sub-last : goal.overflow_sub-last
overflow_sub-last c =
    let items : List LogRow = c.args.self.now.rows.items in
    let log : List LogRow = reverse items in
    let ws : List BothWays = c.pop.new.self.items in
    let w : BothWays = c.in-Some.both in
    let popped : c.loop-both.left.items ≡ ws ++ (w ∷ []) = c.in-Some.ensures.items in
    let is_in = λ (on : Bool). pair_in (length items) on ws w (subst (λ (l : List BothWays). AllIn (length items) (ways_on on l)) popped (c.loop-both.invariant.within on)) in
    let some = pair_some ws w (subst AllSome popped c.loop-both.invariant.some) in
    (let z : 0 < last_of w = some.1 in let y : c.last-last.result ≡ last_of w = c.last-last.ensures in omega arith)

pub index-row-requires : goal.index-row-requires
index-row-requires c =
    let items : List LogRow = c.args.self.now.rows.items in
    let log : List LogRow = reverse items in
    let ws : List BothWays = c.pop.new.self.items in
    let w : BothWays = c.in-Some.both in
    let popped : c.loop-both.left.items ≡ ws ++ (w ∷ []) = c.in-Some.ensures.items in
    let is_in = λ (on : Bool). pair_in (length items) on ws w (subst (λ (l : List BothWays). AllIn (length items) (ways_on on l)) popped (c.loop-both.invariant.within on)) in
    let some = pair_some ws w (subst AllSome popped c.loop-both.invariant.some) in
    let k : ℕ = c.last-last.result in
    let j : ℕ = k - 1 in
    let last : last_of w ≡ suc j = (let z : 0 < last_of w = some.1 in let y : k ≡ last_of w = c.last-last.ensures in omega arith) in
    let lt : j < length items = (let p : w.plain ≤ length items = (is_in false).1 in let b : w.burdened ≤ length items = (is_in true).1 in omega arith) in
    omega (arith, c.args.self.now.rows.ok.0)

pub add-requires : goal.add-requires
add-requires c on key =
    let items : List LogRow = c.args.self.now.rows.items in
    let log : List LogRow = reverse items in
    let ws : List BothWays = c.pop.new.self.items in
    let w : BothWays = c.in-Some.both in
    let popped : c.loop-both.left.items ≡ ws ++ (w ∷ []) = c.in-Some.ensures.items in
    let is_in = λ (on : Bool). pair_in (length items) on ws w (subst (λ (l : List BothWays). AllIn (length items) (ways_on on l)) popped (c.loop-both.invariant.within on)) in
    let some = pair_some ws w (subst AllSome popped c.loop-both.invariant.some) in
    let k : ℕ = c.last-last.result in
    let j : ℕ = k - 1 in
    let last : last_of w ≡ suc j = (let z : 0 < last_of w = some.1 in let y : k ≡ last_of w = c.last-last.ensures in omega arith) in
    let lt : j < length items = (let p : w.plain ≤ length items = (is_in false).1 in let b : w.burdened ≤ length items = (is_in true).1 in omega arith) in
    let d : LogRow = c.index-row.result.now in
    let row : LogRow = get_or items j d in
    let is_row : d ≡ row = c.index-row.ensures in
    let sums = λ (on : Bool) (key : Option ℕ).
    ap (plus (sums_on on c.loop-both.sums key)) (sym (next_sums items c.requires.linked ws d w j last lt on key) ∙ ap (λ (l : List BothWays). all_rows on log (ways_on on l) key) (sym popped))
    ∙ c.loop-both.invariant.sums on key in
    let after = λ (on : Bool) (key : Option ℕ). let x : Row = all_rows on log (ways_on on (next items c.requires.linked ws d w j last lt)) key in x in
    subst (λ (r : LogRow). Fits (plus (sums_on on c.loop-both.sums key) (ended_row on r w key))) (sym is_row)
    (row_fits (plus (sums_on on c.loop-both.sums key) (ended_row on row w key)) (after on key) _
    (plus-assoc (sums_on on c.loop-both.sums key) (ended_row on row w key) (after on key) ∙ sums on key) (c.requires.fits on key))

pub loop-both-smaller : goal.loop-both-smaller
loop-both-smaller c =
    let items : List LogRow = c.args.self.now.rows.items in
    let log : List LogRow = reverse items in
    let ws : List BothWays = c.pop.new.self.items in
    let w : BothWays = c.in-Some.both in
    let popped : c.loop-both.left.items ≡ ws ++ (w ∷ []) = c.in-Some.ensures.items in
    let is_in = λ (on : Bool). pair_in (length items) on ws w (subst (λ (l : List BothWays). AllIn (length items) (ways_on on l)) popped (c.loop-both.invariant.within on)) in
    let some = pair_some ws w (subst AllSome popped c.loop-both.invariant.some) in
    let k : ℕ = c.last-last.result in
    let j : ℕ = k - 1 in
    let last : last_of w ≡ suc j = (let z : 0 < last_of w = some.1 in let y : k ≡ last_of w = c.last-last.ensures in omega arith) in
    let lt : j < length items = (let p : w.plain ≤ length items = (is_in false).1 in let b : w.burdened ≤ length items = (is_in true).1 in omega arith) in
    let d : LogRow = c.index-row.result.now in
    let row : LogRow = get_or items j d in
    let is_row : d ≡ row = c.index-row.ensures in
    let sums = λ (on : Bool) (key : Option ℕ).
    ap (plus (sums_on on c.loop-both.sums key)) (sym (next_sums items c.requires.linked ws d w j last lt on key) ∙ ap (λ (l : List BothWays). all_rows on log (ways_on on l) key) (sym popped))
    ∙ c.loop-both.invariant.sums on key in
    let after = λ (on : Bool) (key : Option ℕ). let x : Row = all_rows on log (ways_on on (next items c.requires.linked ws d w j last lt)) key in x in
    let put : c.put-in-Some-2.new.left.items ≡ next items c.requires.linked ws d w j last lt =
    c.in_ok-put-3.ensures
    ∙ ap₂ put_ways (c.in_ok-put-2.ensures ∙ ap (put_ways ws) (c.left_before.ensures ∙ ap (λ (r : LogRow). left_before r w) is_row))
    (c.left_within.ensures ∙ ap (λ (r : LogRow). left_within r w) is_row) in
    subst (λ (l : List BothWays). turns log c.put-in-Some-2.new.left.items < turns log l) (sym popped)
    (subst (λ (l : List BothWays). turns log l < turns log (ws ++ (w ∷ []))) (sym put) (next_fewer items c.requires.linked ws d w j last lt))

pub loop-both-preserved : goal.loop-both-preserved
loop-both-preserved c =
    let items : List LogRow = c.args.self.now.rows.items in
    let log : List LogRow = reverse items in
    let ws : List BothWays = c.pop.new.self.items in
    let w : BothWays = c.in-Some.both in
    let popped : c.loop-both.left.items ≡ ws ++ (w ∷ []) = c.in-Some.ensures.items in
    let is_in = λ (on : Bool). pair_in (length items) on ws w (subst (λ (l : List BothWays). AllIn (length items) (ways_on on l)) popped (c.loop-both.invariant.within on)) in
    let some = pair_some ws w (subst AllSome popped c.loop-both.invariant.some) in
    let k : ℕ = c.last-last.result in
    let j : ℕ = k - 1 in
    let last : last_of w ≡ suc j = (let z : 0 < last_of w = some.1 in let y : k ≡ last_of w = c.last-last.ensures in omega arith) in
    let lt : j < length items = (let p : w.plain ≤ length items = (is_in false).1 in let b : w.burdened ≤ length items = (is_in true).1 in omega arith) in
    let d : LogRow = c.index-row.result.now in
    let row : LogRow = get_or items j d in
    let is_row : d ≡ row = c.index-row.ensures in
    let sums = λ (on : Bool) (key : Option ℕ).
    ap (plus (sums_on on c.loop-both.sums key)) (sym (next_sums items c.requires.linked ws d w j last lt on key) ∙ ap (λ (l : List BothWays). all_rows on log (ways_on on l) key) (sym popped))
    ∙ c.loop-both.invariant.sums on key in
    let after = λ (on : Bool) (key : Option ℕ). let x : Row = all_rows on log (ways_on on (next items c.requires.linked ws d w j last lt)) key in x in
    let put : c.put-in-Some-2.new.left.items ≡ next items c.requires.linked ws d w j last lt =
    c.in_ok-put-3.ensures
    ∙ ap₂ put_ways (c.in_ok-put-2.ensures ∙ ap (put_ways ws) (c.left_before.ensures ∙ ap (λ (r : LogRow). left_before r w) is_row))
    (c.left_within.ensures ∙ ap (λ (r : LogRow). left_within r w) is_row) in
    record {
      within = λ on. subst (λ (l : List BothWays). AllIn (length items) (ways_on on l)) (sym put) (next_in items c.requires.linked ws d w j last lt on (is_in on).1 (is_in on).0);
      some = subst AllSome (sym put) (next_some items c.requires.linked ws d w j last lt some.0);
      sums = λ (on : Bool) (key : Option ℕ).
          ap₂ plus (c.in_ok-add.ensures on key ∙ ap (λ (r : LogRow). plus (sums_on on c.loop-both.sums key) (ended_row on r w key)) is_row)
          (ap (λ (l : List BothWays). all_rows on log (ways_on on l) key) put)
          ∙ plus-assoc (sums_on on c.loop-both.sums key) (ended_row on row w key) (after on key)
          ∙ sums on key;
    }
