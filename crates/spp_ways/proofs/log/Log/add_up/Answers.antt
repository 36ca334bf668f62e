use Rattle.std.proofs.Common.{◌≡◌, ℕ, suc, ◌+◌, ◌*◌, ◌-◌, ◌≤◌, ◌<◌, Bool, List, [], ◌∷◌, ◌++◌, length, reverse, get_or, Option, sym, ap, ap₂, subst, ◌∙◌, arith}
use Rattle.std.proofs.lemmas.List.{length-append}
use Rattle.spp_dag.specs.declared.row.Row.{Row}
use Rattle.spp_dag.specs.Shares.{plus}
use Rattle.spp_site.specs.Rows.{Fits}
use Rattle.spp_site.specs.Profiles.{key_row}
use Rattle.spp_site.proofs.Keys.{row_fits}
use Rattle.spp_site.proofs.Rows.{plus-zero, plus-assoc}
use Rattle.spp_ways.specs.declared.log.LogRow.{LogRow}
use Rattle.spp_ways.specs.Logs.{way_row, row_on, before_on, within_on}
use Rattle.spp_ways.proofs.Staying.{rows_none}
use Rattle.spp_ways.proofs.Summing.{all_rows, all_count, AllIn, all_rows-append, count-append, in-append, next, next_in, next_fewer, next_sums}
use Rattle.spp_ways.proofs.log.Log.add_up.Goals as goal

pub loop-count-smaller-then-count-eq0 : goal.loop-count-smaller-then-count-eq0
loop-count-smaller-then-count-eq0 c =
    let on : Bool = c.args.burdened in
    let items : List LogRow = c.args.self.now.rows.items in
    let log : List LogRow = reverse items in
    let ks : List ℕ = c.pop.new.self.items in
    let k : ℕ = c.in-Some.count in
    let popped : c.loop-count.left.items ≡ ks ++ (k ∷ []) = c.in-Some.ensures.items in
    let is_in = in-append (length items) ks k (subst (AllIn (length items)) popped c.loop-count.invariant.within) in
    let none : k ≡ 0 = c.if-count-eq0.true in
    let a = length-append ks (k ∷ []) in
    let b = count-append on log ks k in
    let p : length c.loop-count.left.items ≡ length (ks ++ (k ∷ [])) = ap (λ (l : List ℕ). length l) popped in
    let q : all_count on log c.loop-count.left.items ≡ all_count on log (ks ++ (k ∷ [])) = ap (λ (l : List ℕ). all_count on log l) popped in
    let z : 2 * all_count on log ks + length ks < 2 * all_count on log c.loop-count.left.items + length c.loop-count.left.items = omega arith in
    z

pub loop-count-preserved-then-count-eq0 : goal.loop-count-preserved-then-count-eq0
loop-count-preserved-then-count-eq0 c =
    let on : Bool = c.args.burdened in
    let items : List LogRow = c.args.self.now.rows.items in
    let log : List LogRow = reverse items in
    let ks : List ℕ = c.pop.new.self.items in
    let k : ℕ = c.in-Some.count in
    let popped : c.loop-count.left.items ≡ ks ++ (k ∷ []) = c.in-Some.ensures.items in
    let is_in = in-append (length items) ks k (subst (AllIn (length items)) popped c.loop-count.invariant.within) in
    let none : k ≡ 0 = c.if-count-eq0.true in
    record {
      within = is_in.0;
      sums = λ (key : Option ℕ).
          ap (plus (key_row c.loop-count.sums key))
          (sym (ap (λ (l : List ℕ). all_rows on log l key) popped ∙ all_rows-append on log ks k key
          ∙ ap (plus (all_rows on log ks key)) (ap (λ (n : ℕ). way_row on log n key) none ∙ rows_none on log key)
          ∙ plus-zero (all_rows on log ks key)))
          ∙ c.loop-count.invariant.sums key;
    }

pub index-row-requires : goal.index-row-requires
index-row-requires c =
    let on : Bool = c.args.burdened in
    let items : List LogRow = c.args.self.now.rows.items in
    let log : List LogRow = reverse items in
    let ks : List ℕ = c.pop.new.self.items in
    let k : ℕ = c.in-Some.count in
    let popped : c.loop-count.left.items ≡ ks ++ (k ∷ []) = c.in-Some.ensures.items in
    let is_in = in-append (length items) ks k (subst (AllIn (length items)) popped c.loop-count.invariant.within) in
    let more : k ≡ suc (k - 1) = (let z = c.if-count-eq0.false in omega arith) in
    let j : ℕ = k - 1 in
    let lt : j < length items = (let z : k ≤ length items = is_in.1 in omega arith) in
    omega (arith, c.args.self.now.rows.ok.0)

pub add_to-requires : goal.add_to-requires
add_to-requires c key =
    let on : Bool = c.args.burdened in
    let items : List LogRow = c.args.self.now.rows.items in
    let log : List LogRow = reverse items in
    let ks : List ℕ = c.pop.new.self.items in
    let k : ℕ = c.in-Some.count in
    let popped : c.loop-count.left.items ≡ ks ++ (k ∷ []) = c.in-Some.ensures.items in
    let is_in = in-append (length items) ks k (subst (AllIn (length items)) popped c.loop-count.invariant.within) in
    let more : k ≡ suc (k - 1) = (let z = c.if-count-eq0.false in omega arith) in
    let j : ℕ = k - 1 in
    let lt : j < length items = (let z : k ≤ length items = is_in.1 in omega arith) in
    let d : LogRow = c.index-row.result.now in
    let row : LogRow = get_or items j d in
    let is_row : d ≡ row = c.index-row.ensures in
    let old : c.loop-count.left.items ≡ ks ++ (suc j ∷ []) = popped ∙ ap (λ (n : ℕ). ks ++ (n ∷ [])) more in
    let sums = λ (key : Option ℕ).
    ap (plus (key_row c.loop-count.sums key)) (sym (next_sums on items c.requires.linked ks d j lt key) ∙ ap (λ (l : List ℕ). all_rows on log l key) (sym old)) ∙ c.loop-count.invariant.sums key in
    let after = λ (key : Option ℕ). let x : Row = all_rows on log (next on items c.requires.linked ks d j lt) key in x in
    subst (λ (r : LogRow). Fits (plus (key_row c.loop-count.sums key) (row_on on r key))) (sym is_row)
    (row_fits (plus (key_row c.loop-count.sums key) (row_on on row key)) (after key) _
    (plus-assoc (key_row c.loop-count.sums key) (row_on on row key) (after key) ∙ sums key) (c.requires.fits key))

pub loop-count-smaller : goal.loop-count-smaller
loop-count-smaller c =
    let on : Bool = c.args.burdened in
    let items : List LogRow = c.args.self.now.rows.items in
    let log : List LogRow = reverse items in
    let ks : List ℕ = c.pop.new.self.items in
    let k : ℕ = c.in-Some.count in
    let popped : c.loop-count.left.items ≡ ks ++ (k ∷ []) = c.in-Some.ensures.items in
    let is_in = in-append (length items) ks k (subst (AllIn (length items)) popped c.loop-count.invariant.within) in
    let more : k ≡ suc (k - 1) = (let z = c.if-count-eq0.false in omega arith) in
    let j : ℕ = k - 1 in
    let lt : j < length items = (let z : k ≤ length items = is_in.1 in omega arith) in
    let d : LogRow = c.index-row.result.now in
    let row : LogRow = get_or items j d in
    let is_row : d ≡ row = c.index-row.ensures in
    let old : c.loop-count.left.items ≡ ks ++ (suc j ∷ []) = popped ∙ ap (λ (n : ℕ). ks ++ (n ∷ [])) more in
    let sums = λ (key : Option ℕ).
    ap (plus (key_row c.loop-count.sums key)) (sym (next_sums on items c.requires.linked ks d j lt key) ∙ ap (λ (l : List ℕ). all_rows on log l key) (sym old)) ∙ c.loop-count.invariant.sums key in
    let after = λ (key : Option ℕ). let x : Row = all_rows on log (next on items c.requires.linked ks d j lt) key in x in
    let pushed : c.push-in-Some-2.new.self.items ≡ next on items c.requires.linked ks d j lt =
    c.in_ok-push-3.ensures.items
    ∙ ap₂ (λ (l : List ℕ) (n : ℕ). l ++ (n ∷ [])) (c.in_ok-push-2.ensures.items ∙ ap (λ (n : ℕ). ks ++ (n ∷ [])) (c.before-in-Some.ensures ∙ ap (before_on on) is_row)) (c.within.ensures ∙ ap (within_on on) is_row) in
    let f = next_fewer on items c.requires.linked ks d j lt in
    subst (λ (l : List ℕ). 2 * all_count on log c.push-in-Some-2.new.self.items + length c.push-in-Some-2.new.self.items < 2 * all_count on log l + length l) (sym old)
    (subst (λ (l : List ℕ). 2 * all_count on log l + length l < 2 * all_count on log (ks ++ (suc j ∷ [])) + length (ks ++ (suc j ∷ []))) (sym pushed) f)

pub loop-count-preserved : goal.loop-count-preserved
loop-count-preserved c =
    let on : Bool = c.args.burdened in
    let items : List LogRow = c.args.self.now.rows.items in
    let log : List LogRow = reverse items in
    let ks : List ℕ = c.pop.new.self.items in
    let k : ℕ = c.in-Some.count in
    let popped : c.loop-count.left.items ≡ ks ++ (k ∷ []) = c.in-Some.ensures.items in
    let is_in = in-append (length items) ks k (subst (AllIn (length items)) popped c.loop-count.invariant.within) in
    let more : k ≡ suc (k - 1) = (let z = c.if-count-eq0.false in omega arith) in
    let j : ℕ = k - 1 in
    let lt : j < length items = (let z : k ≤ length items = is_in.1 in omega arith) in
    let d : LogRow = c.index-row.result.now in
    let row : LogRow = get_or items j d in
    let is_row : d ≡ row = c.index-row.ensures in
    let old : c.loop-count.left.items ≡ ks ++ (suc j ∷ []) = popped ∙ ap (λ (n : ℕ). ks ++ (n ∷ [])) more in
    let sums = λ (key : Option ℕ).
    ap (plus (key_row c.loop-count.sums key)) (sym (next_sums on items c.requires.linked ks d j lt key) ∙ ap (λ (l : List ℕ). all_rows on log l key) (sym old)) ∙ c.loop-count.invariant.sums key in
    let after = λ (key : Option ℕ). let x : Row = all_rows on log (next on items c.requires.linked ks d j lt) key in x in
    let pushed : c.push-in-Some-2.new.self.items ≡ next on items c.requires.linked ks d j lt =
    c.in_ok-push-3.ensures.items
    ∙ ap₂ (λ (l : List ℕ) (n : ℕ). l ++ (n ∷ [])) (c.in_ok-push-2.ensures.items ∙ ap (λ (n : ℕ). ks ++ (n ∷ [])) (c.before-in-Some.ensures ∙ ap (before_on on) is_row)) (c.within.ensures ∙ ap (within_on on) is_row) in
    record {
      within = subst (AllIn (length items)) (sym pushed) (next_in on items c.requires.linked ks d j lt is_in.0);
      sums = λ (key : Option ℕ).
          ap₂ plus (c.in_ok-add_to.ensures key ∙ ap (λ (r : LogRow). plus (key_row c.loop-count.sums key) (row_on on r key)) is_row) (ap (λ (l : List ℕ). all_rows on log l key) pushed)
          ∙ plus-assoc (key_row c.loop-count.sums key) (row_on on row key) (after key)
          ∙ sums key;
    }
