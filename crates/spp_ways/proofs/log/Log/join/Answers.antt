use Rattle.std.proofs.Common.{◌≡◌, ℕ, ◌+◌, ◌-◌, ◌≤◌, ◌<◌, List, [], ◌∷◌, ◌++◌, length, map, take, drop, get_or, sym, ap, ap₂, ◌∙◌, append_assoc, arith}
use Rattle.std.proofs.lemmas.List.{length-drop, get_or-drop, map_more, take_all}
use Rattle.spp_ways.specs.declared.log.LogRow.{LogRow}
use Rattle.spp_ways.specs.Enclosures.{enclosure_of}
use Rattle.spp_ways.specs.Stretches.{joined_row}
use Rattle.spp_ways.proofs.log.Log.join.Goals as goal

pub loop-k-preserved : goal.loop-k-preserved
loop-k-preserved c =
    let items : List LogRow = c.args.stretch.now.rows.items in
    let old : List LogRow = c.args.self.now.rows.items in
    let x : LogRow = c.index.result.now in
    let k : ℕ = c.loop-k.k in
    let f = λ (r : LogRow). joined_row c.args.links (enclosure_of c.args.enclosing.now) r in
    let lower : 1 ≤ k = c.loop-k.auto.k in
    let lt : k < length items = omega (arith, c.len-k-end.ensures, c.loop-k-test.true, c.args.stretch.now.rows.ok.0) in
    let back : 1 + (k - 1) ≡ k = omega arith in
    let in_rest : k - 1 < length (drop 1 items) = omega (arith, length-drop 1 items) in
    let at : x ≡ get_or (drop 1 items) (k - 1) x = c.index.ensures ∙ ap (λ (n : ℕ). get_or items n x) (sym back) ∙ sym (get_or-drop 1 items (k - 1) x) in
    let row : f x ≡ f (get_or (drop 1 items) (k - 1) x) = ap f at in
    let more : k - 1 + 1 ≡ k + 1 - 1 = omega arith in
    let so_far : List LogRow = map f (take (k - 1) (drop 1 items)) in
    let next : LogRow = f (get_or (drop 1 items) (k - 1) x) in
    let put : c.put_joined.new.self.rows.items ≡ (old ++ so_far) ++ (next ∷ []) = c.in_ok-put_joined.ensures ∙ ap₂ (λ (l : List LogRow) (r : LogRow). l ++ (r ∷ [])) c.loop-k.invariant row in
    let longer : so_far ++ (next ∷ []) ≡ map f (take (k + 1 - 1) (drop 1 items)) = sym (map_more f (drop 1 items) (k - 1) x in_rest) ∙ ap (λ (n : ℕ). map f (take n (drop 1 items))) more in
    put ∙ append_assoc old so_far (next ∷ []) ∙ ap (λ (l : List LogRow). old ++ l) longer

pub returns : goal.returns
returns c =
    let items : List LogRow = c.args.stretch.now.rows.items in
    let f = λ (r : LogRow). joined_row c.args.links (enclosure_of c.args.enclosing.now) r in
    let lt : length (drop 1 items) ≤ c.loop-k.k - 1 = omega (arith, length-drop 1 items, c.len-k-end.ensures, c.loop-k-test.false, c.args.stretch.now.rows.ok.0) in
    c.loop-k.invariant ∙ ap (λ (l : List LogRow). c.args.self.now.rows.items ++ map f l) (take_all (c.loop-k.k - 1) (drop 1 items) lt)
