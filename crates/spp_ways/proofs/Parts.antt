-- What the ways into open frames have of the rows of the path, and what one event adds to that.
use Rattle.std.proofs.Common.{◌≡◌, ℕ, ◌+◌, Bool, true, false, cond, not, ◌&&◌, refl, arith, sym, ◌∙◌, ap, List, [], ◌∷◌, ◌++◌, Option}
use Rattle.std.proofs.lemmas.Bool.{both_ways}
use Rattle.spp_dag.specs.declared.row.Row.{Row}
use Rattle.spp_dag.specs.declared.stack.FrameKind.TheVariants.{Called, Spawned}
use Rattle.spp_dag.specs.Shares.{plus, zero_row}
use Rattle.spp_dag.specs.Steps.{same_key, strand_row}
use Rattle.spp_dag.proofs.Shares.{same_rows}
use Rattle.spp_site.proofs.Rows.{plus-zero, zero-plus, plus-assoc}
use Rattle.spp_ways.specs.Ways.{Leaf, Way, Ways, rows_at, no_ways, strand_ways, way_on, waited_ways, closed_rows, way_through, returned_ways}

plus-turn : (a b : Row) → plus a b ≡ plus b a
plus-turn a b = same_rows _ _ (omega arith) (omega arith) (omega arith) (omega arith) (omega arith) (omega arith) (omega arith) (omega arith)

pub rows_at-append : (xs ys : List Leaf) (key : Option ℕ) → rows_at (xs ++ ys) key ≡ plus (rows_at xs key) (rows_at ys key)
rows_at-append [] ys key = sym (zero-plus (rows_at ys key))
rows_at-append (x ∷ xs) ys key =
    let r : Row = cond (same_key x.key key) x.row zero_row in
    ap (λ q. plus r q) (rows_at-append xs ys key) ∙ sym (plus-assoc r (rows_at xs key) (rows_at ys key))

-- the strands of a way
abbrev pub own_strands : Option ℕ → Way → Option ℕ → Row
own_strands own w key = cond (same_key own key) (strand_row w.own) zero_row

-- what a way has in the row of a key, where its frame belongs to the row `own`
abbrev pub has : Option ℕ → Way → Option ℕ → Row
has own w key = plus (rows_at w.rows key) (own_strands own w key)

-- what an open frame's ways have, by whether the path enters the frame and goes through the child that waits in it
abbrev pub adds : Bool → Bool → Option ℕ → Ways → Option ℕ → Row
adds on through own w key = cond on (has own (way_on through w) key) zero_row

-- ---- a frame that is opened, a strand, a sync

pub none_added : (on : Bool) (own key : Option ℕ) → adds on false own no_ways key ≡ zero_row
none_added false own key = refl
none_added true own key = by (same_key own key)
  where
    by : (b : Bool) → plus zero_row (cond b (strand_row 0) zero_row) ≡ zero_row
    by true = zero-plus zero_row
    by false = zero-plus zero_row

strand_more : (b : Bool) (m n : ℕ) (r : Row) → plus r (cond b (strand_row (m + n)) zero_row) ≡ plus (plus r (cond b (strand_row m) zero_row)) (cond b (strand_row n) zero_row)
strand_more true m n r = same_rows _ _ (omega arith) (omega arith) (omega arith) (omega arith) (omega arith) (omega arith) (omega arith) (omega arith)
strand_more false m n r = sym (plus-zero (plus r zero_row))

-- the path passes a strand where it enters the frame and doesn't go through a child that waits
pub strand_added : (on through : Bool) (own key : Option ℕ) (n : ℕ) (w : Ways)
    → adds on through own (strand_ways n w) key ≡ plus (adds on through own w key) (cond ((on && not through) && same_key own key) (strand_row n) zero_row)
strand_added false through own key n w = sym (plus-zero zero_row)
strand_added true true own key n w = sym (plus-zero (has own w.through key))
strand_added true false own key n w = strand_more (same_key own key) w.along.own n (rows_at w.along.rows key)

pub sync_added : (on through takes : Bool) (own key : Option ℕ) (w : Ways) → (on ≡ true → takes ≡ through) → adds on false own (waited_ways takes w) key ≡ adds on through own w key
sync_added false through takes own key w same = refl
sync_added true through takes own key w same = ap (λ b. has own (way_on b w) key) (same refl)

-- ---- a frame that closes

closed_more : (b : Bool) (n : ℕ) (q r : Row) → plus q (plus (cond b (plus (strand_row n) r) zero_row) zero_row) ≡ plus (plus q (cond b (strand_row n) zero_row)) (cond b r zero_row)
closed_more true n q r = ap (λ x. plus q x) (plus-zero (plus (strand_row n) r)) ∙ sym (plus-assoc q (strand_row n) r)
closed_more false n q r = sym (plus-assoc q zero_row zero_row)

-- its way, with its row
pub closed_has : (own key : Option ℕ) (r : Row) (w : Way) → rows_at (closed_rows own r w) key ≡ plus (has own w key) (cond (same_key own key) r zero_row)
closed_has own key r w =
    rows_at-append w.rows (record { key = own; row = plus (strand_row w.own) r } ∷ []) key
    ∙ closed_more (same_key own key) w.own (rows_at w.rows key) r

-- where the path enters it, the rows of its way are in its parent's way
pub closed_added : (on through takes : Bool) (own key : Option ℕ) (r : Row) (w : Ways) → (on ≡ true → takes ≡ through)
    → plus (adds on through own w key) (cond (on && same_key own key) r zero_row) ≡ cond on (rows_at (closed_rows own r (way_on takes w)) key) zero_row
closed_added false through takes own key r w same = plus-zero zero_row
closed_added true through takes own key r w same =
    ap (λ b. plus (has own (way_on b w) key) (cond (same_key own key) r zero_row)) (sym (same refl)) ∙ sym (closed_has own key r (way_on takes w))

through_has : (own key : Option ℕ) (rows : List Leaf) (w : Way) → plus (rows_at rows key) (has own w key) ≡ has own (way_through rows w) key
through_has own key rows w =
    sym (plus-assoc (rows_at rows key) (rows_at w.rows key) (own_strands own w key))
    ∙ ap (λ x. plus x (own_strands own w key)) (plus-turn (rows_at rows key) (rows_at w.rows key) ∙ sym (rows_at-append w.rows rows key))

-- a called frame has returned: the path enters it where it enters its caller and doesn't go through a child there
pub called_added : (on through : Bool) (own key : Option ℕ) (rows : List Leaf) (wins : Bool) (v : Ways)
    → plus (cond (on && not through) (rows_at rows key) zero_row) (adds on through own v key) ≡ adds on through own (returned_ways Called wins rows v) key
called_added false through own key rows wins v = zero-plus zero_row
called_added true true own key rows wins v = zero-plus (has own v.through key)
called_added true false own key rows wins v = through_has own key rows v.along

-- a spawned frame has returned that the path enters
pub entered_added : (own key : Option ℕ) (rows : List Leaf) (v : Ways) → plus (rows_at rows key) (adds true false own v key) ≡ adds true true own (returned_ways Spawned true rows v) key
entered_added own key rows v = through_has own key rows v.along

-- one that it doesn't enter: it goes on as before
pub other_added : (on through wins : Bool) (own key : Option ℕ) (rows : List Leaf) (v : Ways) → (through ≡ true → wins ≡ false)
    → plus zero_row (adds on through own v key) ≡ adds on (cond wins false through) own (returned_ways Spawned wins rows v) key
other_added false through wins own key rows v h = zero-plus zero_row
other_added true true true own key rows v h = absurd (both_ways true (h refl) refl)
other_added true true false own key rows v h = zero-plus (has own v.through key)
other_added true false true own key rows v h = zero-plus (has own v.along key)
other_added true false false own key rows v h = zero-plus (has own v.along key)
