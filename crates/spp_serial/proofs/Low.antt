-- The sums of ways are within bounds, whatever the events are.
use Rattle.std.proofs.Common.{◌≡◌, ℕ, suc, ◌+◌, ◌-◌, ◌*◌, ◌≤◌, ◌<◌, ◌^◌, Bool, true, false, cond, List, [], ◌∷◌, Option, sym, ap, subst, ◌∙◌, arith}
use Rattle.spp_maxplus.specs.State.{close}
use Rattle.spp_dag.specs.declared.row.Row.{Row}
use Rattle.spp_dag.specs.declared.stack.EntryFrame.{EntryFrame}
use Rattle.spp_dag.specs.declared.stack.FrameKind.{FrameKind}
use Rattle.spp_dag.specs.declared.stack.FrameKind.TheVariants.{Root, Called, Spawned}
use Rattle.spp_dag.specs.Shares.{plus, zero_row}
use Rattle.spp_dag.specs.Steps.{same_key, strand_row, closed_row}
use Rattle.spp_site.proofs.Rows.{plus-zero}
use Rattle.spp_site.proofs.RowSums.{Low, low_zero, low_plus, low_fits}
use Rattle.spp_ways.specs.Ways.{Way, Ways, no_ways, rows_at, way_on, way_through, closed_rows, returned_ways}
use Rattle.spp_ways.specs.OpenWays.{FitStrand, FitTop, strand_list, waited_list}
use Rattle.spp_ways.proofs.Parts.{rows_at-append}

-- the rows of the way have the sums of n frames and of r instructions of strands, at most, and no more than o of its own
pub record LowWay (n r o : ℕ) (w : Way) : Type 0 where
  pub rows : (key : Option ℕ) → Low n r (rows_at w.rows key)
  pub own : w.own ≤ o

abbrev pub LowWays : ℕ → ℕ → ℕ → Ways → Type 0
LowWays n r o w = LowWay n r o w.along × LowWay n r o w.through

-- all ways together: of no more than i frames and t instructions
abbrev pub AreLow : ℕ → ℕ → List Ways → Type 0
AreLow i t [] = Unit {0}
AreLow i t (w ∷ ws) = (n : ℕ) × (r : ℕ) × (o : ℕ) × (j : ℕ) × (u : ℕ) × (n + j ≤ i) × (r + o + u ≤ t) × LowWays n r o w × AreLow j u ws

low_more : (n m r s : ℕ) (x : Row) → n ≤ m → r ≤ s → Low n r x → Low m s x
low_more n m r s x a b h = record {
  count = (let z = h.count in omega arith);
  local = (let z = h.local in omega arith);
  site_count = (let z = h.site_count in omega arith);
  site_work = (let z = h.site_work in omega arith);
  site_span = (let z = h.site_span in omega arith);
  caller_count = (let z = h.caller_count in omega arith);
  caller_work = (let z = h.caller_work in omega arith);
  caller_span = (let z = h.caller_span in omega arith);
}

pub are_more : (i k t v : ℕ) → i ≤ k → t ≤ v → (ws : List Ways) → AreLow i t ws → AreLow k v ws
are_more i k t v a b [] h = tt
are_more i k t v a b (w ∷ ws) h = (h.0, h.1, h.2, h.3, h.4, (let z = h.5 in omega arith), (let z = h.6 in omega arith), h.7, h.8)

nothing_low : (n r o : ℕ) → LowWay n r o (record { rows = []; own = 0 })
nothing_low n r o = record { rows = λ key. low_zero n r; own = omega arith }

pub none_low : (i t : ℕ) (ws : List Ways) → AreLow i t ws → AreLow i t (no_ways ∷ ws)
none_low i t ws h = (0, 0, 0, i, t, omega arith, omega arith, (nothing_low 0 0 0, nothing_low 0 0 0), h)

-- ---- a strand

own_more : (n r o more : ℕ) (w : Way) → LowWay n r o w → LowWay n r (o + more) w
own_more n r o more w h = record { rows = h.rows; own = (let z = h.own in omega arith) }

pub strand_low : (i t count : ℕ) (ws : List Ways) → AreLow i t ws → AreLow i (t + count) (strand_list count ws)
strand_low i t count [] h = tt
strand_low i t count (w ∷ ws) h = (
  h.0,
  h.1,
  h.2 + count,
  h.3,
  h.4,
  h.5,
  (let z = h.6 in omega arith),
  (record { rows = h.7.0.rows; own = (let z = h.7.0.own in omega arith) }, own_more h.0 h.1 h.2 count w.through h.7.1),
  h.8,
)

pub strand_fits : (i t count : ℕ) → t + count < 2 ^ 128 → (w : Ways) (ws : List Ways) → AreLow i t (w ∷ ws) → FitStrand count (w ∷ ws)
strand_fits i t count l w ws h = let z = h.6 in let o = h.7.0.own in omega arith

-- ---- a sync

on_low : (n r o : ℕ) (takes : Bool) (w : Ways) → LowWays n r o w → LowWay n r o (way_on takes w)
on_low n r o false w h = h.0
on_low n r o true w h = h.1

pub waited_low : (i t : ℕ) (takes : Bool) (ws : List Ways) → AreLow i t ws → AreLow i t (waited_list takes ws)
waited_low i t takes [] h = tt
waited_low i t takes (w ∷ ws) h = (h.0, h.1, h.2, h.3, h.4, h.5, h.6, (on_low h.0 h.1 h.2 takes w h.7, nothing_low h.0 h.1 h.2), h.8)

-- ---- a return

cond_le : (b : Bool) (n m : ℕ) → n ≤ m → 0 + cond b n 0 ≤ m
cond_le true n m h = omega arith
cond_le false n m h = omega arith

-- the row of a frame that closes, with its own strands
own_low : (own : ℕ) (b : Bool) (f : EntryFrame) (work : ℕ) → work ≤ 4951760157141521099596496896 → close f.state ≤ 4951760157141521099596496896
    → Low 1 own (cond b (plus (strand_row own) (closed_row f work)) zero_row)
own_low own false f work l c = low_zero 1 own
own_low own true f work l c =
    let p : work - f.before ≤ 4951760157141521099596496896 * 1 = omega arith in
    let q : close f.state ≤ 4951760157141521099596496896 * 1 = omega arith in
    record {
      count = omega arith;
      local = omega arith;
      site_count = cond_le f.top_site 1 1 (omega arith);
      site_work = cond_le f.top_site (work - f.before) _ p;
      site_span = cond_le f.top_site (close f.state) _ q;
      caller_count = cond_le f.top_caller 1 1 (omega arith);
      caller_work = cond_le f.top_caller (work - f.before) _ p;
      caller_span = cond_le f.top_caller (close f.state) _ q;
    }

module _ (f : EntryFrame) (work : ℕ) (l : work ≤ 4951760157141521099596496896) (c : close f.state ≤ 4951760157141521099596496896) (site : Option ℕ) where
  closed_low : (n r o : ℕ) (w : Way) → LowWay n r o w → (key : Option ℕ) → Low (n + 1) (r + o) (rows_at (closed_rows site (closed_row f work) w) key)
  closed_low n r o w h key =
      let b : Bool = same_key site key in
      let own = own_low w.own b f work l c in
      let both = low_plus n 1 r w.own _ _ (h.rows key) own in
      let is : rows_at (closed_rows site (closed_row f work) w) key ≡ plus (rows_at w.rows key) (cond b (plus (strand_row w.own) (closed_row f work)) zero_row) =
      rows_at-append w.rows (record { key = site; row = plus (strand_row w.own) (closed_row f work) } ∷ []) key ∙ ap (plus (rows_at w.rows key)) (plus-zero _) in
      subst (Low (n + 1) (r + o)) (sym is) (low_more (n + 1) (n + 1) (r + w.own) (r + o) _ (omega arith) (let z = h.own in omega arith) both)

  -- the parent's ways with those of the child
  come_low : (n r o m q p : ℕ) (w v : Way) → LowWay n r o w → LowWay m q p v → LowWay (n + m + 1) (r + o + q) p (way_through (closed_rows site (closed_row f work) w) v)
  come_low n r o m q p w v h k = record {
    rows = λ key. subst (Low (n + m + 1) (r + o + q)) (sym (rows_at-append v.rows (closed_rows site (closed_row f work) w) key))
        (low_more (m + (n + 1)) (n + m + 1) (q + (r + o)) (r + o + q) _ (omega arith) (omega arith) (low_plus m (n + 1) q (r + o) _ _ (k.rows key) (closed_low n r o w h key)));
    own = k.own;
  }

  stay_low : (n r o m q p : ℕ) (v : Way) → LowWay m q p v → LowWay (n + m + 1) (r + o + q) p v
  stay_low n r o m q p v k = record { rows = λ key. low_more m (n + m + 1) q (r + o + q) _ (omega arith) (omega arith) (k.rows key); own = k.own }

  parent_low : (n r o m q p : ℕ) (kind : FrameKind) (wins : Bool) (w : Way) (v : Ways) → LowWay n r o w → LowWays m q p v
      → LowWays (n + m + 1) (r + o + q) p (returned_ways kind wins (closed_rows site (closed_row f work) w) v)
  parent_low n r o m q p Root wins w v h k = (stay_low n r o m q p v.along k.0, stay_low n r o m q p v.through k.1)
  parent_low n r o m q p Called wins w v h k = (come_low n r o m q p w v.along h k.0, stay_low n r o m q p v.through k.1)
  parent_low n r o m q p Spawned false w v h k = (stay_low n r o m q p v.along k.0, stay_low n r o m q p v.through k.1)
  parent_low n r o m q p Spawned true w v h k = (stay_low n r o m q p v.along k.0, come_low n r o m q p w v.along h k.0)

  pub return_low : (i t : ℕ) (kind : FrameKind) (takes wins : Bool) (w v : Ways) (ws : List Ways) → AreLow i t (w ∷ v ∷ ws)
      → AreLow (suc i) t (returned_ways kind wins (closed_rows site (closed_row f work) (way_on takes w)) v ∷ ws)
  return_low i t kind takes wins w v ws h =
      let k = h.8 in (
        h.0 + k.0 + 1,
        h.1 + h.2 + k.1,
        k.2,
        k.3,
        k.4,
        (let a = h.5 in let b = k.5 in omega arith),
        (let a = h.6 in let b = k.6 in omega arith),
        parent_low h.0 h.1 h.2 k.0 k.1 k.2 kind wins (way_on takes w) v (on_low h.0 h.1 h.2 takes w h.7) k.7,
        k.8,
      )

-- the sums of the ways into the innermost frame fit their types
pub top_fits : (i t : ℕ) → i ≤ 268435457 → t ≤ 4951760157141521099596496896 → (ws : List Ways) → AreLow i t ws → FitTop ws
top_fits i t a b [] h = tt
top_fits i t a b (w ∷ ws) h =
    let fit = λ (n r o : ℕ) (x : Way) (k : LowWay n r o x) (c : n ≤ i) (d : r ≤ t) (key : Option ℕ).
    low_fits n r (rows_at x.rows key) zero_row (rows_at x.rows key) (plus-zero (rows_at x.rows key)) (k.rows key) (omega arith) (omega arith) in
    let n : h.0 ≤ i = (let z = h.5 in omega arith) in
    let r : h.1 ≤ t = (let z = h.6 in omega arith) in
    (fit h.0 h.1 h.2 w.along h.7.0 n r, fit h.0 h.1 h.2 w.through h.7.1 n r)
