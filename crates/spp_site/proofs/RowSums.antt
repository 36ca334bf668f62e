-- Sums of rows, and bounds on them.
use Rattle.std.proofs.Common.{◌≡◌, ℕ, ◌+◌, ◌-◌, ◌*◌, ◌≤◌, Bool, true, false, cond, ap, arith}
use Rattle.spp_maxplus.specs.State.{close}
use Rattle.spp_dag.specs.declared.row.Row.{Row}
use Rattle.spp_dag.specs.declared.stack.EntryFrame.{EntryFrame}
use Rattle.spp_dag.specs.Shares.{plus, zero_row}
use Rattle.spp_dag.specs.Steps.{closed_row, strand_row}
use Rattle.spp_dag.proofs.Shares.{same_rows}
use Rattle.spp_site.specs.Rows.{Fits}
use Rattle.spp_site.proofs.Rows.{zero-plus}

-- the row of a frame, which closes when that is the work so far, with the strands directly in it
abbrev pub full_row : EntryFrame → ℕ → ℕ → Row
full_row f n w = record (closed_row f w) { local = n }

-- a frame that owes more strands
pub strand_owed : (b : Bool) (m n : ℕ) (t o : Row)
    → plus t (plus (cond b (strand_row (m + n)) zero_row) o) ≡ plus (plus t (plus (cond b (strand_row m) zero_row) o)) (cond b (strand_row n) zero_row)
strand_owed true m n t o = same_rows _ _ (omega arith) (omega arith) (omega arith) (omega arith) (omega arith) (omega arith) (omega arith) (omega arith)
strand_owed false m n t o = same_rows _ _ (omega arith) (omega arith) (omega arith) (omega arith) (omega arith) (omega arith) (omega arith) (omega arith)

-- a new frame owes none
pub none_owed : (b : Bool) (o : Row) → plus (cond b (strand_row 0) zero_row) o ≡ o
none_owed true o = zero-plus o
none_owed false o = zero-plus o

full_parts : (f : EntryFrame) (n w : ℕ) (t o : Row)
    → plus (plus t (full_row f n w)) o ≡ plus (plus t (plus (strand_row n) o)) (closed_row f w)
full_parts f n w t o =
    let r : Row = closed_row f w in
    same_rows _ _ (omega arith) (omega arith)
    (moved t.site_count o.site_count r.site_count) (moved t.site_work o.site_work r.site_work) (moved t.site_span o.site_span r.site_span)
    (moved t.caller_count o.caller_count r.caller_count) (moved t.caller_work o.caller_work r.caller_work) (moved t.caller_span o.caller_span r.caller_span)
  where
    moved : (a b c : ℕ) → (a + c) + b ≡ (a + (0 + b)) + c
    moved a b c = omega arith

-- a frame that closes owes nothing more: its row is in the table
pub closed_owed : (b : Bool) (f : EntryFrame) (n w : ℕ) (t o : Row)
    → plus (cond b (plus t (full_row f n w)) t) o
    ≡ plus (plus t (plus (cond b (strand_row n) zero_row) o)) (cond b (closed_row f w) zero_row)
closed_owed true f n w t o = full_parts f n w t o
closed_owed false f n w t o = same_rows _ _ (omega arith) (omega arith) (omega arith) (omega arith) (omega arith) (omega arith) (omega arith) (omega arith)

-- ---- bounds

-- The sums of the frames that closed in i events, each of at most 2 ^ 92 instructions, and of the strands in w
-- instructions.
pub record Low (i w : ℕ) (r : Row) : Type 0 where
  pub count : r.count ≤ i
  pub local : r.local ≤ w
  pub site_count : r.site_count ≤ i
  pub site_work : r.site_work ≤ 4951760157141521099596496896 * i
  pub site_span : r.site_span ≤ 4951760157141521099596496896 * i
  pub caller_count : r.caller_count ≤ i
  pub caller_work : r.caller_work ≤ 4951760157141521099596496896 * i
  pub caller_span : r.caller_span ≤ 4951760157141521099596496896 * i

pub low_zero : (i w : ℕ) → Low i w zero_row
low_zero i w = record {
  count = omega arith;
  local = omega arith;
  site_count = omega arith;
  site_work = omega arith;
  site_span = omega arith;
  caller_count = omega arith;
  caller_work = omega arith;
  caller_span = omega arith;
}

pub low_plus : (i j v w : ℕ) (r s : Row) → Low i v r → Low j w s → Low (i + j) (v + w) (plus r s)
low_plus i j v w r s a b = record {
  count = (let x = a.count in let y = b.count in omega arith);
  local = (let x = a.local in let y = b.local in omega arith);
  site_count = (let x = a.site_count in let y = b.site_count in omega arith);
  site_work = (let x = a.site_work in let y = b.site_work in omega arith);
  site_span = (let x = a.site_span in let y = b.site_span in omega arith);
  caller_count = (let x = a.caller_count in let y = b.caller_count in omega arith);
  caller_work = (let x = a.caller_work in let y = b.caller_work in omega arith);
  caller_span = (let x = a.caller_span in let y = b.caller_span in omega arith);
}

pub low_strand : (b : Bool) (n : ℕ) → Low 1 n (cond b (strand_row n) zero_row)
low_strand true n = record {
  count = omega arith;
  local = omega arith;
  site_count = omega arith;
  site_work = omega arith;
  site_span = omega arith;
  caller_count = omega arith;
  caller_work = omega arith;
  caller_span = omega arith;
}
low_strand false n = low_zero 1 n

cond_le : (b : Bool) (n m : ℕ) → n ≤ m → cond b n 0 ≤ m
cond_le true n m h = h
cond_le false n m h = omega arith

pub low_closed : (b : Bool) (f : EntryFrame) (w : ℕ) → w ≤ 4951760157141521099596496896 → close f.state ≤ 4951760157141521099596496896 → Low 1 0 (cond b (closed_row f w) zero_row)
low_closed true f w l c =
    let p : w - f.before ≤ 4951760157141521099596496896 * 1 = omega arith in
    let q : close f.state ≤ 4951760157141521099596496896 * 1 = omega arith in
    record {
      count = omega arith;
      local = omega arith;
      site_count = cond_le f.top_site 1 1 (omega arith);
      site_work = cond_le f.top_site (w - f.before) _ p;
      site_span = cond_le f.top_site (close f.state) _ q;
      caller_count = cond_le f.top_caller 1 1 (omega arith);
      caller_work = cond_le f.top_caller (w - f.before) _ p;
      caller_span = cond_le f.top_caller (close f.state) _ q;
    }
low_closed false f w l c = low_zero 1 0

-- a part of a row within these bounds fits
pub low_fits : (i w : ℕ) (r s t : Row) → plus r s ≡ t → Low i w t → i ≤ 268435457 → w ≤ 4951760157141521099596496896 → Fits r
low_fits i w r s t e l a b =
    let h : Low i w (plus r s) = rw e l in
    record {
      count = (let x = h.count in omega arith);
      local = (let x = h.local in omega arith);
      site_count = (let x = h.site_count in omega arith);
      site_work = (let x = h.site_work in omega arith);
      site_span = (let x = h.site_span in omega arith);
      caller_count = (let x = h.caller_count in omega arith);
      caller_work = (let x = h.caller_work in omega arith);
      caller_span = (let x = h.caller_span in omega arith);
    }

-- only nothing is its own double
pub doubled : (a : Row) → a ≡ plus a a → a ≡ zero_row
doubled a h =
    let f1 : a.count ≡ a.count + a.count = ap (λ r. r.count) h in
    let f2 : a.local ≡ a.local + a.local = ap (λ r. r.local) h in
    let f3 : a.site_count ≡ a.site_count + a.site_count = ap (λ r. r.site_count) h in
    let f4 : a.site_work ≡ a.site_work + a.site_work = ap (λ r. r.site_work) h in
    let f5 : a.site_span ≡ a.site_span + a.site_span = ap (λ r. r.site_span) h in
    let f6 : a.caller_count ≡ a.caller_count + a.caller_count = ap (λ r. r.caller_count) h in
    let f7 : a.caller_work ≡ a.caller_work + a.caller_work = ap (λ r. r.caller_work) h in
    let f8 : a.caller_span ≡ a.caller_span + a.caller_span = ap (λ r. r.caller_span) h in
    same_rows a zero_row (omega arith) (omega arith) (omega arith) (omega arith) (omega arith) (omega arith) (omega arith) (omega arith)
