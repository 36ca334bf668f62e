use Rattle.std.proofs.Common.{ℕ, ◌≤◌, ◌<◌, ◌^◌, max, bit_or, inl, inr, arith}
use Rattle.std.proofs.lemmas.Bool.{cases_lt}
use Rattle.std.proofs.lemmas.Nat.{le_or_l, le_or_r, or_lt}
use Rattle.spp_ways.proofs.frame_counts.FrameCounts.narrowed.Goals as goal

-- what four numbers have in common binary digits is no less than each of them
all_in : (w s o b m : ℕ) → bit_or (bit_or (bit_or w s) o) b ≤ m → (w ≤ m) × (s ≤ m) × (o ≤ m) × (b ≤ m)
all_in w s o b m h =
    let ws = le_or_l w s in
    let sw = le_or_r w s in
    let wso = le_or_l (bit_or w s) o in
    let ows = le_or_r (bit_or w s) o in
    let rest = le_or_l (bit_or (bit_or w s) o) b in
    let last = le_or_r (bit_or (bit_or w s) o) b in
    (omega (arith, ws, wso, rest, h), omega (arith, sw, wso, rest, h), omega (arith, ows, rest, h), omega (arith, last, h))

pub overflow_cast-result : goal.overflow_cast-result
overflow_cast-result c =
    let f = all_in c.args.self.now.work c.args.self.now.span c.args.self.now.own c.args.self.now.burdened_own c.from.result c.if-self-from.false in
    omega (arith, f.0, c.from.ensures)

pub overflow_cast-result-2 : goal.overflow_cast-result-2
overflow_cast-result-2 c =
    let f = all_in c.args.self.now.work c.args.self.now.span c.args.self.now.own c.args.self.now.burdened_own c.from.result c.if-self-from.false in
    omega (arith, f.1, c.from.ensures)

pub overflow_cast-result-3 : goal.overflow_cast-result-3
overflow_cast-result-3 c =
    let f = all_in c.args.self.now.work c.args.self.now.span c.args.self.now.own c.args.self.now.burdened_own c.from.result c.if-self-from.false in
    omega (arith, f.2, c.from.ensures)

pub overflow_cast-result-4 : goal.overflow_cast-result-4
overflow_cast-result-4 c =
    let f = all_in c.args.self.now.work c.args.self.now.span c.args.self.now.own c.args.self.now.burdened_own c.from.result c.if-self-from.false in
    omega (arith, f.3, c.from.ensures)

-- what four numbers below 2^64 have in common binary digits is below 2^64
all_below : (w s o b : ℕ) → max (max w s) (max o b) < 2 ^ 64 → bit_or (bit_or (bit_or w s) o) b < 2 ^ 64
all_below w s o b h = or_lt 64 (bit_or (bit_or w s) o) b (or_lt 64 (bit_or w s) o (or_lt 64 w s (omega (arith, h)) (omega (arith, h))) (omega (arith, h))) (omega (arith, h))

pub returns-then-self-from-clause-wide : goal.returns-then-self-from-clause-wide
returns-then-self-from-clause-wide c =
    let below = all_below c.args.self.now.work c.args.self.now.span c.args.self.now.own c.args.self.now.burdened_own in
    elim (cases_lt (max (max c.args.self.now.work c.args.self.now.span) (max c.args.self.now.own c.args.self.now.burdened_own)) (2 ^ 64)) [
      | inl less ↦ (let b = below less in absurd (omega (arith, b, c.if-self-from.true, c.from.ensures)))
      | inr more ↦ more
    ]
