-- Each weight of a summary is bounded by all of them together.
use Rattle.std.proofs.Common.{ℕ, ◌+◌, ◌*◌, ◌^◌, ◌<◌, ◌≤◌, List, [], ◌∷◌, arith}
use Rattle.std.proofs.Math.Nat.{mul-le-mul_right}
use Rattle.std.specs.List.{AllByRecursion}
use Rattle.spp_maxplus.specs.declared.state.Burdens.{Burdens}
use Rattle.spp_piece.specs.declared.pieces.Frame.{Frame}
use Rattle.spp_piece.specs.declared.pieces.Unmatched.{Unmatched}
use Rattle.spp_piece.specs.Account.{Account, IsSound}
use Rattle.spp_piece.specs.Bound.{cost, height, worst, load_returns, load_frames}

pub returns_small : (b : Burdens) (rs : List Unmatched) (n : ℕ) → load_returns b rs < n → AllByRecursion (λ (r : Unmatched). cost r.segs < n) rs
returns_small b [] n h = tt
returns_small b (r ∷ rs) n h =
    let one : cost r.segs < n = omega arith in
    let rest : load_returns b rs < n = omega arith in
    (one, returns_small b rs n rest)

pub frames_small : (fs : List Frame) (n : ℕ) → load_frames fs < n → AllByRecursion (λ (f : Frame). height f.states < n) fs
frames_small [] n h = tt
frames_small (f ∷ fs) n h =
    let one : height f.states < n = omega arith in
    let rest : load_frames fs < n = omega arith in
    (one, frames_small fs n rest)

pub load_below : (a : Account) → IsSound a → load_returns a.burdens a.sum.returns + cost a.sum.middle + load_frames a.sum.frames < 2 ^ 94
load_below a s =
    let m : worst a.burdens * a.events ≤ 4294967296 * a.events = mul-le-mul_right a.events (omega (arith, s.burdens)) in
    omega (arith, m, s.range, s.small.work, s.small.load)
