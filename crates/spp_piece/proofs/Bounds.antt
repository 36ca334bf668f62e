-- The load of a summary grows by no more than its events' weights and burdens.
use Rattle.std.proofs.Common.{◌≡◌, ℕ, ◌+◌, ◌≤◌, List, [], ◌∷◌, ◌++◌, Option, Some, None, arith}
use Rattle.spp_maxplus.specs.declared.state.Burdens.{Burdens}
use Rattle.spp_maxplus.proofs.SegLaws.{rise-then, peak-act}
use Rattle.spp_event.specs.declared.records.EventFault.{EventFault}
use Rattle.spp_maxplus.specs.declared.child.ChildKind.{ChildKind}
use Rattle.spp_maxplus.specs.declared.child.ChildKind.TheVariants.{Called, Spawned}
use Rattle.spp_piece.specs.declared.segs.Segs.{Segs}
use Rattle.spp_piece.specs.declared.states.States.{States}
use Rattle.spp_piece.specs.declared.pieces.Frame.{Frame}
use Rattle.spp_piece.specs.declared.pieces.Unmatched.{Unmatched}
use Rattle.spp_piece.specs.Pair.{act, then, fed, fed_by}
use Rattle.spp_piece.specs.Machine.{Ops}
use Rattle.spp_piece.specs.Summary.{Sum, unless, along_by, ret_by, pushed, working, failing, summary_ops, joined, play_returns, play_frames, play_fault}
use Rattle.spp_piece.specs.Bound.{worst, cost, height, load_returns, load_frames, load}

abbrev sum : List Unmatched → Segs → List Frame → ℕ → Option (ℕ × EventFault) → Sum
sum rs m fs w q = record { returns = rs; middle = m; frames = fs; work = w; fault = q }

pub cost-then : (a b : Segs) → cost (then a b) ≤ cost a + cost b
cost-then a b = omega (arith, rise-then a.plain b.plain, rise-then a.burdened b.burdened)

pub height-act : (g : Segs) (s : States) → height (act g s) ≤ height s + cost g
height-act g s = omega (arith, peak-act g.plain s.plain, peak-act g.burdened s.burdened)

cost_by : (k : ChildKind) (burdens : Burdens) (at g h : ℕ) → cost (fed_by k burdens at g h) ≤ g + h + worst burdens
cost_by Called burdens at g h = omega arith
cost_by Spawned burdens at g h = omega arith

pub cost-fed : (burdens : Burdens) (f : Frame) → cost (fed burdens f) ≤ height f.states + worst burdens
cost-fed burdens f = cost_by f.kind burdens f.at _ _

pub load_push : (burdens : Burdens) (rs : List Unmatched) (r : Unmatched) → load_returns burdens (rs ++ r ∷ []) ≡ load_returns burdens rs + cost r.segs + worst burdens
load_push burdens [] r = omega arith
load_push burdens (s ∷ rs) r = omega (arith, load_push burdens rs r)

pub load-append : (burdens : Burdens) (rs qs : List Unmatched) → load_returns burdens (rs ++ qs) ≡ load_returns burdens rs + load_returns burdens qs
load-append burdens [] qs = omega arith
load-append burdens (r ∷ rs) qs = omega (arith, load-append burdens rs qs)

module _ (burdens : Burdens) where
  abbrev o : Ops Sum
  o = summary_ops burdens

  along_parts : (rs : List Unmatched) (m : Segs) (fs : List Frame) (w : ℕ) (q : Option (ℕ × EventFault)) (g : Segs) → load burdens (along_by fs g (sum rs m fs w q)) ≤ load burdens (sum rs m fs w q) + cost g
  along_parts rs m [] w q g = omega (arith, cost-then m g)
  along_parts rs m (f ∷ fs) w q g = omega (arith, height-act g f.states)

  pub load-along_by : (g : Segs) (s : Sum) → load burdens (along_by s.frames g s) ≤ load burdens s + cost g
  load-along_by g s = along_parts s.returns s.middle s.frames s.work s.fault g

  unless_le : (q : Option (ℕ × EventFault)) (s t : Sum) (n : ℕ) → load burdens t ≤ load burdens s + n → load burdens (unless q s t) ≤ load burdens s + n
  unless_le None s t n h = h
  unless_le (Some q) s t n h = omega arith

  pub load-along : (g : Segs) (s : Sum) → load burdens (o.along g s) ≤ load burdens s + cost g
  load-along g s = unless_le s.fault s _ (cost g) (along_parts s.returns s.middle s.frames s.work s.fault g)

  ret_parts : (rs : List Unmatched) (m : Segs) (fs : List Frame) (w : ℕ) (q : Option (ℕ × EventFault)) (at : ℕ) → load burdens (ret_by fs burdens at (sum rs m fs w q)) ≤ load burdens (sum rs m fs w q) + worst burdens
  ret_parts rs m [] w q at = omega (arith, load_push burdens rs (record { segs = m; at = at }))
  ret_parts rs m (f ∷ fs) w q at = omega (arith, along_parts rs m fs w q (fed burdens f), cost-fed burdens f)

  pub load-ret_by : (at : ℕ) (s : Sum) → load burdens (ret_by s.frames burdens at s) ≤ load burdens s + worst burdens
  load-ret_by at s = ret_parts s.returns s.middle s.frames s.work s.fault at

  pub load-ret : (at : ℕ) (s : Sum) → load burdens (o.ret at s) ≤ load burdens s + worst burdens
  load-ret at s = unless_le s.fault s _ (worst burdens) (ret_parts s.returns s.middle s.frames s.work s.fault at)

  pub load-push : (f : Frame) (s : Sum) → load burdens (o.push f s) ≤ load burdens s + height f.states
  load-push f s = unless_le s.fault s (pushed f s) (height f.states) (omega arith)

  pub load-worked : (n : ℕ) (s : Sum) → load burdens (o.worked n s) ≤ load burdens s
  load-worked n s = let h = unless_le s.fault s (working n s) 0 (omega arith) in omega arith

  pub load-fail : (q : ℕ × EventFault) (s : Sum) → load burdens (o.fail q s) ≤ load burdens s
  load-fail q s = let h = unless_le s.fault s (failing q s) 0 (omega arith) in omega arith

  pub load-returns : (rs : List Unmatched) (s : Sum) → load burdens (play_returns o rs s) ≤ load burdens s + load_returns burdens rs
  load-returns [] s = omega arith
  load-returns (r ∷ rs) s =
      let t = o.along r.segs s in
      omega (arith, load-returns rs (o.ret r.at t), load-ret r.at t, load-along r.segs s)

  load-frames : (fs : List Frame) (s : Sum) → load burdens (play_frames o fs s) ≤ load burdens s + load_frames fs
  load-frames [] s = omega arith
  load-frames (f ∷ fs) s = omega (arith, load-push f (play_frames o fs s), load-frames fs s)

  load-fault : (q : Option (ℕ × EventFault)) (s : Sum) → load burdens (play_fault o q s) ≤ load burdens s
  load-fault None s = omega arith
  load-fault (Some q) s = load-fail q s

  -- what two summaries join to is no heavier than both
  pub load-joined : (left right : Sum) → load burdens (joined burdens left right) ≤ load burdens left + load burdens right
  load-joined left right =
      let a = play_returns o right.returns left in
      let b = o.along right.middle a in
      let c = play_frames o right.frames b in
      let d = o.worked right.work c in
      omega (arith, load-fault right.fault d, load-worked right.work c, load-frames right.frames b, load-along right.middle a, load-returns right.returns left)
