-- The returns and the frames of a part, one by one.
use Rattle.std.proofs.Common.{◌≡◌, ℕ, zero, suc, ◌+◌, ◌<◌, ◌≤◌, List, [], ◌∷◌, length, get_or, drop, take, reverse, None, sym, ap, subst, ◌∙◌, arith}
use Rattle.std.proofs.lemmas.List.{take_more, take_all, length-reverse, reverse-reverse}
use Rattle.spp_maxplus.specs.declared.state.Burdens.{Burdens}
use Rattle.spp_maxplus.specs.declared.state.State.{State}
use Rattle.spp_maxplus.specs.Seg.{rise, peak, along, spawned}
use Rattle.spp_maxplus.specs.State.{unburdened, close}
use Rattle.spp_maxplus.proofs.SegLaws.{peak-act, act-call, act-spawn}
use Rattle.spp_dag.specs.declared.stack.EntryFrame.{EntryFrame}
use Rattle.spp_dag.specs.declared.stack.FrameKind.{FrameKind}
use Rattle.spp_dag.specs.declared.stack.FrameKind.TheVariants.{Root, Called, Spawned}
use Rattle.spp_dag.specs.Stack.{after_child}
use Rattle.spp_piece.specs.declared.pieces.Frame.{Frame}
use Rattle.spp_piece.specs.declared.segs.Segs.{Segs}
use Rattle.spp_piece.specs.declared.pieces.Unmatched.{Unmatched}
use Rattle.spp_piece.specs.Summary.{Sum, play_returns, play_frames, play_fault, play}
use Rattle.spp_piece.specs.Bound.{cost, worst, load_returns, most_before}
use Rattle.spp_piece.proofs.Lists.{reverse_push, before_at, before-reverse}
use Rattle.spp_stack.specs.declared.stack_builder.StackBuilder.{StackBuilder}
use Rattle.spp_stack.specs.Machine.{Now, now, along_by, ret_by, push_by, worked_by, entry_ops, IsOpen, peaks}
use Rattle.spp_stack.specs.StackBuilder.{Stands, moved}
use Rattle.spp_stack.proofs.Standing.{moved_stands, top_peak}

-- ---- how large the states get

pub along_load : (fs : List EntryFrame) (g : Segs) (work : ℕ) → peaks (along_by fs g work).frames ≤ peaks fs + cost g
along_load [] g work = omega arith
along_load (f ∷ fs) g work = omega (arith, peak-act g.plain f.state, peak-act g.burdened f.burdened)

-- a child that closes with n raises its parent by n, and by a burden at most
child_load : (burdens : Burdens) (k : FrameKind) (at n : ℕ) (s : State) → peak (after_child burdens k at n s) ≤ peak s + n + worst burdens
child_load burdens Root at n s = omega arith
child_load burdens Called at n s = let h = subst (λ t. peak t ≤ peak s + rise (along n)) (act-call n s) (peak-act (along n) s) in omega arith
child_load burdens Spawned at n s =
    let h = subst (λ t. peak t ≤ peak s + rise (spawned at n burdens)) (act-spawn at n burdens s) (peak-act (spawned at n burdens) s) in
    omega arith

pub ret_load : (burdens : Burdens) (fs : List EntryFrame) (work : ℕ) → peaks (ret_by burdens fs work).frames ≤ peaks fs + worst burdens
ret_load burdens [] work = omega arith
ret_load burdens (f ∷ []) work = omega arith
ret_load burdens (f ∷ g ∷ fs) work =
    omega (arith, child_load unburdened f.kind f.at (close f.state) g.state, child_load burdens f.kind f.at (close f.burdened) g.burdened)

-- ---- where nothing stands nothing will

pub dead_returns : (burdens : Burdens) (rs : List Unmatched) (work : ℕ) → IsOpen (play_returns (entry_ops burdens) rs (now [] work)).frames → ⊥
dead_returns burdens [] work h = h
dead_returns burdens (r ∷ rs) work h = dead_returns burdens rs work h

pub open_before : (burdens : Burdens) (rs : List Unmatched) (x : Now) → IsOpen (play_returns (entry_ops burdens) rs x).frames → IsOpen x.frames
open_before burdens rs x h = by x.frames x.work h
  where
    by : (fs : List EntryFrame) (work : ℕ) → IsOpen (play_returns (entry_ops burdens) rs (now fs work)).frames → IsOpen fs
    by [] work h = dead_returns burdens rs work h
    by (f ∷ fs) work h = tt

-- ---- the returns

-- what the walk holds while these returns are left
pub record Reached (burdens : Burdens) (w : StackBuilder) (rest : List Unmatched) (end : Now) (bound : ℕ) : Type 0 where
  pub at : Now
  pub stands : Stands w at
  pub is : play_returns (entry_ops burdens) rest at ≡ end
  pub load : peaks at.frames + load_returns burdens rest ≤ bound

pub record Step (burdens : Burdens) (w : StackBuilder) (r : Unmatched) (rest : List Unmatched) (end : Now) (bound : ℕ) : Type 0 where
  pub mid : Now
  pub peak : peak w.top.frame.state + peak w.top.frame.burdened + cost r.segs ≤ bound
  pub stands : Stands (moved r.segs w) mid
  pub goes : IsOpen (ret_by burdens mid.frames mid.work).frames
  pub load : peaks mid.frames ≤ bound
  pub next : (v : StackBuilder) → Stands v (ret_by burdens mid.frames mid.work) → Reached burdens v rest end bound

pub return_step : (burdens : Burdens) (w : StackBuilder) (rs : List Unmatched) (r : Unmatched) (rest : List Unmatched) (end : Now) (bound : ℕ) → rs ≡ r ∷ rest
    → Reached burdens w rs end bound → IsOpen end.frames → Step burdens w r rest end bound
return_step burdens w rs r rest end bound e h goes =
    let load : peaks h.at.frames + load_returns burdens (r ∷ rest) ≤ bound = subst (λ l. peaks h.at.frames + load_returns burdens l ≤ bound) e h.load in
    let same : play_returns (entry_ops burdens) (r ∷ rest) h.at ≡ end = subst (λ l. play_returns (entry_ops burdens) l h.at ≡ end) e h.is in
    let mid = along_by h.at.frames r.segs h.at.work in
    let up = along_load h.at.frames r.segs h.at.work in
    let down = ret_load burdens mid.frames mid.work in
    record {
      mid = mid;
      peak = omega (arith, top_peak w h.at h.stands);
      stands = moved_stands w r.segs h.at h.stands;
      goes = open_before burdens rest (ret_by burdens mid.frames mid.work) (subst (λ (z : Now). IsOpen z.frames) (sym same) goes);
      load = omega arith;
      next = λ v s. record { at = ret_by burdens mid.frames mid.work; stands = s; is = same; load = omega arith };
    }

-- what the returns leave is no heavier
pub returns_load : (burdens : Burdens) (rs : List Unmatched) (x : Now) → peaks (play_returns (entry_ops burdens) rs x).frames ≤ peaks x.frames + load_returns burdens rs
returns_load burdens [] x = omega arith
returns_load burdens (r ∷ rs) x =
    let mid = along_by x.frames r.segs x.work in
    let up = along_load x.frames r.segs x.work in
    let down = ret_load burdens mid.frames mid.work in
    let rest = returns_load burdens rs (ret_by burdens mid.frames mid.work) in
    omega arith

-- ---- the frames

pub frames_next : (burdens : Burdens) (fs : List Frame) (k : ℕ) (f : Frame) (x : Now) → k < length fs → f ≡ get_or (reverse fs) k f
    → play_frames (entry_ops burdens) (reverse (take (k + 1) (reverse fs))) x ≡ play_frames (entry_ops burdens) (f ∷ reverse (take k (reverse fs))) x
frames_next burdens fs k f x lt is =
    let rs = reverse fs in
    let within : k < length rs = let n = length-reverse fs in omega arith in
    let e : reverse (take (k + 1) rs) ≡ f ∷ reverse (take k rs) =
    ap reverse (take_more rs k f within) ∙ reverse_push (take k rs) (get_or rs k f) ∙ ap (λ g. g ∷ reverse (take k rs)) (sym is) in
    ap (λ l. play_frames (entry_ops burdens) l x) e

pub frames_all : (burdens : Burdens) (fs : List Frame) (k : ℕ) (x : Now) → length fs ≤ k → play_frames (entry_ops burdens) (reverse (take k (reverse fs))) x ≡ play_frames (entry_ops burdens) fs x
frames_all burdens fs k x le =
    let n = length-reverse fs in
    ap (λ l. play_frames (entry_ops burdens) l x) (ap reverse (take_all k (reverse fs) (omega arith)) ∙ reverse-reverse fs)

pub before_fits : (fs : List Frame) (k : ℕ) (f : Frame) → k < length fs → f ≡ get_or (reverse fs) k f → f.before ≤ most_before fs
before_fits fs k f lt is =
    let n = length-reverse fs in
    let same : f.before ≡ (get_or (reverse fs) k f).before = ap (λ (g : Frame). g.before) is in
    let le = before_at (reverse fs) k f (omega arith) in
    let all = before-reverse fs in
    omega arith

-- ---- a part

push_open : (fs : List EntryFrame) (f : Frame) (work : ℕ) → IsOpen (push_by fs f work).frames → IsOpen fs
push_open [] f work h = h
push_open (g ∷ fs) f work h = tt

frames_open : (burdens : Burdens) (fs : List Frame) (x : Now) → IsOpen (play_frames (entry_ops burdens) fs x).frames → IsOpen x.frames
frames_open burdens [] x h = h
frames_open burdens (f ∷ fs) x h =
    let y = play_frames (entry_ops burdens) fs x in
    frames_open burdens fs x (push_open y.frames f y.work h)

worked_open : (fs : List EntryFrame) (n work : ℕ) → IsOpen (worked_by fs n work).frames → IsOpen fs
worked_open [] n work h = h
worked_open (f ∷ fs) n work h = tt

along_open : (fs : List EntryFrame) (g : Segs) (work : ℕ) → IsOpen (along_by fs g work).frames → IsOpen fs
along_open [] g work h = h
along_open (f ∷ fs) g work h = tt

-- a part without a fault, step by step
pub played : (burdens : Burdens) (s : Sum) (x : Now) → s.fault ≡ None
    → play (entry_ops burdens) s x ≡ (let z = play_frames (entry_ops burdens) s.frames ((entry_ops burdens).along s.middle (play_returns (entry_ops burdens) s.returns x)) in worked_by z.frames s.work z.work)
played burdens s x e = ap (λ q. play_fault (entry_ops burdens) q ((entry_ops burdens).worked s.work (play_frames (entry_ops burdens) s.frames ((entry_ops burdens).along s.middle (play_returns (entry_ops burdens) s.returns x))))) e

pub played_by : (burdens : Burdens) (s : Sum) (x : Now) (g : Segs) (n : ℕ) → s.fault ≡ None → g ≡ s.middle → n ≡ s.work
    → (let y = play_returns (entry_ops burdens) s.returns x in let z = play_frames (entry_ops burdens) s.frames (along_by y.frames g y.work) in worked_by z.frames n z.work) ≡ play (entry_ops burdens) s x
played_by burdens s x g n e middle work =
    let y = play_returns (entry_ops burdens) s.returns x in
    ap (λ (h : Segs). let z = play_frames (entry_ops burdens) s.frames (along_by y.frames h y.work) in worked_by z.frames n z.work) middle
    ∙ ap (λ k. let z = play_frames (entry_ops burdens) s.frames (along_by y.frames s.middle y.work) in worked_by z.frames k z.work) work
    ∙ sym (played burdens s x e)

pub stands_is : (v : StackBuilder) (a b : Now) → a ≡ b → Stands v a → Stands v b
stands_is v a b e s = subst (λ (n : Now). Stands v n) e s

pub open_returns : (burdens : Burdens) (s : Sum) (x : Now) → s.fault ≡ None → IsOpen (play (entry_ops burdens) s x).frames → IsOpen (play_returns (entry_ops burdens) s.returns x).frames
open_returns burdens s x e h =
    let y = play_returns (entry_ops burdens) s.returns x in
    let m = (entry_ops burdens).along s.middle y in
    let z = play_frames (entry_ops burdens) s.frames m in
    along_open y.frames s.middle y.work (frames_open burdens s.frames m (worked_open z.frames s.work z.work (subst (λ (n : Now). IsOpen n.frames) (played burdens s x e) h)))

-- the next of those that are left behind the first k, and what is left then
pub record NextOf (X : Type 0) (xs : List X) (k : ℕ) (x : X) (rest : List X) : Type 0 where
  pub within : k < length xs
  pub is : x ≡ get_or xs k x
  pub left : rest ≡ drop (k + 1) xs

pub next_of : {X : Type 0} (xs : List X) (k : ℕ) (x : X) (rest : List X) → drop k xs ≡ x ∷ rest → NextOf X xs k x rest
next_of [] zero x rest e = cc
next_of [] (suc k) x rest e = cc
next_of (y ∷ ys) zero x rest e = (
    let a : y ≡ x = cc in
    let b : ys ≡ rest = cc in
    record { within = omega arith; is = sym a; left = sym b }
    )
next_of (y ∷ ys) (suc k) x rest e =
    let h = next_of ys k x rest e in
    let w = h.within in
    record { within = omega arith; is = h.is; left = h.left ∙ ap (λ (j : ℕ). drop j (y ∷ ys)) (let s : suc (k + 1) ≡ suc k + 1 = omega arith in s) }

-- where none is left, all are behind
pub none_of : {X : Type 0} (xs : List X) (k : ℕ) → drop k xs ≡ [] → length xs ≤ k
none_of [] k e = omega arith
none_of (y ∷ ys) zero e = cc
none_of (y ∷ ys) (suc k) e = let h = none_of ys k e in omega arith
