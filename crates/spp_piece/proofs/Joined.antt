-- How small a join is, and what it is after a bad record.
use Rattle.std.proofs.Common.{◌≡◌, ℕ, ◌+◌, ◌≤◌, max, List, [], ◌∷◌, length, Option, Some, None, refl, sym, ◌∙◌, ap, subst, arith}
use Rattle.spp_maxplus.specs.declared.state.Burdens.{Burdens}
use Rattle.spp_event.specs.declared.records.EventFault.{EventFault}
use Rattle.spp_piece.specs.declared.segs.Segs.{Segs}
use Rattle.spp_piece.specs.declared.pieces.Frame.{Frame}
use Rattle.spp_piece.specs.declared.pieces.Unmatched.{Unmatched}
use Rattle.spp_piece.specs.Machine.{Ops}
use Rattle.spp_piece.specs.Summary.{Sum, unless, working, summary_ops, joined, play_returns, play_frames, play_fault}
use Rattle.spp_piece.specs.Bound.{most_before, IsSmall}
use Rattle.spp_piece.proofs.EventSteps.{unless_none, unless_some}
use Rattle.spp_piece.proofs.Bounds.{load-joined}
use Rattle.spp_piece.proofs.Small.{along_work, along_depth, along_sound, ret_work, ret_depth, ret_sound, along_before, ret_before}

-- t came of s without a bad record and without work, with at most n frames more
record Kept (s t : Sum) (n : ℕ) : Type 0 where
  sound : t.fault ≡ None
  work : t.work ≡ s.work
  depth : length t.frames ≤ length s.frames + n

kept_by : (s t u : Sum) (n : ℕ) → u ≡ t → Kept s t n → Kept s u n
kept_by s t u n e k = subst (λ z. Kept s z n) (sym e) k

kept_then : (s t u : Sum) (m n : ℕ) → Kept s t m → Kept t u n → Kept s u (m + n)
kept_then s t u m n j k =
    let a = j.depth in
    let b = k.depth in
    record { sound = k.sound; work = k.work ∙ j.work; depth = omega arith }

module _ (burdens : Burdens) where
  abbrev o : Ops Sum
  o = summary_ops burdens

  returns_after : (rs : List Unmatched) (s : Sum) (p : ℕ × EventFault) → s.fault ≡ Some p → play_returns o rs s ≡ s
  returns_after [] s p e = refl
  returns_after (r ∷ rs) s p e =
      ap (λ t. play_returns o rs (o.ret r.at t)) (unless_some s.fault p s _ e)
      ∙ ap (play_returns o rs) (unless_some s.fault p s _ e)
      ∙ returns_after rs s p e

  frames_after : (fs : List Frame) (s : Sum) (p : ℕ × EventFault) → s.fault ≡ Some p → play_frames o fs s ≡ s
  frames_after [] s p e = refl
  frames_after (f ∷ fs) s p e = ap (o.push f) (frames_after fs s p e) ∙ unless_some s.fault p s _ e

  fault_after : (q : Option (ℕ × EventFault)) (s : Sum) (p : ℕ × EventFault) → s.fault ≡ Some p → play_fault o q s ≡ s
  fault_after None s p e = refl
  fault_after (Some q) s p e = unless_some s.fault p s _ e

  -- nothing after a bad record changes a summary
  pub joined_after : (left right : Sum) (p : ℕ × EventFault) → left.fault ≡ Some p → joined burdens left right ≡ left
  joined_after left right p e =
      let w = λ (t : Sum). play_fault o right.fault (o.worked right.work t) in
      ap (λ t. w (play_frames o right.frames (o.along right.middle t))) (returns_after right.returns left p e)
      ∙ ap (λ t. w (play_frames o right.frames t)) (unless_some left.fault p left _ e)
      ∙ ap w (frames_after right.frames left p e)
      ∙ ap (play_fault o right.fault) (unless_some left.fault p left _ e)
      ∙ fault_after right.fault left p e

  kept_along : (g : Segs) (s : Sum) → s.fault ≡ None → Kept s (o.along g s) 0
  kept_along g s e =
      let d = along_depth s.returns s.middle s.frames s.work s.fault g in
      kept_by s _ _ 0 (unless_none s.fault s _ e)
      (record { sound = along_sound s.returns s.middle s.frames s.work s.fault g ∙ e; work = along_work s.returns s.middle s.frames s.work s.fault g; depth = omega arith })

  kept_ret : (at : ℕ) (s : Sum) → s.fault ≡ None → Kept s (o.ret at s) 0
  kept_ret at s e =
      let d = ret_depth burdens at s.returns s.middle s.frames s.work s.fault in
      kept_by s _ _ 0 (unless_none s.fault s _ e)
      (record { sound = ret_sound burdens at s.returns s.middle s.frames s.work s.fault ∙ e; work = ret_work burdens at s.returns s.middle s.frames s.work s.fault; depth = omega arith })

  kept_push : (f : Frame) (s : Sum) → s.fault ≡ None → Kept s (o.push f s) 1
  kept_push f s e = kept_by s _ _ 1 (unless_none s.fault s _ e) (record { sound = e; work = refl; depth = omega arith })

  kept_returns : (rs : List Unmatched) (s : Sum) → s.fault ≡ None → Kept s (play_returns o rs s) 0
  kept_returns [] s e = record { sound = e; work = refl; depth = omega arith }
  kept_returns (r ∷ rs) s e =
      let t = o.along r.segs s in
      let a = kept_along r.segs s e in
      let b = kept_ret r.at t a.sound in
      kept_then s _ _ 0 0 (kept_then s t (o.ret r.at t) 0 0 a b) (kept_returns rs (o.ret r.at t) b.sound)

  kept_frames : (fs : List Frame) (s : Sum) → s.fault ≡ None → Kept s (play_frames o fs s) (length fs)
  kept_frames [] s e = record { sound = e; work = refl; depth = omega arith }
  kept_frames (f ∷ fs) s e =
      let a = kept_frames fs s e in
      let b = kept_push f (play_frames o fs s) a.sound in
      let x = a.depth in
      let y = b.depth in
      record { sound = b.sound; work = b.work ∙ a.work; depth = omega arith }

  fault_work : (q : Option (ℕ × EventFault)) (s : Sum) → s.fault ≡ None → (play_fault o q s).work ≡ s.work
  fault_work None s e = refl
  fault_work (Some q) s e = ap (λ (t : Sum). t.work) (unless_none s.fault s _ e)

  fault_depth : (q : Option (ℕ × EventFault)) (s : Sum) → s.fault ≡ None → length (play_fault o q s).frames ≡ length s.frames
  fault_depth None s e = refl
  fault_depth (Some q) s e = ap (λ (t : Sum). length t.frames) (unless_none s.fault s _ e)

  unless_most : (q : Option (ℕ × EventFault)) (s t : Sum) (n : ℕ) → most_before s.frames ≤ n → most_before t.frames ≤ n → most_before (unless q s t).frames ≤ n
  unless_most None s t n g h = h
  unless_most (Some q) s t n g h = g

  before_along : (g : Segs) (s : Sum) → most_before (o.along g s).frames ≤ most_before s.frames
  before_along g s =
      let b = along_before s.returns s.middle s.frames s.work s.fault g in
      unless_most s.fault s _ _ (omega arith) (omega (arith, b))

  before_ret : (at : ℕ) (s : Sum) → most_before (o.ret at s).frames ≤ most_before s.frames
  before_ret at s =
      let b = ret_before burdens at s.returns s.middle s.frames s.work s.fault in
      unless_most s.fault s _ _ (omega arith) (omega (arith, b))

  before_returns : (rs : List Unmatched) (s : Sum) → most_before (play_returns o rs s).frames ≤ most_before s.frames
  before_returns [] s = omega arith
  before_returns (r ∷ rs) s =
      let t = o.along r.segs s in
      omega (arith, before_returns rs (o.ret r.at t), before_ret r.at t, before_along r.segs s)

  before_frames : (fs : List Frame) (s : Sum) → s.fault ≡ None → most_before (play_frames o fs s).frames ≤ max (most_before s.frames) (s.work + most_before fs)
  before_frames [] s e = omega arith
  before_frames (f ∷ fs) s e =
      let t = play_frames o fs s in
      let k = kept_frames fs s e in
      let w = k.work in
      unless_most t.fault t _ _ (omega (arith, before_frames fs s e)) (omega (arith, before_frames fs s e, w))

  fault_before : (q : Option (ℕ × EventFault)) (s : Sum) → s.fault ≡ None → most_before (play_fault o q s).frames ≡ most_before s.frames
  fault_before None s e = refl
  fault_before (Some q) s e = ap (λ (t : Sum). most_before t.frames) (unless_none s.fault s _ e)

  -- the work before the last steps of a join
  kept_joined : (left right : Sum) → left.fault ≡ None → Kept left (play_frames o right.frames (o.along right.middle (play_returns o right.returns left))) (length right.frames)
  kept_joined left right e =
      let x = play_returns o right.returns left in
      let y = o.along right.middle x in
      let a = kept_returns right.returns left e in
      let b = kept_along right.middle x a.sound in
      let c = kept_frames right.frames y b.sound in
      let i = a.depth in
      let j = b.depth in
      let k = c.depth in
      record { sound = c.sound; work = c.work ∙ b.work ∙ a.work; depth = omega arith }

  worked_none : (n : ℕ) (s : Sum) → s.fault ≡ None → o.worked n s ≡ working n s
  worked_none n s e = unless_none s.fault s _ e

  pub joined_work : (left right : Sum) → left.fault ≡ None → (joined burdens left right).work ≡ left.work + right.work
  joined_work left right e =
      let s = play_frames o right.frames (o.along right.middle (play_returns o right.returns left)) in
      let k = kept_joined left right e in
      let w = worked_none right.work s k.sound in
      fault_work right.fault (o.worked right.work s) (ap (λ (t : Sum). t.fault) w ∙ k.sound)
      ∙ ap (λ (t : Sum). t.work) w
      ∙ ap (λ n. n + right.work) k.work

  joined_depth : (left right : Sum) → left.fault ≡ None → length (joined burdens left right).frames ≤ length left.frames + length right.frames
  joined_depth left right e =
      let s = play_frames o right.frames (o.along right.middle (play_returns o right.returns left)) in
      let k = kept_joined left right e in
      let w = worked_none right.work s k.sound in
      let d = fault_depth right.fault (o.worked right.work s) (ap (λ (t : Sum). t.fault) w ∙ k.sound) ∙ ap (λ (t : Sum). length t.frames) w in
      let x = k.depth in
      omega (arith, d)

  joined_before : (left right : Sum) → left.fault ≡ None → most_before (joined burdens left right).frames ≤ max (most_before left.frames) (left.work + most_before right.frames)
  joined_before left right e =
      let x = play_returns o right.returns left in
      let y = o.along right.middle x in
      let a = kept_returns right.returns left e in
      let b = kept_along right.middle x a.sound in
      let s = play_frames o right.frames y in
      let k = kept_joined left right e in
      let w = worked_none right.work s k.sound in
      let d = fault_before right.fault (o.worked right.work s) (ap (λ (t : Sum). t.fault) w ∙ k.sound) ∙ ap (λ (t : Sum). most_before t.frames) w in
      let v = b.work ∙ a.work in
      omega (arith, d, v, before_frames right.frames y b.sound, before_along right.middle x, before_returns right.returns left)

  small_sound : (m n : ℕ) (left right : Sum) → left.fault ≡ None → IsSmall burdens m left → IsSmall burdens n right → IsSmall burdens (m + n) (joined burdens left right)
  small_sound m n left right e g h =
      let w = joined_work left right e in
      let d = joined_depth left right e in
      let l = load-joined burdens left right in
      let b = joined_before left right e in
      record { work = omega (arith, g.work, h.work, w); load = omega (arith, g.load, h.load, w, l); depth = omega (arith, g.depth, h.depth, d); before = omega (arith, g.before, h.before, w, b) }

  small_more : (m n : ℕ) (s : Sum) → IsSmall burdens m s → IsSmall burdens (m + n) s
  small_more m n s h = record { work = omega (arith, h.work); load = omega (arith, h.load); depth = omega (arith, h.depth); before = h.before }

  small_parts : (m n : ℕ) (q : Option (ℕ × EventFault)) (left right : Sum) → left.fault ≡ q → IsSmall burdens m left → IsSmall burdens n right → IsSmall burdens (m + n) (joined burdens left right)
  small_parts m n None left right e g h = small_sound m n left right e g h
  small_parts m n (Some p) left right e g h =
      subst (IsSmall burdens (m + n)) (sym (joined_after left right p e)) (small_more m n left g)

  pub small_joined : (m n : ℕ) (left right : Sum) → IsSmall burdens m left → IsSmall burdens n right → IsSmall burdens (m + n) (joined burdens left right)
  small_joined m n left right g h = small_parts m n left.fault left right refl g h
