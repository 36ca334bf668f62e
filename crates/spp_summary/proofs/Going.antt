-- A later piece goes on where a summary ends.
use Rattle.std.proofs.Common.{◌≡◌, ℕ, ◌+◌, ◌-◌, ◌≤◌, List, [], ◌∷◌, ◌++◌, map, Option, Some, None, refl, sym, ◌∙◌, ap, ap₂, arith}
use Rattle.std.proofs.lemmas.List.{append-nil, append_assoc}
use Rattle.spp_maxplus.specs.declared.state.Burdens.{Burdens}
use Rattle.spp_event.specs.declared.records.EventFault.{EventFault}
use Rattle.spp_summary.specs.declared.opens.Open.{Open}
use Rattle.spp_summary.specs.declared.opens.Kept.{Kept}
use Rattle.spp_piece.specs.declared.segs.Segs.{Segs}
use Rattle.spp_piece.specs.declared.pieces.Frame.{Frame}
use Rattle.spp_piece.specs.declared.pieces.Unmatched.{Unmatched}
use Rattle.spp_piece.specs.Pair.{act, then, idle, fed, strand}
use Rattle.spp_piece.specs.Machine.{Ops}
use Rattle.spp_piece.specs.Summary.{Sum, later, along_by, summary_ops, play_returns, play_frames, play_fault}
use Rattle.spp_summary.specs.Returns.{return_of}
use Rattle.spp_piece.specs.Bound.{cost, worst, load, load_returns}
use Rattle.spp_summary.specs.Storage.{with_work}
use Rattle.spp_summary.specs.KeptFrames.{kept_of, past, ran, with_kept, frames_of, outside, told, AreLaid}
use Rattle.spp_summary.specs.Joining.{raised, run_on, before_on}
use Rattle.spp_piece.proofs.EventSteps.{sum}
use Rattle.spp_piece.proofs.Bounds.{cost-then, cost-fed, height-act, load_push, load-append}
use Rattle.spp_piece.proofs.Pairs.{idle_then}
use Rattle.spp_summary.proofs.Chains.{frames-chained, outside-chained}
use Rattle.spp_piece.proofs.Joins.{summary_laws}

module _ (burdens : Burdens) where
  abbrev o : Ops Sum
  o = summary_ops burdens

  -- what is done to the innermost frame depends neither on the work nor on the returns
  before-along_parts : (rs qs : List Unmatched) (m : Segs) (fs : List Frame) (w n : ℕ) (q : Option (ℕ × EventFault)) (g : Segs) → q ≡ None → with_work n (record (along_by fs g (sum rs m fs w q)) { returns = qs }) ≡ o.along g (with_work n (sum qs m fs w q))
  before-along_parts rs qs m [] w n None g e = refl
  before-along_parts rs qs m (f ∷ fs) w n None g e = refl
  before-along_parts rs qs m fs w n (Some p) g e = absurd (cc)

  pub before-along : (s : Sum) (qs : List Unmatched) (n : ℕ) (g : Segs) → s.fault ≡ None → with_work n (record (along_by s.frames g s) { returns = qs }) ≡ o.along g (with_work n (record s { returns = qs }))
  before-along s qs n g e = before-along_parts s.returns qs s.middle s.frames s.work n s.fault g e

  pub along-twice : (a b : Segs) (s : Sum) → o.along b (o.along a s) ≡ o.along (then a b) s
  along-twice a b s = sym ((summary_laws burdens).then a b s)

  -- ---- one return

  child_parts : (rs : List Unmatched) (m : Segs) (f : Frame) (fs : List Frame) (w v n at : ℕ) (q : Option (ℕ × EventFault)) (g : Segs) → q ≡ None → o.along (fed burdens (record f { states = act g f.states })) (with_work n (sum rs m fs v q)) ≡ o.ret at (o.along g (with_work n (sum rs m (f ∷ fs) w q)))
  child_parts rs m f fs w v n at None g e = refl
  child_parts rs m f fs w v n at (Some p) g e = absurd (cc)

  -- of a frame that is kept
  pub child_returned : (rs : List Unmatched) (m : Segs) (since run before : ℕ) (c : Open) (os : List Open) (ss : List Kept) (q : Option (ℕ × EventFault)) (g r : Segs) (at n : ℕ) → q ≡ None
      → r ≡ fed burdens (with_kept before c (act g (ran run (kept_of c.kept ss))))
      → o.along r (with_work n (told rs m since os (past c.kept ss) c.gap (before - c.gap) q)) ≡ o.ret at (o.along g (with_work n (told rs m since (c ∷ os) ss run before q)))
  child_returned rs m since run before c os ss q g r at n e er =
      let s : Sum = told rs m since os (past c.kept ss) c.gap (before - c.gap) q in
      let t : Sum = told rs m since (c ∷ os) ss run before q in
      ap (λ r. o.along r (with_work n s)) er
      ∙ child_parts s.returns s.middle (with_kept before c (ran run (kept_of c.kept ss))) s.frames t.work s.work n at q g e

  pub child_load : (rs : List Unmatched) (m : Segs) (since run before : ℕ) (c : Open) (os : List Open) (ss : List Kept) (q : Option (ℕ × EventFault)) (g r : Segs)
      → r ≡ fed burdens (with_kept before c (act g (ran run (kept_of c.kept ss))))
      → load burdens (told rs m since os (past c.kept ss) c.gap (before - c.gap) q) + cost r ≤ load burdens (told rs m since (c ∷ os) ss run before q) + cost g + worst burdens
  child_load rs m since run before c os ss q g r er =
      let x = ran run (kept_of c.kept ss) in
      omega (arith, ap cost er, cost-fed burdens (with_kept before c (act g x)), height-act g x)

  none_parts : (rs : List Unmatched) (m : Segs) (fs : List Frame) (w n at : ℕ) (q : Option (ℕ × EventFault)) (g : Segs) → q ≡ None → fs ≡ [] → with_work n (sum (rs ++ record { segs = then m g; at = at } ∷ []) idle fs w q) ≡ o.ret at (o.along g (with_work n (sum rs m fs w q)))
  none_parts rs m [] w n at None g e f = refl
  none_parts rs m [] w n at (Some p) g e f = absurd (cc)
  none_parts rs m (x ∷ fs) w n at q g e f = absurd (cc)

  -- with no frame open all returns are those of the later piece
  rest_parts : (rs rest : List Unmatched) (w : ℕ) → play_returns o rest (sum rs idle [] w None) ≡ sum (rs ++ rest) idle [] w None
  rest_parts rs [] w = ap (λ rs. sum rs idle [] w None) (sym (append-nil rs))
  rest_parts rs (r ∷ rest) w =
      ap (λ g. play_returns o rest (sum (rs ++ return_of g r.at ∷ []) idle [] w None)) (idle_then r.segs)
      ∙ rest_parts (rs ++ r ∷ []) rest w ∙ ap (λ rs. sum rs idle [] w None) (append_assoc rs (r ∷ []) rest)

  rest_returned : (s : Sum) (rest : List Unmatched) (n : ℕ) → s.fault ≡ None → s.frames ≡ [] → s.middle ≡ idle → play_returns o rest (with_work n s) ≡ with_work n (record s { returns = s.returns ++ rest })
  rest_returned s rest n e f h =
      let is = ap₂ (λ fs m. sum s.returns m fs n s.fault) f h ∙ ap (λ q. sum s.returns idle [] n q) e in
      let all = ap₂ (λ fs m. sum (s.returns ++ rest) m fs n s.fault) f h ∙ ap (λ q. sum (s.returns ++ rest) idle [] n q) e in
      ap (play_returns o rest) is ∙ rest_parts s.returns rest n ∙ sym all

  -- of one that was opened before the piece, and the others after it
  pub all_returned : (s t : Sum) (g : Segs) (at n : ℕ) (rest : List Unmatched) → s.fault ≡ None → s.frames ≡ []
      → t ≡ record s { returns = (s.returns ++ return_of (then s.middle g) at ∷ []) ++ rest; middle = idle }
      → o.along idle (with_work n t) ≡ play_returns o rest (o.ret at (o.along g (with_work n s)))
  all_returned s t g at n rest e f et =
      let u : Sum = record s { returns = s.returns ++ return_of (then s.middle g) at ∷ []; middle = idle } in
      (summary_laws burdens).idle (with_work n t) ∙ ap (with_work n) et ∙ sym (rest_returned u rest n e f refl)
      ∙ ap (play_returns o rest) (none_parts s.returns s.middle s.frames s.work n at s.fault g e f)

  pub all_load : (s t : Sum) (g : Segs) (at : ℕ) (rest : List Unmatched) → t ≡ record s { returns = (s.returns ++ return_of (then s.middle g) at ∷ []) ++ rest; middle = idle }
      → load burdens t + cost idle ≤ load burdens s + cost g + worst burdens + load_returns burdens rest
  all_load s t g at rest et =
      let x = return_of (then s.middle g) at in
      omega (arith, ap (load burdens) et, load-append burdens (s.returns ++ x ∷ []) rest, load_push burdens s.returns x, cost-then s.middle g)

  -- ---- the frames, and the end

  pushed_parts : (rs : List Unmatched) (m : Segs) (gs : List Frame) (w : ℕ) (fs : List Frame) → play_frames o fs (sum rs m gs w None) ≡ sum rs m (map (later w) fs ++ gs) w None
  pushed_parts rs m gs w [] = refl
  pushed_parts rs m gs w (f ∷ fs) = ap (o.push f) (pushed_parts rs m gs w fs)

  ended_parts : (rs : List Unmatched) (m : Segs) (gs : List Frame) (w n : ℕ) (q : Option (ℕ × EventFault)) → play_fault o q (o.worked n (sum rs m gs w None)) ≡ sum rs m gs (w + n) q
  ended_parts rs m gs w n None = refl
  ended_parts rs m gs w n (Some p) = refl

  all_parts : (rs : List Unmatched) (m : Segs) (gs : List Frame) (w n : ℕ) (p q : Option (ℕ × EventFault)) (fs : List Frame) → p ≡ None → play_fault o q (o.worked n (play_frames o fs (sum rs m gs w p))) ≡ sum rs m (map (later w) fs ++ gs) (w + n) q
  all_parts rs m gs w n None q fs e = ap (λ s. play_fault o q (o.worked n s)) (pushed_parts rs m gs w fs) ∙ ended_parts rs m (map (later w) fs ++ gs) w n q
  all_parts rs m gs w n (Some p) q fs e = absurd (cc)

  pub all_frames : (s : Sum) (n : ℕ) (q : Option (ℕ × EventFault)) (fs : List Frame) → s.fault ≡ None → play_fault o q (o.worked n (play_frames o fs s)) ≡ sum s.returns s.middle (map (later s.work) fs ++ s.frames) (s.work + n) q
  all_frames s n q fs e = all_parts s.returns s.middle s.frames s.work n s.fault q fs e

  -- ---- both summaries as they lie

  work_both : (w low next run before since : ℕ) (ro : List Open) (ks : List Kept) → low ≤ w → low + next ≡ w + outside run ro → AreLaid run before ro ks since → before_on w low before ro + run_on next run ro ≡ w + (before + run)
  work_both w low next run before since [] ks le e h = omega (arith, h.1)
  work_both w low next run before since (o ∷ os) ks le e h = omega arith

  pub chained_told : (rs : List Unmatched) (m : Segs) (since : ℕ) (lo : List Open) (ls : List Kept) (next low w run before own : ℕ) (ro : List Open) (ks : List Kept) (p q : Option (ℕ × EventFault)) (s : Sum)
      → p ≡ None → low ≤ w → low + next ≡ w + outside run ro → AreLaid run before ro ks own
      → with_work w (told rs m since lo ls next low p) ≡ s
      → told rs m since (raised next ro ++ lo) (ks ++ ls) (run_on next run ro) (before_on w low before ro) q ≡ play_fault o q (o.worked (before + run) (play_frames o (frames_of run before ro ks) s))
  chained_told rs m since lo ls next low w run before own ro ks p q s ep le e h es =
      let base = w - low in
      let sums : low + base ≡ w = omega arith in
      let is : next ≡ base + outside run ro = omega arith in
      let t = with_work w (told rs m since lo ls next low p) in
      ap₂ (λ n fs. let u : Sum = record { returns = rs; middle = then m (strand (n - since)); frames = fs; work = before_on w low before ro + run_on next run ro; fault = q } in u)
      (outside-chained w low base next since lo ls run ro) (frames-chained w low base next since lo ls run before own ro ks sums is h)
      ∙ ap (λ n. let u : Sum = record { returns = rs; middle = then m (strand (outside next lo - since)); frames = map (later w) (frames_of run before ro ks) ++ frames_of next low lo ls; work = n; fault = q } in u) (work_both w low next run before own ro ks le e h)
      ∙ sym (all_frames t (before + run) q (frames_of run before ro ks) ep)
      ∙ ap (λ s. play_fault o q (o.worked (before + run) (play_frames o (frames_of run before ro ks) s))) es
