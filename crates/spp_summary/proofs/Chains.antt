-- Two lists of open frames, one after the other.
use Rattle.std.proofs.Common.{◌≡◌, ℕ, ◌+◌, ◌-◌, ◌≤◌, ◌<◌, Bool, true, false, List, [], ◌∷◌, ◌++◌, length, reverse, get_or, set, map, refl, sym, ◌∙◌, ap, ap₂, subst, arith}
use Rattle.std.proofs.lemmas.List.{reverse-append}
use Rattle.spp_summary.specs.declared.opens.Open.{Open}
use Rattle.spp_summary.specs.declared.opens.Kept.{Kept}
use Rattle.spp_piece.specs.Summary.{later}
use Rattle.spp_summary.specs.KeptFrames.{kept_of, past, HasKept, frame_of, frames_of, outside, AreLaid}
use Rattle.spp_summary.specs.Joining.{raised, run_on, before_on}

-- ---- the outermost frame is the first

outside_end : (run : ℕ) (ys : List Open) (x : Open) → outside run (ys ++ x ∷ []) ≡ x.gap
outside_end run [] x = refl
outside_end run (y ∷ ys) x = outside_end y.gap ys x

pub outside_front : (run : ℕ) (xs : List Open) (d : Open) → 0 < length xs → outside run (reverse xs) ≡ (get_or xs 0 d).gap
outside_front run [] d lt = absurd (omega arith)
outside_front run (x ∷ xs) d lt = ap (outside run) (reverse-append (x ∷ []) xs) ∙ outside_end run (reverse xs) x

raised_end : (gap : ℕ) (ys : List Open) (x : Open) → raised gap (ys ++ x ∷ []) ≡ ys ++ record x { gap = gap } ∷ []
raised_end gap [] x = refl
raised_end gap (y ∷ []) x = refl
raised_end gap (y ∷ z ∷ zs) x = ap (λ os. y ∷ os) (raised_end gap (z ∷ zs) x)

pub raised_front : (gap : ℕ) (xs : List Open) (x : Open) → 0 < length xs → x ≡ get_or xs 0 x → reverse (set xs 0 (record x { gap = gap })) ≡ raised gap (reverse xs)
raised_front gap [] x lt e = absurd (omega arith)
raised_front gap (y ∷ ys) x lt e =
    let z : Open = record x { gap = gap } in
    reverse-append (z ∷ []) ys ∙ ap (λ (o : Open). reverse ys ++ record o { gap = gap } ∷ []) e
    ∙ sym (ap (raised gap) (reverse-append (y ∷ []) ys) ∙ raised_end gap (reverse ys) y)

pub frames_count : (run before : ℕ) (os : List Open) (ss : List Kept) → length (frames_of run before os ss) ≡ length os
frames_count run before [] ss = refl
frames_count run before (o ∷ os) ss = omega (arith, frames_count o.gap (before - o.gap) os (past o.kept ss))

-- ---- the kept states of both

kept-append : (k : Bool) (rs ls : List Kept) → HasKept k rs → kept_of k (rs ++ ls) ≡ kept_of k rs
kept-append false rs ls h = refl
kept-append true [] ls h = absurd h
kept-append true (r ∷ rs) ls h = refl

counted-append : (k : Bool) (rs ls : List Kept) (run : ℕ) → HasKept k rs → (kept_of k rs).counted ≤ run → (kept_of k (rs ++ ls)).counted ≤ run
counted-append k rs ls run h le = omega (arith, ap (λ (k : Kept). k.counted) (kept-append k rs ls h))

past-append : (k : Bool) (rs ls : List Kept) → HasKept k rs → past k (rs ++ ls) ≡ past k rs ++ ls
past-append false rs ls h = refl
past-append true [] ls h = absurd h
past-append true (r ∷ rs) ls h = refl

has-append : (k : Bool) (rs ls : List Kept) → HasKept k rs → HasKept k (rs ++ ls)
has-append false rs ls h = tt
has-append true [] ls h = absurd h
has-append true (r ∷ rs) ls h = tt

-- no more states are kept than there are frames
pub few_kept : (run before since : ℕ) (os : List Open) (ss : List Kept) → AreLaid run before os ss since → length ss ≤ length os
few_kept run before since [] ss h = omega (arith, ap length h.2)
few_kept run before since (o ∷ os) ss h = by o.kept ss (few_kept o.gap (before - o.gap) since os (past o.kept ss) h.3)
  where
    by : (k : Bool) (ss : List Kept) → length (past k ss) ≤ length os → length ss ≤ length (o ∷ os)
    by false ss le = omega arith
    by true [] le = omega arith
    by true (s ∷ ss) le = omega arith

-- ---- both together

module _ (work low base next since : ℕ) (lo : List Open) (ls : List Kept) where
  pub frames-chained : (run before own : ℕ) (ro : List Open) (rs : List Kept) → low + base ≡ work → next ≡ base + outside run ro → AreLaid run before ro rs own
      → frames_of (run_on next run ro) (before_on work low before ro) (raised next ro ++ lo) (rs ++ ls) ≡ map (later work) (frames_of run before ro rs) ++ frames_of next low lo ls
  frames-chained run before own [] rs s n h = ap (λ rs. frames_of next low lo (rs ++ ls)) h.2
  frames-chained run before own (o ∷ []) rs s n h =
      let e : (work + before) - next ≡ low = omega (arith, h.1, h.3.1) in
      let p : past o.kept (rs ++ ls) ≡ ls = past-append o.kept rs ls h.2 ∙ ap (λ rs. rs ++ ls) h.3.2 in
      ap₂ (λ x fs. x ∷ fs) (ap (frame_of run (work + before) o) (kept-append o.kept rs ls h.2)) (ap₂ (λ b ss. frames_of next b lo ss) e p)
  frames-chained run before own (o ∷ p ∷ os) rs s n h =
      let e : (work + before) - o.gap ≡ work + (before - o.gap) = omega (arith, h.1) in
      ap₂ (λ x fs. x ∷ fs) (ap (frame_of run (work + before) o) (kept-append o.kept rs ls h.2))
      (ap₂ (λ b ss. frames_of o.gap b (raised next (p ∷ os) ++ lo) ss) e (past-append o.kept rs ls h.2)
      ∙ frames-chained o.gap (before - o.gap) own (p ∷ os) (past o.kept rs) s n h.3)

  pub outside-chained : (run : ℕ) (ro : List Open) → outside (run_on next run ro) (raised next ro ++ lo) ≡ outside next lo
  outside-chained run [] = refl
  outside-chained run (o ∷ []) = refl
  outside-chained run (o ∷ p ∷ os) = outside-chained o.gap (p ∷ os)

  pub laid-chained : (run before own : ℕ) (ro : List Open) (rs : List Kept) → low + base ≡ work → next ≡ base + outside run ro → AreLaid run before ro rs own → AreLaid next low lo ls since
      → AreLaid (run_on next run ro) (before_on work low before ro) (raised next ro ++ lo) (rs ++ ls) since
  laid-chained run before own [] rs s n h g = subst (λ rs. AreLaid next low lo (rs ++ ls) since) (sym h.2) g
  laid-chained run before own (o ∷ []) rs s n h g =
      let e : (work + before) - next ≡ low = omega (arith, h.1, h.3.1) in
      let p : past o.kept (rs ++ ls) ≡ ls = past-append o.kept rs ls h.2 ∙ ap (λ rs. rs ++ ls) h.3.2 in
      (counted-append o.kept rs ls run h.2 h.0, omega (arith, h.1, h.3.1), has-append o.kept rs ls h.2, subst (λ b. AreLaid next b lo (past o.kept (rs ++ ls)) since) (sym e) (subst (λ ss. AreLaid next low lo ss since) (sym p) g))
  laid-chained run before own (o ∷ p ∷ os) rs s n h g =
      let e : (work + before) - o.gap ≡ work + (before - o.gap) = omega (arith, h.1) in (
        counted-append o.kept rs ls run h.2 h.0,
        omega (arith, h.1),
        has-append o.kept rs ls h.2,
        subst (λ b. AreLaid o.gap b (raised next (p ∷ os) ++ lo) (past o.kept (rs ++ ls)) since) (sym e)
            (subst (λ ss. AreLaid o.gap (work + (before - o.gap)) (raised next (p ∷ os) ++ lo) ss since) (sym (past-append o.kept rs ls h.2))
            (laid-chained o.gap (before - o.gap) own (p ∷ os) (past o.kept rs) s n h.3 g)),
      )
