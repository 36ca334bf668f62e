-- What an event does to a summary while it is read.
use Rattle.std.proofs.Common.{◌≡◌, ℕ, ◌+◌, ◌-◌, ◌≤◌, Bool, true, false, List, [], ◌∷◌, length, reverse, get_or, set, take, Option, Some, None, subst, ◌<◌, ◌^◌, refl, sym, ◌∙◌, ap, ap₂, add_assoc, arith}
use Rattle.spp_maxplus.specs.declared.state.Burdens.{Burdens}
use Rattle.spp_event.specs.declared.records.EventFault.{EventFault}
use Rattle.spp_maxplus.specs.declared.child.ChildKind.{ChildKind}
use Rattle.spp_maxplus.specs.declared.child.ChildKind.TheVariants.{Called, Spawned}
use Rattle.spp_piece.specs.declared.segs.Segs.{Segs}
use Rattle.spp_piece.specs.declared.states.States.{States}
use Rattle.spp_piece.specs.declared.pieces.Frame.{Frame}
use Rattle.spp_piece.specs.declared.pieces.Unmatched.{Unmatched}
use Rattle.spp_summary.specs.declared.opens.Open.{Open}
use Rattle.spp_summary.specs.declared.opens.Kept.{Kept}
use Rattle.spp_piece.specs.Pair.{act, then, strand, sync, start, after_strand, after_sync, after_return, after_return_by}
use Rattle.spp_piece.specs.Summary.{Sum, along_by, ret_by, working}
use Rattle.spp_piece.specs.declared.states.ClosingWeights.{ClosingWeights}
use Rattle.spp_maxplus.specs.Candidate.{greatest}
use Rattle.spp_summary.specs.Storage.{open_load, with_work}
use Rattle.spp_summary.specs.KeptFrames.{kept_of, past, ran, with_kept, frame_of, frames_of, outside, told, HasKept, AreLaid}
use Rattle.spp_piece.specs.Pair.{weights_of}
use Rattle.spp_piece.proofs.Lists.{reverse_last, reverse_set_last}
use Rattle.spp_piece.proofs.Pairs.{act-strand, act-sync, act-fed, then_assoc}

-- the last element of a list, seen from its end
pub last_of : {X : Type 0} (xs : List X) (n : ℕ) (x : X) → length xs ≡ n + 1 → x ≡ get_or xs n x → reverse xs ≡ x ∷ reverse (take n xs)
last_of xs n x h e = reverse_last xs n x h ∙ ap (λ z. z ∷ reverse (take n xs)) (sym e)

pub none_of : {X : Type 0} (xs : List X) → length xs ≡ 0 → xs ≡ []
none_of [] h = refl
none_of (x ∷ xs) h = absurd (omega arith)

-- a list whose last element was y and is z now
pub record Ends {X : Type 0} (xs zs : List X) (y z : X) : Type 0 where
  pub below : List X
  pub old : reverse xs ≡ y ∷ below
  pub new : reverse zs ≡ z ∷ below

pub ends_at : {X : Type 0} (xs : List X) (n k : ℕ) (y z : X) → 0 < length xs → n ≡ length xs - 1 → k ≡ length xs - 1 → y ≡ get_or xs k y → Ends xs (set xs n z) y z
ends_at xs n k y z lt en ek e =
    let m = length xs - 1 in
    let h : length xs ≡ m + 1 = omega arith in
    record {
      below = reverse (take m xs);
      old = last_of xs m y h (e ∙ ap (λ k. get_or xs k y) ek);
      new = ap (λ n. reverse (set xs n z)) en ∙ reverse_set_last xs m z h;
    }

-- a list that stays as it is
pub same_end : {X : Type 0} (xs ys : List X) (y : X) → ys ≡ xs → 0 < length ys → y ≡ get_or ys (length ys - 1) y → Ends xs xs y y
same_end xs ys y same lt e =
    let at = ends_at ys _ _ y y lt refl refl e in
    let old = ap reverse (sym same) ∙ at.old in
    record { below = at.below; old = old; new = old }

-- one strand after another
pub after_strands : (a b : ℕ) (s : States) → after_strand b (after_strand a s) ≡ after_strand (a + b) s
after_strands a b s =
    let p = add_assoc s.plain.spine a b in
    let q = add_assoc s.burdened.spine a b in
    cc

abbrev pub as_kept : States → ℕ → Kept
as_kept states counted = record { states = states; counted = counted }

pub no_strand : (w : ℕ) (s : States) → after_strand (w - w) s ≡ s
no_strand w s =
    let p : s.plain.spine + (w - w) ≡ s.plain.spine = omega arith in
    let q : s.burdened.spine + (w - w) ≡ s.burdened.spine = omega arith in
    ap₂ (λ a b. let t : States = record { plain = record { spine = a; child = s.plain.child }; burdened = record { spine = b; child = s.burdened.child } } in t) p q

then_strands : (m : Segs) (a b : ℕ) → then (then m (strand a)) (strand b) ≡ then m (strand (a + b))
then_strands m a b = then_assoc m (strand a) (strand b)

module _ (rs : List Unmatched) (m : Segs) (since : ℕ) (q : Option (ℕ × EventFault)) where
  -- with this innermost frame above those, and that work
  abbrev headed : List Open → List Kept → ℕ → ℕ → Frame → ℕ → Sum
  headed os ss gap before f work = record { returns = rs; middle = then m (strand (outside gap os - since)); frames = f ∷ frames_of gap before os ss; work = work; fault = q }

  pub strand_told : (ss : List Kept) (run before : ℕ) (os : List Open) (n : ℕ) → AreLaid run before os ss since → told rs m since os ss (run + n) before q ≡ working n (along_by (frames_of run before os ss) (strand n) (told rs m since os ss run before q))
  strand_told ss run before [] n h =
      let e : (run - since) + n ≡ run + n - since = omega (arith, h.0) in
      ap₂ (λ g w. let s : Sum = record { returns = rs; middle = g; frames = []; work = w; fault = q } in s) (ap (λ k. then m (strand k)) (sym e) ∙ sym (then_strands m (run - since) n)) (sym (add_assoc before run n))
  strand_told ss run before (o ∷ os) n h =
      let k = kept_of o.kept ss in
      let e : (run - k.counted) + n ≡ run + n - k.counted = omega (arith, h.0) in
      ap₂ (λ x w. headed os (past o.kept ss) o.gap (before - o.gap) (with_kept before o x) w)
      (ap (λ j. after_strand j k.states) (sym e) ∙ sym (after_strands (run - k.counted) n k.states) ∙ sym (act-strand n (ran run k)))
      (sym (add_assoc before run n))

  -- the innermost frame has these states now, which are kept
  pub kept_told : (ss : List Kept) (run before : ℕ) (p : Open) (ps : List Open) (s : States) → told rs m since (record p { kept = true } ∷ ps) (as_kept s run ∷ past p.kept ss) run before q ≡ headed ps (past p.kept ss) p.gap (before - p.gap) (with_kept before p s) (before + run)
  kept_told ss run before p ps s = ap (λ x. headed ps (past p.kept ss) p.gap (before - p.gap) (with_kept before p x) (before + run)) (no_strand run s)

  pub sync_told : (ss : List Kept) (run before : ℕ) (p : Open) (ps : List Open) → told rs m since (record p { kept = true } ∷ ps) (as_kept (after_sync (ran run (kept_of p.kept ss))) run ∷ past p.kept ss) run before q ≡ along_by (frames_of run before (p ∷ ps) ss) sync (told rs m since (p ∷ ps) ss run before q)
  sync_told ss run before p ps =
      let x = ran run (kept_of p.kept ss) in
      kept_told ss run before p ps (after_sync x)
      ∙ ap (λ x. headed ps (past p.kept ss) p.gap (before - p.gap) (with_kept before p x) (before + run)) (sym (act-sync x))

  -- a frame's return to another one
  pub feed_told : (ss : List Kept) (run before : ℕ) (burdens : Burdens) (at : ℕ) (c p : Open) (ps : List Open) (x : States)
      → (let k = past c.kept ss in
      let f : Frame = frame_of run before c (kept_of c.kept ss) in
      AreLaid run before (c ∷ p ∷ ps) ss since → x ≡ after_return burdens f (ran c.gap (kept_of p.kept k)) →
      told rs m since (record p { kept = true } ∷ ps) (as_kept x (run + c.gap) ∷ past p.kept k) (run + c.gap) (before - c.gap) q ≡ ret_by (frames_of run before (c ∷ p ∷ ps) ss) burdens at (told rs m since (c ∷ p ∷ ps) ss run before q))
  feed_told ss run before burdens at c p ps x h e =
      let k = past c.kept ss in
      let f : Frame = frame_of run before c (kept_of c.kept ss) in
      let under = before - c.gap in
      kept_told k (run + c.gap) under p ps x
      ∙ ap₂ (λ x w. headed ps (past p.kept k) p.gap (under - p.gap) (with_kept under p x) w) (e ∙ sym (act-fed burdens f (ran c.gap (kept_of p.kept k)))) (omega (arith, h.1))

  -- the same where the frame was called and its states aren't kept
  skipped : (run gap counted : ℕ) (s : States) (burdens : Burdens) (at : ℕ) → counted ≤ gap
      → after_strand (run + gap - counted) s ≡ after_return_by Called burdens at (0 + (run - 0)) (0 + (run - 0)) (after_strand (gap - counted) s)
  skipped run gap counted s burdens at le =
      let p : s.plain.spine + (run + gap - counted) ≡ s.plain.spine + (gap - counted) + (0 + (run - 0)) = omega arith in
      let q : s.burdened.spine + (run + gap - counted) ≡ s.burdened.spine + (gap - counted) + (0 + (run - 0)) = omega arith in
      cc

  pub skip_told : (ss : List Kept) (run before : ℕ) (burdens : Burdens) (at : ℕ) (gap cat site func : ℕ) (kind : ChildKind) (kept : Bool) (os : List Open)
      → kind ≡ Called → kept ≡ false
      → (let c : Open = record { gap = gap; at = cat; site = site; func = func; kind = kind; kept = kept } in
      AreLaid run before (c ∷ os) ss since →
      told rs m since os ss (run + gap) (before - gap) q ≡ ret_by (frames_of run before (c ∷ os) ss) burdens at (told rs m since (c ∷ os) ss run before q))
  skip_told ss run before burdens at gap cat site func Called false [] ek ef h =
      let e : (gap - since) + (0 + (run - 0)) ≡ run + gap - since = omega (arith, h.3.0) in
      ap₂ (λ g w. let s : Sum = record { returns = rs; middle = g; frames = []; work = w; fault = q } in s)
      (ap (λ k. then m (strand k)) (sym e) ∙ sym (then_strands m (gap - since) (0 + (run - 0)))) (omega (arith, h.1))
  skip_told ss run before burdens at gap cat site func Called false (p ∷ ps) ek ef h =
      let f : Frame = record { kind = Called; at = cat; site = site; func = func; before = before; states = after_strand (run - 0) start } in
      let k = kept_of p.kept ss in
      let under = before - gap in
      ap₂ (λ x w. headed ps (past p.kept ss) p.gap (under - p.gap) (with_kept under p x) w)
      (skipped run gap k.counted k.states burdens cat h.3.0 ∙ sym (act-fed burdens f (ran gap k))) (omega (arith, h.1))
  skip_told ss run before burdens at gap cat site func Called true os ek ef h = absurd (cc)
  skip_told ss run before burdens at gap cat site func Spawned false os ek ef h = absurd (cc)
  skip_told ss run before burdens at gap cat site func Spawned true os ek ef h = absurd (cc)

-- ---- how large the sums get

le_greatest : (n : ℕ) (c : Option (ℕ × ℕ)) → n ≤ greatest n c
le_greatest n None = omega arith
le_greatest n (Some c) = omega arith

pub record Fits (x : States) (run : ℕ) (g : ClosingWeights) : Type 0 where
  pub plain : x.plain.spine + run + g.plain < 2 ^ 127
  pub burdened : x.burdened.spine + run + g.burdened < 2 ^ 127

pub feed_fits : (rs : List Unmatched) (m : Segs) (since : ℕ) (ss : List Kept) (run before : ℕ) (q : Option (ℕ × EventFault)) (burdens : ℕ) (c p : Open) (os ps : List Open) (x : Kept) (g : ClosingWeights)
    → os ≡ p ∷ ps → open_load (told rs m since (c ∷ os) ss run before q) + burdens < 2 ^ 127
    → x ≡ kept_of p.kept (past c.kept ss) → g ≡ weights_of (ran run (kept_of c.kept ss)) → Fits x.states (c.gap - x.counted) g
feed_fits rs m since ss run before q burdens c p os ps x g e load ex eg =
    let k = kept_of p.kept (past c.kept ss) in
    let s = k.states in
    let gone = c.gap - k.counted in
    let w = weights_of (ran run (kept_of c.kept ss)) in
    let l : open_load (told rs m since (c ∷ p ∷ ps) ss run before q) + burdens < 2 ^ 127 = subst (λ os. open_load (told rs m since (c ∷ os) ss run before q) + burdens < 2 ^ 127) e load in
    let a = le_greatest (s.plain.spine + gone) s.plain.child in
    let b = le_greatest (s.burdened.spine + gone) s.burdened.child in
    let f : Fits s gone w = record { plain = omega arith; burdened = omega arith } in
    subst (λ g. Fits x.states (c.gap - x.counted) g) (sym eg) (subst (λ (x : Kept). Fits x.states (c.gap - x.counted) w) (sym ex) f)

pub settle_fits : (rs : List Unmatched) (m : Segs) (since : ℕ) (ss : List Kept) (run before : ℕ) (q : Option (ℕ × EventFault)) (more : ℕ) (p : Open) (os ps : List Open) (x : Kept)
    → os ≡ p ∷ ps → open_load (told rs m since os ss run before q) + more < 2 ^ 127 → x ≡ kept_of p.kept ss → Fits x.states (run - x.counted) (record { plain = 0; burdened = 0 })
settle_fits rs m since ss run before q more p os ps x e load ex =
    let k = kept_of p.kept ss in
    let s = k.states in
    let gone = run - k.counted in
    let l : open_load (told rs m since (p ∷ ps) ss run before q) + more < 2 ^ 127 = subst (λ os. open_load (told rs m since os ss run before q) + more < 2 ^ 127) e load in
    let a = le_greatest (s.plain.spine + gone) s.plain.child in
    let b = le_greatest (s.burdened.spine + gone) s.burdened.child in
    let f : Fits s gone (record { plain = 0; burdened = 0 }) = record { plain = omega arith; burdened = omega arith } in
    subst (λ (x : Kept). Fits x.states (run - x.counted) (record { plain = 0; burdened = 0 })) (sym ex) f

-- ---- the order stays

pub laid_kept : (run before since : ℕ) (ss : List Kept) (p : Open) (ps : List Open) (x : States) → AreLaid run before (p ∷ ps) ss since → AreLaid run before (record p { kept = true } ∷ ps) (as_kept x run ∷ past p.kept ss) since
laid_kept run before since ss p ps x h = (omega arith, h.1, tt, h.3)

pub laid_later : (run more before since : ℕ) (ss : List Kept) (os : List Open) → run ≤ more → AreLaid run before os ss since → AreLaid more before os ss since
laid_later run more before since ss [] le h = (omega (arith, h.0), h.1, h.2)
laid_later run more before since ss (o ∷ os) le h = (omega (arith, h.0), h.1, h.2, h.3)

-- where a frame that is open no longer ran
pub laid_under : (run before since : ℕ) (ss : List Kept) (c : Open) (os : List Open) → AreLaid run before (c ∷ os) ss since → AreLaid (run + c.gap) (before - c.gap) os (past c.kept ss) since
laid_under run before since ss c os h = laid_later c.gap (run + c.gap) (before - c.gap) since (past c.kept ss) os (omega arith) h.3

pub laid_skipped : (run before since : ℕ) (ss : List Kept) (c : Open) (os : List Open) → c.kept ≡ false → AreLaid run before (c ∷ os) ss since → AreLaid (run + c.gap) (before - c.gap) os ss since
laid_skipped run before since ss c os e h =
    subst (λ k. AreLaid (run + c.gap) (before - c.gap) os (past k ss) since) e (laid_under run before since ss c os h)

-- ---- the lists as they lie, the innermost last

some_kept : (k : Bool) (ts : List Kept) → k ≡ true → HasKept k (reverse ts) → 0 < length ts
some_kept true [] e h = absurd h
some_kept false [] e h = absurd (cc)
some_kept k (t ∷ ts) e h = omega arith

pub top_kept : (run before since : ℕ) (xs : List Open) (ts : List Kept) (p : Open) (ps : List Open) → reverse xs ≡ p ∷ ps → p.kept ≡ true → AreLaid run before (reverse xs) (reverse ts) since → 0 < length ts
top_kept run before since xs ts p ps e k h =
    let g : AreLaid run before (p ∷ ps) (reverse ts) since = subst (λ os. AreLaid run before os (reverse ts) since) e h in
    some_kept p.kept ts k g.2

-- no more of it is counted than has run
pub top_counted : (run before since : ℕ) (os ps : List Open) (p : Open) (ss : List Kept) (k : Kept) → os ≡ p ∷ ps → k ≡ kept_of p.kept ss → AreLaid run before os ss since → k.counted ≤ run
top_counted run before since os ps p ss k e is h =
    let g : AreLaid run before (p ∷ ps) ss since = subst (λ os. AreLaid run before os ss since) e h in
    omega (arith, g.0, ap (λ (k : Kept). k.counted) is)

-- no more of the outermost frame's strand is done than there is
pub laid_since : (run before since : ℕ) (os : List Open) (ss : List Kept) → AreLaid run before os ss since → since ≤ outside run os
laid_since run before since [] ss h = h.0
laid_since run before since (o ∷ os) ss h = laid_since o.gap (before - o.gap) since os (past o.kept ss) h.3

pub outside_within : (run before since : ℕ) (os : List Open) (ss : List Kept) → AreLaid run before os ss since → outside run os ≤ before + run
outside_within run before since [] ss h = omega arith
outside_within run before since (o ∷ os) ss h = omega (arith, h.1, outside_within o.gap (before - o.gap) since os (past o.kept ss) h.3)

pub laid_from : (run before since : ℕ) (os : List Open) (ss : List Kept) → AreLaid run before os ss since → AreLaid run before os ss 0
laid_from run before since [] ss h = (omega arith, h.1, h.2)
laid_from run before since (o ∷ os) ss h = (h.0, h.1, h.2, laid_from o.gap (before - o.gap) since os (past o.kept ss) h.3)

module _ (rs : List Unmatched) (m : Segs) (since : ℕ) (q : Option (ℕ × EventFault)) (run before : ℕ) (xs zs : List Open) (ts us : List Kept) (p : Open) (s x : Kept) where
  pub record Now (n b : ℕ) (t : Sum) : Type 0 where
    pub value : told rs m since (reverse zs) (reverse us) n b q ≡ t
    pub laid : AreLaid n b (reverse zs) (reverse us) since

  pub sync_ends : Ends xs zs p p → Ends ts us s x → p.kept ≡ true → x ≡ as_kept (after_sync (ran run s)) run → AreLaid run before (reverse xs) (reverse ts) since
      → Now run before (along_by (frames_of run before (reverse xs) (reverse ts)) sync (told rs m since (reverse xs) (reverse ts) run before q))
  sync_ends o t e ex h =
      let b = t.below in
      let ss = s ∷ b in
      let kept : s ≡ kept_of p.kept ss = sym (ap (λ k. kept_of k ss) e) in
      let rest : b ≡ past p.kept ss = sym (ap (λ k. past k ss) e) in
      let top = ap (λ k. let y : Open = record p { kept = k } in y) e in
      let now = after_sync (ran run (kept_of p.kept ss)) in
      let states : reverse us ≡ as_kept now run ∷ past p.kept ss = t.new ∙ ap₂ (λ y ys. y ∷ ys) (ex ∙ ap (λ k. as_kept (after_sync (ran run k)) run) kept) rest in
      let opens : reverse zs ≡ record p { kept = true } ∷ o.below = o.new ∙ ap (λ y. y ∷ o.below) top in
      let g : AreLaid run before (p ∷ o.below) ss since = subst (λ os. AreLaid run before os ss since) o.old (subst (λ ss. AreLaid run before (reverse xs) ss since) t.old h) in
      record {
        value = ap₂ (λ os ss. told rs m since os ss run before q) opens states ∙ sync_told rs m since q ss run before p o.below
            ∙ sym (ap₂ (λ os ss. along_by (frames_of run before os ss) sync (told rs m since os ss run before q)) o.old t.old);
        laid = subst (λ os. AreLaid run before os (reverse us) since) (sym opens) (subst (λ ss. AreLaid run before (record p { kept = true } ∷ o.below) ss since) (sym states) (laid_kept run before since ss p o.below now g));
      }

  pub feed_ends : (ss : List Kept) (burdens : Burdens) (at : ℕ) (c y : Open) → Ends xs zs p y → y ≡ record p { kept = true } → Ends ts us s x
      → reverse ts ≡ kept_of p.kept (past c.kept ss) ∷ past p.kept (past c.kept ss)
      → x ≡ as_kept (after_return burdens (frame_of run before c (kept_of c.kept ss)) (ran c.gap s)) (run + c.gap) → AreLaid run before (c ∷ reverse xs) ss since
      → Now (run + c.gap) (before - c.gap) (ret_by (frames_of run before (c ∷ reverse xs) ss) burdens at (told rs m since (c ∷ reverse xs) ss run before q))
  feed_ends ss burdens at c y o ey t et ex h =
      let k = past c.kept ss in
      let f : Frame = frame_of run before c (kept_of c.kept ss) in
      let both : s ∷ t.below ≡ kept_of p.kept k ∷ past p.kept k = sym t.old ∙ et in
      let kept : s ≡ kept_of p.kept k = cc in
      let rest : t.below ≡ past p.kept k = cc in
      let now = after_return burdens f (ran c.gap (kept_of p.kept k)) in
      let done : x ≡ as_kept now (run + c.gap) = ex ∙ ap (λ s. as_kept (after_return burdens f (ran c.gap s)) (run + c.gap)) kept in
      let states : reverse us ≡ as_kept now (run + c.gap) ∷ past p.kept k = t.new ∙ ap₂ (λ y ys. y ∷ ys) done rest in
      let top : Open = record p { kept = true } in
      let opens : reverse zs ≡ top ∷ o.below = o.new ∙ ap (λ y. y ∷ o.below) ey in
      let g : AreLaid run before (c ∷ p ∷ o.below) ss since = subst (λ os. AreLaid run before (c ∷ os) ss since) o.old h in
      record {
        value = ap₂ (λ os ss. told rs m since os ss (run + c.gap) (before - c.gap) q) opens states ∙ feed_told rs m since q ss run before burdens at c p o.below now g refl
            ∙ sym (ap (λ os. ret_by (frames_of run before (c ∷ os) ss) burdens at (told rs m since (c ∷ os) ss run before q)) o.old);
        laid = subst (λ os. AreLaid (run + c.gap) (before - c.gap) os (reverse us) since) (sym opens) (subst (λ ss. AreLaid (run + c.gap) (before - c.gap) (top ∷ o.below) ss since) (sym states) (laid_kept (run + c.gap) (before - c.gap) since k p o.below now (laid_under run before since ss c (p ∷ o.below) g)));
      }

  pub settle_ends : (k : List Kept) (g : Segs) (next : ℕ) (y : Open) → Ends xs zs p y → y ≡ record p { kept = true } → Ends ts us s x
      → reverse ts ≡ kept_of p.kept k ∷ past p.kept k → x ≡ as_kept (act g (ran run s)) next → AreLaid run before (reverse xs) k since
      → Now next before (with_work (before + next) (along_by (frames_of run before (reverse xs) k) g (told rs m since (reverse xs) k run before q)))
  settle_ends k g next y o ey t et ex h =
      let both : s ∷ t.below ≡ kept_of p.kept k ∷ past p.kept k = sym t.old ∙ et in
      let kept : s ≡ kept_of p.kept k = cc in
      let rest : t.below ≡ past p.kept k = cc in
      let now = act g (ran run (kept_of p.kept k)) in
      let done : x ≡ as_kept now next = ex ∙ ap (λ s. as_kept (act g (ran run s)) next) kept in
      let states : reverse us ≡ as_kept now next ∷ past p.kept k = t.new ∙ ap₂ (λ y ys. y ∷ ys) done rest in
      let top : Open = record p { kept = true } in
      let opens : reverse zs ≡ top ∷ o.below = o.new ∙ ap (λ y. y ∷ o.below) ey in
      let l : AreLaid run before (p ∷ o.below) k since = subst (λ os. AreLaid run before os k since) o.old h in
      record {
        value = ap₂ (λ os ss. told rs m since os ss next before q) opens states ∙ kept_told rs m since q k next before p o.below now
            ∙ sym (ap (λ os. with_work (before + next) (along_by (frames_of run before os k) g (told rs m since os k run before q))) o.old);
        laid = subst (λ os. AreLaid next before os (reverse us) since) (sym opens) (subst (λ ss. AreLaid next before (top ∷ o.below) ss since) (sym states) (omega arith, l.1, tt, l.3));
      }
