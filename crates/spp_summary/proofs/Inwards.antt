-- The frames as they are kept, from the outermost on.
use Rattle.std.proofs.Common.{◌≡◌, ℕ, suc, ◌+◌, ◌-◌, ◌≤◌, ◌<◌, Bool, true, false, refl, arith, sym, ◌∙◌, ap, ap₂, subst, List, [], ◌∷◌, ◌++◌, length, reverse, drop, get_or}
use Rattle.std.proofs.lemmas.List.{append-nil, reverse-reverse}
use Rattle.std.proofs.Math.Seq.{drop-cons}
use mathlib.Core.List.{reverse-cons}
use Rattle.spp_piece.specs.Bound.{load_frames}
use Rattle.spp_summary.specs.declared.opens.Open.{Open}
use Rattle.spp_summary.specs.declared.opens.Kept.{Kept}
use Rattle.spp_piece.specs.declared.pieces.Frame.{Frame}
use Rattle.spp_summary.specs.KeptFrames.{kept_of, past, HasKept, frame_of, frames_of, AreLaid, run_within, frames_inwards, work_within, AreLaidInwards}

-- one more behind these
run_more : (run : ℕ) (xs : List Open) (o : Open) → run_within run (xs ++ o ∷ []) ≡ run_within o.gap xs
run_more run [] o = refl
run_more run (x ∷ xs) o = refl

kept_front : (b : Bool) (ks ts : List Kept) → HasKept b ks → kept_of b (ks ++ ts) ≡ kept_of b ks
kept_front false ks ts h = refl
kept_front true [] ts h = absurd h
kept_front true (k ∷ ks) ts h = refl

past_front : (b : Bool) (ks ts : List Kept) → HasKept b ks → past b (ks ++ ts) ≡ past b ks ++ ts
past_front false ks ts h = refl
past_front true [] ts h = absurd h
past_front true (k ∷ ks) ts h = refl

has_front : (b : Bool) (ks ts : List Kept) → HasKept b ks → HasKept b (ks ++ ts)
has_front false ks ts h = tt
has_front true [] ts h = absurd h
has_front true (k ∷ ks) ts h = tt

inwards_more : (run before : ℕ) (xs : List Open) (o : Open) (ks ts : List Kept) → AreLaidInwards o.gap xs ks
    → frames_inwards run before (xs ++ o ∷ []) (ks ++ ts) ≡ frames_inwards o.gap before xs ks ++ frame_of run (work_within before xs + o.gap) o (kept_of o.kept ts) ∷ []
inwards_more run before [] o ks ts h = ap (λ (l : List Kept). frame_of run (before + o.gap) o (kept_of o.kept l) ∷ []) (ap (λ (l : List Kept). l ++ ts) h)
inwards_more run before (x ∷ xs) o ks ts h =
    ap₂ (λ (f : Frame) (fs : List Frame). f ∷ fs)
    (ap₂ (λ (r : ℕ) (k : Kept). frame_of r (before + x.gap) x k) (run_more run xs o) (kept_front x.kept ks ts h.1))
    (ap (λ (l : List Kept). frames_inwards run (before + x.gap) (xs ++ o ∷ []) l) (past_front x.kept ks ts h.1) ∙ inwards_more run (before + x.gap) xs o (past x.kept ks) ts h.2)

laid_more : (run : ℕ) (xs : List Open) (o : Open) (ks ts : List Kept) → AreLaidInwards o.gap xs ks → (kept_of o.kept ts).counted ≤ run → HasKept o.kept ts → past o.kept ts ≡ []
    → AreLaidInwards run (xs ++ o ∷ []) (ks ++ ts)
laid_more run [] o ks ts h counted has end = subst (λ (l : List Kept). AreLaidInwards run (o ∷ []) (l ++ ts)) (sym h) (counted, has, end)
laid_more run (x ∷ xs) o ks ts h counted has end =
    let a : (kept_of x.kept (ks ++ ts)).counted ≤ run_within run (xs ++ o ∷ []) =
    subst (λ (r : ℕ). (kept_of x.kept (ks ++ ts)).counted ≤ r) (sym (run_more run xs o)) (subst (λ (k : Kept). k.counted ≤ run_within o.gap xs) (sym (kept_front x.kept ks ts h.1)) h.0) in
    (a, has_front x.kept ks ts h.1, subst (λ (l : List Kept). AreLaidInwards run (xs ++ o ∷ []) l) (sym (past_front x.kept ks ts h.1)) (laid_more run xs o (past x.kept ks) ts h.2 counted has end))

work_more : (before : ℕ) (xs : List Open) (o : Open) → work_within before (xs ++ o ∷ []) ≡ work_within before xs + o.gap
work_more before [] o = refl
work_more before (x ∷ xs) o = work_more (before + x.gap) xs o

-- the kept states, the last of which may be those of the innermost frame
record Ends (b : Bool) (ss : List Kept) : Type 0 where
  last : List Kept
  are : reverse ss ≡ reverse (past b ss) ++ last
  kept : kept_of b last ≡ kept_of b ss
  has : HasKept b last
  rest : past b last ≡ []

ends : (b : Bool) (ss : List Kept) → HasKept b ss → Ends b ss
ends false ss h = record { last = []; are = sym (append-nil (reverse ss)); kept = refl; has = tt; rest = refl }
ends true [] h = absurd h
ends true (s ∷ ss) h = record { last = s ∷ []; are = reverse-cons s ss; kept = refl; has = tt; rest = refl }

pub record Inwards (run before : ℕ) (os : List Open) (ss : List Kept) : Type 0 where
  pub frames : reverse (frames_of run before os ss) ≡ frames_inwards run 0 (reverse os) (reverse ss)
  pub laid : AreLaidInwards run (reverse os) (reverse ss)
  pub work : work_within 0 (reverse os) ≡ before

-- those that are told from the innermost on are told from the outermost on
pub inwards : (run before since : ℕ) (os : List Open) (ss : List Kept) → AreLaid run before os ss since → Inwards run before os ss
inwards run before since [] ss h = record { frames = refl; laid = ap reverse h.2; work = sym h.1 }
inwards run before since (o ∷ os) ss h =
    let e = ends o.kept ss h.2 in
    let r = inwards o.gap (before - o.gap) since os (past o.kept ss) h.3 in
    let ks = reverse (past o.kept ss) in
    let sum : work_within 0 (reverse os) + o.gap ≡ before = let w = r.work in let le = h.1 in omega arith in
    let back : reverse (o ∷ os) ≡ reverse os ++ o ∷ [] = reverse-cons o os in
    record {
      frames = reverse-cons (frame_of run before o (kept_of o.kept ss)) (frames_of o.gap (before - o.gap) os (past o.kept ss)) ∙ sym (
          ap (λ (l : List Open). frames_inwards run 0 l (reverse ss)) back
          ∙ ap (λ (l : List Kept). frames_inwards run 0 (reverse os ++ o ∷ []) l) e.are
          ∙ inwards_more run 0 (reverse os) o ks e.last r.laid
          ∙ ap (λ (l : List Frame). l ++ frame_of run (work_within 0 (reverse os) + o.gap) o (kept_of o.kept e.last) ∷ []) (sym r.frames)
          ∙ ap₂ (λ (w : ℕ) (k : Kept). reverse (frames_of o.gap (before - o.gap) os (past o.kept ss)) ++ frame_of run w o k ∷ []) sum e.kept
          );
      laid = subst (λ (l : List Open). AreLaidInwards run l (reverse ss)) (sym back) (subst (λ (l : List Kept). AreLaidInwards run (reverse os ++ o ∷ []) l) (sym e.are)
          (laid_more run (reverse os) o ks e.last r.laid (subst (λ (k : Kept). k.counted ≤ run) (sym e.kept) h.0) e.has e.rest));
      work = ap (λ (l : List Open). work_within 0 l) back ∙ work_more 0 (reverse os) o ∙ sum;
    }

load_both : (xs ys : List Frame) → load_frames (xs ++ ys) ≡ load_frames xs + load_frames ys
load_both [] ys = omega arith
load_both (x ∷ xs) ys = let h = load_both xs ys in omega arith

load_reverse : (fs : List Frame) → load_frames (reverse fs) ≡ load_frames fs
load_reverse [] = refl
load_reverse (f ∷ fs) = let a = load_both (reverse fs) (f ∷ []) in let b = load_reverse fs in ap load_frames (reverse-cons f fs) ∙ omega arith

-- what is told of lists that lie the outermost first
pub record FromOutside (run before : ℕ) (opens : List Open) (states : List Kept) : Type 0 where
  pub frames : reverse (frames_of run before (reverse opens) (reverse states)) ≡ frames_inwards run 0 opens states
  pub laid : AreLaidInwards run opens states
  pub load : load_frames (frames_inwards run 0 opens states) ≡ load_frames (frames_of run before (reverse opens) (reverse states))
  pub work : work_within 0 opens ≡ before

pub from_outside : (run before since : ℕ) (opens : List Open) (states : List Kept) → AreLaid run before (reverse opens) (reverse states) since → FromOutside run before opens states
from_outside run before since opens states h =
    let o = inwards run before since (reverse opens) (reverse states) h in
    let a : reverse (reverse opens) ≡ opens = reverse-reverse opens in
    let b : reverse (reverse states) ≡ states = reverse-reverse states in
    let frames : reverse (frames_of run before (reverse opens) (reverse states)) ≡ frames_inwards run 0 opens states = o.frames ∙ ap₂ (λ (os : List Open) (ss : List Kept). frames_inwards run 0 os ss) a b in
    record {
      frames = frames;
      laid = subst (λ (os : List Open). AreLaidInwards run os states) a (subst (λ (ss : List Kept). AreLaidInwards run (reverse (reverse opens)) ss) b o.laid);
      load = ap load_frames (sym frames) ∙ load_reverse (frames_of run before (reverse opens) (reverse states));
      work = ap (λ (os : List Open). work_within 0 os) (sym a) ∙ o.work;
    }

pub work_grows : (before : ℕ) (os : List Open) → before ≤ work_within before os
work_grows before [] = omega arith
work_grows before (o ∷ os) = let h = work_grows (before + o.gap) os in omega arith

-- the one that is read next, and those behind it
pub drop_next : {X : Type 0} (xs : List X) (k : ℕ) (x : X) → k < length xs → x ≡ get_or xs k x → drop k xs ≡ x ∷ drop (k + 1) xs
drop_next xs k x l e =
    drop-cons xs k x l ∙ ap (λ y. y ∷ drop (suc k) xs) (sym e) ∙ ap (λ (j : ℕ). x ∷ drop j xs) (let s : suc k ≡ k + 1 = omega arith in s)
