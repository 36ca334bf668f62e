-- The machine with weights alone keeps what the machine has.
use Rattle.std.proofs.Common.{◌≡◌, ℕ, ◌+◌, ◌*◌, ◌<◌, ◌≤◌, List, [], ◌∷◌, length, map, Option, Some, None, Ok, Err, refl, sym, ap, subst, ◌∙◌, arith}
use Rattle.std.specs.Prelude.{option_map}
use Rattle.std.proofs.lemmas.List.{length-map}
use Rattle.spp_event.specs.declared.records.Event.{Event}
use Rattle.spp_event.specs.declared.records.Event.TheVariants.{Strand, Call, Spawn, Ret, Sync}
use Rattle.spp_event.specs.declared.records.EventFault.{EventFault}
use Rattle.spp_event.specs.Recordings.{Record, record_at}
use Rattle.spp_frame.specs.declared.Why.TheVariants as why
use Rattle.spp_frame.specs.Nesting.{weight, IsFirstBad}
use Rattle.spp_maxplus.specs.declared.state.Burdens.{Burdens}
use Rattle.spp_maxplus.specs.declared.state.State.{State}
use Rattle.spp_maxplus.specs.declared.child.ChildKind.TheVariants as child
use Rattle.spp_maxplus.specs.Weights.{close, weights_of}
use Rattle.spp_maxplus.proofs.WeightsOf as one
use Rattle.spp_maxplus.proofs.WeightsOf.{close_kept}
use Rattle.spp_maxplus.specs.State as state
use Rattle.spp_dag.specs.declared.stack.OpenFrame.{OpenFrame}
use Rattle.spp_dag.specs.declared.stack.FrameKind.{FrameKind}
use Rattle.spp_dag.specs.declared.stack.FrameKind.TheVariants.{Root, Called, Spawned}
use Rattle.spp_dag.specs.Stack as machine
use Rattle.spp_dag.specs.Limits as sums
use Rattle.spp_dag.specs.Figures.{AreFigures}
use Rattle.spp_pass.specs.LeanFrames.{LeanFrame}
use Rattle.spp_pass.specs.LeanFrames.{new_frame, after_child, advance, plain_sum, burdened_sum, kept}
use Rattle.spp_piece.proofs.Reached.{Reached, reached_none, reached_more, bad_event, root_return, left_open, all_reached}

-- ---- one state

child_kept : (burdens : Burdens) (kind : FrameKind) (at w : ℕ) (s : State)
    → after_child burdens kind w (weights_of s) ≡ weights_of (machine.after_child burdens kind at w s)
child_kept burdens Root at w s = refl
child_kept burdens Called at w s = one.child_kept burdens child.Called at w s
child_kept burdens Spawned at w s = one.child_kept burdens child.Spawned at w s

-- ---- the open frames

pub plain_kept : (fs : List OpenFrame) → plain_sum (map kept fs) ≡ sums.plain_sum fs
plain_kept [] = refl
plain_kept (f ∷ fs) = let a = close_kept f.plain in let b = plain_kept fs in omega arith

pub burdened_kept : (fs : List OpenFrame) → burdened_sum (map kept fs) ≡ sums.burdened_sum fs
burdened_kept [] = refl
burdened_kept (f ∷ fs) = let a = close_kept f.burdened in let b = burdened_kept fs in omega arith

advance_kept : (burdens : Burdens) (i : ℕ) (e : Event) (fs : List OpenFrame)
    → advance burdens e (map kept fs) ≡ option_map (map kept) (machine.advance burdens i e fs)
advance_kept burdens i e [] = refl
advance_kept burdens i (Strand n) (f ∷ fs) = refl
advance_kept burdens i (Call s u) (f ∷ fs) = refl
advance_kept burdens i (Spawn s u) (f ∷ fs) = refl
advance_kept burdens i Sync (f ∷ fs) =
    ap (λ k. Some (record { kind = f.kind; plain = k; burdened = record { spine = close (weights_of f.burdened); child = 0 } } ∷ map kept fs)) (ap (λ n. record { spine = n; child = 0 }) (close_kept f.plain))
    ∙ ap (λ k. Some (record { kind = f.kind; plain = weights_of (state.after_sync f.plain); burdened = k } ∷ map kept fs)) (ap (λ n. record { spine = n; child = 0 }) (close_kept f.burdened))
advance_kept burdens i Ret (f ∷ []) = refl
advance_kept burdens i Ret (f ∷ g ∷ fs) =
    ap (λ k. Some (record { kind = g.kind; plain = after_child state.unburdened f.kind k (weights_of g.plain); burdened = after_child burdens f.kind (close (weights_of f.burdened)) (weights_of g.burdened) } ∷ map kept fs)) (close_kept f.plain)
    ∙ ap (λ k. Some (record { kind = g.kind; plain = after_child state.unburdened f.kind (state.close f.plain) (weights_of g.plain); burdened = after_child burdens f.kind k (weights_of g.burdened) } ∷ map kept fs)) (close_kept f.burdened)
    ∙ ap (λ k. Some (record { kind = g.kind; plain = k; burdened = after_child burdens f.kind (state.close f.burdened) (weights_of g.burdened) } ∷ map kept fs)) (child_kept state.unburdened f.kind f.at (state.close f.plain) g.plain)
    ∙ ap (λ k. Some (record { kind = g.kind; plain = weights_of (machine.after_child state.unburdened f.kind f.at (state.close f.plain) g.plain); burdened = k } ∷ map kept fs)) (child_kept burdens f.kind f.at (state.close f.burdened) g.burdened)

-- what opening a frame does
pub opens_call : (burdens : Burdens) (site func : ℕ) (ls ms : List LeanFrame) → ((f : LeanFrame) × (below : List LeanFrame) × (ls ≡ f ∷ below))
    → ms ≡ new_frame Called ∷ ls → advance burdens (Call site func) ls ≡ Some ms
opens_call burdens site func ls ms some e =
    subst (λ (xs : List LeanFrame). advance burdens (Call site func) xs ≡ Some (new_frame Called ∷ xs)) (sym some.2) refl ∙ ap (λ (xs : List LeanFrame). Some xs) (sym e)

pub opens_spawn : (burdens : Burdens) (site func : ℕ) (ls ms : List LeanFrame) → ((f : LeanFrame) × (below : List LeanFrame) × (ls ≡ f ∷ below))
    → ms ≡ new_frame Spawned ∷ ls → advance burdens (Spawn site func) ls ≡ Some ms
opens_spawn burdens site func ls ms some e =
    subst (λ (xs : List LeanFrame). advance burdens (Spawn site func) xs ≡ Some (new_frame Spawned ∷ xs)) (sym some.2) refl ∙ ap (λ (xs : List LeanFrame). Some xs) (sym e)

-- the machine goes on where this one does
follows : (o : Option (List OpenFrame)) (ms : List LeanFrame) → option_map (map kept) o ≡ Some ms → (gs : List OpenFrame) × (o ≡ Some gs) × (ms ≡ map kept gs)
follows None ms h = absurd (cc)
follows (Some gs) ms h = (gs, refl, some_parts h)
  where
    some_parts : Some (map kept gs) ≡ Some ms → ms ≡ map kept gs
    some_parts e = cc

stops : (o : Option (List OpenFrame)) → option_map (map kept) o ≡ None → o ≡ None
stops None h = refl
stops (Some gs) h = absurd (cc)

-- ---- how far it has come

-- the machine has come to frames of which these are kept
pub record Kept (rs : List Record) (burdens : Burdens) (root at w : ℕ) (ls : List LeanFrame) : Type 0 where
  pub frames : List OpenFrame
  pub are : ls ≡ map kept frames
  pub reached : Reached rs burdens root at w frames
  pub plain : plain_sum ls ≤ w
  pub burdened : burdened_sum ls ≤ w + 8589934592 * at
  pub small : w ≤ 18446744073709551615 * at

keeps : (rs : List Record) (burdens : Burdens) (root at w : ℕ) (ls : List LeanFrame) (fs : List OpenFrame) → ls ≡ map kept fs → Reached rs burdens root at w fs → Kept rs burdens root at w ls
keeps rs burdens root at w ls fs e r = record {
  frames = fs;
  are = e;
  reached = r;
  plain = subst (λ (xs : List LeanFrame). plain_sum xs ≤ w) (sym e) (let a = plain_kept fs in let b = r.plain in omega arith);
  burdened = subst (λ (xs : List LeanFrame). burdened_sum xs ≤ w + 8589934592 * at) (sym e) (let a = burdened_kept fs in let b = r.burdened in omega arith);
  small = r.small;
}

pub kept_none : (rs : List Record) (burdens : Burdens) (root : ℕ) → Kept rs burdens root 0 0 (new_frame Root ∷ [])
kept_none rs burdens root = keeps rs burdens root 0 0 (new_frame Root ∷ []) (machine.root_frame root ∷ []) refl (reached_none rs burdens root)

-- one more record, at which it goes on
pub kept_more : (rs : List Record) (burdens : Burdens) (root at w v : ℕ) (e : Event) (ls ms : List LeanFrame)
    → burdens.continuation + burdens.join ≤ 8589934592 → weight (Ok e) ≤ 18446744073709551615
    → at < length rs → record_at rs at ≡ Ok e → advance burdens e ls ≡ Some ms → v ≡ w + weight (Ok e)
    → Kept rs burdens root at w ls → Kept rs burdens root (at + 1) v ms
kept_more rs burdens root at w v e ls ms light short lt is adv works k =
    let here : advance burdens e (map kept k.frames) ≡ Some ms = subst (λ (xs : List LeanFrame). advance burdens e xs ≡ Some ms) k.are adv in
    let next = follows (machine.advance burdens at e k.frames) ms (sym (advance_kept burdens at e k.frames) ∙ here) in
    keeps rs burdens root (at + 1) v ms next.0 next.2 (reached_more rs burdens root at w v e k.frames next.0 light short lt is next.1 works k.reached)

pub kept_bad : (rs : List Record) (burdens : Burdens) (root at w : ℕ) (ls : List LeanFrame) (fault : EventFault)
    → at < length rs → record_at rs at ≡ Err fault → Kept rs burdens root at w ls → IsFirstBad rs (record { at = at; why = why.Event fault })
kept_bad rs burdens root at w ls fault lt is k = bad_event rs burdens root at w k.frames fault lt is k.reached

pub kept_return : (rs : List Record) (burdens : Burdens) (root at w : ℕ) (ls : List LeanFrame)
    → at < length rs → record_at rs at ≡ Ok Ret → advance burdens Ret ls ≡ None → Kept rs burdens root at w ls
    → IsFirstBad rs (record { at = at; why = why.RootReturn })
kept_return rs burdens root at w ls lt is stop k =
    let here : advance burdens Ret (map kept k.frames) ≡ None = subst (λ (xs : List LeanFrame). advance burdens Ret xs ≡ None) k.are stop in
    root_return rs burdens root at w k.frames lt is (stops (machine.advance burdens at Ret k.frames) (sym (advance_kept burdens at Ret k.frames) ∙ here)) k.reached

length_kept : (ls : List LeanFrame) (fs : List OpenFrame) → ls ≡ map kept fs → length ls ≡ length fs
length_kept ls fs e = ap (λ (xs : List LeanFrame). length xs) e ∙ length-map fs kept

pub kept_open : (rs : List Record) (burdens : Burdens) (root at w end d : ℕ) (ls : List LeanFrame)
    → at ≡ length rs → end ≡ length rs → d + 1 ≡ length ls → 0 < d → Kept rs burdens root at w ls
    → IsFirstBad rs (record { at = end; why = why.Unclosed d })
kept_open rs burdens root at w end d ls last e deep pos k =
    left_open rs burdens root at w end d k.frames last e (deep ∙ length_kept ls k.frames k.are) pos k.reached

-- at the end the root frame is open alone, and its two weights are the spans
pub all_kept : (rs : List Record) (burdens : Burdens) (root at w : ℕ) (l : LeanFrame) (ls : List LeanFrame)
    → at ≡ length rs → length (l ∷ ls) ≡ 1 → Kept rs burdens root at w (l ∷ ls)
    → AreFigures rs burdens (record { work = w; span = close l.plain; burdened = close l.burdened })
all_kept rs burdens root at w l ls last alone k = by k.frames k.are k.reached
  where
    by : (fs : List OpenFrame) → l ∷ ls ≡ map kept fs → Reached rs burdens root at w fs
        → AreFigures rs burdens (record { work = w; span = close l.plain; burdened = close l.burdened })
    by [] e r = absurd (cc)
    by (f ∷ fs) e r =
        let same : l ≡ kept f = cc in
        let count : length (f ∷ fs) ≡ 1 = sym (length_kept (l ∷ ls) (f ∷ fs) e) ∙ alone in
        subst (λ (m : LeanFrame). AreFigures rs burdens (record { work = w; span = close m.plain; burdened = close m.burdened })) (sym same)
        (subst (λ n. AreFigures rs burdens (record { work = w; span = n; burdened = close (weights_of f.burdened) })) (sym (close_kept f.plain))
        (subst (λ n. AreFigures rs burdens (record { work = w; span = state.close f.plain; burdened = n })) (sym (close_kept f.burdened))
        (all_reached rs burdens root at w f fs last count r)))
