-- What a summary makes of the root frame alone.
use Rattle.std.proofs.Common.{◌≡◌, ℕ, suc, ◌+◌, ◌<◌, List, [], ◌∷◌, length, get_or, Option, Some, None, Result, Ok, Err, refl, ◌∙◌, ap, arith}
use Rattle.spp_maxplus.specs.declared.state.Burdens.{Burdens}
use Rattle.spp_event.specs.declared.records.EventFault.{EventFault}
use Rattle.spp_frame.specs.declared.Fault.{Fault}
use Rattle.spp_frame.specs.declared.Why.TheVariants.{Event as Record, RootReturn, Unclosed}
use Rattle.spp_piece.specs.declared.segs.Segs.{Segs}
use Rattle.spp_piece.specs.declared.pieces.Frame.{Frame}
use Rattle.spp_piece.specs.declared.pieces.Unmatched.{Unmatched}
use Rattle.spp_piece.specs.Pair.{act, start}
use Rattle.spp_piece.specs.Stack.{Stack}
use Rattle.spp_piece.specs.Machine.{Ops}
use Rattle.spp_piece.specs.Summary.{later, play_returns, play_frames, play_fault}
use Rattle.spp_piece.specs.Action.{stack_ops, action}
use Rattle.spp_piece.specs.Account.{at_start}
use Rattle.spp_piece.specs.Ends.{figures_of}
use Rattle.spp_piece.proofs.EventSteps.{sum}

module _ (burdens : Burdens) where
  abbrev o : Ops (Result Stack Fault)
  o = stack_ops burdens

  stopped_returns : (rs : List Unmatched) (e : Fault) → play_returns o rs (Err e) ≡ Err e
  stopped_returns [] e = refl
  stopped_returns (r ∷ rs) e = stopped_returns rs e

  stopped_frames : (fs : List Frame) (e : Fault) → play_frames o fs (Err e) ≡ Err e
  stopped_frames [] e = refl
  stopped_frames (f ∷ fs) e = ap (o.push f) (stopped_frames fs e)

  stopped_fault : (q : Option (ℕ × EventFault)) (e : Fault) → play_fault o q (Err e) ≡ Err e
  stopped_fault None e = refl
  stopped_fault (Some q) e = refl

  -- the stack with these frames on it
  pushed_all : List Frame → Stack → Stack
  pushed_all [] s = s
  pushed_all (f ∷ fs) s =
      let t = pushed_all fs s in record { frames = later t.work f ∷ t.frames; root = t.root; work = t.work }

  frames_ok : (fs : List Frame) (s : Stack) → play_frames o fs (Ok s) ≡ Ok (pushed_all fs s)
  unfolding pushed_all
  frames_ok [] s = refl
  frames_ok (f ∷ fs) s = ap (o.push f) (frames_ok fs s)

  frames_count : (fs : List Frame) (s : Stack) → length (pushed_all fs s).frames ≡ length fs + length s.frames
  unfolding pushed_all
  frames_count [] s = omega arith
  frames_count (f ∷ fs) s = omega (arith, frames_count fs s)

  abbrev after : Segs → Stack
  after m = record { frames = []; root = act m start; work = 0 }

  pub root_return : (end : ℕ) (rs : List Unmatched) (m : Segs) (fs : List Frame) (w : ℕ) (q : Option (ℕ × EventFault)) (d : Unmatched) → 0 < length rs → figures_of end (action burdens (sum rs m fs w q) (Ok at_start)) ≡ Err (record { at = (get_or rs 0 d).at; why = RootReturn })
  root_return end [] m fs w q d h = absurd (omega arith)
  root_return end (r ∷ rs) m fs w q d h =
      let e : Fault = record { at = r.at; why = RootReturn } in
      ap (λ x. figures_of end (play_fault o q (o.worked w (play_frames o fs (o.along m x))))) (stopped_returns rs e)
      ∙ ap (λ x. figures_of end (play_fault o q (o.worked w x))) (stopped_frames fs e)
      ∙ ap (figures_of end) (stopped_fault q e)

  bad_parts : (end : ℕ) (rs : List Unmatched) (m : Segs) (fs : List Frame) (w : ℕ) (q : ℕ × EventFault) → length rs ≡ 0 → figures_of end (action burdens (sum rs m fs w (Some q)) (Ok at_start)) ≡ Err (record { at = q.0; why = Record q.1 })
  bad_parts end [] m fs w q h = ap (λ x. figures_of end (o.fail q (o.worked w x))) (frames_ok fs (after m))
  bad_parts end (r ∷ rs) m fs w q h = absurd (omega arith)

  pub bad_record : (end : ℕ) (rs : List Unmatched) (m : Segs) (fs : List Frame) (w : ℕ) (p : Option (ℕ × EventFault)) (q : ℕ × EventFault) → length rs ≡ 0 → p ≡ Some q → figures_of end (action burdens (sum rs m fs w p) (Ok at_start)) ≡ Err (record { at = q.0; why = Record q.1 })
  bad_record end rs m fs w p q h e =
      ap (λ p. figures_of end (action burdens (sum rs m fs w p) (Ok at_start))) e ∙ bad_parts end rs m fs w q h

  unclosed_parts : (end : ℕ) (rs : List Unmatched) (m : Segs) (fs : List Frame) (w : ℕ) → length rs ≡ 0 → 0 < length fs → figures_of end (action burdens (sum rs m fs w None) (Ok at_start)) ≡ Err (record { at = end; why = Unclosed (length fs) })
  unfolding pushed_all
  unclosed_parts end [] m [] w h k = absurd (omega arith)
  unclosed_parts end [] m (f ∷ fs) w h k =
      ap (λ x. figures_of end (o.worked w x)) (frames_ok (f ∷ fs) (after m))
      ∙ ap (λ n. Err (record { at = end; why = Unclosed (suc n) })) (frames_count fs (after m) ∙ omega arith)
  unclosed_parts end (r ∷ rs) m fs w h k = absurd (omega arith)

  pub unclosed : (end : ℕ) (rs : List Unmatched) (m : Segs) (fs : List Frame) (w : ℕ) (p : Option (ℕ × EventFault)) → length rs ≡ 0 → p ≡ None → 0 < length fs → figures_of end (action burdens (sum rs m fs w p) (Ok at_start)) ≡ Err (record { at = end; why = Unclosed (length fs) })
  unclosed end rs m fs w p h e k =
      ap (λ p. figures_of end (action burdens (sum rs m fs w p) (Ok at_start))) e ∙ unclosed_parts end rs m fs w h k
