-- A stack has the laws.
use Rattle.std.proofs.Common.{◌≡◌, ℕ, ◌+◌, List, [], ◌∷◌, Result, Ok, Err, refl, sym, ◌∙◌, ap, add_assoc, add-zero}
use Rattle.spp_maxplus.specs.declared.state.Burdens.{Burdens}
use Rattle.spp_event.specs.declared.records.Event.{Event}
use Rattle.spp_event.specs.declared.records.Event.TheVariants.{Strand, Call, Spawn, Ret, Sync}
use Rattle.spp_event.specs.declared.records.EventFault.{EventFault}
use Rattle.spp_frame.specs.declared.Fault.{Fault}
use Rattle.spp_piece.specs.declared.segs.Segs.{Segs}
use Rattle.spp_piece.specs.declared.states.States.{States}
use Rattle.spp_piece.specs.declared.pieces.Frame.{Frame}
use Rattle.spp_piece.specs.Pair.{act, then, idle, fed, after_return}
use Rattle.spp_piece.specs.Stack.{Stack, touch, touch_by, closed_by, with_states, step_from, run}
use Rattle.spp_piece.specs.Machine.{Ops, event, events}
use Rattle.spp_piece.specs.Summary.{Sum, later, summary_of, joined}
use Rattle.spp_piece.specs.Action.{stack_ops, action}
use Rattle.spp_piece.proofs.Pairs.{act_idle, act-then, act-strand, act-sync, act-fed}
use Rattle.spp_piece.proofs.Play.{Laws, play_summary, play-joined}

abbrev stack : List Frame → States → ℕ → Stack
stack fs r w = record { frames = fs; root = r; work = w }

touch_parts : (fs : List Frame) (r : States) (w : ℕ) (a b : States → States) → ((x : States) → a x ≡ b x) → touch_by fs a (stack fs r w) ≡ touch_by fs b (stack fs r w)
touch_parts [] r w a b h = ap (λ x. stack [] x w) (h r)
touch_parts (f ∷ fs) r w a b h = ap (λ x. stack (with_states x f ∷ fs) r w) (h f.states)

-- changes that are alike at each state
pub touch_same : (a b : States → States) (s : Stack) → ((x : States) → a x ≡ b x) → touch a s ≡ touch b s
touch_same a b s h = touch_parts s.frames s.root s.work a b h

idle_parts : (fs : List Frame) (r : States) (w : ℕ) → touch (act idle) (stack fs r w) ≡ stack fs r w
idle_parts [] r w = ap (λ x. stack [] x w) (act_idle r)
idle_parts (f ∷ fs) r w = ap (λ x. stack (with_states x f ∷ fs) r w) (act_idle f.states)

then_parts : (fs : List Frame) (r : States) (w : ℕ) (a b : Segs) → touch (act (then a b)) (stack fs r w) ≡ touch (act b) (touch (act a) (stack fs r w))
then_parts [] r w a b = ap (λ x. stack [] x w) (act-then a b r)
then_parts (f ∷ fs) r w a b = ap (λ x. stack (with_states x f ∷ fs) r w) (act-then a b f.states)

along-worked_parts : (fs : List Frame) (r : States) (w n : ℕ) (g : Segs) → touch (act g) (stack fs r (w + n)) ≡ (let t = touch (act g) (stack fs r w) in stack t.frames t.root (t.work + n))
along-worked_parts [] r w n g = refl
along-worked_parts (f ∷ fs) r w n g = refl

touched_work : (fs : List Frame) (r : States) (w n : ℕ) (c : States → States) → touch c (stack fs r (w + n)) ≡ (let t = touch c (stack fs r w) in stack t.frames t.root (t.work + n))
touched_work [] r w n c = refl
touched_work (f ∷ fs) r w n c = refl

ret-worked_parts : (burdens : Burdens) (at : ℕ) (fs : List Frame) (r : States) (w n : ℕ) → closed_by fs burdens at (stack fs r (w + n)) ≡ (stack_ops burdens).worked n (closed_by fs burdens at (stack fs r w))
ret-worked_parts burdens at [] r w n = refl
ret-worked_parts burdens at (f ∷ fs) r w n = ap (λ s. Ok s) (touched_work fs r w n (after_return burdens f))

module _ (burdens : Burdens) where
  abbrev o : Ops (Result Stack Fault)
  o = stack_ops burdens

  idle_ok : (x : Result Stack Fault) → o.along idle x ≡ x
  idle_ok (Ok s) = ap (λ t. Ok t) (idle_parts s.frames s.root s.work)
  idle_ok (Err e) = refl

  then_ok : (a b : Segs) (x : Result Stack Fault) → o.along (then a b) x ≡ o.along b (o.along a x)
  then_ok a b (Ok s) = ap (λ t. Ok t) (then_parts s.frames s.root s.work a b)
  then_ok a b (Err e) = refl

  along-push_ok : (g : Segs) (f : Frame) (x : Result Stack Fault) → o.along g (o.push f x) ≡ o.push (with_states (act g f.states) f) x
  along-push_ok g f (Ok s) = refl
  along-push_ok g f (Err e) = refl

  ret-push_ok : (at : ℕ) (f : Frame) (x : Result Stack Fault) → o.ret at (o.push f x) ≡ o.along (fed burdens f) x
  ret-push_ok at f (Ok s) = ap (λ t. Ok t) (touch_same (after_return burdens f) (act (fed burdens f)) s (λ x. sym (act-fed burdens f x)))
  ret-push_ok at f (Err e) = refl

  no_work_ok : (x : Result Stack Fault) → o.worked 0 x ≡ x
  no_work_ok (Ok s) = ap (λ n. Ok (stack s.frames s.root n)) (add-zero s.work)
  no_work_ok (Err e) = refl

  worked-worked_ok : (m n : ℕ) (x : Result Stack Fault) → o.worked n (o.worked m x) ≡ o.worked (m + n) x
  worked-worked_ok m n (Ok s) = ap (λ k. Ok (stack s.frames s.root k)) (add_assoc s.work m n)
  worked-worked_ok m n (Err e) = refl

  along-worked_ok : (g : Segs) (n : ℕ) (x : Result Stack Fault) → o.along g (o.worked n x) ≡ o.worked n (o.along g x)
  along-worked_ok g n (Ok s) = ap (λ t. Ok t) (along-worked_parts s.frames s.root s.work n g)
  along-worked_ok g n (Err e) = refl

  ret-worked_ok : (at n : ℕ) (x : Result Stack Fault) → o.ret at (o.worked n x) ≡ o.worked n (o.ret at x)
  ret-worked_ok at n (Ok s) = ret-worked_parts burdens at s.frames s.root s.work n
  ret-worked_ok at n (Err e) = refl

  push-worked_ok : (f : Frame) (n : ℕ) (x : Result Stack Fault) → o.push f (o.worked n x) ≡ o.worked n (o.push (later n f) x)
  push-worked_ok f n (Ok s) =
      ap (λ k. Ok (stack (record { kind = f.kind; at = f.at; site = f.site; func = f.func; before = k; states = f.states } ∷ s.frames) s.root (s.work + n))) (add_assoc s.work n f.before)
  push-worked_ok f n (Err e) = refl

  along-fail_ok : (g : Segs) (q : ℕ × EventFault) (x : Result Stack Fault) → o.along g (o.fail q x) ≡ o.fail q x
  along-fail_ok g q (Ok s) = refl
  along-fail_ok g q (Err e) = refl

  ret-fail_ok : (at : ℕ) (q : ℕ × EventFault) (x : Result Stack Fault) → o.ret at (o.fail q x) ≡ o.fail q x
  ret-fail_ok at q (Ok s) = refl
  ret-fail_ok at q (Err e) = refl

  push-fail_ok : (f : Frame) (q : ℕ × EventFault) (x : Result Stack Fault) → o.push f (o.fail q x) ≡ o.fail q x
  push-fail_ok f q (Ok s) = refl
  push-fail_ok f q (Err e) = refl

  worked-fail_ok : (n : ℕ) (q : ℕ × EventFault) (x : Result Stack Fault) → o.worked n (o.fail q x) ≡ o.fail q x
  worked-fail_ok n q (Ok s) = refl
  worked-fail_ok n q (Err e) = refl

  fail-fail_ok : (p q : ℕ × EventFault) (x : Result Stack Fault) → o.fail p (o.fail q x) ≡ o.fail q x
  fail-fail_ok p q (Ok s) = refl
  fail-fail_ok p q (Err e) = refl

  pub stack_laws : Laws burdens (stack_ops burdens)
  stack_laws = record {
    idle = idle_ok;
    then = then_ok;
    along-push = along-push_ok;
    ret-push = ret-push_ok;
    no_work = no_work_ok;
    worked-worked = worked-worked_ok;
    along-worked = along-worked_ok;
    ret-worked = ret-worked_ok;
    push-worked = push-worked_ok;
    along-fail = along-fail_ok;
    ret-fail = ret-fail_ok;
    push-fail = push-fail_ok;
    worked-fail = worked-fail_ok;
    fail-fail = fail-fail_ok;
  }

  -- an event by its Segs
  by_event : (at : ℕ) (e : Result Event EventFault) (r : Result Stack Fault) → event o at e r ≡ step_from burdens at e r
  by_event at (Ok (Strand count)) (Ok s) = ap (λ t. Ok (stack t.frames t.root (t.work + count))) (touch_same _ _ s (act-strand count))
  by_event at (Ok (Call site func)) (Ok s) = ap (λ n. Ok (stack (record { kind = _; at = at; site = site; func = func; before = n; states = _ } ∷ s.frames) s.root s.work)) (add-zero s.work)
  by_event at (Ok (Spawn site func)) (Ok s) = ap (λ n. Ok (stack (record { kind = _; at = at; site = site; func = func; before = n; states = _ } ∷ s.frames) s.root s.work)) (add-zero s.work)
  by_event at (Ok Ret) (Ok s) = refl
  by_event at (Ok Sync) (Ok s) = ap (λ t. Ok t) (touch_same _ _ s act-sync)
  by_event at (Err fault) (Ok s) = refl
  by_event at (Ok (Strand count)) (Err e) = refl
  by_event at (Ok (Call site func)) (Err e) = refl
  by_event at (Ok (Spawn site func)) (Err e) = refl
  by_event at (Ok Ret) (Err e) = refl
  by_event at (Ok Sync) (Err e) = refl
  by_event at (Err fault) (Err e) = refl

  by_events : (at : ℕ) (es : List (Result Event EventFault)) (r : Result Stack Fault) → events o at es r ≡ run burdens at es r
  by_events at [] r = refl
  by_events at (e ∷ es) r = by_events (at + 1) es (event o at e r) ∙ ap (run burdens (at + 1) es) (by_event at e r)

  -- the summary of a list of events acts on every stack as the events do one by one
  pub action_summary : (at : ℕ) (es : List (Result Event EventFault)) (r : Result Stack Fault) → action burdens (summary_of burdens at es) r ≡ run burdens at es r
  action_summary at es r = play_summary burdens o stack_laws at es r ∙ by_events at es r

  pub action-joined : (left right : Sum) (r : Result Stack Fault) → action burdens (joined burdens left right) r ≡ action burdens right (action burdens left r)
  action-joined left right r = play-joined burdens o stack_laws left right r
