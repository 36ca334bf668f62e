-- A summary has the laws, so the join of two is the summary of both lists together.
use Rattle.std.proofs.Common.{◌≡◌, ℕ, ◌+◌, List, [], ◌∷◌, ◌++◌, length, Option, Some, None, Result, refl, sym, ◌∙◌, ap, add_assoc, add-zero, arith}
use Rattle.spp_maxplus.specs.declared.state.Burdens.{Burdens}
use Rattle.spp_event.specs.declared.records.Event.{Event}
use Rattle.spp_event.specs.declared.records.EventFault.{EventFault}
use Rattle.spp_piece.specs.declared.segs.Segs.{Segs}
use Rattle.spp_piece.specs.declared.pieces.Frame.{Frame}
use Rattle.spp_piece.specs.declared.pieces.Unmatched.{Unmatched}
use Rattle.spp_piece.specs.Pair.{act, then, idle, fed}
use Rattle.spp_piece.specs.Stack.{with_states}
use Rattle.spp_piece.specs.Machine.{Ops, event, events}
use Rattle.spp_piece.specs.Summary.{Sum, empty, later, unless, along_by, summary_ops, summary_of, joined}
use Rattle.std.proofs.lemmas.List.{length-append}
use Rattle.spp_piece.specs.Account.{Account, account_of, together}
use Rattle.spp_piece.proofs.Pairs.{act_idle, act-then, then_idle, then_assoc}
use Rattle.spp_piece.proofs.Play.{Laws, play_empty, play_summary, play-joined}

abbrev sum : List Unmatched → Segs → List Frame → ℕ → Option (ℕ × EventFault) → Sum
sum rs m fs w q = record { returns = rs; middle = m; frames = fs; work = w; fault = q }

idle_parts : (rs : List Unmatched) (m : Segs) (fs : List Frame) (w : ℕ) (q : Option (ℕ × EventFault)) → unless q (sum rs m fs w q) (along_by fs idle (sum rs m fs w q)) ≡ sum rs m fs w q
idle_parts rs m fs w (Some q) = refl
idle_parts rs m [] w None = ap (λ n. sum rs n [] w None) (then_idle m)
idle_parts rs m (f ∷ fs) w None = ap (λ x. sum rs m (with_states x f ∷ fs) w None) (act_idle f.states)

then_parts : (o : Ops Sum) (burdens : Burdens) (rs : List Unmatched) (m : Segs) (fs : List Frame) (w : ℕ) (q : Option (ℕ × EventFault)) (a b : Segs) → (summary_ops burdens).along (then a b) (sum rs m fs w q) ≡ (summary_ops burdens).along b ((summary_ops burdens).along a (sum rs m fs w q))
then_parts o burdens rs m fs w (Some q) a b = refl
then_parts o burdens rs m [] w None a b = ap (λ n. sum rs n [] w None) (sym (then_assoc m a b))
then_parts o burdens rs m (f ∷ fs) w None a b = ap (λ x. sum rs m (with_states x f ∷ fs) w None) (act-then a b f.states)

module _ (burdens : Burdens) where
  abbrev o : Ops Sum
  o = summary_ops burdens

  along-push_parts : (rs : List Unmatched) (m : Segs) (fs : List Frame) (w : ℕ) (q : Option (ℕ × EventFault)) (g : Segs) (f : Frame) → o.along g (o.push f (sum rs m fs w q)) ≡ o.push (with_states (act g f.states) f) (sum rs m fs w q)
  along-push_parts rs m fs w None g f = refl
  along-push_parts rs m fs w (Some q) g f = refl

  ret-push_parts : (rs : List Unmatched) (m : Segs) (fs : List Frame) (w : ℕ) (q : Option (ℕ × EventFault)) (at : ℕ) (f : Frame) → o.ret at (o.push f (sum rs m fs w q)) ≡ o.along (fed burdens f) (sum rs m fs w q)
  ret-push_parts rs m fs w None at f = refl
  ret-push_parts rs m fs w (Some q) at f = refl

  no_work_parts : (rs : List Unmatched) (m : Segs) (fs : List Frame) (w : ℕ) (q : Option (ℕ × EventFault)) → o.worked 0 (sum rs m fs w q) ≡ sum rs m fs w q
  no_work_parts rs m fs w None = ap (λ n. sum rs m fs n None) (add-zero w)
  no_work_parts rs m fs w (Some q) = refl

  worked-worked_parts : (rs : List Unmatched) (m : Segs) (fs : List Frame) (w : ℕ) (q : Option (ℕ × EventFault)) (a b : ℕ) → o.worked b (o.worked a (sum rs m fs w q)) ≡ o.worked (a + b) (sum rs m fs w q)
  worked-worked_parts rs m fs w None a b = ap (λ n. sum rs m fs n None) (add_assoc w a b)
  worked-worked_parts rs m fs w (Some q) a b = refl

  along-worked_parts : (rs : List Unmatched) (m : Segs) (fs : List Frame) (w : ℕ) (q : Option (ℕ × EventFault)) (g : Segs) (n : ℕ) → o.along g (o.worked n (sum rs m fs w q)) ≡ o.worked n (o.along g (sum rs m fs w q))
  along-worked_parts rs m [] w None g n = refl
  along-worked_parts rs m (f ∷ fs) w None g n = refl
  along-worked_parts rs m fs w (Some q) g n = refl

  ret-worked_parts : (rs : List Unmatched) (m : Segs) (fs : List Frame) (w : ℕ) (q : Option (ℕ × EventFault)) (at n : ℕ) → o.ret at (o.worked n (sum rs m fs w q)) ≡ o.worked n (o.ret at (sum rs m fs w q))
  ret-worked_parts rs m [] w None at n = refl
  ret-worked_parts rs m (f ∷ fs) w None at n = along-worked_parts rs m fs w None (fed burdens f) n
  ret-worked_parts rs m fs w (Some q) at n = refl

  push-worked_parts : (rs : List Unmatched) (m : Segs) (fs : List Frame) (w : ℕ) (q : Option (ℕ × EventFault)) (f : Frame) (n : ℕ) → o.push f (o.worked n (sum rs m fs w q)) ≡ o.worked n (o.push (later n f) (sum rs m fs w q))
  push-worked_parts rs m fs w None f n =
      ap (λ k. sum rs m (record { kind = f.kind; at = f.at; site = f.site; func = f.func; before = k; states = f.states } ∷ fs) (w + n) None) (add_assoc w n f.before)
  push-worked_parts rs m fs w (Some q) f n = refl

  along-fail_parts : (rs : List Unmatched) (m : Segs) (fs : List Frame) (w : ℕ) (p : Option (ℕ × EventFault)) (g : Segs) (q : ℕ × EventFault) → o.along g (o.fail q (sum rs m fs w p)) ≡ o.fail q (sum rs m fs w p)
  along-fail_parts rs m fs w None g q = refl
  along-fail_parts rs m fs w (Some p) g q = refl

  ret-fail_parts : (rs : List Unmatched) (m : Segs) (fs : List Frame) (w : ℕ) (p : Option (ℕ × EventFault)) (at : ℕ) (q : ℕ × EventFault) → o.ret at (o.fail q (sum rs m fs w p)) ≡ o.fail q (sum rs m fs w p)
  ret-fail_parts rs m fs w None at q = refl
  ret-fail_parts rs m fs w (Some p) at q = refl

  push-fail_parts : (rs : List Unmatched) (m : Segs) (fs : List Frame) (w : ℕ) (p : Option (ℕ × EventFault)) (f : Frame) (q : ℕ × EventFault) → o.push f (o.fail q (sum rs m fs w p)) ≡ o.fail q (sum rs m fs w p)
  push-fail_parts rs m fs w None f q = refl
  push-fail_parts rs m fs w (Some p) f q = refl

  worked-fail_parts : (rs : List Unmatched) (m : Segs) (fs : List Frame) (w : ℕ) (p : Option (ℕ × EventFault)) (n : ℕ) (q : ℕ × EventFault) → o.worked n (o.fail q (sum rs m fs w p)) ≡ o.fail q (sum rs m fs w p)
  worked-fail_parts rs m fs w None n q = refl
  worked-fail_parts rs m fs w (Some p) n q = refl

  fail-fail_parts : (rs : List Unmatched) (m : Segs) (fs : List Frame) (w : ℕ) (r : Option (ℕ × EventFault)) (p q : ℕ × EventFault) → o.fail p (o.fail q (sum rs m fs w r)) ≡ o.fail q (sum rs m fs w r)
  fail-fail_parts rs m fs w None p q = refl
  fail-fail_parts rs m fs w (Some r) p q = refl

  pub summary_laws : Laws burdens (summary_ops burdens)
  summary_laws = record {
    idle = λ s. idle_parts s.returns s.middle s.frames s.work s.fault;
    then = λ a b s. then_parts o burdens s.returns s.middle s.frames s.work s.fault a b;
    along-push = λ g f s. along-push_parts s.returns s.middle s.frames s.work s.fault g f;
    ret-push = λ at f s. ret-push_parts s.returns s.middle s.frames s.work s.fault at f;
    no_work = λ s. no_work_parts s.returns s.middle s.frames s.work s.fault;
    worked-worked = λ m n s. worked-worked_parts s.returns s.middle s.frames s.work s.fault m n;
    along-worked = λ g n s. along-worked_parts s.returns s.middle s.frames s.work s.fault g n;
    ret-worked = λ at n s. ret-worked_parts s.returns s.middle s.frames s.work s.fault at n;
    push-worked = λ f n s. push-worked_parts s.returns s.middle s.frames s.work s.fault f n;
    along-fail = λ g q s. along-fail_parts s.returns s.middle s.frames s.work s.fault g q;
    ret-fail = λ at q s. ret-fail_parts s.returns s.middle s.frames s.work s.fault at q;
    push-fail = λ f q s. push-fail_parts s.returns s.middle s.frames s.work s.fault f q;
    worked-fail = λ n q s. worked-fail_parts s.returns s.middle s.frames s.work s.fault n q;
    fail-fail = λ p q s. fail-fail_parts s.returns s.middle s.frames s.work s.fault p q;
  }

  events-append : (at : ℕ) (es fs : List (Result Event EventFault)) (s : Sum) → events o at (es ++ fs) s ≡ events o (at + length es) fs (events o at es s)
  events-append at [] fs s = ap (λ n. events o n fs s) (sym (add-zero at))
  events-append at (e ∷ es) fs s =
      events-append (at + 1) es fs (event o at e s)
      ∙ ap (λ n. events o n fs (events o (at + 1) es (event o at e s))) (omega arith)

  abbrev account : ℕ → ℕ → Sum → Account
  account first count s = record { burdens = burdens; first = first; events = count; sum = s }

  -- the join of the summaries of two lists is the summary of both together
  pub joined_summary : (at : ℕ) (es fs : List (Result Event EventFault)) → joined burdens (summary_of burdens at es) (summary_of burdens (at + length es) fs) ≡ summary_of burdens at (es ++ fs)
  joined_summary at es fs =
      play_summary burdens o summary_laws (at + length es) fs (summary_of burdens at es) ∙ sym (events-append at es fs empty)

  -- and joining is associative, for any summaries
  pub joined_assoc : (a b c : Sum) → joined burdens (joined burdens a b) c ≡ joined burdens a (joined burdens b c)
  joined_assoc a b c = sym (play-joined burdens o summary_laws b c a)

  pub empty_joined : (s : Sum) → joined burdens s empty ≡ s
  empty_joined s = play_empty burdens o summary_laws s

  -- so the account of two neighbours together is that of both lists
  pub both_account : (first : ℕ) (es fs : List (Result Event EventFault)) → together (account_of burdens first es) (account_of burdens (first + length es) fs) ≡ account_of burdens first (es ++ fs)
  both_account first es fs =
      ap (λ s. account first (length es + length fs) s) (joined_summary first es fs)
      ∙ ap (λ n. account first n (summary_of burdens first (es ++ fs))) (sym (length-append es fs))
