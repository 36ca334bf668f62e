-- Whatever has the laws of a stack, a summary acts on it as its events do one by one.
use Rattle.std.proofs.Common.{◌≡◌, ℕ, ◌+◌, List, [], ◌∷◌, ◌++◌, Option, Some, None, Result, Ok, Err, refl, sym, ◌∙◌, ap}
use Rattle.spp_maxplus.specs.declared.state.Burdens.{Burdens}
use Rattle.spp_event.specs.declared.records.Event.{Event}
use Rattle.spp_event.specs.declared.records.Event.TheVariants.{Strand, Call, Spawn, Ret, Sync}
use Rattle.spp_event.specs.declared.records.EventFault.{EventFault}
use Rattle.spp_maxplus.specs.declared.child.ChildKind.TheVariants.{Called, Spawned}
use Rattle.spp_piece.specs.declared.segs.Segs.{Segs}
use Rattle.spp_piece.specs.declared.pieces.Frame.{Frame}
use Rattle.spp_piece.specs.declared.pieces.Unmatched.{Unmatched}
use Rattle.spp_piece.specs.Pair.{act, then, idle, fed, strand, sync}
use Rattle.spp_piece.specs.Stack.{with_states}
use Rattle.spp_piece.specs.Machine.{Ops, event, events, entered}
use Rattle.spp_piece.specs.Summary.{Sum, empty, later, unless, along_by, ret_by, pushed, working, failing, summary_ops, summary_of, play_returns, play_frames, play_fault, play, joined}

pub record Laws {X : Type 0} (burdens : Burdens) (o : Ops X) : Type 0 where
  pub idle : (x : X) → o.along idle x ≡ x
  pub then : (a b : Segs) (x : X) → o.along (then a b) x ≡ o.along b (o.along a x)
  pub along-push : (g : Segs) (f : Frame) (x : X) → o.along g (o.push f x) ≡ o.push (with_states (act g f.states) f) x
  pub ret-push : (at : ℕ) (f : Frame) (x : X) → o.ret at (o.push f x) ≡ o.along (fed burdens f) x
  pub no_work : (x : X) → o.worked 0 x ≡ x
  pub worked-worked : (m n : ℕ) (x : X) → o.worked n (o.worked m x) ≡ o.worked (m + n) x
  pub along-worked : (g : Segs) (n : ℕ) (x : X) → o.along g (o.worked n x) ≡ o.worked n (o.along g x)
  pub ret-worked : (at n : ℕ) (x : X) → o.ret at (o.worked n x) ≡ o.worked n (o.ret at x)
  pub push-worked : (f : Frame) (n : ℕ) (x : X) → o.push f (o.worked n x) ≡ o.worked n (o.push (later n f) x)
  pub along-fail : (g : Segs) (q : ℕ × EventFault) (x : X) → o.along g (o.fail q x) ≡ o.fail q x
  pub ret-fail : (at : ℕ) (q : ℕ × EventFault) (x : X) → o.ret at (o.fail q x) ≡ o.fail q x
  pub push-fail : (f : Frame) (q : ℕ × EventFault) (x : X) → o.push f (o.fail q x) ≡ o.fail q x
  pub worked-fail : (n : ℕ) (q : ℕ × EventFault) (x : X) → o.worked n (o.fail q x) ≡ o.fail q x
  pub fail-fail : (p q : ℕ × EventFault) (x : X) → o.fail p (o.fail q x) ≡ o.fail q x

-- a summary by its parts
abbrev sum : List Unmatched → Segs → List Frame → ℕ → Option (ℕ × EventFault) → Sum
sum rs m fs w q = record { returns = rs; middle = m; frames = fs; work = w; fault = q }

module _ {X : Type 0} (burdens : Burdens) (o : Ops X) (laws : Laws burdens o) where
  pub play_empty : (x : X) → play o empty x ≡ x
  play_empty x = laws.no_work (o.along idle x) ∙ laws.idle x

  returns_more : (rs : List Unmatched) (r : Unmatched) (x : X) → play_returns o (rs ++ r ∷ []) x ≡ o.ret r.at (o.along r.segs (play_returns o rs x))
  returns_more [] r x = refl
  returns_more (s ∷ rs) r x = returns_more rs r (o.ret s.at (o.along s.segs x))

  along_parts : (rs : List Unmatched) (m : Segs) (fs : List Frame) (w : ℕ) (q : Option (ℕ × EventFault)) (g : Segs) (x : X) → play o (unless q (sum rs m fs w q) (along_by fs g (sum rs m fs w q))) x ≡ o.along g (play o (sum rs m fs w q) x)
  along_parts rs m fs w (Some q) g x = sym (laws.along-fail g q _)
  along_parts rs m [] w None g x =
      let y = play_returns o rs x in
      ap (o.worked w) (laws.then m g y) ∙ sym (laws.along-worked g w (o.along m y))
  along_parts rs m (f ∷ fs) w None g x =
      let y = play_frames o fs (o.along m (play_returns o rs x)) in
      ap (o.worked w) (sym (laws.along-push g f y)) ∙ sym (laws.along-worked g w (o.push f y))

  pub play-along : (g : Segs) (s : Sum) (x : X) → play o ((summary_ops burdens).along g s) x ≡ o.along g (play o s x)
  play-along g s x = along_parts s.returns s.middle s.frames s.work s.fault g x

  ret_parts : (rs : List Unmatched) (m : Segs) (fs : List Frame) (w : ℕ) (q : Option (ℕ × EventFault)) (at : ℕ) (x : X) → play o (unless q (sum rs m fs w q) (ret_by fs burdens at (sum rs m fs w q))) x ≡ o.ret at (play o (sum rs m fs w q) x)
  ret_parts rs m fs w (Some q) at x = sym (laws.ret-fail at q _)
  ret_parts rs m [] w None at x =
      let y = o.along m (play_returns o rs x) in
      ap (o.worked w) (laws.idle _ ∙ returns_more rs (record { segs = m; at = at }) x) ∙ sym (laws.ret-worked at w y)
  ret_parts rs m (f ∷ fs) w None at x =
      let y = play_frames o fs (o.along m (play_returns o rs x)) in
      along_parts rs m fs w None (fed burdens f) x
      ∙ (laws.along-worked (fed burdens f) w y ∙ (ap (o.worked w) (sym (laws.ret-push at f y)) ∙ sym (laws.ret-worked at w (o.push f y))))

  pub play-ret : (at : ℕ) (s : Sum) (x : X) → play o ((summary_ops burdens).ret at s) x ≡ o.ret at (play o s x)
  play-ret at s x = ret_parts s.returns s.middle s.frames s.work s.fault at x

  push_parts : (rs : List Unmatched) (m : Segs) (fs : List Frame) (w : ℕ) (q : Option (ℕ × EventFault)) (f : Frame) (x : X) → play o (unless q (sum rs m fs w q) (pushed f (sum rs m fs w q))) x ≡ o.push f (play o (sum rs m fs w q) x)
  push_parts rs m fs w (Some q) f x = sym (laws.push-fail f q _)
  push_parts rs m fs w None f x = sym (laws.push-worked f w _)

  pub play-push : (f : Frame) (s : Sum) (x : X) → play o ((summary_ops burdens).push f s) x ≡ o.push f (play o s x)
  play-push f s x = push_parts s.returns s.middle s.frames s.work s.fault f x

  worked_parts : (rs : List Unmatched) (m : Segs) (fs : List Frame) (w : ℕ) (q : Option (ℕ × EventFault)) (n : ℕ) (x : X) → play o (unless q (sum rs m fs w q) (working n (sum rs m fs w q))) x ≡ o.worked n (play o (sum rs m fs w q) x)
  worked_parts rs m fs w (Some q) n x = sym (laws.worked-fail n q _)
  worked_parts rs m fs w None n x = sym (laws.worked-worked w n _)

  pub play-worked : (n : ℕ) (s : Sum) (x : X) → play o ((summary_ops burdens).worked n s) x ≡ o.worked n (play o s x)
  play-worked n s x = worked_parts s.returns s.middle s.frames s.work s.fault n x

  fail_parts : (rs : List Unmatched) (m : Segs) (fs : List Frame) (w : ℕ) (p : Option (ℕ × EventFault)) (q : ℕ × EventFault) (x : X) → play o (unless p (sum rs m fs w p) (failing q (sum rs m fs w p))) x ≡ o.fail q (play o (sum rs m fs w p) x)
  fail_parts rs m fs w (Some p) q x = sym (laws.fail-fail q p _)
  fail_parts rs m fs w None q x = refl

  pub play-fail : (q : ℕ × EventFault) (s : Sum) (x : X) → play o ((summary_ops burdens).fail q s) x ≡ o.fail q (play o s x)
  play-fail q s x = fail_parts s.returns s.middle s.frames s.work s.fault q x

  pub play-event : (at : ℕ) (e : Result Event EventFault) (s : Sum) (x : X) → play o (event (summary_ops burdens) at e s) x ≡ event o at e (play o s x)
  play-event at (Ok (Strand count)) s x =
      play-worked count ((summary_ops burdens).along (strand count) s) x ∙ ap (o.worked count) (play-along (strand count) s x)
  play-event at (Ok (Call site func)) s x = play-push (entered Called at site func) s x
  play-event at (Ok (Spawn site func)) s x = play-push (entered Spawned at site func) s x
  play-event at (Ok Ret) s x = play-ret at s x
  play-event at (Ok Sync) s x = play-along sync s x
  play-event at (Err fault) s x = play-fail (at, fault) s x

  pub play-events : (at : ℕ) (es : List (Result Event EventFault)) (s : Sum) (x : X) → play o (events (summary_ops burdens) at es s) x ≡ events o at es (play o s x)
  play-events at [] s x = refl
  play-events at (e ∷ es) s x =
      play-events (at + 1) es (event (summary_ops burdens) at e s) x ∙ ap (events o (at + 1) es) (play-event at e s x)

  -- the summary of a list acts as the list
  pub play_summary : (at : ℕ) (es : List (Result Event EventFault)) (x : X) → play o (summary_of burdens at es) x ≡ events o at es x
  play_summary at es x = play-events at es empty x ∙ ap (events o at es) (play_empty x)

  play-returns : (rs : List Unmatched) (s : Sum) (x : X) → play o (play_returns (summary_ops burdens) rs s) x ≡ play_returns o rs (play o s x)
  play-returns [] s x = refl
  play-returns (r ∷ rs) s x =
      let t = (summary_ops burdens).along r.segs s in
      play-returns rs ((summary_ops burdens).ret r.at t) x
      ∙ ap (play_returns o rs) (play-ret r.at t x ∙ ap (o.ret r.at) (play-along r.segs s x))

  play-frames : (fs : List Frame) (s : Sum) (x : X) → play o (play_frames (summary_ops burdens) fs s) x ≡ play_frames o fs (play o s x)
  play-frames [] s x = refl
  play-frames (f ∷ fs) s x = play-push f (play_frames (summary_ops burdens) fs s) x ∙ ap (o.push f) (play-frames fs s x)

  play-fault : (q : Option (ℕ × EventFault)) (s : Sum) (x : X) → play o (play_fault (summary_ops burdens) q s) x ≡ play_fault o q (play o s x)
  play-fault None s x = refl
  play-fault (Some q) s x = play-fail q s x

  -- the join of two summaries acts as the one and then the other
  pub play-joined : (left right : Sum) (x : X) → play o (joined burdens left right) x ≡ play o right (play o left x)
  play-joined left right x =
      let a = play_returns (summary_ops burdens) right.returns left in
      let b = (summary_ops burdens).along right.middle a in
      let c = play_frames (summary_ops burdens) right.frames b in
      let d = (summary_ops burdens).worked right.work c in
      play-fault right.fault d x
      ∙ ap (play_fault o right.fault)
      (play-worked right.work c x
      ∙ ap (o.worked right.work)
      (play-frames right.frames b x
      ∙ ap (play_frames o right.frames) (play-along right.middle a x ∙ ap (o.along right.middle) (play-returns right.returns left x))))
