-- What a summary's code does to its lists.
use Rattle.std.proofs.Common.{◌≡◌, ℕ, ◌+◌, List, [], ◌∷◌, length, reverse, get_or, set, take, Option, Some, None, Result, Ok, Err, refl, sym, ◌∙◌, ap}
use Rattle.spp_maxplus.specs.declared.state.Burdens.{Burdens}
use Rattle.spp_event.specs.declared.records.Event.{Event}
use Rattle.spp_event.specs.declared.records.Event.TheVariants.{Strand, Call, Spawn, Ret, Sync}
use Rattle.spp_event.specs.declared.records.EventFault.{EventFault}
use Rattle.spp_maxplus.specs.declared.child.ChildKind.TheVariants.{Called, Spawned}
use Rattle.spp_piece.specs.declared.segs.Segs.{Segs}
use Rattle.spp_piece.specs.declared.pieces.Frame.{Frame}
use Rattle.spp_piece.specs.declared.pieces.Unmatched.{Unmatched}
use Rattle.spp_piece.specs.Pair.{act, strand, sync}
use Rattle.spp_piece.specs.Stack.{with_states}
use Rattle.spp_piece.specs.Machine.{Ops, event, entered}
use Rattle.spp_piece.specs.Summary.{Sum, unless, along_by, ret_by, pushed, working, failing, summary_ops}
use Rattle.spp_piece.proofs.Lists.{reverse_last, reverse_set_last}

abbrev pub sum : List Unmatched → Segs → List Frame → ℕ → Option (ℕ × EventFault) → Sum
sum rs m fs w q = record { returns = rs; middle = m; frames = fs; work = w; fault = q }

pub along_last : (rs : List Unmatched) (m : Segs) (xs : List Frame) (w : ℕ) (q : Option (ℕ × EventFault)) (segs : Segs) (n : ℕ) (f g : Frame) → length xs ≡ n + 1 → f ≡ get_or xs n f → g ≡ with_states (act segs f.states) f → sum rs m (reverse (set xs n g)) w q ≡ along_by (reverse xs) segs (sum rs m (reverse xs) w q)
along_last rs m xs w q segs n f g h hf hg =
    ap (λ fs. sum rs m fs w q) (reverse_set_last xs n g h ∙ ap (λ z. z ∷ reverse (take n xs)) (hg ∙ ap (λ (z : Frame). with_states (act segs z.states) z) hf))
    ∙ sym (ap (λ fs. along_by fs segs (sum rs m fs w q)) (reverse_last xs n f h))

along_fault : (rs : List Unmatched) (m : Segs) (fs : List Frame) (w : ℕ) (q : Option (ℕ × EventFault)) (g : Segs) → (along_by fs g (sum rs m fs w q)).fault ≡ q
along_fault rs m [] w q g = refl
along_fault rs m (f ∷ fs) w q g = refl

pub unless_none : (q : Option (ℕ × EventFault)) (s t : Sum) → q ≡ None → unless q s t ≡ t
unless_none None s t e = refl
unless_none (Some p) s t e = cc

pub unless_some : (q : Option (ℕ × EventFault)) (p : ℕ × EventFault) (s t : Sum) → q ≡ Some p → unless q s t ≡ s
unless_some None p s t e = cc
unless_some (Some r) p s t e = refl

module _ (burdens : Burdens) (at : ℕ) where
  abbrev o : Ops Sum
  o = summary_ops burdens

  pub event_strand : (count : ℕ) (s : Sum) → s.fault ≡ None → event o at (Ok (Strand count)) s ≡ working count (along_by s.frames (strand count) s)
  event_strand count s e =
      let t = along_by s.frames (strand count) s in
      ap (λ (u : Sum). unless u.fault u (working count u)) (unless_none s.fault s t e)
      ∙ unless_none t.fault t (working count t) (along_fault s.returns s.middle s.frames s.work s.fault (strand count) ∙ e)

  pub event_sync : (s : Sum) → s.fault ≡ None → event o at (Ok Sync) s ≡ along_by s.frames sync s
  event_sync s e = unless_none s.fault s _ e

  pub event_call : (site func : ℕ) (s : Sum) → s.fault ≡ None → event o at (Ok (Call site func)) s ≡ pushed (entered Called at site func) s
  event_call site func s e = unless_none s.fault s _ e

  pub event_spawn : (site func : ℕ) (s : Sum) → s.fault ≡ None → event o at (Ok (Spawn site func)) s ≡ pushed (entered Spawned at site func) s
  event_spawn site func s e = unless_none s.fault s _ e

  pub event_ret : (s : Sum) → s.fault ≡ None → event o at (Ok Ret) s ≡ ret_by s.frames burdens at s
  event_ret s e = unless_none s.fault s _ e

  pub event_fail : (why : EventFault) (s : Sum) → s.fault ≡ None → event o at (Err why) s ≡ failing (at, why) s
  event_fail why s e = unless_none s.fault s _ e

  -- after a bad record nothing is read
  pub event_after : (e : Result Event EventFault) (p : ℕ × EventFault) (s : Sum) → s.fault ≡ Some p → event o at e s ≡ s
  event_after (Ok (Strand count)) p s e =
      ap (λ (u : Sum). unless u.fault u (working count u)) (unless_some s.fault p s _ e) ∙ unless_some s.fault p s _ e
  event_after (Ok (Call site func)) p s e = unless_some s.fault p s _ e
  event_after (Ok (Spawn site func)) p s e = unless_some s.fault p s _ e
  event_after (Ok Ret) p s e = unless_some s.fault p s _ e
  event_after (Ok Sync) p s e = unless_some s.fault p s _ e
  event_after (Err why) p s e = unless_some s.fault p s _ e
