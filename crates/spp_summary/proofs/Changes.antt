-- What an event of a changed run does to a summary while it is read.
use Rattle.std.proofs.Common.{◌≡◌, ℕ, ◌+◌, ◌<◌, List, [], ◌∷◌, length, get_or, drop, None, Ok, Err, refl, sym, ◌∙◌, ap}
use Rattle.std.proofs.lemmas.List.{drop_more}
use Rattle.spp_event.specs.declared.records.Event.{Event}
use Rattle.spp_event.specs.declared.records.Event.TheVariants.{Strand, Call, Spawn, Ret, Sync}
use Rattle.spp_event.specs.declared.records.EventFault.{EventFault}
use Rattle.spp_event.specs.Recordings.{Record}
use Rattle.spp_maxplus.specs.declared.state.Burdens.{Burdens}
use Rattle.spp_change.specs.declared.change.Change.{Change}
use Rattle.spp_change.specs.Changed.{innermost, changed_event, changed_from, sites_after}
use Rattle.spp_change.proofs.Nesting.{sites_same}
use Rattle.spp_piece.specs.declared.segs.Segs.{Segs}
use Rattle.spp_piece.specs.declared.pieces.Frame.{Frame}
use Rattle.spp_piece.specs.Pair.{strand, sync}
use Rattle.spp_piece.specs.Machine.{event, events}
use Rattle.spp_piece.specs.Summary.{Sum, along_by, ret_by, failing, summary_ops}
use Rattle.spp_piece.proofs.EventSteps.{event_strand, event_call, event_spawn, event_ret, event_sync, event_fail}
use Rattle.spp_summary.specs.Reading.{sites_in}
use Rattle.spp_summary.proofs.Steps.{stopped}

sites_along : (fs : List Frame) (g : Segs) (s : Sum) → sites_in (along_by fs g s).frames ≡ sites_in fs
sites_along [] g s = refl
sites_along (f ∷ fs) g s = refl

sites_ret : (fs : List Frame) (burdens : Burdens) (at : ℕ) (s : Sum) → sites_in (ret_by fs burdens at s).frames ≡ sites_after (Ok Ret) (sites_in fs)
sites_ret [] burdens at s = refl
sites_ret (f ∷ fs) burdens at s = sites_along fs _ _

-- an event opens and closes the frames of its sites
sites_step : (burdens : Burdens) (at : ℕ) (e : Event) (s : Sum) → s.fault ≡ None → sites_in (event (summary_ops burdens) at (Ok e) s).frames ≡ sites_after (Ok e) (sites_in s.frames)
sites_step burdens at (Strand n) s h = ap (λ (t : Sum). sites_in t.frames) (event_strand burdens at n s h) ∙ sites_along s.frames (strand n) s
sites_step burdens at (Call site func) s h = ap (λ (t : Sum). sites_in t.frames) (event_call burdens at site func s h)
sites_step burdens at (Spawn site func) s h = ap (λ (t : Sum). sites_in t.frames) (event_spawn burdens at site func s h)
sites_step burdens at Ret s h = ap (λ (t : Sum). sites_in t.frames) (event_ret burdens at s h) ∙ sites_ret s.frames burdens at s
sites_step burdens at Sync s h = ap (λ (t : Sum). sites_in t.frames) (event_sync burdens at s h) ∙ sites_along s.frames sync s

module _ (burdens : Burdens) (change : Change) (k : ℕ) (rs : List Record) (d : Record) (s t : Sum) (h : k < length rs) (sound : s.fault ≡ None) where
  -- one more event
  pub changed_step : (e : Event) → get_or rs k d ≡ Ok e → t ≡ event (summary_ops burdens) k (Ok (changed_event change (innermost (sites_in s.frames)) e)) s
      → events (summary_ops burdens) (k + 1) (changed_from change (sites_in t.frames) (drop (k + 1) rs)) t ≡ events (summary_ops burdens) k (changed_from change (sites_in s.frames) (drop k rs)) s
  changed_step e is a =
      let o = summary_ops burdens in
      let sites = sites_in s.frames in
      let rest = drop (k + 1) rs in
      let x = changed_event change (innermost sites) e in
      let same : sites_in t.frames ≡ sites_after (Ok e) sites =
      ap (λ (z : Sum). sites_in z.frames) a ∙ sites_step burdens k x s sound ∙ sites_same change (innermost sites) e sites in
      ap (λ ns. events o (k + 1) (changed_from change ns rest) t) same
      ∙ ap (events o (k + 1) (changed_from change (sites_after (Ok e) sites) rest)) a
      ∙ sym (ap (λ zs. events o k (changed_from change sites zs) s) (drop_more rs k d h ∙ ap (λ z. z ∷ rest) is))

  -- a bad record, behind which nothing is read
  pub changed_stop : (why : EventFault) → get_or rs k d ≡ Err why → t ≡ failing (k, why) s
      → t ≡ events (summary_ops burdens) k (changed_from change (sites_in s.frames) (drop k rs)) s
  changed_stop why is a =
      let o = summary_ops burdens in
      let sites = sites_in s.frames in
      let rest = drop (k + 1) rs in
      let more = changed_from change (sites_after (Err why) sites) rest in
      sym (stopped burdens (k + 1) more (k, why) t (ap (λ (z : Sum). z.fault) a))
      ∙ ap (events o (k + 1) more) (a ∙ sym (event_fail burdens k why s sound))
      ∙ sym (ap (λ zs. events o k (changed_from change sites zs) s) (drop_more rs k d h ∙ ap (λ z. z ∷ rest) is))
