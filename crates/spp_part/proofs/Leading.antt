-- What the reading of a run keeps holds before each event.
use Rattle.std.proofs.Common.{◌≡◌, ℕ, zero, suc, ◌+◌, ◌≤◌, ◌<◌, List, ◌∷◌, length, subst, arith}
use Rattle.spp_event.specs.declared.records.Event.{Event}
use Rattle.spp_event.specs.declared.records.Event.TheVariants.{Strand, Call, Spawn, Ret, Sync}
use Rattle.spp_event.specs.Recordings.{Recording}
use Rattle.spp_maxplus.specs.declared.state.Burdens.{Burdens}
use Rattle.spp_pass.specs.declared.counted_frame.CountedFrame.{CountedFrame}
use Rattle.spp_pass.specs.Passes.{Seen, AreTakes}
use Rattle.spp_serial.proofs.Reading.{Led, start_led, strand_led, sync_led, call_led, spawn_led, return_led}
use Rattle.spp_part.specs.States.{Both, Goes, IsEventAt, IsAt}

module _ (trace : Recording) (burdens : Burdens) (light : burdens.continuation + burdens.join ≤ 8589934592) (short : length trace.records ≤ 268435456) where
  -- one event
  led_next : (i : ℕ) → i < length trace.records → (e : Event) → IsEventAt trace i e → (s : Seen) (ways : Both) (new : Seen) (then : Both)
      → Led trace burdens i s ways → Goes burdens i e s ways new then → Led trace burdens (suc i) new then
  led_next i lt (Strand n) at s ways new then led goes = strand_led trace burdens light short i lt s ways led n at new then goes.0 goes.1
  led_next i lt (Call site func) at s ways new then led goes = call_led trace burdens light short i lt s ways led site func at new then goes.0 goes.1
  led_next i lt (Spawn site func) at s ways new then led goes = spawn_led trace burdens light short i lt s ways led site func at new then goes.0 goes.1
  led_next i lt Ret at s ways new then led goes = return_led trace burdens light short i lt s ways led at new then goes.0 goes.1 goes.2 goes.3
  led_next i lt Sync at s ways new then led goes =
      sync_led trace burdens light short i lt s ways led at new then goes.0 goes.1 (λ (f : CountedFrame) (fs : List CountedFrame) (e : s.frames ≡ f ∷ fs). subst (AreTakes goes.0) e goes.2) goes.3

  pub led_at : (i : ℕ) → i ≤ length trace.records → (s : Seen) (ways : Both) → IsAt trace burdens i s ways → Led trace burdens i s ways
  led_at zero le s ways at = start_led trace burdens s ways at.0 at.1
  led_at (suc i) le s ways at =
      let old : Seen = at.2.0 in
      let before : Both = at.2.1 in
      led_next i (omega arith) at.0 at.1 old before s ways (led_at i (omega arith) old before at.2.2) at.2.3
