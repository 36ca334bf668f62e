use Rattle.std.proofs.Common.{◌≡◌, ℕ, suc, ◌+◌, ◌≤◌, ◌<◌, ◌^◌, Bool, true, false, List, [], ◌∷◌, length, Option, Some, is_some, Ok, Err, refl, sym, ap, subst, ◌∙◌, arith}
use Rattle.std.proofs.lemmas.List.{length-map}
use Rattle.spp_event.specs.declared.records.Event.{Event}
use Rattle.spp_event.specs.declared.records.Event.TheVariants.{Strand, Call, Spawn, Ret, Sync}
use Rattle.spp_event.specs.Recordings.{Recording, record_at}
use Rattle.spp_maxplus.specs.declared.state.Burdens.{Burdens}
use Rattle.spp_frame.specs.declared.profile_fault.ProfileFault.{ProfileFault}
use Rattle.spp_frame.specs.Answers.{IsFaultOf}
use Rattle.spp_site.proofs.WholeProfile.{whole}
use Rattle.spp_ways.specs.declared.open_ways.OpenWays.{OpenWays}
use Rattle.spp_ways.specs.Ways.{Ways, no_ways}
use Rattle.spp_ways.specs.OpenWays.{IsLaid, HasOne, AreWays, on_path, bare_row, strand_list, waited_list, returned_list}
use Rattle.spp_ways.proofs.Steps.{some_frame, two_frames, strand_fits}
use Rattle.spp_pass.specs.declared.counted_frame.CountedFrame.{CountedFrame}
use Rattle.spp_pass.specs.declared.counting.Counting.{Counting}
use Rattle.spp_pass.specs.declared.counting.Closing.{Closing}
use Rattle.spp_pass.specs.declared.counting.Ended.{Ended}
use Rattle.spp_pass.specs.Passes.{Seen, Notes, no_notes, noted_sync, noted_return, seen_with, start_seen, AreTakes, CanReturn, Returns, IsClosing}
use Rattle.spp_pass.proofs.Keeping.{kept_bad, kept_return, kept_open}
use Rattle.spp_pass.proofs.Passed.{light_of, leans, is_read, ready_add, ready_return, root_stays, ready_finish}
use Rattle.spp_serial.proofs.Reading.{Led, start_led, fits, has_one, strand_led, sync_led, call_led, spawn_led, has_two, site_in, returned_fits, return_led}
use Rattle.spp_serial.proofs.Told.{told, path_fits, path_is}
use Rattle.spp_serial.proofs.profile_by.Goals as goal
use Rattle.spp_serial.proofs.profile_by.Goals.{in-Strand, in-Call+in_ok-open-in-Call+in_ok-open-in-Call-2, in-Spawn+in_ok-open-in-Spawn+in_ok-open-in-Spawn-2, in-Ret+in_ok-ret-in-Ret+in-Some+in_ok-ret-in-Some, in-Sync}

pub loop-at-init : goal.loop-at-init
loop-at-init g c =
    let trace : Recording = c.args.trace.now in
    let s : Seen = seen_with c.in_ok-counting.counting no_notes in
    let is : s ≡ start_seen trace.root = c.in_ok-counting.ensures ∙ ap start_seen c.root.ensures in
    record {
      led = (no_notes, λ on. no_ways ∷ [], start_led trace c.args.burdens s (λ on. no_ways ∷ []) is (λ on. refl), c.in_ok-ways.ensures.ways);
      laid = c.in_ok-ways.ensures.laid;
      few = (let z : length c.in_ok-ways.ways.log.rows.items ≡ 0 = c.in_ok-ways.ensures.rows in omega arith);
      next = c.requires.here;
    }

pub returns-in-Err-clause-fault : goal.returns-in-Err-clause-fault
returns-in-Err-clause-fault g c =
    let trace : Recording = c.args.trace.now in
    let at : ℕ = c.loop-at.at in
    let s : Seen = seen_with c.loop-at.counting c.loop-at.invariant.led.0 in
    let ways : Bool → List Ways = c.loop-at.invariant.led.1 in
    let led = c.loop-at.invariant.led.2 in
    let are = c.loop-at.invariant.led.3 in
    let lt : at < length trace.records = omega (arith, c.count-count.ensures.count) in
    let b : Burdens = c.args.burdens in
    let light = light_of b c.are_small.ensures.continuation c.are_small.ensures.join in
    let short = c.count-count.ensures.limits.events in
    let said : record_at trace.records at ≡ Err c.in-Err.fault = sym c.read.ensures.said ∙ c.in-Err.is in
    subst (λ (f : ProfileFault). IsFaultOf trace.records f) (sym c.bad.ensures)
    (kept_bad trace.records b trace.root at s.work (leans s.frames) c.in-Err.fault lt said led.passed.reached)

pub strand-requires : goal.strand-requires
strand-requires g c =
    let trace : Recording = c.args.trace.now in
    let at : ℕ = c.loop-at.at in
    let s : Seen = seen_with c.loop-at.counting c.loop-at.invariant.led.0 in
    let ways : Bool → List Ways = c.loop-at.invariant.led.1 in
    let led = c.loop-at.invariant.led.2 in
    let are = c.loop-at.invariant.led.3 in
    let lt : at < length trace.records = omega (arith, c.count-count.ensures.count) in
    let b : Burdens = c.args.burdens in
    let light = light_of b c.are_small.ensures.continuation c.are_small.ensures.join in
    let short = c.count-count.ensures.limits.events in
    let read = λ (e : Event) (is : c.in-Ok.event ≡ e).
    is_read trace at c.read.result e c.read.ensures.said c.read.ensures.within (c.in-Ok.is ∙ ap (λ (e : Event). Ok e) is) in
    ready_add trace b light short 0 at (omega arith) lt c.in-Strand.count (read (Strand c.in-Strand.count) c.in-Strand.is) s led.passed

pub strand-requires-in-Strand-clause-fits : goal.strand-requires-in-Strand-clause-fits
strand-requires-in-Strand-clause-fits g c =
    let trace : Recording = c.args.trace.now in
    let at : ℕ = c.loop-at.at in
    let s : Seen = seen_with c.loop-at.counting c.loop-at.invariant.led.0 in
    let ways : Bool → List Ways = c.loop-at.invariant.led.1 in
    let led = c.loop-at.invariant.led.2 in
    let are = c.loop-at.invariant.led.3 in
    let lt : at < length trace.records = omega (arith, c.count-count.ensures.count) in
    let b : Burdens = c.args.burdens in
    let light = light_of b c.are_small.ensures.continuation c.are_small.ensures.join in
    let short = c.count-count.ensures.limits.events in
    let read = λ (e : Event) (is : c.in-Ok.event ≡ e).
    is_read trace at c.read.result e c.read.ensures.said c.read.ensures.within (c.in-Ok.is ∙ ap (λ (e : Event). Ok e) is) in
    let small : c.in-Strand.count < 2 ^ 64 = (read (Strand c.in-Strand.count) c.in-Strand.is).1 in
    λ on. strand_fits on c.in-Strand.count c.loop-at.ways (ways on) (are on) (fits trace b light short at lt s ways led c.in-Strand.count small on)

-- which choices a pass would have noted doesn't matter
without_notes : (b : Burdens) (c : Counting) (n : Notes) (fs : List CountedFrame) → CanReturn b (seen_with c n) fs → CanReturn b (seen_with c no_notes) fs
without_notes b c n [] h = absurd h
without_notes b c n (f ∷ []) h = tt
without_notes b c n (f ∷ g ∷ fs) h = record { fits = h.fits; before = h.before; site = h.site; row = h.row }

pub ret-requires : goal.ret-requires
ret-requires g c =
    let trace : Recording = c.args.trace.now in
    let at : ℕ = c.loop-at.at in
    let s : Seen = seen_with c.loop-at.counting c.loop-at.invariant.led.0 in
    let ways : Bool → List Ways = c.loop-at.invariant.led.1 in
    let led = c.loop-at.invariant.led.2 in
    let are = c.loop-at.invariant.led.3 in
    let lt : at < length trace.records = omega (arith, c.count-count.ensures.count) in
    let b : Burdens = c.args.burdens in
    let light = light_of b c.are_small.ensures.continuation c.are_small.ensures.join in
    let short = c.count-count.ensures.limits.events in
    without_notes b c.loop-at.counting c.loop-at.invariant.led.0 s.frames (ready_return trace b light short 0 at (omega arith) lt c.count-count.ensures.limits.sites s led.passed)

pub returns-in-None-clause-fault : goal.returns-in-None-clause-fault
returns-in-None-clause-fault g c =
    let trace : Recording = c.args.trace.now in
    let at : ℕ = c.loop-at.at in
    let s : Seen = seen_with c.loop-at.counting c.loop-at.invariant.led.0 in
    let ways : Bool → List Ways = c.loop-at.invariant.led.1 in
    let led = c.loop-at.invariant.led.2 in
    let are = c.loop-at.invariant.led.3 in
    let lt : at < length trace.records = omega (arith, c.count-count.ensures.count) in
    let b : Burdens = c.args.burdens in
    let light = light_of b c.are_small.ensures.continuation c.are_small.ensures.join in
    let short = c.count-count.ensures.limits.events in
    let read = λ (e : Event) (is : c.in-Ok.event ≡ e).
    is_read trace at c.read.result e c.read.ensures.said c.read.ensures.within (c.in-Ok.is ∙ ap (λ (e : Event). Ok e) is) in
    let r = read Ret c.in-Ret.is in
    let new : Seen = seen_with c.ret.new.self (noted_return at s.frames c.loop-at.invariant.led.0) in
    let went : Returns b at s s.frames false new =
    subst (λ (o : Option Closing). Returns b at s s.frames (is_some o) new) c.in-None.is (c.in_ok-ret-in-Ret.ensures.returns at c.loop-at.invariant.led.0) in
    let stop = root_stays trace b light short 0 at (omega arith) lt s new went led.passed in
    subst (λ (f : ProfileFault). IsFaultOf trace.records f) (sym c.bad-in-None.ensures)
    (kept_return trace.records b trace.root at s.work (leans s.frames) lt r.0 stop led.passed.reached)

pub ret-requires-in-Some-clause-two : goal.ret-requires-in-Some-clause-two
ret-requires-in-Some-clause-two g c =
    let trace : Recording = c.args.trace.now in
    let at : ℕ = c.loop-at.at in
    let s : Seen = seen_with c.loop-at.counting c.loop-at.invariant.led.0 in
    let ways : Bool → List Ways = c.loop-at.invariant.led.1 in
    let led = c.loop-at.invariant.led.2 in
    let are = c.loop-at.invariant.led.3 in
    let lt : at < length trace.records = omega (arith, c.count-count.ensures.count) in
    let b : Burdens = c.args.burdens in
    let light = light_of b c.are_small.ensures.continuation c.are_small.ensures.join in
    let short = c.count-count.ensures.limits.events in
    let is : IsClosing b s.work s.frames (Some c.in-Some.closing) =
    subst (λ (o : Option Closing). IsClosing b s.work s.frames o) c.in-Some.is c.in_ok-ret-in-Ret.ensures.closing in
    two_frames false c.loop-at.ways (ways false) (are false) (has_two trace b light short at lt s ways led c.in-Some.closing is)

pub ret-requires-in-Some-clause-fits : goal.ret-requires-in-Some-clause-fits
ret-requires-in-Some-clause-fits g c on =
    let trace : Recording = c.args.trace.now in
    let at : ℕ = c.loop-at.at in
    let s : Seen = seen_with c.loop-at.counting c.loop-at.invariant.led.0 in
    let ways : Bool → List Ways = c.loop-at.invariant.led.1 in
    let led = c.loop-at.invariant.led.2 in
    let are = c.loop-at.invariant.led.3 in
    let lt : at < length trace.records = omega (arith, c.count-count.ensures.count) in
    let b : Burdens = c.args.burdens in
    let light = light_of b c.are_small.ensures.continuation c.are_small.ensures.join in
    let short = c.count-count.ensures.limits.events in
    let is : IsClosing b s.work s.frames (Some c.in-Some.closing) =
    subst (λ (o : Option Closing). IsClosing b s.work s.frames o) c.in-Some.is c.in_ok-ret-in-Ret.ensures.closing in
    (ways on, are on, returned_fits trace b light short at lt s ways led on c.in-Some.closing is)

pub ret-requires-in-Some-clause-few : goal.ret-requires-in-Some-clause-few
ret-requires-in-Some-clause-few g c =
    let trace : Recording = c.args.trace.now in
    let at : ℕ = c.loop-at.at in
    let s : Seen = seen_with c.loop-at.counting c.loop-at.invariant.led.0 in
    let ways : Bool → List Ways = c.loop-at.invariant.led.1 in
    let led = c.loop-at.invariant.led.2 in
    let are = c.loop-at.invariant.led.3 in
    let lt : at < length trace.records = omega (arith, c.count-count.ensures.count) in
    let b : Burdens = c.args.burdens in
    let light = light_of b c.are_small.ensures.continuation c.are_small.ensures.join in
    let short = c.count-count.ensures.limits.events in
    (let z : length c.loop-at.ways.log.rows.items ≤ at = c.loop-at.invariant.few in omega arith)

pub ret-requires-in-Some-clause-site : goal.ret-requires-in-Some-clause-site
ret-requires-in-Some-clause-site g c =
    let trace : Recording = c.args.trace.now in
    let at : ℕ = c.loop-at.at in
    let s : Seen = seen_with c.loop-at.counting c.loop-at.invariant.led.0 in
    let ways : Bool → List Ways = c.loop-at.invariant.led.1 in
    let led = c.loop-at.invariant.led.2 in
    let are = c.loop-at.invariant.led.3 in
    let lt : at < length trace.records = omega (arith, c.count-count.ensures.count) in
    let b : Burdens = c.args.burdens in
    let light = light_of b c.are_small.ensures.continuation c.are_small.ensures.join in
    let short = c.count-count.ensures.limits.events in
    let is : IsClosing b s.work s.frames (Some c.in-Some.closing) =
    subst (λ (o : Option Closing). IsClosing b s.work s.frames o) c.in-Some.is c.in_ok-ret-in-Ret.ensures.closing in
    site_in trace b light short at lt s ways led c.count-count.ensures.limits.sites c.in-Some.closing is

pub wait-requires-clause-some : goal.wait-requires-clause-some
wait-requires-clause-some g c =
    let trace : Recording = c.args.trace.now in
    let at : ℕ = c.loop-at.at in
    let s : Seen = seen_with c.loop-at.counting c.loop-at.invariant.led.0 in
    let ways : Bool → List Ways = c.loop-at.invariant.led.1 in
    let led = c.loop-at.invariant.led.2 in
    let are = c.loop-at.invariant.led.3 in
    let lt : at < length trace.records = omega (arith, c.count-count.ensures.count) in
    let b : Burdens = c.args.burdens in
    let light = light_of b c.are_small.ensures.continuation c.are_small.ensures.join in
    let short = c.count-count.ensures.limits.events in
    some_frame false c.loop-at.ways (ways false) (are false) (has_one trace b light short at lt s ways led false)

pub loop-at-preserved : goal.loop-at-preserved
loop-at-preserved g c =
    let trace : Recording = c.args.trace.now in
    let at : ℕ = c.loop-at.at in
    let s : Seen = seen_with c.loop-at.counting c.loop-at.invariant.led.0 in
    let ways : Bool → List Ways = c.loop-at.invariant.led.1 in
    let led = c.loop-at.invariant.led.2 in
    let are = c.loop-at.invariant.led.3 in
    let lt : at < length trace.records = omega (arith, c.count-count.ensures.count) in
    let b : Burdens = c.args.burdens in
    let light = light_of b c.are_small.ensures.continuation c.are_small.ensures.join in
    let short = c.count-count.ensures.limits.events in
    let read = λ (e : Event) (is : c.in-Ok.event ≡ e).
    is_read trace at c.read.result e c.read.ensures.said c.read.ensures.within (c.in-Ok.is ∙ ap (λ (e : Event). Ok e) is) in
    let n = c.loop-at.invariant.led.0 in
    let further : suc at ≡ at + 1 = omega arith in
    let few : length c.loop-at.ways.log.rows.items ≤ at = c.loop-at.invariant.few in
    let moved = λ (m : Notes) (then : Bool → List Ways) (counting : Counting) (w : OpenWays) (is : c.match-event.counting ≡ counting) (same : c.match-event.ways ≡ w)
    (l : Led trace b (suc at) (seen_with counting m) then) (now : (on : Bool) → AreWays on w (then on)) (laid : IsLaid w) (f : length w.log.rows.items ≤ length c.loop-at.ways.log.rows.items + 1).
    let r : ((x : Notes) × (y : Bool → List Ways) × Led trace b (at + 1) (seen_with c.match-event.counting x) y × ((on : Bool) → AreWays on c.match-event.ways (y on)))
    × (IsLaid c.match-event.ways × (length c.match-event.ways.log.rows.items ≤ at + 1)) = (
      (
        m,
        then,
        subst (λ (k : ℕ). Led trace b k (seen_with c.match-event.counting m) then) further (subst (λ (x : Counting). Led trace b (suc at) (seen_with x m) then) (sym is) l),
        λ on. subst (λ (x : OpenWays). AreWays on x (then on)) (sym same) (now on),
      ),
      (subst IsLaid (sym same) laid, (let z : length c.match-event.ways.log.rows.items ≡ length w.log.rows.items = ap (λ (x : OpenWays). length x.log.rows.items) same in omega arith)),
    ) in r in
    let all : ((x : Notes) × (y : Bool → List Ways) × Led trace b (at + 1) (seen_with c.match-event.counting x) y × ((on : Bool) → AreWays on c.match-event.ways (y on)))
    × (IsLaid c.match-event.ways × (length c.match-event.ways.log.rows.items ≤ at + 1)) =
    elim c.match-event.branch [
      | in-Strand w ↦
          let then = λ (on : Bool). strand_list w.in-Strand.count (ways on) in
          moved n then w.strand.new.self w.strand-in-Strand.new.self w.counting-is w.ways-is
          (strand_led trace b light short at lt s ways led w.in-Strand.count (read (Strand w.in-Strand.count) w.in-Strand.is) (seen_with w.strand.new.self n) then (w.strand.ensures n) (λ on. refl))
          (λ on. w.strand-in-Strand.ensures.ways on (ways on) (are on)) w.strand-in-Strand.ensures.laid (let z = w.strand-in-Strand.ensures.rows in omega arith)
      | in-Call+in_ok-open-in-Call+in_ok-open-in-Call-2 w ↦
          let then = λ (on : Bool). no_ways ∷ ways on in
          moved n then w.open.new.self w.open-in-Call.new.self w.counting-is w.ways-is
          (call_led trace b light short at lt s ways led w.in-Call.site w.in-Call.func (read (Call w.in-Call.site w.in-Call.func) w.in-Call.is) (seen_with w.open.new.self n) then (w.in_ok-open-in-Call.ensures n) (λ on. refl))
          (λ on. w.in_ok-open-in-Call-2.ensures.ways on (ways on) (are on)) w.in_ok-open-in-Call-2.ensures.laid (let z = w.in_ok-open-in-Call-2.ensures.rows in omega arith)
      | in-Spawn+in_ok-open-in-Spawn+in_ok-open-in-Spawn-2 w ↦
          let then = λ (on : Bool). no_ways ∷ ways on in
          moved n then w.open-in-Spawn.new.self w.open-in-Spawn-2.new.self w.counting-is w.ways-is
          (spawn_led trace b light short at lt s ways led w.in-Spawn.site w.in-Spawn.func (read (Spawn w.in-Spawn.site w.in-Spawn.func) w.in-Spawn.is) (seen_with w.open-in-Spawn.new.self n) then (w.in_ok-open-in-Spawn.ensures n) (λ on. refl))
          (λ on. w.in_ok-open-in-Spawn-2.ensures.ways on (ways on) (are on)) w.in_ok-open-in-Spawn-2.ensures.laid (let z = w.in_ok-open-in-Spawn-2.ensures.rows in omega arith)
      | in-Ret+in_ok-ret-in-Ret+in-Some+in_ok-ret-in-Some w ↦
          let m : Notes = noted_return at s.frames n in
          let x : Closing = w.in-Some.closing in
          let then = λ (on : Bool). returned_list x.kind (on_path on x.takes) (on_path on x.wins) x.site (bare_row x.closed) (ways on) in
          let went : Returns b at s s.frames true (seen_with w.ret.new.self m) =
          subst (λ (o : Option Closing). Returns b at s s.frames (is_some o) (seen_with w.ret.new.self m)) w.in-Some.is (w.in_ok-ret-in-Ret.ensures.returns at n) in
          let is : IsClosing b s.work s.frames (Some x) = subst (λ (o : Option Closing). IsClosing b s.work s.frames o) w.in-Some.is w.in_ok-ret-in-Ret.ensures.closing in
          moved m then w.ret.new.self w.ret-in-Some.new.self w.counting-is w.ways-is
          (return_led trace b light short at lt s ways led (read Ret w.in-Ret.is) (seen_with w.ret.new.self m) then x went is (λ on. refl))
          (λ on. w.in_ok-ret-in-Some.ensures.ways on (ways on) (are on)) w.in_ok-ret-in-Some.ensures.laid (let z = w.in_ok-ret-in-Some.ensures.rows in omega arith)
      | in-Sync w ↦
          let m : Notes = noted_sync at s.frames n in
          let then = λ (on : Bool). waited_list (on_path on w.takes.result) (ways on) in
          moved m then w.sync.new.self w.wait.new.self w.counting-is w.ways-is
          (sync_led trace b light short at lt s ways led (read Sync w.in-Sync.is) (seen_with w.sync.new.self m) then w.takes.result (w.sync.ensures at n)
          (λ f fs e. subst (AreTakes w.takes.result) e w.takes.ensures) (λ on. refl))
          (λ on. w.wait.ensures.ways on (ways on) (are on)) w.wait.ensures.laid (let z = w.wait.ensures.rows in omega arith)
    ] in
    record { led = all.0; laid = all.1.0; few = all.1.1; next = c.read.ensures.next }

pub returns-then-depth-gt0-clause-fault : goal.returns-then-depth-gt0-clause-fault
returns-then-depth-gt0-clause-fault g c =
    let trace : Recording = c.args.trace.now in
    let s : Seen = seen_with c.loop-at.counting c.loop-at.invariant.led.0 in
    let led = c.loop-at.invariant.led.2 in
    let end : c.loop-at.at ≡ length trace.records = omega (arith, c.count-count.ensures.count) in
    let deep : c.depth-depth.result + 1 ≡ length (leans s.frames) = c.depth-depth.ensures ∙ sym (length-map s.frames _) in
    subst (λ (f : ProfileFault). IsFaultOf trace.records f) (sym c.bad-then-depth-gt0.ensures)
    (kept_open trace.records c.args.burdens trace.root c.loop-at.at s.work c.count-count.result c.depth-depth.result (leans s.frames) end c.count-count.ensures.count deep (omega arith) led.passed.reached)

pub finish-ended-requires : goal.finish-ended-requires
finish-ended-requires g c =
    let trace : Recording = c.args.trace.now in
    let n = c.loop-at.invariant.led.0 in
    let s : Seen = seen_with c.loop-at.counting n in
    let ways : Bool → List Ways = c.loop-at.invariant.led.1 in
    let led = c.loop-at.invariant.led.2 in
    let are = c.loop-at.invariant.led.3 in
    let at : ℕ = c.loop-at.at in
    let b : Burdens = c.args.burdens in
    let short = c.count-count.ensures.limits.events in
    let good = c.count-count.ensures.events in
    let last : at ≡ length trace.records = omega (arith, c.count-count.ensures.count) in
    let one : length s.frames ≡ 1 = omega (arith, c.depth-depth.ensures) in
    ready_finish trace b short at last s one led.passed

one_way : (ways : List Ways) → length ways ≡ 1 → HasOne ways
one_way [] e = absurd (omega arith)
one_way (w ∷ ws) e = tt

pub path_table-requires-clause-fits : goal.path_table-requires-clause-fits
path_table-requires-clause-fits g c =
    let trace : Recording = c.args.trace.now in
    let n = c.loop-at.invariant.led.0 in
    let s : Seen = seen_with c.loop-at.counting n in
    let ways : Bool → List Ways = c.loop-at.invariant.led.1 in
    let led = c.loop-at.invariant.led.2 in
    let are = c.loop-at.invariant.led.3 in
    let at : ℕ = c.loop-at.at in
    let b : Burdens = c.args.burdens in
    let short = c.count-count.ensures.limits.events in
    let good = c.count-count.ensures.events in
    let last : at ≡ length trace.records = omega (arith, c.count-count.ensures.count) in
    let one : length s.frames ≡ 1 = omega (arith, c.depth-depth.ensures) in
    let e : Ended = c.finish-ended.result in
    let args = c.finish-ended.ensures in
    (ways false, are false, one_way (ways false) (led.many false ∙ one), path_fits trace b short good at last s ways led one e args false)

pub path_table-requires-2-clause-fits : goal.path_table-requires-2-clause-fits
path_table-requires-2-clause-fits g c =
    let trace : Recording = c.args.trace.now in
    let n = c.loop-at.invariant.led.0 in
    let s : Seen = seen_with c.loop-at.counting n in
    let ways : Bool → List Ways = c.loop-at.invariant.led.1 in
    let led = c.loop-at.invariant.led.2 in
    let are = c.loop-at.invariant.led.3 in
    let at : ℕ = c.loop-at.at in
    let b : Burdens = c.args.burdens in
    let short = c.count-count.ensures.limits.events in
    let good = c.count-count.ensures.events in
    let last : at ≡ length trace.records = omega (arith, c.count-count.ensures.count) in
    let one : length s.frames ≡ 1 = omega (arith, c.depth-depth.ensures) in
    let e : Ended = c.finish-ended.result in
    let args = c.finish-ended.ensures in
    (ways true, are true, one_way (ways true) (led.many true ∙ one), path_fits trace b short good at last s ways led one e args true)

pub returns-clause-figures : goal.returns-clause-figures
returns-clause-figures g c =
    let trace : Recording = c.args.trace.now in
    let n = c.loop-at.invariant.led.0 in
    let s : Seen = seen_with c.loop-at.counting n in
    let ways : Bool → List Ways = c.loop-at.invariant.led.1 in
    let led = c.loop-at.invariant.led.2 in
    let are = c.loop-at.invariant.led.3 in
    let at : ℕ = c.loop-at.at in
    let b : Burdens = c.args.burdens in
    let short = c.count-count.ensures.limits.events in
    let good = c.count-count.ensures.events in
    let last : at ≡ length trace.records = omega (arith, c.count-count.ensures.count) in
    let one : length s.frames ≡ 1 = omega (arith, c.depth-depth.ensures) in
    let e : Ended = c.finish-ended.result in
    let args = c.finish-ended.ensures in
    (told trace b short good at last s ways led one e args).figures

pub returns-clause-small : goal.returns-clause-small
returns-clause-small g c =
    let trace : Recording = c.args.trace.now in
    let n = c.loop-at.invariant.led.0 in
    let s : Seen = seen_with c.loop-at.counting n in
    let ways : Bool → List Ways = c.loop-at.invariant.led.1 in
    let led = c.loop-at.invariant.led.2 in
    let are = c.loop-at.invariant.led.3 in
    let at : ℕ = c.loop-at.at in
    let b : Burdens = c.args.burdens in
    let short = c.count-count.ensures.limits.events in
    let good = c.count-count.ensures.events in
    let last : at ≡ length trace.records = omega (arith, c.count-count.ensures.count) in
    let one : length s.frames ≡ 1 = omega (arith, c.depth-depth.ensures) in
    let e : Ended = c.finish-ended.result in
    let args = c.finish-ended.ensures in
    (told trace b short good at last s ways led one e args).small

pub returns-clause-dag : goal.returns-clause-dag
returns-clause-dag g c =
    let trace : Recording = c.args.trace.now in
    let n = c.loop-at.invariant.led.0 in
    let s : Seen = seen_with c.loop-at.counting n in
    let ways : Bool → List Ways = c.loop-at.invariant.led.1 in
    let led = c.loop-at.invariant.led.2 in
    let are = c.loop-at.invariant.led.3 in
    let at : ℕ = c.loop-at.at in
    let b : Burdens = c.args.burdens in
    let short = c.count-count.ensures.limits.events in
    let good = c.count-count.ensures.events in
    let last : at ≡ length trace.records = omega (arith, c.count-count.ensures.count) in
    let one : length s.frames ≡ 1 = omega (arith, c.depth-depth.ensures) in
    let e : Ended = c.finish-ended.result in
    let args = c.finish-ended.ensures in
    (told trace b short good at last s ways led one e args).dag

pub returns-clause-path : goal.returns-clause-path
returns-clause-path g c =
    let trace : Recording = c.args.trace.now in
    let n = c.loop-at.invariant.led.0 in
    let s : Seen = seen_with c.loop-at.counting n in
    let ways : Bool → List Ways = c.loop-at.invariant.led.1 in
    let led = c.loop-at.invariant.led.2 in
    let are = c.loop-at.invariant.led.3 in
    let at : ℕ = c.loop-at.at in
    let b : Burdens = c.args.burdens in
    let short = c.count-count.ensures.limits.events in
    let good = c.count-count.ensures.events in
    let last : at ≡ length trace.records = omega (arith, c.count-count.ensures.count) in
    let one : length s.frames ≡ 1 = omega (arith, c.depth-depth.ensures) in
    let e : Ended = c.finish-ended.result in
    let args = c.finish-ended.ensures in
    path_is trace b short good at last s ways led one e args false c.in_ok-path.path (c.in_ok-path.ensures (ways false) (are false))

pub returns-clause-burdened_path : goal.returns-clause-burdened_path
returns-clause-burdened_path g c =
    let trace : Recording = c.args.trace.now in
    let n = c.loop-at.invariant.led.0 in
    let s : Seen = seen_with c.loop-at.counting n in
    let ways : Bool → List Ways = c.loop-at.invariant.led.1 in
    let led = c.loop-at.invariant.led.2 in
    let are = c.loop-at.invariant.led.3 in
    let at : ℕ = c.loop-at.at in
    let b : Burdens = c.args.burdens in
    let short = c.count-count.ensures.limits.events in
    let good = c.count-count.ensures.events in
    let last : at ≡ length trace.records = omega (arith, c.count-count.ensures.count) in
    let one : length s.frames ≡ 1 = omega (arith, c.depth-depth.ensures) in
    let e : Ended = c.finish-ended.result in
    let args = c.finish-ended.ensures in
    path_is trace b short good at last s ways led one e args true c.in_ok-burdened_path.burdened_path (c.in_ok-burdened_path.ensures (ways true) (are true))

pub returns-clause-profile : goal.returns-clause-profile
returns-clause-profile g c =
    let trace : Recording = c.args.trace.now in
    let n = c.loop-at.invariant.led.0 in
    let s : Seen = seen_with c.loop-at.counting n in
    let ways : Bool → List Ways = c.loop-at.invariant.led.1 in
    let led = c.loop-at.invariant.led.2 in
    let are = c.loop-at.invariant.led.3 in
    let at : ℕ = c.loop-at.at in
    let b : Burdens = c.args.burdens in
    let short = c.count-count.ensures.limits.events in
    let good = c.count-count.ensures.events in
    let last : at ≡ length trace.records = omega (arith, c.count-count.ensures.count) in
    let one : length s.frames ≡ 1 = omega (arith, c.depth-depth.ensures) in
    let e : Ended = c.finish-ended.result in
    let args = c.finish-ended.ensures in
    let t = told trace b short good at last s ways led one e args in
    whole trace b (record { figures = e.figures; dag = e.dag; path = c.in_ok-path.path; burdened_path = c.in_ok-burdened_path.burdened_path }) t.figures t.dag
    (path_is trace b short good at last s ways led one e args false c.in_ok-path.path (c.in_ok-path.ensures (ways false) (are false))) (path_is trace b short good at last s ways led one e args true c.in_ok-burdened_path.burdened_path (c.in_ok-burdened_path.ensures (ways true) (are true)))
