use Rattle.std.proofs.Common.{◌≡◌, ℕ, suc, ◌+◌, ◌<◌, ◌≤◌, true, false, List, [], length, reverse, Some, refl, sym, ap, subst, ◌∙◌, arith, inl, inr}
use Rattle.std.proofs.lemmas.List.{length-set}
use Rattle.std.proofs.lemmas.Option.{slice_get_within}
use Rattle.spp_event.specs.declared.records.Event.{Event}
use Rattle.spp_event.specs.declared.records.Event.TheVariants.{Strand, Call, Spawn, Ret, Sync}
use Rattle.spp_event.specs.Recordings.{Recording, Record}
use Rattle.spp_frame.specs.Nesting as nesting
use Rattle.spp_maxplus.specs.declared.state.Burdens.{Burdens}
use Rattle.spp_dag.specs.Trace.{IsWellFormed, spawns}
use Rattle.spp_dag.specs.declared.stack.FrameKind.{FrameKind}
use Rattle.spp_dag.proofs.EventsOfRecords.{event_is}
use Rattle.spp_path.specs.declared.marking.Marking.{Marking}
use Rattle.spp_path.specs.Marks.{Marked, marked, IsMark}
use Rattle.spp_path.proofs.EnteredLists.{next_is}
use Rattle.spp_path.proofs.Lived.{set_cases}
use Rattle.spp_path.proofs.MarkSteps.{Seen, Says, says_runs, says_enters, strand_step, sync_step, call_step, spawn_step, return_step}
use Rattle.spp_path.proofs.MarkPass.{SeenAt, mark_by, ready_skip, begun_seen}
use Rattle.spp_path.proofs.PartPass.{Goes, known_in, read_at, some_read}
use Rattle.spp_path.proofs.PathPass.{Left, next_left, next_taken}
use Rattle.spp_path.proofs.Running.{entered_on}
use Rattle.spp_path.proofs.marking.mark_by.Goals as goal
use Rattle.spp_path.proofs.marking.mark_by.Goals.{in-Strand, in-Call+in_ok-on-in-Call, in-Spawn+in_ok-on-in-Spawn, in-Ret, in-Sync, then-on, else-on}

pub loop-k-init : goal.loop-k-init
loop-k-init g c =
    let trace : Recording = c.args.part.now.trace in
    let first : ℕ = c.args.part.now.first in
    let end : ℕ = first + c.args.part.now.count in
    let eb = c.requires.stands.0 in
    let stands = c.requires.stands.1 in
    let known = known_in trace eb first c.args.entry stands c.keeps_limits.ensures.limits c.keeps_limits.ensures.events in
    let G : List Event → Burdens → Type 0 = Goes first end c.args.entry c.args.live c.args.trail c.args.entered.now in
    let b = c.requires.goes.0 in
    let right = c.requires.goes.1 in
    let within : first ≤ length trace.records = omega (arith, c.keeps_limits.ensures.within) in
    let start : first ≡ c.first-first.result + 0 = omega (arith, c.first-first.ensures) in
    let m : Marked = record { trail = c.args.trail; kinds = []; outside = Some c.args.live } in
    let is : marked (record { trail = c.args.trail; kinds = c.new.result; outside = Some c.args.live }) ≡ m =
    ap (λ (xs : List FrameKind). let y : Marked = record { trail = c.args.trail; kinds = reverse xs; outside = Some c.args.live } in y) c.new.ensures.items in
    record {
      size = c.requires.buffer;
      seen = λ eb stands.
          subst (λ (k : ℕ). SeenAt trace eb G k (marked (record { trail = c.args.trail; kinds = c.new.result; outside = Some c.args.live }))) start
          (begun_seen trace (known_in trace eb first c.args.entry stands c.keeps_limits.ensures.limits c.keeps_limits.ensures.events) eb first within c.args.entry stands end c.args.live c.args.trail c.args.entered.now _ is);
      left = subst (λ (k : ℕ). Left trace G end k c.new-entered.result) start (subst (λ (xs : List ℕ). Left trace G end first xs) (sym c.new-entered.ensures) (λ es are bd p. p.spawns_are));
      right = λ es are bd g ps p j v l e. absurd (omega arith);
      next = subst (λ (n : ℕ). g.R.Reader.stands c.args.events trace n) (let e : first ≡ first + 0 = omega arith in e) c.requires.here;
    }

pub read_known_at-requires-clause-good : goal.read_known_at-requires-clause-good
read_known_at-requires-clause-good g c =
    let trace : Recording = c.args.part.now.trace in
    let first : ℕ = c.args.part.now.first in
    let end : ℕ = first + c.args.part.now.count in
    let eb = c.requires.stands.0 in
    let stands = c.requires.stands.1 in
    let known = known_in trace eb first c.args.entry stands c.keeps_limits.ensures.limits c.keeps_limits.ensures.events in
    let G : List Event → Burdens → Type 0 = Goes first end c.args.entry c.args.live c.args.trail c.args.entered.now in
    let b = c.requires.goes.0 in
    let right = c.requires.goes.1 in
    some_read trace known (first + c.loop-k.k) (omega (arith, c.count-k-end.ensures, c.keeps_limits.ensures.within, c.loop-k-test.true))

pub call-requires : goal.call-requires
call-requires g c =
    let trace : Recording = c.args.part.now.trace in
    let first : ℕ = c.args.part.now.first in
    let end : ℕ = first + c.args.part.now.count in
    let eb = c.requires.stands.0 in
    let stands = c.requires.stands.1 in
    let known = known_in trace eb first c.args.entry stands c.keeps_limits.ensures.limits c.keeps_limits.ensures.events in
    let G : List Event → Burdens → Type 0 = Goes first end c.args.entry c.args.live c.args.trail c.args.entered.now in
    let b = c.requires.goes.0 in
    let right = c.requires.goes.1 in
    let at : ℕ = c.first-first.result + c.loop-k.k in
    let lt : at < length trace.records = omega (arith, c.first-first.ensures, c.count-k-end.ensures, c.keeps_limits.ensures.within, c.loop-k-test.true) in
    let old : Marked = marked c.loop-k.pass in
    ready_skip trace known eb G b right at lt old (c.loop-k.invariant.seen eb stands)

pub spawn-requires : goal.spawn-requires
spawn-requires g c =
    let trace : Recording = c.args.part.now.trace in
    let first : ℕ = c.args.part.now.first in
    let end : ℕ = first + c.args.part.now.count in
    let eb = c.requires.stands.0 in
    let stands = c.requires.stands.1 in
    let known = known_in trace eb first c.args.entry stands c.keeps_limits.ensures.limits c.keeps_limits.ensures.events in
    let G : List Event → Burdens → Type 0 = Goes first end c.args.entry c.args.live c.args.trail c.args.entered.now in
    let b = c.requires.goes.0 in
    let right = c.requires.goes.1 in
    let at : ℕ = c.first-first.result + c.loop-k.k in
    let lt : at < length trace.records = omega (arith, c.first-first.ensures, c.count-k-end.ensures, c.keeps_limits.ensures.within, c.loop-k-test.true) in
    let old : Marked = marked c.loop-k.pass in
    ready_skip trace known eb G b right at lt old (c.loop-k.invariant.seen eb stands)

pub loop-k-preserved : goal.loop-k-preserved
loop-k-preserved g c =
    let trace : Recording = c.args.part.now.trace in
    let first : ℕ = c.args.part.now.first in
    let end : ℕ = first + c.args.part.now.count in
    let eb = c.requires.stands.0 in
    let stands = c.requires.stands.1 in
    let known = known_in trace eb first c.args.entry stands c.keeps_limits.ensures.limits c.keeps_limits.ensures.events in
    let G : List Event → Burdens → Type 0 = Goes first end c.args.entry c.args.live c.args.trail c.args.entered.now in
    let b = c.requires.goes.0 in
    let right = c.requires.goes.1 in
    let at : ℕ = c.first-first.result + c.loop-k.k in
    let lt : at < length trace.records = omega (arith, c.first-first.ensures, c.count-k-end.ensures, c.keeps_limits.ensures.within, c.loop-k-test.true) in
    let old : Marked = marked c.loop-k.pass in
    let xs : List ℕ = c.loop-k.entered in
    let inside : at < end = omega (arith, c.first-first.ensures, c.count-k-end.ensures, c.loop-k-test.true) in
    let read = λ (e : Event). read_at trace first c.first-first.result c.loop-k.k e c.first-first.ensures in
    let further : suc at ≡ c.first-first.result + (c.loop-k.k + 1) = omega arith in
    let lefts = λ (new : List ℕ) (is : c.match-read_known_at.entered ≡ new) (k : Left trace G end (suc at) new).
    subst (λ (n : ℕ). Left trace G end n c.match-read_known_at.entered) further (subst (λ (x : List ℕ). Left trace G end (suc at) x) (sym is) k) in
    let v : ℕ = c.if-on.marks in
    record {
      size = length-set c.loop-k.marks c.loop-k.k v ∙ c.loop-k.invariant.size;
      seen = λ eb stands es are wf bd g rest path.
          let s = c.loop-k.invariant.seen eb stands es are wf bd g rest path in
          let root : ℕ = trace.root in
          let moved = λ (new : Marking) (is : c.match-read_known_at.pass ≡ new) (k : Seen es wf root eb bd rest path (suc at) (marked new)).
          subst (λ (n : ℕ). Seen es wf root eb bd rest path n (marked c.match-read_known_at.pass)) further
          (subst (λ (x : Marking). Seen es wf root eb bd rest path (suc at) (marked x)) (sym is) k) in
          elim c.match-read_known_at.branch [
            | in-Strand w ↦ moved c.loop-k.pass w.pass-is
                (strand_step es wf root eb bd rest path at old old w.in-Strand.count (event_is trace.records es at (Strand w.in-Strand.count) are lt (read (Strand w.in-Strand.count) w.in-Strand.ensures.said w.in-Strand.ensures.within).0) s)
            | in-Call+in_ok-on-in-Call w ↦ moved w.call.new.self w.pass-is
                (call_step es wf root eb bd rest path at old (marked w.call.new.self) w.in-Call.site w.in-Call.func
                (event_is trace.records es at (Call w.in-Call.site w.in-Call.func) are lt (read (Call w.in-Call.site w.in-Call.func) w.in-Call.ensures.said w.in-Call.ensures.within).0) s
                (w.in_ok-on-in-Call.ensures.enters, w.in_ok-on-in-Call.ensures.skips))
            | in-Spawn+in_ok-on-in-Spawn w ↦
                let is = event_is trace.records es at (Spawn w.in-Spawn.site w.in-Spawn.func) are lt (read (Spawn w.in-Spawn.site w.in-Spawn.func) w.in-Spawn.ensures.said w.in-Spawn.ensures.within).0 in
                let a = next_is es bd end at xs inside (c.loop-k.invariant.left es are bd g) in
                let o = entered_on es wf bd rest path at (ap spawns is) in
                let taken = w.takes.ensures.is in
                moved w.spawn.new.self w.pass-is
                (spawn_step es wf root eb bd rest path at old (marked w.spawn.new.self) w.takes.result w.in-Spawn.site w.in-Spawn.func is
                (λ e. o.0 (a.0 (sym taken ∙ e)), λ on. taken ∙ a.1 (o.1 on)) s
                (w.in_ok-on-in-Spawn.ensures.enters, w.in_ok-on-in-Spawn.ensures.skips))
            | in-Ret w ↦ moved w.ret-on.new.self w.pass-is
                (return_step es wf root eb bd rest path at old (marked w.ret-on.new.self) (event_is trace.records es at Ret are lt (read Ret w.in-Ret.ensures.said w.in-Ret.ensures.within).0) s
                (w.ret-on.ensures.returned, w.ret-on.ensures.skipped))
            | in-Sync w ↦ moved w.sync-on.new.self w.pass-is
                (sync_step es wf root eb bd rest path at old (marked w.sync-on.new.self) (event_is trace.records es at Sync are lt (read Sync w.in-Sync.ensures.said w.in-Sync.ensures.within).0) s
                (w.sync-on.ensures.waited, w.sync-on.ensures.skipped))
          ];
      left = elim c.match-read_known_at.branch [
        | in-Strand w ↦ lefts xs w.entered-is (next_left trace G end at xs c.loop-k.invariant.left (Strand w.in-Strand.count) lt (read (Strand w.in-Strand.count) w.in-Strand.ensures.said w.in-Strand.ensures.within) refl)
        | in-Call+in_ok-on-in-Call w ↦
            lefts xs w.entered-is
            (next_left trace G end at xs c.loop-k.invariant.left (Call w.in-Call.site w.in-Call.func) lt (read (Call w.in-Call.site w.in-Call.func) w.in-Call.ensures.said w.in-Call.ensures.within) refl)
        | in-Spawn+in_ok-on-in-Spawn w ↦
            lefts w.takes.new.self w.entered-is
            (subst (λ (ys : List ℕ). Left trace G end (suc at) ys) (sym w.takes.ensures.left) (next_taken trace G end at xs c.loop-k.invariant.left inside))
        | in-Ret w ↦ lefts xs w.entered-is (next_left trace G end at xs c.loop-k.invariant.left Ret lt (read Ret w.in-Ret.ensures.said w.in-Ret.ensures.within) refl)
        | in-Sync w ↦ lefts xs w.entered-is (next_left trace G end at xs c.loop-k.invariant.left Sync lt (read Sync w.in-Sync.ensures.said w.in-Sync.ensures.within) refl)
      ];
      right = λ es are bd g ps p j u l e.
          let wf : IsWellFormed es = subst (λ (x : List Record). nesting.IsWellFormed x) are known.formed in
          let root : ℕ = trace.root in
          let s = c.loop-k.invariant.seen eb stands es are wf bd g ps p in
          let says : Says es wf root eb bd ps p at c.match-read_known_at.on = elim c.match-read_known_at.branch [
            | in-Strand w ↦ subst (λ q. Says es wf root eb bd ps p at q) (sym (w.on-is ∙ w.runs-on.ensures))
                (says_runs es wf root eb bd ps p at old (Strand w.in-Strand.count) (event_is trace.records es at (Strand w.in-Strand.count) are lt (read (Strand w.in-Strand.count) w.in-Strand.ensures.said w.in-Strand.ensures.within).0) refl s)
            | in-Call+in_ok-on-in-Call w ↦ subst (λ q. Says es wf root eb bd ps p at q) (sym (w.on-is ∙ w.in_ok-on-in-Call.ensures.is))
                (says_runs es wf root eb bd ps p at old (Call w.in-Call.site w.in-Call.func) (event_is trace.records es at (Call w.in-Call.site w.in-Call.func) are lt (read (Call w.in-Call.site w.in-Call.func) w.in-Call.ensures.said w.in-Call.ensures.within).0) refl s)
            | in-Spawn+in_ok-on-in-Spawn w ↦ subst (λ q. Says es wf root eb bd ps p at q) (sym (w.on-is ∙ w.in_ok-on-in-Spawn.ensures.is))
                (says_runs es wf root eb bd ps p at old (Spawn w.in-Spawn.site w.in-Spawn.func) (event_is trace.records es at (Spawn w.in-Spawn.site w.in-Spawn.func) are lt (read (Spawn w.in-Spawn.site w.in-Spawn.func) w.in-Spawn.ensures.said w.in-Spawn.ensures.within).0) refl s)
            | in-Ret w ↦ subst (λ q. Says es wf root eb bd ps p at q) (sym (w.on-is ∙ w.ret-on.ensures.is))
                (says_enters es wf root eb bd ps p at old Ret (event_is trace.records es at Ret are lt (read Ret w.in-Ret.ensures.said w.in-Ret.ensures.within).0) refl s)
            | in-Sync w ↦ subst (λ q. Says es wf root eb bd ps p at q) (sym (w.on-is ∙ w.sync-on.ensures.is))
                (says_enters es wf root eb bd ps p at old Sync (event_is trace.records es at Sync are lt (read Sync w.in-Sync.ensures.said w.in-Sync.ensures.within).0) refl s)
          ] in
          let here : IsMark ps at v = elim c.if-on.branch [
            | then-on w ↦ mark_by ps at c.match-read_known_at.on v says (λ _. w.marks-is) (λ q. let z : true ≡ false = sym w.if-on.true ∙ q in absurd cc)
            | else-on w ↦ mark_by ps at c.match-read_known_at.on v says (λ q. let z : true ≡ false = sym q ∙ w.if-on.false in absurd cc) (λ _. w.marks-is)
          ] in
          let at_is : at ≡ first + c.loop-k.k = omega (arith, c.first-first.ensures) in
          elim (set_cases c.loop-k.marks c.loop-k.k j v u e) [
            | inl q ↦ subst (λ (n : ℕ). IsMark ps (first + n) u) (sym q.0) (subst (λ (n : ℕ). IsMark ps n u) at_is (subst (λ (n : ℕ). IsMark ps at n) q.1 here))
            | inr q ↦ c.loop-k.invariant.right es are bd g ps p j u (omega (arith, q.0)) q.1
          ];
      next = subst (λ (n : ℕ). g.R.Reader.stands c.read_known_at.new.events trace n) (let e : first + c.loop-k.k + 1 ≡ first + (c.loop-k.k + 1) = omega arith in e) c.read_known_at.ensures.next;
    }

pub returns-clause-marks : goal.returns-clause-marks
returns-clause-marks g c = λ bd goes es are j v e ps p.
    c.loop-k.invariant.right es are bd (goes es are) ps p j v
    (let w = slice_get_within c.loop-k.marks j v e in omega (arith, c.loop-k.invariant.size, c.count-k-end.ensures, c.loop-k-test.false)) e
