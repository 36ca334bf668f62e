use Rattle.std.proofs.Common.{◌≡◌, ℕ, suc, ◌+◌, ◌<◌, ◌≤◌, Option, length, sym, ap, subst, arith}
use Rattle.spp_event.specs.declared.records.Event.{Event}
use Rattle.spp_event.specs.declared.records.Event.TheVariants.{Strand, Call, Spawn, Ret, Sync}
use Rattle.spp_event.specs.Recordings.{Recording}
use Rattle.spp_stack.specs.Chain.{StackOf}
use Rattle.spp_pass.specs.declared.part.PartResult.{PartResult}
use Rattle.spp_pass.specs.Passes.{Seen, seen}
use Rattle.spp_pass.specs.Shares.{IsPartOf}
use Rattle.spp_pass.proofs.Marking.{outside_below}
use Rattle.spp_pass.proofs.Passed.{light_of}
use Rattle.spp_pass.proofs.Going.{Going, sound_of, read_at, some_read, ok_more, going_start, going_add, going_strand, going_sync, going_call, going_spawn, going_reached, going_can_return, going_return, going_sites, going_suspend, going_end}
use Rattle.spp_pass.proofs.part.run_by.Goals as goal
use Rattle.spp_pass.proofs.part.run_by.Goals.{in-Strand, in-Call+in_ok-open-in-Call, in-Spawn+in_ok-open-in-Spawn, in-Ret+in_ok-outside-in-Ret+in_ok-ret-in-Ret, in-Sync+in_ok-sync-in-Sync}

pub loop-k-init : goal.loop-k-init
loop-k-init g c =
    let trace : Recording = c.args.part.now.trace in
    let light = light_of c.args.burdens c.are_small.ensures.continuation c.are_small.ensures.join in
    let first : ℕ = c.args.part.now.first in
    let sound = sound_of trace c.args.burdens first c.args.entry c.requires.stands c.keeps_limits.ensures.limits.events c.keeps_limits.ensures.limits.sites c.keeps_limits.ensures.events in
    let out = c.below-outside.result in
    let at : first ≡ c.first-first.result + 0 = omega (arith, c.first-first.ensures) in
    record {
      going = subst (λ (k : ℕ). Going trace c.args.burdens first k out (seen c.in_ok-summing.summing)) at
          (going_start trace sound c.args.burdens light first (omega (arith, c.keeps_limits.ensures.within)) c.args.entry c.requires.stands out (seen c.in_ok-summing.summing) c.in_ok-summing.ensures
          (λ f fs h. outside_below out fs (c.below-outside.ensures.some f fs h) (c.below-outside.ensures.none f fs h)));
      next = subst (λ (n : ℕ). g.R.Reader.stands c.args.events trace n) (let e : first ≡ first + 0 = omega arith in e) c.requires.here;
    }

pub read_known_at-requires-clause-good : goal.read_known_at-requires-clause-good
read_known_at-requires-clause-good g c =
    let trace : Recording = c.args.part.now.trace in
    let first : ℕ = c.args.part.now.first in
    let sound = sound_of trace c.args.burdens first c.args.entry c.requires.stands c.keeps_limits.ensures.limits.events c.keeps_limits.ensures.limits.sites c.keeps_limits.ensures.events in
    some_read trace sound (first + c.loop-k.k) (omega (arith, c.count-k-end.ensures, c.keeps_limits.ensures.within, c.loop-k-test.true))

pub strand-requires : goal.strand-requires
strand-requires g c =
    let trace : Recording = c.args.part.now.trace in
    let light = light_of c.args.burdens c.are_small.ensures.continuation c.are_small.ensures.join in
    let first : ℕ = c.args.part.now.first in
    let at : ℕ = c.first-first.result + c.loop-k.k in
    let sound = sound_of trace c.args.burdens first c.args.entry c.requires.stands c.keeps_limits.ensures.limits.events c.keeps_limits.ensures.limits.sites c.keeps_limits.ensures.events in
    let from : first ≤ at = omega (arith, c.first-first.ensures) in
    let lt : at < length trace.records = omega (arith, c.first-first.ensures, c.count-k-end.ensures, c.keeps_limits.ensures.within, c.loop-k-test.true) in
    going_add trace sound c.args.burdens light first at from lt c.loop-k.outside (seen c.loop-k.summing) c.loop-k.invariant.going
    c.in-Strand.count (read_at trace first c.first-first.result c.loop-k.k (Strand c.in-Strand.count) c.first-first.ensures c.in-Strand.ensures.said c.in-Strand.ensures.within)

pub ret-requires : goal.ret-requires
ret-requires g c =
    let trace : Recording = c.args.part.now.trace in
    let light = light_of c.args.burdens c.are_small.ensures.continuation c.are_small.ensures.join in
    let first : ℕ = c.args.part.now.first in
    let at : ℕ = c.first-first.result + c.loop-k.k in
    let sound = sound_of trace c.args.burdens first c.args.entry c.requires.stands c.keeps_limits.ensures.limits.events c.keeps_limits.ensures.limits.sites c.keeps_limits.ensures.events in
    let from : first ≤ at = omega (arith, c.first-first.ensures) in
    let lt : at < length trace.records = omega (arith, c.first-first.ensures, c.count-k-end.ensures, c.keeps_limits.ensures.within, c.loop-k-test.true) in
    let read = read_at trace first c.first-first.result c.loop-k.k Ret c.first-first.ensures c.in-Ret.ensures.said c.in-Ret.ensures.within in
    let s : Seen = seen c.reach.new.self in
    let ready = going_reached trace sound c.args.burdens light first at from lt c.loop-k.outside (seen c.loop-k.summing) c.loop-k.invariant.going
    read c.in_ok-outside-in-Ret.outside s c.in_ok-outside-in-Ret.ensures in
    going_can_return trace sound c.args.burdens light first at from lt c.in_ok-outside-in-Ret.outside s ready.going ready.two

pub loop-k-preserved : goal.loop-k-preserved
loop-k-preserved g c =
    let trace : Recording = c.args.part.now.trace in
    let light = light_of c.args.burdens c.are_small.ensures.continuation c.are_small.ensures.join in
    let first : ℕ = c.args.part.now.first in
    let at : ℕ = c.first-first.result + c.loop-k.k in
    let sound = sound_of trace c.args.burdens first c.args.entry c.requires.stands c.keeps_limits.ensures.limits.events c.keeps_limits.ensures.limits.sites c.keeps_limits.ensures.events in
    let from : first ≤ at = omega (arith, c.first-first.ensures) in
    let lt : at < length trace.records = omega (arith, c.first-first.ensures, c.count-k-end.ensures, c.keeps_limits.ensures.within, c.loop-k-test.true) in
    let out : Option StackOf = c.loop-k.outside in
    let s : Seen = seen c.loop-k.summing in
    let going = c.loop-k.invariant.going in
    let read = λ (e : Event). read_at trace first c.first-first.result c.loop-k.k e c.first-first.ensures in
    let further : suc at ≡ c.first-first.result + (c.loop-k.k + 1) = omega arith in
    let moved = λ (o : Option StackOf) (new : Seen) (o_is : c.match-read_known_at.outside ≡ o) (is : seen c.match-read_known_at.summing ≡ new) (k : Going trace c.args.burdens first (suc at) o new).
    subst (λ (n : ℕ). Going trace c.args.burdens first n c.match-read_known_at.outside (seen c.match-read_known_at.summing)) further
    (subst (λ (p : Option StackOf). Going trace c.args.burdens first (suc at) p (seen c.match-read_known_at.summing)) (sym o_is) (subst (λ (x : Seen). Going trace c.args.burdens first (suc at) o x) (sym is) k)) in
    record {
      going = elim c.match-read_known_at.branch [
        | in-Strand w ↦
            moved out (seen w.strand.new.self) w.outside-is (ap seen w.summing-is)
            (going_strand trace sound c.args.burdens light first at from lt out s going w.in-Strand.count (read (Strand w.in-Strand.count) w.in-Strand.ensures.said w.in-Strand.ensures.within)
            (seen w.strand.new.self) w.strand.ensures)
        | in-Call+in_ok-open-in-Call w ↦
            moved out (seen w.open.new.self) w.outside-is (ap seen w.summing-is)
            (going_call trace sound c.args.burdens light first at from lt out s going w.in-Call.site w.in-Call.func (read (Call w.in-Call.site w.in-Call.func) w.in-Call.ensures.said w.in-Call.ensures.within)
            (seen w.open.new.self) w.in_ok-open-in-Call.ensures)
        | in-Spawn+in_ok-open-in-Spawn w ↦
            moved out (seen w.open-in-Spawn.new.self) w.outside-is (ap seen w.summing-is)
            (going_spawn trace sound c.args.burdens light first at from lt out s going w.in-Spawn.site w.in-Spawn.func (read (Spawn w.in-Spawn.site w.in-Spawn.func) w.in-Spawn.ensures.said w.in-Spawn.ensures.within)
            (seen w.open-in-Spawn.new.self) w.in_ok-open-in-Spawn.ensures)
        | in-Ret+in_ok-outside-in-Ret+in_ok-ret-in-Ret w ↦
            let told = read Ret w.in-Ret.ensures.said w.in-Ret.ensures.within in
            let t : Seen = seen w.reach.new.self in
            let left : Option StackOf = w.in_ok-outside-in-Ret.outside in
            let ready = going_reached trace sound c.args.burdens light first at from lt out s going told left t w.in_ok-outside-in-Ret.ensures in
            moved left (seen w.ret.new.self) w.outside-is (ap seen w.summing-is)
            (going_return trace sound c.args.burdens light first at from lt left t ready.going told ready.two w.in_ok-ret-in-Ret.field-0 (seen w.ret.new.self)
            w.in_ok-ret-in-Ret.ensures)
        | in-Sync+in_ok-sync-in-Sync w ↦
            moved out (seen w.sync.new.self) w.outside-is (ap seen w.summing-is)
            (going_sync trace sound c.args.burdens light first at from lt out s going (read Sync w.in-Sync.ensures.said w.in-Sync.ensures.within) (seen w.sync.new.self) w.in_ok-sync-in-Sync.ensures)
      ];
      next = subst (λ (n : ℕ). g.R.Reader.stands c.read_known_at.new.events trace n) (let e : first + c.loop-k.k + 1 ≡ first + (c.loop-k.k + 1) = omega arith in e) c.read_known_at.ensures.next;
    }

pub suspend-requires : goal.suspend-requires
suspend-requires g c =
    let trace : Recording = c.args.part.now.trace in
    let end : c.first-first.result + c.loop-k.k ≤ length trace.records = omega (arith, c.first-first.ensures, c.count-k-end.ensures, c.keeps_limits.ensures.within, c.loop-k.auto.k-end) in
    let sound = sound_of trace c.args.burdens c.args.part.now.first c.args.entry c.requires.stands c.keeps_limits.ensures.limits.events c.keeps_limits.ensures.limits.sites c.keeps_limits.ensures.events in
    record {
      fits = going_suspend trace sound c.args.burdens c.args.part.now.first (c.first-first.result + c.loop-k.k) end c.loop-k.outside (seen c.loop-k.summing) c.loop-k.invariant.going;
      sites = going_sites trace sound c.args.burdens c.args.part.now.first (c.first-first.result + c.loop-k.k) end c.loop-k.outside (seen c.loop-k.summing) c.loop-k.invariant.going;
    }

pub returns : goal.returns
returns g c =
    let trace : Recording = c.args.part.now.trace in
    let first : ℕ = c.args.part.now.first in
    let sound = sound_of trace c.args.burdens first c.args.entry c.requires.stands c.keeps_limits.ensures.limits.events c.keeps_limits.ensures.limits.sites c.keeps_limits.ensures.events in
    let end : c.first-first.result + c.loop-k.k ≡ first + c.args.part.now.count = omega (arith, c.first-first.ensures, c.count-k-end.ensures, c.loop-k.auto.k-end, c.loop-k-test.false) in
    ok_more _ _ c.suspend.result
    (λ (p : PartResult) h es are.
    subst (λ (k : ℕ). IsPartOf es c.args.burdens trace.root first k p.share p.choices) end
    (going_end trace sound c.args.burdens first (c.first-first.result + c.loop-k.k) (omega (arith, c.keeps_limits.ensures.within)) c.loop-k.outside (seen c.loop-k.summing) c.loop-k.invariant.going p h es are))
    c.suspend.ensures
