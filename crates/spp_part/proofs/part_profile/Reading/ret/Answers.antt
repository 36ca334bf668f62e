use Rattle.std.proofs.Common.{◌≡◌, ℕ, suc, ◌+◌, ◌≤◌, ◌<◌, length, arith, List, ◌∷◌, is_some, Option, Result, Ok, Err, OnOk, refl, sym, subst}
use Rattle.spp_pass.specs.CallFrames.{calls_so_far}
use Rattle.spp_pass.specs.declared.counted_frame.CountedFrame.{CountedFrame}
use Rattle.spp_pass.specs.declared.counting.Popped.{Popped}
use Rattle.spp_pass.specs.CallRows.{AreAdded, AreLight, IsLightFrame}
use Rattle.spp_pass.specs.Passes.{Seen, Notes, noted_return, seen_with, closing_of, closed_of, caller_in, IsPopped, Pops}
use Rattle.spp_pass.proofs.CallRows.{closed_light}
use Rattle.spp_part.specs.declared.part_profile.Reading.{Reading}
use Rattle.spp_event.specs.declared.records.Event.TheVariants.{Ret}
use Rattle.spp_pass.specs.declared.counting.Counting.{Counting}
use Rattle.spp_part.specs.Readings.{IsAhead}
use Rattle.spp_part.proofs.Going.{pop_goes}
use Rattle.spp_part.proofs.Readings.{is_out}
use Rattle.spp_part.proofs.part_profile.Reading.ret.Goals as goal

pub add-requires : goal.add-requires
add-requires c =
    let r : Reading = c.args.self.now in
    let ahead = c.requires.2 in
    let is = ahead.is in
    let at : ℕ = c.args.at in
    let a : Seen = seen_with r.counting is.notes in
    let told : Popped = c.in-Some.popped in
    let out = is_out c.args.burdens a.work a.frames told (subst (λ (o : Option Popped). IsPopped c.args.burdens a.work a.frames o) c.in-Some.is c.pop.ensures.popped) in
    let small = let short = is.bounds.short in let within : c.requires.1 + at < length c.requires.0.records = ahead.within in let z : at ≤ 268435456 = omega arith in z in
    let closes : IsLightFrame (closed_of out.frame a.work) = closed_light at a out.frame (out.parent ∷ out.below) is.going.alone out.frames small in
    (at, (let z : at < 4294967296 = omega arith in z), is.going.light, subst (λ (t : Popped). IsLightFrame t.closing.closed) (sym out.popped) closes)

pub returns : goal.returns
returns c trace first ahead =
    let r : Reading = c.args.self.now in
    let is = ahead.is in
    let at : ℕ = c.args.at in
    let a : Seen = seen_with r.counting is.notes in
    let told : Popped = c.in-Some.popped in
    let m : Notes = noted_return at a.frames is.notes in
    let b : Seen = seen_with c.pop.new.self m in
    let out = is_out c.args.burdens a.work a.frames told (subst (λ (o : Option Popped). IsPopped c.args.burdens a.work a.frames o) c.in-Some.is c.pop.ensures.popped) in
    let went = subst (λ (l : List CountedFrame). Pops c.args.burdens at a l (is_some c.pop.result) b) out.frames (c.pop.ensures.pops at is.notes) in
    let w = c.in_ok-pop.ensures in
    let closes : IsLightFrame (closed_of out.frame a.work) = closed_light at a out.frame (out.parent ∷ out.below) is.going.alone out.frames (let short = is.bounds.short in let within : first + at < length trace.records = ahead.within in omega arith) in
    let same : told ≡ record { closing = closing_of c.args.burdens a.work out.frame out.parent; caller = caller_in (out.parent ∷ out.below) } = out.popped in
    let added = subst (λ (t : Popped). AreAdded t.closing.site t.caller t.closing.closed (calls_so_far r.calls) (calls_so_far c.add.new.self)) same c.in_ok-add.ensures.added in
    let light : AreLight (suc at) (calls_so_far c.add.new.self) = subst (λ n. AreLight n (calls_so_far c.add.new.self)) (let z : at + 1 ≡ suc at = omega arith in z)
    (c.in_ok-add.ensures.light at is.going.light (subst (λ (t : Popped). IsLightFrame t.closing.closed) (sym same) closes)) in
    record {
      bounds = is.bounds;
      to = is.to;
      notes = m;
      ended = is.ended;
      going =
          pop_goes trace c.args.burdens is.bounds first is.to at ahead.within r.settled a (calls_so_far r.calls) r.ways is.going b c.pop-2.new.self
          at out.frame out.parent out.below out.frames ahead.at went.1 told out.popped (calls_so_far c.add.new.self) added light w.stretch w.rows w.ways;
    }

-- what holds where it went well
ok_more : {X E : Type 0} (P Q : Type 0) → (P → Q) → (r : Result X E) → OnOk r P → OnOk r Q
ok_more P Q f (Ok x) h = f h
ok_more P Q f (Err e) h = h

pub returns-in_default : goal.returns-in_default
returns-in_default c =
    let r : Reading = c.args.self.now in
    let same : c.pop.new.self ≡ r.counting = c.in_default.ensures.stays refl in
    ok_more _ _ (λ h trace first ahead. h trace c.args.burdens first (subst (λ (x : Counting). IsAhead trace c.args.burdens first c.args.at Ret (record r { counting = x })) (sym same) ahead)) c.end.result c.end.ensures
