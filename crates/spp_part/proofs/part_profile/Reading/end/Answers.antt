use Rattle.std.proofs.Common.{◌≡◌, ℕ, suc, ◌+◌, ◌≤◌, Bool, false, List, [], ◌∷◌, ◌++◌, length, sym, ap, subst, ◌∙◌, arith}
use Rattle.spp_pass.specs.CallFrames.{calls_so_far}
use Rattle.spp_pass.specs.declared.calls.CallRow.{CallRow}
use Rattle.spp_pass.specs.Passes.{Seen, seen_with}
use Rattle.spp_pass.specs.Stretches.{next_seen, next_frames, IsStretchOf}
use Rattle.spp_pass.proofs.Alone.{Alone, alone_next}
use Rattle.spp_part.specs.declared.stretch.Stretch.{Stretch}
use Rattle.spp_part.specs.declared.stretch.EndedStretch.{EndedStretch}
use Rattle.spp_part.specs.declared.part_profile.Reading.{Reading}
use Rattle.spp_ways.specs.Stretches.{stretch_rows, stretch_frames}
use Rattle.spp_part.specs.Parts.{Takes, Lead, settles, stretch_of}
use Rattle.spp_part.specs.Readings.{IsGoing}
use Rattle.spp_part.proofs.Pruned.{takes_same}
use Rattle.spp_part.proofs.Taking.{start_goes}
use Rattle.spp_part.proofs.Readings.{lead_more, told_stretch, only}
use Rattle.spp_part.proofs.part_profile.Reading.end.Goals as goal
use Rattle.spp_part.proofs.part_profile.Reading.end.Goals.{in-Return, in-Sync}

pub returns : goal.returns
returns c trace burdens first ahead =
    let r : Reading = c.args.self.now in
    let is = ahead.is in
    let at : ℕ = c.args.at in
    let a : Seen = seen_with r.counting is.notes in
    let b : Seen = seen_with c.next_stretch-counted.new.self is.notes in
    let within = ahead.within in
    let one = only a.frames c.requires.one in
    let then : b ≡ next_seen a = c.next_stretch-counted.ensures.begun is.notes in
    let told : IsStretchOf a c.next_stretch-counted.result = c.next_stretch-counted.ensures.ended one.0 one.1 in
    let ways = c.in_ok-next_stretch.ensures in
    let all : Stretch = record { counted = c.next_stretch-counted.result; calls = c.take-calls.result; logged = c.in_ok-next_stretch.field-0 } in
    let same = told_stretch a (calls_so_far r.calls) r.ways all told.0 told.1 c.take-calls.ensures.calls ways.rows ways.frames in
    let x : Stretch = record { counted = c.next_stretch-counted.result; calls = c.take-calls.result; logged = c.in_ok-logged.logged } in
    let kept = c.in_ok-logged.ensures in
    let takes : Takes trace burdens first (first + is.to) (first + at) r.settled (stretch_of x) = takes_same (stretch_of all) (stretch_rows x.logged) (stretch_frames x.logged)
    (record { laid = kept.stretch; same = kept.ways; few = kept.rows; many = kept.frames }) trace burdens first (first + is.to) (first + at) r.settled
    (subst (Takes trace burdens first (first + is.to) (first + at) r.settled) same is.going.last) in
    let e : EndedStretch = record { stored = c.in_ok-stored.stored; at = at; end = c.args.end } in
    let settled : settles c.args.end ≡ c.match-end.self = elim c.match-end.branch [ in-Return w ↦ ap settles w.in-Return.is ∙ sym w.self-is | in-Sync w ↦ ap settles w.in-Sync.is ∙ sym w.self-is ] in
    let pushed : c.push.new.self.items ≡ r.ended.items ++ e ∷ [] = c.in_ok-push.ensures.items in
    let lead = lead_more trace burdens first 0 false r.ended.items is.to r.settled e is.ended (subst (Takes trace burdens first (first + is.to) (first + at) r.settled) (sym c.in_ok-stored.ensures) takes) ahead.at in
    record {
      bounds = is.bounds;
      to = suc at;
      notes = is.notes;
      ended = subst (λ (s : Bool). Lead trace burdens first 0 false c.push.new.self.items (suc at) s) settled
          (subst (λ (l : List EndedStretch). Lead trace burdens first 0 false l (suc at) (settles c.args.end)) (sym pushed) lead);
      going = subst (λ (l : List CallRow). IsGoing trace burdens first (suc at) (suc at) c.match-end.self b l c.next_stretch.new.self)
          (sym c.take-calls.ensures.none)
          (start_goes trace burdens is.bounds first (suc at) (let z : first + suc at ≤ length trace.records = omega arith in z) c.match-end.self b c.next_stretch.new.self
          (subst (Alone (suc at)) (sym then) (alone_next at (suc at) a one.0 one.1 is.going.alone)) (ap (λ (s : Seen). s.frames) then ∙ ap next_frames one.1) (ap (λ (s : Seen). s.work) then)
          ways.begun.0 ways.begun.1);
    }
