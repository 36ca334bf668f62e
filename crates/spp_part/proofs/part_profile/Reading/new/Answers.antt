use Rattle.std.proofs.Common.{◌≡◌, ◌+◌, ◌≤◌, false, List, length, refl, sym, ap, subst, arith}
use Rattle.spp_pass.specs.declared.calls.CallRow.{CallRow}
use Rattle.spp_pass.specs.Passes.{Seen, no_notes, seen_with}
use Rattle.spp_pass.specs.Stretches.{stretch_seen}
use Rattle.spp_pass.proofs.Alone.{Alone, alone_start}
use Rattle.spp_part.specs.declared.stretch.EndedStretch.{EndedStretch}
use Rattle.spp_part.specs.Parts.{Lead}
use Rattle.spp_part.specs.Readings.{IsGoing}
use Rattle.spp_part.proofs.Taking.{start_goes}
use Rattle.spp_part.proofs.part_profile.Reading.new.Goals as goal

pub returns : goal.returns
returns c trace burdens first bounds within =
    let a : Seen = seen_with c.in_ok-stretch.field-0 no_notes in
    let is : a ≡ stretch_seen = c.in_ok-stretch.ensures in
    let w = c.in_ok-stretch-2.ensures in
    record {
      bounds = bounds;
      to = 0;
      notes = no_notes;
      ended = subst (λ (l : List EndedStretch). Lead trace burdens first 0 false l 0 false) (sym c.new.ensures.items) (refl, refl);
      going = subst (λ (l : List CallRow). IsGoing trace burdens first 0 0 false a l c.in_ok-stretch-2.field-0) (sym c.new-2.ensures)
          (start_goes trace burdens bounds first 0 (let z : first + 0 ≤ length trace.records = omega arith in z) false a c.in_ok-stretch-2.field-0 (subst (Alone 0) (sym is) alone_start)
          (ap (λ (s : Seen). s.frames) is) (ap (λ (s : Seen). s.work) is) w.0 w.1);
    }
