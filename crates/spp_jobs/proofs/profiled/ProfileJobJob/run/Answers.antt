use Rattle.std.proofs.Common.{◌≡◌, ◌<◌, ◌∷◌, ◌++◌, [], List, length, get_or, refl, sym, ap, subst, ◌∙◌, arith}
use Rattle.spp_event.specs.Recordings.{Recording}
use Rattle.spp_frame.specs.Answers.{IsFaultOf}
use Rattle.spp_frame.specs.Nesting.{IsFirstBad}
use Rattle.spp_frame.specs.declared.Fault.{Fault}
use Rattle.spp_frame.specs.declared.profile_fault.ProfileFault.{ProfileFault}
use Rattle.spp_cut.specs.Parts.{PartOf}
use Rattle.spp_part.specs.declared.part_profile.PartProfile.{PartProfile}
use Rattle.spp_part.specs.Parts.{IsPartProfile, IsSoFar}
use Rattle.spp_jobs.specs.Names.{profiles, JobOf}
use Rattle.spp_jobs.specs.declared.profiled.ProfilePiece.TheVariants.{Later}
use Rattle.spp_jobs.proofs.Spelling.{parts_told}
use Rattle.spp_jobs.proofs.ProfilePieces.{IsPartIn, part_in, later_one, first_one, begun_one}
use Rattle.spp_jobs.proofs.profiled.ProfileJobJob.run.Goals as goal

pub returns-then-number-gt0 : goal.returns-then-number-gt0
returns-then-number-gt0 c =
    let j : JobOf = record { kind = profiles; cut = c.args.self.now.cut.now; burdens = c.args.self.now.burdens } in
    let p = c.index-parts-number.result in
    let within : c.args.number < length c.args.self.now.cut.now.parts = omega (arith, parts_told j, c.requires) in
    let here : IsPartIn c.args.self.now.cut.now c.args.number p =
    part_in c.args.self.now.cut.now c.parts.ensures.cut c.args.number p within (c.index-parts-number.is ∙ ap (λ (ps : List PartOf). get_or ps c.args.number p) c.parts.ensures.parts) in
    let items : c.push_back.new.self.items ≡ c.in_ok-read.read ∷ [] = c.in_ok-push_back.ensures.items ∙ ap (λ (xs : List PartProfile). xs ++ c.in_ok-read.read ∷ []) c.in_ok-later.ensures.items in (
      j,
      record { kind_is = refl; named = refl; cut = c.parts.ensures.cut; few = c.parts.ensures.few },
      later_one j c.args.number p here c.if-number-gt0.true c.in_ok-read.read c.in_ok-read.ensures (Later c.push_back.new.self) items,
    )

pub join-requires : goal.join-requires
join-requires c =
    let j : JobOf = record { kind = profiles; cut = c.args.self.now.cut.now; burdens = c.args.self.now.burdens } in
    let p = c.index-parts-number.result in
    let within : c.args.number < length c.args.self.now.cut.now.parts = omega (arith, parts_told j, c.requires) in
    let here : IsPartIn c.args.self.now.cut.now c.args.number p =
    part_in c.args.self.now.cut.now c.parts.ensures.cut c.args.number p within (c.index-parts-number.is ∙ ap (λ (ps : List PartOf). get_or ps c.args.number p) c.parts.ensures.parts) in
    let none : c.args.number ≡ 0 = omega (arith, c.if-number-gt0.false) in (
      c.args.self.now.cut.now.trace,
      0,
      p.count,
      subst (λ (t : Recording). IsSoFar t c.args.self.now.burdens 0 c.in_ok-so_far.so_far) c.trace.ensures (c.in_ok-so_far.ensures c.args.self.now.burdens c.are_small.ensures.continuation c.are_small.ensures.join),
      first_one c.args.self.now.cut.now c.args.self.now.burdens c.args.number p here none c.in_ok-read.read c.in_ok-read.ensures,
    )

pub returns-in-Ok : goal.returns-in-Ok
returns-in-Ok c =
    let j : JobOf = record { kind = profiles; cut = c.args.self.now.cut.now; burdens = c.args.self.now.burdens } in
    let p = c.index-parts-number.result in
    let within : c.args.number < length c.args.self.now.cut.now.parts = omega (arith, parts_told j, c.requires) in
    let here : IsPartIn c.args.self.now.cut.now c.args.number p =
    part_in c.args.self.now.cut.now c.parts.ensures.cut c.args.number p within (c.index-parts-number.is ∙ ap (λ (ps : List PartOf). get_or ps c.args.number p) c.parts.ensures.parts) in
    let none : c.args.number ≡ 0 = omega (arith, c.if-number-gt0.false) in
    let so : IsSoFar c.args.self.now.cut.now.trace c.args.self.now.burdens 0 c.in_ok-so_far.so_far =
    subst (λ (t : Recording). IsSoFar t c.args.self.now.burdens 0 c.in_ok-so_far.so_far) c.trace.ensures (c.in_ok-so_far.ensures c.args.self.now.burdens c.are_small.ensures.continuation c.are_small.ensures.join) in
    let part : IsPartProfile c.args.self.now.cut.now.trace c.args.self.now.burdens 0 p.count c.in_ok-read.read =
    first_one c.args.self.now.cut.now c.args.self.now.burdens c.args.number p here none c.in_ok-read.read c.in_ok-read.ensures in (
      j,
      record { kind_is = refl; named = refl; cut = c.parts.ensures.cut; few = c.parts.ensures.few },
      begun_one j c.args.number p here none c.join.new.self (c.in-Ok.ensures.so_far c.args.self.now.cut.now.trace 0 p.count so part),
    )

pub returns-in-Err-Bad : goal.returns-in-Err-Bad
returns-in-Err-Bad c =
    let j : JobOf = record { kind = profiles; cut = c.args.self.now.cut.now; burdens = c.args.self.now.burdens } in
    let p = c.index-parts-number.result in
    let within : c.args.number < length c.args.self.now.cut.now.parts = omega (arith, parts_told j, c.requires) in
    let here : IsPartIn c.args.self.now.cut.now c.args.number p =
    part_in c.args.self.now.cut.now c.parts.ensures.cut c.args.number p within (c.index-parts-number.is ∙ ap (λ (ps : List PartOf). get_or ps c.args.number p) c.parts.ensures.parts) in
    let none : c.args.number ≡ 0 = omega (arith, c.if-number-gt0.false) in
    let so : IsSoFar c.args.self.now.cut.now.trace c.args.self.now.burdens 0 c.in_ok-so_far.so_far =
    subst (λ (t : Recording). IsSoFar t c.args.self.now.burdens 0 c.in_ok-so_far.so_far) c.trace.ensures (c.in_ok-so_far.ensures c.args.self.now.burdens c.are_small.ensures.continuation c.are_small.ensures.join) in
    let part : IsPartProfile c.args.self.now.cut.now.trace c.args.self.now.burdens 0 p.count c.in_ok-read.read =
    first_one c.args.self.now.cut.now c.args.self.now.burdens c.args.number p here none c.in_ok-read.read c.in_ok-read.ensures in (
      j,
      record { kind_is = refl; named = refl; cut = c.parts.ensures.cut; few = c.parts.ensures.few },
      (none, subst (λ (f : Fault). IsFirstBad c.args.self.now.cut.now.trace.records f) (sym c.in-Err-Bad.fault-is) (subst (λ (f : ProfileFault). IsFaultOf c.args.self.now.cut.now.trace.records f) c.in-Err-Bad.field-0-is (c.in-Err-Bad.ensures.fault c.args.self.now.cut.now.trace 0 p.count so part))),
    )
