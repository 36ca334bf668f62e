use Rattle.std.proofs.Common.{suc, ◌≡◌, true, false, refl, sym, subst, ◌∙◌, arith}
use Rattle.spp_event.specs.declared.records.Event.{Event}
use Rattle.spp_event.specs.declared.records.Event.TheVariants.{Strand, Call, Spawn, Ret, Sync}
use Rattle.spp_frame.specs.Answers.{IsFaultOf}
use Rattle.spp_frame.specs.declared.profile_fault.ProfileFault.{ProfileFault}
use Rattle.spp_frame.specs.declared.profile_fault.ProfileFault.TheVariants.{Bad}
use Rattle.spp_frame.specs.declared.Why.TheVariants.{RootReturn}
use Rattle.spp_part.specs.declared.so_far.ProfileSoFar.{ProfileSoFar}
use Rattle.spp_part.specs.States.{IsEventAt}
use Rattle.spp_part.specs.Parts.{Rows, Stands, no_rows, rest_of}
use Rattle.spp_part.proofs.Standing.{aside_same}
use Rattle.spp_part.proofs.Nexts.{unsettled, can_add, fit_strand, strand_next}
use Rattle.spp_part.proofs.so_far.ProfileSoFar.read.Goals as goal
use Rattle.spp_part.proofs.so_far.ProfileSoFar.read.Goals.{in-Strand, in-Call+in_ok-open-in-Call, in-Spawn+in_ok-open-in-Spawn, in-Ret+in_ok-returns-in-Ret+else-not-returns, in-Sync}

pub strand-requires : goal.strand-requires
strand-requires c =
    let q = c.requires in
    can_add q.0 c.args.burdens q.1 c.args.self.now.counting c.args.self.now.ways q.2.0 q.4 c.in-Strand.count (subst (IsEventAt q.0 q.1) c.in-Strand.is q.3)

pub strand-requires-in-Strand-clause-fits : goal.strand-requires-in-Strand-clause-fits
strand-requires-in-Strand-clause-fits c on =
    let q = c.requires in
    fit_strand q.0 c.args.burdens q.1 c.args.self.now.counting c.args.self.now.ways q.2.0 q.4 c.in-Strand.count (subst (IsEventAt q.0 q.1) c.in-Strand.is q.3) on

pub returns-clause-so_far : goal.returns-clause-so_far
returns-clause-so_far c trace i so at lt =
    let b = c.args.burdens in
    let old : ProfileSoFar = c.args.self.now in
    let rest : Rows = rest_of old no_rows in
    let Now : ProfileSoFar → Type 0 = λ r. Stands (rest_of r no_rows) trace b (suc i) false r.counting r.ways × (r.events ≡ i) in
    let same = λ (r : ProfileSoFar) (aside : r.aside ≡ old.aside) (st : Stands rest trace b (suc i) false r.counting r.ways). aside_same no_rows old.aside r.aside aside trace b (suc i) r.counting r.ways st in
    let is = λ (e : Event) (told : c.args.event ≡ e). let r : IsEventAt trace i e = subst (IsEventAt trace i) told at in r in
    let moved : Now c.match-event.self = elim c.match-event.branch [
      | in-Strand w ↦
          let n = w.in-Strand.count in
          let f = w.strand-in-Strand.ensures in
          subst Now (sym w.self-is)
          (strand_next trace b i old.counting old.ways so.0 lt n (is (Strand n) w.in-Strand.is) w.strand.new.self w.strand.ensures w.strand-in-Strand.new.self f.laid f.ways f.rows, so.1)
      | in-Call+in_ok-open-in-Call w ↦
          let f = w.in_ok-open-in-Call.ensures in
          subst Now (sym w.self-is)
          (f.stands trace b i (Call w.in-Call.site w.in-Call.func) refl so (is (Call w.in-Call.site w.in-Call.func) w.in-Call.is) lt, f.events ∙ so.1)
      | in-Spawn+in_ok-open-in-Spawn w ↦
          let f = w.in_ok-open-in-Spawn.ensures in
          subst Now (sym w.self-is)
          (f.stands trace b i (Spawn w.in-Spawn.site w.in-Spawn.func) refl so (is (Spawn w.in-Spawn.site w.in-Spawn.func) w.in-Spawn.is) lt, f.events ∙ so.1)
      | in-Ret+in_ok-returns-in-Ret+else-not-returns w ↦
          let f = w.in_ok-returns-in-Ret.ensures in
          subst Now (sym w.self-is) (f.stands w.if-not-returns.false no_rows trace i so.0 (is Ret w.in-Ret.is) lt, w.ret.ensures.events ∙ so.1)
      | in-Sync w ↦
          let f = w.sync.ensures in
          subst Now (sym w.self-is) (
            same w.sync.new.self f.aside (unsettled trace b (suc i) true w.sync.new.self.counting w.sync.new.self.ways (f.stands rest trace b i so.0 (is Sync w.in-Sync.is) lt)),
            f.events ∙ so.1,
          )
    ] in
    (moved.0, (let z : c.match-event.self.events ≡ i = moved.1 in omega arith))

pub returns-then-not-returns-clause-fault : goal.returns-then-not-returns-clause-fault
returns-then-not-returns-clause-fault c trace i so at lt =
    subst (λ (f : ProfileFault). IsFaultOf trace.records f) (sym c.bad.ensures)
    (subst (λ k. IsFaultOf trace.records (Bad (record { at = k; why = RootReturn }))) (sym (c.ret.ensures.events ∙ so.1))
    (c.in_ok-returns-in-Ret.ensures.fault c.if-not-returns.true no_rows trace i so.0 (subst (IsEventAt trace i) c.in-Ret.is at) lt))
