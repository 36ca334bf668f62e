use Rattle.std.proofs.Common.{◌≡◌, ℕ, suc, ◌+◌, ◌<◌, false, None, List, [], ◌∷◌, length, OnOk, IfErr, sym, subst, ◌∙◌, arith}
use Rattle.std.proofs.lemmas.List.{nil_from_length}
use Rattle.std.specs.Vec.Iter.{into_iter_items}
use Rattle.spp_event.specs.Recordings.{Recording}
use Rattle.spp_maxplus.specs.declared.state.Burdens.{Burdens}
use Rattle.spp_frame.specs.Answers.{IsFaultOf}
use Rattle.spp_frame.specs.declared.profile_fault.ProfileFault.{ProfileFault}
use Rattle.spp_frame.specs.declared.profile_fault.ProfileFault.TheVariants.{Bad}
use Rattle.spp_frame.specs.declared.Why.TheVariants.{Event}
use Rattle.spp_dag.specs.Shares.{plus}
use Rattle.spp_pass.specs.declared.aside.RowsAside.{RowsAside}
use Rattle.spp_pass.specs.AsideRows.{aside_row}
use Rattle.spp_part.specs.declared.part_profile.PartProfile.{PartProfile}
use Rattle.spp_part.specs.declared.stretch.EndedStretch.{EndedStretch}
use Rattle.spp_part.specs.declared.so_far.ProfileSoFar.{ProfileSoFar}
use Rattle.spp_part.specs.States.{IsEventAt}
use Rattle.spp_part.specs.Parts.{Rows, IsPartProfile, Stands, GoesOn, rest_of, stretch_of, stored_of, end_event, settles}
use Rattle.spp_part.proofs.Parting.{Since, inside, goes, ends, since_more, stands_last, goes_last, whole, faulty, good_is}
use Rattle.spp_part.proofs.so_far.ProfileSoFar.join_aside.Goals as goal

-- a stretch is next, where the profile so far has read so many events
module _ (lent : Rows) (trace : Recording) (burdens : Burdens) (i count first : ℕ) (p : PartProfile) (h : IsPartProfile trace burdens i count p) (at : first ≡ i) (r : ProfileSoFar) (x : EndedStretch) (xs all : List EndedStretch)
    (is : all ≡ x ∷ xs) (s : Since trace burdens i count p h (rest_of r lent) all r.counting r.ways) where
  abbrev here : Since trace burdens i count p h (rest_of r lent) (x ∷ xs) r.counting r.ways
  here = subst (λ l. Since trace burdens i count p h (rest_of r lent) l r.counting r.ways) is s

  goes_here : GoesOn trace burdens first (i + here.0) (i + x.at) here.1 (stored_of x.stored)
  goes_here = subst (λ k. GoesOn trace burdens k (i + here.0) (i + x.at) here.1 (stored_of x.stored)) (sym at) (goes trace burdens i count p h x xs r.counting r.ways here)

  ends_here : IsEventAt trace (first + x.at) (end_event x.end)
  ends_here = subst (λ k. IsEventAt trace (k + x.at) (end_event x.end)) (sym at) (ends trace burdens i count p h x xs r.counting r.ways here)

  within_here : first + x.at < length trace.records
  within_here = subst (λ k. k + x.at < length trace.records) (sym at) (inside trace burdens i count p h x xs r.counting r.ways here)

  -- behind it
  placed_here : {rest : Rows} (q : ProfileSoFar) → Stands rest trace burdens (i + x.at) false q.counting q.ways → Stands rest trace burdens (first + x.at) false q.counting q.ways
  placed_here {rest} q = subst (λ k. Stands rest trace burdens (k + x.at) false q.counting q.ways) (sym at)

  more_here : {rest : Rows} (q : ProfileSoFar) → Stands rest trace burdens (suc (first + x.at)) (settles x.end) q.counting q.ways → Since trace burdens i count p h rest xs q.counting q.ways
  more_here {rest} q st = since_more trace burdens i count p h x xs r.counting r.ways here q.counting q.ways (subst (λ k. Stands rest trace burdens (suc (k + x.at)) (settles x.end) q.counting q.ways) at st)

-- none is
module _ (lent : Rows) (trace : Recording) (burdens : Burdens) (i count first : ℕ) (p : PartProfile) (h : IsPartProfile trace burdens i count p) (at : first ≡ i) (r : ProfileSoFar) (all : List EndedStretch)
    (is : all ≡ []) (s : Since trace burdens i count p h (rest_of r lent) all r.counting r.ways) where
  abbrev left : Since trace burdens i count p h (rest_of r lent) [] r.counting r.ways
  left = subst (λ l. Since trace burdens i count p h (rest_of r lent) l r.counting r.ways) is s

  last_stands : Stands (rest_of r lent) trace burdens (i + h.to) h.settled r.counting r.ways
  last_stands = stands_last trace burdens i count p h r.counting r.ways left

  last_goes : GoesOn trace burdens first (i + h.to) (i + p.good) h.settled (stretch_of p.last)
  last_goes = subst (λ k. GoesOn trace burdens k (i + h.to) (i + p.good) h.settled (stretch_of p.last)) (sym at) (goes_last trace burdens i count p h r.counting r.ways left)

pub go_on_by_aside-requires : goal.go_on_by_aside-requires
go_on_by_aside-requires c =
    let q = c.requires in
    let s = c.loop-ended.invariant.2.since q.0 q.1 q.2 q.3 q.4 q.5 in
    let n = here q.0 q.1 c.args.burdens q.2 q.3 c.args.self.now.events c.args.part q.5 q.4.1 c.loop-ended.self c.in-Some.ended (into_iter_items c.next.new.self) (into_iter_items c.loop-ended.ended-iterator) c.in-Some.ensures.steps.0 s in
    (q.0, q.1, c.args.burdens, q.2 + n.0, q.2 + c.in-Some.ended.at, n.1, n.2, goes_here q.0 q.1 c.args.burdens q.2 q.3 c.args.self.now.events c.args.part q.5 q.4.1 c.loop-ended.self c.in-Some.ended (into_iter_items c.next.new.self) (into_iter_items c.loop-ended.ended-iterator) c.in-Some.ensures.steps.0 s)

-- the profile behind the stretch
pub overflow_add-first : goal.overflow_add-first
overflow_add-first c =
    let q = c.requires in
    let s = c.loop-ended.invariant.2.since q.0 q.1 q.2 q.3 q.4 q.5 in
    let lt = within_here q.0 q.1 c.args.burdens q.2 q.3 c.args.self.now.events c.args.part q.5 q.4.1 c.loop-ended.self c.in-Some.ended (into_iter_items c.next.new.self) (into_iter_items c.loop-ended.ended-iterator) c.in-Some.ensures.steps.0 s in
    let few = q.4.0.limits.events in
    omega (arith, lt, few)

pub end-requires : goal.end-requires
end-requires c =
    let q = c.requires in
    let s = c.loop-ended.invariant.2.since q.0 q.1 q.2 q.3 q.4 q.5 in
    let n = here q.0 q.1 c.args.burdens q.2 q.3 c.args.self.now.events c.args.part q.5 q.4.1 c.loop-ended.self c.in-Some.ended (into_iter_items c.next.new.self) (into_iter_items c.loop-ended.ended-iterator) c.in-Some.ensures.steps.0 s in
    let st = c.in_ok-go_on_by_aside.ensures.stands q.0 q.1 c.args.burdens (q.2 + n.0) (q.2 + c.in-Some.ended.at) n.1 n.2 (goes_here q.0 q.1 c.args.burdens q.2 q.3 c.args.self.now.events c.args.part q.5 q.4.1 c.loop-ended.self c.in-Some.ended (into_iter_items c.next.new.self) (into_iter_items c.loop-ended.ended-iterator) c.in-Some.ensures.steps.0 s) in
    (rest_of c.go_on_by_aside.new.self q.0, q.1, placed_here q.0 q.1 c.args.burdens q.2 q.3 c.args.self.now.events c.args.part q.5 q.4.1 c.loop-ended.self c.in-Some.ended (into_iter_items c.next.new.self) (into_iter_items c.loop-ended.ended-iterator) c.in-Some.ensures.steps.0 s c.go_on_by_aside.new.self st, ends_here q.0 q.1 c.args.burdens q.2 q.3 c.args.self.now.events c.args.part q.5 q.4.1 c.loop-ended.self c.in-Some.ended (into_iter_items c.next.new.self) (into_iter_items c.loop-ended.ended-iterator) c.in-Some.ensures.steps.0 s, within_here q.0 q.1 c.args.burdens q.2 q.3 c.args.self.now.events c.args.part q.5 q.4.1 c.loop-ended.self c.in-Some.ended (into_iter_items c.next.new.self) (into_iter_items c.loop-ended.ended-iterator) c.in-Some.ensures.steps.0 s)

pub loop-ended-preserved : goal.loop-ended-preserved
loop-ended-preserved c = (
  tt,
  tt,
  record {
    since = λ lent trace i count so h.
        let s = c.loop-ended.invariant.2.since lent trace i count so h in
        let n = here lent trace c.args.burdens i count c.args.self.now.events c.args.part h so.1 c.loop-ended.self c.in-Some.ended (into_iter_items c.next.new.self) (into_iter_items c.loop-ended.ended-iterator) c.in-Some.ensures.steps.0 s in
        let st = c.in_ok-go_on_by_aside.ensures.stands lent trace c.args.burdens (i + n.0) (i + c.in-Some.ended.at) n.1 n.2 (goes_here lent trace c.args.burdens i count c.args.self.now.events c.args.part h so.1 c.loop-ended.self c.in-Some.ended (into_iter_items c.next.new.self) (into_iter_items c.loop-ended.ended-iterator) c.in-Some.ensures.steps.0 s) in
        let went = subst (λ (r : _). OnOk r ((rest : Rows) (trace : Recording) → Stands rest trace c.args.burdens (c.args.self.now.events + c.in-Some.ended.at) false c.go_on_by_aside.new.self.counting c.go_on_by_aside.new.self.ways
        → IsEventAt trace (c.args.self.now.events + c.in-Some.ended.at) (end_event c.in-Some.ended.end) → c.args.self.now.events + c.in-Some.ended.at < length trace.records
        → Stands rest trace c.args.burdens (suc (c.args.self.now.events + c.in-Some.ended.at)) (settles c.in-Some.ended.end) c.end.new.self.counting c.end.new.self.ways)) c.in-Ok.is c.end.ensures.stands in
        let then = went (rest_of c.go_on_by_aside.new.self lent) trace (placed_here lent trace c.args.burdens i count c.args.self.now.events c.args.part h so.1 c.loop-ended.self c.in-Some.ended (into_iter_items c.next.new.self) (into_iter_items c.loop-ended.ended-iterator) c.in-Some.ensures.steps.0 s c.go_on_by_aside.new.self st) (ends_here lent trace c.args.burdens i count c.args.self.now.events c.args.part h so.1 c.loop-ended.self c.in-Some.ended (into_iter_items c.next.new.self) (into_iter_items c.loop-ended.ended-iterator) c.in-Some.ensures.steps.0 s) (within_here lent trace c.args.burdens i count c.args.self.now.events c.args.part h so.1 c.loop-ended.self c.in-Some.ended (into_iter_items c.next.new.self) (into_iter_items c.loop-ended.ended-iterator) c.in-Some.ensures.steps.0 s) in
        more_here lent trace c.args.burdens i count c.args.self.now.events c.args.part h so.1 c.loop-ended.self c.in-Some.ended (into_iter_items c.next.new.self) (into_iter_items c.loop-ended.ended-iterator) c.in-Some.ensures.steps.0 s c.end.new.self
        (subst (λ (a : RowsAside). Stands (λ key. plus (aside_row a key) (lent key)) trace c.args.burdens (suc (c.args.self.now.events + c.in-Some.ended.at)) (settles c.in-Some.ended.end) c.end.new.self.counting c.end.new.self.ways)
        (sym c.end.ensures.aside) then);
    events = c.end.ensures.events ∙ c.in_ok-go_on_by_aside.ensures.events ∙ c.loop-ended.invariant.2.events;
  },
)

pub returns-in-Err-clause-fault : goal.returns-in-Err-clause-fault
returns-in-Err-clause-fault c lent trace i count so h =
    let s = c.loop-ended.invariant.2.since lent trace i count so h in
    let n = here lent trace c.args.burdens i count c.args.self.now.events c.args.part h so.1 c.loop-ended.self c.in-Some.ended (into_iter_items c.next.new.self) (into_iter_items c.loop-ended.ended-iterator) c.in-Some.ensures.steps.0 s in
    let st = c.in_ok-go_on_by_aside.ensures.stands lent trace c.args.burdens (i + n.0) (i + c.in-Some.ended.at) n.1 n.2 (goes_here lent trace c.args.burdens i count c.args.self.now.events c.args.part h so.1 c.loop-ended.self c.in-Some.ended (into_iter_items c.next.new.self) (into_iter_items c.loop-ended.ended-iterator) c.in-Some.ensures.steps.0 s) in
    let fails = subst (λ (r : _). IfErr r (λ f. (rest : Rows) (trace : Recording) → Stands rest trace c.args.burdens (c.args.self.now.events + c.in-Some.ended.at) false c.go_on_by_aside.new.self.counting c.go_on_by_aside.new.self.ways
    → IsEventAt trace (c.args.self.now.events + c.in-Some.ended.at) (end_event c.in-Some.ended.end) → c.args.self.now.events + c.in-Some.ended.at < length trace.records → IsFaultOf trace.records f)) c.in-Err.is c.end.ensures.fault in
    fails (rest_of c.go_on_by_aside.new.self lent) trace (placed_here lent trace c.args.burdens i count c.args.self.now.events c.args.part h so.1 c.loop-ended.self c.in-Some.ended (into_iter_items c.next.new.self) (into_iter_items c.loop-ended.ended-iterator) c.in-Some.ensures.steps.0 s c.go_on_by_aside.new.self st) (ends_here lent trace c.args.burdens i count c.args.self.now.events c.args.part h so.1 c.loop-ended.self c.in-Some.ended (into_iter_items c.next.new.self) (into_iter_items c.loop-ended.ended-iterator) c.in-Some.ensures.steps.0 s) (within_here lent trace c.args.burdens i count c.args.self.now.events c.args.part h so.1 c.loop-ended.self c.in-Some.ended (into_iter_items c.next.new.self) (into_iter_items c.loop-ended.ended-iterator) c.in-Some.ensures.steps.0 s)

pub go_on_aside-requires : goal.go_on_aside-requires
go_on_aside-requires c =
    let none : into_iter_items c.loop-ended.ended-iterator ≡ [] = nil_from_length (into_iter_items c.loop-ended.ended-iterator) (omega (arith, c.loop-ended.ended-iterator.rest.ok.0, c.in-None.ensures.steps.0)) in
    let q = c.requires in
    let s = c.loop-ended.invariant.2.since q.0 q.1 q.2 q.3 q.4 q.5 in
    (q.0, q.1, c.args.burdens, q.2 + q.5.to, q.2 + c.args.part.good, q.5.settled, last_stands q.0 q.1 c.args.burdens q.2 q.3 c.args.self.now.events c.args.part q.5 q.4.1 c.loop-ended.self (into_iter_items c.loop-ended.ended-iterator) none s, last_goes q.0 q.1 c.args.burdens q.2 q.3 c.args.self.now.events c.args.part q.5 q.4.1 c.loop-ended.self (into_iter_items c.loop-ended.ended-iterator) none s)

pub returns-in-Some-fault-clause-fault : goal.returns-in-Some-fault-clause-fault
returns-in-Some-fault-clause-fault c lent trace i count so h =
    let none : into_iter_items c.loop-ended.ended-iterator ≡ [] = nil_from_length (into_iter_items c.loop-ended.ended-iterator) (omega (arith, c.loop-ended.ended-iterator.rest.ok.0, c.in-None.ensures.steps.0)) in
    let s = c.loop-ended.invariant.2.since lent trace i count so h in
    let st = c.in_ok-go_on_aside.ensures.stands lent trace c.args.burdens (i + h.to) (i + c.args.part.good) h.settled (last_stands lent trace c.args.burdens i count c.args.self.now.events c.args.part h so.1 c.loop-ended.self (into_iter_items c.loop-ended.ended-iterator) none s) (last_goes lent trace c.args.burdens i count c.args.self.now.events c.args.part h so.1 c.loop-ended.self (into_iter_items c.loop-ended.ended-iterator) none s) in
    subst (λ (f : ProfileFault). IsFaultOf trace.records f) (sym c.bad.ensures)
    (subst (λ k. IsFaultOf trace.records (Bad (record { at = k + c.args.part.good; why = Event c.in-Some-fault.fault }))) (sym so.1)
    (faulty trace c.args.burdens i count c.args.part h c.go_on_aside.new.self.counting c.go_on_aside.new.self.ways st c.in-Some-fault.fault c.in-Some-fault.is))

pub returns-clause-so_far : goal.returns-clause-so_far
returns-clause-so_far c lent trace i count so h =
    let none : into_iter_items c.loop-ended.ended-iterator ≡ [] = nil_from_length (into_iter_items c.loop-ended.ended-iterator) (omega (arith, c.loop-ended.ended-iterator.rest.ok.0, c.in-None.ensures.steps.0)) in
    let s = c.loop-ended.invariant.2.since lent trace i count so h in
    let st = c.in_ok-go_on_aside.ensures.stands lent trace c.args.burdens (i + h.to) (i + c.args.part.good) h.settled (last_stands lent trace c.args.burdens i count c.args.self.now.events c.args.part h so.1 c.loop-ended.self (into_iter_items c.loop-ended.ended-iterator) none s) (last_goes lent trace c.args.burdens i count c.args.self.now.events c.args.part h so.1 c.loop-ended.self (into_iter_items c.loop-ended.ended-iterator) none s) in
    let good : c.args.part.fault ≡ None = c.in_default.is in (
      whole trace c.args.burdens i count c.args.part h c.go_on_aside.new.self.counting c.go_on_aside.new.self.ways st good,
      (let a = c.in_ok-go_on_aside.ensures.events in let b = c.loop-ended.invariant.2.events in let d = so.1 in let e = good_is trace c.args.burdens i count c.args.part h good in omega arith),
    )
