use Rattle.std.proofs.Common.{◌≡◌, ℕ, suc, ◌+◌, ◌<◌, false, None, List, [], ◌∷◌, length, drop, OnOk, IfErr, sym, ap, subst, ◌∙◌, arith}
use Rattle.std.proofs.Math.ListN.{drop_of_length-le}
use Rattle.spp_event.specs.Recordings.{Recording}
use Rattle.spp_frame.specs.Answers.{IsFaultOf}
use Rattle.spp_frame.specs.declared.profile_fault.ProfileFault.{ProfileFault}
use Rattle.spp_frame.specs.declared.profile_fault.ProfileFault.TheVariants.{Bad}
use Rattle.spp_frame.specs.declared.Why.TheVariants.{Event}
use Rattle.spp_part.specs.declared.stretch.EndedStretch.{EndedStretch}
use Rattle.spp_part.specs.States.{IsEventAt}
use Rattle.spp_part.specs.Parts.{IsSoFar, IsPartProfile, Stands, Rows, no_rows, rest_of, GoesOn, stretch_of, stored_of, end_event, settles}
use Rattle.spp_part.proofs.Standing.{aside_same}
use Rattle.spp_part.proofs.Parting.{Since, since_start, left_at, inside, goes, ends, since_more, stands_last, goes_last, whole, faulty, good_is}
use Rattle.spp_part.proofs.so_far.ProfileSoFar.join.Goals as goal

pub loop-ended-init : goal.loop-ended-init
loop-ended-init c = record {
  since = λ trace i count so h. since_start trace c.args.burdens i count c.args.part.now h c.args.self.now.counting c.args.self.now.ways so.0;
  events = λ j. c.args.self.now.events;
  aside = λ j. c.args.self.now.aside;
}

pub go_on_by-requires : goal.go_on_by-requires
go_on_by-requires c =
    let items : List EndedStretch = c.args.part.now.ended.items in
    let n : ℕ = c.loop-ended.ended-index in
    let x : EndedStretch = c.ended-item.result in
    let left : drop n items ≡ x ∷ drop (suc n) items = left_at items c.deref-ended-items.result.now n x c.deref-ended-items.ensures.value (omega (arith, c.loop-ended-test.true, c.deref-ended-items.ensures.len)) c.ended-item.is in
    let since = λ (trace : Recording) (i count : ℕ) (so : IsSoFar trace c.args.burdens i c.args.self.now) (h : IsPartProfile trace c.args.burdens i count c.args.part.now).
    subst (λ (l : List EndedStretch). Since trace c.args.burdens i count c.args.part.now h (rest_of c.args.self.now no_rows) l c.loop-ended.self.counting c.loop-ended.self.ways) left (c.loop-ended.invariant.since trace i count so h) in
    let q = c.requires in
    let s = since q.0 q.1 q.2 q.3 q.4 in
    let rest : List EndedStretch = drop (suc n) items in
    ((rest_of c.args.self.now no_rows), q.0, c.args.burdens, q.1 + s.0, q.1 + x.at, s.1, s.2, subst (λ k. GoesOn q.0 c.args.burdens k (q.1 + s.0) (q.1 + x.at) s.1 (stored_of x.stored)) (sym q.3.1) (goes q.0 c.args.burdens q.1 q.2 c.args.part.now q.4 x rest c.loop-ended.self.counting c.loop-ended.self.ways s))

pub overflow_add-first : goal.overflow_add-first
overflow_add-first c =
    let items : List EndedStretch = c.args.part.now.ended.items in
    let n : ℕ = c.loop-ended.ended-index in
    let x : EndedStretch = c.ended-item.result in
    let left : drop n items ≡ x ∷ drop (suc n) items = left_at items c.deref-ended-items.result.now n x c.deref-ended-items.ensures.value (omega (arith, c.loop-ended-test.true, c.deref-ended-items.ensures.len)) c.ended-item.is in
    let since = λ (trace : Recording) (i count : ℕ) (so : IsSoFar trace c.args.burdens i c.args.self.now) (h : IsPartProfile trace c.args.burdens i count c.args.part.now).
    subst (λ (l : List EndedStretch). Since trace c.args.burdens i count c.args.part.now h (rest_of c.args.self.now no_rows) l c.loop-ended.self.counting c.loop-ended.self.ways) left (c.loop-ended.invariant.since trace i count so h) in
    let q = c.requires in
    let s = since q.0 q.1 q.2 q.3 q.4 in
    let rest : List EndedStretch = drop (suc n) items in
    let a : c.args.self.now.events + x.at < length q.0.records = subst (λ k. k + x.at < length q.0.records) (sym q.3.1) (inside q.0 c.args.burdens q.1 q.2 c.args.part.now q.4 x rest c.loop-ended.self.counting c.loop-ended.self.ways s) in
    let b = q.3.0.limits.events in
    omega arith

pub end-requires : goal.end-requires
end-requires c =
    let items : List EndedStretch = c.args.part.now.ended.items in
    let n : ℕ = c.loop-ended.ended-index in
    let x : EndedStretch = c.ended-item.result in
    let left : drop n items ≡ x ∷ drop (suc n) items = left_at items c.deref-ended-items.result.now n x c.deref-ended-items.ensures.value (omega (arith, c.loop-ended-test.true, c.deref-ended-items.ensures.len)) c.ended-item.is in
    let since = λ (trace : Recording) (i count : ℕ) (so : IsSoFar trace c.args.burdens i c.args.self.now) (h : IsPartProfile trace c.args.burdens i count c.args.part.now).
    subst (λ (l : List EndedStretch). Since trace c.args.burdens i count c.args.part.now h (rest_of c.args.self.now no_rows) l c.loop-ended.self.counting c.loop-ended.self.ways) left (c.loop-ended.invariant.since trace i count so h) in
    let q = c.requires in
    let s = since q.0 q.1 q.2 q.3 q.4 in
    let rest : List EndedStretch = drop (suc n) items in
    ((rest_of c.args.self.now no_rows), q.0, subst (λ k. Stands (rest_of c.args.self.now no_rows) q.0 c.args.burdens (k + x.at) false c.go_on_by.new.self.counting c.go_on_by.new.self.ways) (sym q.3.1) (c.in_ok-go_on_by.ensures.stands (rest_of c.args.self.now no_rows) q.0 c.args.burdens (q.1 + s.0) (q.1 + x.at) s.1 s.2 (subst (λ k. GoesOn q.0 c.args.burdens k (q.1 + s.0) (q.1 + x.at) s.1 (stored_of x.stored)) (sym q.3.1) (goes q.0 c.args.burdens q.1 q.2 c.args.part.now q.4 x rest c.loop-ended.self.counting c.loop-ended.self.ways s))), subst (λ k. IsEventAt q.0 (k + x.at) (end_event x.end)) (sym q.3.1) (ends q.0 c.args.burdens q.1 q.2 c.args.part.now q.4 x rest c.loop-ended.self.counting c.loop-ended.self.ways s), subst (λ k. k + x.at < length q.0.records) (sym q.3.1) (inside q.0 c.args.burdens q.1 q.2 c.args.part.now q.4 x rest c.loop-ended.self.counting c.loop-ended.self.ways s))

pub loop-ended-preserved : goal.loop-ended-preserved
loop-ended-preserved c =
    let items : List EndedStretch = c.args.part.now.ended.items in
    let n : ℕ = c.loop-ended.ended-index in
    let x : EndedStretch = c.ended-item.result in
    let left : drop n items ≡ x ∷ drop (suc n) items = left_at items c.deref-ended-items.result.now n x c.deref-ended-items.ensures.value (omega (arith, c.loop-ended-test.true, c.deref-ended-items.ensures.len)) c.ended-item.is in
    let since = λ (trace : Recording) (i count : ℕ) (so : IsSoFar trace c.args.burdens i c.args.self.now) (h : IsPartProfile trace c.args.burdens i count c.args.part.now).
    subst (λ (l : List EndedStretch). Since trace c.args.burdens i count c.args.part.now h (rest_of c.args.self.now no_rows) l c.loop-ended.self.counting c.loop-ended.self.ways) left (c.loop-ended.invariant.since trace i count so h) in
    let rest : List EndedStretch = drop (suc n) items in
    let next : suc n ≡ n + 1 = omega arith in
    let went = subst (λ (r : _). OnOk r ((rest : Rows) (trace : Recording) → Stands rest trace c.args.burdens (c.args.self.now.events + x.at) false c.go_on_by.new.self.counting c.go_on_by.new.self.ways → IsEventAt trace (c.args.self.now.events + x.at) (end_event x.end)
    → c.args.self.now.events + x.at < length trace.records → Stands rest trace c.args.burdens (suc (c.args.self.now.events + x.at)) (settles x.end) c.end.new.self.counting c.end.new.self.ways)) c.in-Ok.is c.end.ensures.stands in
    record {
      since = λ trace i count so h. let s = since trace i count so h in
          let st = subst (λ k. Stands (rest_of c.args.self.now no_rows) trace c.args.burdens (k + x.at) false c.go_on_by.new.self.counting c.go_on_by.new.self.ways) (sym so.1) (c.in_ok-go_on_by.ensures.stands (rest_of c.args.self.now no_rows) trace c.args.burdens (i + s.0) (i + x.at) s.1 s.2 (subst (λ k. GoesOn trace c.args.burdens k (i + s.0) (i + x.at) s.1 (stored_of x.stored)) (sym so.1) (goes trace c.args.burdens i count c.args.part.now h x rest c.loop-ended.self.counting c.loop-ended.self.ways s))) in
          let then = went (rest_of c.args.self.now no_rows) trace st (subst (λ k. IsEventAt trace (k + x.at) (end_event x.end)) (sym so.1) (ends trace c.args.burdens i count c.args.part.now h x rest c.loop-ended.self.counting c.loop-ended.self.ways s)) (subst (λ k. k + x.at < length trace.records) (sym so.1) (inside trace c.args.burdens i count c.args.part.now h x rest c.loop-ended.self.counting c.loop-ended.self.ways s)) in
          subst (λ k. Since trace c.args.burdens i count c.args.part.now h (rest_of c.args.self.now no_rows) (drop k items) c.end.new.self.counting c.end.new.self.ways) next
          (since_more trace c.args.burdens i count c.args.part.now h x rest c.loop-ended.self.counting c.loop-ended.self.ways s c.end.new.self.counting c.end.new.self.ways
          (subst (λ k. Stands (rest_of c.args.self.now no_rows) trace c.args.burdens (suc (k + x.at)) (settles x.end) c.end.new.self.counting c.end.new.self.ways) so.1 then));
      events = c.end.ensures.events ∙ c.in_ok-go_on_by.ensures.events ∙ c.loop-ended.invariant.events;
      aside = c.end.ensures.aside ∙ c.in_ok-go_on_by.ensures.aside ∙ c.loop-ended.invariant.aside;
    }

pub go_on-requires : goal.go_on-requires
go_on-requires c =
    let items : List EndedStretch = c.args.part.now.ended.items in
    let n : ℕ = c.loop-ended.ended-index in
    let none : drop n items ≡ [] = drop_of_length-le items (let a : length c.deref-ended-items.result.now ≡ length items = ap (λ (l : List EndedStretch). length l) c.deref-ended-items.ensures.value in omega (arith, c.loop-ended-test.false, c.deref-ended-items.ensures.len)) in
    let since = λ (trace : Recording) (i count : ℕ) (so : IsSoFar trace c.args.burdens i c.args.self.now) (h : IsPartProfile trace c.args.burdens i count c.args.part.now).
    subst (λ (l : List EndedStretch). Since trace c.args.burdens i count c.args.part.now h (rest_of c.args.self.now no_rows) l c.loop-ended.self.counting c.loop-ended.self.ways) none (c.loop-ended.invariant.since trace i count so h) in
    let q = c.requires in
    let s = since q.0 q.1 q.2 q.3 q.4 in
    ((rest_of c.args.self.now no_rows), q.0, c.args.burdens, q.1 + q.4.to, q.1 + c.args.part.now.good, q.4.settled, stands_last q.0 c.args.burdens q.1 q.2 c.args.part.now q.4 c.loop-ended.self.counting c.loop-ended.self.ways s, subst (λ k. GoesOn q.0 c.args.burdens k (q.1 + q.4.to) (q.1 + c.args.part.now.good) q.4.settled (stretch_of c.args.part.now.last)) (sym q.3.1) (goes_last q.0 c.args.burdens q.1 q.2 c.args.part.now q.4 c.loop-ended.self.counting c.loop-ended.self.ways s))

pub returns-in-Some-clause-fault : goal.returns-in-Some-clause-fault
returns-in-Some-clause-fault c trace i count so h =
    let items : List EndedStretch = c.args.part.now.ended.items in
    let n : ℕ = c.loop-ended.ended-index in
    let none : drop n items ≡ [] = drop_of_length-le items (let a : length c.deref-ended-items.result.now ≡ length items = ap (λ (l : List EndedStretch). length l) c.deref-ended-items.ensures.value in omega (arith, c.loop-ended-test.false, c.deref-ended-items.ensures.len)) in
    let since = λ (trace : Recording) (i count : ℕ) (so : IsSoFar trace c.args.burdens i c.args.self.now) (h : IsPartProfile trace c.args.burdens i count c.args.part.now).
    subst (λ (l : List EndedStretch). Since trace c.args.burdens i count c.args.part.now h (rest_of c.args.self.now no_rows) l c.loop-ended.self.counting c.loop-ended.self.ways) none (c.loop-ended.invariant.since trace i count so h) in
    let s = since trace i count so h in
    subst (λ (f : ProfileFault). IsFaultOf trace.records f) (sym c.bad.ensures)
    (subst (λ k. IsFaultOf trace.records (Bad (record { at = k + c.args.part.now.good; why = Event c.in-Some.fault }))) (sym so.1)
    (faulty trace c.args.burdens i count c.args.part.now h c.go_on.new.self.counting c.go_on.new.self.ways (c.in_ok-go_on.ensures.stands (rest_of c.args.self.now no_rows) trace c.args.burdens (i + h.to) (i + c.args.part.now.good) h.settled (stands_last trace c.args.burdens i count c.args.part.now h c.loop-ended.self.counting c.loop-ended.self.ways s) (subst (λ k. GoesOn trace c.args.burdens k (i + h.to) (i + c.args.part.now.good) h.settled (stretch_of c.args.part.now.last)) (sym so.1) (goes_last trace c.args.burdens i count c.args.part.now h c.loop-ended.self.counting c.loop-ended.self.ways s))) c.in-Some.fault c.in-Some.is))

pub returns-clause-so_far : goal.returns-clause-so_far
returns-clause-so_far c trace i count so h =
    let items : List EndedStretch = c.args.part.now.ended.items in
    let n : ℕ = c.loop-ended.ended-index in
    let none : drop n items ≡ [] = drop_of_length-le items (let a : length c.deref-ended-items.result.now ≡ length items = ap (λ (l : List EndedStretch). length l) c.deref-ended-items.ensures.value in omega (arith, c.loop-ended-test.false, c.deref-ended-items.ensures.len)) in
    let since = λ (trace : Recording) (i count : ℕ) (so : IsSoFar trace c.args.burdens i c.args.self.now) (h : IsPartProfile trace c.args.burdens i count c.args.part.now).
    subst (λ (l : List EndedStretch). Since trace c.args.burdens i count c.args.part.now h (rest_of c.args.self.now no_rows) l c.loop-ended.self.counting c.loop-ended.self.ways) none (c.loop-ended.invariant.since trace i count so h) in
    let s = since trace i count so h in
    let none : c.args.part.now.fault ≡ None = c.in_default.is in (
      aside_same no_rows c.args.self.now.aside c.go_on.new.self.aside (c.in_ok-go_on.ensures.aside ∙ c.loop-ended.invariant.aside) trace c.args.burdens (i + count) c.go_on.new.self.counting c.go_on.new.self.ways
          (whole trace c.args.burdens i count c.args.part.now h c.go_on.new.self.counting c.go_on.new.self.ways (c.in_ok-go_on.ensures.stands (rest_of c.args.self.now no_rows) trace c.args.burdens (i + h.to) (i + c.args.part.now.good) h.settled (stands_last trace c.args.burdens i count c.args.part.now h c.loop-ended.self.counting c.loop-ended.self.ways s) (subst (λ k. GoesOn trace c.args.burdens k (i + h.to) (i + c.args.part.now.good) h.settled (stretch_of c.args.part.now.last)) (sym so.1) (goes_last trace c.args.burdens i count c.args.part.now h c.loop-ended.self.counting c.loop-ended.self.ways s))) none),
      (let a = c.in_ok-go_on.ensures.events in let b = c.loop-ended.invariant.events in let d = so.1 in let e = good_is trace c.args.burdens i count c.args.part.now h none in omega arith),
    )

pub returns-in-Err-clause-fault : goal.returns-in-Err-clause-fault
returns-in-Err-clause-fault c trace i count so h =
    let items : List EndedStretch = c.args.part.now.ended.items in
    let n : ℕ = c.loop-ended.ended-index in
    let x : EndedStretch = c.ended-item.result in
    let left : drop n items ≡ x ∷ drop (suc n) items = left_at items c.deref-ended-items.result.now n x c.deref-ended-items.ensures.value (omega (arith, c.loop-ended-test.true, c.deref-ended-items.ensures.len)) c.ended-item.is in
    let since = λ (trace : Recording) (i count : ℕ) (so : IsSoFar trace c.args.burdens i c.args.self.now) (h : IsPartProfile trace c.args.burdens i count c.args.part.now).
    subst (λ (l : List EndedStretch). Since trace c.args.burdens i count c.args.part.now h (rest_of c.args.self.now no_rows) l c.loop-ended.self.counting c.loop-ended.self.ways) left (c.loop-ended.invariant.since trace i count so h) in
    let rest : List EndedStretch = drop (suc n) items in
    let s = since trace i count so h in
    let fails = subst (λ (r : _). IfErr r (λ f. (rest : Rows) (trace : Recording) → Stands rest trace c.args.burdens (c.args.self.now.events + x.at) false c.go_on_by.new.self.counting c.go_on_by.new.self.ways → IsEventAt trace (c.args.self.now.events + x.at) (end_event x.end)
    → c.args.self.now.events + x.at < length trace.records → IsFaultOf trace.records f)) c.in-Err.is c.end.ensures.fault in
    fails (rest_of c.args.self.now no_rows) trace (subst (λ k. Stands (rest_of c.args.self.now no_rows) trace c.args.burdens (k + x.at) false c.go_on_by.new.self.counting c.go_on_by.new.self.ways) (sym so.1) (c.in_ok-go_on_by.ensures.stands (rest_of c.args.self.now no_rows) trace c.args.burdens (i + s.0) (i + x.at) s.1 s.2 (subst (λ k. GoesOn trace c.args.burdens k (i + s.0) (i + x.at) s.1 (stored_of x.stored)) (sym so.1) (goes trace c.args.burdens i count c.args.part.now h x rest c.loop-ended.self.counting c.loop-ended.self.ways s)))) (subst (λ k. IsEventAt trace (k + x.at) (end_event x.end)) (sym so.1) (ends trace c.args.burdens i count c.args.part.now h x rest c.loop-ended.self.counting c.loop-ended.self.ways s))
    (subst (λ k. k + x.at < length trace.records) (sym so.1) (inside trace c.args.burdens i count c.args.part.now h x rest c.loop-ended.self.counting c.loop-ended.self.ways s))
