use Rattle.std.proofs.Common.{length, arith, rules}
use Rattle.spp_event.specs.Recordings.{Recording}
use Rattle.spp_part.specs.Parts.{IsSoFar}
use Rattle.spp_crew.specs.Shared.{IsShared}
use Rattle.spp_crew.specs.RecordProfiles.{EndsWith}
use Rattle.spp_crew.proofs.Profiled.{if_ok}
use Rattle.spp_crew.proofs.RecordProfiles.{come_if, fault_if, sample_of, sample_begins, cut_there, whole_there, if_err}
use Rattle.spp_crew.proofs.record_profile.RecordProfile.end.Given.{Over}
use Rattle.spp_crew.proofs.record_profile.RecordProfile.end.Goals as goal

pub returns-in-Bad-clause-fault : goal.returns-in-Bad-clause-fault
returns-in-Bad-clause-fault g c trace e = fault_if IsShared trace c.args.self.burdens (length e.before) c.args.self.shown c.in-Bad.fault c.in-Bad.is (e.seen.found trace e.begins)

pub end-requires : goal.end-requires
end-requires g c =
    let p = c.args.self in
    let rs = c.requires.seen.0 in
    let seen = c.requires.seen.1 in
    let count = seen.count in
    let t = sample_of p.head rs in
    (t, length rs, come_if IsShared t p.burdens (length rs) p.shown c.in-Good.joining c.in-Good.is (seen.found t (sample_begins p.head p.limits rs seen.good (omega (arith, count, c.requires.few)))))

pub gathered-requires : goal.gathered-requires
gathered-requires g c =
    let p = c.args.self in
    let rs = c.requires.seen.0 in
    let seen = c.requires.seen.1 in
    let count = seen.count in
    let t = sample_of p.head rs in
    let come = come_if IsShared t p.burdens (length rs) p.shown c.in-Good.joining c.in-Good.is (seen.found t (sample_begins p.head p.limits rs seen.good (omega (arith, count, c.requires.few)))) in
    (t, p.burdens, length rs, c.in_ok-shared.ensures.so_far t _ come)

pub returns-in_err-shared-clause-fault : goal.returns-in_err-shared-clause-fault
returns-in_err-shared-clause-fault g c trace e =
    let come = come_if IsShared trace c.args.self.burdens (length e.before) c.args.self.shown c.in-Good.joining c.in-Good.is (e.seen.found trace e.begins) in
    let bad = c.in_err-shared.ensures.fault trace _ come in
    search rules

pub returns-then-at-head-clause-fault : goal.returns-then-at-head-clause-fault
returns-then-at-head-clause-fault g c trace e =
    let p = c.args.self in
    let come = come_if IsShared trace p.burdens (length e.before) p.shown c.in-Good.joining c.in-Good.is (e.seen.found trace e.begins) in
    let cut = cut_there IsSoFar p.burdens c.in_ok-so_far.so_far trace p.head e.before p.at e.seen.count e.begins (c.in_ok-so_far.ensures trace p.burdens _ (c.in_ok-shared.ensures.so_far trace _ come)) e.cut (omega (arith, c.if-at-head.true)) in
    c.cut_off.ensures trace p.burdens _ cut.0 cut.1 cut.2

pub finish-requires : goal.finish-requires
finish-requires g c =
    let p = c.args.self in
    let rs = c.requires.seen.0 in
    let seen = c.requires.seen.1 in
    let count = seen.count in
    let t = sample_of p.head rs in
    let begins = sample_begins p.head p.limits rs seen.good (omega (arith, count, c.requires.few)) in
    let come = come_if IsShared t p.burdens (length rs) p.shown c.in-Good.joining c.in-Good.is (seen.found t begins) in
    (t, p.burdens, whole_there IsSoFar p.burdens c.in_ok-so_far.so_far t p.head rs p.at count begins (c.in_ok-so_far.ensures t p.burdens _ (c.in_ok-shared.ensures.so_far t _ come)) (omega (arith, c.if-at-head.false)))

whole : (g : Over) (c : goal.After-finish g) (trace : Recording) (e : EndsWith c.args.self trace) → IsSoFar trace c.args.self.burdens (length trace.records) c.in_ok-so_far.so_far
whole g c trace e =
    let p = c.args.self in
    let come = come_if IsShared trace p.burdens (length e.before) p.shown c.in-Good.joining c.in-Good.is (e.seen.found trace e.begins) in
    whole_there IsSoFar p.burdens c.in_ok-so_far.so_far trace p.head e.before p.at e.seen.count e.begins (c.in_ok-so_far.ensures trace p.burdens _ (c.in_ok-shared.ensures.so_far trace _ come)) (omega (arith, c.if-at-head.false))

pub returns-clause-figures : goal.returns-clause-figures
returns-clause-figures g c trace e = if_ok c.finish.result (λ p h. h trace c.args.self.burdens (whole g c trace e)) c.finish.ensures.figures

pub returns-clause-profile : goal.returns-clause-profile
returns-clause-profile g c trace e = if_ok c.finish.result (λ p h. h trace c.args.self.burdens (whole g c trace e)) c.finish.ensures.profile

pub returns-clause-fault : goal.returns-clause-fault
returns-clause-fault g c trace e = if_err c.finish.result (λ f h. h trace c.args.self.burdens (whole g c trace e)) c.finish.ensures.fault
