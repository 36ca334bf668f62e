use Rattle.std.proofs.Common.{◌≡◌, ◌<◌, ◌++◌, List, length, ap, subst, sym, arith, length-append}
use Rattle.spp_event.specs.Recordings.{Record}
use Rattle.spp_event.specs.declared.records.EventFault.TheVariants.{Truncated}
use Rattle.spp_frame.specs.declared.Why.TheVariants as why
use Rattle.spp_frame.specs.Nesting.{IsFirstBad}
use Rattle.spp_frame.specs.Pieces.{Far}
use Rattle.spp_frame.specs.RecordChecks.{EndsWith}
use Rattle.spp_frame.proofs.Pieces.{all_seen, bad_in, good_in, bad_front, cut_off, none_missing}
use Rattle.spp_frame.proofs.record_check.RecordCheck.end.Goals as goal

pub returns-in-Some-clause-fault : goal.returns-in-Some-clause-fault
returns-in-Some-clause-fault c = λ rs ends n.
    let bad = bad_in c.args.self.bad c.in-Some.fault _ ends.before ends.seen.found c.in-Some.is in
    subst (λ (l : List Record). IsFirstBad l c.in-Some.fault) (sym ends.all) (bad_front ends.before ends.behind c.in-Some.fault bad).first

pub returns-then-at-count-clause-fault : goal.returns-then-at-count-clause-fault
returns-then-at-count-clause-fault c = λ rs ends n.
    let far = good_in c.args.self.bad _ ends.before ends.seen.found c.in_default.is in
    let parts : length rs ≡ length (ends.before ++ ends.behind) = ap (λ l. length l) ends.all in
    let at = ends.seen.count in
    let some : 0 < length ends.behind = omega (arith, length-append ends.before ends.behind) in
    subst (λ (l : List Record). IsFirstBad l (record { at = c.args.self.at; why = why.Event Truncated })) (sym ends.all) (cut_off ends.before ends.behind c.args.self.frames.depth c.args.self.frames.work c.args.self.at at some (ends.cut some) far).first

ended : (c : goal.After-end) (rs : List Record) → (ends : EndsWith c.args.self rs) → length rs ≡ c.args.count → Far rs (length rs) c.args.self.frames.depth c.args.self.frames.work
ended c rs ends n =
    let far = good_in c.args.self.bad _ ends.before ends.seen.found c.in_default.is in
    let at = ends.seen.count in
    none_missing ends.before ends.behind rs c.args.self.frames.depth c.args.self.frames.work ends.all (omega (arith, c.requires)) far

pub returns-clause-work : goal.returns-clause-work
returns-clause-work c = λ rs ends n.
    (all_seen rs c.args.self.frames.depth c.args.self.frames.work c.args.count c.end.result (sym n) (ended c rs ends n) c.end.ensures.work c.end.ensures.fault).0

pub returns-clause-fault : goal.returns-clause-fault
returns-clause-fault c = λ rs ends n.
    (all_seen rs c.args.self.frames.depth c.args.self.frames.work c.args.count c.end.result (sym n) (ended c rs ends n) c.end.ensures.work c.end.ensures.fault).1
