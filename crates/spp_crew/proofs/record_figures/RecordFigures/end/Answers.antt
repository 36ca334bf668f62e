use Rattle.std.proofs.Common.{◌<◌, List, length, length-append, sym, ap, subst, arith}
use Rattle.spp_event.specs.Recordings.{Record}
use Rattle.spp_maxplus.specs.declared.state.Burdens.{Burdens}
use Rattle.spp_dag.specs.Figures.{AreFigures}
use Rattle.spp_piece.specs.Account.{Account}
use Rattle.spp_frame.specs.Nesting.{IsFirstBad}
use Rattle.spp_crew.specs.Blocks.{IsSummaryOfFirst}
use Rattle.spp_crew.specs.RecordFigures.{rooted}
use Rattle.spp_crew.proofs.CutRecords.{before_summary, whole_summary}
use Rattle.spp_crew.proofs.Profiled.{if_ok}
use Rattle.spp_crew.proofs.RecordProfiles.{come_if, fault_if, sample_of, sample_begins_as, whole_there, if_err}
use Rattle.spp_crew.proofs.record_figures.RecordFigures.end.Goals as goal

pub returns-in-Bad-clause-fault : goal.returns-in-Bad-clause-fault
returns-in-Bad-clause-fault g c trace e = fault_if IsSummaryOfFirst trace c.args.self.burdens (length e.before) c.args.self.shown c.in-Bad.fault c.in-Bad.is (e.seen.found trace e.begins)

pub end-requires : goal.end-requires
end-requires g c =
    let p = c.args.self in
    let rs = c.requires.seen.0 in
    let seen = c.requires.seen.1 in
    let count = seen.count in
    let t = sample_of p.head rs in
    (t, length rs, come_if IsSummaryOfFirst t p.burdens (length rs) p.shown c.in-Good.joining c.in-Good.is (seen.found t (sample_begins_as p.head p.limits rs seen.good (omega (arith, count, c.requires.few)))))

pub returns-in-Err-clause-fault : goal.returns-in-Err-clause-fault
returns-in-Err-clause-fault g c trace e =
    let come = come_if IsSummaryOfFirst trace c.args.self.burdens (length e.before) c.args.self.shown c.in-Good.joining c.in-Good.is (e.seen.found trace e.begins) in
    c.in-Err.ensures.fault trace _ come

pub finish-found-requires : goal.finish-found-requires
finish-found-requires g c =
    let p = c.args.self in
    let rs = c.requires.seen.0 in
    let seen = c.requires.seen.1 in
    let count = seen.count in
    let t = sample_of p.head rs in
    let come = come_if IsSummaryOfFirst t p.burdens (length rs) p.shown c.in-Good.joining c.in-Good.is (seen.found t (sample_begins_as p.head p.limits rs seen.good (omega (arith, count, c.requires.few)))) in
    ap (λ (s : Account). s.first) (c.in-Ok.ensures.so_far t _ come)

pub returns-then-at-head-clause-fault : goal.returns-then-at-head-clause-fault
returns-then-at-head-clause-fault g c trace e =
    let p = c.args.self in
    let count = e.seen.count in
    let all = e.begins.count_is in
    let come = come_if IsSummaryOfFirst trace p.burdens (length e.before) p.shown c.in-Good.joining c.in-Good.is (e.seen.found trace e.begins) in
    let is = before_summary trace p.burdens c.in-Ok.summary (rooted trace p.head) e.before e.begins (c.in-Ok.ensures.so_far trace _ come) in
    let some : 0 < length e.begins.behind = omega (arith, count, all, c.if-at-head.true, ap (λ (l : List Record). length l) e.begins.records, length-append e.before e.begins.behind) in
    subst (λ (l : List Record). IsFirstBad l c.cut_off.result) (sym e.begins.records)
    (c.cut_off.ensures e.before e.begins.behind (sym count) (if_ok c.finish-found.result (λ f h. (h e.before is).well_formed) c.finish-found.ensures.figures)
    (if_err c.finish-found.result (λ f h. h e.before is) c.finish-found.ensures.fault) some (e.cut some))

pub returns-in-Ok-found-clause-figures : goal.returns-in-Ok-found-clause-figures
returns-in-Ok-found-clause-figures g c trace e =
    let p = c.args.self in
    let come = come_if IsSummaryOfFirst trace p.burdens (length e.before) p.shown c.in-Good.joining c.in-Good.is (e.seen.found trace e.begins) in
    let under = ap (λ (s : Account). s.burdens) (c.in-Ok.ensures.so_far trace _ come) in
    let there = whole_there IsSummaryOfFirst p.burdens c.in-Ok.summary trace (rooted trace p.head) e.before p.at e.seen.count e.begins (c.in-Ok.ensures.so_far trace _ come) (omega (arith, c.if-at-head.false)) in
    subst (λ (b : Burdens). AreFigures trace.records b c.in-Ok-found.figures) under (c.in-Ok-found.ensures.figures trace.records (whole_summary trace p.burdens c.in-Ok.summary there))

pub returns-clause-fault : goal.returns-clause-fault
returns-clause-fault g c trace e =
    let p = c.args.self in
    let come = come_if IsSummaryOfFirst trace p.burdens (length e.before) p.shown c.in-Good.joining c.in-Good.is (e.seen.found trace e.begins) in
    let there = whole_there IsSummaryOfFirst p.burdens c.in-Ok.summary trace (rooted trace p.head) e.before p.at e.seen.count e.begins (c.in-Ok.ensures.so_far trace _ come) (omega (arith, c.if-at-head.false)) in
    c.in-Err-found.ensures.fault trace.records (whole_summary trace p.burdens c.in-Ok.summary there)
