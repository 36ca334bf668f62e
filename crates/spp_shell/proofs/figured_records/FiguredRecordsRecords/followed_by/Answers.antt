use Rattle.std.proofs.Common.{◌++◌, take, ◌∙◌, sym, subst}
use Rattle.spp_event.specs.Recordings.{records_of}
use Rattle.spp_crew.specs.declared.record_head.RecordHead.{RecordHead}
use Rattle.spp_crew.specs.RecordFigures.{HasSeen, seen_by}
use Rattle.spp_shell.specs.Figured.{figured_by}
use Rattle.spp_shell.proofs.RecordStreams.{seen_more}
use Rattle.spp_shell.proofs.figured_records.FiguredRecordsRecords.followed_by.Goals as goal

pub returns-clause-seen : goal.returns-clause-seen
returns-clause-seen g c = λ first xs whole joint is.
    let self = c.args.self in
    let v = c.args.version in
    let old = self.figures in
    let new = c.in_ok-figures.figures in
    let e = c.in_ok-figures.ensures in
    let seen = seen_more (λ rs. HasSeen new rs) v old.head.sites old.head.funcs (figured_by self) c.args.count (seen_by new) xs (take c.args.len c.args.bytes.items) whole joint e.count
    (e.seen (records_of v old.head.sites old.head.funcs (figured_by self) xs) is.seen) in
    record {
      head = e.head ∙ is.head;
      burdens = e.burdens ∙ is.burdens;
      seen = subst (λ (h : RecordHead). HasSeen new (records_of v h.sites h.funcs (seen_by new) (xs ++ (take c.args.len c.args.bytes.items)))) (sym e.head) seen;
    }
