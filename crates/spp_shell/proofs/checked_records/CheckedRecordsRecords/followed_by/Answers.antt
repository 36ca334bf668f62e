use Rattle.std.proofs.Common.{◌++◌, ℕ, List, take, sym, subst}
use Rattle.spp_event.specs.Places.{IsJoint}
use Rattle.spp_event.specs.Recordings.{count_in, records_of}
use Rattle.spp_frame.specs.RecordChecks.{HasSeen, seen_by}
use Rattle.spp_shell.specs.Checked.{checked_by}
use Rattle.spp_shell.proofs.RecordStreams.{seen_more}
use Rattle.spp_shell.proofs.checked_records.CheckedRecordsRecords.followed_by.Goals as goal

pub returns-clause-seen : goal.returns-clause-seen
returns-clause-seen g c = λ first xs whole joint is.
    let self = c.args.self in
    let v = c.args.version in
    let then = c.check_behind.result in
    let all : List ℕ = c.deref.result.now in
    record {
      sites = is.sites;
      funcs = is.funcs;
      seen = subst (λ (l : List ℕ). HasSeen then (records_of v self.sites self.funcs (seen_by then) (xs ++ take c.args.len l))) c.deref.ensures.value
          (seen_more (λ rs. HasSeen then rs) v self.sites self.funcs (checked_by self) (count_in v (take c.args.len all)) (seen_by then) xs (take c.args.len all) whole
          (subst (λ (l : List ℕ). IsJoint v xs (take c.args.len l)) (sym c.deref.ensures.value) joint)
          c.check_behind.ensures.count (c.check_behind.ensures.seen (records_of v self.sites self.funcs (checked_by self) xs) is.seen));
    }
