use Rattle.std.proofs.Common.{◌++◌, ℕ, List, length, take, sym, subst}
use Rattle.spp_event.specs.Places.{IsJoint}
use Rattle.spp_event.specs.Recordings.{count_in, records_of}
use Rattle.spp_event.specs.RecordMigrations.{HasSeen, seen_by}
use Rattle.spp_shell.specs.Migrated.{migrated_by}
use Rattle.spp_shell.proofs.RecordStreams.{seen_more}
use Rattle.spp_shell.proofs.migrated_records.MigratedRecordsRecords.followed_by.Goals as goal

pub returns-clause-seen : goal.returns-clause-seen
returns-clause-seen g c = λ first xs whole joint is t begun.
    let self = c.args.self in
    let v = c.args.version in
    let now = c.in_ok-migration.migration in
    let e = c.in_ok-migration.ensures in
    let all : List ℕ = c.deref.result.now in
    subst (λ (l : List ℕ). HasSeen now t (records_of v (length t.sites) (length t.funcs) (seen_by now) (xs ++ take c.args.len l))) c.deref.ensures.value
    (seen_more (λ rs. HasSeen now t rs) v (length t.sites) (length t.funcs) (migrated_by self) (count_in v (take c.args.len all)) (seen_by now) xs (take c.args.len all) whole
    (subst (λ (l : List ℕ). IsJoint v xs (take c.args.len l)) (sym c.deref.ensures.value) joint)
    e.count (e.seen t (records_of v (length t.sites) (length t.funcs) (migrated_by self) xs) (is t begun)))
