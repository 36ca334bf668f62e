use Rattle.std.proofs.Common.{◌+◌, refl, subst, arith}
use Rattle.std.specs.Prelude.{MatchResult}
use Rattle.spp_event.specs.declared.migrating.MigrateFault.TheVariants.{Bad}
use Rattle.spp_event.specs.Migrating.{IsMigrateFault}
use Rattle.spp_event.specs.Recordings.{records_of}
use Rattle.spp_event.specs.Written.{AreWritten}
use Rattle.spp_event.proofs.GoodRecords.{are_events_of}
use Rattle.spp_event.proofs.RecordPlaces.{length-records_of}
use Rattle.spp_event.proofs.WrittenEvents.{bad_behind, written_both}
use Rattle.spp_event.proofs.record_migration.written_behind.Goals as goal

pub overflow_add-result : goal.overflow_add-result
overflow_add-result g c =
    let a = c.args in
    let n = length-records_of g.B.BytesReader.version a.sites a.funcs a.count a.bytes.now in
    let bad = rw c.in-Err-Bad.field-0-is at c.in-Err-Bad.ensures.fault in
    let lt = bad.0 in
    omega (arith, n, lt, c.requires.room)

pub returns-in-Ok-push_events : goal.returns-in-Ok-push_events
returns-in-Ok-push_events g c = λ t rs n s f was.
    let v = g.B.BytesReader.version in
    let a = c.args in
    let more = records_of v a.sites a.funcs a.count a.bytes.now in
    let w = subst (λ r. MatchResult r (λ b. AreWritten t rs b.items) (λ bad. IsMigrateFault rs (Bad bad.at bad.why))) c.in-Ok.is was in
    written_both rs more t a.sites a.funcs a.count c.in-Ok.before.items c.in-Ok-push_events.more.items s f (length-records_of v a.sites a.funcs a.count a.bytes.now)
    (are_events_of v a.sites a.funcs a.count a.bytes.now c.are_bytes.ensures) c.in-Ok-push_events.ensures.good c.in-Ok-push_events.ensures.added w

pub returns-in-Err-Bad : goal.returns-in-Err-Bad
returns-in-Err-Bad g c = λ t rs n s f was.
    let v = g.B.BytesReader.version in
    let a = c.args in
    let more = records_of v a.sites a.funcs a.count a.bytes.now in
    let w = subst (λ r. MatchResult r (λ b. AreWritten t rs b.items) (λ bad. IsMigrateFault rs (Bad bad.at bad.why))) c.in-Ok.is was in
    let bad = rw c.in-Err-Bad.field-0-is at c.in-Err-Bad.ensures.fault in
    bad_behind rs more a.at c.in-Err-Bad.behind (a.at + c.in-Err-Bad.behind) c.in-Err-Bad.why n refl w.good bad
