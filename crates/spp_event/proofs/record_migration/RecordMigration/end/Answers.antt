use Rattle.std.proofs.Common.{length, ap, subst, arith, length-append}
use Rattle.std.specs.Prelude.{MatchResult}
use Rattle.spp_event.specs.declared.migrating.MigrateFault.TheVariants.{Bad}
use Rattle.spp_event.specs.Migrating.{IsMigrateFault}
use Rattle.spp_event.specs.Written.{AreWritten}
use Rattle.spp_event.proofs.WrittenEvents.{all_written, none_left}
use Rattle.spp_event.proofs.record_migration.RecordMigration.end.Goals as goal

pub returns-clause-bytes : goal.returns-clause-bytes
returns-clause-bytes c = λ t ends.
    let w = subst (λ r. MatchResult r (λ b. AreWritten t ends.before b.items) (λ bad. IsMigrateFault ends.before (Bad bad.at bad.why))) c.in-Ok.is ends.seen.found in
    let at = ends.seen.count in
    let claimed = ends.seen.claimed in
    all_written t c.in-Ok.bytes.items ends.limits ends.names (none_left t ends.before ends.behind c.in-Ok.bytes.items ends.all (omega (arith, at, claimed, c.requires, ap (λ l. length l) ends.all, length-append ends.before ends.behind)) w)
