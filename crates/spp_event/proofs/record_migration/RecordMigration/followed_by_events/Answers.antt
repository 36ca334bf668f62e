use Rattle.std.proofs.Common.{◌++◌, ℕ, length, sym, subst, arith, length-append}
use Rattle.std.specs.Prelude.{MatchResult}
use Rattle.spp_event.specs.declared.migrating.MigrateFault.TheVariants.{Bad}
use Rattle.spp_event.specs.Migrating.{IsMigrateFault}
use Rattle.spp_event.specs.Recordings.{records_of}
use Rattle.spp_event.specs.Written.{AreWritten}
use Rattle.spp_event.proofs.RecordPlaces.{length-records_of}
use Rattle.spp_event.proofs.record_migration.RecordMigration.followed_by_events.Goals as goal

pub returns-clause-seen : goal.returns-clause-seen
returns-clause-seen g c = λ t rs seen.
    let v = g.B.BytesReader.version in
    let a = c.args in
    let now = c.in_ok-written_behind.field-0 in
    let found = c.in_ok-written_behind.ensures t rs (sym seen.count) (sym seen.sites) (sym seen.funcs) seen.found in
    record {
      count = (let n = length-records_of v (length t.sites) (length t.funcs) a.count a.bytes.now in omega (arith, length-append rs (records_of v (length t.sites) (length t.funcs) a.count a.bytes.now), seen.count));
      sites = seen.sites;
      funcs = seen.funcs;
      claimed = seen.claimed;
      found =
          subst (λ (i : ℕ). MatchResult now (λ w. AreWritten t (rs ++ records_of v i (length t.funcs) a.count a.bytes.now) w.items) (λ bad. IsMigrateFault (rs ++ records_of v i (length t.funcs) a.count a.bytes.now) (Bad bad.at bad.why))) seen.sites
          (subst (λ (i : ℕ). MatchResult now (λ w. AreWritten t (rs ++ records_of v a.self.sites i a.count a.bytes.now) w.items) (λ bad. IsMigrateFault (rs ++ records_of v a.self.sites i a.count a.bytes.now) (Bad bad.at bad.why))) seen.funcs found);
    }
