use Rattle.std.proofs.Common.{◌≡◌, ◌+◌, ◌<◌, ◌^◌, ◌++◌, List, IfOk, length, sym, subst}
use Rattle.spp_event.specs.declared.version.Version.{Version}
use Rattle.spp_event.specs.RecordMigrations.{HasSeen, seen_by}
use Rattle.spp_event.specs.Recordings.{Record, Recording, count_in, records_of}
use Rattle.spp_shell.proofs.migrated_records.migrate_behind.Goals as goal

pub followed_by-requires : goal.followed_by-requires
followed_by-requires c = subst (λ (v : Version). seen_by c.args.migration + count_in v c.args.bytes.now < 2 ^ 32) c.in-One.is c.requires

pub returns-in-One-clause-count : goal.returns-in-One-clause-count
returns-in-One-clause-count c = subst (λ (v : Version). IfOk c.followed_by.result (λ m. seen_by m ≡ seen_by c.args.migration + count_in v c.args.bytes.now)) (sym c.in-One.is) c.followed_by.ensures.count

pub returns-in-One-clause-seen : goal.returns-in-One-clause-seen
returns-in-One-clause-seen c =
    subst (λ (v : Version). IfOk c.followed_by.result (λ m. (t : Recording) (rs : List Record) → HasSeen c.args.migration t rs → HasSeen m t (rs ++ records_of v (length t.sites) (length t.funcs) (count_in v c.args.bytes.now) c.args.bytes.now))) (sym c.in-One.is) c.followed_by.ensures.seen

pub followed_by_items-requires : goal.followed_by_items-requires
followed_by_items-requires c = subst (λ (v : Version). seen_by c.args.migration + count_in v c.args.bytes.now < 2 ^ 32) c.in-Two.is c.requires

pub returns-in-Two-clause-count : goal.returns-in-Two-clause-count
returns-in-Two-clause-count c = subst (λ (v : Version). IfOk c.followed_by_items.result (λ m. seen_by m ≡ seen_by c.args.migration + count_in v c.args.bytes.now)) (sym c.in-Two.is) c.followed_by_items.ensures.count

pub returns-in-Two-clause-seen : goal.returns-in-Two-clause-seen
returns-in-Two-clause-seen c =
    subst (λ (v : Version). IfOk c.followed_by_items.result (λ m. (t : Recording) (rs : List Record) → HasSeen c.args.migration t rs → HasSeen m t (rs ++ records_of v (length t.sites) (length t.funcs) (count_in v c.args.bytes.now) c.args.bytes.now))) (sym c.in-Two.is) c.followed_by_items.ensures.seen
