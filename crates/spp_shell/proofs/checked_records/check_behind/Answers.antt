use Rattle.std.proofs.Common.{◌≡◌, ◌+◌, ◌<◌, ◌^◌, ◌++◌, sym, subst}
use Rattle.spp_event.specs.declared.version.Version.{Version}
use Rattle.spp_event.specs.Recordings.{count_in, records_of}
use Rattle.spp_frame.specs.RecordChecks.{HasSeen, seen_by}
use Rattle.spp_shell.proofs.checked_records.check_behind.Goals as goal

pub followed_by-requires : goal.followed_by-requires
followed_by-requires c = subst (λ (v : Version). seen_by c.args.check + count_in v c.args.bytes.now < 2 ^ 32) c.in-One.is c.requires

pub returns-in-One-clause-count : goal.returns-in-One-clause-count
returns-in-One-clause-count c = subst (λ (v : Version). seen_by c.followed_by.result ≡ seen_by c.args.check + count_in v c.args.bytes.now) (sym c.in-One.is) c.followed_by.ensures.count

pub returns-in-One-clause-seen : goal.returns-in-One-clause-seen
returns-in-One-clause-seen c = λ rs seen.
    subst (λ (v : Version). HasSeen c.followed_by.result (rs ++ records_of v c.args.sites c.args.funcs (count_in v c.args.bytes.now) c.args.bytes.now)) (sym c.in-One.is) (c.followed_by.ensures.seen rs seen)

pub followed_by_items-requires : goal.followed_by_items-requires
followed_by_items-requires c = subst (λ (v : Version). seen_by c.args.check + count_in v c.args.bytes.now < 2 ^ 32) c.in-Two.is c.requires

pub returns-in-Two-clause-count : goal.returns-in-Two-clause-count
returns-in-Two-clause-count c = subst (λ (v : Version). seen_by c.followed_by_items.result ≡ seen_by c.args.check + count_in v c.args.bytes.now) (sym c.in-Two.is) c.followed_by_items.ensures.count

pub returns-in-Two-clause-seen : goal.returns-in-Two-clause-seen
returns-in-Two-clause-seen c = λ rs seen.
    subst (λ (v : Version). HasSeen c.followed_by_items.result (rs ++ records_of v c.args.sites c.args.funcs (count_in v c.args.bytes.now) c.args.bytes.now)) (sym c.in-Two.is) (c.followed_by_items.ensures.seen rs seen)
