use Rattle.std.proofs.Common.{◌≡◌, ◌++◌, ℕ, List, length, subst, ap, ◌∙◌, arith}
use Rattle.std.specs.List.{flat_map}
use Rattle.std.proofs.lemmas.List.{take_all}
use Rattle.spp_event.specs.Header.{header_spelling}
use Rattle.spp_event.specs.Migrating.{AreGoodTo, compact, item_in}
use Rattle.spp_event.specs.Recordings.{Record}
use Rattle.spp_event.proofs.MigratedBytes.{is_migrated}
use Rattle.spp_event.proofs.migrating.migrate.Goals as goal

pub returns-clause-bytes : goal.returns-clause-bytes
returns-clause-bytes c =
    let t = c.args.trace.now in
    let e = c.count-at-end.ensures in
    let n = e.count in
    let i = c.loop-at.invariant in
    let end : c.loop-at.at ≡ length t.records = omega arith in
    is_migrated t c.loop-at.bytes.items e.limits e.names e.events (subst (λ (k : ℕ). AreGoodTo t.records k) end i.1)
    (i.2 ∙ ap (λ (rs : List Record). header_spelling (compact t) ++ flat_map item_in rs) (take_all c.loop-at.at t.records (omega arith)))
