use Rattle.std.proofs.Common.{List, ℕ, take, inl, inr, refl, arith}
use Rattle.spp_event.specs.declared.header.HeaderFault.TheVariants.{Trailing}
use Rattle.spp_shell.specs.Migrate.{IsOneMigrateLine}
use Rattle.spp_shell.specs.Migrated.{AreMigrated, migrated_by}
use Rattle.spp_shell.proofs.Checks.{stream_trails}
use Rattle.spp_shell.proofs.Refusals.{line_then}
use Rattle.spp_shell.proofs.StreamMigrations.{came, came_is, few, claimed, ends}
use Rattle.spp_shell.proofs.migrate_task.answer_stream.Goals as goal

pub returns-then-trails-clause-line : goal.returns-then-trails-clause-line
returns-then-trails-clause-line c = λ first names header bytes begun is st.
    let stream = c.args.stream in
    let rest : List ℕ = take stream.filled stream.bytes.items in
    line_then _ _ (IsOneMigrateLine bytes) c.refusal_of_header.ensures (λ line said. (bytes, refl, inl (Trailing, stream_trails migrated_by AreMigrated first stream.records stream.head stream.events stream.before header rest bytes st c.requires.cut (c.trails.ensures.more c.if-trails.true), said.1)))

pub end-requires : goal.end-requires
end-requires c =
    let stream = c.args.stream in
    let rest : List ℕ = take stream.filled stream.bytes.items in
    let q = c.requires.some in
    let fits = c.trails.ensures.few c.if-trails.false in
    let n = few q.0 stream.records stream.head stream.events stream.before q.2 rest q.3 q.6 q.1 q.4 q.5 c.requires.cut fits in
    let m = claimed q.0 stream.records stream.head stream.events stream.before q.2 rest q.3 q.6 q.1 q.4 q.5 c.requires.cut fits in
    omega (arith, n, m)

pub returns-in-Ok-clause-text : goal.returns-in-Ok-clause-text
returns-in-Ok-clause-text c = λ first names header bytes begun is st.
    let stream = c.args.stream in
    let rest : List ℕ = take stream.filled stream.bytes.items in
    let fits = c.trails.ensures.few c.if-trails.false in
    let t = came first stream.records stream.head stream.events stream.before header rest bytes st names begun is c.requires.cut fits in
    let e = ends first stream.records stream.head stream.events stream.before header rest bytes st names begun is c.requires.cut fits in
    let here = came_is first stream.records stream.head stream.events stream.before header rest bytes st names begun is c.requires.cut fits in
    (bytes, refl, (t, here, c.in-Ok.ensures.good t e, c.in-Ok.ensures.bytes t e))

pub returns-clause-line : goal.returns-clause-line
returns-clause-line c = λ first names header bytes begun is st.
    let stream = c.args.stream in
    let rest : List ℕ = take stream.filled stream.bytes.items in
    let fits = c.trails.ensures.few c.if-trails.false in
    let t = came first stream.records stream.head stream.events stream.before header rest bytes st names begun is c.requires.cut fits in
    let e = ends first stream.records stream.head stream.events stream.before header rest bytes st names begun is c.requires.cut fits in
    let here = came_is first stream.records stream.head stream.events stream.before header rest bytes st names begun is c.requires.cut fits in
    line_then _ _ (IsOneMigrateLine bytes) c.refusal_of_record.ensures (λ line said. (bytes, refl, inr (t, here, (c.in-Err.bad.at, c.in-Err.bad.why, c.in-Err.ensures.fault t e, said))))
