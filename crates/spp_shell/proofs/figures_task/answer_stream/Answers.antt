use Rattle.std.proofs.Common.{[], ◌∷◌, List, ℕ, take, inl, inr, refl, subst, arith}
use Rattle.spp_event.specs.declared.header.HeaderFault.TheVariants.{Trailing}
use Rattle.spp_maxplus.specs.declared.state.Burdens.{Burdens}
use Rattle.spp_dag.specs.Figures.{AreFigures}
use Rattle.spp_frame.specs.Answers.{IsFaultOf}
use Rattle.spp_frame.specs.declared.profile_fault.ProfileFault.{ProfileFault}
use Rattle.spp_shell.specs.Check.{IsCheckLine}
use Rattle.spp_shell.specs.Figured.{IsFigured, figured_by}
use Rattle.spp_shell.proofs.Checks.{events_few, stream_trails}
use Rattle.spp_shell.proofs.Refusals.{line_then}
use Rattle.spp_shell.proofs.StreamFigures.{came, came_is, many, seen, ends, is_seen}
use Rattle.spp_shell.proofs.figures_task.answer_stream.Goals as goal

pub returns-then-trails-clause-line : goal.returns-then-trails-clause-line
returns-then-trails-clause-line g c = λ first header bytes of st.
    let stream = c.args.stream in
    let rest : List ℕ = take stream.filled stream.bytes.items in
    line_then _ _ (IsCheckLine (bytes ∷ [])) c.refusal_of_header.ensures (λ line said. (bytes, refl, inl (Trailing, stream_trails figured_by IsFigured first stream.records stream.head stream.events stream.before header rest bytes st c.requires.cut (c.trails.ensures.more c.if-trails.true), said.1)))

pub end-requires-clause-few : goal.end-requires-clause-few
end-requires-clause-few g c =
    let stream = c.args.stream in
    let q = c.requires.some in
    let rest : List ℕ = take stream.filled stream.bytes.items in
    let fits = c.trails.ensures.few c.if-trails.false in
    let few = events_few stream.events stream.head.count rest fits in
    let m = many q.0 stream.records stream.head stream.events stream.before q.1 rest q.2 q.4 q.3 c.requires.cut fits in
    omega (arith, few, m, q.4.count few)

pub end-requires-clause-seen : goal.end-requires-clause-seen
end-requires-clause-seen g c =
    let stream = c.args.stream in
    let q = c.requires.some in
    (_, seen q.0 stream.records stream.head stream.events stream.before q.1 (take stream.filled stream.bytes.items) q.2 q.4 q.3 c.requires.cut (c.trails.ensures.few c.if-trails.false))

pub returns-in-Ok-clause-text : goal.returns-in-Ok-clause-text
returns-in-Ok-clause-text g c = λ first header bytes of st.
    let stream = c.args.stream in
    let rest : List ℕ = take stream.filled stream.bytes.items in
    let fits = c.trails.ensures.few c.if-trails.false in
    let t = came first stream.records stream.head stream.events stream.before header rest bytes st of c.requires.cut fits in
    let e = ends first stream.records stream.head stream.events stream.before header rest bytes st of c.requires.cut fits in
    let are = subst (λ (b : Burdens). AreFigures t.records b c.in-Ok.figures) (is_seen first stream.records stream.head stream.events stream.before header rest bytes st of c.requires.cut fits).burdens (c.in-Ok.ensures.figures t e) in
    (bytes, refl, (t, c.in-Ok.figures, came_is first stream.records stream.head stream.events stream.before header rest bytes st of c.requires.cut fits, are, c.in_ok-figures_text-in-Ok.ensures))

pub returns-in-Err-Bad-clause-line : goal.returns-in-Err-Bad-clause-line
returns-in-Err-Bad-clause-line g c = λ first header bytes of st.
    let stream = c.args.stream in
    let rest : List ℕ = take stream.filled stream.bytes.items in
    let fits = c.trails.ensures.few c.if-trails.false in
    let t = came first stream.records stream.head stream.events stream.before header rest bytes st of c.requires.cut fits in
    let e = ends first stream.records stream.head stream.events stream.before header rest bytes st of c.requires.cut fits in
    let bad = subst (λ (f : ProfileFault). IsFaultOf t.records f) c.in-Err-Bad.field-0-is (c.in-Err-Bad.ensures.fault t e) in
    line_then _ _ (IsCheckLine (bytes ∷ [])) c.refusal_of_event.ensures (λ line said. (bytes, refl, inr (t, came_is first stream.records stream.head stream.events stream.before header rest bytes st of c.requires.cut fits, (c.in-Err-Bad.fault, bad, said))))
