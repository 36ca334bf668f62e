use Rattle.std.proofs.Common.{◌≡◌, [], ◌∷◌, ◌++◌, List, ℕ, take, inl, inr, refl, sym, ap, subst, ◌∙◌, arith}
use Rattle.spp_event.specs.declared.header.HeaderFault.TheVariants.{Trailing}
use Rattle.spp_event.specs.Recordings.{Record, records_of}
use Rattle.spp_event.proofs.RecordPlaces.{length-records_of}
use Rattle.spp_frame.specs.Nesting.{IsWellFormed, IsFirstBad, work}
use Rattle.spp_shell.specs.Check.{IsCheckLine, work_text}
use Rattle.spp_shell.specs.Checked.{IsChecked, checked_by}
use Rattle.spp_shell.proofs.Checks.{events_few, stream_trails, stream_traced, stream_ends}
use Rattle.spp_shell.proofs.Refusals.{line_then}
use Rattle.spp_shell.proofs.check_task.answer_stream.Goals as goal

pub returns-then-trails-clause-line : goal.returns-then-trails-clause-line
returns-then-trails-clause-line c = λ first header bytes s f st.
    let stream = c.args.stream in
    let rest : List ℕ = take stream.filled stream.bytes.items in
    line_then _ _ (IsCheckLine (bytes ∷ [])) c.refusal_of_header.ensures (λ line said. (bytes, refl, inl (Trailing, stream_trails checked_by IsChecked first stream.records stream.head stream.events stream.before header rest bytes st c.requires.cut (c.trails.ensures.more c.if-trails.true), said.1)))

pub end-requires : goal.end-requires
end-requires c =
    let stream = c.args.stream in
    let rest : List ℕ = take stream.filled stream.bytes.items in
    let q = c.requires.some in
    let few = events_few stream.events stream.head.count rest (c.trails.ensures.few c.if-trails.false) in
    omega (arith, few, q.5.count few)

pub returns-in-Ok-clause-text : goal.returns-in-Ok-clause-text
returns-in-Ok-clause-text c = λ first header bytes s f st.
    let stream = c.args.stream in
    let head = stream.head in
    let rest : List ℕ = take stream.filled stream.bytes.items in
    let fits = c.trails.ensures.few c.if-trails.false in
    let all = records_of head.version head.sites head.funcs head.count (st.done ++ rest) in
    let t = stream_traced checked_by IsChecked first stream.records stream.head stream.events stream.before header rest bytes st c.requires.cut fits in
    let ends = stream_ends first stream.records stream.head stream.events stream.before header rest bytes st s f c.requires.cut (events_few stream.events head.count rest fits) in
    let told = c.in-Ok.ensures.work all ends (length-records_of head.version head.sites head.funcs head.count (st.done ++ rest)) in
    let good : IsWellFormed t.0.records = subst (λ (rs : List Record). IsWellFormed rs) (sym t.2) told.0 in
    let is : c.in-Ok.work ≡ work t.0.records = told.1 ∙ ap (λ (rs : List Record). work rs) (sym t.2) in
    let text : c.into_bytes.result.items ≡ work_text c.in-Ok.work = rw c.into_bytes.ensures.value c.in_ok-text_of_work-in-Ok.ensures in
    (bytes, refl, (t.0, t.1, good, text ∙ ap work_text is))

pub returns-clause-line : goal.returns-clause-line
returns-clause-line c = λ first header bytes s f st.
    let stream = c.args.stream in
    let head = stream.head in
    let rest : List ℕ = take stream.filled stream.bytes.items in
    let fits = c.trails.ensures.few c.if-trails.false in
    let all = records_of head.version head.sites head.funcs head.count (st.done ++ rest) in
    let t = stream_traced checked_by IsChecked first stream.records stream.head stream.events stream.before header rest bytes st c.requires.cut fits in
    let ends = stream_ends first stream.records stream.head stream.events stream.before header rest bytes st s f c.requires.cut (events_few stream.events head.count rest fits) in
    let told = c.in-Err.ensures.fault all ends (length-records_of head.version head.sites head.funcs head.count (st.done ++ rest)) in
    let bad = subst (λ (rs : List Record). IsFirstBad rs c.in-Err.fault) (sym t.2) told in
    line_then _ _ (IsCheckLine (bytes ∷ [])) c.refusal_of_event.ensures (λ line said. (bytes, refl, inr (t.0, t.1, (c.in-Err.fault, bad, said))))
