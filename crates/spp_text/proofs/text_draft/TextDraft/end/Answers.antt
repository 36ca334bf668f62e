use Rattle.std.proofs.Common.{ℕ, Some, None, Err, sym, ap, ◌∙◌, []}
use Rattle.spp_text.proofs.LineByLine.{read_to_all, read_to_end, line_reached}
use Rattle.spp_text.proofs.text_draft.TextDraft.end.Goals as goal

pub returns-in-Some-clause-refused : goal.returns-in-Some-clause-refused
returns-in-Some-clause-refused c = λ text h known.
    let self = c.args.self in
    let all = read_to_all self text h in
    read_to_end text self.number self.draft all (Some c.in-Some.why) (sym c.opening_fault.ensures ∙ c.in-Some.is)
    ∙ ap (λ (n : ℕ). Err (record { line = n; why = c.in-Some.why })) (sym all.counted)

pub returns-in-Some-clause-line : goal.returns-in-Some-clause-line
returns-in-Some-clause-line c = λ text h. line_reached text [] c.args.self.number c.args.self.draft (read_to_all c.args.self text h)

pub returns-in-Ok-clause-found : goal.returns-in-Ok-clause-found
returns-in-Ok-clause-found c = λ text h.
    let self = c.args.self in
    (self.draft, read_to_end text self.number self.draft (read_to_all self text h) None (sym c.in_default.ensures), c.in-Ok.ensures)

pub returns-in-Err-clause-line : goal.returns-in-Err-clause-line
returns-in-Err-clause-line c = λ text h. line_reached text [] c.args.self.number c.args.self.draft (read_to_all c.args.self text h)
