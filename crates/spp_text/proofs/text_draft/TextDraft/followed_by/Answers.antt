use Rattle.std.proofs.Common.{◌++◌, length, sym, ◌∙◌, arith}
use Rattle.std.proofs.lemmas.Bool.{eqb-true}
use Rattle.std.proofs.lemmas.List.{nil_from_length}
use Rattle.spp_text.proofs.LineByLine.{why_is, read_from, read_to_next, read_to_fault, all_come}
use Rattle.spp_text.proofs.text_draft.TextDraft.followed_by.Goals as goal

pub loop-rest-init : goal.loop-rest-init
loop-rest-init c = (c.utf8.text, λ before h ends. read_from c.args.self before c.args.text.now h ends)

pub returns-in-Err-clause-refused : goal.returns-in-Err-clause-refused
returns-in-Err-clause-refused c = λ before h ends known more behind.
    let first = c.in-Err.ensures.read in
    read_to_fault (before ++ c.args.text.now) c.loop-rest.rest.now first.1 c.loop-rest.number c.loop-rest.draft first.0 c.in-Err.why (c.loop-rest.invariant.1 before h ends) first.2 (why_is c.in-Err.why _ first.4 known) more behind

pub loop-rest-preserved : goal.loop-rest-preserved
loop-rest-preserved c =
    let first = c.in-Ok.ensures.read in (
      c.in-Ok.ensures.utf8,
      λ before h ends. rw first.5 (read_to_next (before ++ c.args.text.now) c.loop-rest.rest.now first.1 c.loop-rest.number c.saturating_add-number.result c.loop-rest.draft c.add_first.new.draft first.0 (c.loop-rest.invariant.1 before h ends) first.2 first.4 (omega (arith, c.saturating_add-number.ensures))),
    )

pub returns-clause-read : goal.returns-clause-read
returns-clause-read c = λ before h ends.
    all_come _ (before ++ c.args.text.now) c.loop-rest.rest.now (c.loop-rest.invariant.1 before h ends) (nil_from_length c.loop-rest.rest.now (eqb-true (length c.loop-rest.rest.now) 0 (sym c.is_empty.ensures ∙ c.loop-rest-test.false)))
