use Rattle.std.proofs.Common.{length, refl, ap, ◌∙◌, arith}
use Rattle.std.specs.List.{before_first, after_first}
use Rattle.std.specs.Str.Lines.{lines_of_parts}
use Rattle.std.proofs.lemmas.Bool.{ne_eqb}
use Rattle.std.proofs.lemmas.List.Splits.{slice_split_first, slice_split_none}
use Rattle.std.proofs.lemmas.List.Sums.{fails_before_first}
use Rattle.spp_text.proofs.LinesInTurn.{is_feed, parts_more}
use Rattle.spp_text.proofs.lines.first_line.Goals as goal

pub returns-in-Some-clause-first : goal.returns-in-Some-clause-first
returns-in-Some-clause-first c =
    let text = c.args.text.now in
    let split = c.in-Some.ensures.byte (omega arith) (λ w o h. h) in
    rw (c.without_return.ensures, c.as_bytes.ensures.value, split.0, split.1)
    (ap lines_of_parts (slice_split_first is_feed text 0 split.2) ∙ parts_more (before_first is_feed text) (after_first is_feed text))

pub returns-in-None-clause-first : goal.returns-in-None-clause-first
returns-in-None-clause-first c =
    let text = c.args.text.now in
    let none = c.in-None.ensures.byte (omega arith) (λ w o h. h) in
    rw c.as_bytes-in-None.ensures.value
    (ap lines_of_parts (slice_split_none is_feed text (λ k d lt. fails_before_first is_feed text k d (omega (arith, none))))
    ∙ rw (ne_eqb (length text) 0 (λ e. omega arith)) refl)
