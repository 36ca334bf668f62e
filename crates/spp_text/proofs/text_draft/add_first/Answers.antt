use Rattle.std.proofs.Common.{ap, sym, ◌∙◌}
use Rattle.std.specs.Str.Lines.{lines}
use Rattle.spp_text.proofs.PlainLines.{behind_is_boundary, what_is_behind, shorter_behind}
use Rattle.spp_text.proofs.text_draft.add_first.Goals as goal

pub range_from-requires : goal.range_from-requires
range_from-requires c some =
    let behind = c.in-Some.ensures.behind in
    behind_is_boundary c.args.text.now behind.0 c.in-Some.rest.now c.utf8.text (sym c.as_bytes-bytes.ensures.value ∙ behind.1)

pub returns-in-Some-clause-read : goal.returns-in-Some-clause-read
returns-in-Some-clause-read c =
    let text = c.args.text.now in
    let rest = c.in-Some.rest.now in
    let line = c.in-Some.ensures in
    let same = sym c.as_bytes-bytes.ensures.value in (
      line.line,
      rest,
      ap lines same ∙ line.first,
      shorter_behind text line.behind.0 rest (same ∙ line.behind.1),
      line.read c.args.draft.now ∙ c.in_ok-add_read.ensures.said,
      c.range_from.ensures.value ∙ what_is_behind text line.behind.0 rest (same ∙ line.behind.1),
    )
