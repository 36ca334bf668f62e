use Rattle.std.proofs.Common.{◌≡◌, ◌+◌, ℕ, length, min, ap, ◌∙◌, arith}
use Rattle.std.specs.Str.Lines.{lines}
use Rattle.spp_text.proofs.LinesApart.{lines_counted}
use Rattle.spp_shell.specs.Encode.{end_line}
use Rattle.spp_shell.proofs.text_so_far.TextSoFar.line.Goals as goal

pub returns-in-Good : goal.returns-in-Good
returns-in-Good c = λ text h ends.
    let line : length (lines text) + 1 ≡ end_line text = (let feeds = lines_counted text ends in omega (arith, feeds)) in
    c.number.ensures text (rw c.in-Good.is at h.read) ∙ ap (λ (n : ℕ). min n 4294967295) line
