use Rattle.std.proofs.Common.{◌≡◌}
use Rattle.spp_shell.specs.Encode.{text_line}
use Rattle.spp_shell.proofs.Refusals.{line_made, line_then}
use Rattle.spp_shell.proofs.text_so_far.refusal_of_text.Goals as goal

pub returns-in_default : goal.returns-in_default
returns-in_default c = line_then _ (λ line. line ≡ text_line c.args.fault) _ (line_made _ _ _ c.of_line.ensures c.line_of_text.ensures) (λ line is. (c.in_default.not-Memory, is))
