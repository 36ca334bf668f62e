use Rattle.std.proofs.Common.{append_assoc}
use Rattle.spp_shell.proofs.text_so_far.line_of_text.Goals as goal

pub returns : goal.returns
returns c = simp append_assoc c.format.ensures.ok
