use Rattle.spp_text.proofs.PlainLines.{event_line, event_line_in}
use Rattle.spp_text.proofs.usual.event_line.Goals as goal

pub returns : goal.returns
returns c = event_line c.args.text.now c.in-Some.rest.now c.in-Some.event c.in-Some.ensures

pub returns-in_default : goal.returns-in_default
returns-in_default c = event_line_in c.args.text.now c.indented_front.result c.indented_front.ensures
