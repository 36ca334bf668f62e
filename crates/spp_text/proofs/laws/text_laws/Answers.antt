use Rattle.spp_text.proofs.TextLaws.{text_names_trace}
use Rattle.spp_text.proofs.TextLines.{text_is_its_lines}
use Rattle.spp_text.proofs.FirstFault.{fault_is_on_its_line}
use Rattle.spp_text.proofs.EventFaults.{end_fault_is_told}
use Rattle.spp_text.proofs.LineFaults.{line_fault_is_told}
use Rattle.spp_text.proofs.laws.text_laws.Goals as goal

pub returns-clause-names : goal.returns-clause-names
returns-clause-names c = text_names_trace

pub returns-clause-lists : goal.returns-clause-lists
returns-clause-lists c = text_is_its_lines

pub returns-clause-least : goal.returns-clause-least
returns-clause-least c = fault_is_on_its_line

pub returns-clause-line : goal.returns-clause-line
returns-clause-line c = line_fault_is_told

pub returns-clause-end : goal.returns-clause-end
returns-clause-end c = end_fault_is_told
