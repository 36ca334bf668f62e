use Rattle.std.proofs.Common.{◌++◌, codes, decimal, refl}
use Rattle.spp_event.specs.Texts.{header_fault_text}
use Rattle.spp_text.specs.FaultTexts.{text_why_text}
use Rattle.spp_explain.proofs.line.read_bad.Goals as goal

pub returns-in_err-behind-clause-header : goal.returns-in_err-behind-clause-header
returns-in_err-behind-clause-header c = λ f told is. absurd (c.in_default.ensures.none refl (header_fault_text f) is)

pub returns-in_err-behind-clause-text : goal.returns-in_err-behind-clause-text
returns-in_err-behind-clause-text c = λ f told is. absurd (c.in_err-behind.ensures.none refl (decimal f.line ++ codes ": " ++ text_why_text f.why) is)
