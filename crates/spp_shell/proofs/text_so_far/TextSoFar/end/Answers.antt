use Rattle.std.proofs.Common.{[], ◌∷◌, refl, inl}
use Rattle.spp_text.specs.Parsed.{IsTextFault}
use Rattle.spp_text.proofs.LineByLine.{fault_of_whole}
use Rattle.spp_shell.specs.Encode.{IsEncodeLine}
use Rattle.spp_shell.proofs.Refusals.{line_then}
use Rattle.spp_shell.proofs.text_so_far.TextSoFar.end.Goals as goal
use Rattle.spp_shell.proofs.text_so_far.TextSoFar.end.Goals.{in-Good+in-Err, in-Bad}

pub returns-clause-line : goal.returns-clause-line
returns-clause-line c = λ all h.
    let fault = c.match-self.fault in
    let first : IsTextFault all fault = elim c.match-self.branch [
      | in-Good+in-Err w ↦ rw w.fault-is (w.in-Err.ensures.refused all (rw w.in-Good.is at h.read))
      | in-Bad w ↦ let read = rw w.in-Bad.is at h.read in rw w.fault-is (fault_of_whole all _ read.1)
    ] in
    line_then _ _ (IsEncodeLine (all ∷ [])) c.refusal_of_text.ensures (λ told is. (all, fault, refl, inl (h.utf8, first is.0), is.1))
