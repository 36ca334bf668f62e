use Rattle.std.proofs.Common.{◌+◌, ◌++◌, ℕ, List, length, take, min, refl, sym, ap, ◌∙◌, append_assoc, arith, inl, inr}
use Rattle.std.proofs.lemmas.Str.{IsUtf8-append}
use Rattle.spp_text.specs.declared.fault.TextFault.{TextFault}
use Rattle.spp_text.specs.declared.fault.TextWhy.TheVariants.{Word}
use Rattle.spp_text.specs.TextDrafts.{AreWholeLines, IsFirstFault}
use Rattle.spp_text.specs.Reading.{read_text}
use Rattle.spp_shell.specs.Encode.{end_line}
use Rattle.spp_shell.specs.TextSoFar.{IsForeseenLine}
use Rattle.spp_shell.proofs.Refusals.{line_then}
use Rattle.spp_shell.proofs.TextsApart.{valid_behind, front_of, line_behind}
use Rattle.spp_shell.proofs.text_so_far.TextSoFar.followed_by.Goals as goal
use Rattle.spp_shell.proofs.text_so_far.TextSoFar.followed_by.Goals.{in-Good+in-Err-followed_by, in-Bad}

pub returns-in-Err-clause-refused : goal.returns-in-Err-clause-refused
returns-in-Err-clause-refused c = λ before h ends.
    let bytes = c.args.bytes.now in
    let n = c.valid_up_to.result in
    let valid = rw (sym c.valid_up_to.ensures) at c.in-Err.ensures.cases.1 in
    let short = valid.short in
    line_then _ _ (IsForeseenLine (before ++ bytes)) c.refusal_of_text.ensures (λ told is more behind.
    let number = c.line_behind-line.ensures ∙ line_behind before (take n bytes) c.line-first.result (c.line-first.ensures before h ends) in
    let front = front_of before bytes more n (omega (arith, short)) in (
      (before ++ bytes) ++ more,
      record { line = c.line_behind-line.result; why = Word },
      refl,
      inr (length before + n, valid_behind before bytes more n h.utf8 valid behind, ap (λ (l : ℕ). record { line = l; why = Word }) (number ∙ ap (λ (xs : List ℕ). min (end_line xs) 4294967295) (sym front))),
      is.1,
    ))

pub returns-in-Ok-followed_by-clause-come : goal.returns-in-Ok-followed_by-clause-come
returns-in-Ok-followed_by-clause-come c = λ before h ends.
    let text = c.in-Ok.ensures.cases in
    record {
      utf8 = IsUtf8-append before c.args.bytes.now h.utf8 text.1;
      read = rw (sym text.0) (c.in-Ok-followed_by.ensures.read before (rw c.in-Good.is at h.read) ends);
    }

-- a fault of what came first
still_first : (before bytes : List ℕ) (fault : TextFault) → AreWholeLines before → IsFirstFault before fault → IsFirstFault (before ++ bytes) fault
still_first before bytes fault ends first known more behind = ap read_text (append_assoc before bytes more) ∙ first known (bytes ++ more) (inl ends)

pub returns-in_default-clause-come : goal.returns-in_default-clause-come
returns-in_default-clause-come c = λ before h ends.
    let bytes = c.args.bytes.now in
    let fault = c.match-self-2.fault in
    let text = c.in-Ok.ensures.cases in
    let first : IsFirstFault (before ++ bytes) fault = elim c.match-self-2.branch [
      | in-Good+in-Err-followed_by w ↦ rw (w.fault-is, sym text.0) (w.in-Err-followed_by.ensures.refused before (rw w.in-Good.is at h.read) ends)
      | in-Bad w ↦ let read = rw w.in-Bad.is at h.read in rw w.fault-is (still_first before bytes _ ends read.1)
    ] in
    record {
      utf8 = IsUtf8-append before bytes h.utf8 text.1;
      read = (c.in_default.not-Memory, first, c.line_behind.ensures ∙ line_behind before bytes c.line-first.result (c.line-first.ensures before h ends));
    }
