use Rattle.std.proofs.Common.{◌≡◌, ◌-◌, ◌++◌, List, ℕ, take, drop, sym, subst, arith, inl}
use Rattle.std.proofs.lemmas.List.{length-take-le, take-take}
use Rattle.spp_text.specs.TextDrafts.{AreWholeLines}
use Rattle.spp_shell.specs.Encode.{IsOneEncodeLine}
use Rattle.spp_shell.specs.TextSoFar.{IsTextSoFar, IsForeseenLine}
use Rattle.spp_shell.proofs.Inputs.{err_again}
use Rattle.spp_shell.proofs.Refusals.{line_then}
use Rattle.spp_text.proofs.LinesApart.{ends_behind}
use Rattle.spp_shell.proofs.TextsApart.{cut_behind}
use Rattle.spp_shell.proofs.encode_task.go_over_block.Goals as goal

pub returns-in_err-so_far-clause-refused : goal.returns-in_err-so_far-clause-refused
returns-in_err-so_far-clause-refused c = λ before h ends.
    let items : List ℕ = c.args.bytes.now.items in
    let came : List ℕ = take c.args.filled items in
    let whole = c.whole_len-whole.result in
    let told = c.in_err-so_far.field-0.0 in
    let here = rw c.deref.ensures.value at c.whole_len-whole.ensures in
    let within = here.within in
    let same = take-take whole c.args.filled items (omega (arith, within, length-take-le c.args.filled items c.requires)) in
    let ends_there : AreWholeLines (before ++ take whole items) = ends_behind before (take whole items) ends (subst AreWholeLines same here.ends) in
    err_again _ told _ c.from_residual.ensures.1
    (line_then told (IsForeseenLine (before ++ take whole items)) (λ line. (more : List ℕ) → IsOneEncodeLine ((before ++ came) ++ more) line) (rw c.deref-2.ensures.value at (c.in_err-so_far.ensures.refused before h ends))
    (λ line is more. subst (λ (l : List ℕ). IsOneEncodeLine l line) (subst (λ (l : List ℕ). (before ++ l) ++ (drop whole came ++ more) ≡ (before ++ came) ++ more) same (cut_behind before came more whole)) (is (drop whole came ++ more) (inl ends_there))))

pub returns-clause-come : goal.returns-clause-come
returns-clause-come c = λ before h ends.
    let items : List ℕ = c.args.bytes.now.items in
    let whole = c.whole_len-whole.result in
    let here = rw c.deref.ensures.value at c.whole_len-whole.ensures in
    let within = here.within in
    let long = length-take-le c.args.filled items c.requires in
    let same = take-take whole c.args.filled items (omega (arith, within, long)) in
    let at : c.args.filled - (c.args.filled - whole) ≡ whole = omega (arith, within, long) in
    subst (λ (n : ℕ). IsTextSoFar c.in_ok-so_far.so_far (before ++ take n items) × AreWholeLines (before ++ take n items)) (sym at)
    (rw c.deref-2.ensures.value at (c.in_ok-so_far.ensures.come before h ends), ends_behind before (take whole items) ends (subst AreWholeLines same here.ends))
