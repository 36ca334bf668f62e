use Rattle.std.specs.Prelude.{All}
use Rattle.memchr.specs.Find.{Nowhere, Passes, is_byte}
use Rattle.std.proofs.Common.{◌≢◌, ◌+◌, ◌<◌, List, length, drop, refl, sym, arith, ◌≡◌, ◌++◌, ℕ, [], ◌∷◌, take, get_or, ap, ◌∙◌, inr}
use Rattle.std.proofs.lemmas.Bool.{eqb-true}
use Rattle.std.proofs.lemmas.List.{take_more, get_or-drop, get_or_default, length-drop}
use Rattle.spp_shell.proofs.encode_task.whole_len.Goals as goal

pub returns-in-Some-clause-ends : goal.returns-in-Some-clause-ends
returns-in-Some-clause-ends c =
    let bytes = c.args.bytes.now in
    let at = c.in-Some.at in
    let found = c.in-Some.ensures in
    let feed : get_or bytes at 0 ≡ 10 = eqb-true (get_or bytes at 0) 10 found.1 in
    inr (take at bytes, take_more bytes at 0 found.0.high ∙ ap (λ (b : ℕ). take at bytes ++ b ∷ []) feed)

-- no byte from a place on is a line feed
none_from : (bytes : List ℕ) (n : ℕ) → Nowhere (Passes (is_byte 10) bytes) n (length bytes) → All (λ b. b ≢ 10) (drop n bytes)
none_from bytes n none k d lt e =
    let within : n + k < length bytes = omega (arith, lt, length-drop n bytes) in
    let feed : get_or bytes (n + k) 0 ≡ 10 = sym (get_or_default bytes (n + k) d 0 within) ∙ sym (get_or-drop n bytes k d) ∙ e in
    none (n + k) (omega arith) within (rw feed refl)

pub returns-in-Some-clause-last : goal.returns-in-Some-clause-last
returns-in-Some-clause-last c = let found = c.in-Some.ensures in none_from c.args.bytes.now (c.in-Some.at + 1) found.0.after

pub returns-in-None-clause-last : goal.returns-in-None-clause-last
returns-in-None-clause-last c = none_from c.args.bytes.now 0 c.in-None.ensures
