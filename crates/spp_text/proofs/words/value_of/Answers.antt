use Rattle.std.proofs.Common.{◌≡◌, ◌≤◌, ◌+◌, ◌-◌, ◌*◌, get_or, drop, sym, ◌∙◌, arith, inl, inr}
use Rattle.std.proofs.lemmas.Bool.{cases_lt}
use Rattle.spp_text.specs.Reading.{value_from}
use Rattle.spp_text.proofs.Numerals.{value_grows, value_more, digit_at}
use Rattle.spp_text.proofs.words.value_of.Goals as goal

pub returns-in_default : goal.returns-in_default
returns-in_default c =
    let word = c.args.word.now in
    let i = c.loop-b.b-index in
    let d = get_or word i 0 - 48 in
    let over : 18446744073709551616 ≤ c.loop-b.n * 10 = elim (cases_lt (c.loop-b.n * 10) 18446744073709551616) [ inl l ↦ absurd (c.in_default.ensures l) | inr m ↦ m ] in
    let more = value_grows (c.loop-b.n * 10 + d) (drop (i + 1) word) in
    let whole : value_from 0 word ≡ value_from (c.loop-b.n * 10 + d) (drop (i + 1) word) = sym c.loop-b.invariant ∙ value_more c.loop-b.n word i c.loop-b-test.true in
    omega arith

pub returns-in_default-checked_add : goal.returns-in_default-checked_add
returns-in_default-checked_add c =
    let word = c.args.word.now in
    let i = c.loop-b.b-index in
    let d = get_or word i 0 - 48 in
    let digit = digit_at word i c.requires c.loop-b-test.true in
    let byte = c.type_inv.word i in
    let wraps = c.from-digit.ensures in
    let tens = c.in-Some.ensures in
    let over : 18446744073709551616 ≤ c.in-Some.tens + c.from-digit.result = elim (cases_lt (c.in-Some.tens + c.from-digit.result) 18446744073709551616) [ inl l ↦ absurd (c.in_default-checked_add.ensures l) | inr m ↦ m ] in
    let same : c.from-digit.result ≡ d = omega arith in
    let more = value_grows (c.loop-b.n * 10 + d) (drop (i + 1) word) in
    let whole : value_from 0 word ≡ value_from (c.loop-b.n * 10 + d) (drop (i + 1) word) = sym c.loop-b.invariant ∙ value_more c.loop-b.n word i c.loop-b-test.true in
    omega arith
