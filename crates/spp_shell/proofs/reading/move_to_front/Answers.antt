use Rattle.std.proofs.Common.{◌≡◌, ◌+◌, ◌-◌, ℕ, List, length, take, drop, ap, sym, ◌∙◌, arith}
use lib.Seq.{paste}
use Rattle.std.proofs.lemmas.List.{drop-take, length-drop}
use Rattle.std.proofs.lemmas.List.Edits.{take-paste}
use Rattle.spp_shell.proofs.reading.move_to_front.Goals as goal

pub returns-clause-kept : goal.returns-clause-kept
returns-clause-kept c =
    let from = c.args.from in
    let m = c.args.filled - from in
    let xs : List ℕ = c.args.bytes.now.items in
    let n : length (drop from xs) ≡ length xs - from = length-drop from xs in
    let same : m ≡ 0 + m = omega arith in
    ap (take m) c.copy_within.ensures.items ∙ ap (λ (k : ℕ). take k (paste xs 0 (drop from xs) m)) same ∙ take-paste xs 0 (drop from xs) m (omega arith) (omega (arith, c.requires.end)) ∙ sym (drop-take from m xs)
    ∙ ap (λ (j : ℕ). drop from (take j xs)) (let e : from + m ≡ c.args.filled = omega (arith, c.requires.start) in e)
