use Rattle.std.proofs.Common.{◌≡◌, ◌++◌, ◌∷◌, [], ◌<◌, ◌+◌, ◌*◌, ℕ, List, drop, get_or, sym, ap, ◌∙◌, arith}
use Rattle.spp_event.specs.Items.{numbers}
use Rattle.spp_event.proofs.ItemNumbers.{numbers_low, digits_more, take_more, drop_more, too_large, unended, zero_first, too_high}
use Rattle.spp_event.proofs.items.operand_of.Goals as goal
use Rattle.spp_event.proofs.items.operand_of.Goals.{then-n-via-then-n, then-n-via-else-n+then-digit, then-n-via-else-n+else-digit+then-digit-eq0, then-k-eq0, else-k-eq0}

pub returns-then-n-clause-none : goal.returns-then-n-clause-none
returns-then-n-clause-none c none m rest small e = elim c.then-n.branch [
  | then-n-via-then-n w ↦ too_large c.args.bytes.now rest c.loop-k.k c.loop-k.n m c.loop-k.invariant (omega arith) (omega arith) e
  | then-n-via-else-n+then-digit w ↦ too_high c.args.bytes.now rest c.loop-k.k c.loop-k.n m c.loop-k.invariant (omega arith) (omega arith) e
  | then-n-via-else-n+else-digit+then-digit-eq0 w ↦ elim w.if-k-eq0.branch [
    | then-k-eq0 v ↦ zero_first c.args.bytes.now rest c.loop-k.k m (omega arith) (omega arith) e
    | else-k-eq0 v ↦ absurd (omega arith)
  ]
]

pub loop-k-preserved : goal.loop-k-preserved
loop-k-preserved c =
    let bytes = c.args.bytes.now in
    let k = c.loop-k.k in
    let n = c.loop-k.n in
    let d = c.from-digit.result in
    let is : get_or bytes k 0 ≡ d = omega arith in
    let low : d < 64 = omega arith in
    let i = c.loop-k.invariant in
    let positive : 0 < n * 64 + d = elim c.if-k-eq0.branch [ then-k-eq0 w ↦ omega arith | else-k-eq0 w ↦ let h = i.some (omega arith) in omega arith ] in
    record {
      digits = take_more bytes k d (omega arith) is ∙ ap (λ (l : List ℕ). l ++ d ∷ []) i.digits ∙ digits_more n d low positive;
      rest = sym (numbers_low n d (drop (k + 1) bytes) low) ∙ ap (λ (l : List ℕ). numbers n l) (sym (drop_more bytes k d (omega arith) is)) ∙ i.rest;
      some = λ h. positive;
    }

pub returns-clause-none : goal.returns-clause-none
returns-clause-none c none m rest small e = unended c.args.bytes.now rest c.loop-k.k c.loop-k.n m c.loop-k.invariant (omega arith) e
