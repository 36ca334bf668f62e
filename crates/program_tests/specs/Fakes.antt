-- What the fakes of the tests mean.
use Rattle.std.specs.Prelude.{◌≡◌, ℕ, List, [], ◌++◌}
use Rattle.std.proofs.Common.{sym, ◌∙◌, ap, append_assoc}
use Rattle.std.proofs.lemmas.List.{append-nil}

-- the bytes that a list holds grow by these
abbrev pub Grows : List ℕ → List ℕ → List ℕ → Type 0
Grows old xs new = new ≡ old ++ xs

pub grows_nothing : (a : List ℕ) → Grows a [] a
grows_nothing a = sym (append-nil a)

pub grows_both : (a b c xs ys : List ℕ) → Grows a xs b → Grows b ys c → Grows a (xs ++ ys) c
grows_both a b c xs ys p q = q ∙ ap (λ r. r ++ ys) p ∙ append_assoc a xs ys
