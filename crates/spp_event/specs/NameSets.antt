-- The texts of a set.
use Rattle.std.specs.Prelude.{ℕ, Bool, List}
use Rattle.std.specs.Ordering.{nat_cmp}
use Rattle.std.specs.Cmp.Lexicographic.{slice_cmp}
use Rattle.std.specs.BTreeSet.{BTreeSet, contains_by}
use denote.Ref.{Bor}

-- whether the text is among those of the set
abbrev pub has : BTreeSet (Bor (List ℕ)) → List ℕ → Bool
has s q = contains_by (λ k. slice_cmp nat_cmp q k.now) s
