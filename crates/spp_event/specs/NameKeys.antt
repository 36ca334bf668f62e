-- Numbers of names, and the texts of a set in which each stands behind its number.
use Rattle.std.specs.Prelude.{ℕ, ◌*◌, ◌^◌, ◌%◌, bit_xor, Bool, List, [], ◌∷◌}
use Rattle.std.specs.Ordering.{nat_cmp, ordering_then}
use Rattle.std.specs.Cmp.Lexicographic.{slice_cmp}
use Rattle.std.specs.BTreeSet.{BTreeSet, contains_by}
use denote.Ref.{Bor}

-- the number that was made so far, with these bytes more
abbrev pub key_on : ℕ → List ℕ → ℕ
key_on key [] = key
key_on key (b ∷ bs) = key_on (bit_xor key b * 1099511628211 % 2 ^ 64) bs

abbrev pub name_key : List ℕ → ℕ
name_key name = key_on 14695981039346656037 name

-- whether the text is among those of the set, behind its number
abbrev pub has_by_key : BTreeSet (ℕ × Bor (List ℕ)) → List ℕ → Bool
has_by_key s q = contains_by (λ k. ordering_then (nat_cmp (name_key q) k.0) (slice_cmp nat_cmp q k.1.now)) s
