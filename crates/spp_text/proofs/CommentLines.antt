-- A line that begins with a number sign says nothing.
use Rattle.std.proofs.Common.{◌≡◌, ℕ, true, List, [], ◌∷◌, codes, Ok, refl}
use Rattle.std.proofs.lemmas.Slice.Eq.{bytes_eq-Decides}
use Rattle.spp_text.specs.Reading.{Said, begins_with, read_line}

comment_read : (s : Said) (rest : List ℕ) → read_line s (35 ∷ rest) ≡ Ok s
unfolding read_line
comment_read s rest = refl

pub comment_line : (s : Said) (line : List ℕ) → begins_with (codes "#") line ≡ true → read_line s line ≡ Ok s
comment_line s [] e = absurd cc
comment_line s (b ∷ bs) e =
    let same : b ∷ [] ≡ 35 ∷ [] = (bytes_eq-Decides (b ∷ []) (codes "#")).0 e in
    let is : b ≡ 35 = cc in
    rw is (comment_read s bs)
