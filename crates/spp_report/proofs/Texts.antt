-- How texts are put together.
use Rattle.std.proofs.Common.{◌≡◌, ℕ, List, ◌∷◌, ◌++◌, refl}
use Rattle.std.specs.Prelude.{codes}
use Rattle.std.proofs.lemmas.List.{append_assoc}
use Rattle.spp_report.specs.Figures.{line}

pub ratio_parts : (a b c : List ℕ) → a ++ 46 ∷ (b ++ c) ≡ a ++ codes "." ++ b ++ c
ratio_parts a b c = simp append_assoc refl

lines_together : (n wl w sl s bl b pl p ql q : List ℕ)
    → wl ++ (w ++ ((n ++ sl) ++ (s ++ ((n ++ bl) ++ (b ++ ((n ++ pl) ++ (p ++ ((n ++ ql) ++ (q ++ n)))))))))
    ≡ (wl ++ w ++ n) ++ (sl ++ s ++ n) ++ (bl ++ b ++ n) ++ (pl ++ p ++ n) ++ (ql ++ q ++ n)
lines_together n wl w sl s bl b pl p ql q = simp append_assoc refl

pub five_lines : (w s b p q : List ℕ)
    → codes "work " ++ (w ++ (codes "\nspan " ++ (s ++ (codes "\nburdened " ++ (b ++ (codes "\nparallelism " ++ (p ++ (codes "\nburdened parallelism " ++ (q ++ codes "\n")))))))))
    ≡ line (codes "work " ++ w) ++ line (codes "span " ++ s) ++ line (codes "burdened " ++ b) ++ line (codes "parallelism " ++ p) ++ line (codes "burdened parallelism " ++ q)
five_lines w s b p q = lines_together (codes "\n") (codes "work ") w (codes "span ") s (codes "burdened ") b (codes "parallelism ") p (codes "burdened parallelism ") q
