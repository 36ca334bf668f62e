-- The last element of a list is the first of its reverse.
use Rattle.std.proofs.Common.{◌≡◌, ℕ, zero, suc, max, ◌+◌, ◌-◌, ◌<◌, ◌≤◌, List, [], ◌∷◌, ◌++◌, length, reverse, get_or, set, take, refl, sym, ◌∙◌, ap, arith}
use Rattle.spp_piece.specs.declared.pieces.Frame.{Frame}
use Rattle.spp_piece.specs.Bound.{most_before}
use Rattle.std.proofs.lemmas.List.{reverse-append, take_more, take_all, take-set, length-set, get_or-set_same}

pub reverse_last : {X : Type 0} (xs : List X) (n : ℕ) (d : X) → length xs ≡ n + 1 → reverse xs ≡ get_or xs n d ∷ reverse (take n xs)
reverse_last xs n d h =
    ap reverse (sym (take_all (n + 1) xs (omega arith)) ∙ take_more xs n d (omega arith))
    ∙ reverse-append (take n xs) (get_or xs n d ∷ [])

pub reverse_set_last : {X : Type 0} (xs : List X) (n : ℕ) (y : X) → length xs ≡ n + 1 → reverse (set xs n y) ≡ y ∷ reverse (take n xs)
reverse_set_last xs n y h =
    let l : n < length xs = omega arith in
    reverse_last (set xs n y) n y (length-set xs n y ∙ h)
    ∙ ap (λ z. z ∷ reverse (take n (set xs n y))) (get_or-set_same xs n y y l)
    ∙ ap (λ zs. y ∷ reverse zs) (take-set xs n y)

pub reverse_push : {X : Type 0} (xs : List X) (y : X) → reverse (xs ++ y ∷ []) ≡ y ∷ reverse xs
reverse_push xs y = reverse-append xs (y ∷ [])

pub before_at : (xs : List Frame) (i : ℕ) (d : Frame) → i < length xs → (get_or xs i d).before ≤ most_before xs
before_at [] i d h = omega arith
before_at (x ∷ xs) zero d h = omega arith
before_at (x ∷ xs) (suc i) d h = omega (arith, before_at xs i d (omega arith))

before-append : (xs ys : List Frame) → most_before (xs ++ ys) ≡ max (most_before xs) (most_before ys)
before-append [] ys = omega arith
before-append (x ∷ xs) ys = omega (arith, before-append xs ys)

pub before-reverse : (xs : List Frame) → most_before (reverse xs) ≡ most_before xs
before-reverse [] = refl
before-reverse (x ∷ xs) = ap most_before (reverse-append (x ∷ []) xs) ∙ omega (arith, before-append (reverse xs) (x ∷ []), before-reverse xs)

pub reverse_take : {X : Type 0} (xs : List X) (n : ℕ) (d : X) → 0 < n → n ≤ length xs → reverse (take n xs) ≡ get_or xs (n - 1) d ∷ reverse (take (n - 1) xs)
reverse_take xs n d lt le =
    let m = n - 1 in
    let e : n ≡ m + 1 = omega arith in
    ap (λ n. reverse (take n xs)) e ∙ ap reverse (take_more xs m d (omega arith)) ∙ reverse-append (take m xs) (get_or xs m d ∷ [])
