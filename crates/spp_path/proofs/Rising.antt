-- Lists of positions that rise.
use Rattle.std.proofs.Common.{◌≡◌, ℕ, zero, suc, ◌-◌, ◌≤◌, ◌<◌, refl, arith, sym, ap, subst, ◌⊎◌, inl, inr, List, [], ◌∷◌, ◌++◌, length, reverse, get_or, Some}
use Rattle.std.specs.Prelude.{Contains}
use Rattle.std.proofs.lemmas.Bool.{cases_lt}
use Rattle.std.proofs.lemmas.List.{reverse-append, reverse-reverse}
use Rattle.std.proofs.lemmas.List.Elements.{Contains-append_left, Contains-append_right, Contains-append_cases}
use Rattle.std.proofs.lemmas.Option.{slice_get_within, get_or_from_slice_get}
use Rattle.spp_dag.specs.ChoiceLists.{AreRising}
use Rattle.spp_path.specs.Settling.{last}

-- ---- what is in a list

pub contains_here : (x : ℕ) (xs : List ℕ) → Contains (x ∷ xs) x
contains_here x xs = (0, (let z : 0 < length (x ∷ xs) = omega arith in z), refl)

pub contains_there : (x y : ℕ) (xs : List ℕ) → Contains xs y → Contains (x ∷ xs) y
contains_there x y xs c = (suc c.0, (let z = c.1 in omega arith), c.2)

pub contains_cases : (x y : ℕ) (xs : List ℕ) → Contains (x ∷ xs) y → (x ≡ y) ⊎ Contains xs y
contains_cases x y xs (zero, l, e) = inl e
contains_cases x y xs (suc k, l, e) = inr (k, (let z : suc k < length (x ∷ xs) = l in omega arith), e)

pub contains_none : (y : ℕ) → Contains [] y → ⊥
contains_none y c = (let z : c.0 < 0 = c.1 in omega arith)

pub contains_reverse : (xs : List ℕ) (y : ℕ) → Contains xs y → Contains (reverse xs) y
contains_reverse [] y c = absurd (contains_none y c)
contains_reverse (x ∷ xs) y c =
    subst (λ l. Contains l y) (sym (reverse-append (x ∷ []) xs))
    (elim (contains_cases x y xs c) [
      | inl e ↦ Contains-append_right (reverse xs) (x ∷ []) y (subst (λ z. Contains (x ∷ []) z) e (contains_here x []))
      | inr d ↦ Contains-append_left (reverse xs) (x ∷ []) y (contains_reverse xs y d)
    ])

pub contains_reversed : (xs : List ℕ) (y : ℕ) → Contains (reverse xs) y → Contains xs y
contains_reversed xs y c = subst (λ l. Contains l y) (reverse-reverse xs) (contains_reverse (reverse xs) y c)

-- ---- lists that rise

-- the first lies below each later one
pub rises_next : (x : ℕ) (xs : List ℕ) (j : ℕ) → AreRising (x ∷ xs) → j < length xs → x < get_or xs j 0
rises_next x [] j r l = absurd (omega arith)
rises_next x (y ∷ ys) zero r l = r.0
rises_next x (y ∷ ys) (suc j) r l = let z = rises_next y ys j r.1 (omega arith) in let w = r.0 in omega arith

pub rest_rises : (x : ℕ) (xs : List ℕ) → AreRising (x ∷ xs) → AreRising xs
rest_rises x [] r = tt
rest_rises x (y ∷ ys) r = r.1

-- and so does each
pub rises : (xs : List ℕ) (i j : ℕ) → AreRising xs → i < j → j < length xs → get_or xs i 0 < get_or xs j 0
rises [] i j r a l = absurd (omega arith)
rises (x ∷ xs) i zero r a l = absurd (omega arith)
rises (x ∷ xs) zero (suc j) r a l = rises_next x xs j r (omega arith)
rises (x ∷ xs) (suc i) (suc j) r a l = rises xs i j (rest_rises x xs r) (omega arith) (omega arith)

pub first_least : (x : ℕ) (xs : List ℕ) → AreRising (x ∷ xs) → (y : ℕ) → Contains xs y → x < y
first_least x (z ∷ zs) r y (zero, l, e) = let w : z ≡ y = e in let v : x < z = r.0 in omega arith
first_least x (z ∷ zs) r y (suc k, l, e) =
    let w = first_least z zs r.1 y (k, (let v : suc k < length (z ∷ zs) = l in omega arith), e) in
    let v : x < z = r.0 in
    omega arith
first_least x [] r y (k, l, e) = absurd (let v : k < 0 = l in omega arith)

-- one more in front
pub rising_front : (x : ℕ) (xs : List ℕ) → AreRising xs → ((y : ℕ) → Contains xs y → x < y) → AreRising (x ∷ xs)
rising_front x [] r h = tt
rising_front x (z ∷ zs) r h = (h z (contains_here z zs), r)

-- two lists, of which the one lies below the other
pub rising_both : (xs ys : List ℕ) → AreRising xs → AreRising ys → ((x y : ℕ) → Contains xs x → Contains ys y → x < y) → AreRising (xs ++ ys)
rising_both [] ys a b h = b
rising_both (x ∷ xs) ys a b h =
    rising_front x (xs ++ ys) (rising_both xs ys (rest_rises x xs a) b (λ u v c d. h u v (contains_there x u xs c) d))
    (λ y c. elim (Contains-append_cases xs ys y c) [
      | inl d ↦ first_least x xs a y d
      | inr d ↦ h x y (contains_here x xs) d
    ])

pub rising_right : (xs ys : List ℕ) → AreRising (xs ++ ys) → AreRising ys
rising_right [] ys r = r
rising_right (x ∷ xs) ys r = rising_right xs ys (rest_rises x (xs ++ ys) r)

pub rising_left : (xs ys : List ℕ) → AreRising (xs ++ ys) → AreRising xs
rising_left [] ys r = tt
rising_left (x ∷ xs) ys r =
    rising_front x xs (rising_left xs ys (rest_rises x (xs ++ ys) r)) (λ y c. first_least x (xs ++ ys) r y (Contains-append_left xs ys y c))

pub rising_parts : (xs ys : List ℕ) → AreRising (xs ++ ys) → (x y : ℕ) → Contains xs x → Contains ys y → x < y
rising_parts [] ys r x y c d = absurd (contains_none x c)
rising_parts (z ∷ zs) ys r x y c d = elim (contains_cases z x zs c) [
  | inl e ↦ subst (λ k. k < y) e (first_least z (zs ++ ys) r y (Contains-append_right zs ys y d))
  | inr e ↦ rising_parts zs ys (rest_rises z (zs ++ ys) r) x y e d
]

-- the last lies above all others
pub below_last : (xs : List ℕ) (l : ℕ) → AreRising xs → last xs ≡ Some l → (x : ℕ) → Contains xs x → x ≤ l
below_last xs l r e x c =
    let w = slice_get_within xs (length xs - 1) l e in
    let at : get_or xs (length xs - 1) 0 ≡ l = get_or_from_slice_get xs (length xs - 1) l 0 e in
    let is : get_or xs c.0 x ≡ x = c.2 in
    elim (cases_lt c.0 (length xs - 1)) [
      | inl a ↦ (let z = rises xs c.0 (length xs - 1) r a w in let v = same xs c.0 x c.1 in omega (arith, is, at))
      | inr a ↦
          let q : c.0 ≡ length xs - 1 = (let z = c.1 in omega arith) in
          let v = same xs c.0 x c.1 in
          let u : get_or xs c.0 0 ≡ get_or xs (length xs - 1) 0 = ap (λ k. get_or xs k 0) q in
          omega (arith, is, at, u, v)
    ]
  where
    same : (ys : List ℕ) (k y : ℕ) → k < length ys → get_or ys k y ≡ get_or ys k 0
    same [] k y l = absurd (omega arith)
    same (z ∷ zs) zero y l = refl
    same (z ∷ zs) (suc k) y l = same zs k y (omega arith)
