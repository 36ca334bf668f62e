-- A list that is used from its end, and is seen with its last element first.
use Rattle.std.proofs.Common.{◌≡◌, ◌-◌, ◌<◌, List, [], ◌∷◌, ◌++◌, length, reverse, get_or, set, take, sym, ap, subst, ◌∙◌, refl, arith}
use Rattle.std.proofs.lemmas.List.{reverse-reverse, reverse-append, length-reverse, length-append}
use Rattle.std.proofs.lemmas.Grind.{reverse_onto}
use Rattle.std.proofs.Math.Seq.{set-append_seam, get_or-append_seam, take-append_seam}

module _ {A : Type 0} where
  -- the last element of the list, and the others, the last first
  pub record Topped (xs : List A) : Type 0 where
    pub top : A
    pub below : List A
    pub is : reverse xs ≡ top ∷ below
    pub get : (d : A) → get_or xs (length xs - 1) d ≡ top
    pub put : (z : A) → reverse (set xs (length xs - 1) z) ≡ z ∷ below
    pub less : reverse (take (length xs - 1) xs) ≡ below

  -- of a list whose others are told in their order
  ended : (ys : List A) (y : A) → Topped (reverse ys ++ y ∷ [])
  ended ys y =
      let n : length (reverse ys ++ y ∷ []) - 1 ≡ length (reverse ys) = omega (arith, length-append (reverse ys) (y ∷ [])) in
      record {
        top = y;
        below = ys;
        is = reverse-append (reverse ys) (y ∷ []) ∙ ap (λ l. y ∷ l) (reverse-reverse ys);
        get = λ d. ap (λ k. get_or (reverse ys ++ y ∷ []) k d) n ∙ get_or-append_seam (reverse ys) y [] d;
        put = λ z. ap (λ k. reverse (set (reverse ys ++ y ∷ []) k z)) n ∙ ap (λ l. reverse l) (set-append_seam (reverse ys) y [] z)
            ∙ reverse-append (reverse ys) (z ∷ []) ∙ ap (λ l. z ∷ l) (reverse-reverse ys);
        less = ap (λ k. reverse (take k (reverse ys ++ y ∷ []))) n ∙ ap reverse (take-append_seam (reverse ys) (y ∷ [])) ∙ reverse-reverse ys;
      }

  pub topped : (xs : List A) → 0 < length xs → Topped xs
  topped xs lt = go (reverse xs) refl
    where
      go : (ys : List A) → reverse xs ≡ ys → Topped xs
      go [] e = let z : length (reverse xs) ≡ 0 = ap length e in absurd (let s = length-reverse xs in omega arith)
      go (y ∷ ys) e =
          let back : reverse ys ++ y ∷ [] ≡ xs = sym (reverse_onto ys y []) ∙ ap reverse (sym e) ∙ reverse-reverse xs in
          subst Topped back (ended ys y)

-- the last two elements of a list that has two
module _ {A : Type 0} where
  pub record Doubled (xs : List A) : Type 0 where
    pub top : A
    pub next : A
    pub below : List A
    pub is : reverse xs ≡ top ∷ next ∷ below
    pub get : (d : A) → get_or xs (length xs - 1) d ≡ top

  pub doubled : (xs : List A) → 1 < length xs → Doubled xs
  doubled xs lt = by t.top t.below t.is t.get
    where
      t : Topped xs
      t = topped xs (omega arith)

      by : (top : A) (below : List A) → reverse xs ≡ top ∷ below → ((d : A) → get_or xs (length xs - 1) d ≡ top) → Doubled xs
      by top [] e g = absurd (let n = ap (λ (l : List A). length l) e in let m = length-reverse xs in omega arith)
      by top (next ∷ below) e g = record { top = top; next = next; below = below; is = e; get = g }
