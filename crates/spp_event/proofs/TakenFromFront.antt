-- What the checks take from the front is spelled so.
use Rattle.std.proofs.Common.{◌≡◌, ℕ, zero, suc, ◌+◌, ◌≤◌, ◌<◌, Bool, true, false, cond, eqb, ltb, leb, ◌||◌, List, [], ◌∷◌, ◌++◌, length, get_or, take, drop, Result, Ok, Err, refl, sym, ap, subst, ◌∙◌, append_assoc, arith, inl, inr}
use Rattle.std.specs.List.{list_any, flat_map, AllByRecursion}
use Rattle.std.specs.Int.{w16, to_be_bytes, is_in_range, IsInRange}
use Rattle.std.specs.Str.{bytes_eq}
use Rattle.std.proofs.lemmas.Bool.{cases_lt, ltb-false, leb-true, eqb-false, and_parts, or_parts}
use Rattle.std.proofs.lemmas.List.{append-nil, take-append-drop, length-take, get_or-drop, get_or-take, get_or_past}
use Rattle.std.proofs.lemmas.List.Concat.{flat_map-cons}
use Rattle.std.proofs.lemmas.Nat.{be_bytes_2}
use Rattle.std.proofs.lemmas.Slice.Eq.{bytes_eq-Decides}
use Rattle.spp_event.specs.declared.header.HeaderFault.{HeaderFault}
use Rattle.spp_event.specs.declared.header.HeaderFault.TheVariants.{Short, Name, SameName}
use Rattle.spp_event.specs.Header.{name_spelling, IsName, AreApart, name_len, root_name}
use Rattle.spp_event.specs.Checks.{◌>>=◌, is_printable, name_at, funcs_at, sites_at, is_taken}

abbrev pub IsBytes : List ℕ → Type 0
IsBytes bytes = (i : ℕ) → get_or bytes i 0 < 256

pub IsBytes-drop : (n : ℕ) (bytes : List ℕ) → IsBytes bytes → IsBytes (drop n bytes)
IsBytes-drop n bytes h i = rw get_or-drop (h (n + i))

pub IsBytes-take : (n : ℕ) (bytes : List ℕ) → IsBytes bytes → IsBytes (take n bytes)
IsBytes-take n bytes h i =
    elim (cases_lt i n) [
      | inl lt ↦ rw (get_or-take n bytes i 0 lt) (h i)
      | inr le ↦ rw (get_or_past (take n bytes) i 0 (omega (arith, length-take n bytes))) (omega arith)
    ]

pub bind_ok : {A B : Type 0} (r : Result A HeaderFault) (f : A → Result B HeaderFault) (y : B) → (r >>= f) ≡ Ok y → (x : A) × (r ≡ Ok x) × (f x ≡ Ok y)
bind_ok (Ok x) f y e = (x, refl, e)
bind_ok (Err d) f y e = absurd cc

-- a check that did not fail
pub guard_ok : {A : Type 0} (b : Bool) (d : HeaderFault) (x : Result A HeaderFault) (y : A) → cond b (Err d) x ≡ Ok y → (b ≡ false) × (x ≡ Ok y)
guard_ok true d x y e = absurd cc
guard_ok false d x y e = (refl, e)

pub else_ok : {A : Type 0} (b : Bool) (d : HeaderFault) (x : Result A HeaderFault) (y : A) → cond b x (Err d) ≡ Ok y → (b ≡ true) × (x ≡ Ok y)
else_ok true d x y e = (refl, e)
else_ok false d x y e = absurd cc

abbrev done : {A : Type 0} → A → Result A HeaderFault
done x = Ok x

pub ok_is : {A : Type 0} (x y : A) → done x ≡ done y → x ≡ y
ok_is x y e = cc

-- what was taken from the front
pub record Takes (bytes text rest : List ℕ) : Type 0 where
  pub parts : bytes ≡ text ++ rest
  pub rest_fits : IsBytes rest

pub Takes-then : (a x b y c : List ℕ) → Takes a x b → Takes b y c → Takes a (x ++ y) c
Takes-then a x b y c p q = record { parts = p.parts ∙ ap (λ (t : List ℕ). x ++ t) q.parts ∙ sym (append_assoc x y c); rest_fits = q.rest_fits }

pub printable : (xs : List ℕ) → is_printable xs ≡ true → AllByRecursion (IsInRange 32 126) xs
printable [] e = tt
printable (x ∷ xs) e =
    let a = and_parts (is_in_range 32 126 x) (is_printable xs) e in
    let b = and_parts (leb 32 x) (leb x 126) a.0 in
    ((leb-true 32 x b.0, leb-true x 126 b.1), printable xs a.1)

pub name_takes : (number : ℕ) (bytes : List ℕ) (x : List ℕ × List ℕ) → IsBytes bytes → name_at number bytes ≡ Ok x → Takes bytes (name_spelling x.0) x.1 × IsName x.0
unfolding name_at
name_takes number bytes x fits e =
    let n = name_len bytes in
    let rest = drop 2 bytes in
    let a = guard_ok (ltb (length bytes) 2) Short _ x e in
    let b = guard_ok (eqb (name_len bytes) 0 || ltb 200 (name_len bytes)) (Name number) _ x a.1 in
    let c = guard_ok (ltb (length (drop 2 bytes)) (name_len bytes)) Short _ x b.1 in
    let d = else_ok (is_printable (take (name_len bytes) (drop 2 bytes))) (Name number) _ x c.1 in
    let long : 2 ≤ length bytes = ltb-false _ _ a.0 in
    let parts = or_parts (eqb (name_len bytes) 0) (ltb 200 (name_len bytes)) b.0 in
    let pos : name_len bytes ≡ 0 → ⊥ = eqb-false (name_len bytes) 0 parts.0 in
    let most : name_len bytes ≤ 200 = ltb-false 200 (name_len bytes) parts.1 in
    let room : name_len bytes ≤ length (drop 2 bytes) = ltb-false (length (drop 2 bytes)) (name_len bytes) c.0 in
    let len : length (take (name_len bytes) (drop 2 bytes)) ≡ name_len bytes = omega (arith, length-take (name_len bytes) (drop 2 bytes)) in
    let front : to_be_bytes w16 (name_len bytes) ≡ take 2 bytes = be_bytes_2 (take 2 bytes) (name_len bytes) (omega (arith, length-take 2 bytes)) (IsBytes-take 2 bytes fits) refl in
    let one : Takes bytes (take 2 bytes) (drop 2 bytes) = record { parts = sym (take-append-drop 2 bytes); rest_fits = IsBytes-drop 2 bytes fits } in
    let two : Takes (drop 2 bytes) (take (name_len bytes) (drop 2 bytes)) (drop (name_len bytes) (drop 2 bytes)) = record { parts = sym (take-append-drop (name_len bytes) (drop 2 bytes)); rest_fits = IsBytes-drop (name_len bytes) (drop 2 bytes) (IsBytes-drop 2 bytes fits) } in
    let both = Takes-then bytes (take 2 bytes) (drop 2 bytes) (take (name_len bytes) (drop 2 bytes)) (drop (name_len bytes) (drop 2 bytes)) one two in
    let spelled : take 2 bytes ++ take (name_len bytes) (drop 2 bytes) ≡ name_spelling (take (name_len bytes) (drop 2 bytes)) = ap (λ (l : List ℕ). l ++ take (name_len bytes) (drop 2 bytes)) (sym front) ∙ ap (λ (k : ℕ). to_be_bytes w16 k ++ take (name_len bytes) (drop 2 bytes)) (sym len) in
    let whole : Takes bytes (name_spelling (take (name_len bytes) (drop 2 bytes))) (drop (name_len bytes) (drop 2 bytes)) = subst (λ (l : List ℕ). Takes bytes l (drop (name_len bytes) (drop 2 bytes))) spelled both in
    let is_name : IsName (take (name_len bytes) (drop 2 bytes)) = (omega arith, omega arith, printable (take (name_len bytes) (drop 2 bytes)) d.0) in
    subst (λ (y : List ℕ × List ℕ). Takes bytes (name_spelling y.0) y.1 × IsName y.0) (ok_is (take (name_len bytes) (drop 2 bytes), drop (name_len bytes) (drop 2 bytes)) x d.1) (whole, is_name)

-- the names that were read, after those that were there
pub record Read (names : List (List ℕ)) (n : ℕ) (bytes : List ℕ) (x : List (List ℕ) × List ℕ) : Type 0 where
  pub new : List (List ℕ)
  pub all : x.0 ≡ names ++ new
  pub count : length new ≡ n
  pub good : AllByRecursion IsName new
  pub taken : Takes bytes (flat_map name_spelling new) x.1

read_none : (names : List (List ℕ)) (bytes : List ℕ) → IsBytes bytes → Read names 0 bytes (names, bytes)
read_none names bytes fits = record { new = []; all = sym (append-nil names); count = refl; good = tt; taken = record { parts = refl; rest_fits = fits } }

read_one : (names : List (List ℕ)) (n : ℕ) (bytes name rest : List ℕ) (x : List (List ℕ) × List ℕ) → Takes bytes (name_spelling name) rest → IsName name → Read (names ++ name ∷ []) n rest x → Read names (suc n) bytes x
read_one names n bytes name rest x t g r = record {
  new = name ∷ r.new;
  all = r.all ∙ append_assoc names (name ∷ []) r.new;
  count = ap suc r.count;
  good = (g, r.good);
  taken = rw flat_map-cons (Takes-then bytes (name_spelling name) rest (flat_map name_spelling r.new) x.1 t r.taken);
}

pub funcs_take : (n : ℕ) (names : List (List ℕ)) (bytes : List ℕ) (x : List (List ℕ) × List ℕ) → IsBytes bytes → funcs_at n names bytes ≡ Ok x → Read names n bytes x
unfolding funcs_at
funcs_take zero names bytes x fits e = subst (λ (y : List (List ℕ) × List ℕ). Read names 0 bytes y) (ok_is (names, bytes) x e) (read_none names bytes fits)
funcs_take (suc n) names bytes x fits e =
    let a = bind_ok (name_at (length names) bytes) (λ name. funcs_at n (names ++ name.0 ∷ []) name.1) x e in
    let t = name_takes (length names) bytes a.0 fits a.1 in
    read_one names n bytes a.0.0 a.0.1 x t.0 t.1 (funcs_take n (names ++ a.0.0 ∷ []) a.0.1 x t.0.rest_fits a.2)

pub differ : (p q : List ℕ) → bytes_eq p q ≡ false → p ≡ q → ⊥
differ p q f s = let t : bytes_eq p q ≡ true = (bytes_eq-Decides p q).1 s in let both : true ≡ false = sym t ∙ f in absurd cc

pub all_more : {X : Type 0} (P : X → Type 0) (xs : List X) (x : X) → AllByRecursion P xs → P x → AllByRecursion P (xs ++ x ∷ [])
all_more P [] x h p = (p, tt)
all_more P (y ∷ ys) x h p = (h.0, all_more P ys x h.1 p)

pub apart_more : (ns : List (List ℕ)) (name : List ℕ) → AreApart ns → bytes_eq name root_name ≡ false → list_any (λ k. bytes_eq name k) ns ≡ false → AreApart (ns ++ name ∷ [])
apart_more [] name h r l = (differ name root_name r, tt, tt)
apart_more (k ∷ ns) name h r l =
    let p = or_parts (bytes_eq name k) (list_any (λ j. bytes_eq name j) ns) l in
    (h.0, all_more (λ m. (k ≡ m) → ⊥) ns name h.1 (λ s. differ name k p.0 (sym s)), apart_more ns name h.2 r p.1)

pub sites_take : (n first : ℕ) (names : List (List ℕ)) (bytes : List ℕ) (x : List (List ℕ) × List ℕ) → IsBytes bytes → AreApart names → sites_at n first names bytes ≡ Ok x → Read names n bytes x × AreApart x.0
unfolding sites_at
sites_take zero first names bytes x fits apart e = subst (λ (y : List (List ℕ) × List ℕ). Read names 0 bytes y × AreApart y.0) (ok_is (names, bytes) x e) (read_none names bytes fits, apart)
sites_take (suc n) first names bytes x fits apart e =
    let a = bind_ok (name_at (first + length names) bytes) (λ name. cond (is_taken names name.0) (Err (SameName (first + length names))) (sites_at n first (names ++ name.0 ∷ []) name.1)) x e in
    let g = guard_ok (is_taken names a.0.0) (SameName (first + length names)) (sites_at n first (names ++ a.0.0 ∷ []) a.0.1) x a.2 in
    let t = name_takes (first + length names) bytes a.0 fits a.1 in
    let free = or_parts (bytes_eq a.0.0 root_name) (list_any (λ n. bytes_eq a.0.0 n) names) g.0 in
    let r = sites_take n first (names ++ a.0.0 ∷ []) a.0.1 x t.0.rest_fits (apart_more names a.0.0 apart free.0 free.1) g.1 in
    (read_one names n bytes a.0.0 a.0.1 x t.0 t.1 r.0, r.1)
