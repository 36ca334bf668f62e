-- A text by its lines: what its first line says, and then the rest.
use Rattle.std.proofs.Common.{◌≡◌, ℕ, zero, suc, ◌-◌, ◌<◌, ◌≤◌, Bool, true, false, eqb, None, List, [], ◌∷◌, ◌++◌, length, get_or, Ok, refl, sym, ap, subst, ◌∙◌, append_assoc, append-nil, arith}
use Rattle.std.specs.List.{slice_split, onto_first, flat_map}
use Rattle.std.specs.Int.{is_in_range}
use Rattle.std.specs.Str.Lines.{lines, lines_of_parts, strip_carriage_return}
use Rattle.std.proofs.lemmas.Bool.{and_parts, leb-true, ne_eqb}
use Rattle.std.proofs.lemmas.List.Concat.{flat_map-cons}
use Rattle.std.proofs.lemmas.List.Splits.{slice_split_at, slice_split-cons_yes, slice_split-cons_no}
use Rattle.spp_event.specs.Checks.{is_printable}
use Rattle.spp_text.specs.Reading.{Said, read_line, go_on, read_lines, opening_fault, at_end}

abbrev pub is_feed : ℕ → Bool
is_feed b = eqb b 10

-- what lines the parts between line feeds make, of which there is one at least behind the first
pub parts_more : (x : List ℕ) (text : List ℕ) → lines_of_parts (x ∷ slice_split is_feed text) ≡ strip_carriage_return x ∷ lines text
parts_more x [] = refl
parts_more x (b ∷ bs) = by_first (is_feed b) refl
  where
    by_first : (t : Bool) → is_feed b ≡ t → lines_of_parts (x ∷ slice_split is_feed (b ∷ bs)) ≡ strip_carriage_return x ∷ lines (b ∷ bs)
    by_first true e = rw (slice_split-cons_yes is_feed b bs e) refl
    by_first false e = some_parts (slice_split is_feed bs) (slice_split-cons_no is_feed b bs e)
      where
        some_parts : (ps : List (List ℕ)) → slice_split is_feed (b ∷ bs) ≡ onto_first b ps → lines_of_parts (x ∷ slice_split is_feed (b ∷ bs)) ≡ strip_carriage_return x ∷ lines (b ∷ bs)
        some_parts [] h = rw h refl
        some_parts (p ∷ ps) h = rw h refl

printable_at : (line : List ℕ) (i d : ℕ) → is_printable line ≡ true → i < length line → 32 ≤ get_or line i d
printable_at [] i d e lt = absurd (omega arith)
printable_at (b ∷ bs) zero d e lt = leb-true 32 b (and_parts _ _ (and_parts (is_in_range 32 126 b) (is_printable bs) e).0).0
printable_at (b ∷ bs) (suc i) d e lt = printable_at bs i d (and_parts (is_in_range 32 126 b) (is_printable bs) e).1 (omega arith)

-- a printable line ends with no carriage return
no_return : (line : List ℕ) → is_printable line ≡ true → strip_carriage_return line ≡ line
no_return [] e = refl
no_return (b ∷ bs) e = let last = printable_at (b ∷ bs) (length (b ∷ bs) - 1) 0 e (omega arith) in rw (ne_eqb (get_or (b ∷ bs) (length (b ∷ bs) - 1) 0) 13 (λ h. omega arith)) refl

pub first_line : (line rest : List ℕ) → is_printable line ≡ true → lines (line ++ 10 ∷ rest) ≡ line ∷ lines rest
first_line line rest e =
    let no_feed = λ (k d : ℕ) (lt : k < length line). let low = printable_at line k d e lt in ne_eqb (get_or line k d) 10 (λ h. omega arith) in
    ap lines_of_parts (slice_split_at is_feed line 10 rest no_feed refl) ∙ parts_more line rest ∙ ap (λ (l : List ℕ). l ∷ lines rest) (no_return line e)

-- after all of this has been said, the lines of the text make it that
abbrev pub SaysAfter : Said → List ℕ → Said → Type 0
SaysAfter s text u = (number : ℕ) → read_lines s number (lines text) ≡ Ok u

pub line_says : (s t u : Said) (line rest : List ℕ) → is_printable line ≡ true → read_line s line ≡ Ok t → SaysAfter t rest u → SaysAfter s (line ++ 10 ∷ rest) u
line_says s t u line rest p e h number =
    ap (read_lines s number) (first_line line rest p)
    ∙ ap (λ (r : _). go_on number r (λ t. read_lines t (suc number) (lines rest))) e
    ∙ h (suc number)

pub end_says : (s : Said) → opening_fault s ≡ None → SaysAfter s [] s
end_says s e number = ap (at_end s number) e

-- ---- the lines of a list, one for each element

regrouped : {X : Type 0} (f : X → List ℕ) (x : X) (more : List X) (line rest : List ℕ) → f x ≡ line ++ 10 ∷ [] → flat_map f (x ∷ more) ++ rest ≡ line ++ 10 ∷ (flat_map f more ++ rest)
regrouped f x more line rest e =
    ap (λ (t : List ℕ). t ++ rest) (flat_map-cons f x more ∙ ap (λ (t : List ℕ). t ++ flat_map f more) e ∙ append_assoc line (10 ∷ []) (flat_map f more))
    ∙ append_assoc line (10 ∷ flat_map f more) rest

-- no element is left
pub none_left : {X : Type 0} (state : List X → Said) (done : List X) (rest : List ℕ) (u : Said) → SaysAfter (state (done ++ [])) rest u → SaysAfter (state done) rest u
none_left state done rest u h = subst (λ (xs : List _). SaysAfter (state xs) rest u) (append-nil done) h

-- the line of the next element, and then those of the others
pub next_says : {X : Type 0} (f : X → List ℕ) (state : List X → Said) (done : List X) (x : X) (more : List X) (line rest : List ℕ) (u : Said)
    → f x ≡ line ++ 10 ∷ [] → is_printable line ≡ true → read_line (state done) line ≡ Ok (state (done ++ x ∷ []))
    → (SaysAfter (state ((done ++ x ∷ []) ++ more)) rest u → SaysAfter (state (done ++ x ∷ [])) (flat_map f more ++ rest) u)
    → SaysAfter (state (done ++ x ∷ more)) rest u → SaysAfter (state done) (flat_map f (x ∷ more) ++ rest) u
next_says f state done x more line rest u e p r go h =
    let then : SaysAfter (state ((done ++ x ∷ []) ++ more)) rest u = subst (λ (xs : List _). SaysAfter (state xs) rest u) (sym (append_assoc done (x ∷ []) more)) h in
    subst (λ (t : List ℕ). SaysAfter (state done) t u) (sym (regrouped f x more line rest e)) (line_says (state done) (state (done ++ x ∷ [])) u line (flat_map f more ++ rest) p r (go then))
