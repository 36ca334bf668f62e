-- A line is refused with the fault that it has.
use Rattle.std.proofs.Common.{◌≡◌, ◌≢◌, ℕ, Bool, true, false, ◌||◌, not, cond, List, [], ◌∷◌, ◌++◌, take, drop, codes, Ok, Err, refl, sym, ap, ◌∙◌, inl, inr}
use Rattle.std.specs.Str.{bytes_eq}
use Rattle.std.proofs.lemmas.List.{take-append-drop}
use Rattle.std.proofs.lemmas.Slice.Eq.{bytes_eq-Decides}
use Rattle.spp_text.specs.declared.fault.TextWhy.{TextWhy}
use Rattle.spp_text.specs.Reading.{Said, begins_with, words, event_in, read_func, read_site, read_root, read_event, read_words, read_line}
use Rattle.spp_text.specs.LineKinds.{is_in_words}
use Rattle.spp_text.specs.LineFaults.{IsLineFault}
use Rattle.spp_text.specs.Laws.{LineFaultIsTold}
use Rattle.spp_text.proofs.NameFaults.{is_false, func_fault, func_refused, site_fault, site_refused, root_fault, root_refused}
use Rattle.spp_text.proofs.EventFaults.{event_fault, event_refused}

-- a line that begins with these five bytes is these and what follows them
in_two : (front line : List ℕ) → bytes_eq (take 5 line) front ≡ true → line ≡ front ++ drop 5 line
in_two front line e =
    let is : take 5 line ≡ front = (bytes_eq-Decides (take 5 line) front).0 e in
    sym (take-append-drop 5 line) ∙ ap (λ (f : List ℕ). f ++ drop 5 line) is

in_words : (func site comment : Bool) → func ≡ false → site ≡ false → comment ≡ false → not (func || site || comment) ≡ true
in_words func site comment a b c = rw (a, b, c) refl

words_fault : (s : Said) (line : List ℕ) (why : TextWhy) → is_in_words line ≡ true → read_words s (words line) ≡ Err why → IsLineFault s line why
words_fault s line why in_them = by_words (words line) refl
  where
    by_words : (ws : List (List ℕ)) → words line ≡ ws → read_words s ws ≡ Err why → IsLineFault s line why
    by_words [] are h = absurd cc
    by_words (word ∷ ws) are h = by_first (bytes_eq word (codes "root")) refl h
      where
        by_first : (root : Bool) → bytes_eq word (codes "root") ≡ root → cond root (read_root s ws) (read_event s (event_in word ws)) ≡ Err why → IsLineFault s line why
        by_first true e h =
            let is : word ≡ codes "root" = (bytes_eq-Decides word (codes "root")).0 e in
            inr (inr (inl (ws, (in_them, are ∙ ap (λ (w : List ℕ). w ∷ ws) is), root_fault s ws why h)))
        by_first false e h = inr (inr (inr (word, ws, (in_them, are), (λ is. let both : true ≡ false = sym ((bytes_eq-Decides word (codes "root")).1 is) ∙ e in absurd cc), event_fault s word ws why h)))

line_fault : (s : Said) (line : List ℕ) (why : TextWhy) → read_line s line ≡ Err why → IsLineFault s line why
unfolding read_line
line_fault s line why = by_kind (begins_with (codes "func ") line) refl (begins_with (codes "site ") line) refl (begins_with (codes "#") line) refl
  where
    by_kind : (func : Bool) → begins_with (codes "func ") line ≡ func → (site : Bool) → begins_with (codes "site ") line ≡ site → (comment : Bool) → begins_with (codes "#") line ≡ comment
        → cond func (read_func s (drop 5 line)) (cond site (read_site s (drop 5 line)) (cond comment (Ok s) (read_words s (words line)))) ≡ Err why → IsLineFault s line why
    by_kind true a site b comment c h = inl (drop 5 line, in_two (codes "func ") line a, func_fault s (drop 5 line) why h)
    by_kind false a true b comment c h = inr (inl (drop 5 line, in_two (codes "site ") line b, site_fault s (drop 5 line) why h))
    by_kind false a false b true c h = absurd cc
    by_kind false a false b false c h =
        words_fault s line why (in_words (begins_with (codes "func ") line) (begins_with (codes "site ") line) (begins_with (codes "#") line) a b c) h

-- ---- and back

by_its_words : {Y : Type 0} (func site comment : Bool) (x y z w : Y) → not (func || site || comment) ≡ true → cond func x (cond site y (cond comment z w)) ≡ w
by_its_words true site comment x y z w e = absurd cc
by_its_words false true comment x y z w e = absurd cc
by_its_words false false true x y z w e = absurd cc
by_its_words false false false x y z w e = refl

pub line_in_words : (s : Said) (line : List ℕ) → is_in_words line ≡ true → read_line s line ≡ read_words s (words line)
unfolding read_line
line_in_words s line e =
    by_its_words (begins_with (codes "func ") line) (begins_with (codes "site ") line) (begins_with (codes "#") line) (read_func s (drop 5 line)) (read_site s (drop 5 line)) (Ok s) (read_words s (words line)) e

other_first : (s : Said) (word : List ℕ) (ws : List (List ℕ)) → word ≢ codes "root" → read_words s (word ∷ ws) ≡ read_event s (event_in word ws)
other_first s word ws n = rw (is_false (bytes_eq word (codes "root")) (λ e. n ((bytes_eq-Decides word (codes "root")).0 e))) refl

line_refused : (s : Said) (line : List ℕ) (why : TextWhy) → IsLineFault s line why → read_line s line ≡ Err why
unfolding read_line
line_refused s line why (inl h) = ap (read_line s) h.1 ∙ func_refused s h.0 why h.2
line_refused s line why (inr (inl h)) = ap (read_line s) h.1 ∙ site_refused s h.0 why h.2
line_refused s line why (inr (inr (inl h))) = line_in_words s line h.1.0 ∙ ap (read_words s) h.1.1 ∙ root_refused s h.0 why h.2
line_refused s line why (inr (inr (inr h))) =
    line_in_words s line h.2.0 ∙ ap (read_words s) h.2.1 ∙ other_first s h.0 h.1 h.3 ∙ event_refused s h.0 h.1 why h.4

pub line_fault_is_told : LineFaultIsTold
line_fault_is_told s line why = (line_fault s line why, line_refused s line why)
