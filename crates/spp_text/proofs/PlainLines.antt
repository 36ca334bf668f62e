-- Lines of plain bytes at the front of a text, also with blanks in front.
use Rattle.std.proofs.Common.{◌≡◌, ℕ, zero, suc, ◌+◌, ◌-◌, ◌≤◌, ◌<◌, inl, inr, true, false, not, nat_eq, nat_le, Option, Some, None, IfSome, Bor, List, [], ◌∷◌, ◌++◌, length, get_or, drop, filter, refl, sym, ap, subst, ◌∙◌, append_assoc, arith, ◌⊎◌}
use Rattle.std.specs.List.{list_all}
use Rattle.std.specs.Str.Lines.{lines, lines_of_parts, strip_carriage_return}
use Rattle.std.specs.Str.{IsUtf8, IsCharBoundary}
use Rattle.std.proofs.Math.Seq.{take-append_seam, drop-append_seam, get_or-append_seam}
use Rattle.std.proofs.lemmas.Bool.{and_parts, or_cases, leb-true, eqb-true, ne_eqb}
use Rattle.std.proofs.lemmas.List.{length-append}
use Rattle.std.proofs.lemmas.List.Folds.{list_all-append}
use Rattle.std.proofs.lemmas.List.Splits.{slice_split_at, slice_split-cons_yes}
use Rattle.std.proofs.lemmas.Str.{IsCharBoundary-after_ascii}
use Rattle.spp_event.specs.declared.records.Event.{Event}
use Rattle.spp_text.specs.Reading.{is_blank, words, read_words}
use Rattle.spp_text.specs.LineKinds.{is_in_words}
use Rattle.spp_text.specs.Usual.{IsLineEnd, is_plain, IsEventFront, IsEventLine}
use Rattle.spp_text.proofs.LinesInTurn.{is_feed, parts_more}
use Rattle.spp_text.proofs.LineFaults.{line_in_words}

-- ---- a plain line and its end

-- a tab, or a byte that is none of control
plain_byte : (b : ℕ) → is_plain b ≡ true → (b ≡ 9) ⊎ (32 ≤ b)
plain_byte b e = elim (or_cases (nat_eq b 9) (nat_le 32 b) e) [
  | inl tab ↦ inl (eqb-true b 9 tab)
  | inr high ↦ inr (leb-true 32 b high)
]

plain_at : (line : List ℕ) (i d : ℕ) → list_all is_plain line ≡ true → i < length line → (get_or line i d ≡ 9) ⊎ (32 ≤ get_or line i d)
plain_at [] i d e lt = absurd (omega arith)
plain_at (b ∷ bs) zero d e lt = plain_byte b (and_parts (is_plain b) (list_all is_plain bs) e).0
plain_at (b ∷ bs) (suc i) d e lt = plain_at bs i d (and_parts (is_plain b) (list_all is_plain bs) e).1 (omega arith)

no_return : (line : List ℕ) → list_all is_plain line ≡ true → strip_carriage_return line ≡ line
no_return [] e = refl
no_return (b ∷ bs) e = let last = plain_at (b ∷ bs) (length (b ∷ bs) - 1) 0 e (omega arith) in rw (ne_eqb (get_or (b ∷ bs) (length (b ∷ bs) - 1) 0) 13 (λ h. omega arith)) refl

return_gone : (line : List ℕ) → strip_carriage_return (line ++ 13 ∷ []) ≡ line
return_gone line =
    let last : length (line ++ 13 ∷ []) - 1 ≡ length line = omega (arith, length-append line (13 ∷ [])) in
    rw last (rw (get_or-append_seam line 13 [] 0) (take-append_seam line (13 ∷ [])))

feed_line : (line rest : List ℕ) → list_all is_plain line ≡ true → lines (line ++ 10 ∷ rest) ≡ line ∷ lines rest
feed_line line rest e =
    let no_feed = λ (k d : ℕ) (lt : k < length line). let at = plain_at line k d e lt in ne_eqb (get_or line k d) 10 (λ h. omega arith) in
    ap lines_of_parts (slice_split_at is_feed line 10 rest no_feed refl) ∙ parts_more line rest ∙ ap (λ (l : List ℕ). l ∷ lines rest) (no_return line e)

return_line : (line rest : List ℕ) → list_all is_plain line ≡ true → lines ((line ++ 13 ∷ []) ++ 10 ∷ rest) ≡ line ∷ lines rest
return_line line rest e =
    let no_feed = λ (k d : ℕ) (lt : k < length (line ++ 13 ∷ [])). no_feed_before line k d e lt in
    ap lines_of_parts (slice_split_at is_feed (line ++ 13 ∷ []) 10 rest no_feed refl) ∙ parts_more (line ++ 13 ∷ []) rest ∙ ap (λ (l : List ℕ). l ∷ lines rest) (return_gone line)
  where
    no_feed_before : (bs : List ℕ) (k d : ℕ) → list_all is_plain bs ≡ true → k < length (bs ++ 13 ∷ []) → is_feed (get_or (bs ++ 13 ∷ []) k d) ≡ false
    no_feed_before [] zero d h lt = refl
    no_feed_before [] (suc k) d h lt = absurd (omega arith)
    no_feed_before (b ∷ bs) zero d h lt = let at = plain_byte b (and_parts (is_plain b) (list_all is_plain bs) h).0 in ne_eqb b 10 (λ e. omega arith)
    no_feed_before (b ∷ bs) (suc k) d h lt = no_feed_before bs k d (and_parts (is_plain b) (list_all is_plain bs) h).1 (omega arith)

first_plain : (text line end rest : List ℕ) → text ≡ line ++ end → IsLineEnd end rest → list_all is_plain line ≡ true → lines text ≡ line ∷ lines rest
first_plain text line end rest is (inl feed) e = ap lines (is ∙ ap (λ (t : List ℕ). line ++ t) feed) ∙ feed_line line rest e
first_plain text line end rest is (inr both) e =
    ap lines (is ∙ ap (λ (t : List ℕ). line ++ t) both ∙ sym (append_assoc line (13 ∷ []) (10 ∷ rest))) ∙ return_line line rest e

-- what stands before the rest, up to its line feed
feed_before : (text line end rest : List ℕ) → text ≡ line ++ end → IsLineEnd end rest → (front : List ℕ) × (text ≡ front ++ 10 ∷ rest)
feed_before text line end rest is (inl feed) = (line, is ∙ ap (λ (t : List ℕ). line ++ t) feed)
feed_before text line end rest is (inr both) = (line ++ 13 ∷ [], is ∙ ap (λ (t : List ℕ). line ++ t) both ∙ sym (append_assoc line (13 ∷ []) (10 ∷ rest)))

pub event_line : (text rest : List ℕ) (event : Event) → IsEventFront text event rest → IsEventLine text event rest
event_line text rest event f = record {
  line = f.line;
  first = first_plain text f.line f.end rest f.parts f.ends f.plain;
  behind = feed_before text f.line f.end rest f.parts f.ends;
  read = λ s. line_in_words s f.line f.in_words ∙ f.read s;
  fits = f.fits;
}

pub event_line_in : (text : List ℕ) (r : Option (Event × Bor (List ℕ))) → IfSome r (λ x. IsEventFront text x.0 x.1.now) → IfSome r (λ x. IsEventLine text x.0 x.1.now)
event_line_in text None h = h
event_line_in text (Some x) h = event_line text x.1.now x.0 h

-- ---- what follows a line feed

pub what_is_behind : (text front rest : List ℕ) → text ≡ front ++ 10 ∷ rest → drop (length text - length rest) text ≡ rest
what_is_behind text front rest is =
    let split : text ≡ (front ++ 10 ∷ []) ++ rest = is ∙ sym (append_assoc front (10 ∷ []) rest) in
    let at : length text - length rest ≡ length (front ++ 10 ∷ []) = omega (arith, ap length split, length-append (front ++ 10 ∷ []) rest) in
    ap (λ (n : ℕ). drop n text) at ∙ ap (drop (length (front ++ 10 ∷ []))) split ∙ drop-append_seam (front ++ 10 ∷ []) rest

pub behind_is_boundary : (text front rest : List ℕ) → IsUtf8 text → text ≡ front ++ 10 ∷ rest → IsCharBoundary text (length text - length rest)
behind_is_boundary text front rest utf8 is =
    let long = ap length is ∙ length-append front (10 ∷ rest) in
    let feed : get_or text (length front) 0 ≡ 10 = ap (λ (t : List ℕ). get_or t (length front) 0) is ∙ get_or-append_seam front 10 rest 0 in
    subst (IsCharBoundary text) (let at : length front + 1 ≡ length text - length rest = omega (arith, long) in at) (IsCharBoundary-after_ascii text (length front) utf8 (omega (arith, long)) (omega (arith, feed)))

pub shorter_behind : (text front rest : List ℕ) → text ≡ front ++ 10 ∷ rest → length rest < length text
shorter_behind text front rest is = omega (arith, ap length is, length-append front (10 ∷ rest))

-- ---- blanks in front

blank_byte : (b : ℕ) → is_blank b ≡ true → (b ≡ 32) ⊎ (b ≡ 9)
blank_byte b e = elim (or_cases (nat_eq b 32) (nat_eq b 9) e) [
  | inl space ↦ inl (eqb-true b 32 space)
  | inr tab ↦ inr (eqb-true b 9 tab)
]

plain_blanks : (blanks : List ℕ) → list_all is_blank blanks ≡ true → list_all is_plain blanks ≡ true
plain_blanks [] e = refl
plain_blanks (b ∷ bs) e =
    let p = and_parts (is_blank b) (list_all is_blank bs) e in
    elim (blank_byte b p.0) [
      | inl space ↦ rw (space, plain_blanks bs p.1) refl
      | inr tab ↦ rw (tab, plain_blanks bs p.1) refl
    ]

-- they part no words
words_behind : (blanks line : List ℕ) → list_all is_blank blanks ≡ true → words (blanks ++ line) ≡ words line
words_behind [] line e = refl
words_behind (b ∷ bs) line e =
    let p = and_parts (is_blank b) (list_all is_blank bs) e in
    ap (filter (λ (w : List ℕ). not (nat_eq (length w) 0))) (slice_split-cons_yes is_blank b (bs ++ line) p.0) ∙ words_behind bs line p.1

-- and declare nothing
in_words_behind : (blanks line : List ℕ) → list_all is_blank blanks ≡ true → is_in_words line ≡ true → is_in_words (blanks ++ line) ≡ true
in_words_behind [] line e h = h
in_words_behind (b ∷ bs) line e h =
    elim (blank_byte b (and_parts (is_blank b) (list_all is_blank bs) e).0) [
      | inl space ↦ rw space refl
      | inr tab ↦ rw tab refl
    ]

front_behind : (text blanks after rest : List ℕ) (event : Event) → text ≡ blanks ++ after → list_all is_blank blanks ≡ true → IsEventFront after event rest → IsEventFront text event rest
front_behind text blanks after rest event is e f = record {
  line = blanks ++ f.line;
  end = f.end;
  parts = is ∙ ap (λ (t : List ℕ). blanks ++ t) f.parts ∙ sym (append_assoc blanks f.line f.end);
  ends = f.ends;
  plain = list_all-append is_plain blanks f.line ∙ rw (plain_blanks blanks e, f.plain) refl;
  in_words = in_words_behind blanks f.line e f.in_words;
  read = λ s. ap (read_words s) (words_behind blanks f.line e) ∙ f.read s;
  fits = f.fits;
}

pub front_behind_in : (text blanks after : List ℕ) (r : Option (Event × Bor (List ℕ))) → text ≡ blanks ++ after → list_all is_blank blanks ≡ true → IfSome r (λ x. IsEventFront after x.0 x.1.now) → IfSome r (λ x. IsEventFront text x.0 x.1.now)
front_behind_in text blanks after None is e h = h
front_behind_in text blanks after (Some x) is e h = front_behind text blanks after x.1.now x.0 is e h
