-- The csv crate's default writer writes the records of the table as they are defined.
use Rattle.std.proofs.Common.{◌≡◌, ℕ, ◌≤◌, ◌<◌, List, [], ◌∷◌, ◌++◌, length, take, get_or, refl, sym, ◌∙◌, ap, subst, arith, inl, inr, true, false}
use Rattle.std.specs.Prelude.{Bool, ◌||◌, nat_eq, nat_le, nat_lt, cond, decimal, zero, suc, ◌/◌, ◌%◌, map}
use Rattle.std.specs.Fmt.{digits, digits_onto, digit_glyph}
use Rattle.std.specs.List.{AllByRecursion, list_all, list_any, flat_map, range_with_len}
use Rattle.std.specs.Io.KnownBytes.{Appends}
use Rattle.std.specs.Prelude.{◌+◌, Result, Option, Ok, Err, IfOk, MatchResult, OnOk, is_ok, ◌≢◌}
use Rattle.csv.specs.declared.writer.QuoteStyle.TheVariants as style
use Rattle.csv.specs.declared.writer.Writer.{Writer}
use Rattle.csv.specs.declared.writer.WriterBuilder.{WriterBuilder}
use Rattle.std.proofs.lemmas.Bool.{cases_Bool, eqb-true, leb-true, ne_eqb}
use Rattle.std.proofs.lemmas.List.{append-nil, flat_map_more, map-id, take_more}
use Rattle.std.proofs.lemmas.List.FromFn.{map-range_with_len_more}
use Rattle.csv.specs.Writing.{default_writer, needs_byte, needs_quotes, escaped, field_text, fields_text, is_blank, row_body, row_text, fields_written, has_written, writer_setup}
use Rattle.spp_report.specs.Csv.{comma, quote, doubled, field, parted, record_text}
use Rattle.spp_report.specs.Appended.{appends_both}
use Rattle.spp_report.specs.CsvWriters.{AwaitsRecord, IsPlain, IsPlainRecord}

or_none : (a b : Bool) → a || b || false || false || false ≡ a || b
or_none true b = refl
or_none false true = refl
or_none false false = refl

-- no byte from 32 on ends a line
same_byte : (b : ℕ) → 32 ≤ b → needs_byte default_writer b ≡ nat_eq b comma || nat_eq b quote
same_byte b h =
    let r : nat_eq b 13 ≡ false = ne_eqb b 13 (λ e. omega (arith, e)) in
    let n : nat_eq b 10 ≡ false = ne_eqb b 10 (λ e. omega (arith, e)) in
    rw (r, n) (or_none (nat_eq b comma) (nat_eq b quote))

same_test : (text : List ℕ) → IsPlain text → needs_quotes default_writer text ≡ list_any (λ b. nat_eq b comma || nat_eq b quote) text
same_test [] h = refl
same_test (b ∷ bs) h = rw (same_byte b h.0, same_test bs h.1) refl

same_escapes : (text : List ℕ) → escaped default_writer text ≡ doubled text
unfolding escaped
same_escapes [] = refl
same_escapes (b ∷ bs) = elim (cases_Bool (nat_eq b quote)) [
  | inl same ↦
      rw same (subst (λ (x : ℕ). quote ∷ x ∷ escaped default_writer bs ≡ quote ∷ quote ∷ doubled bs) (sym (eqb-true b quote same)) (ap (λ (x : List ℕ). quote ∷ quote ∷ x) (same_escapes bs)))
  | inr other ↦ rw other (ap (λ (x : List ℕ). b ∷ x) (same_escapes bs))
]

same_field : (text : List ℕ) → IsPlain text → field_text default_writer text ≡ field text
same_field text h = rw (same_test text h, same_escapes text) refl

same_body : (text : List ℕ) (more : List (List ℕ)) → IsPlain text → AllByRecursion IsPlain more
    → row_body default_writer (text ∷ more) ≡ parted (text ∷ more)
unfolding fields_text
same_body text [] h hs = append-nil _ ∙ same_field text h
same_body text (next ∷ more) h hs = rw (same_field text h) (ap (λ (x : List ℕ). field text ++ comma ∷ x) (same_body next more hs.0 hs.1))

-- a record of two plain fields or more
pub same_record : (fields : List (List ℕ)) → IsPlainRecord fields → row_text default_writer fields ≡ record_text fields
unfolding is_blank
same_record [] h = absurd (omega (arith, h.several))
same_record (text ∷ []) h = absurd (omega (arith, h.several))
same_record (text ∷ next ∷ more) h = ap (λ (x : List ℕ). x ++ 10 ∷ []) (same_body text (next ∷ more) h.plain.0 h.plain.1)

-- a field, and all fields of a record, are plain where a test says so, which computes on literals
pub plain_by_test : (text : List ℕ) → list_all (nat_le 32) text ≡ true → IsPlain text
plain_by_test [] h = tt
plain_by_test (b ∷ bs) h = elim (cases_Bool (nat_le 32 b)) [
  | inl low ↦ (leb-true 32 b low, plain_by_test bs (rw low at h))
  | inr high ↦ cc (rw high at h)
]

pub plain_fields_by_test : (fields : List (List ℕ)) → list_all (list_all (nat_le 32)) fields ≡ true → AllByRecursion IsPlain fields
plain_fields_by_test [] h = tt
plain_fields_by_test (text ∷ more) h = elim (cases_Bool (list_all (nat_le 32) text)) [
  | inl plain ↦ (plain_by_test text plain, plain_fields_by_test more (rw plain at h))
  | inr other ↦ cc (rw other at h)
]

-- the digits of a number
plain_glyph : (d : ℕ) → 32 ≤ digit_glyph false d
plain_glyph d = by (nat_lt d 10)
  where
    by : (small : Bool) → 32 ≤ cond small (48 + d) (87 + d)
    by true = omega arith
    by false = omega arith

plain_onto : (k n : ℕ) (acc : List ℕ) → IsPlain acc → IsPlain (digits_onto k 10 false n acc)
plain_onto zero n acc h = h
plain_onto (suc k) n acc h =
    let more : IsPlain (digit_glyph false (n % 10) ∷ acc) = (plain_glyph (n % 10), h) in
    either (nat_eq (n / 10) 0) _ _ more (plain_onto k (n / 10) (digit_glyph false (n % 10) ∷ acc) more)
  where
    either : (b : Bool) (xs ys : List ℕ) → IsPlain xs → IsPlain ys → IsPlain (cond b xs ys)
    either true xs ys p q = p
    either false xs ys p q = q

pub plain_decimal : (n : ℕ) → IsPlain (decimal n)
unfolding digits
plain_decimal n = plain_onto 64 n [] tt

pub plain_decimals : (ns : List ℕ) → AllByRecursion IsPlain (map decimal ns)
plain_decimals [] = tt
plain_decimals (n ∷ ns) = (plain_decimal n, plain_decimals ns)

-- a record written between two others, whose error is told as another
pub wrote_record : {T E F W : Type 0} (r : Result T E) (s : Result T F) (w : Writer W) (old new : Option (List ℕ)) (fields : List (List ℕ)) (text : List ℕ)
    → is_ok s ≡ is_ok r → AwaitsRecord w → row_text default_writer fields ≡ text
    → OnOk r ((fields_written w ≡ 0) → (has_written w ≡ false) → ((writer_setup w).style ≢ style.NonNumeric) → Appends old new (row_text (writer_setup w) fields))
    → OnOk s (Appends old new text)
wrote_record (Ok x) (Ok y) w old new fields text e at same h =
    let plain : (writer_setup w).style ≢ style.NonNumeric = rw at.setup (λ e. cc e) in
    subst (λ (t : List ℕ). Appends old new t) same (subst (λ (c : WriterBuilder). Appends old new (row_text c fields)) at.setup (h at.fields at.wrote plain))
wrote_record (Ok x) (Err y) w old new fields text e at same h = tt
wrote_record (Err x) (Ok y) w old new fields text e at same h = cc e
wrote_record (Err x) (Err y) w old new fields text e at same h = tt

-- what stands for the numbers up to one more
range_more : (a n j : ℕ) → a + n ≡ j → range_with_len a (n + 1) ≡ range_with_len a n ++ j ∷ []
range_more a n j e = sym (map-id _) ∙ map-range_with_len_more (λ (i : ℕ). i) a n j e ∙ ap (λ (l : List ℕ). l ++ j ∷ []) (map-id _)

pub parts_more : (f : ℕ → List ℕ) (n : ℕ) → flat_map f (range_with_len 0 (n + 1)) ≡ flat_map f (range_with_len 0 n) ++ f n
parts_more f n = ap (flat_map f) (range_more 0 n n (omega arith)) ∙ sym (flat_map_more f [] (range_with_len 0 n) n)

-- one site more, behind those before it
pub one_more : (f : ℕ → List ℕ) (n : ℕ) (a b c : Option (List ℕ)) (text : List ℕ)
    → Appends a b (flat_map f (range_with_len 0 n)) → Appends b c text → text ≡ f n → Appends a c (flat_map f (range_with_len 0 (n + 1)))
one_more f n a b c text before here same =
    subst (λ (t : List ℕ). Appends a c t) (ap (λ (t : List ℕ). flat_map f (range_with_len 0 n) ++ t) same ∙ sym (parts_more f n))
    (appends_both a b c _ text before here)

-- the text of one item of a loop more, behind those before it
pub one_item_more : {X : Type 0} (f : X → List ℕ) (xs : List X) (i : ℕ) (x : X) (a b c : Option (List ℕ)) → i < length xs → x ≡ get_or xs i x
    → Appends a b (flat_map f (take i xs)) → Appends b c (f x) → Appends a c (flat_map f (take (i + 1) xs))
one_item_more f xs i x a b c h is before here =
    let more : flat_map f (take (i + 1) xs) ≡ flat_map f (take i xs) ++ f x =
    ap (flat_map f) (take_more xs i x h) ∙ sym (flat_map_more f [] (take i xs) (get_or xs i x)) ∙ ap (λ y. flat_map f (take i xs) ++ f y) (sym is) in
    rw more (appends_both a b c _ (f x) before here)

-- three parts, one after the other
pub wrote_parts : {T E : Type 0} (r : Result T E) (a b c d : Option (List ℕ)) (xs ys zs : List ℕ)
    → Appends a b xs → Appends b c ys → OnOk r (Appends c d zs) → OnOk r (Appends a d (xs ++ ys ++ zs))
wrote_parts (Ok x) a b c d xs ys zs p q h = appends_both a c d (xs ++ ys) zs (appends_both a b c xs ys p q) h
wrote_parts (Err x) a b c d xs ys zs p q h = tt

-- what was given back, where another error is told in place of its error
pub gave_back : {V E F : Type 0} (r : Result V E) (s : Result V F) (P : V → Type 0) (Q : E → Type 0)
    → is_ok s ≡ is_ok r → MatchResult r (λ x. s ≡ Ok x) Q → IfOk r P → IfOk s P
gave_back (Ok x) s P Q e m h = subst (λ o. IfOk o P) (sym m) h
gave_back (Err x) (Ok y) P Q e m h = cc e
gave_back (Err x) (Err y) P Q e m h = tt

-- a text behind nothing
pub behind_nothing : (here all before pending text : List ℕ) → here ≡ all → all ≡ (before ++ pending) ++ text → before ≡ [] → pending ≡ [] → here ≡ text
behind_nothing here all before pending text e f b p = rw (e, f, b, p) refl
