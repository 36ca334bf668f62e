-- How the comparison of two runs is put together.
use Rattle.std.proofs.Common.{◌≡◌, ℕ, suc, zero, ◌+◌, ◌<◌, ◌≤◌, List, [], ◌∷◌, ◌++◌, map, filter, length, get_or, take, String, Bool, true, false, refl, sym, ap, ◌∙◌, arith, append_assoc}
use Rattle.std.specs.Prelude.{Option, Some, None, cond, codes, is_none, is_some, not}
use Rattle.std.specs.Map.{lookup}
use Rattle.std.specs.Option.{option_map}
use Rattle.std.specs.List.{AllByRecursion, flat_map, range_with_len}
use Rattle.std.specs.Str.{bytes_eq}
use Rattle.std.specs.String.{string_bytes, string_eq}
use Rattle.std.proofs.lemmas.Bool.{false_from_ne_true}
use Rattle.std.proofs.lemmas.List.{append-nil, flat_map_more, map-append, map_more}
use Rattle.std.proofs.lemmas.List.Concat.{flat_map-append}
use Rattle.std.proofs.lemmas.List.FromFn.{map-range_with_len_more}
use Rattle.std.proofs.lemmas.Slice.Eq.{bytes_eq-Decides}
use Rattle.indexmap.specs.IndexMap.{IndexMap, get, insert_entry}
use Rattle.indexmap.proofs.CallerLemmas.{insert_entry-new}
use Rattle.spp_event.specs.Header.{AreApart}
use Rattle.spp_event.specs.Recordings.{Recording}
use Rattle.spp_site.specs.declared.profile.Profile.{Profile}
use Rattle.spp_report.specs.declared.comparison.CompareRow.{CompareRow}
use Rattle.spp_report.specs.declared.run.Cells.{Cells}
use Rattle.spp_report.specs.Comparison.{ToldRow, both_line, cell_text, compare_line, site_cells}
use Rattle.spp_report.specs.Figures.{line}
use Rattle.spp_report.specs.Plain.{aligned, spaced}
use Rattle.spp_report.specs.Runs.{told_row}
use Rattle.spp_report.proofs.PlainTexts.{line_more}

-- ---- the call sites of a run

-- the name of an entry, with its cells
abbrev pub named_cells : {A : Type 0} → String A × Cells → List ℕ × Cells
named_cells e = (string_bytes e.0, e.1)

-- what is looked up by text among the entries is what is looked up among their names
pub lookup_named : {A : Type 0} (name : List ℕ) (es : List (String A × Cells))
    → lookup (λ k. bytes_eq name (string_bytes k)) es ≡ lookup (bytes_eq name) (map named_cells es)
lookup_named name [] = refl
lookup_named name (e ∷ es) = ap (cond (bytes_eq name (string_bytes e.0)) (Some e.1)) (lookup_named name es)

-- a name that none of these sites has
not_there : (f : ℕ → List ℕ × Cells) (name : List ℕ) (n a : ℕ) → ((i : ℕ) → a ≤ i → i < a + n → name ≡ (f i).0 → ⊥)
    → lookup (bytes_eq name) (map f (range_with_len a n)) ≡ None
not_there f name zero a h = refl
not_there f name (suc n) a h =
    let apart : bytes_eq name (f a).0 ≡ false = false_from_ne_true _ (λ t. h a (omega arith) (omega arith) ((bytes_eq-Decides name (f a).0).0 t)) in
    rw apart (not_there f name n (a + 1) (λ i p q. h i (omega arith) (omega arith)))

-- none of the names is that one
differs : (name : List ℕ) (names : List (List ℕ)) → AllByRecursion (λ n. (name ≡ n) → ⊥) names → (i : ℕ) → i < length names → get_or names i [] ≡ name → ⊥
differs name [] h i p e = absurd (omega arith)
differs name (n ∷ ns) h zero p e = h.0 (sym e)
differs name (n ∷ ns) h (suc i) p e = differs name ns h.1 i (omega arith) e

-- the name of a later site is none of those before it
later : (names : List (List ℕ)) → AreApart names → (i j : ℕ) → i < j → j < length names → get_or names j [] ≡ get_or names i [] → ⊥
later [] h i j p q e = absurd (omega arith)
later (n ∷ ns) h i zero p q e = absurd (omega arith)
later (n ∷ ns) h zero (suc j) p q e = differs n ns h.1 j (omega arith) e
later (n ∷ ns) h (suc i) (suc j) p q e = later ns h.2 i j (omega arith) (omega arith) e

-- one site more
pub site_more : {A S : Type 0} (trace : Recording) (p : Profile) (n : ℕ) (m : IndexMap (String A) Cells S) (new : List (String A × Cells)) (key : String A) (cells : Cells)
    → n < length trace.sites → AreApart trace.sites → map named_cells m.entries ≡ map (site_cells trace p) (range_with_len 0 n)
    → new ≡ insert_entry string_eq m.entries key cells → named_cells (key, cells) ≡ site_cells trace p n
    → map named_cells new ≡ map (site_cells trace p) (range_with_len 0 (n + 1))
site_more trace p n m new key cells h apart sofar put same =
    let f : ℕ → List ℕ × Cells = site_cells trace p in
    let name : string_bytes key ≡ get_or trace.sites n [] = ap (λ (e : List ℕ × Cells). e.0) same in
    let none : get string_eq m key ≡ None =
    lookup_named (string_bytes key) m.entries ∙ ap (lookup (bytes_eq (string_bytes key))) sofar
    ∙ not_there f (string_bytes key) n 0 (λ i a b e. later trace.sites apart i n (omega arith) h (sym name ∙ e)) in
    ap (map named_cells) (put ∙ insert_entry-new string_eq m key cells none) ∙ map-append named_cells m.entries _
    ∙ (λ j. sofar j ++ same j ∷ []) ∙ sym (map-range_with_len_more f 0 n n (omega arith))

-- ---- the rows

-- what is found of a name
pub found_under : {A : Type 0} (name text : List ℕ) (es : List (String A × Cells)) (found : Option Cells)
    → text ≡ name → found ≡ lookup (λ k. bytes_eq text (string_bytes k)) es → found ≡ lookup (bytes_eq name) (map named_cells es)
found_under name text es found e h = h ∙ ap (λ (t : List ℕ). lookup (λ k. bytes_eq t (string_bytes k)) es) e ∙ lookup_named name es

-- whether nothing is found of it
pub none_under : {A : Type 0} (name text : List ℕ) (es : List (String A × Cells)) (has : Bool)
    → text ≡ name → has ≡ is_some (lookup (λ k. bytes_eq text (string_bytes k)) es) → is_none (lookup (bytes_eq name) (map named_cells es)) ≡ not has
none_under name text es has e h =
    ap is_none (sym (found_under name text es (lookup (λ k. bytes_eq text (string_bytes k)) es) e refl)) ∙ ap not (sym h)

-- the first site passes, or it doesn't
pub first_kept : (p : List ℕ × Cells → Bool) (all rest : List (List ℕ × Cells)) (e : List ℕ × Cells) → all ≡ e ∷ rest → p e ≡ true → filter p all ≡ e ∷ filter p rest
first_kept p all rest e at h = ap (filter p) at ∙ rw h refl

pub first_left : (p : List ℕ × Cells → Bool) (all rest : List (List ℕ × Cells)) (e : List ℕ × Cells) → all ≡ e ∷ rest → p e ≡ false → filter p all ≡ filter p rest
first_left p all rest e at h = ap (filter p) at ∙ rw h refl

-- one row more of those to come
pub row_more : (rows new : List CompareRow) (row : CompareRow) (told : ToldRow) (come rest all : List ToldRow)
    → map told_row rows ++ come ≡ all → come ≡ told ∷ rest → new ≡ rows ++ row ∷ [] → told_row row ≡ told → map told_row new ++ rest ≡ all
row_more rows new row told come rest all h at put same =
    rw (put, map-append told_row rows (row ∷ []), append_assoc, same) (rw at at h)

-- ---- the text

-- the cells of both runs in a column
abbrev pub column_text : List (Option ℕ) → List (Option ℕ) → ℕ → List ℕ
column_text before after column = spaced (cell_text (get_or before column None) ∷ cell_text (get_or after column None) ∷ [])

-- one column more
pub column_more : (before after : List (Option ℕ)) (n : ℕ) (old sofar mid new : List ℕ)
    → sofar ≡ old ++ flat_map (column_text before after) (range_with_len 0 n)
    → mid ≡ sofar ++ spaced (cell_text (get_or before n None) ∷ []) → new ≡ mid ++ spaced (cell_text (get_or after n None) ∷ [])
    → new ≡ old ++ flat_map (column_text before after) (range_with_len 0 (n + 1))
column_more before after n old sofar mid new e f g =
    let b = cell_text (get_or before n None) in
    let a = cell_text (get_or after n None) in
    line_more (column_text before after) n old sofar new (spaced (b ∷ []) ++ spaced (a ∷ [])) e
    (sym (flat_map-append (λ (text : List ℕ). aligned text ++ codes " ") (b ∷ []) (a ∷ [])))
    (rw (g, f) (append_assoc sofar (spaced (b ∷ [])) (spaced (a ∷ []))))

-- the four numbers of cells
abbrev pub four : Option Cells → List (Option ℕ)
four c = option_map (λ c. c.count) c ∷ option_map (λ c. c.local) c ∷ option_map (λ c. c.site_work) c ∷ option_map (λ c. c.path_local) c ∷ []

-- all columns, the name, and the end of the line
pub row_shown : (r : ToldRow) (before after : List (Option ℕ)) (n : ℕ) (old sofar new : List ℕ)
    → before ≡ four r.before → after ≡ four r.after → n ≡ 4
    → sofar ≡ old ++ flat_map (column_text before after) (range_with_len 0 n) → new ≡ sofar ++ r.name
    → new ++ codes "\n" ≡ old ++ compare_line r
row_shown r before after n old sofar new b a e f g = rw (g, f, e, b, a) (simp (append_assoc, append-nil))

-- one line more
pub rows_more : (rows : List CompareRow) (i : ℕ) (d : CompareRow) (old sofar new : List ℕ) → i < length rows
    → sofar ≡ old ++ flat_map compare_line (map told_row (take i rows)) → new ≡ sofar ++ compare_line (told_row (get_or rows i d))
    → new ≡ old ++ flat_map compare_line (map told_row (take (i + 1) rows))
rows_more rows i d old sofar new h e f =
    let done = map told_row (take i rows) in
    let more : flat_map compare_line (map told_row (take (i + 1) rows)) ≡ flat_map compare_line done ++ compare_line (told_row (get_or rows i d)) =
    ap (flat_map compare_line) (map_more told_row rows i d h) ∙ sym (flat_map_more compare_line [] done (told_row (get_or rows i d))) in
    rw (f, e, more) (append_assoc old _ _)

-- the figures, an empty line, the columns, and the lines of rows
pub whole_text : (figures heads a b c new : List ℕ) (rows all : List ToldRow)
    → a ≡ figures → b ≡ a ++ codes "\n" → c ≡ b ++ heads → rows ≡ all → new ≡ c ++ flat_map compare_line rows
    → new ≡ figures ++ line [] ++ heads ++ flat_map compare_line all
whole_text figures heads a b c new rows all e f g h i = rw (i, h, g, f, e) refl

-- ---- the figures

both_together : (n o wl w v sl s t bl b c pl p q rl r u : List ℕ)
    → ((wl ++ o) ++ (w ++ (o ++ (v ++ ((n ++ sl ++ o) ++ (s ++ (o ++ (t ++ ((n ++ bl ++ o) ++ (b ++ (o ++ c)))))))))))
    ++ ((n ++ pl ++ o) ++ (p ++ (o ++ (q ++ ((n ++ rl ++ o) ++ (r ++ (o ++ (u ++ n))))))))
    ≡ (wl ++ o ++ w ++ o ++ v ++ n) ++ (sl ++ o ++ s ++ o ++ t ++ n) ++ (bl ++ o ++ b ++ o ++ c ++ n) ++ (pl ++ o ++ p ++ o ++ q ++ n) ++ (rl ++ o ++ r ++ o ++ u ++ n)
both_together n o wl w v sl s t bl b c pl p q rl r u = simp append_assoc refl

-- the five lines, as `format!` puts twelve parts together, and then the others
pub five_of_both : (w v s t b c p q r u : List ℕ)
    → (codes "work " ++ (w ++ (codes " " ++ (v ++ (codes "\nspan " ++ (s ++ (codes " " ++ (t ++ (codes "\nburdened " ++ (b ++ (codes " " ++ c)))))))))))
    ++ (codes "\nparallelism " ++ (p ++ (codes " " ++ (q ++ (codes "\nburdened parallelism " ++ (r ++ (codes " " ++ (u ++ codes "\n"))))))))
    ≡ both_line (codes "work") w v ++ both_line (codes "span") s t ++ both_line (codes "burdened") b c
    ++ both_line (codes "parallelism") p q ++ both_line (codes "burdened parallelism") r u
five_of_both w v s t b c p q r u =
    both_together (codes "\n") (codes " ") (codes "work") w v (codes "span") s t (codes "burdened") b c (codes "parallelism") p q (codes "burdened parallelism") r u
