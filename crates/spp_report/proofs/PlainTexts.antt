-- How the report of a run is put together.
use Rattle.std.proofs.Common.{◌≡◌, ℕ, ◌+◌, ◌-◌, ◌≤◌, ◌<◌, List, [], ◌++◌, length, take, drop, map, get_or, refl, sym, ◌∙◌, ap, arith, append_assoc}
use Rattle.std.specs.Prelude.{min, Result, Ok, Err, OnOk, is_ok, if◌then◌else◌, codes, decimal, replicate, slice_index_or}
use Rattle.std.specs.List.{flat_map, range_with_len}
use Rattle.std.proofs.lemmas.Bool.{eq-eqb, ne_eqb}
use Rattle.std.proofs.lemmas.List.{flat_map_more, drop-replicate, take-replicate, take_all, map_more}
use Rattle.spp_event.specs.Recordings.{Recording}
use Rattle.spp_site.specs.Table.{Sums, row_at}
use Rattle.spp_report.specs.Csv.{cells}
use Rattle.spp_report.specs.Figures.{line}
use Rattle.spp_report.specs.Plain.{aligned, spaced, row_line, site_line}
use Rattle.spp_report.proofs.CsvTexts.{parts_more}

-- what stands behind a text, where the last part was put there
pub put_last : {T E : Type 0} (r : Result T E) (old new last wanted : List ℕ)
    → new ≡ (if is_ok r then old ++ last else old) → old ++ last ≡ wanted → OnOk r (new ≡ wanted)
put_last (Ok x) old new last wanted e f = e ∙ f
put_last (Err x) old new last wanted e f = tt

-- the same of a part that a function put there
pub put_more : {T E : Type 0} (r : Result T E) (old new last wanted : List ℕ)
    → OnOk r (new ≡ old ++ last) → old ++ last ≡ wanted → OnOk r (new ≡ wanted)
put_more (Ok x) old new last wanted e f = e ∙ f
put_more (Err x) old new last wanted e f = tt

-- the spaces that a column of twelve places leaves
spaces_left : (n : ℕ) → take {A = ℕ} (12 - min n 12) (drop (min n 12) (replicate 12 32)) ≡ replicate (12 - n) 32
spaces_left n =
    rw (drop-replicate {X = ℕ} (min n 12) 12 32)
    (take-replicate (12 - min n 12) (12 - min n 12) 32 (omega arith) ∙ ap (λ (k : ℕ). replicate k 32) (omega arith))

-- a cell between its spaces
pub cell_parts : (cell : List ℕ) (n : ℕ) (old spaces more : List ℕ) → n ≡ min (length cell) 12
    → spaces ≡ old ++ take {A = ℕ} (12 - n) (drop n (replicate 12 32)) → more ≡ spaces ++ cell
    → more ++ codes " " ≡ old ++ (aligned cell ++ codes " ")
cell_parts cell n old spaces more d e f = rw (f, e, d, spaces_left (length cell)) (simp append_assoc)

-- one cell more
pub cell_more : (ns : List ℕ) (i : ℕ) (old sofar new digits : List ℕ) → i < length ns
    → sofar ≡ old ++ spaced (map decimal (take i ns)) → digits ≡ decimal (get_or ns i 0)
    → new ≡ sofar ++ (aligned digits ++ codes " ") → new ≡ old ++ spaced (map decimal (take (i + 1) ns))
cell_more ns i old sofar new digits h e d f =
    let more : spaced (map decimal (take (i + 1) ns)) ≡ spaced (map decimal (take i ns)) ++ (aligned (decimal (get_or ns i 0)) ++ codes " ") =
    ap spaced (map_more decimal ns i 0 h) ∙ sym (flat_map_more (λ text. aligned text ++ codes " ") [] (map decimal (take i ns)) (decimal (get_or ns i 0))) in
    rw (f, e, d, more) (append_assoc old _ _)

-- all cells, the name, and the end of the line
pub row_parts : (ns ks : List ℕ) (i : ℕ) (old sofar name new : List ℕ) → ns ≡ ks → length ks ≤ i
    → sofar ≡ old ++ spaced (map decimal (take i ns)) → new ≡ sofar ++ name
    → new ++ codes "\n" ≡ old ++ row_line (map decimal ks) name
row_parts ns ks i old sofar name new d h e f = rw (f, e, d, take_all i ks h) (simp append_assoc)

-- a site with frames has a line, and one without has none
pub site_shown : (trace : Recording) (t : Sums) (site : ℕ) → 0 < (row_at t site).count
    → row_line (cells (row_at t site)) (slice_index_or trace.sites site []) ≡ site_line trace t site
site_shown trace t site h = rw (ne_eqb (row_at t site).count 0 (λ e. omega (arith, e))) refl

pub site_hidden : (trace : Recording) (t : Sums) (site : ℕ) → (row_at t site).count ≤ 0 → [] ≡ site_line trace t site
site_hidden trace t site h = rw (eq-eqb (row_at t site).count 0 (omega arith)) refl

-- one line more behind those before it
pub line_more : (f : ℕ → List ℕ) (n : ℕ) (old sofar new line : List ℕ) → sofar ≡ old ++ flat_map f (range_with_len 0 n)
    → line ≡ f n → new ≡ sofar ++ line → new ≡ old ++ flat_map f (range_with_len 0 (n + 1))
line_more f n old sofar new line e d g = rw (g, e, d, parts_more f n) (append_assoc old _ _)

-- an empty line, the title, the columns, the root's line, and the lines of sites
pub table_parts : (old title heads root sites a b d e f : List ℕ)
    → a ≡ old ++ codes "\n" → b ≡ a ++ title → d ≡ b ++ codes "\n" → e ≡ d ++ heads → f ≡ e ++ root
    → f ++ sites ≡ old ++ (line [] ++ line title ++ (heads ++ root ++ sites))
table_parts old title heads root sites a b d e f p q r s t = rw (t, s, r, q, p) (simp append_assoc)
