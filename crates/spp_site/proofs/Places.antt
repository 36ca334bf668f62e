-- The index: it has the place of each row, so each site has one row at most.
use Rattle.std.proofs.Common.{◌≡◌, ℕ, zero, suc, ◌+◌, ◌-◌, ◌≤◌, ◌<◌, arith, refl, sym, ◌∙◌, ap, subst, inl, inr, List, [], ◌∷◌, ◌++◌, length, get_or, set, replicate, length-append}
use Rattle.std.proofs.lemmas.Bool.{cases_lt, cases_eq}
use Rattle.std.proofs.lemmas.List.{get_or-set_same, get_or-set_other, get_or_append_left, get_or_past, length-set}
use Rattle.std.proofs.Math.Seq.{get_or-append_seam, get_or-append_right}
use Rattle.spp_dag.specs.declared.row.Row.{Row}
use Rattle.spp_site.specs.declared.slots.SiteRow.{SiteRow}
use Rattle.spp_site.specs.Slots.{blank, HasNoRow, IsPlaceOf, IsIndexed}
use Rattle.spp_site.proofs.Pigeons.{pigeons}

-- a site has one place at most
pub one_place : (index : List ℕ) (rows : List SiteRow) → IsIndexed index rows → (s j k : ℕ) → IsPlaceOf rows s j → IsPlaceOf rows s k → j ≡ k
one_place index rows h s j k a b =
    let z : j + 1 ≡ k + 1 = sym (h.placed j a.0) ∙ (ap (λ s. get_or index s 0) (a.1 ∙ sym b.1) ∙ h.placed k b.0) in
    omega arith

-- there are no more rows than the index has places
few_rows : (index : List ℕ) (rows : List SiteRow) → IsIndexed index rows → length rows ≤ length index
few_rows index rows h =
    pigeons (length index) (length rows) (λ k. (get_or rows k blank).site) h.inside
    (λ j k a b e. one_place index rows h (get_or rows k blank).site j k (a, e) (b, refl))

-- zeros behind an index change nothing that it says
zeros : (n i : ℕ) → get_or {A = ℕ} (replicate n 0) i 0 ≡ 0
zeros zero i = refl
zeros (suc n) zero = refl
zeros (suc n) (suc i) = zeros n i

pub longer_says : (index : List ℕ) (n site : ℕ) → get_or (index ++ replicate n 0) site 0 ≡ get_or index site 0
longer_says index n site = elim (cases_lt site (length index)) [
  | inl l ↦ get_or_append_left index (replicate n 0) 0 site l
  | inr l ↦ get_or-append_right index (replicate n 0) site 0 l ∙ zeros n (site - length index) ∙ sym (get_or_past index site 0 l)
]

-- a longer index serves
pub grown_indexed : (index grown : List ℕ) (rows : List SiteRow) (n : ℕ) → IsIndexed index rows → grown ≡ index ++ replicate n 0 → length grown ≤ 65536 → IsIndexed grown rows
grown_indexed index grown rows n h e small = record {
  placed = λ k l. ap (λ i. get_or i (get_or rows k blank).site 0) e ∙ (get_or_append_left index (replicate n 0) 0 (get_or rows k blank).site (h.inside k l) ∙ h.placed k l);
  exact = λ s more.
      let same : get_or grown s 0 ≡ get_or index s 0 = ap (λ i. get_or i s 0) e ∙ longer_says index n s in
      subst (λ p. IsPlaceOf rows s (p - 1)) (sym same) (h.exact s (omega arith));
  inside = λ k l.
      let a : (get_or rows k blank).site < length index = h.inside k l in
      let b : length grown ≡ length index + length (replicate {A = ℕ} n 0) = ap length e ∙ length-append index (replicate n 0) in
      omega arith;
  small = small;
}

-- a row of which more is made stays at its place, and all others at theirs
pub site_stays : (rows : List SiteRow) (site k : ℕ) (row : Row) → IsPlaceOf rows site k → (j : ℕ)
    → (get_or (set rows k (record { site = site; row = row })) j blank).site ≡ (get_or rows j blank).site
site_stays rows site k row at j = elim (cases_eq j k) [
  | inl e ↦
      ap (λ j. (get_or (set rows k (record { site = site; row = row })) j blank).site) e
      ∙ (ap (λ r. r.site) (get_or-set_same rows k (record { site = site; row = row }) blank at.0)
      ∙ (sym at.1 ∙ ap (λ j. (get_or rows j blank).site) (sym e)))
  | inr d ↦ ap (λ r. r.site) (get_or-set_other rows k j (record { site = site; row = row }) blank d)
]

pub set_indexed : (index : List ℕ) (rows : List SiteRow) → IsIndexed index rows → (site k : ℕ) (row : Row) → IsPlaceOf rows site k
    → IsIndexed index (set rows k (record { site = site; row = row }))
set_indexed index rows h site k row at =
    let n : length (set rows k (record { site = site; row = row })) ≡ length rows = length-set rows k (record { site = site; row = row }) in
    record {
      placed = λ j l. ap (λ s. get_or index s 0) (site_stays rows site k row at j) ∙ h.placed j (omega (arith, n));
      exact = λ s more. let p = h.exact s more in (omega (arith, n), site_stays rows site k row at (get_or index s 0 - 1) ∙ p.1);
      inside = λ j l. subst (λ s. s < length index) (sym (site_stays rows site k row at j)) (h.inside j (omega (arith, n)));
      small = h.small;
    }

-- a row behind the others
module _ (rows : List SiteRow) (site : ℕ) (row : Row) where
  abbrev pub longer : List SiteRow
  longer = rows ++ record { site = site; row = row } ∷ []

  pub new_length : length longer ≡ suc (length rows)
  new_length = length-append rows (record { site = site; row = row } ∷ []) ∙ (let z : length rows + 1 ≡ suc (length rows) = omega arith in z)

  pub old_site : (k : ℕ) → k < length rows → (get_or longer k blank).site ≡ (get_or rows k blank).site
  old_site k l = ap (λ r. r.site) (get_or_append_left rows (record { site = site; row = row } ∷ []) blank k l)

  pub new_site : (k : ℕ) → k ≡ length rows → (get_or longer k blank).site ≡ site
  new_site k e = ap (λ k. (get_or longer k blank).site) e ∙ ap (λ r. r.site) (get_or-append_seam rows (record { site = site; row = row }) [] blank)

-- a row for a site that has none, at the end
module _ (index : List ℕ) (rows : List SiteRow) (h : IsIndexed index rows) (site : ℕ) (row : Row) (within : site < length index) (free : HasNoRow rows site) where
  pub pushed_indexed : IsIndexed (set index site (length rows + 1)) (longer rows site row)
  pushed_indexed =
      let n : length (set index site (length rows + 1)) ≡ length index = length-set index site (length rows + 1) in
      record {
        placed = λ k l. elim (cases_lt k (length rows)) [
          | inl a ↦
              ap (λ s. get_or (set index site (length rows + 1)) s 0) (old_site rows site row k a)
              ∙ (get_or-set_other index site (get_or rows k blank).site (length rows + 1) 0 (free k a) ∙ h.placed k a)
          | inr a ↦
              let e : k ≡ length rows = omega (arith, new_length rows site row) in
              ap (λ s. get_or (set index site (length rows + 1)) s 0) (new_site rows site row k e) ∙ (get_or-set_same index site (length rows + 1) 0 within ∙ ap (λ n. n + 1) (sym e))
        ];
        exact = λ s more. elim (cases_eq s site) [
          | inl e ↦
              let now : get_or (set index site (length rows + 1)) s 0 ≡ length rows + 1 = ap (λ j. get_or (set index site (length rows + 1)) j 0) e ∙ get_or-set_same index site (length rows + 1) 0 within in
              let last : get_or (set index site (length rows + 1)) s 0 - 1 ≡ length rows = omega arith in
              subst (IsPlaceOf (longer rows site row) s) (sym last) (omega (arith, new_length rows site row), new_site rows site row (length rows) refl ∙ sym e)
          | inr d ↦
              let now : get_or (set index site (length rows + 1)) s 0 ≡ get_or index s 0 = get_or-set_other index site s (length rows + 1) 0 d in
              let p = h.exact s (omega arith) in
              subst (λ n. IsPlaceOf (longer rows site row) s (n - 1)) (sym now) (omega (arith, new_length rows site row), old_site rows site row (get_or index s 0 - 1) p.0 ∙ p.1)
        ];
        inside = λ k l. elim (cases_lt k (length rows)) [
          | inl a ↦ subst (λ s. s < length (set index site (length rows + 1))) (sym (old_site rows site row k a)) (let i = h.inside k a in omega arith)
          | inr a ↦ subst (λ s. s < length (set index site (length rows + 1))) (sym (new_site rows site row k (omega (arith, new_length rows site row)))) (omega arith)
        ];
        small = let i = h.small in omega arith;
      }

  -- so there is room for its number
  pub few_more : length rows < 65536
  few_more =
      let l : length (longer rows site row) ≤ length (set index site (length rows + 1)) = few_rows (set index site (length rows + 1)) (longer rows site row) pushed_indexed in
      let n : length (set index site (length rows + 1)) ≡ length index = length-set index site (length rows + 1) in
      omega (arith, new_length rows site row, h.small)
