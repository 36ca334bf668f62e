-- The hints: at a site the place of one of its rows, if any.
use Rattle.std.proofs.Common.{◌≡◌, ℕ, suc, ◌-◌, ◌≤◌, ◌<◌, arith, refl, sym, ◌∙◌, ap, subst, inl, inr, List, [], ◌∷◌, ◌++◌, length, get_or, set, replicate}
use Rattle.std.proofs.lemmas.Bool.{cases_lt, cases_eq}
use Rattle.std.proofs.lemmas.List.{get_or-set_same, get_or-set_other, length-set}
use Rattle.spp_dag.specs.declared.row.Row.{Row}
use Rattle.spp_dag.specs.Shares.{plus}
use Rattle.spp_site.specs.declared.slots.SiteRow.{SiteRow}
use Rattle.spp_site.specs.Rows.{Fits}
use Rattle.spp_site.specs.Table.{Sums, row_at}
use Rattle.spp_site.specs.Slots.{blank, row_in, stored, IsPlaceOf, AreOfSites, IsHinted}
use Rattle.spp_site.proofs.Stored.{row_at-stored}
use Rattle.spp_site.proofs.Places.{longer_says, site_stays, new_length, old_site, new_site}

-- no hints serve all rows
pub no_hints : (rows : List SiteRow) → AreOfSites rows → IsHinted [] rows
no_hints rows sites = record {
  exact = λ s more. absurd (let l : 0 < 0 = more in omega arith);
  sites = sites;
  small = omega arith;
}

-- more hints serve
pub grown_hinted : (hints grown : List ℕ) (rows : List SiteRow) (n : ℕ) → IsHinted hints rows → grown ≡ hints ++ replicate n 0 → length grown ≤ 65536 → IsHinted grown rows
grown_hinted hints grown rows n h e small = record {
  exact = λ s more.
      let same : get_or grown s 0 ≡ get_or hints s 0 = ap (λ i. get_or i s 0) e ∙ longer_says hints n s in
      subst (λ p. IsPlaceOf rows s (p - 1)) (sym same) (h.exact s (omega arith));
  sites = h.sites;
  small = small;
}

-- the same where the rows were told once more
pub roomy_hinted : (hints grown : List ℕ) (rows again : List SiteRow) → IsHinted hints rows → (n : ℕ) × (grown ≡ hints ++ replicate n 0) → length grown ≤ 65536 → again ≡ rows → IsHinted grown again
roomy_hinted hints grown rows again h e small same = subst (λ r. IsHinted grown r) (sym same) (grown_hinted hints grown rows e.0 h e.1 small)

-- the rows of two shares, as they are stored, fit where what contracts see of them does
pub stored_fit : (here there : Sums) (root other_root : Row) (rows again others told : List SiteRow) → stored root rows ≡ here → stored other_root others ≡ there → again ≡ rows → told ≡ others
    → ((s : ℕ) → Fits (plus (row_at here s) (row_at there s))) → (s : ℕ) → Fits (plus (row_in again s) (row_in told s))
stored_fit here there root other_root rows again others told a b same other fits s =
    let left : row_at here s ≡ row_in again s = sym (ap (λ t. row_at t s) a) ∙ row_at-stored root rows s ∙ ap (λ (r : List SiteRow). row_in r s) (sym same) in
    let right : row_at there s ≡ row_in told s = sym (ap (λ t. row_at t s) b) ∙ row_at-stored other_root others s ∙ ap (λ (r : List SiteRow). row_in r s) (sym other) in
    subst (λ r. Fits (plus (row_in again s) r)) right (subst (λ r. Fits (plus r (row_at there s))) left (fits s))

-- a row of which more is made, at its place
pub set_hinted : (hints : List ℕ) (rows : List SiteRow) → IsHinted hints rows → (site k : ℕ) (row : Row) → IsPlaceOf rows site k
    → IsHinted hints (set rows k (record { site = site; row = row }))
set_hinted hints rows h site k row at =
    let n : length (set rows k (record { site = site; row = row })) ≡ length rows = length-set rows k (record { site = site; row = row }) in
    record {
      exact = λ s more. let p = h.exact s more in (omega (arith, n), site_stays rows site k row at (get_or hints s 0 - 1) ∙ p.1);
      sites = λ j l. subst (λ s. s < 65536) (sym (site_stays rows site k row at j)) (h.sites j (omega (arith, n)));
      small = h.small;
    }

-- a row behind the others
module _ (hints : List ℕ) (rows longer : List SiteRow) (h : IsHinted hints rows) (site : ℕ) (row : Row) (limit : site < 65536) (is : longer ≡ rows ++ record { site = site; row = row } ∷ []) where
  count : length longer ≡ suc (length rows)
  count = ap length is ∙ new_length rows site row

  old : (k : ℕ) → k < length rows → (get_or longer k blank).site ≡ (get_or rows k blank).site
  old k l = ap (λ (r : List SiteRow). (get_or r k blank).site) is ∙ old_site rows site row k l

  new : (k : ℕ) → k ≡ length rows → (get_or longer k blank).site ≡ site
  new k e = ap (λ (r : List SiteRow). (get_or r k blank).site) is ∙ new_site rows site row k e

  kept : (s : ℕ) → 0 < get_or hints s 0 → IsPlaceOf longer s (get_or hints s 0 - 1)
  kept s more =
      let p = h.exact s more in
      (omega (arith, count), old (get_or hints s 0 - 1) p.0 ∙ p.1)

  all_sites : AreOfSites longer
  all_sites k l = elim (cases_lt k (length rows)) [
    | inl a ↦ subst (λ s. s < 65536) (sym (old k a)) (h.sites k a)
    | inr a ↦ subst (λ s. s < 65536) (sym (new k (omega (arith, count)))) limit
  ]

  -- of which no hint tells
  pub pushed_hinted : IsHinted hints longer
  pushed_hinted = record { exact = kept; sites = all_sites; small = h.small }

  -- of which one tells
  pub told_hinted : (place : ℕ) → place ≡ length longer → site < length hints → IsHinted (set hints site place) longer
  told_hinted place e within = record {
    exact = λ s more. elim (cases_eq s site) [
      | inl q ↦
          let now : get_or (set hints site place) s 0 ≡ place = ap (λ j. get_or (set hints site place) j 0) q ∙ get_or-set_same hints site place 0 within in
          let last : get_or (set hints site place) s 0 - 1 ≡ length rows = omega (arith, count) in
          subst (IsPlaceOf longer s) (sym last) (omega (arith, count), new (length rows) refl ∙ sym q)
      | inr d ↦
          let now : get_or (set hints site place) s 0 ≡ get_or hints s 0 = get_or-set_other hints site s place 0 d in
          subst (λ n. IsPlaceOf longer s (n - 1)) (sym now) (kept s (omega arith))
    ];
    sites = all_sites;
    small = let n : length (set hints site place) ≡ length hints = length-set hints site place in let m = h.small in omega arith;
  }
