-- A row is added: to the row that its site has, or as a new one.
use Rattle.std.proofs.Common.{◌≡◌, ℕ, ◌+◌, ◌<◌, sym, ◌∙◌, ap, subst, List, [], ◌∷◌, ◌++◌, length, get_or, set, nat_eq}
use Rattle.std.proofs.lemmas.List.{get_or_default}
use Rattle.spp_dag.specs.declared.row.Row.{Row}
use Rattle.spp_dag.specs.Shares.{zero_row, plus}
use Rattle.spp_site.specs.declared.slots.SiteRow.{SiteRow}
use Rattle.spp_site.specs.Rows.{Fits}
use Rattle.spp_site.specs.Table.{row_at, IsAdded}
use Rattle.spp_site.specs.Slots.{blank, row_in, stored, HasNoRow, IsPlaceOf, IsIndexed}
use Rattle.spp_site.proofs.Rows.{plus-cond, first_fits}
use Rattle.spp_site.proofs.Stored.{row_at-stored, row_in-none, row_in-place, row_in-part, row_in-set, row_in-push, stored_added}
use Rattle.spp_site.proofs.Places.{one_place, pushed_indexed}

-- the row of a site that has none
pub no_row : (root : Row) (rows : List SiteRow) (site : ℕ) → HasNoRow rows site → row_at (stored root rows) site ≡ zero_row
no_row root rows site h = row_at-stored root rows site ∙ row_in-none rows site h

-- what stands at the place of a row of a site
module _ (rows : List SiteRow) (site k : ℕ) (at : IsPlaceOf rows site k) (found : SiteRow) (is : found ≡ get_or rows k found) where
  pub found_at : found ≡ get_or rows k blank
  found_at = is ∙ get_or_default rows k found blank at.0

  pub found_site : found.site ≡ site
  found_site = ap (λ r. r.site) found_at ∙ at.1

  -- it is a part of the site's row, so that what can be added to that can be added to it
  pub found_fits : (row : Row) → Fits (plus (row_in rows site) row) → Fits (plus found.row row)
  found_fits row fits =
      let part = row_in-part rows k site at in
      subst (λ r. Fits (plus r row)) (ap (λ r. r.row) (sym found_at)) (first_fits (get_or rows k blank).row part.0 row (subst (λ r. Fits (plus r row)) part.1 fits))

  pub summed : (root row sum : Row) → sum ≡ plus found.row row → IsAdded (stored root rows) (stored root (set rows k (record { site = site; row = sum }))) site row
  summed root row sum e =
      stored_added root rows (set rows k (record { site = site; row = sum })) site row
      (λ s. row_in-set rows k site row sum at (e ∙ ap (λ f. plus f.row row) found_at) s ∙ plus-cond (nat_eq s site) (row_in rows s) row)

-- the one row of a site
pub found_row : (root : Row) (index : List ℕ) (rows : List SiteRow) → IsIndexed index rows → (site k : ℕ) → IsPlaceOf rows site k
    → (found : SiteRow) → found ≡ get_or rows k found → found.row ≡ row_at (stored root rows) site
found_row root index rows h site k at found is =
    ap (λ r. r.row) (found_at rows site k at found is)
    ∙ (sym (row_in-place rows k site at (λ j p. one_place index rows h site j k p at)) ∙ sym (row_at-stored root rows site))

-- a new row at the end
pub pushed : (root : Row) (rows longer : List SiteRow) (site : ℕ) (row : Row) → longer ≡ rows ++ record { site = site; row = row } ∷ []
    → IsAdded (stored root rows) (stored root longer) site row
pushed root rows longer site row e =
    stored_added root rows longer site row (λ s. ap (λ r. row_in r s) e ∙ row_in-push rows (record { site = site; row = row }) s)

pub placed : (index : List ℕ) (rows longer : List SiteRow) (site place : ℕ) (row : Row) → IsIndexed index rows → site < length index → HasNoRow rows site
    → place ≡ length rows + 1 → longer ≡ rows ++ record { site = site; row = row } ∷ [] → IsIndexed (set index site place) longer
placed index rows longer site place row h within free last e =
    subst (λ i. IsIndexed i longer) (ap (set index site) (sym last))
    (subst (λ r. IsIndexed (set index site (length rows + 1)) r) (sym e) (pushed_indexed index rows h site row within free))
