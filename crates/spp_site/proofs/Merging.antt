-- The loop of `merged`: the rows of one table are added to those of another.
use Rattle.std.proofs.Common.{◌≡◌, ℕ, suc, ◌+◌, ◌<◌, cond, refl, arith, sym, ◌∙◌, ap, subst, List, [], ◌∷◌, ◌++◌, length, get_or, take, drop, nat_eq}
use Rattle.std.proofs.lemmas.Bool.{cond-true, eq-eqb}
use Rattle.std.proofs.lemmas.List.{take-append-drop}
use Rattle.std.proofs.Math.Seq.{take-suc, take-length}
use Rattle.spp_dag.specs.Shares.{zero_row, plus}
use Rattle.spp_site.specs.declared.slots.SiteRow.{SiteRow}
use Rattle.spp_site.specs.Rows.{Fits}
use Rattle.spp_site.specs.Table.{Sums, row_at, HasNoZeroRow, IsAdded, IsSum}
use Rattle.spp_site.specs.Slots.{blank, row_in}
use Rattle.spp_site.proofs.Rows.{plus-zero, plus-assoc, plus-cond, part_fits}
use Rattle.spp_site.proofs.Stored.{row_in-append, row_in-push}

-- the first k rows of the right table have been added to those of the left one
pub record IsMerging (left right sum : Sums) (rows : List SiteRow) (k : ℕ) : Type 0 where
  pub right_is : (s : ℕ) → row_at right s ≡ row_in rows s
  pub root : sum.root ≡ plus left.root right.root
  pub sites : (s : ℕ) → row_at sum s ≡ plus (row_at left s) (row_in (take k rows) s)
  pub no_zero_row : HasNoZeroRow sum

pub merging_begin : (left right sum : Sums) (rows : List SiteRow) → ((s : ℕ) → row_at right s ≡ row_in rows s)
    → sum.root ≡ plus left.root right.root → sum.sites ≡ left.sites → HasNoZeroRow sum → IsMerging left right sum rows 0
merging_begin left right sum rows e r s n = record {
  right_is = e;
  root = r;
  sites = λ q. ap (λ m. row_at (record { root = left.root; sites = m }) q) s ∙ sym (plus-zero (row_at left q));
  no_zero_row = n;
}

module _ (left right sum : Sums) (rows : List SiteRow) (k : ℕ) (h : IsMerging left right sum rows k) (inside : k < length rows) (entry : SiteRow) (is : entry ≡ get_or rows k blank) where
  taken : take (suc k) rows ≡ take k rows ++ entry ∷ []
  taken = take-suc rows k blank inside ∙ ap (λ e. take k rows ++ e ∷ []) (sym is)

  taken_row : (s : ℕ) → row_in (take (suc k) rows) s ≡ cond (nat_eq s entry.site) (plus (row_in (take k rows) s) entry.row) (row_in (take k rows) s)
  taken_row s = ap (λ es. row_in es s) taken ∙ row_in-push (take k rows) entry s

  at_entry : row_in (take (suc k) rows) entry.site ≡ plus (row_in (take k rows) entry.site) entry.row
  at_entry = taken_row entry.site ∙ cond-true (nat_eq entry.site entry.site) _ _ (eq-eqb entry.site entry.site refl)

  -- the row of a site, with what is still to come
  whole : row_at right entry.site ≡ plus (plus (row_in (take k rows) entry.site) entry.row) (row_in (drop (suc k) rows) entry.site)
  whole =
      h.right_is entry.site
      ∙ (ap (λ es. row_in es entry.site) (sym (take-append-drop (suc k) rows))
      ∙ (row_in-append (take (suc k) rows) (drop (suc k) rows) entry.site ∙ ap (λ r. plus r (row_in (drop (suc k) rows) entry.site)) at_entry))

  pub merging_fits : ((s : ℕ) → Fits (plus (row_at left s) (row_at right s))) → Fits (plus (row_at sum entry.site) entry.row)
  merging_fits fits =
      subst (λ r. Fits (plus r entry.row)) (sym (h.sites entry.site))
      (part_fits (row_at left entry.site) (row_in (take k rows) entry.site) entry.row (row_in (drop (suc k) rows) entry.site)
      (subst (λ r. Fits (plus (row_at left entry.site) r)) whole (fits entry.site)))

  pub merging_next : (new : Sums) → IsAdded sum new entry.site entry.row → HasNoZeroRow new → IsMerging left right new rows (k + 1)
  merging_next new a n =
      let next : k + 1 ≡ suc k = omega arith in
      subst (λ j. IsMerging left right new rows j) (sym next) (record {
        right_is = h.right_is;
        root = a.root ∙ h.root;
        sites = λ s.
            a.sites s
            ∙ (ap (λ r. cond (nat_eq s entry.site) (plus r entry.row) r) (h.sites s)
            ∙ (sym (plus-cond (nat_eq s entry.site) (plus (row_at left s) (row_in (take k rows) s)) entry.row)
            ∙ (plus-assoc (row_at left s) (row_in (take k rows) s) (cond (nat_eq s entry.site) entry.row zero_row)
            ∙ ap (plus (row_at left s)) (plus-cond (nat_eq s entry.site) (row_in (take k rows) s) entry.row ∙ sym (taken_row s)))));
        no_zero_row = n;
      })

pub merging_end : (left right sum : Sums) (rows : List SiteRow) (k : ℕ) → k ≡ length rows → IsMerging left right sum rows k → IsSum left right sum
merging_end left right sum rows k l h = record {
  root = h.root;
  sites = λ s. h.sites s ∙ ap (plus (row_at left s)) (ap (λ es. row_in es s) (ap (λ j. take j rows) l ∙ take-length rows) ∙ sym (h.right_is s));
}
