-- What contracts see of the rows that are stored.
use Rattle.std.proofs.Common.{◌≡◌, ℕ, zero, suc, Bool, true, false, cond, refl, arith, sym, ◌∙◌, ap, ap₂, subst, ◌⊎◌, inl, inr, List, [], ◌∷◌, ◌++◌, get_or, set, Option, Some, None, nat_eq, unwrap_or}
use Rattle.std.proofs.lemmas.Bool.{cases_eq, both_ways, cond-true, cond-false, eq-eqb, ne_eqb}
use Rattle.std.specs.Ordering.{nat_cmp, eq_by_cmp}
use Rattle.std.specs.Cmp.{unsigned_tied, nat_cmp_total}
use Rattle.std.specs.FinMap.{get-insert, get-empty, same_map, nat_cmp-IsAntisymmetric}
use Rattle.std.specs.FinMap as map
use Rattle.spp_dag.specs.declared.row.Row.{Row}
use Rattle.spp_dag.specs.Shares.{zero_row, plus}
use Rattle.spp_site.specs.declared.slots.SiteRow.{SiteRow}
use Rattle.spp_site.specs.Rows.{is_zero}
use Rattle.spp_site.specs.Table.{row_at, HasNoZeroRow, IsAdded}
use Rattle.spp_site.specs.Slots.{blank, row_in, sites_of, stored, HasNoRow, IsPlaceOf}
use Rattle.spp_site.specs.Laws.{RowsMakeTable}
use Rattle.spp_site.proofs.Rows.{is_zero-true, plus-zero, zero-plus, plus-assoc, plus-swap, plus-over, plus-cond, zero_part}

-- ---- the map

-- a row as a map has it
abbrev pub kept : Row → Option Row
kept r = cond (is_zero r) None (Some r)

kept-row : (r : Row) → unwrap_or (kept r) zero_row ≡ r
kept-row r = go (is_zero r) refl
  where
    go : (b : Bool) → is_zero r ≡ b → unwrap_or (cond (is_zero r) None (Some r)) zero_row ≡ r
    go true e = ap (λ b. unwrap_or (cond b None (Some r)) zero_row) e ∙ sym (is_zero-true r e)
    go false e = ap (λ b. unwrap_or (cond b None (Some r)) zero_row) e

kept_no_zero : (r : Row) → kept r ≡ Some zero_row → ⊥
kept_no_zero r h = go (is_zero r) refl
  where
    go : (b : Bool) → is_zero r ≡ b → ⊥
    go true e = let q = sym (ap (λ b. cond b None (Some r)) e) ∙ h in cc
    go false e =
        let q = sym (ap (λ b. cond b None (Some r)) e) ∙ h in
        let z : r ≡ zero_row = cc in
        both_ways (is_zero r) e (ap is_zero z)

tied_same : (q : ℕ) → eq_by_cmp nat_cmp q q ≡ true
tied_same q = unsigned_tied q q ∙ eq-eqb q q refl

tied_other : (q k : ℕ) → (q ≡ k → ⊥) → eq_by_cmp nat_cmp q k ≡ false
tied_other q k d = unsigned_tied q k ∙ ne_eqb q k d

-- one entry's part in the row of a site
part_here : (e : SiteRow) (s : ℕ) → s ≡ e.site → cond (nat_eq s e.site) e.row zero_row ≡ e.row
part_here e s h = cond-true (nat_eq s e.site) _ _ (eq-eqb s e.site h)

part_elsewhere : (e : SiteRow) (s : ℕ) → (s ≡ e.site → ⊥) → cond (nat_eq s e.site) e.row zero_row ≡ zero_row
part_elsewhere e s d = cond-false (nat_eq s e.site) _ _ (ne_eqb s e.site d)

row_in-elsewhere : (e : SiteRow) (es : List SiteRow) (s : ℕ) → (s ≡ e.site → ⊥) → row_in (e ∷ es) s ≡ row_in es s
row_in-elsewhere e es s d = ap (λ r. plus r (row_in es s)) (part_elsewhere e s d) ∙ zero-plus (row_in es s)

-- the map of the rows
pub get-sites_of : (rows : List SiteRow) (q : ℕ) → map.get (sites_of rows) q ≡ kept (row_in rows q)
get-sites_of [] q = get-empty nat_cmp q
get-sites_of (e ∷ es) q = go (get-sites_of es q) (is_zero (row_in (e ∷ es) e.site)) refl (cases_eq q e.site)
  where
    go : map.get (sites_of es) q ≡ kept (row_in es q) → (b : Bool) → is_zero (row_in (e ∷ es) e.site) ≡ b → (q ≡ e.site) ⊎ (q ≡ e.site → ⊥)
        → map.get (cond (is_zero (row_in (e ∷ es) e.site)) (sites_of es) (map.insert (sites_of es) e.site (row_in (e ∷ es) e.site))) q ≡ kept (row_in (e ∷ es) q)
    go h true z (inl s) =
        let all : row_in (e ∷ es) e.site ≡ zero_row = is_zero-true (row_in (e ∷ es) e.site) z in
        let rest : row_in es e.site ≡ zero_row = zero_part (cond (nat_eq e.site e.site) e.row zero_row) (row_in es e.site) all in
        ap (λ b. map.get (cond b (sites_of es) (map.insert (sites_of es) e.site (row_in (e ∷ es) e.site))) q) z
        ∙ (h ∙ ap kept (ap (row_in es) s ∙ (rest ∙ (sym all ∙ ap (row_in (e ∷ es)) (sym s)))))
    go h true z (inr d) =
        ap (λ b. map.get (cond b (sites_of es) (map.insert (sites_of es) e.site (row_in (e ∷ es) e.site))) q) z
        ∙ (h ∙ ap kept (sym (row_in-elsewhere e es q d)))
    go h false z (inl s) =
        ap (λ b. map.get (cond b (sites_of es) (map.insert (sites_of es) e.site (row_in (e ∷ es) e.site))) q) z
        ∙ (get-insert nat_cmp_total (sites_of es) e.site (row_in (e ∷ es) e.site) q
        ∙ (cond-true (eq_by_cmp nat_cmp q e.site) _ _ (subst (λ k. eq_by_cmp nat_cmp q k ≡ true) s (tied_same q))
        ∙ (sym (cond-false (is_zero (row_in (e ∷ es) e.site)) _ _ z) ∙ ap (λ k. kept (row_in (e ∷ es) k)) (sym s))))
    go h false z (inr d) =
        ap (λ b. map.get (cond b (sites_of es) (map.insert (sites_of es) e.site (row_in (e ∷ es) e.site))) q) z
        ∙ (get-insert nat_cmp_total (sites_of es) e.site (row_in (e ∷ es) e.site) q
        ∙ (cond-false (eq_by_cmp nat_cmp q e.site) _ _ (tied_other q e.site d)
        ∙ (h ∙ ap kept (sym (row_in-elsewhere e es q d)))))

-- what contracts see of a site's row is what is stored
pub row_at-stored : (root : Row) (rows : List SiteRow) (q : ℕ) → row_at (stored root rows) q ≡ row_in rows q
row_at-stored root rows q = ap (λ o. unwrap_or o zero_row) (get-sites_of rows q) ∙ kept-row (row_in rows q)

pub stored_no_zero : (root : Row) (rows : List SiteRow) → HasNoZeroRow (stored root rows)
stored_no_zero root rows q h = kept_no_zero (row_in rows q) (sym (get-sites_of rows q) ∙ h)

-- ---- the rows

pub row_in-append : (xs ys : List SiteRow) (s : ℕ) → row_in (xs ++ ys) s ≡ plus (row_in xs s) (row_in ys s)
row_in-append [] ys s = sym (zero-plus (row_in ys s))
row_in-append (x ∷ xs) ys s =
    ap (plus (cond (nat_eq s x.site) x.row zero_row)) (row_in-append xs ys s) ∙ sym (plus-assoc (cond (nat_eq s x.site) x.row zero_row) (row_in xs s) (row_in ys s))

-- a row more
pub row_in-push : (xs : List SiteRow) (e : SiteRow) (s : ℕ) → row_in (xs ++ e ∷ []) s ≡ cond (nat_eq s e.site) (plus (row_in xs s) e.row) (row_in xs s)
row_in-push xs e s =
    row_in-append xs (e ∷ []) s
    ∙ (ap (plus (row_in xs s)) (plus-zero (cond (nat_eq s e.site) e.row zero_row)) ∙ plus-cond (nat_eq s e.site) (row_in xs s) e.row)

-- a row of which more is made
pub row_in-set : (xs : List SiteRow) (k site : ℕ) (row sum : Row) → IsPlaceOf xs site k → sum ≡ plus (get_or xs k blank).row row → (s : ℕ)
    → row_in (set xs k (record { site = site; row = sum })) s ≡ plus (row_in xs s) (cond (nat_eq s site) row zero_row)
row_in-set [] k site row sum at e s = absurd (let l = at.0 in omega arith)
row_in-set (x ∷ xs) zero site row sum at e s =
    ap₂ (λ a b. plus (cond (nat_eq s a) b zero_row) (row_in xs s)) (sym at.1) e
    ∙ (one (nat_eq s x.site) ∙ ap (λ a. plus (plus (cond (nat_eq s x.site) x.row zero_row) (row_in xs s)) (cond (nat_eq s a) row zero_row)) at.1)
  where
    one : (t : Bool) → plus (cond t (plus x.row row) zero_row) (row_in xs s) ≡ plus (plus (cond t x.row zero_row) (row_in xs s)) (cond t row zero_row)
    one true = plus-swap x.row row (row_in xs s)
    one false = sym (plus-zero (plus zero_row (row_in xs s)))
row_in-set (x ∷ xs) (suc k) site row sum at e s =
    ap (plus (cond (nat_eq s x.site) x.row zero_row)) (row_in-set xs k site row sum (let l = at.0 in omega arith, at.1) e s)
    ∙ sym (plus-assoc (cond (nat_eq s x.site) x.row zero_row) (row_in xs s) (cond (nat_eq s site) row zero_row))

pub row_in-none : (xs : List SiteRow) (s : ℕ) → HasNoRow xs s → row_in xs s ≡ zero_row
row_in-none [] s h = refl
row_in-none (x ∷ xs) s h =
    row_in-elsewhere x xs s (λ e. h 0 (omega arith) (sym e)) ∙ row_in-none xs s (λ k l. h (suc k) (omega arith))

-- the one row of a site
pub row_in-place : (xs : List SiteRow) (k s : ℕ) → IsPlaceOf xs s k → ((j : ℕ) → IsPlaceOf xs s j → j ≡ k) → row_in xs s ≡ (get_or xs k blank).row
row_in-place [] k s at one = absurd (let l = at.0 in omega arith)
row_in-place (x ∷ xs) zero s at one =
    ap₂ plus (part_here x s (sym at.1))
    (row_in-none xs s (λ j l e. let z : suc j ≡ 0 = one (suc j) (omega arith, e) in absurd (omega arith)))
    ∙ plus-zero x.row
row_in-place (x ∷ xs) (suc k) s at one =
    row_in-elsewhere x xs s (λ e. let z : 0 ≡ suc k = one 0 (omega arith, sym e) in absurd (omega arith))
    ∙ row_in-place xs k s (let l = at.0 in omega arith, at.1)
    (λ j p. let l = p.0 in let z : suc j ≡ suc k = one (suc j) (omega arith, p.1) in omega arith)

-- one of the rows of a site, and the others
pub row_in-part : (xs : List SiteRow) (k s : ℕ) → IsPlaceOf xs s k → (rest : Row) × (row_in xs s ≡ plus (get_or xs k blank).row rest)
row_in-part [] k s at = absurd (let l = at.0 in omega arith)
row_in-part (x ∷ xs) zero s at = (row_in xs s, ap (λ r. plus r (row_in xs s)) (part_here x s (sym at.1)))
row_in-part (x ∷ xs) (suc k) s at =
    let part = row_in-part xs k s (let l = at.0 in omega arith, at.1) in
    let first : Row = cond (nat_eq s x.site) x.row zero_row in
    (plus first part.0, ap (plus first) part.1 ∙ plus-over first (get_or xs k blank).row part.0)

-- ---- tables

-- a row that is stored at a site, and no other, is added to
pub stored_added : (root : Row) (old new : List SiteRow) (site : ℕ) (row : Row) → ((s : ℕ) → row_in new s ≡ cond (nat_eq s site) (plus (row_in old s) row) (row_in old s))
    → IsAdded (stored root old) (stored root new) site row
stored_added root old new site row h = record {
  root = refl;
  sites = λ s. row_at-stored root new s ∙ (h s ∙ ap (λ r. cond (nat_eq s site) (plus r row) r) (sym (row_at-stored root old s)));
}

pub same_tables : RowsMakeTable
same_tables a b m n r h =
    let e = same_map nat_cmp_total nat_cmp-IsAntisymmetric a.sites b.sites (λ q. one (map.get a.sites q) (map.get b.sites q) (m q) (n q) (h q)) in
    λ k. record { root = r k; sites = e k }
  where
    one : (x y : Option Row) → (x ≡ Some zero_row → ⊥) → (y ≡ Some zero_row → ⊥) → unwrap_or x zero_row ≡ unwrap_or y zero_row → x ≡ y
    one None None m n h = refl
    one None (Some y) m n h = absurd (n (ap Some (sym h)))
    one (Some x) None m n h = absurd (m (ap Some h))
    one (Some x) (Some y) m n h = ap Some h
