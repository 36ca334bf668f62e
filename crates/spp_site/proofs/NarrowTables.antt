-- What contracts see of tables of narrow rows.
use Rattle.std.proofs.Common.{◌≡◌, ℕ, zero, suc, ◌+◌, ◌<◌, Bool, true, false, cond, nat_eq, List, [], ◌∷◌, ◌++◌, length, get_or, set, Option, Some, None, unwrap_or, refl, sym, ap, ap₂, subst, ◌∙◌, arith}
use Rattle.std.proofs.lemmas.Bool.{eqb-true, ne_eqb}
use Rattle.std.specs.Cmp.{unsigned_tied, nat_cmp_total}
use Rattle.std.specs.FinMap.{get-insert}
use Rattle.std.specs.FinMap as map
use Rattle.spp_dag.specs.declared.row.Row.{Row}
use Rattle.spp_dag.specs.Shares.{plus, zero_row}
use Rattle.spp_site.specs.declared.narrow_row.NarrowRow.{NarrowRow}
use Rattle.spp_site.specs.declared.narrow_row.KnownRow.{KnownRow}
use Rattle.spp_site.specs.Rows.{Fits}
use Rattle.spp_site.specs.Table.{Sums, row_at, IsAdded, IsSum}
use Rattle.spp_site.specs.Profiles.{key_row}
use Rattle.spp_site.specs.NarrowRows.{narrow_row, zero_narrow, narrow_at, at_site, known_rows}
use Rattle.spp_site.specs.NarrowTables.{with_row, with_narrow, narrow_sums, with_known}
use Rattle.spp_site.proofs.Rows.{plus-zero, zero-plus, plus-assoc, plus-swap, first_fits}
use Rattle.spp_site.proofs.Keys.{own_row, added_key, key_added, sum_key, left_fits}
use Rattle.spp_site.proofs.NarrowRows.{set_at, known_more}

turned : (a b : ℕ) → nat_eq a b ≡ nat_eq b a
turned a b = grind arith

-- a row more
with_row_key : (t : Sums) (site : ℕ) (row : Row) (key : Option ℕ) → key_row (with_row t site row) key ≡ plus (key_row t key) (at_site site row key)
with_row_key t site row None = sym (plus-zero t.root)
with_row_key t site row (Some s) =
    ap (λ (o : Option Row). unwrap_or o zero_row) (get-insert nat_cmp_total t.sites site v s ∙ ap (λ b. cond b (Some v) (map.get t.sites s)) (unsigned_tied s site))
    ∙ at (nat_eq s site) (eqb-true s site) ∙ ap (λ b. plus (row_at t s) (cond b row zero_row)) (turned s site)
  where
    v : Row
    v = plus (row_at t site) row

    at : (b : Bool) → (b ≡ true → s ≡ site) → unwrap_or (cond b (Some v) (map.get t.sites s)) zero_row ≡ plus (row_at t s) (cond b row zero_row)
    at true e = ap (λ k. plus (row_at t k) row) (sym (e refl))
    at false e = sym (plus-zero (row_at t s))

-- ---- rows of sites

pub known_key : (t : Sums) (ks : List KnownRow) (key : Option ℕ) → key_row (with_known t ks) key ≡ plus (key_row t key) (known_rows ks key)
known_key t [] key = sym (plus-zero (key_row t key))
known_key t (k ∷ ks) key =
    with_row_key (with_known t ks) k.site (narrow_row k.row) key ∙ ap (λ r. plus r (at_site k.site (narrow_row k.row) key)) (known_key t ks key)
    ∙ plus-assoc (key_row t key) (known_rows ks key) (at_site k.site (narrow_row k.row) key)

-- ---- narrow rows

-- the rows of the sites from k on
abbrev from_at : List NarrowRow → ℕ → Option ℕ → Row
from_at [] k key = zero_row
from_at (r ∷ rs) k key = plus (from_at rs (suc k) key) (at_site k (narrow_row r) key)

from_key : (t : Sums) (k : ℕ) (rows : List NarrowRow) (key : Option ℕ) → key_row (with_narrow t k rows) key ≡ plus (key_row t key) (from_at rows k key)
from_key t k [] key = sym (plus-zero (key_row t key))
from_key t k (r ∷ rs) key =
    with_row_key (with_narrow t (suc k) rs) k (narrow_row r) key ∙ ap (λ x. plus x (at_site k (narrow_row r) key)) (from_key t (suc k) rs key)
    ∙ plus-assoc (key_row t key) (from_at rs (suc k) key) (at_site k (narrow_row r) key)

-- a site before them has none
from_below : (rows : List NarrowRow) (k s : ℕ) → s < k → from_at rows k (Some s) ≡ zero_row
from_below [] k s lt = refl
from_below (r ∷ rs) k s lt =
    ap₂ plus (from_below rs (suc k) s (omega arith)) (ap (λ b. cond b (narrow_row r) zero_row) (ne_eqb k s (λ e. omega arith))) ∙ zero-plus zero_row

from_here : (rows : List NarrowRow) (k j : ℕ) → from_at rows k (Some (k + j)) ≡ narrow_row (get_or rows j zero_narrow)
from_here [] k j = refl
from_here (r ∷ rs) k zero =
    let here : k + 0 ≡ k = omega arith in
    ap (λ n. from_at (r ∷ rs) k (Some n)) here ∙ ap₂ plus (from_below rs (suc k) k (omega arith)) (own_row k (narrow_row r)) ∙ zero-plus (narrow_row r)
from_here (r ∷ rs) k (suc j) =
    let next : k + suc j ≡ suc k + j = omega arith in
    ap (λ n. from_at (r ∷ rs) k (Some n)) next
    ∙ ap₂ plus (from_here rs (suc k) j) (ap (λ b. cond b (narrow_row r) zero_row) (ne_eqb k (suc k + j) (λ e. omega arith))) ∙ plus-zero (narrow_row (get_or rs j zero_narrow))

from_root : (rows : List NarrowRow) (k : ℕ) → from_at rows k None ≡ zero_row
from_root [] k = refl
from_root (r ∷ rs) k = ap (λ x. plus x zero_row) (from_root rs (suc k)) ∙ zero-plus zero_row

first_at : (rows : List NarrowRow) (key : Option ℕ) → from_at rows 0 key ≡ narrow_at rows key
first_at rows None = from_root rows 0
first_at rows (Some s) = (let first : s ≡ 0 + s = omega arith in ap (λ n. from_at rows 0 (Some n)) first) ∙ from_here rows 0 s

pub narrow_key : (wide : Sums) (rows : List NarrowRow) (key : Option ℕ) → key_row (narrow_sums wide rows) key ≡ plus (key_row wide key) (narrow_at rows key)
narrow_key wide rows key = from_key wide 0 rows key ∙ ap (plus (key_row wide key)) (first_at rows key)

-- ---- what is done to a table of narrow rows

-- others with the same rows
pub same_narrow : (wide : Sums) (old new : List NarrowRow) (t : Sums) → narrow_sums wide old ≡ t → ((key : Option ℕ) → narrow_at new key ≡ narrow_at old key)
    → (key : Option ℕ) → key_row (narrow_sums wide new) key ≡ key_row t key
same_narrow wide old new t is same key =
    narrow_key wide new key ∙ ap (plus (key_row wide key)) (same key) ∙ sym (narrow_key wide old key) ∙ ap (λ (x : Sums). key_row x key) is

-- a row is added to its narrow one
pub put_narrow : (wide : Sums) (rows : List NarrowRow) (k : ℕ) (x r : NarrowRow) (more : Row) → k < length rows → x ≡ get_or rows k zero_narrow → narrow_row r ≡ plus (narrow_row x) more
    → IsAdded (narrow_sums wide rows) (narrow_sums wide (set rows k r)) k more
put_narrow wide rows k x r more lt is sum =
    key_added (narrow_sums wide rows) (narrow_sums wide (set rows k r)) k more
    (λ key. narrow_key wide (set rows k r) key ∙ ap (plus (key_row wide key)) (set_at rows k x r more lt is sum key)
    ∙ sym (plus-assoc (key_row wide key) (narrow_at rows key) (at_site k more key)) ∙ ap (λ y. plus y (at_site k more key)) (sym (narrow_key wide rows key)))

-- and to the wide one
pub wide_fits : (wide : Sums) (rows : List NarrowRow) (k : ℕ) (more : Row) → Fits (plus (row_at (narrow_sums wide rows) k) more) → Fits (plus (row_at wide k) more)
wide_fits wide rows k more fits =
    first_fits (row_at wide k) (narrow_at rows (Some k)) more (subst (λ r. Fits (plus r more)) (narrow_key wide rows (Some k)) fits)

pub wide_added : (wide new : Sums) (rows : List NarrowRow) (k : ℕ) (more : Row) → IsAdded wide new k more → IsAdded (narrow_sums wide rows) (narrow_sums new rows) k more
wide_added wide new rows k more h =
    key_added (narrow_sums wide rows) (narrow_sums new rows) k more
    (λ key. narrow_key new rows key ∙ ap (λ r. plus r (narrow_at rows key)) (added_key wide new k more h key)
    ∙ plus-swap (key_row wide key) (at_site k more key) (narrow_at rows key) ∙ ap (λ r. plus r (at_site k more key)) (sym (narrow_key wide rows key)))

-- ---- a table of narrow rows is added

of_narrow : (wide : Sums) (rows : List NarrowRow) (t : Sums) → narrow_sums wide rows ≡ t → (key : Option ℕ) → key_row t key ≡ plus (key_row wide key) (narrow_at rows key)
of_narrow wide rows t is key = ap (λ (x : Sums). key_row x key) (sym is) ∙ narrow_key wide rows key

-- to a table
module _ (t wide o : Sums) (rows : List NarrowRow) (is : narrow_sums wide rows ≡ o) where
  whole_is : (key : Option ℕ) → plus (plus (key_row t key) (key_row wide key)) (narrow_at rows key) ≡ plus (key_row t key) (key_row o key)
  whole_is key = plus-assoc (key_row t key) (key_row wide key) (narrow_at rows key) ∙ ap (plus (key_row t key)) (sym (of_narrow wide rows o is key))

  pub wide_part_fits : ((key : Option ℕ) → Fits (plus (key_row t key) (key_row o key))) → (key : Option ℕ) → Fits (plus (key_row t key) (key_row wide key))
  wide_part_fits fits key = left_fits (plus (key_row t key) (key_row wide key)) (narrow_at rows key) (subst Fits (sym (whole_is key)) (fits key))

  pub narrow_left : (u : Sums) → IsSum t wide u → (key : Option ℕ) → plus (key_row u key) (narrow_at rows key) ≡ plus (key_row t key) (key_row o key)
  narrow_left u sum key = ap (λ r. plus r (narrow_at rows key)) (sum_key t wide u sum key) ∙ whole_is key

-- a share is added to the wide one
module _ (wide t : Sums) (rows : List NarrowRow) (is : narrow_sums wide rows ≡ t) where
  pub wide_key_fits : (r : Row) (key : Option ℕ) → Fits (plus (key_row t key) r) → Fits (plus (key_row wide key) r)
  wide_key_fits r key fits = first_fits (key_row wide key) (narrow_at rows key) r (subst (λ x. Fits (plus x r)) (of_narrow wide rows t is key) fits)

  pub wide_sum : (o u : Sums) → IsSum wide o u → (key : Option ℕ) → key_row (narrow_sums u rows) key ≡ plus (key_row t key) (key_row o key)
  wide_sum o u sum key =
      narrow_key u rows key ∙ ap (λ r. plus r (narrow_at rows key)) (sum_key wide o u sum key) ∙ plus-swap (key_row wide key) (key_row o key) (narrow_at rows key)
      ∙ ap (λ r. plus r (key_row o key)) (sym (of_narrow wide rows t is key))

-- ---- rows that wait

module _ (t : Sums) (ks : List KnownRow) (s : Sums) (is : with_known t ks ≡ s) where
  pub waiting : (key : Option ℕ) → plus (key_row t key) (known_rows ks key) ≡ key_row s key
  waiting key = sym (known_key t ks key) ∙ ap (λ (x : Sums). key_row x key) is

  -- what can be added to all can be added to the table
  pub table_fits : (r : Row) (key : Option ℕ) → Fits (plus (key_row s key) r) → Fits (plus (key_row t key) r)
  table_fits r key fits = first_fits (key_row t key) (known_rows ks key) r (subst (λ x. Fits (plus x r)) (sym (waiting key)) fits)

  pub table_added : (u : Sums) (r : Row) (key : Option ℕ) → key_row u key ≡ plus (key_row t key) r → key_row (with_known u ks) key ≡ plus (key_row s key) r
  table_added u r key added =
      known_key u ks key ∙ ap (λ x. plus x (known_rows ks key)) added ∙ plus-swap (key_row t key) r (known_rows ks key) ∙ ap (λ x. plus x r) (waiting key)

  -- one more waits
  pub one_waits : (all : List KnownRow) (k : KnownRow) → all ≡ ks ++ k ∷ [] → (key : Option ℕ) → key_row (with_known t all) key ≡ plus (key_row s key) (at_site k.site (narrow_row k.row) key)
  one_waits all k more key =
      let r : Row = at_site k.site (narrow_row k.row) key in
      known_key t all key ∙ ap (λ (l : List KnownRow). plus (key_row t key) (known_rows l key)) more ∙ ap (plus (key_row t key)) (known_more ks k key)
      ∙ sym (plus-assoc (key_row t key) (known_rows ks key) r) ∙ ap (λ x. plus x r) (waiting key)

-- ---- a list is added to a table

module _ (t wide o : Sums) (ks : List KnownRow) (is : with_known wide ks ≡ o) where
  both_are : (key : Option ℕ) → plus (plus (key_row t key) (key_row wide key)) (known_rows ks key) ≡ plus (key_row t key) (key_row o key)
  both_are key = plus-assoc (key_row t key) (key_row wide key) (known_rows ks key) ∙ ap (plus (key_row t key)) (waiting wide ks o is key)

  pub list_part_fits : ((key : Option ℕ) → Fits (plus (key_row t key) (key_row o key))) → (key : Option ℕ) → Fits (plus (key_row t key) (key_row wide key))
  list_part_fits fits key = left_fits (plus (key_row t key) (key_row wide key)) (known_rows ks key) (subst Fits (sym (both_are key)) (fits key))

  pub list_left : (u : Sums) → ((key : Option ℕ) → key_row u key ≡ plus (key_row t key) (key_row wide key)) → (key : Option ℕ) → plus (key_row u key) (known_rows ks key) ≡ plus (key_row t key) (key_row o key)
  list_left u sum key = ap (λ r. plus r (known_rows ks key)) (sum key) ∙ both_are key

-- none waits any longer
pub none_waits : (t : Sums) (ks : List KnownRow) → ks ≡ [] → (key : Option ℕ) → key_row (with_known t ks) key ≡ key_row t key
none_waits t ks none key = ap (λ (l : List KnownRow). key_row (with_known t l) key) none
