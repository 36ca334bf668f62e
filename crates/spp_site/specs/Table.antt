-- What contracts see of a table.
use Rattle.std.specs.Prelude.{◌≡◌, ℕ, cond, nat_eq, Some, refl, unwrap_or}
use Rattle.std.specs.Ordering.{nat_cmp}
use Rattle.std.specs.FinMap as map
use Rattle.std.specs.Coded.{Coded, code_by, coded×, coded_ℕ}
use Rattle.spp_dag.specs.declared.row.Row.{Row}
use Rattle.spp_dag.specs.Shares.{zero_row, plus}
use Rattle.spp_site.specs.Rows.{row_code}

-- the root's row, and the rows of sites by their numbers
pub record Sums : Type 0 where
  pub root : Row
  pub sites : map.FinMap nat_cmp Row

-- a table as the pair of its parts
abbrev pub sums_code : Coded Sums
sums_code =
    code_by (Row × map.FinMap nat_cmp Row) (coded× row_code (map.code coded_ℕ row_code))
    (λ t. (t.root, t.sites)) (λ p. record { root = p.0; sites = p.1 }) (λ _. refl)

-- the row of a site; one that is not there has the zero row
abbrev pub row_at : Sums → ℕ → Row
row_at t site = unwrap_or (map.get t.sites site) zero_row

-- no site is there with the zero row
abbrev pub HasNoZeroRow : Sums → Type 0
HasNoZeroRow t = (site : ℕ) → map.get t.sites site ≡ Some zero_row → ⊥

-- the zero row at the root, and no site
abbrev pub empty : Sums
empty = record { root = zero_row; sites = map.empty }

-- the row is added to that of the site, and no other row changes
pub record IsAdded (old new : Sums) (site : ℕ) (row : Row) : Type 0 where
  pub root : new.root ≡ old.root
  pub sites : (s : ℕ) → row_at new s ≡ cond (nat_eq s site) (plus (row_at old s) row) (row_at old s)

-- each row of `t` is the sum of the two of its site
pub record IsSum (a b t : Sums) : Type 0 where
  pub root : t.root ≡ plus a.root b.root
  pub sites : (s : ℕ) → row_at t s ≡ plus (row_at a s) (row_at b s)
