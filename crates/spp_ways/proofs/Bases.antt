-- Any way's sums can stand for the way into the outer frame of a stretch.
use Rattle.std.proofs.Common.{◌≡◌, ℕ, Bool, true, false, List, [], ◌∷◌, Option, Some, None, cond, nat_eq, refl, sym, ap, ◌∙◌, arith, unwrap_or}
use Rattle.std.specs.Global.{Box}
use Rattle.std.specs.FinMap as map
use Rattle.std.specs.FinMap.{get-insert, get-empty}
use Rattle.std.specs.Ordering.{nat_cmp}
use Rattle.std.specs.Cmp.{unsigned_tied, nat_cmp_total}
use Rattle.std.proofs.lemmas.Bool.{eqb-true}
use Rattle.spp_dag.specs.declared.row.Row.{Row}
use Rattle.spp_dag.specs.Shares.{plus, zero_row}
use Rattle.spp_dag.specs.Steps.{same_key}
use Rattle.spp_site.specs.Table.{Sums, row_at, empty}
use Rattle.spp_site.specs.Profiles.{key_row}
use Rattle.spp_site.proofs.Rows.{zero-plus}
use Rattle.spp_ways.specs.declared.log.Merged.{Merged}
use Rattle.spp_ways.specs.declared.open_ways.OpenWays.{OpenWays}
use Rattle.spp_ways.specs.Ways.{Leaf, Way, rows_at}
use Rattle.spp_ways.specs.Stretches.{IsBase}

-- the sums of some rows
abbrev HasSums : List Leaf → Type 0
HasSums ls = (t : Sums) × ((key : Option ℕ) → key_row t key ≡ rows_at ls key)

nat_eq-swap : (a b : ℕ) → nat_eq a b ≡ nat_eq b a
nat_eq-swap a b = grind arith

one_more : (key : Option ℕ) (row : Row) (ls : List Leaf) → HasSums ls → HasSums (record { key = key; row = row } ∷ ls)
one_more None row ls h = (record h.0 { root = plus row h.0.root }, by)
  where
    by : (key : Option ℕ) → key_row (record h.0 { root = plus row h.0.root }) key ≡ plus (cond (same_key None key) row zero_row) (rows_at ls key)
    by None = ap (plus row) (h.1 None)
    by (Some s) = h.1 (Some s) ∙ sym (zero-plus (rows_at ls (Some s)))
one_more (Some site) row ls h = (record h.0 { sites = map.insert h.0.sites site v }, by)
  where
    v : Row
    v = plus row (row_at h.0 site)

    at : (s : ℕ) (b : Bool) → (b ≡ true → s ≡ site) → unwrap_or (cond b (Some v) (map.get h.0.sites s)) zero_row ≡ plus (cond b row zero_row) (rows_at ls (Some s))
    at s true e = ap (plus row) (h.1 (Some site) ∙ ap (λ k. rows_at ls (Some k)) (sym (e refl)))
    at s false e = h.1 (Some s) ∙ sym (zero-plus (rows_at ls (Some s)))

    by : (key : Option ℕ) → key_row (record h.0 { sites = map.insert h.0.sites site v }) key ≡ plus (cond (same_key (Some site) key) row zero_row) (rows_at ls key)
    by None = h.1 None ∙ sym (zero-plus (rows_at ls None))
    by (Some s) =
        ap (λ (o : Option Row). unwrap_or o zero_row) (get-insert nat_cmp_total h.0.sites site v s ∙ ap (λ b. cond b (Some v) (map.get h.0.sites s)) (unsigned_tied s site))
        ∙ at s (nat_eq s site) (eqb-true s site) ∙ ap (λ b. plus (cond b row zero_row) (rows_at ls (Some s))) (nat_eq-swap s site)

empty_is : (key : Option ℕ) → key_row empty key ≡ zero_row
empty_is None = refl
empty_is (Some s) = ap (λ (o : Option Row). unwrap_or o zero_row) (get-empty nat_cmp s)

sums_of : (ls : List Leaf) → HasSums ls
sums_of [] = (empty, empty_is)
sums_of (l ∷ ls) = one_more l.key l.row ls (sums_of ls)

-- what a join onto o may take as its base, for either path
pub base_of : (o : OpenWays) (w : Way) → (base : Box Merged) × ((on : Bool) → IsBase on base w)
base_of o w =
    let t = sums_of w.rows in
    (record { ptr = o.frames.ptr; alloc = o.frames.alloc; value = record { common = empty; plain = t.0; burdened = t.0 } }, by t.0 t.1)
  where
    by : (t : Sums) → ((key : Option ℕ) → key_row t key ≡ rows_at w.rows key) → (on : Bool) → IsBase on (record { ptr = o.frames.ptr; alloc = o.frames.alloc; value = record { common = empty; plain = t; burdened = t } }) w
    by t h false = λ key. ap (λ (r : Row). plus r (key_row t key)) (empty_is key) ∙ zero-plus (key_row t key) ∙ h key
    by t h true = λ key. ap (λ (r : Row). plus r (key_row t key)) (empty_is key) ∙ zero-plus (key_row t key) ∙ h key
