-- Rows that are kept aside, and those of a table to which they are added.
use Rattle.std.proofs.Common.{◌≡◌, ℕ, suc, ◌+◌, ◌<◌, ◌≤◌, List, [], ◌∷◌, ◌++◌, length, drop, get_or, Option, Result, Ok, Err, OnOk, OnErr, Bool, true, false, cond, refl, sym, ap, ap₂, subst, ◌∙◌, arith}
use Rattle.std.proofs.lemmas.List.{drop_all}
use Rattle.std.proofs.Math.Seq.{drop-cons}
use Rattle.spp_dag.specs.declared.row.Row.{Row}
use Rattle.spp_dag.specs.Shares.{plus, zero_row}
use Rattle.spp_site.specs.Rows.{Fits}
use Rattle.spp_site.specs.Table.{Sums}
use Rattle.spp_site.specs.Profiles.{key_row}
use Rattle.spp_site.proofs.Rows.{plus-zero, zero-plus, plus-assoc, plus-swap}
use Rattle.spp_pass.specs.declared.owed.OwedCalls.{OwedCalls}
use Rattle.spp_site.specs.declared.narrow_row.KnownRow.{KnownRow}
use Rattle.spp_site.specs.NarrowRows.{at_site, narrow_row, known_rows}
use Rattle.spp_site.proofs.NarrowRows.{known_more}
use Rattle.spp_pass.specs.OwedRows.{owed_row, owed_rows}
use Rattle.spp_site.proofs.Keys.{row_fits, left_fits}

-- the rows of a table, with those that it lacks
abbrev pub Rest : Sums → List OwedCalls → (Option ℕ → Row) → Type 0
Rest t os whole = (key : Option ℕ) → plus (key_row t key) (owed_rows os key) ≡ whole key

pub rest_at : (t : Sums) (os : List OwedCalls) (k : ℕ) (d : OwedCalls) (whole : Option ℕ → Row) → k < length os → Rest t (drop k os) whole → Rest t (get_or os k d ∷ drop (k + 1) os) whole
rest_at t os k d whole lt h =
    let next : suc k ≡ k + 1 = omega arith in
    subst (λ l. Rest t l whole) (drop-cons os k d lt ∙ ap (λ n. get_or os k d ∷ drop n os) next) h

pub next_fits : (t : Sums) (o : OwedCalls) (os : List OwedCalls) (whole : Option ℕ → Row) → Rest t (o ∷ os) whole → ((key : Option ℕ) → Fits (whole key)) → (key : Option ℕ) → Fits (plus (key_row t key) (owed_row o key))
next_fits t o os whole h fits key = row_fits (plus (key_row t key) (owed_row o key)) (owed_rows os key) (whole key) (plus-assoc (key_row t key) (owed_row o key) (owed_rows os key) ∙ h key) (fits key)

pub next_added : (t u : Sums) (o : OwedCalls) (os : List OwedCalls) (whole : Option ℕ → Row) → Rest t (o ∷ os) whole → ((key : Option ℕ) → key_row u key ≡ plus (key_row t key) (owed_row o key)) → Rest u os whole
next_added t u o os whole h added key = ap (λ r. plus r (owed_rows os key)) (added key) ∙ plus-assoc (key_row t key) (owed_row o key) (owed_rows os key) ∙ h key

pub rest_none : (t : Sums) (os : List OwedCalls) (k : ℕ) (whole : Option ℕ → Row) → length os ≤ k → Rest t (drop k os) whole → (key : Option ℕ) → key_row t key ≡ whole key
rest_none t os k whole le h key = sym (plus-zero (key_row t key)) ∙ ap (λ l. plus (key_row t key) (owed_rows l key)) (sym (drop_all k os le)) ∙ h key

-- one more is owed
pub owed_more : (os : List OwedCalls) (o : OwedCalls) (key : Option ℕ) → owed_rows (os ++ o ∷ []) key ≡ plus (owed_rows os key) (owed_row o key)
owed_more [] o key = plus-zero (owed_row o key) ∙ sym (zero-plus (owed_row o key))
owed_more (x ∷ xs) o key = ap (λ r. plus (owed_row x key) r) (owed_more xs o key) ∙ sym (plus-assoc (owed_row x key) (owed_rows xs key) (owed_row o key))

-- ---- none

pub zero_fits : Fits zero_row
zero_fits = record {
  count = omega arith;
  local = omega arith;
  site_count = omega arith;
  site_work = omega arith;
  site_span = omega arith;
  caller_count = omega arith;
  caller_work = omega arith;
  caller_span = omega arith;
}

-- all in the table
pub in_table : (t : Sums) (ks : List KnownRow) (os : List OwedCalls) (whole : Row) (key : Option ℕ) → ks ≡ [] → os ≡ [] → key_row t key ≡ whole → plus (plus (key_row t key) (known_rows ks key)) (owed_rows os key) ≡ whole
in_table t ks os whole key nothing none is =
    ap₂ (λ (m : List KnownRow) (l : List OwedCalls). plus (plus (key_row t key) (known_rows m key)) (owed_rows l key)) nothing none ∙ plus-zero (plus (key_row t key) zero_row) ∙ plus-zero (key_row t key) ∙ is

pub none_aside : (t : Sums) (ks : List KnownRow) (os : List OwedCalls) → ((key : Option ℕ) → key_row t key ≡ zero_row) → ks ≡ [] → os ≡ [] → (key : Option ℕ)
    → plus (plus (key_row t key) (known_rows ks key)) (owed_rows os key) ≡ zero_row
none_aside t ks os zero nothing none key =
    in_table t ks os zero_row key nothing none (zero key)

-- one more

pub more_aside : (base : Row) (os all : List OwedCalls) (o : OwedCalls) → all ≡ os ++ o ∷ [] → (key : Option ℕ) → plus base (owed_rows all key) ≡ plus (plus base (owed_rows os key)) (owed_row o key)
more_aside base os all o is key = ap (λ l. plus base (owed_rows l key)) is ∙ ap (λ r. plus base r) (owed_more os o key) ∙ sym (plus-assoc base (owed_rows os key) (owed_row o key))

pub more_known : (t owed : Row) (ks all : List KnownRow) (k : KnownRow) → all ≡ ks ++ k ∷ [] → (key : Option ℕ)
    → plus (plus t (known_rows all key)) owed ≡ plus (plus (plus t (known_rows ks key)) owed) (at_site k.site (narrow_row k.row) key)
more_known t owed ks all k is key =
    let r : Row = at_site k.site (narrow_row k.row) key in
    ap (λ (l : List KnownRow). plus (plus t (known_rows l key)) owed) is ∙ ap (λ x. plus (plus t x) owed) (known_more ks k key) ∙ ap (λ x. plus x owed) (sym (plus-assoc t (known_rows ks key) r)) ∙ plus-swap (plus t (known_rows ks key)) r owed

-- one more in the table
pub more_table : (t u known owed r : Row) → u ≡ plus t r → plus (plus u known) owed ≡ plus (plus (plus t known) owed) r
more_table t u known owed r is = ap (λ x. plus (plus x known) owed) is ∙ ap (λ x. plus x owed) (plus-swap t r known) ∙ plus-swap (plus t known) r owed

pub table_fits : (t known owed r : Row) → Fits (plus (plus (plus t known) owed) r) → Fits (plus t r)
table_fits t known owed r f = left_fits (plus t r) known (left_fits (plus (plus t r) known) owed (subst Fits (sym (more_table t (plus t r) known owed r refl)) f))

-- all but the known ones
pub all_but_known : (t n known owed : Row) → plus (plus t (plus n owed)) known ≡ plus t (plus (plus n known) owed)
all_but_known t n known owed = plus-assoc t (plus n owed) known ∙ ap (plus t) (plus-swap n owed known)

pub but_known : (t n known owed : Row) → Fits (plus t (plus (plus n known) owed)) → Fits (plus t (plus n owed))
but_known t n known owed f = row_fits (plus t (plus n owed)) known (plus t (plus (plus n known) owed)) (all_but_known t n known owed) f

-- whether a row was pushed or not
pub either_known : (P : List KnownRow → Type 0) (b : Bool) (ks new : List KnownRow) (k : KnownRow) → new ≡ cond b (ks ++ k ∷ []) ks → P (ks ++ k ∷ []) → P ks → P new
either_known P true ks new k is more same = subst P (sym is) more
either_known P false ks new k is more same = subst P (sym is) same

-- whether it went well or not
pub either : {X E : Type 0} (P Q G : Type 0) → (r : Result X E) → OnOk r P → OnErr r Q → (P → G) → (Q → G) → G
either P Q G (Ok x) p q f g = f p
either P Q G (Err e) p q f g = g q
