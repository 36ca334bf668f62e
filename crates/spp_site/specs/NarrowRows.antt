-- Rows whose sums fit 64 bits.
use Rattle.std.specs.Prelude.{◌≡◌, ℕ, Bool, false, ◌||◌, cond, nat_eq, List, [], ◌∷◌, get_or, Option, Some, None}
use Rattle.spp_dag.specs.declared.row.Row.{Row}
use Rattle.spp_dag.specs.Shares.{plus, zero_row}
use Rattle.spp_site.specs.declared.narrow_row.NarrowRow.{NarrowRow}
use Rattle.spp_site.specs.declared.narrow_row.KnownRow.{KnownRow}
use Rattle.spp_dag.specs.Steps.{same_key}

-- the row that it stands for
abbrev pub narrow_row : NarrowRow → Row
narrow_row r = record {
  count = r.count;
  local = r.local;
  site_count = r.site_count;
  site_work = r.site_work;
  site_span = r.site_span;
  caller_count = r.caller_count;
  caller_work = r.caller_work;
  caller_span = r.caller_span;
}

abbrev pub zero_narrow : NarrowRow
zero_narrow = record { local = 0; site_work = 0; site_span = 0; caller_work = 0; caller_span = 0; count = 0; site_count = 0; caller_count = 0 }

-- the row of a key among the narrow ones; the root frame has none
abbrev pub narrow_at : List NarrowRow → Option ℕ → Row
narrow_at rows None = zero_row
narrow_at rows (Some site) = narrow_row (get_or rows site zero_narrow)

-- what a row of a site adds to that of a key
abbrev pub at_site : ℕ → Row → Option ℕ → Row
at_site site r key = cond (same_key (Some site) key) r zero_row

-- what rows of sites add to it
abbrev pub known_rows : List KnownRow → Option ℕ → Row
known_rows [] key = zero_row
known_rows (k ∷ ks) key = plus (known_rows ks key) (at_site k.site (narrow_row k.row) key)

-- whether a site is among these
abbrev pub is_noted : List ℕ → ℕ → Bool
is_noted [] site = false
is_noted (n ∷ ns) site = nat_eq n site || is_noted ns site

-- the narrow rows of sites that are not are zero
abbrev pub AreNoted : List ℕ → List NarrowRow → Type 0
AreNoted ns rows = (site : ℕ) → is_noted ns site ≡ false → narrow_at rows (Some site) ≡ zero_row
