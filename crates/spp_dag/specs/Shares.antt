-- What a range of positions adds to a row: its own positions, and the frames that close in it.
use Rattle.std.specs.Prelude.{◌≡◌, ℕ, ◌+◌, ◌≤◌, Bool, ◌&&◌, List, [], ◌∷◌, Option}
use Rattle.spp_event.specs.declared.records.Event.{Event}
use Rattle.spp_dag.specs.declared.row.Row.{Row}
use Rattle.spp_dag.specs.Ranges.{within}
use Rattle.spp_dag.specs.Trace.{closing, owner}
use Rattle.spp_dag.specs.Rows.{row_over, is_of}

-- the share of the positions from `from` on and below `end` in a row
abbrev pub share : List Event → ℕ → (ℕ → ℕ) → (ℕ → Bool) → Option ℕ → ℕ → ℕ → Row
share es root span on key from end = row_over es root span
    (λ f. (on f && is_of es key f) && within from end (closing es f))
    (λ k. (on k && is_of es key (owner es k)) && within from end k)

abbrev pub zero_row : Row
zero_row = record {
  count = 0;
  local = 0;
  site_count = 0;
  site_work = 0;
  site_span = 0;
  caller_count = 0;
  caller_work = 0;
  caller_span = 0;
}

-- the sum of two rows, field by field
abbrev pub plus : Row → Row → Row
plus a b = record {
  count = a.count + b.count;
  local = a.local + b.local;
  site_count = a.site_count + b.site_count;
  site_work = a.site_work + b.site_work;
  site_span = a.site_span + b.site_span;
  caller_count = a.caller_count + b.caller_count;
  caller_work = a.caller_work + b.caller_work;
  caller_span = a.caller_span + b.caller_span;
}

-- the shares of one range after another: from `from` to the first end, from there to the next, and so on
abbrev pub shares : List Event → ℕ → (ℕ → ℕ) → (ℕ → Bool) → Option ℕ → ℕ → List ℕ → Row
shares es root span on key from [] = zero_row
shares es root span on key from (end ∷ ends) =
    plus (share es root span on key from end) (shares es root span on key end ends)

-- the ends don't fall, and the last is `last`
abbrev pub AreEnds : ℕ → List ℕ → ℕ → Type 0
AreEnds from [] last = from ≡ last
AreEnds from (end ∷ ends) last = (from ≤ end) × AreEnds end ends last
