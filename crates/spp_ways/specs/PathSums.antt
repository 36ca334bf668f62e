-- What rows of ways add up to on both paths at once, and the two ways that are walked together.
use Rattle.std.specs.Prelude.{ℕ, Bool, true, false, cond, nat_eq, max, List, [], ◌∷◌, ◌++◌, Option}
use Rattle.spp_dag.specs.declared.row.Row.{Row}
use Rattle.spp_dag.specs.Shares.{plus, zero_row}
use Rattle.spp_site.specs.Profiles.{key_row}
use Rattle.spp_ways.specs.declared.log.LogRow.{LogRow}
use Rattle.spp_ways.specs.declared.both_ways.BothWays.{BothWays}
use Rattle.spp_ways.specs.declared.path_sums.PathSums.{PathSums}
use Rattle.spp_ways.specs.Logs.{row_on}

-- what was added on that path: what both have alike, and what it has besides
abbrev pub sums_on : Bool → PathSums → Option ℕ → Row
sums_on on s key = plus (key_row s.common key) (key_row (cond on s.burdened s.plain) key)

-- ---- two ways

-- the way of that path
abbrev pub way_of : Bool → BothWays → ℕ
way_of on w = cond on w.burdened w.plain

-- where the one ends that ends later in the log
abbrev pub last_of : BothWays → ℕ
last_of w = max w.plain w.burdened

-- whether the way of that path ends there
abbrev pub ends : Bool → BothWays → Bool
ends on w = nat_eq (way_of on w) (last_of w)

-- what the row with which that one ends adds on that path
abbrev pub ended_row : Bool → LogRow → BothWays → Option ℕ → Row
ended_row on r w key = cond (ends on w) (row_on on r key) zero_row

-- The ways that are left where that row is taken: a way that ends with it leads on from the way before the row and from that
-- within it, and one that ends earlier stays.
abbrev pub left_before : LogRow → BothWays → BothWays
left_before r w = record { plain = cond (ends false w) r.before w.plain; burdened = cond (ends true w) r.burdened_before w.burdened }

abbrev pub left_within : LogRow → BothWays → BothWays
left_within r w = record { plain = cond (ends false w) r.within 0; burdened = cond (ends true w) r.burdened_within 0 }

-- each of the ways, or 0 where it is at its stop
abbrev pub unless_at : BothWays → BothWays → BothWays
unless_at stops w = record { plain = cond (nat_eq w.plain stops.plain) 0 w.plain; burdened = cond (nat_eq w.burdened stops.burdened) 0 w.burdened }

-- they are put behind others, unless neither enters a row
abbrev pub put_ways : List BothWays → BothWays → List BothWays
put_ways ws w = cond (nat_eq (last_of w) 0) ws (ws ++ (w ∷ []))
