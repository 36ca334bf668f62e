-- Which call sites are told first, by what mending them can bring.
use Rattle.std.specs.Prelude.{◌≡◌, ℕ, ◌+◌, ◌<◌, ◌^◌, max, Bool, ◌||◌, nat_lt, List, take}
use Rattle.std.specs.List.{filter, range_with_len}
use Rattle.std.specs.List.Sorted.{IsPermutation, IsSorted}
use Rattle.std.specs.declared.cmp.Ordering.{Ordering}
use Rattle.std.specs.Ordering.{nat_cmp, ordering_then}
use Rattle.spp_maxplus.specs.declared.state.Burdens.{Burdens}
use Rattle.spp_site.specs.Table.{row_at}
use Rattle.spp_site.specs.declared.profile.Profile.{Profile}
use Rattle.spp_advice.specs.declared.counting.SiteCounts.{SiteCounts}
use Rattle.spp_advice.specs.Counts.{counts_at, spawn_cost}

-- the site has frames on one of the two paths, or the burdened path goes past a child that it spawned
abbrev pub is_met : Profile → List SiteCounts → ℕ → Bool
is_met p counts site =
    nat_lt 0 (row_at p.path site).count || (nat_lt 0 (row_at p.burdened_path site).count || nat_lt 0 (counts_at counts site).past)

-- the sites that do, of so many, in the order of the trace
abbrev pub met_sites : Profile → List SiteCounts → ℕ → List ℕ
met_sites p counts sites = filter (is_met p counts) (range_with_len 0 sites)

-- the weight of a site: what its frames run on the path, or, where that is more, what they run on the burdened path and
-- what its spawns cost there
abbrev pub weight_of : Profile → List SiteCounts → Burdens → ℕ → ℕ
weight_of p counts burdens site = max (row_at p.path site).local ((row_at p.burdened_path site).local + spawn_cost (counts_at counts site) burdens)

-- how site a is told beside site b: the heavier one first, and of equal ones the one with the lesser number
abbrev pub rank : (ℕ → ℕ) → ℕ → ℕ → Ordering
rank weight a b = ordering_then (nat_cmp (weight b) (weight a)) (nat_cmp a b)

-- all these sites, in that order
pub record AreRanked (weight : ℕ → ℕ) (sites ranked : List ℕ) : Type 0 where
  pub are : IsPermutation sites ranked
  pub order : IsSorted (rank weight) ranked

-- the first of them in that order, as many as are asked for
abbrev pub AreFirst : (ℕ → ℕ) → List ℕ → ℕ → List ℕ → Type 0
AreFirst weight sites top first = (ranked : List ℕ) × AreRanked weight sites ranked × (first ≡ take top ranked)

-- the frames of each site run less than 2 ^ 92 instructions on either path
pub record IsLight (p : Profile) : Type 0 where
  pub path : (site : ℕ) → (row_at p.path site).local < 2 ^ 92
  pub burdened_path : (site : ℕ) → (row_at p.burdened_path site).local < 2 ^ 92
