-- What is behind the counts and the weights: where a path goes at a spawn, what that costs, and how large the rows of a path are.
use Rattle.std.specs.Prelude.{◌≡◌, ℕ, suc, ◌+◌, ◌<◌, ◌⊎◌, Bool, true, List, [], ◌∷◌, length, Some}
use Rattle.spp_event.specs.declared.records.Event.{Event}
use Rattle.spp_event.specs.Recordings.{Recording, InLimits, AreEventsOf}
use Rattle.spp_maxplus.specs.declared.state.Burdens.{Burdens}
use Rattle.spp_maxplus.specs.State.{unburdened}
use Rattle.spp_dag.specs.Trace.{event_at, weight, spawns, partner, join, IsWellFormed}
use Rattle.spp_dag.specs.Dag.{Edge, Walk, IsPath, On}
use Rattle.spp_dag.specs.Ranges.{sum_where}
use Rattle.spp_dag.specs.Rows.{contains, site_of, everywhere}
use Rattle.spp_site.specs.declared.profile.Profile.{Profile}
use Rattle.spp_site.specs.Profiles.{IsPathTable}
use Rattle.spp_advice.specs.Counts.{counts, spawn_cost}
use Rattle.spp_advice.specs.Ranking.{IsLight}

-- the walk from x through `rest` goes from u to v
abbrev pub Goes : ℕ → List ℕ → ℕ → ℕ → Type 0
Goes x [] u v = ⊥
Goes x (p ∷ ps) u v = ((x ≡ u) × (p ≡ v)) ⊎ Goes p ps u v

-- A path that passes a spawn goes on to the position behind it, the first of the child, if it passes that at all, and else to
-- the position behind the child's return, along the edge that bears the continuation burden.
abbrev pub SpawnsAreLeft : Type 0
SpawnsAreLeft = (es : List Event) (burdens : Burdens) (ps : List ℕ) → IsPath es burdens 0 (length es) ps
    → (u : ℕ) → spawns (event_at es u) ≡ true → On 0 ps u
    → (On 0 ps (suc u) → Goes 0 ps u (suc u))
    × ((On 0 ps (suc u) → ⊥) → Goes 0 ps u (suc (partner es u)) × Edge es burdens u (suc (partner es u)) burdens.continuation)

-- A path that enters a spawned child leaves it at its return, for its join, along the edge that bears the return burden.
abbrev pub ChildrenAreLeft : Type 0
ChildrenAreLeft = (es : List Event) → IsWellFormed es → (burdens : Burdens) (ps : List ℕ) → IsPath es burdens 0 (length es) ps
    → (s : ℕ) → spawns (event_at es s) ≡ true → On 0 ps (suc s)
    → Goes 0 ps (partner es s) (join es s) × Edge es burdens (partner es s) (join es s) burdens.join

-- each site of these events is one of so many
abbrev pub HasSites : List Event → ℕ → Type 0
HasSites es sites = (u site : ℕ) → site_of (event_at es u) ≡ Some site → site < sites

-- what the spawns of all sites cost along the positions that pass
abbrev pub all_spawns_cost : List Event → (ℕ → Bool) → Burdens → ℕ → ℕ
all_spawns_cost es on burdens sites = sum_where everywhere (λ site. spawn_cost (counts es on site) burdens) sites

-- The path weighs what its positions weigh and what the spawns of all sites cost along it: the counts leave out no edge that
-- bears a burden, and tell none twice.
abbrev pub CostsAddUp : Type 0
CostsAddUp = (es : List Event) → IsWellFormed es → (burdens : Burdens) (ps : List ℕ) → IsPath es burdens 0 (length es) ps
    → (w : ℕ) → Walk es burdens 0 ps (length es) w → (sites : ℕ) → HasSites es sites
    → w ≡ sum_where (contains (0 ∷ ps)) (weight es) (suc (length es)) + all_spawns_cost es (contains (0 ∷ ps)) burdens sites

-- the profile of a trace within the limits is light
abbrev pub ProfilesAreLight : Type 0
ProfilesAreLight = (trace : Recording) → InLimits trace → AreEventsOf (length trace.sites) (length trace.funcs) trace.records
    → (burdens : Burdens) (p : Profile) → IsPathTable trace unburdened p.path → IsPathTable trace burdens p.burdened_path → IsLight p
