-- How often a run meets each call site, and how often a path of it meets the site's spawns.
use Rattle.std.specs.Prelude.{◌≡◌, ℕ, suc, ◌+◌, ◌*◌, ◌≤◌, Bool, false, cond, ◌&&◌, not, nat_eq, List, ◌∷◌, length, slice_index_or, Option, Some}
use Rattle.spp_event.specs.declared.records.Event.{Event}
use Rattle.spp_event.specs.declared.records.Event.TheVariants.{Call, Spawn}
use Rattle.spp_maxplus.specs.declared.state.Burdens.{Burdens}
use Rattle.spp_dag.specs.Ranges.{sum_where}
use Rattle.spp_dag.specs.Trace.{event_at}
use Rattle.spp_dag.specs.Dag.{IsPath}
use Rattle.spp_dag.specs.Rows.{contains}
use Rattle.spp_advice.specs.declared.counting.SiteCounts.{SiteCounts}

-- the event is a call by the site
abbrev pub calls_by : ℕ → Option Event → Bool
calls_by site (Some (Call s func)) = nat_eq s site
calls_by site _ = false

-- the event is a spawn by the site
abbrev pub spawns_by : ℕ → Option Event → Bool
spawns_by site (Some (Spawn s func)) = nat_eq s site
spawns_by site _ = false

-- how many of the numbers below n pass
abbrev pub count_where : (ℕ → Bool) → ℕ → ℕ
count_where p n = sum_where p (λ _. 1) n

-- The counts of a site among the events before position n, where `on` says which positions a path passes. A path that
-- passes a spawn enters the child where it passes the position behind the spawn too, and else goes past it.
abbrev pub counts_before : List Event → (ℕ → Bool) → ℕ → ℕ → SiteCounts
counts_before es on site n = record {
  calls = count_where (λ u. calls_by site (event_at es u)) n;
  spawns = count_where (λ u. spawns_by site (event_at es u)) n;
  past = count_where (λ u. spawns_by site (event_at es u) && (on u && not (on (suc u)))) n;
  into = count_where (λ u. spawns_by site (event_at es u) && (on u && on (suc u))) n;
}

-- those among all events
abbrev pub counts : List Event → (ℕ → Bool) → ℕ → SiteCounts
counts es on site = counts_before es on site (length es)

abbrev pub no_counts : SiteCounts
no_counts = record { calls = 0; spawns = 0; past = 0; into = 0 }

-- the counts of a site; one that is not there has none
abbrev pub counts_at : List SiteCounts → ℕ → SiteCounts
counts_at sites site = slice_index_or sites site no_counts

-- they are those of every site
abbrev pub AreCounts : List Event → (ℕ → Bool) → List SiteCounts → Type 0
AreCounts es on sites = (site : ℕ) → counts_at sites site ≡ counts es on site

-- the byte of the position is 1; the end has no byte, and each path comes to it
abbrev pub is_marked : List ℕ → ℕ → Bool
is_marked marks u = nat_eq (slice_index_or marks u 1) 1

-- they are the counts along the path under the burdens
abbrev pub ArePathCounts : List Event → Burdens → List SiteCounts → Type 0
ArePathCounts es burdens sites = (ps : List ℕ) → IsPath es burdens 0 (length es) ps → AreCounts es (contains (0 ∷ ps)) sites

-- what the spawns of a site cost along the path: the continuation edges that it takes past children, and the return edges
-- that it takes out of them
abbrev pub spawn_cost : SiteCounts → Burdens → ℕ
spawn_cost c burdens = c.past * burdens.continuation + c.into * burdens.join

-- ---- what one event adds

abbrev pub with_event : Event → Bool → Bool → ℕ → SiteCounts → SiteCounts
with_event e here next site c = record {
  calls = c.calls + cond (calls_by site (Some e)) 1 0;
  spawns = c.spawns + cond (spawns_by site (Some e)) 1 0;
  past = c.past + cond (spawns_by site (Some e) && (here && not next)) 1 0;
  into = c.into + cond (spawns_by site (Some e) && (here && next)) 1 0;
}

-- each count is at most n
pub record AreFew (n : ℕ) (c : SiteCounts) : Type 0 where
  pub calls : c.calls ≤ n
  pub spawns : c.spawns ≤ n
  pub past : c.past ≤ n
  pub into : c.into ≤ n
