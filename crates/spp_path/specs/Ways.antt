-- How far the way back along a path has come, which settles the path from its end. A time stands between two choices: at
-- position k the join has the time 2k and the end 2k + 1, and the choices at a time and after it have been taken.
use Rattle.std.specs.Prelude.{◌≡◌, ℕ, suc, ◌+◌, ◌*◌, ◌≤◌, ◌<◌, ◌↔◌, ◌⊎◌, true, List, reverse, Contains}
use Rattle.spp_event.specs.declared.records.Event.{Event}
use Rattle.spp_maxplus.specs.declared.state.Burdens.{Burdens}
use Rattle.spp_dag.specs.Trace.{event_at, spawns, partner, join}
use Rattle.spp_dag.specs.Dag.{On}
use Rattle.spp_dag.specs.ChoiceLists.{AreRising, AreEndsIn, AreJoinsIn}
use Rattle.spp_dag.specs.declared.choices.End.{End}
use Rattle.spp_dag.specs.declared.choices.Choice.{Choice}
use Rattle.spp_path.specs.declared.settling.Onward.{Onward}
use Rattle.spp_path.specs.declared.settling.Onward.TheVariants.{Live, Skip, Seek}
use Rattle.spp_path.specs.declared.settling.WayBack.{WayBack}

-- ---- where the path is at a time

-- the path comes to here: the children that hold this time are entered, and none that is entered is waited for
pub record Running (es : List Event) (ps : List ℕ) (t : ℕ) : Type 0 where
  pub held : (u : ℕ) → spawns (event_at es u) ≡ true → 2 * u + 1 < t → t ≤ 2 * partner es u + 1 → On 0 ps (suc u)
  pub free : (s : ℕ) → spawns (event_at es s) ≡ true → On 0 ps (suc s) → 2 * partner es s + 1 < t → 2 * join es s < t

-- the time is within the child spawned at u, which isn't entered
pub record Skipping (es : List Event) (ps : List ℕ) (t u : ℕ) : Type 0 where
  pub spawned : spawns (event_at es u) ≡ true
  pub out : On 0 ps (suc u) → ⊥
  pub lower : 2 * u + 1 < t
  pub upper : t ≤ 2 * partner es u + 1
  pub before : Running es ps (2 * u + 1)

-- the time is between the return of the child spawned at s, which is entered, and its join
pub record Seeking (es : List Event) (ps : List ℕ) (t s : ℕ) : Type 0 where
  pub spawned : spawns (event_at es s) ≡ true
  pub entered : On 0 ps (suc s)
  pub lower : 2 * partner es s + 1 < t
  pub upper : t ≤ 2 * join es s

-- what the way back says
abbrev pub Says : List Event → List ℕ → ℕ → Onward → Type 0
Says es ps t Live = Running es ps t
Says es ps t (Skip u) = Skipping es ps t u
Says es ps t (Seek s) = Seeking es ps t s

-- ---- what was found

-- the child spawned at s is entered, and its join was taken
abbrev pub IsFound : List Event → List ℕ → ℕ → ℕ → Type 0
IsFound es ps t s = (spawns (event_at es s) ≡ true) × On 0 ps (suc s) × (t ≤ 2 * join es s)

-- The spawns of these children, each once: some of them still lie ahead, rising, and the others, which were passed, lie
-- behind, falling.
pub record AreFound (es : List Event) (ps : List ℕ) (t : ℕ) (ahead behind : List ℕ) : Type 0 where
  pub rise : AreRising ahead
  pub fall : AreRising (reverse behind)
  pub parted : (s u : ℕ) → Contains ahead s → Contains behind u → s < u
  pub passed : (u : ℕ) → Contains behind u → t ≤ 2 * u + 1
  pub are : (s : ℕ) → (Contains ahead s ⊎ Contains behind s) ↔ IsFound es ps t s

-- ---- a range of positions

-- the choices at its positions: the ends, and the joins of the path under these burdens
pub record AreNotesIn (es : List Event) (burdens : Burdens) (from end : ℕ) (ends : List End) (joins : List Choice) : Type 0 where
  pub rising : from ≤ end
  pub are_ends : AreEndsIn es from end ends
  pub are_joins : AreJoinsIn es burdens from end joins

-- The way back has come to position a: all choices at a and after it were taken, and no end and no join of an entered
-- child stands between a and the last one that was.
pub record HasCome (es : List Event) (ps : List ℕ) (a : ℕ) (s : WayBack) : Type 0 where
  pub time : ℕ
  pub after : 2 * a ≤ time
  pub says : Says es ps time s.onward
  pub found : AreFound es ps time s.ahead.items s.behind.items
  pub no_ends : (u : ℕ) → spawns (event_at es u) ≡ true → 2 * partner es u + 1 < time → partner es u < a
  pub no_joins : (u : ℕ) → spawns (event_at es u) ≡ true → On 0 ps (suc u) → 2 * join es u < time → join es u < a

-- So the path goes on so from position a, where a range begins.
abbrev pub StandsAt : List Event → List ℕ → ℕ → Onward → Type 0
StandsAt es ps a Live = Running es ps (2 * a)
StandsAt es ps a (Skip u) = Skipping es ps (2 * a) u ⊎ ((a ≤ u) × Running es ps (2 * a))
StandsAt es ps a (Seek s) = Seeking es ps (2 * a) s
