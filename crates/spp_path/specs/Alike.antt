-- Where two settled paths of a run go alike.
use Rattle.std.specs.Prelude.{◌≡◌, ℕ, Bool, length, slice_get, Option, Some, None}
use Rattle.spp_path.specs.declared.settled.PathStart.{PathStart}
use Rattle.spp_path.specs.Settled.{PathOf, entered_in}

-- where a path goes at a start: the node of the innermost open frame that it enters, and whether that frame runs on
abbrev pub way_of : Option PathStart → Option (ℕ × Bool)
way_of None = None
way_of (Some p) = Some (p.live, p.running)

abbrev pub way_at : PathOf → ℕ → Option (ℕ × Bool)
way_at s k = way_of (slice_get s.starts k)

-- both were settled over the same stacks; where part k begins they enter the same frames, of which the innermost runs on
-- along both or neither; and in the part they enter the children of the same spawns
pub record GoAlike (k : ℕ) (one other : PathOf) : Type 0 where
  pub stacks : other.stacks ≡ one.stacks
  pub count : length other.starts ≡ length one.starts
  pub way : way_at other k ≡ way_at one k
  pub spawns : entered_in other k ≡ entered_in one k
