-- Hops back over the choices within a child that a path goes beside.
use Rattle.std.specs.Prelude.{◌≡◌, ℕ, ◌-◌, ◌≤◌, ◌<◌, List, get_or, Option, Some, None}
use Rattle.spp_dag.specs.declared.choices.End.{End}
use Rattle.spp_path.specs.declared.hops.Left.{Left}
use Rattle.spp_path.specs.declared.settling.Onward.{Onward}
use Rattle.spp_path.specs.declared.settling.Pace.{Pace}
use Rattle.spp_path.specs.declared.settling.Pace.TheVariants.{Each, Hops}
use Rattle.spp_path.specs.declared.settling.Onward.TheVariants.{Live, Skip, Seek}

-- Of the first m of these positions the first n are left: the last of those stands at `spawn` or before it, and the next
-- one, if it is among the m, after it.
pub record IsHop (ats : List ℕ) (m spawn n : ℕ) : Type 0 where
  pub most : n ≤ m
  pub kept : 0 < n → get_or ats (n - 1) 0 ≤ spawn
  pub past : n < m → spawn < get_or ats n 0

-- the same of both lists, where there is a spawn; else all are left
abbrev pub AreBefore : List ℕ → List ℕ → Left → Option ℕ → Left → Type 0
AreBefore ends joins old None new = new ≡ old
AreBefore ends joins old (Some spawn) new = IsHop ends old.ends spawn new.ends × IsHop joins old.joins spawn new.joins

-- the child that a path skips, if it skips one
abbrev pub child_skipped : Onward → Option ℕ
child_skipped Live = None
child_skipped (Skip s) = Some s
child_skipped (Seek s) = None

-- The child that a path which goes on so after that return was taken goes beside, if it goes beside one: the one that it
-- skips; or, where it seeks another, the one that returns there.
abbrev pub child_beside : End → Onward → Option ℕ
child_beside e Live = None
child_beside e (Skip s) = Some s
child_beside e (Seek s) = Some e.spawn

-- the spawn to hop to at that pace, where that one may be hopped to
abbrev pub hop_to : Pace → Option ℕ → Option ℕ
hop_to Each o = None
hop_to Hops o = o
