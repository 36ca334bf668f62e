-- The spawned children that the path of a run under some burdens enters.
use Rattle.std.specs.Prelude.{◌≡◌, ℕ, suc, ◌↔◌, Bool, true, false, cond, nat_eq, List, [], ◌∷◌, length, Contains}
use Rattle.spp_event.specs.declared.records.Event.{Event}
use Rattle.spp_maxplus.specs.declared.state.Burdens.{Burdens}
use Rattle.spp_dag.specs.Trace.{event_at, spawns}
use Rattle.spp_dag.specs.Dag.{IsPath, On}
use Rattle.spp_dag.specs.ChoiceLists.{AreRising, IsWithin}

-- a child is spawned at s, and the path of the run enters it
abbrev pub IsEntered : List Event → Burdens → ℕ → Type 0
IsEntered es burdens s = (spawns (event_at es s) ≡ true)
    × ((ps : List ℕ) → IsPath es burdens 0 (length es) ps → On 0 ps (suc s))

-- the spawns, at positions of a range, of the children that the path enters: each once, and in order
pub record AreEnteredIn (es : List Event) (burdens : Burdens) (from end : ℕ) (spawns : List ℕ) : Type 0 where
  pub rise : AreRising spawns
  pub are : (s : ℕ) → Contains spawns s ↔ (IsEntered es burdens s × IsWithin from end s)

-- the spawn is the next of a list
abbrev pub is_next : ℕ → List ℕ → Bool
is_next spawn [] = false
is_next spawn (s ∷ ss) = nat_eq s spawn

-- what is left of the list past that spawn
abbrev pub left_after : ℕ → List ℕ → List ℕ
left_after spawn [] = []
left_after spawn (s ∷ ss) = cond (nat_eq s spawn) ss (s ∷ ss)
