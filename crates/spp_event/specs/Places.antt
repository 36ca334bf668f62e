-- Where events stand in a body.
use Rattle.std.specs.Prelude.{◌≡◌, ◌⊎◌, ℕ, ◌*◌, ◌-◌, ◌<◌, ◌≤◌, List, [], ◌∷◌, length, take, drop, slice_get, Some}
use Rattle.spp_event.specs.declared.version.Version.{Version}
use Rattle.spp_event.specs.declared.version.Version.TheVariants.{One, Two}
use Rattle.spp_event.specs.declared.layout.Layout.{Layout}
use Rattle.spp_event.specs.declared.layout.Layout.TheVariants.{Records, Items}
use Rattle.spp_event.specs.Items.{items}

-- the bytes end, or an item begins at the first
abbrev pub GoesOn : List ℕ → Type 0
GoesOn [] = Unit {0}
GoesOn (b ∷ bs) = 128 ≤ b

-- where there are bytes of a body, and those stand behind them, no item is cut between; of records it says nothing
abbrev pub IsJoint : Version → List ℕ → List ℕ → Type 0
IsJoint One bytes behind = Unit {0}
IsJoint Two bytes behind = (length bytes ≡ 0) ⊎ GoesOn behind

-- item i begins at that place; where there is none, it is the end
pub record IsItemPlace (body : List ℕ) (i place : ℕ) : Type 0 where
  pub within : place ≤ length body
  pub rest : drop i (items body) ≡ items (drop place body)

-- an item goes from the one place to the other
pub record IsItemBetween (body : List ℕ) (place next : ℕ) : Type 0 where
  pub some : place < next
  pub within : next ≤ length body
  pub is : items (drop place body) ≡ take (next - place) (drop place body) ∷ items (drop next body)

-- these are the places of every 64th item, the first one among them
pub record AreSamples (body : List ℕ) (places : List ℕ) : Type 0 where
  pub each : (j place : ℕ) → slice_get places j ≡ Some place → IsItemPlace body (j * 64) place
  pub all : length (items body) ≤ 64 * length places

-- the version whose events lie so
abbrev pub version_of : Layout → Version
version_of Records = One
version_of (Items samples) = Two

-- what is noted of the body is right
abbrev pub IsLayoutOf : Layout → List ℕ → Type 0
IsLayoutOf Records body = Unit {0}
IsLayoutOf (Items samples) body = AreSamples body samples.places.items
