-- Where a trace is cut, and which cuts are refused.
use Rattle.std.specs.Prelude.{◌≡◌, ℕ, ◌-◌, ◌*◌, ◌/◌, ◌<◌, ◌≤◌, List, [], ◌∷◌, length, map, take, slice_index_or}
use Rattle.spp_cut.specs.declared.cutting.CutFault.{CutFault}
use Rattle.spp_cut.specs.declared.cutting.CutFault.TheVariants.{TooMany, OutOfRange, NotRising, Memory}
use Rattle.spp_event.specs.Items.{items}
use Rattle.spp_event.specs.Recordings.{Recording}
use Rattle.spp_cut.specs.Parts.{PartOf}

-- n parts, of which part k begins at the k-th of n even steps through the events, rounded down
abbrev pub AreEven : ℕ → ℕ → List PartOf → Type 0
AreEven events n ps = (length ps ≡ n)
    × ((k : ℕ) (p : PartOf) → k < n → (slice_index_or ps k p).first ≡ k * events / n)

-- the first part begins at 0, and the next ones at the cuts
abbrev pub BeginAt : List ℕ → List PartOf → Type 0
BeginAt cuts ps = map (λ p. p.first) ps ≡ 0 ∷ cuts

-- the positions don't fall from one to the next: the first isn't below `from`, and the last isn't above `end`
abbrev pub AreInOrder : ℕ → List ℕ → ℕ → Type 0
AreInOrder from [] end = from ≤ end
AreInOrder from (cut ∷ cuts) end = (from ≤ cut) × AreInOrder cut cuts end

-- how many events of a trace in version 2 come before that byte of its body: as many as have an item that begins before it
abbrev pub events_before : Recording → ℕ → ℕ
events_before t offset = length (items (take offset t.body))

-- the cut at that place is in the range, and above the one before it
abbrev pub IsInRange : ℕ → List ℕ → ℕ → Type 0
IsInRange events cuts k = slice_index_or cuts k 0 ≤ events

abbrev pub IsRising : List ℕ → ℕ → Type 0
IsRising cuts k = 0 < k → slice_index_or cuts (k - 1) 0 < slice_index_or cuts k 0

-- all cuts before that place are good
abbrev pub AreGoodTo : ℕ → List ℕ → ℕ → Type 0
AreGoodTo events cuts k = (j : ℕ) → j < k → IsInRange events cuts j × IsRising cuts j

-- what is told of cuts that are refused: too many of them, else the first that is out of range or not above the one
-- before
abbrev pub IsCutFault : ℕ → List ℕ → CutFault → Type 0
IsCutFault events cuts TooMany = 65535 < length cuts
IsCutFault events cuts (OutOfRange k) = (length cuts ≤ 65535) × (k < length cuts) × AreGoodTo events cuts k × (IsInRange events cuts k → ⊥)
IsCutFault events cuts (NotRising k) =
    (length cuts ≤ 65535) × (k < length cuts) × AreGoodTo events cuts k × IsInRange events cuts k × (IsRising cuts k → ⊥)
IsCutFault events cuts Memory = Unit {0}
