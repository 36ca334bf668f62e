-- What a list of strands, whole children and syncs of one frame does to the state of that frame.
use Rattle.std.specs.Prelude.{ℕ, ◌+◌, Option, Some, None}
use Rattle.spp_maxplus.specs.declared.state.State.{State}
use Rattle.spp_maxplus.specs.declared.state.Burdens.{Burdens}
use Rattle.spp_maxplus.specs.declared.seg.Seg.{Seg}
use Rattle.spp_maxplus.specs.declared.child.ChildKind.{ChildKind}
use Rattle.spp_maxplus.specs.declared.child.ChildKind.TheVariants.{Called, Spawned}
use Rattle.spp_maxplus.specs.Candidate.{greatest, better, shifted}

-- up to the first sync, if there is one, which joins what was waited for before
abbrev pub after_head : Option ℕ → State → State
after_head None s = s
after_head (Some h) s = record { spine = greatest (s.spine + h) s.child; child = None }

-- and from there on
abbrev pub after_rest : ℕ → Option (ℕ × ℕ) → State → State
after_rest add offer s = record { spine = s.spine + add; child = better s.child (shifted s.spine offer) }

-- what the list makes of a state
abbrev pub act : Seg → State → State
act g s = after_rest g.add g.offer (after_head g.head s)

-- no events
abbrev pub idle : Seg
idle = record { head = None; add = 0; offer = None }

-- instructions of the frame itself or of a called child
abbrev pub along : ℕ → Seg
along weight = record { head = None; add = weight; offer = None }

-- a spawned child that closed with that weight
abbrev pub spawned : ℕ → ℕ → Burdens → Seg
spawned at weight burdens =
    record { head = None; add = burdens.continuation; offer = Some (weight + burdens.join, at) }

-- a child of that kind that closed with that weight and was entered at that position
abbrev pub received : Burdens → ChildKind → ℕ → ℕ → Seg
received burdens Called at weight = along weight
received burdens Spawned at weight = spawned at weight burdens

abbrev pub synced : Seg
synced = record { head = Some 0; add = 0; offer = None }

-- ---- one list after another

-- The second list has a sync, and m is the greatest weight from the last sync that the first list counts from, or from
-- its beginning, to there.
abbrev pub then_headed : Option ℕ → ℕ → Seg → Seg
then_headed None m b = record { head = Some m; add = b.add; offer = b.offer }
then_headed (Some h) m b = record { head = Some h; add = m + b.add; offer = shifted m b.offer }

abbrev pub then_by : Seg → Option ℕ → Seg → Seg
then_by a None b = record { head = a.head; add = a.add + b.add; offer = better a.offer (shifted a.add b.offer) }
then_by a (Some h) b = then_headed a.head (greatest (a.add + h) a.offer) b

-- the first list and then the second
abbrev pub then : Seg → Seg → Seg
then a b = then_by a b.head b

-- ---- how large the sums get

abbrev pub or_zero : Option ℕ → ℕ
or_zero None = 0
or_zero (Some n) = n

-- no weight of the state is above this
abbrev pub peak : State → ℕ
peak s = greatest s.spine s.child

-- the list raises the peak of a state by no more than this
abbrev pub rise : Seg → ℕ
rise g = or_zero g.head + greatest g.add g.offer
