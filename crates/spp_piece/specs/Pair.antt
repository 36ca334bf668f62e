-- Both burdens side by side: the first is 0.
use Rattle.std.specs.Prelude.{ℕ}
use Rattle.spp_maxplus.specs.declared.state.Burdens.{Burdens}
use Rattle.spp_maxplus.specs.State as one
use Rattle.spp_maxplus.specs.Seg as seg
use Rattle.spp_piece.specs.declared.states.ClosingWeights.{ClosingWeights}
use Rattle.spp_piece.specs.declared.states.States.{States}
use Rattle.spp_piece.specs.declared.segs.Segs.{Segs}
use Rattle.spp_piece.specs.declared.pieces.Frame.{Frame}
use Rattle.spp_maxplus.specs.declared.child.ChildKind.{ChildKind}

abbrev pub free : Burdens
free = record { continuation = 0; join = 0 }

abbrev pub start : States
start = record { plain = one.start; burdened = one.start }

abbrev pub after_strand : ℕ → States → States
after_strand count s =
    record { plain = one.after_strand count s.plain; burdened = one.after_strand count s.burdened }

abbrev pub after_sync : States → States
after_sync s = record { plain = one.after_sync s.plain; burdened = one.after_sync s.burdened }

-- the frame has returned to its caller or spawner, whose states these are
abbrev pub after_return_by : ChildKind → Burdens → ℕ → ℕ → ℕ → States → States
after_return_by kind burdens at g h s =
    record { plain = one.after_child free kind at g s.plain; burdened = one.after_child burdens kind at h s.burdened }

abbrev pub after_return : Burdens → Frame → States → States
after_return burdens f = after_return_by f.kind burdens f.at (one.close f.states.plain) (one.close f.states.burdened)

-- the same for what events do
abbrev pub act : Segs → States → States
act g s = record { plain = seg.act g.plain s.plain; burdened = seg.act g.burdened s.burdened }

abbrev pub idle : Segs
idle = record { plain = seg.idle; burdened = seg.idle }

abbrev pub then : Segs → Segs → Segs
then a b = record { plain = seg.then a.plain b.plain; burdened = seg.then a.burdened b.burdened }

abbrev pub strand : ℕ → Segs
strand count = record { plain = seg.along count; burdened = seg.along count }

abbrev pub sync : Segs
sync = record { plain = seg.synced; burdened = seg.synced }

abbrev pub fed_by : ChildKind → Burdens → ℕ → ℕ → ℕ → Segs
fed_by kind burdens at g h = record { plain = seg.received free kind at g; burdened = seg.received burdens kind at h }

-- what a frame's return does to the frame below
abbrev pub fed : Burdens → Frame → Segs
fed burdens f = fed_by f.kind burdens f.at (one.close f.states.plain) (one.close f.states.burdened)

-- the weights with which a frame closes
abbrev pub weights_of : States → ClosingWeights
weights_of s = record { plain = one.close s.plain; burdened = one.close s.burdened }

-- instructions of a frame or of called children, which may weigh more with burdens
abbrev pub added : ClosingWeights → Segs
added w = record { plain = seg.along w.plain; burdened = seg.along w.burdened }
