-- A summary as it is kept.
use Rattle.std.specs.Prelude.{ℕ, ◌+◌, List, ◌∷◌, ◌++◌, reverse}
use Rattle.spp_summary.specs.declared.opens.Open.{Open}
use Rattle.spp_summary.specs.declared.storage.Storage.{Storage}
use Rattle.spp_piece.specs.declared.pieces.Unmatched.{Unmatched}
use Rattle.spp_piece.specs.Summary.{Sum}
use Rattle.spp_piece.specs.Bound.{cost, load_frames}
use Rattle.spp_summary.specs.KeptFrames.{told, AreLaid}

abbrev pub seen : Storage → Sum
seen p = told p.returns.items p.middle p.since (reverse p.opens.items) (reverse p.states.items) p.run p.before p.fault

-- with those returns behind its own
abbrev pub seen_before : List Unmatched → Storage → Sum
seen_before rs p = record (seen p) { returns = p.returns.items ++ rs }

-- with one frame more, the innermost
abbrev pub seen_with : Open → Storage → Sum
seen_with o p =
    told p.returns.items p.middle p.since (o ∷ reverse p.opens.items) (reverse p.states.items) p.run p.before p.fault

abbrev pub IsLaid : Storage → Type 0
IsLaid p = AreLaid p.run p.before (reverse p.opens.items) (reverse p.states.items) p.since

-- the weights of the frames that are open
abbrev pub open_load : Sum → ℕ
open_load s = cost s.middle + load_frames s.frames

-- the same with that work
abbrev pub with_work : ℕ → Sum → Sum
with_work n s = record { returns = s.returns; middle = s.middle; frames = s.frames; work = n; fault = s.fault }
