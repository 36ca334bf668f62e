-- Unmatched returns as they are kept.
use Rattle.std.specs.Prelude.{ℕ, ◌+◌, ◌-◌, ◌<◌, ◌≤◌, List, [], ◌∷◌, length, Option, Some, None}
use Rattle.spp_piece.specs.declared.states.ClosingWeights.{ClosingWeights}
use Rattle.spp_summary.specs.declared.returns.Close.{Close}
use Rattle.spp_summary.specs.declared.returns.Close.TheVariants.{Strand, Kept}
use Rattle.spp_summary.specs.declared.returns.Return.{Return}
use Rattle.spp_summary.specs.declared.returns.Return.TheVariants as return
use Rattle.spp_piece.specs.declared.segs.Segs.{Segs}
use Rattle.spp_piece.specs.declared.pieces.Unmatched.{Unmatched}
use Rattle.spp_piece.specs.Pair.{idle, then, strand, added}

abbrev pub return_of : Segs → ℕ → Unmatched
return_of segs at = record { segs = segs; at = at }

-- the returns, of which those that are kept in full have what happened before them in the list
abbrev pub returns_of : List Close → List Segs → List Unmatched
returns_of [] gs = []
returns_of (Strand at run ∷ cs) gs = return_of (strand run) at ∷ returns_of cs gs
returns_of (Kept at ∷ cs) [] = return_of idle at ∷ returns_of cs []
returns_of (Kept at ∷ cs) (g ∷ gs) = return_of g at ∷ returns_of cs gs

-- how many those are
abbrev pub kept_count : List Close → ℕ
kept_count [] = 0
kept_count (Strand at run ∷ cs) = kept_count cs
kept_count (Kept at ∷ cs) = kept_count cs + 1

-- The returns; how many of them are kept in full; and for how many returns, and for how many of those, there is room.
pub record Returned : Type 0 where
  pub items : List Unmatched
  pub kept : ℕ
  pub room : ℕ
  pub kept_room : ℕ

-- room to chain the one and those of the other that are left once so many frames have closed, of which the first may have
-- to be kept in full: in that one of the two which then has more
pub record HasReturnRoom (frames : ℕ) (p q : Returned) : Type 0 where
  pub first : frames < length q.items → q.kept < q.kept_room
  pub room : frames < length q.items → length q.items - frames ≤ length p.items → length p.items + (length q.items - frames) ≤ p.room
  pub kept : frames < length q.items → length q.items - frames ≤ length p.items → p.kept + (q.kept + 1) ≤ p.kept_room
  pub later_room : length p.items < length q.items - frames → length p.items + (length q.items - frames) ≤ q.room
  pub later_kept : length p.items < length q.items - frames → p.kept + (q.kept + 1) ≤ q.kept_room

abbrev pub unmatched_of : Return → Unmatched
unmatched_of (return.Strand run at) = return_of (strand run) at
unmatched_of (return.Kept segs at) = return_of segs at

-- the events of which more is known, if any, and then those
abbrev pub pending_of : Option Segs → ClosingWeights → Segs
pending_of None w = added w
pending_of (Some g) w = then g (added w)
