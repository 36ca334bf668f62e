-- A stretch without the rows that none of its ways enters comes to the same.
use Rattle.std.proofs.Common.{◌≡◌, ℕ, ◌≤◌, Bool, List, [], ◌∷◌, length, ◌∙◌, arith}
use Rattle.std.specs.Global.{Box}
use Rattle.spp_event.specs.Recordings.{Recording}
use Rattle.spp_maxplus.specs.declared.state.Burdens.{Burdens}
use Rattle.spp_ways.specs.declared.log.Merged.{Merged}
use Rattle.spp_ways.specs.declared.log.LogRow.{LogRow}
use Rattle.spp_ways.specs.declared.frame_ways.FrameWays.{FrameWays}
use Rattle.spp_ways.specs.Enclosures.{Enclosure}
use Rattle.spp_ways.specs.Ways.{Ways}
use Rattle.spp_ways.specs.Stretches.{AreEnclosed, IsStretch}
use Rattle.spp_pass.specs.declared.counted_frame.CountedFrame.{CountedFrame}
use Rattle.spp_pass.specs.Passes.{Seen}
use Rattle.spp_pass.specs.Stretches.{enclosure}
use Rattle.spp_part.specs.States.{Both}
use Rattle.spp_part.specs.Parts.{StretchOf, AreJoined, IsJoinedOnto, Takes}

-- other rows and frames with the same ways
pub record SameWays (x : StretchOf) (rows : List LogRow) (ways : List FrameWays) : Type 0 where
  pub laid : IsStretch rows ways
  pub same : (on : Bool) (e : Enclosure) (base : Box Merged) (us : List Ways) → AreEnclosed on e base x.rows x.ways us → AreEnclosed on e base rows ways us
  pub few : length rows ≤ length x.rows
  pub many : length ways ≡ length x.ways

-- the stretch with these
abbrev pub with_ways : StretchOf → List LogRow → List FrameWays → StretchOf
with_ways x rows ways = record x { rows = rows; ways = ways }

module _ (x : StretchOf) (rows : List LogRow) (ways : List FrameWays) (h : SameWays x rows ways) where
  joined : (on : Bool) (g : CountedFrame) (s : Seen) (ws then : List Ways) → AreJoined on x g s ws then → AreJoined on (with_ways x rows ways) g s ws then
  joined on g s [] then j = j
  joined on g s (w ∷ ws) then j = λ base is. let k = j base is in (k.0, h.same on (enclosure g s) base k.0 k.1, k.2)

  onto : (first : ℕ) (s : Seen) (gs : List CountedFrame) (vs : Both) (new : Seen) (then : Both) → IsJoinedOnto first x s gs vs new then → IsJoinedOnto first (with_ways x rows ways) s gs vs new then
  onto first s [] vs new then j = j
  onto first s (g ∷ gs) vs new then j = (j.0, λ on. joined on g s (vs on) (then on) (j.1 on))

  pub takes_same : (trace : Recording) (burdens : Burdens) (first i k : ℕ) (settled : Bool) → Takes trace burdens first i k settled x → Takes trace burdens first i k settled (with_ways x rows ways)
  takes_same trace burdens first i k settled t = record {
    forward = t.forward;
    on = λ s vs at none. let r = t.on s vs at none in (r.0, r.1, r.2, onto first s s.frames vs r.0 r.1 r.3);
    calls = t.calls;
    laid = h.laid;
    many = h.many ∙ t.many;
    short = (let a = h.few in let b = t.short in omega arith);
    alone = t.alone;
  }
