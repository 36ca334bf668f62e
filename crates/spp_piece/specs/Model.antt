-- The stack of a piece as the stack machine of the model has it.
use Rattle.std.specs.Prelude.{ℕ, List, [], ◌∷◌}
use Rattle.spp_dag.specs.declared.stack.OpenFrame.{OpenFrame}
use Rattle.spp_dag.specs.declared.stack.FrameKind.{FrameKind}
use Rattle.spp_dag.specs.declared.stack.FrameKind.TheVariants as kind
use Rattle.spp_piece.specs.declared.states.States.{States}
use Rattle.spp_piece.specs.declared.pieces.Frame.{Frame}
use Rattle.spp_maxplus.specs.declared.child.ChildKind.{ChildKind}
use Rattle.spp_maxplus.specs.declared.child.ChildKind.TheVariants.{Called, Spawned}

abbrev pub kind_of : ChildKind → FrameKind
kind_of Called = kind.Called
kind_of Spawned = kind.Spawned

abbrev pub open_frame : Frame → OpenFrame
open_frame f = record { kind = kind_of f.kind; at = f.at; site = f.site; func = f.func; plain = f.states.plain; burdened = f.states.burdened }

abbrev pub open_root : ℕ → States → OpenFrame
open_root func r = record { kind = kind.Root; at = 0; site = 0; func = func; plain = r.plain; burdened = r.burdened }

-- the open frames, the innermost first and the root, which runs that function, last
abbrev pub open_frames : ℕ → List Frame → States → List OpenFrame
open_frames func [] r = open_root func r ∷ []
open_frames func (f ∷ fs) r = open_frame f ∷ open_frames func fs r
