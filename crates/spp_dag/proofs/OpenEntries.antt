-- The frames that are open where a range begins.
use Rattle.std.proofs.Common.{◌≡◌, ℕ, ◌≤◌, true, List, [], ◌∷◌, Some, arith}
use Rattle.spp_maxplus.specs.declared.state.State.{State}
use Rattle.spp_dag.specs.declared.stack.EntryFrame.{EntryFrame}
use Rattle.spp_dag.specs.declared.stack.FrameKind.TheVariants.{Root}
use Rattle.spp_dag.specs.Steps.{key_of}

-- the root is the last, and no frame began with more work before it than there is now
abbrev pub AreOpen : ℕ → List EntryFrame → Type 0
AreOpen w [] = ⊥
AreOpen w (f ∷ []) = (f.kind ≡ Root) × (f.before ≡ 0) × (f.top_site ≡ true) × (f.top_caller ≡ true)
AreOpen w (f ∷ g ∷ fs) = (key_of f ≡ Some f.site) × (f.before ≤ w) × AreOpen w (g ∷ fs)

pub open_more : (v w : ℕ) → v ≤ w → (fs : List EntryFrame) → AreOpen v fs → AreOpen w fs
open_more v w l [] h = h
open_more v w l (f ∷ []) h = h
open_more v w l (f ∷ g ∷ fs) h =
    let b : f.before ≤ v = h.1 in
    (h.0, omega arith, open_more v w l (g ∷ fs) h.2)

-- other states of the innermost frame
pub open_state : (w : ℕ) (f : EntryFrame) (s t : State) (fs : List EntryFrame) → AreOpen w (f ∷ fs) → AreOpen w (record f { state = s; burdened = t } ∷ fs)
open_state w f s t [] h = h
open_state w f s t (g ∷ fs) h = h
