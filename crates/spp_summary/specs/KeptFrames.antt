-- Open frames as they are kept, the innermost first, and the summary that they are part of.
use Rattle.std.specs.Prelude.{◌≡◌, ℕ, ◌+◌, ◌-◌, ◌≤◌, Bool, true, false, List, [], ◌∷◌, Option}
use Rattle.spp_event.specs.declared.records.EventFault.{EventFault}
use Rattle.spp_summary.specs.declared.opens.Open.{Open}
use Rattle.spp_summary.specs.declared.opens.Kept.{Kept}
use Rattle.spp_piece.specs.declared.segs.Segs.{Segs}
use Rattle.spp_piece.specs.declared.states.States.{States}
use Rattle.spp_piece.specs.declared.pieces.Frame.{Frame}
use Rattle.spp_piece.specs.declared.pieces.Unmatched.{Unmatched}
use Rattle.spp_piece.specs.Pair.{start, after_strand, then, strand}
use Rattle.spp_piece.specs.Summary.{Sum}

-- a frame that was just opened
abbrev pub fresh : Kept
fresh = record { states = start; counted = 0 }

-- what is kept of a frame, the first of the list; where nothing is, all that ran since its opening is one strand
abbrev pub kept_of : Bool → List Kept → Kept
kept_of false ks = fresh
kept_of true [] = fresh
kept_of true (k ∷ ks) = k

-- what is kept of the others
abbrev pub past : Bool → List Kept → List Kept
past false ks = ks
past true [] = []
past true (k ∷ ks) = ks

abbrev pub HasKept : Bool → List Kept → Type 0
HasKept false ks = Unit {0}
HasKept true [] = ⊥
HasKept true (k ∷ ks) = Unit {0}

-- the states of a frame, where that work has run since it was opened
abbrev pub ran : ℕ → Kept → States
ran run k = after_strand (run - k.counted) k.states

-- the frame with these states, before which there is that work
abbrev pub with_kept : ℕ → Open → States → Frame
with_kept before o s =
    record { kind = o.kind; at = o.at; site = o.site; func = o.func; before = before; states = s }

-- the frame, where that work has run since it was opened
abbrev pub frame_of : ℕ → ℕ → Open → Kept → Frame
frame_of run before o k = with_kept before o (ran run k)

-- the frames: work has run since the innermost was opened, and there is work before that
abbrev pub frames_of : ℕ → ℕ → List Open → List Kept → List Frame
frames_of run before [] ks = []
frames_of run before (o ∷ os) ks =
    frame_of run before o (kept_of o.kept ks) ∷ frames_of o.gap (before - o.gap) os (past o.kept ks)

-- the work before the outermost frame was opened, or that in all
abbrev pub outside : ℕ → List Open → ℕ
outside run [] = run
outside run (o ∷ os) = outside o.gap os

abbrev pub told : List Unmatched → Segs → ℕ → List Open → List Kept → ℕ → ℕ → Option (ℕ × EventFault) → Sum
told rs m since os ks run before fault =
    record {
      returns = rs;
      middle = then m (strand (outside run os - since));
      frames = frames_of run before os ks;
      work = before + run;
      fault = fault;
    }

-- no more is counted than has run, the gaps are the work before, and the kept states are those of the frames that have
-- such
abbrev pub AreLaid : ℕ → ℕ → List Open → List Kept → ℕ → Type 0
AreLaid run before [] ks since = (since ≤ run) × (before ≡ 0) × (ks ≡ [])
AreLaid run before (o ∷ os) ks since =
    ((kept_of o.kept ks).counted ≤ run) × (o.gap ≤ before) × HasKept o.kept ks × AreLaid o.gap (before - o.gap) os (past o.kept ks) since

-- ---- the same, the outermost first

-- what has run since a frame was opened, within which these were opened: up to the next one, or that
abbrev pub run_within : ℕ → List Open → ℕ
run_within run [] = run
run_within run (o ∷ os) = o.gap

-- the frames: work has run since the innermost was opened, and there is work before the frame around the outermost
abbrev pub frames_inwards : ℕ → ℕ → List Open → List Kept → List Frame
frames_inwards run before [] ks = []
frames_inwards run before (o ∷ os) ks =
    frame_of (run_within run os) (before + o.gap) o (kept_of o.kept ks) ∷ frames_inwards run (before + o.gap) os (past o.kept ks)

-- the work before the innermost
abbrev pub work_within : ℕ → List Open → ℕ
work_within before [] = before
work_within before (o ∷ os) = work_within (before + o.gap) os

-- no more is counted than has run, and the kept states are those of the frames that have such
abbrev pub AreLaidInwards : ℕ → List Open → List Kept → Type 0
AreLaidInwards run [] ks = ks ≡ []
AreLaidInwards run (o ∷ os) ks = ((kept_of o.kept ks).counted ≤ run_within run os) × HasKept o.kept ks × AreLaidInwards run os (past o.kept ks)
