-- The value of the job that profiles.
use Rattle.std.specs.Prelude.{◌≡◌, ℕ, ◌+◌, ◌<◌, List, [], ◌∷◌}
use Rattle.spp_event.specs.Recordings.{Recording}
use Rattle.spp_frame.specs.Answers.{IsFaultOf}
use Rattle.spp_frame.specs.declared.profile_fault.ProfileFault.TheVariants.{Bad as BadEvent}
use Rattle.spp_cut.specs.Parts.{PartOf}
use Rattle.spp_maxplus.specs.declared.state.Burdens.{Burdens}
use Rattle.spp_part.specs.declared.part_profile.PartProfile.{PartProfile}
use Rattle.spp_part.specs.Parts.{IsPartProfile, IsSoFar}
use Rattle.spp_jobs.specs.Names.{JobOf, IsNamed, profiles, parts_from}
use Rattle.spp_jobs.specs.Tables.{begin}
use Rattle.spp_jobs.specs.declared.profiled.ProfilePiece.{ProfilePiece}
use Rattle.spp_jobs.specs.declared.profiled.ProfilePiece.TheVariants.{Begun, Bad, Later, Spent}

-- for each part, in order, what it comes to
abbrev pub AreProfilesOf : Recording → Burdens → List PartOf → List PartProfile → Type 0
AreProfilesOf trace burdens [] [] = Unit {0}
AreProfilesOf trace burdens [] (x ∷ xs) = ⊥
AreProfilesOf trace burdens (p ∷ ps) [] = ⊥
AreProfilesOf trace burdens (p ∷ ps) (x ∷ xs) = IsPartProfile trace burdens p.first p.count x × AreProfilesOf trace burdens ps xs

-- Of the parts from number i up to, not including, k: the profile so far, or the first bad event of the trace, where they
-- begin with the first; else what each comes to. What a failed allocation leaves is one of any parts.
abbrev pub IsPieceOf : JobOf → ℕ → ℕ → ProfilePiece → Type 0
IsPieceOf j i k (Begun so_far burdens) = (i ≡ 0) × (burdens ≡ j.burdens) × IsSoFar j.cut.trace j.burdens (begin j.cut k) so_far
IsPieceOf j i k (Bad fault) = (i ≡ 0) × IsFaultOf j.cut.trace.records (BadEvent fault)
IsPieceOf j i k (Later parts) = (0 < i) × AreProfilesOf j.cut.trace j.burdens (parts_from j.cut i k) parts.items
IsPieceOf j i k Spent = Unit {0}

-- the same for the job of that name
abbrev pub IsPiece : List ℕ → ℕ → ℕ → ProfilePiece → Type 0
IsPiece name i k c = (j : JobOf) × IsNamed profiles name j × IsPieceOf j i k c

-- ---- how pieces are joined

-- these are what parts come to that hold the events from one position up to another, in order
abbrev pub Follow : Recording → Burdens → ℕ → List PartProfile → ℕ → Type 0
Follow trace burdens i [] k = k ≡ i
Follow trace burdens i (x ∷ xs) k = (count : ℕ) × IsPartProfile trace burdens i count x × Follow trace burdens (i + count) xs k

-- what the first k events have come to, unless one of them is bad or an allocation failed
abbrev pub IsReached : Recording → Burdens → ℕ → ProfilePiece → Type 0
IsReached trace burdens k (Begun so_far under) = (under ≡ burdens) × IsSoFar trace burdens k so_far
IsReached trace burdens k (Bad fault) = IsFaultOf trace.records (BadEvent fault)
IsReached trace burdens k (Later parts) = ⊥
IsReached trace burdens k Spent = Unit {0}
