-- What the round of profiles tells of a cut trace.
use Rattle.std.proofs.Common.{◌≡◌, length, Result, Ok, Err, IfErr, refl, sym, subst, arith}
use Rattle.spp_event.specs.Recordings.{Recording}
use Rattle.spp_frame.specs.Answers.{IsFaultOf}
use Rattle.spp_frame.specs.declared.profile_fault.ProfileFault.TheVariants.{Bad as BadEvent}
use Rattle.spp_cut.specs.Parts.{CutOf, IsCut, HasFewParts}
use Rattle.spp_maxplus.specs.declared.state.Burdens.{Burdens}
use Rattle.spp_part.specs.Parts.{IsSoFar}
use Rattle.spp_jobs.specs.declared.profiled.ProfilePiece.{ProfilePiece}
use Rattle.spp_jobs.specs.declared.profiled.ProfilePiece.TheVariants.{Begun, Bad, Later, Spent}
use Rattle.spp_jobs.specs.Names.{profiles, JobOf, spell, parts_in}
use Rattle.spp_jobs.specs.ProfilePieces.{IsPieceOf, IsPiece}
use Rattle.spp_jobs.proofs.Spelling.{parts_told}
use Rattle.spp_jobs.proofs.ProfilePieces.{piece_all}
use Rattle.spp_crew.proofs.Profiled.{begin_all}

-- what is said of a bad one
pub if_err : {X E : Type 0} {P Q : E → Type 0} (x : Result X E) → ((e : E) → P e → Q e) → IfErr x P → IfErr x Q
if_err (Ok r) f p = tt
if_err (Err e) f p = f e p

abbrev pub profile_of : CutOf → Burdens → JobOf
profile_of cut burdens = record { kind = profiles; cut = cut; burdens = burdens }

-- what all parts come to
abbrev pub IsWhole : Recording → Burdens → ProfilePiece → Type 0
IsWhole t b (Begun so_far under) = IsSoFar t b (length t.records) so_far
IsWhole t b (Bad fault) = IsFaultOf t.records (BadEvent fault)
IsWhole t b (Later parts) = ⊥
IsWhole t b Spent = Unit {0}

whole_piece : (j : JobOf) → IsCut j.cut → (c : ProfilePiece) → IsPieceOf j 0 (length j.cut.parts) c → IsWhole j.cut.trace j.burdens c
whole_piece j h (Begun so_far under) of = subst (λ n. IsSoFar j.cut.trace j.burdens n so_far) (begin_all j.cut h) of.2
whole_piece j h (Bad fault) of = of.1
whole_piece j h (Later parts) of = let none = of.0 in absurd (omega arith)
whole_piece j h Spent of = tt

pub profiled_told : (cut : CutOf) (b : Burdens) (made : CutOf) (under : Burdens) → IsCut cut → HasFewParts cut → made ≡ cut → under ≡ b → (c : ProfilePiece)
    → IsPiece (spell (profile_of made under)) 0 (parts_in (spell (profile_of made under))) c → IsWhole cut.trace b c
profiled_told cut b made under whole few same also c v =
    let j : JobOf = profile_of made under in
    let h : IsCut made = subst (λ (x : CutOf). IsCut x) (sym same) whole in
    let told : IsPieceOf j 0 (length made.parts) c =
    subst (λ k. IsPieceOf j 0 k c) (parts_told j) (piece_all j refl h (subst (λ (x : CutOf). HasFewParts x) (sym same) few) (parts_in (spell j)) c v) in
    subst (λ (y : Burdens). IsWhole cut.trace y c) also (subst (λ (x : CutOf). IsWhole x.trace under c) same (whole_piece j h c told))
