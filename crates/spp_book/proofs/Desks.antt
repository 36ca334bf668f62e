-- What is known of a desk when it is closed.
use Rattle.std.proofs.Common.{◌≡◌, ℕ, ◌<◌, ◌≤◌, ◌∙◌, Bool, true, false, List, length, arith, set, IfErr, Ok, Err, Result}
use Rattle.std.proofs.lemmas.List.Sums.{count_by-le-length}
use Rattle.std.proofs.Math.ListN.{length-set}
use Rattle.spp_book.specs.Books.{count_of, is_accepted, MissingIs}
use Rattle.spp_book.specs.Desks.{IsShort}
use Rattle.spp_book.specs.declared.piece.CloseFault.{CloseFault}
use Rattle.spp_book.specs.declared.piece.CloseFault.TheVariants as close
use Rattle.spp_book.proofs.Lists.{flags_set, counted_from}

-- a part that wasn't accepted keeps the count below the number of parts
flags_below : (bs : List Bool) (i : ℕ) → i < length bs → is_accepted bs i ≡ false → count_of bs < length bs
flags_below bs i lt h =
    let s = flags_set bs i lt h in
    let t = count_by-le-length (λ (b : Bool). b) (set bs i true) in
    omega (arith, s, t, length-set bs i true)

-- where the least part that wasn't accepted is told, fewer were accepted than there are parts
short_of : (f : CloseFault) (bs : List Bool) (share parts : ℕ) → length bs ≡ parts → share ≡ count_of bs → MissingIs f bs → IsShort f share parts
short_of (close.Missing number) bs share parts long counted is =
    let below = flags_below bs number is.0 is.1 in
    let before = counted_from bs number is.2 in
    (omega (arith, before, counted), omega (arith, below, long, counted))
short_of close.Memory bs share parts long counted is = counted ∙ is ∙ long

pub shorts : {C : Type 0} (r : Result C CloseFault) (bs : List Bool) (share parts : ℕ) → length bs ≡ parts → share ≡ count_of bs → IfErr r (λ f. MissingIs f bs) → IfErr r (λ f. IsShort f share parts)
shorts (Ok x) bs share parts long counted is = tt
shorts (Err f) bs share parts long counted is = short_of f bs share parts long counted is

-- no more parts are accepted than there are
pub few_accepted : (bs : List Bool) (parts count : ℕ) → length bs ≡ parts → count ≡ count_of bs → count ≤ parts
few_accepted bs parts count long counted = let t = count_by-le-length (λ (b : Bool). b) bs in omega (arith, t, long, counted)
