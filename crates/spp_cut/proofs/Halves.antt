-- How many events parts have that are split in two, or that cover a range.
use Rattle.std.proofs.Common.{◌≡◌, ℕ, suc, ◌+◌, List, [], ◌∷◌, length, take, drop, arith}
use Rattle.std.proofs.lemmas.List.Sums.{sum_by-cons, sum_by-take-drop}
use Rattle.spp_event.specs.Recordings.{Recording}
use Rattle.spp_cut.specs.Parts.{PartOf, CutOf, events_in, Cover, IsCut}

pub events_parted : (ps : List PartOf) (at : ℕ) → events_in (take at ps) + events_in (drop at ps) ≡ events_in ps
events_parted ps at = sum_by-take-drop (λ p. p.count) ps at

events_from : (t : Recording) (number from end : ℕ) (ps : List PartOf) → Cover t number from ps end → from + events_in ps ≡ end
events_from t number from end [] h = let e : from ≡ end = h in omega arith
events_from t number from end (p ∷ ps) h =
    let rest = events_from t (suc number) (from + p.count) end ps h.3 in
    let one : events_in (p ∷ ps) ≡ p.count + events_in ps = sum_by-cons (λ q. q.count) p ps in
    omega arith

-- of all parts of a cut
pub all_events : (c : CutOf) → IsCut c → events_in c.parts ≡ length c.trace.records
all_events c h = let e = events_from c.trace 0 0 (length c.trace.records) c.parts h in omega arith
