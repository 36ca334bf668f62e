-- The records of parts that cover a range are those of the range.
use Rattle.std.proofs.Common.{◌≡◌, ℕ, suc, ◌+◌, ◌-◌, ◌≤◌, List, [], ◌∷◌, ◌++◌, length, take, drop, sym, ap, ap₂, ◌∙◌, arith}
use Rattle.std.specs.List.{flat_map}
use Rattle.std.proofs.lemmas.List.{drop-drop}
use Rattle.std.proofs.lemmas.List.Concat.{flat_map-cons}
use Rattle.std.proofs.Math.Seq.{take-add, take-length}
use Rattle.spp_event.specs.Recordings.{Recording}
use Rattle.spp_cut.specs.Parts.{PartOf, CutOf, records_in, Cover, IsCut}

-- a range doesn't end before it begins
pub cover_le : (t : Recording) (number from end : ℕ) (ps : List PartOf) → Cover t number from ps end → from ≤ end
cover_le t number from end [] h = let e : from ≡ end = h in omega arith
cover_le t number from end (p ∷ ps) h =
    let l = cover_le t (suc number) (from + p.count) end ps h.3 in
    omega arith

all_from : (t : Recording) (number from end : ℕ) (ps : List PartOf) → Cover t number from ps end → flat_map records_in ps ≡ take (end - from) (drop from t.records)
all_from t number from end [] h =
    let e : from ≡ end = h in
    let z : 0 ≡ end - from = omega arith in
    ap (λ n. take n (drop from t.records)) z
all_from t number from end (p ∷ ps) h =
    let rs = drop from t.records in
    let le = cover_le t (suc number) (from + p.count) end ps h.3 in
    let one : records_in p ≡ take p.count rs = ap (λ (u : Recording). take p.count (drop p.first u.records)) h.0 ∙ ap (λ n. take p.count (drop n t.records)) h.2 in
    let rest : flat_map records_in ps ≡ take (end - (from + p.count)) (drop p.count rs) =
    all_from t (suc number) (from + p.count) end ps h.3 ∙ ap (λ l. take (end - (from + p.count)) l) (sym (drop-drop p.count from t.records)) in
    let long : p.count + (end - (from + p.count)) ≡ end - from = omega arith in
    flat_map-cons records_in p ps ∙ ap₂ (λ a b. a ++ b) one rest
    ∙ sym (take-add p.count (end - (from + p.count)) rs) ∙ ap (λ n. take n rs) long

-- of all parts of a cut
pub all_records : (c : CutOf) → IsCut c → flat_map records_in c.parts ≡ c.trace.records
all_records c h = all_from c.trace 0 0 (length c.trace.records) c.parts h
    ∙ ap (λ n. take n c.trace.records) (let z : length c.trace.records - 0 ≡ length c.trace.records = omega arith in z) ∙ take-length c.trace.records
