-- Neighbouring parts of a cut.
use Rattle.std.proofs.Common.{◌≡◌, ℕ, zero, suc, ◌+◌, ◌-◌, ◌<◌, ◌≤◌, List, [], ◌∷◌, ◌++◌, length, get_or, take, drop, refl, sym, ap, ◌∙◌, arith}
use Rattle.std.specs.List.{flat_map}
use Rattle.std.proofs.lemmas.List.{length-append, length-drop, length-take-le, drop-drop, drop_more}
use Rattle.std.proofs.lemmas.List.Sums.{sum_by-cons, sum_by-append}
use Rattle.std.proofs.Math.Seq.{take-add, take-length}
use Rattle.spp_event.specs.Recordings.{Recording}
use Rattle.spp_cut.specs.Parts.{PartOf, CutOf, Cover, IsCut, events_in, records_in}
use Rattle.spp_cut.proofs.Whole.{cover_le}

-- neighbouring ranges of a list make one
pub ranges_join : {A : Type 0} (xs : List A) (i j k : ℕ) → i < j → j < k → take (j - i) (drop i xs) ++ take (k - j) (drop j xs) ≡ take (k - i) (drop i xs)
ranges_join xs i j k h l =
    let whole : k - i ≡ (j - i) + (k - j) = omega arith in
    let mid : i + (j - i) ≡ j = omega arith in
    let rest : drop (j - i) (drop i xs) ≡ drop j xs = drop-drop (j - i) i xs ∙ ap (λ n. drop n xs) mid in
    sym (ap (λ n. take n (drop i xs)) whole ∙ (take-add (j - i) (k - j) (drop i xs) ∙ ap (λ ys. take (j - i) (drop i xs) ++ take (k - j) ys) rest))

-- a range of one element
pub range_one : {A : Type 0} (xs : List A) (k : ℕ) (x : A) → k < length xs → x ≡ get_or xs k x → take ((k + 1) - k) (drop k xs) ≡ x ∷ []
range_one xs k x lt is =
    let one : (k + 1) - k ≡ suc zero = omega arith in
    ap (λ n. take n (drop k xs)) one ∙ ap (take (suc zero)) (drop_more xs k x lt) ∙ ap (λ y. y ∷ []) (sym is)

-- the range of all elements
pub range_all : {A : Type 0} (xs : List A) (k : ℕ) → k ≡ length xs → take (k - 0) (drop 0 xs) ≡ xs
range_all xs k e =
    let all : k - 0 ≡ length xs = omega arith in
    ap (λ n. take n xs) all ∙ take-length xs

-- how many events there are before a later part
pub events_to : (ps : List PartOf) (i j : ℕ) → i < j → events_in (take j ps) ≡ events_in (take i ps) + events_in (take (j - i) (drop i ps))
events_to ps i j lt =
    let mid : j ≡ i + (j - i) = omega arith in
    ap (λ n. events_in (take n ps)) mid ∙ ap events_in (take-add i (j - i) ps) ∙ sum_by-append (λ p. p.count) (take i ps) (take (j - i) (drop i ps))

-- part k begins behind the events of those before it
begins_from : (t : Recording) (number from end : ℕ) (ps : List PartOf) → Cover t number from ps end → (k : ℕ) (p : PartOf) → k < length ps
    → (get_or ps k p).first ≡ from + events_in (take k ps)
begins_from t number from end [] h k p lt = absurd (omega arith)
begins_from t number from end (q ∷ qs) h zero p lt = let e = h.2 in omega arith
begins_from t number from end (q ∷ qs) h (suc k) p lt =
    let more : events_in (q ∷ take k qs) ≡ q.count + events_in (take k qs) = sum_by-cons (λ (x : PartOf). x.count) q (take k qs) in
    let rest = begins_from t (suc number) (from + q.count) end qs h.3 k p (omega arith) in
    omega arith

pub begins : (c : CutOf) → IsCut c → (k : ℕ) (p : PartOf) → k < length c.parts → (get_or c.parts k p).first ≡ events_in (take k c.parts)
begins c h k p lt =
    let e = begins_from c.trace 0 0 (length c.trace.records) c.parts h k p lt in
    omega arith

-- a part has as many records as it has events
first_counted : (t : Recording) (number from end : ℕ) (ps : List PartOf) → Cover t number from ps end → end ≤ length t.records → (n : ℕ)
    → length (flat_map records_in (take n ps)) ≡ events_in (take n ps)
first_counted t number from end ps h le zero = refl
first_counted t number from end [] h le (suc n) = refl
first_counted t number from end (p ∷ ps) h le (suc n) =
    let within = cover_le t (suc number) (from + p.count) end ps h.3 in
    let same : length p.trace.records ≡ length t.records = ap (λ (u : Recording). length u.records) h.0 in
    let at : p.first ≡ from = h.2 in
    let one : length (records_in p) ≡ p.count = length-take-le p.count (drop p.first p.trace.records) (omega (arith, length-drop p.first p.trace.records)) in
    let rest = first_counted t (suc number) (from + p.count) end ps h.3 le n in
    let all : length (records_in p ++ flat_map records_in (take n ps)) ≡ length (records_in p) + length (flat_map records_in (take n ps)) =
    length-append (records_in p) (flat_map records_in (take n ps)) in
    let sums : events_in (p ∷ take n ps) ≡ p.count + events_in (take n ps) = sum_by-cons (λ (x : PartOf). x.count) p (take n ps) in
    omega arith

range_counted : (t : Recording) (number from end : ℕ) (ps : List PartOf) → Cover t number from ps end → end ≤ length t.records → (i n : ℕ)
    → length (flat_map records_in (take n (drop i ps))) ≡ events_in (take n (drop i ps))
range_counted t number from end ps h le zero n = first_counted t number from end ps h le n
range_counted t number from end [] h le (suc i) n = first_counted t number from end [] h le n
range_counted t number from end (p ∷ ps) h le (suc i) n = range_counted t (suc number) (from + p.count) end ps h.3 le i n

pub counted : (c : CutOf) → IsCut c → (i n : ℕ) → length (flat_map records_in (take n (drop i c.parts))) ≡ events_in (take n (drop i c.parts))
counted c h i n = range_counted c.trace 0 0 (length c.trace.records) c.parts h (omega arith) i n
