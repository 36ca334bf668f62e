-- Where the parts of a cut begin.
use Rattle.std.proofs.Common.{◌≡◌, ℕ, zero, suc, ◌+◌, ◌<◌, List, [], ◌∷◌, length, map, get_or, take, drop, Some, refl, sym, ap, subst, ◌∙◌, arith}
use Rattle.std.specs.Prelude.{slice_get}
use Rattle.std.proofs.lemmas.List.Sums.{sum_by-cons}
use Rattle.std.proofs.lemmas.List.{length-take-le, length-drop}
use Rattle.std.proofs.lemmas.Option.{slice_get-get_or}
use Rattle.spp_event.specs.Recordings.{Record, Recording}
use Rattle.spp_cut.specs.Parts.{PartOf, records_in, Cover}
use Rattle.spp_cut.proofs.Whole.{cover_le}
use Rattle.spp_maxplus.specs.declared.state.Burdens.{Burdens}
use Rattle.spp_piece.specs.Account.{Account}
use Rattle.spp_stack.specs.Parts.{begin_of}
use Rattle.spp_jobs.proofs.Accounts.{account_in}

-- how many events the parts before part k have
abbrev pub begin_in : List PartOf → ℕ → ℕ
begin_in [] k = 0
begin_in (p ∷ ps) zero = 0
begin_in (p ∷ ps) (suc k) = p.count + begin_in ps k

pub begin_zero : (ps : List PartOf) → begin_in ps 0 ≡ 0
begin_zero [] = refl
begin_zero (p ∷ ps) = refl

-- a part of the trace t
pub record PartAt (t : Recording) (from : ℕ) (ps : List PartOf) (k : ℕ) (p : PartOf) : Type 0 where
  pub trace : p.trace ≡ t
  pub first : p.first ≡ from + begin_in ps k
  pub next : begin_in ps (suc k) ≡ begin_in ps k + p.count

pub part_at : (t : Recording) (number from end : ℕ) (ps : List PartOf) → Cover t number from ps end → (k : ℕ) (d : PartOf) → k < length ps → PartAt t from ps k (get_or ps k d)
part_at t number from end [] h k d l = absurd (omega arith)
part_at t number from end (p ∷ ps) h zero d l = record {
  trace = h.0;
  first = h.2 ∙ (let z : from ≡ from + 0 = omega arith in z);
  next = let z = begin_zero ps in omega arith;
}
part_at t number from end (p ∷ ps) h (suc k) d l =
    let r = part_at t (suc number) (from + p.count) end ps h.3 k d (omega arith) in
    let first = r.first in
    let next = r.next in
    record { trace = r.trace; first = omega arith; next = omega arith }

pub all_parts : (t : Recording) (number from end : ℕ) (ps : List PartOf) → Cover t number from ps end → from + begin_in ps (length ps) ≡ end
all_parts t number from end [] h = let e : from ≡ end = h in omega arith
all_parts t number from end (p ∷ ps) h = let r = all_parts t (suc number) (from + p.count) end ps h.3 in omega arith

-- as the accounts tell it
pub begin_is : (t : Recording) (b : Burdens) (number from : ℕ) (ps : List PartOf) → Cover t number from ps (length t.records) → (k : ℕ) → begin_of (map (account_in b) ps) k ≡ begin_in ps k
begin_is t b number from [] h zero = refl
begin_is t b number from [] h (suc k) = refl
begin_is t b number from (p ∷ ps) h zero = refl
begin_is t b number from (p ∷ ps) h (suc k) =
    let within = cover_le t (suc number) (from + p.count) (length t.records) ps h.3 in
    let same : records_in p ≡ take p.count (drop from t.records) = ap (λ (u : Recording). take p.count (drop p.first u.records)) h.0 ∙ ap (λ n. take p.count (drop n t.records)) h.2 in
    let count : length (records_in p) ≡ p.count = ap (λ (l : List Record). length l) same ∙ length-take-le p.count (drop from t.records) (omega (arith, length-drop from t.records)) in
    let rest = begin_is t b (suc number) (from + p.count) ps h.3 k in
    let cons : begin_of (map (account_in b) (p ∷ ps)) (suc k) ≡ length (records_in p) + begin_of (map (account_in b) ps) k = sum_by-cons (λ (a : Account). a.events) (account_in b p) (take k (map (account_in b) ps)) in
    omega arith

-- as it is read
pub part_read : (t : Recording) (ps read : List PartOf) (k : ℕ) (p : PartOf) → Cover t 0 0 ps (length t.records) → read ≡ ps → p ≡ get_or read k p → k < length read → PartAt t 0 ps k p
part_read t ps read k p cover same is lt =
    let l : k < length ps = (let z : length read ≡ length ps = ap (λ (l : List PartOf). length l) same in omega arith) in
    let here : p ≡ get_or ps k p = is ∙ ap (λ (l : List PartOf). get_or l k p) same in
    subst (λ (q : PartOf). PartAt t 0 ps k q) (sym here) (part_at t 0 0 (length t.records) ps cover k p l)

pub part_got : (ps read : List PartOf) (k : ℕ) (p : PartOf) → read ≡ ps → p ≡ get_or read k p → k < length read → slice_get ps k ≡ Some p
part_got ps read k p same is lt =
    subst (λ (l : List PartOf). slice_get l k ≡ Some p) same (slice_get-get_or read k p lt ∙ ap (λ (q : PartOf). Some q) (sym is))
