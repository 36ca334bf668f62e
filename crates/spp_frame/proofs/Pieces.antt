-- Records that come piece by piece: what was seen of the first stays, whatever follows.
use Rattle.std.proofs.Common.{◌≡◌, ℕ, ◌+◌, ◌-◌, ◌≤◌, ◌<◌, List, ◌++◌, length, take, Result, Some, None, Ok, Err, IfOk, refl, sym, ap, subst, ◌∙◌, arith}
use Rattle.std.specs.Prelude.{IfErr, Option, MatchOption}
use Rattle.std.specs.List.{count_by, sum_by}
use Rattle.std.proofs.lemmas.List.{length-append, take-append-le, get_or_append_left, get_or-append_right}
use Rattle.std.proofs.lemmas.Option.{slice_get-get_or}
use Rattle.spp_event.specs.declared.records.EventFault.TheVariants.{Truncated}
use Rattle.spp_event.specs.Recordings.{Record, record_at}
use Rattle.spp_frame.specs.declared.Why.{Why}
use Rattle.spp_frame.specs.declared.Why.TheVariants as why
use Rattle.spp_frame.specs.declared.Fault.{Fault}
use Rattle.spp_frame.specs.Nesting.{opens_frame, closes_frame, weight, work, wrong, wrong_at, IsFirstBad, IsWellFormed}
use Rattle.spp_frame.specs.Pieces.{Far, IsBadIn}
use Rattle.spp_frame.proofs.Far.{wrong_here, far_all, far_open}

wrong_front : (rs more : List Record) (k : ℕ) → k < length rs → wrong_at (rs ++ more) k ≡ wrong_at rs k
wrong_front rs more k lt =
    let there = slice_get-get_or (rs ++ more) k (Err Truncated) (omega (arith, length-append rs more)) in
    let same = get_or_append_left rs more (Err Truncated) k lt in
    let here = slice_get-get_or rs k (Err Truncated) lt in
    let front : take k (rs ++ more) ≡ take k rs = take-append-le k rs more (omega arith) in
    rw (there, same, here, front) refl

pub far_front : (rs more : List Record) (i d w : ℕ) → i ≤ length rs → Far rs i d w → Far (rs ++ more) i d w
far_front rs more i d w le f =
    let front : take i rs ≡ take i (rs ++ more) = sym (take-append-le i rs more le) in
    record {
      good = λ k lt. wrong_front rs more k (omega arith) ∙ f.good k lt;
      depth = subst (λ (l : List Record). count_by opens_frame l ≡ d + count_by closes_frame l) front f.depth;
      work = subst (λ (l : List Record). w ≡ sum_by weight l) front f.work;
    }

pub bad_front : (rs more : List Record) (f : Fault) → IsBadIn rs f → IsBadIn (rs ++ more) f
bad_front rs more f b =
    let lt = b.within in
    let n = length-append rs more in
    record {
      within = omega arith;
      first = record { within = omega arith; is_wrong = wrong_front rs more f.at lt ∙ b.first.is_wrong; first = λ k l. wrong_front rs more k (omega arith) ∙ b.first.first k l };
    }

-- what a check has found, by whether it is anything
pub bad_in : (o : Option Fault) (f : Fault) (P : Type 0) (rs : List Record) → MatchOption o P (λ g. IsBadIn rs g) → o ≡ Some f → IsBadIn rs f
bad_in o f P rs found is = subst (λ (x : Option Fault). MatchOption x P (λ g. IsBadIn rs g)) is found

pub good_in : (o : Option Fault) (P : Type 0) (rs : List Record) → MatchOption o P (λ g. IsBadIn rs g) → o ≡ None → P
good_in o P rs found is = subst (λ (x : Option Fault). MatchOption x P (λ g. IsBadIn rs g)) is found

-- a reader has come to a record at which something is wrong
pub bad_here : (rs : List Record) (i at d w : ℕ) (r : Record) (y : Why) → at ≡ i → i < length rs → record_at rs i ≡ r → Far rs i d w → wrong (Some r) d ≡ Some y → IsBadIn rs (record { at = at; why = y })
bad_here rs i at d w r y e lt is f bad =
    subst (λ (k : ℕ). IsBadIn rs (record { at = k; why = y })) (sym e) (record {
      within = lt;
      first = record { within = omega arith; is_wrong = wrong_here rs i d w lt f ∙ ap (λ (x : Record). wrong (Some x) d) is ∙ bad; first = f.good };
    })

-- the record at a place behind the first ones
pub record_behind : (rs more : List Record) (n k : ℕ) → length rs ≡ n → record_at (rs ++ more) (n + k) ≡ record_at more k
record_behind rs more n k e =
    let j : n + k - n ≡ k = omega arith in
    get_or-append_right rs more n (n + k) (Err Truncated) e (omega arith) ∙ ap (record_at more) j

-- at the end of all records
pub all_seen : (rs : List Record) (d w at : ℕ) (r : Result ℕ Fault) → at ≡ length rs → Far rs (length rs) d w → IfOk r (λ v. (v ≡ w) × (d ≡ 0)) → IfErr r (λ f. (f ≡ record { at = at; why = why.Unclosed d }) × (0 < d))
    → IfOk r (λ v. IsWellFormed rs × (v ≡ work rs)) × IfErr r (λ f. IsFirstBad rs f)
all_seen rs d w at (Ok v) e f ok err =
    let all = far_all rs w (subst (λ (k : ℕ). Far rs (length rs) k w) ok.1 f) in
    ((all.0, ok.0 ∙ all.1), tt)
all_seen rs d w at (Err fault) e f ok err = (tt, subst (λ (x : Fault). IsFirstBad rs x) (sym err.0) (far_open rs d w at e err.1 f))

-- records are missing behind those that were seen
pub cut_off : (before behind : List Record) (d w at : ℕ) → at ≡ length before → 0 < length behind → record_at behind 0 ≡ Err Truncated → Far before (length before) d w → IsBadIn (before ++ behind) (record { at = at; why = why.Event Truncated })
cut_off before behind d w at e some is f =
    let there : record_at (before ++ behind) (length before) ≡ Err Truncated = ap (record_at (before ++ behind)) (let z : length before ≡ length before + 0 = omega arith in z) ∙ record_behind before behind (length before) 0 refl ∙ is in
    bad_here (before ++ behind) (length before) at d w (Err Truncated) (why.Event Truncated) e (omega (arith, length-append before behind)) there (far_front before behind (length before) d w (omega arith) f) refl

-- no record is missing
pub none_missing : (before behind rs : List Record) (d w : ℕ) → rs ≡ before ++ behind → length rs ≡ length before → Far before (length before) d w → Far rs (length rs) d w
none_missing before behind rs d w is e f =
    subst (λ (k : ℕ). Far rs k d w) (sym e) (subst (λ (l : List Record). Far l (length before) d w) (sym is) (far_front before behind (length before) d w (omega arith) f))
