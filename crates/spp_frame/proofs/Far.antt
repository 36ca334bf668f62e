-- How far a reader of the records has come: nothing is wrong so far, and its two numbers are theirs.
use Rattle.std.proofs.Common.{◌≡◌, ℕ, zero, suc, ◌+◌, ◌<◌, cond, List, length, take, Some, None, Ok, Err, refl, sym, ap, subst, ◌∙◌, arith, inl, inr}
use Rattle.std.specs.List.{count_by, sum_by}
use Rattle.std.proofs.lemmas.Bool.{cases_lt}
use Rattle.std.proofs.lemmas.List.{take_all}
use Rattle.std.proofs.lemmas.List.Sums.{sum_by_more}
use Rattle.std.proofs.lemmas.Option.{slice_get-get_or, slice_get_past}
use Rattle.spp_event.specs.declared.records.Event.TheVariants.{Ret}
use Rattle.spp_event.specs.declared.records.EventFault.TheVariants.{Truncated}
use Rattle.spp_event.specs.Recordings.{Record, record_at}
use Rattle.spp_frame.specs.declared.Why.TheVariants as why
pub use Rattle.spp_frame.specs.Pieces.{Far, IsBadIn}
use Rattle.spp_frame.specs.Nesting.{opens_frame, closes_frame, weight, work, depth, wrong, wrong_at, IsGoodBefore, IsFirstBad, IsWellFormed}

depth_is : (rs : List Record) (i d w : ℕ) → Far rs i d w → depth rs i ≡ d
depth_is rs i d w f = let h = f.depth in omega arith

-- what is wrong at the position that a reader has come to
pub wrong_here : (rs : List Record) (i d w : ℕ) → i < length rs → Far rs i d w → wrong_at rs i ≡ wrong (Some (record_at rs i)) d
wrong_here rs i d w lt f = rw (depth_is rs i d w f, slice_get-get_or rs i (Err Truncated) lt) refl

pub wrong_end : (rs : List Record) (d w : ℕ) → Far rs (length rs) d w → wrong_at rs (length rs) ≡ wrong None d
wrong_end rs d w f = rw (depth_is rs (length rs) d w f, slice_get_past rs (length rs) (omega arith)) refl

pub good_more : (rs : List Record) (i : ℕ) → IsGoodBefore rs i → wrong_at rs i ≡ None → IsGoodBefore rs (suc i)
good_more rs i g e k lt =
    elim (cases_lt k i) [
      | inl l ↦ g k l
      | inr m ↦ let same : i ≡ k = omega arith in subst (λ (n : ℕ). wrong_at rs n ≡ None) same e
    ]

-- a return where more than the root is open
pub returns_right : (d : ℕ) → 0 < d → wrong (Some (Ok Ret)) d ≡ None
returns_right zero pos = absurd (omega arith)
returns_right (suc d) pos = refl

-- one more record, at which nothing is wrong
pub far_more : (rs : List Record) (i d w e v : ℕ) (r : Record) → i < length rs → record_at rs i ≡ r → Far rs i d w → wrong (Some r) d ≡ None → e + cond (closes_frame r) 1 0 ≡ d + cond (opens_frame r) 1 0 → v ≡ w + weight r → Far rs (i + 1) e v
far_more rs i d w e v r lt is f ok counts works =
    let o = sum_by_more (λ x. cond (opens_frame x) 1 0) rs i (Err Truncated) lt in
    let t = sum_by_more (λ x. cond (closes_frame x) 1 0) rs i (Err Truncated) lt in
    let s = sum_by_more weight rs i (Err Truncated) lt in
    let oo : count_by opens_frame (take (i + 1) rs) ≡ count_by opens_frame (take i rs) + cond (opens_frame r) 1 0 = o ∙ ap (λ (x : Record). count_by opens_frame (take i rs) + cond (opens_frame x) 1 0) is in
    let tt' : count_by closes_frame (take (i + 1) rs) ≡ count_by closes_frame (take i rs) + cond (closes_frame r) 1 0 = t ∙ ap (λ (x : Record). count_by closes_frame (take i rs) + cond (closes_frame x) 1 0) is in
    let ss : sum_by weight (take (i + 1) rs) ≡ sum_by weight (take i rs) + weight r = s ∙ ap (λ (x : Record). sum_by weight (take i rs) + weight x) is in
    let h = f.depth in let k = f.work in
    let here : wrong_at rs i ≡ None = wrong_here rs i d w lt f ∙ ap (λ (x : Record). wrong (Some x) d) is ∙ ok in
    record { good = subst (λ (n : ℕ). IsGoodBefore rs n) (omega arith) (good_more rs i f.good here); depth = omega arith; work = omega arith }

-- at the end nothing is open
pub far_all : (rs : List Record) (w : ℕ) → Far rs (length rs) 0 w → IsWellFormed rs × (w ≡ work rs)
far_all rs w f = (good_more rs (length rs) f.good (wrong_end rs 0 w f), f.work ∙ ap (λ (l : List Record). sum_by weight l) (take_all (length rs) rs (omega arith)))

-- at the end frames are open
pub far_open : (rs : List Record) (d w at : ℕ) → at ≡ length rs → 0 < d → Far rs (length rs) d w → IsFirstBad rs (record { at = at; why = why.Unclosed d })
far_open rs zero w at e pos f = absurd (omega arith)
far_open rs (suc d) w at e pos f = subst (λ (n : ℕ). IsFirstBad rs (record { at = n; why = why.Unclosed (suc d) })) (sym e) (record { within = omega arith; is_wrong = wrong_end rs (suc d) w f; first = f.good })
