-- What is wrong first where a record is cut off.
use Rattle.std.proofs.Common.{◌≡◌, ℕ, ◌+◌, ◌<◌, List, ◌++◌, length, take, drop, Some, Result, Err, IfErr, refl, sym, ap, subst, ◌∙◌, arith}
use Rattle.std.proofs.lemmas.List.{take-append-drop, length-append, take-append-le, get_or_append_left}
use Rattle.std.proofs.lemmas.Option.{slice_get-get_or}
use Rattle.spp_event.specs.declared.records.EventFault.TheVariants.{Truncated}
use Rattle.spp_event.specs.Recordings.{Record, record_at}
use Rattle.spp_frame.specs.declared.Why.TheVariants as why
use Rattle.spp_frame.specs.declared.Fault.{Fault}
use Rattle.spp_frame.specs.Nesting.{depth, wrong, wrong_at, IsFirstBad, IsGoodBefore}
use Rattle.spp_frame.proofs.Pieces.{bad_front, record_behind}
use Rattle.std.proofs.Math.Seq.{take-append_seam, take-length}
use Rattle.spp_event.specs.Recordings.{Recording}
use Rattle.spp_maxplus.specs.declared.state.Burdens.{Burdens}
use Rattle.spp_piece.specs.Account.{Account, account_of}
use Rattle.spp_crew.specs.declared.record_head.RecordHead.{RecordHead}
use Rattle.spp_crew.specs.Blocks.{IsSummaryOfFirst}
use Rattle.spp_crew.specs.RecordProfiles.{BeginsWith}

module _ (rs behind : List Record) where
  wrong_front : (k : ℕ) → k < length rs → wrong_at (rs ++ behind) k ≡ wrong_at rs k
  wrong_front k lt =
      let there = slice_get-get_or (rs ++ behind) k (Err Truncated) (omega (arith, length-append rs behind)) in
      let same = get_or_append_left rs behind (Err Truncated) k lt in
      let here = slice_get-get_or rs k (Err Truncated) lt in
      let front : take k (rs ++ behind) ≡ take k rs = take-append-le k rs behind (omega arith) in
      rw (there, same, here, front) refl

  -- a bad event before stays the first
  pub bad_before : (f : Fault) → f.at < length rs → IsFirstBad rs f → IsFirstBad (rs ++ behind) f
  bad_before f lt bad = (bad_front rs behind f (record { within = lt; first = bad })).first

  -- else it is the record that is cut off
  pub cut_there : (at : ℕ) → length rs ≡ at → IsGoodBefore rs (length rs) → 0 < length behind → record_at behind 0 ≡ Err Truncated → IsFirstBad (rs ++ behind) (record { at = at; why = why.Event Truncated })
  cut_there at e good some is =
      let n = length-append rs behind in
      let there : record_at (rs ++ behind) (length rs) ≡ Err Truncated = ap (record_at (rs ++ behind)) (let z : length rs ≡ length rs + 0 = omega arith in z) ∙ record_behind rs behind (length rs) 0 refl ∙ is in
      let got = slice_get-get_or (rs ++ behind) (length rs) (Err Truncated) (omega arith) in
      subst (λ (k : ℕ). IsFirstBad (rs ++ behind) (record { at = k; why = why.Event Truncated })) e (record {
        within = omega arith;
        is_wrong = ap (λ x. wrong x (depth (rs ++ behind) (length rs))) (got ∙ ap (λ (r : Record). Some r) there);
        first = λ k lt. wrong_front k lt ∙ good k lt;
      })

module _ {X : Type 0} (rs : List Record) (found : Result X Fault) where
  -- what is told of a bad event that was found
  pub bad_told : (f : Fault) → found ≡ Err f → IfErr found (λ g. IsFirstBad rs g) → IsFirstBad rs f
  bad_told f is told = subst (λ (x : Result X Fault). IfErr x (λ g. IsFirstBad rs g)) is told

-- ---- the summary of the records that have come

-- under its own burdens
own : (b : Burdens) (rs : List Record) (s : Account) → s ≡ account_of b 0 rs → s ≡ account_of s.burdens 0 rs
own b rs s is = is ∙ ap (λ (c : Burdens). account_of c 0 rs) (sym (ap (λ (x : Account). x.burdens) is))

module _ (t : Recording) (b : Burdens) (s : Account) where
  pub before_summary : (head : RecordHead) (before : List Record) (begins : BeginsWith t head before) → IsSummaryOfFirst t b (length before) s → s ≡ account_of s.burdens 0 before
  before_summary head before begins is =
      own b before s (is ∙ ap (λ (l : List Record). account_of b 0 l) (ap (λ (l : List Record). take (length before) l) begins.records ∙ take-append_seam before begins.behind))

  pub whole_summary : IsSummaryOfFirst t b (length t.records) s → s ≡ account_of s.burdens 0 t.records
  whole_summary is = own b t.records s (is ∙ ap (λ (l : List Record). account_of b 0 l) (take-length t.records))

-- a bad event of the first records is that of all
pub bad_of_first : (t : Recording) (b : Burdens) (k : ℕ) (s : Account) (f : Fault) → IsSummaryOfFirst t b k s → ((rs : List Record) → s ≡ account_of s.burdens 0 rs → IsFirstBad rs f) → f.at < s.events → IsFirstBad t.records f
bad_of_first t b k s f is told lt =
    let rs = take k t.records in
    let count : s.events ≡ length rs = ap (λ (x : Account). x.events) is in
    let bad = told rs (own b rs s is) in
    subst (λ (l : List Record). IsFirstBad l f) (take-append-drop k t.records) (bad_before rs (drop k t.records) f (omega (arith, lt, count)) bad)
