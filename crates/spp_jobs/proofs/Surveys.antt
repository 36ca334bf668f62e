-- The values of surveys, joined.
use Rattle.std.proofs.Common.{◌≡◌, ℕ, ◌+◌, ◌-◌, ◌<◌, List, [], ◌∷◌, ◌++◌, length, map, get_or, take, refl, sym, ap, ap₂, subst, ◌∙◌, arith}
use Rattle.std.specs.List.{flat_map}
use Rattle.std.proofs.lemmas.List.{map-append, append-nil}
use Rattle.std.proofs.lemmas.Grind.{flat_map-append}
use Rattle.spp_event.specs.Recordings.{Record}
use Rattle.spp_cut.specs.Parts.{PartOf, IsCut, HasFewParts, events_in, records_in}
use Rattle.spp_cut.proofs.Whole.{all_records}
use Rattle.spp_piece.specs.Account.{Account, account_of, together}
use Rattle.spp_piece.proofs.Joins.{both_account}
use Rattle.spp_book.specs.Jobs.{AreNeighbours, IsJoined}
use Rattle.spp_jobs.specs.declared.survey.Survey.{Survey}
use Rattle.spp_jobs.specs.Names.{surveys, JobOf, spell, parts_in, parts_from, IsNamed}
use Rattle.spp_jobs.specs.Surveys.{IsSurveyOf, IsSurvey}
use Rattle.spp_jobs.proofs.Spelling.{same_job}
use Rattle.spp_jobs.proofs.Cuts.{ranges_join, range_one, range_all, events_to, begins, counted}

-- the survey of one part
pub survey_one : (a : JobOf) → IsCut a.cut → (k : ℕ) (p : PartOf) → k < length a.cut.parts → p ≡ get_or a.cut.parts k p → (c : Survey)
    → c.each.items ≡ c.whole ∷ [] → c.whole ≡ account_of a.burdens p.first (records_in p) → IsSurveyOf a k (k + 1) c
survey_one a h k p lt is c each whole =
    let one : parts_from a.cut k (k + 1) ≡ p ∷ [] = range_one a.cut.parts k p lt is in
    let first : p.first ≡ events_in (take k a.cut.parts) = ap (λ (q : PartOf). q.first) is ∙ begins a.cut h k p lt in
    record {
      each = each ∙ ap (λ x. x ∷ []) whole ∙ sym (ap (map (λ (q : PartOf). account_of a.burdens q.first (records_in q))) one);
      whole = whole ∙ ap₂ (account_of a.burdens) first (sym (append-nil (records_in p)) ∙ sym (ap (flat_map records_in) one));
    }

module _ (a : JobOf) (h : IsCut a.cut) (i j k : ℕ) (low : i < j) (high : j < k) (left right : Survey) (of_left : IsSurveyOf a i j left) (of_right : IsSurveyOf a j k right) where
  abbrev xs : List Record
  xs = flat_map records_in (parts_from a.cut i j)

  abbrev ys : List Record
  ys = flat_map records_in (parts_from a.cut j k)

  abbrev at : ℕ
  at = events_in (take i a.cut.parts)

  next_is : events_in (take j a.cut.parts) ≡ at + length xs
  next_is =
      let more = events_to a.cut.parts i j low in
      let long = counted a.cut h i (j - i) in
      omega arith

  right_is : right.whole ≡ account_of a.burdens (at + length xs) ys
  right_is = of_right.whole ∙ ap (λ n. account_of a.burdens n ys) next_is

  pub survey_burdens : left.whole.burdens ≡ right.whole.burdens
  survey_burdens = ap (λ (x : Account). x.burdens) of_left.whole ∙ sym (ap (λ (x : Account). x.burdens) of_right.whole)

  pub survey_next : right.whole.first ≡ left.whole.first + left.whole.events
  survey_next =
      let r : right.whole.first ≡ at + length xs = ap (λ (x : Account). x.first) right_is in
      let f : left.whole.first ≡ at = ap (λ (x : Account). x.first) of_left.whole in
      let e : left.whole.events ≡ length xs = ap (λ (x : Account). x.events) of_left.whole in
      omega arith

  pub survey_joined : (both : Survey) → both.each.items ≡ left.each.items ++ right.each.items → both.whole ≡ together left.whole right.whole → IsSurveyOf a i k both
  survey_joined both each whole =
      let all : parts_from a.cut i j ++ parts_from a.cut j k ≡ parts_from a.cut i k = ranges_join a.cut.parts i j k low high in
      let f : PartOf → Account = λ p. account_of a.burdens p.first (records_in p) in
      let records : xs ++ ys ≡ flat_map records_in (parts_from a.cut i k) =
      sym (flat_map-append records_in (parts_from a.cut i j) (parts_from a.cut j k)) ∙ ap (flat_map records_in) all in
      record {
        each = each ∙ ap₂ (λ l r. l ++ r) of_left.each of_right.each ∙ sym (map-append f (parts_from a.cut i j) (parts_from a.cut j k)) ∙ ap (map f) all;
        whole = whole ∙ ap₂ together of_left.whole right_is ∙ both_account a.burdens at xs ys ∙ ap (account_of a.burdens at) records;
      }

-- two values of one name are of one job
same_survey : (name : List ℕ) (a : JobOf) → IsNamed surveys name a → (j k : ℕ) (c : Survey) → IsSurvey name j k c → IsSurveyOf a j k c
same_survey name a named j k c v = subst (λ x. IsSurveyOf x j k c) (same_job surveys name v.0 a v.1 named) v.2

pub neighbours_burdens : (left right : Survey) → AreNeighbours parts_in IsSurvey left right → left.whole.burdens ≡ right.whole.burdens
neighbours_burdens left right n =
    let a = n.7.0 in
    let named = n.7.1 in
    survey_burdens a named.cut n.1 n.2 n.3 n.4 n.5 left right n.7.2 (same_survey n.0 a named n.2 n.3 right n.8)

pub neighbours_next : (left right : Survey) → AreNeighbours parts_in IsSurvey left right → right.whole.first ≡ left.whole.first + left.whole.events
neighbours_next left right n =
    let a = n.7.0 in
    let named = n.7.1 in
    survey_next a named.cut n.1 n.2 n.3 n.4 n.5 left right n.7.2 (same_survey n.0 a named n.2 n.3 right n.8)

pub neighbours_joined : (left right both : Survey) → both.each.items ≡ left.each.items ++ right.each.items → both.whole ≡ together left.whole right.whole
    → IsJoined parts_in IsSurvey left right both
neighbours_joined left right both each whole name i j k low high most of_left of_right =
    let a = of_left.0 in
    let named = of_left.1 in (
      a,
      named,
      survey_joined a named.cut i j k low high left right of_left.2 (same_survey name a named j k right of_right) both each whole,
    )

-- the value of all parts
pub survey_all : (a : JobOf) → a.kind ≡ surveys → IsCut a.cut → HasFewParts a.cut → (k : ℕ) → k ≡ length a.cut.parts → (c : Survey) → IsSurvey (spell a) 0 k c
    → (c.each.items ≡ map (λ p. account_of a.burdens p.first (records_in p)) a.cut.parts) × (c.whole ≡ account_of a.burdens 0 a.cut.trace.records)
survey_all a kind h few k all c v =
    let named : IsNamed surveys (spell a) a = record { kind_is = kind; named = refl; cut = h; few = few } in
    let of = same_survey (spell a) a named 0 k c v in
    let parts : parts_from a.cut 0 k ≡ a.cut.parts = range_all a.cut.parts k all in (
      of.each ∙ ap (map (λ (p : PartOf). account_of a.burdens p.first (records_in p))) parts,
      of.whole ∙ ap (account_of a.burdens 0) (ap (flat_map records_in) parts ∙ all_records a.cut h),
    )
