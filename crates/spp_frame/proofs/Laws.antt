-- The laws of first bad events.
use Rattle.std.proofs.Common.{◌≡◌, ℕ, zero, suc, ◌<◌, ◌≤◌, ◌⊎◌, List, [], ◌∷◌, length, map, Option, Some, None, Ok, Err, refl, ap, subst, ◌∙◌, arith, inl, inr}
use Rattle.std.specs.Prelude.{slice_get}
use Rattle.std.proofs.lemmas.Bool.{cases_order}
use Rattle.spp_event.specs.declared.records.Event.{Event}
use Rattle.spp_event.specs.declared.records.EventFault.{EventFault}
use Rattle.spp_event.specs.Recordings.{Record}
use Rattle.spp_frame.specs.declared.Why.{Why}
use Rattle.spp_frame.specs.declared.Why.TheVariants as why
use Rattle.spp_frame.specs.declared.Fault.{Fault}
use Rattle.spp_frame.proofs.Far.{good_more}
use Rattle.spp_frame.specs.Nesting.{wrong, wrong_at, depth, FirstBadIsOne, WellFormedHasNone, WellFormedOrBad, WellFormedAreEvents, IsGoodBefore, IsFirstBad}

none_some : {P : Type 0} (o : Option Why) (w : Why) → o ≡ None → o ≡ Some w → P
none_some o w e f = absurd cc

pub well_formed_has_none : WellFormedHasNone
well_formed_has_none rs f g b = let l = b.within in none_some (wrong_at rs f.at) f.why (g f.at (omega arith)) b.is_wrong

same_why : (o : Option Why) (v w : Why) → o ≡ Some v → o ≡ Some w → v ≡ w
same_why o v w e f = cc

abbrev fault_of : ℕ → Why → Fault
fault_of k w = record { at = k; why = w }

same_fault : (f g : Fault) → f.at ≡ g.at → f.why ≡ g.why → f ≡ g
same_fault f g e h = ap (λ (k : ℕ). fault_of k f.why) e ∙ ap (λ (w : Why). fault_of g.at w) h

pub first_bad_is_one : FirstBadIsOne
first_bad_is_one rs f g a b =
    elim (cases_order f.at g.at) [
      | inl e ↦ let s : f.why ≡ g.why = same_why (wrong_at rs g.at) f.why g.why (subst (λ (k : ℕ). wrong_at rs k ≡ Some f.why) e a.is_wrong) b.is_wrong in same_fault f g e s
      | inr other ↦ elim other [
        | inl l ↦ none_some (wrong_at rs f.at) f.why (b.first f.at l) a.is_wrong
        | inr l ↦ none_some (wrong_at rs g.at) g.why (a.first g.at l) b.is_wrong
      ]
    ]

events_of : (rs : List Record) → ((i : ℕ) (f : EventFault) → slice_get rs i ≡ Some (Err f) → ⊥) → (es : List Event) × (rs ≡ map (λ e. Ok e) es)
events_of [] h = ([], refl)
events_of (Ok e ∷ rs) h = let r = events_of rs (λ i f s. h (suc i) f s) in (e ∷ r.0, ap (λ (l : List Record). Ok e ∷ l) r.1)
events_of (Err f ∷ rs) h = absurd (h 0 f refl)

within : (rs : List Record) (i : ℕ) (r : Record) → slice_get rs i ≡ Some r → i < length rs
within [] i r e = absurd cc
within (x ∷ rs) zero r e = omega arith
within (x ∷ rs) (suc i) r e = let l = within rs i r e in omega arith

pub well_formed_are_events : WellFormedAreEvents
well_formed_are_events rs g = events_of rs (λ i f e. none_some (wrong_at rs i) (why.Event f) (let l = within rs i (Err f) e in g i (omega arith)) (ap (λ (o : Option Record). wrong o (depth rs i)) e))

-- as far as n nothing is wrong, or something is
good_or_bad : (rs : List Record) (n : ℕ) → n ≤ suc (length rs) → IsGoodBefore rs n ⊎ ((f : Fault) × IsFirstBad rs f)
good_or_bad rs zero le = inl (λ i lt. absurd (omega arith))
good_or_bad rs (suc n) le = elim (good_or_bad rs n (omega arith)) [ inl g ↦ here (wrong_at rs n) refl g | inr b ↦ inr b ]
  where
    here : (o : Option Why) → wrong_at rs n ≡ o → IsGoodBefore rs n → IsGoodBefore rs (suc n) ⊎ ((f : Fault) × IsFirstBad rs f)
    here None e g = inl (good_more rs n g e)
    here (Some w) e g = inr (record { at = n; why = w }, record { within = omega arith; is_wrong = e; first = g })

pub well_formed_or_bad : WellFormedOrBad
well_formed_or_bad rs = good_or_bad rs (suc (length rs)) (omega arith)
