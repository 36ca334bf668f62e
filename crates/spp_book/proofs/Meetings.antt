-- Where runs meet.
use Rattle.std.proofs.Common.{◌≡◌, ℕ, ◌-◌, ◌<◌, true, List, Option, None, Some, refl, ap, sym, ◌∙◌, arith}
use Rattle.std.specs.Prelude.{map, is_some, MatchOption}
use Rattle.std.specs.Option.{option_map}
use Rattle.spp_book.specs.declared.book.Run.{Run}
use Rattle.spp_book.specs.Books.{AreRuns, end_at, entry, MeetAt, AreMet, IsLeftOf}
use Rattle.spp_book.proofs.Lists.{ends_is}
use Rattle.spp_book.proofs.Runs.{same_some, no_some}

-- where the run ends that an entry holds
abbrev pub end_in : {C : Type 0} → Option (Run C) → Option ℕ
end_in o = option_map (λ r. r.end) o

-- and where each does
abbrev pub ends_of : {C : Type 0} → List (Option (Run C)) → List (Option ℕ)
ends_of runs = map (λ o. end_in o) runs

held : {C : Type 0} (o : Option (Run C)) (p : ℕ) → end_in o ≡ Some p → (r : Run C) × (o ≡ Some r) × (r.end ≡ p)
held (Some r) p h = (r, refl, same_some r.end p h)
held None p h = absurd cc

holds : {C : Type 0} (o : Option (Run C)) → is_some (end_in o) ≡ true → (r : Run C) × (o ≡ Some r)
holds (Some r) h = (r, refl)
holds None h = absurd cc

shown : {C : Type 0} (o : Option (Run C)) → is_some o ≡ true → is_some (end_in o) ≡ true
shown (Some r) h = refl
shown None h = absurd cc

noted : (o : Option ℕ) → is_some o ≡ true → (f : ℕ) × (o ≡ Some f)
noted (Some f) h = (f, refl)
noted None h = absurd cc

module _ {C : Type 0} (parts : ℕ) (value : ℕ → ℕ → C → Type 0) (runs : List (Option (Run C))) (notes : List (Option ℕ))
    (are : AreRuns parts value (entry runs) (entry notes)) where
  -- the run that begins at f and ends at p
  pub left_run : (f p : ℕ) → MeetAt (ends_of runs) f p → (r : Run C) × (entry runs f ≡ Some r) × (r.end ≡ p)
  left_run f p h = held (entry runs f) p (sym (ends_is runs f) ∙ h.0)

  -- the run that begins at p
  pub right_run : (f p : ℕ) → MeetAt (ends_of runs) f p → (r : Run C) × (entry runs p ≡ Some r)
  right_run f p h = holds (entry runs p) (ap is_some (sym (ends_is runs p)) ∙ h.1)

  -- a run that ends at p begins before it, and the last part of it says where
  pub note_before : (f p : ℕ) → MeetAt (ends_of runs) f p → (0 < p) × (entry notes (p - 1) ≡ Some f)
  note_before f p h =
      let l = left_run f p h in
      let r = are.runs f l.0 l.1 in
      let some = r.some in
      (omega (arith, l.2), ap (λ k. entry notes (k - 1)) (sym l.2) ∙ r.noted)

  -- there is one at most
  pub one_left : (f g p : ℕ) → MeetAt (ends_of runs) f p → MeetAt (ends_of runs) g p → f ≡ g
  one_left f g p h i = let a = note_before f p h in let b = note_before g p i in same_some f g (sym a.1 ∙ b.1)

  -- the part before p has a note, and a run begins at p: the one that has the part ends there, and begins where the note says
  pub meets : (f p : ℕ) → 0 < p → is_some (entry runs p) ≡ true → entry notes (p - 1) ≡ Some f → MeetAt (ends_of runs) f p
  meets f p lt here note =
      let o = are.covered (p - 1) (ap is_some note) in
      let s = holds (entry runs p) (shown (entry runs p) here) in
      let before = are.apart o.0 p o.1 s.0 o.2 s.1 (omega (arith, o.3)) in
      let end : o.1.end ≡ p = omega (arith, o.4) in
      let same : f ≡ o.0 = same_some f o.0 (sym note ∙ ap (λ k. entry notes (k - 1)) (sym end) ∙ (are.runs o.0 o.1 o.2).noted) in
      (ends_is runs f ∙ ap (λ k. end_in (entry runs k)) same ∙ ap (λ o. end_in o) o.2 ∙ ap (λ k. Some k) end, ap is_some (ends_is runs p) ∙ shown (entry runs p) here)

  -- so it is with what the part before p has as its note
  pub noted_or_not : (p : ℕ) → (note : Option ℕ) → 0 < p → is_some (entry runs p) ≡ true → entry notes (p - 1) ≡ note → MatchOption note (¬ (AreMet (ends_of runs) p)) (IsLeftOf (ends_of runs) p)
  noted_or_not p (Some f) lt here e = (meets f p lt here e, λ g m. one_left g f p m (meets f p lt here e))
  noted_or_not p None lt here e = λ m. no_some (entry notes (p - 1)) m.0 e (note_before m.0 p m.1).1

  -- where a run has all parts there is no other
  pub whole_is_alone : (p : ℕ) → end_at (ends_of runs) 0 ≡ Some parts → ¬ (AreMet (ends_of runs) p)
  whole_is_alone p whole h =
      let w = held (entry runs 0) parts (sym (ends_is runs 0) ∙ whole) in
      let b = note_before h.0 p h.1 in
      let s = right_run h.0 p h.1 in
      let r = are.runs p s.0 s.1 in
      let some = r.some in
      let inside = r.inside in
      let gap = are.apart 0 p w.0 s.0 w.1 s.1 b.0 in
      absurd (omega (arith, w.2))

  -- and each part has a note
  pub whole_is_noted : (k : ℕ) → k < parts → end_at (ends_of runs) 0 ≡ Some parts → is_some (entry notes k) ≡ true
  whole_is_noted k few whole =
      let w = held (entry runs 0) parts (sym (ends_is runs 0) ∙ whole) in
      (are.runs 0 w.0 w.1).taken k (omega arith) (omega (arith, w.2))
