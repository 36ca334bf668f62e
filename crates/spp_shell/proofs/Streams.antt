-- One read more of an input that is read step by step, as a call of `pull_behind` tells it.
use Rattle.std.proofs.Common.{◌≡◌, ◌≢◌, ℕ, ◌+◌, ◌≤◌, ◌<◌, ◌^◌, List, ◌++◌, length, take, drop, Option, None, Some, inl, refl, sym, ap, subst, ◌∙◌, append_assoc, arith}
use Rattle.std.specs.Option.{option_map}
use Rattle.std.proofs.Math.Seq.{take-add}
use Rattle.spp_report.specs.Devices.{Raised}
use Rattle.spp_shell.specs.Check.{IsOneCheckLine, TellsHeader}
use Rattle.spp_shell.specs.Devices.{giving_of}
use Rattle.spp_shell.specs.Inputs.{IsInputRefused}
use Rattle.spp_shell.specs.Streams.{HasRead}
use Rattle.spp_shell.specs.Tasks.{IfLine}
use Rattle.spp_shell.specs.declared.place.Place.{Place}
use Rattle.spp_shell.specs.declared.reading.ReadFault.TheVariants.{Device, TooLong, Memory}
use Rattle.spp_shell.specs.declared.refusal.Refusal.{Refusal}
use Rattle.spp_shell.proofs.Inputs.{foreseen_refused, header_checked, refused_as}
use Rattle.spp_shell.proofs.Readings.{SoFar, so_far_none, so_far_some, so_far_ended, so_far_passed, so_far_start, so_far_turns, so_far_within}

module _ {S : Type 0} (answered : S → Option (List ℕ) → S → Type 0) (failed : S → S → Type 0) (failures : S → ℕ) where
  module _ (n : ℕ) (s m t : S) (xs old new : List ℕ) (f : ℕ) (o : Option ℕ) (h : HasRead answered failed failures n s (xs ++ take f old) m) (kept : take f new ≡ take f old) where
    -- the bytes so far lie in the new buffer as in the old
    again : SoFar answered n s (xs ++ take f new) m
    again = subst (λ (l : List ℕ). SoFar answered n s (xs ++ l) m) (sym kept) h.reads

    module _ (q : answered m (option_map (λ k. take k (drop f new)) o) t) (same : failures t ≡ failures m) where
      pub stream_same : o ≡ None → HasRead answered failed failures (n + 1) s (xs ++ take f new) t
      stream_same e = record {
        reads = so_far_none answered n s m t (xs ++ take f new) (drop f new) o again q e;
        few = subst (λ (l : List ℕ). length (xs ++ l) ≤ 2 ^ 33) (sym kept) h.few;
        same = same ∙ h.same;
      }

      joined : (k : ℕ) → (xs ++ take f new) ++ take k (drop f new) ≡ xs ++ take (f + k) new
      joined k = append_assoc xs (take f new) (take k (drop f new)) ∙ ap (λ (l : List ℕ). xs ++ l) (sym (take-add f k new))

      pub stream_grown : (k : ℕ) → o ≡ Some k → k ≤ length (drop f new) → k ≢ 0 → length (xs ++ take (f + k) new) ≤ 2 ^ 33 → HasRead answered failed failures (n + 1) s (xs ++ take (f + k) new) t
      stream_grown k e w z few = record {
        reads = subst (λ (l : List ℕ). SoFar answered (n + 1) s l t) (joined k) (so_far_some answered n s m t (xs ++ take f new) (drop f new) o k again q e w z);
        few = few;
        same = same ∙ h.same;
      }

      pub stream_ended : (k : ℕ) → o ≡ Some k → k ≡ 0 → n < 2 ^ 33 → (giving_of answered failed failures s t).Gave (xs ++ take f old)
      stream_ended k e z lt = (h.few, so_far_ended answered n (2 ^ 33) s m t (xs ++ take f old) (drop f new) o k h.reads q e z lt, same ∙ h.same)

      pub stream_long : (k : ℕ) → o ≡ Some k → n < 2 ^ 33 → 2 ^ 33 < length (xs ++ take (f + k) new) → (giving_of answered failed failures s t).Refused TooLong
      stream_long k e lt long = (
        so_far_passed answered n (2 ^ 33) (2 ^ 33) s m t (xs ++ take f new) (drop f new) o k again (subst (λ (l : List ℕ). length (xs ++ l) ≤ 2 ^ 33) (sym kept) h.few) lt q e (subst (λ (l : List ℕ). 2 ^ 33 < length l) (sym (joined k)) long),
        same ∙ h.same,
      )

  pub stream_failed : (n : ℕ) (s m t : S) (xs : List ℕ) → HasRead answered failed failures n s xs m → n < 2 ^ 33 → failed m t → Raised (failures m) (failures t) → (giving_of answered failed failures s t).Refused Device
  stream_failed n s m t xs h lt f r = (m, so_far_within answered n (2 ^ 33) (2 ^ 33) s m xs h.reads h.few lt, h.same, f, r)

  pub stream_memory : (n : ℕ) (s t : S) (xs : List ℕ) → HasRead answered failed failures n s xs t → n < 2 ^ 33 → (giving_of answered failed failures s t).Refused Memory
  stream_memory n s t xs h lt = (so_far_within answered n (2 ^ 33) (2 ^ 33) s t xs h.reads h.few lt, h.same)

  pub stream_turns : (n : ℕ) (s t : S) (xs : List ℕ) → HasRead answered failed failures n s xs t → n ≤ 2 ^ 33 → 2 ^ 33 ≤ n → (giving_of answered failed failures s t).Refused TooLong
  stream_turns n s t xs h le ge = (so_far_turns answered n (2 ^ 33) (2 ^ 33) s t xs h.reads h.few le ge, h.same)

  -- what came so far, where one read more is allowed
  pub read_first : (n : ℕ) (s t : S) (xs : List ℕ) → HasRead answered failed failures n s xs t → n < 2 ^ 33 → (giving_of answered failed failures s t).Began xs
  read_first n s t xs h lt =
      let r = h.reads in
      ((r.0, r.1, (r.2, subst (λ (l : List ℕ). length l ≤ 2 ^ 33) r.3 h.few, subst (λ (k : ℕ). k < 2 ^ 33) (sym r.4) lt), r.3), h.same)

  pub began_within : (s t : S) (front : List ℕ) → (giving_of answered failed failures s t).Began front → (giving_of answered failed failures s t).Within
  began_within s t front began = inl (began.0.0, began.0.1, began.0.2)

  -- no trace begins so
  pub front_refused : (n : ℕ) (s t : S) (front : List ℕ) → HasRead answered failed failures n s front t → n < 2 ^ 33 → (place : Place) (r : Refusal)
      → IfLine r (λ told. (more : List ℕ) → TellsHeader (front ++ more) told) → IsInputRefused (giving_of answered failed failures s t) place TellsHeader r
  front_refused n s t front h lt place r is =
      let began = read_first n s t front h lt in
      foreseen_refused (giving_of answered failed failures s t) place TellsHeader front began (began_within s t front began) r is

  pub front_checked : (n : ℕ) (s t : S) (front : List ℕ) → HasRead answered failed failures n s front t → n < 2 ^ 33 → (place : Place) (r : Refusal)
      → IfLine r (λ told. (more : List ℕ) → TellsHeader (front ++ more) told) → IsInputRefused (giving_of answered failed failures s t) place IsOneCheckLine r
  front_checked n s t front h lt place r is =
      refused_as (giving_of answered failed failures s t) place TellsHeader IsOneCheckLine header_checked r (front_refused n s t front h lt place r is)

  pub read_nothing : (s : S) (bytes : List ℕ) (n f : ℕ) → n ≡ 0 → f ≡ 0 → HasRead answered failed failures n s (take f bytes) s
  read_nothing s bytes n f none z =
      subst (λ (k : ℕ). HasRead answered failed failures k s (take f bytes) s) (sym none)
      (subst (λ (k : ℕ). HasRead answered failed failures 0 s (take k bytes) s) (sym z) (record { reads = so_far_start answered s; few = omega arith; same = refl }))
