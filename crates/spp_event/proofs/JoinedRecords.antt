-- The records of bytes that stand one behind the other.
use Rattle.std.proofs.Common.{◌≡◌, ℕ, ◌+◌, ◌*◌, ◌-◌, ◌≤◌, ◌<◌, List, ◌++◌, length, get_or, take, drop, Err, sym, ap, ◌∙◌, arith, inl, inr}
use Rattle.std.proofs.Math.Seq.{drop-append-add}
use Rattle.std.proofs.lemmas.Bool.{cases_lt}
use Rattle.std.proofs.lemmas.List.{length-append, length-drop, drop-append-le, take-append-le, get_or_append_left, get_or-append_right, ext_get_or}
use Rattle.spp_event.specs.declared.records.EventFault.TheVariants.{Truncated}
use Rattle.spp_event.specs.declared.version.Version.TheVariants.{One}
use Rattle.spp_event.specs.Records.{read_record}
use Rattle.spp_event.specs.Recordings.{place, records_of, record_at}
use Rattle.spp_event.proofs.RecordPlaces.{length-records_of, record_at-records_of, truncated}

place_before : (a b : List ℕ) (i : ℕ) → i * 16 + 16 ≤ length a → place (a ++ b) i ≡ place a i
place_before a b i le =
    ap (take 16) (drop-append-le (i * 16) a b (omega arith)) ∙ take-append-le 16 (drop (i * 16) a) b (omega (arith, length-drop (i * 16) a))

place_behind : (a b : List ℕ) (n i : ℕ) → length a ≡ 16 * n → n ≤ i → place (a ++ b) i ≡ place b (i - n)
place_behind a b n i is le =
    let at : i * 16 ≡ length a + (i - n) * 16 = omega arith in
    ap (λ (k : ℕ). take 16 (drop k (a ++ b))) at ∙ ap (take 16) (drop-append-add a b ((i - n) * 16))

module _ (sites funcs : ℕ) where
  -- where the first bytes are whole records, the records of both are those of all
  pub records_joined : (n k : ℕ) (a b : List ℕ) → length a ≡ 16 * n → records_of One sites funcs n a ++ records_of One sites funcs k b ≡ records_of One sites funcs (n + k) (a ++ b)
  records_joined n k a b is =
      let first = length-records_of One sites funcs n a in
      let second = length-records_of One sites funcs k b in
      let all = length-records_of One sites funcs (n + k) (a ++ b) in
      let both = length-append (records_of One sites funcs n a) (records_of One sites funcs k b) in
      ext_get_or (Err Truncated) (records_of One sites funcs n a ++ records_of One sites funcs k b) (records_of One sites funcs (n + k) (a ++ b)) (omega arith) (λ i lt. each i (omega arith))
    where
      each : (i : ℕ) → i < n + k → get_or (records_of One sites funcs n a ++ records_of One sites funcs k b) i (Err Truncated) ≡ get_or (records_of One sites funcs (n + k) (a ++ b)) i (Err Truncated)
      each i lt =
          let first = length-records_of One sites funcs n a in
          let there = record_at-records_of One sites funcs (n + k) (a ++ b) i lt in
          elim (cases_lt i n) [
            | inl l ↦
                get_or_append_left (records_of One sites funcs n a) (records_of One sites funcs k b) (Err Truncated) i (omega arith)
                ∙ record_at-records_of One sites funcs n a i l
                ∙ ap (read_record sites funcs) (sym (place_before a b i (omega arith)))
                ∙ sym there
            | inr l ↦
                get_or-append_right (records_of One sites funcs n a) (records_of One sites funcs k b) n i (Err Truncated) first l
                ∙ record_at-records_of One sites funcs k b (i - n) (omega arith)
                ∙ ap (read_record sites funcs) (sym (place_behind a b n i is l))
                ∙ sym there
          ]

  -- what stands for the first record of less than one
  pub first_truncated : (k : ℕ) (b : List ℕ) → 0 < k → length b < 16 → record_at (records_of One sites funcs k b) 0 ≡ Err Truncated
  first_truncated k b some less = record_at-records_of One sites funcs k b 0 some ∙ truncated sites funcs b 0 (omega arith)
