-- The count of the frames that are open within the innermost frame that a path enters.
use Rattle.std.proofs.Common.{◌≡◌, ℕ, suc, ◌+◌, ◌<◌, ◌≤◌, sym, ap, ap₂, subst, ◌∙◌, arith, inl, inr}
use Rattle.std.proofs.lemmas.Bool.{cases_eq}
use Rattle.spp_event.specs.Recordings.{Record, record_at}
use Rattle.spp_cut.specs.Parts.{PartOf}
use Rattle.spp_path.specs.Beside.{open_after, open_at}

module _ (part : PartOf) (n k : ℕ) where
  -- after one event more
  pub open_next : (r : Record) (old new : ℕ) → record_at part.trace.records (part.first + k) ≡ r → old ≡ open_at part n k → new ≡ open_after r old → new ≡ open_at part n (k + 1)
  open_next r old new said is same =
      same ∙ ap₂ open_after (sym said) is ∙ ap (λ (i : ℕ). open_at part n i) (let z : suc k ≡ k + 1 = omega arith in z)

  pub some_next : (new : ℕ) → ((j : ℕ) → j ≤ k → 0 < open_at part n j) → new ≡ open_at part n (k + 1) → 0 < new → (j : ℕ) → j ≤ k + 1 → 0 < open_at part n j
  some_next new some is more j l = elim (cases_eq j (k + 1)) [
    | inl e ↦ subst (λ (i : ℕ). 0 < i) (is ∙ ap (λ (i : ℕ). open_at part n i) (sym e)) more
    | inr e ↦ some j (omega (arith, l, e))
  ]
