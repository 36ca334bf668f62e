-- Counts by the marks of a path are counts along it.
use Rattle.std.proofs.Common.{◌≡◌, ℕ, suc, ◌+◌, ◌≤◌, ◌<◌, Bool, true, false, ◌&&◌, not, nat_eq, List, [], ◌∷◌, length, refl, sym, ap, subst, ◌∙◌, arith, inl, inr}
use Rattle.std.specs.Prelude.{slice_index_or}
use Rattle.std.proofs.lemmas.Bool.{cases_lt, eq-eqb}
use Rattle.std.proofs.lemmas.List.{get_or_past}
use Rattle.std.proofs.lemmas.Option.{slice_get-get_or}
use Rattle.spp_event.specs.declared.records.Event.{Event}
use Rattle.spp_maxplus.specs.declared.state.Burdens.{Burdens}
use Rattle.spp_dag.specs.Trace.{event_at}
use Rattle.spp_dag.specs.Dag.{Walk, IsPath, On}
use Rattle.spp_dag.specs.Rows.{contains}
use Rattle.spp_dag.proofs.Profiles.{contains_passed}
use Rattle.spp_dag.proofs.Sums.{sum-same}
use Rattle.spp_path.specs.Marks.{AreMarksOf, IsMark}
use Rattle.spp_advice.specs.declared.counting.SiteCounts.{SiteCounts}
use Rattle.spp_advice.specs.Counts.{spawns_by, count_where, counts, is_marked}

-- a walk comes to its end
pub walk_ends : (es : List Event) (burdens : Burdens) (x : ℕ) (rest : List ℕ) (y w : ℕ) → Walk es burdens x rest y w → On x rest y
walk_ends es burdens x [] y w h = sym h.0
walk_ends es burdens x (u ∷ rest) y w h = inr (walk_ends es burdens u rest y h.1 h.3)

mark_is : (ps : List ℕ) (u b : ℕ) → IsMark ps u b → nat_eq b 1 ≡ contains (0 ∷ ps) u
mark_is ps u b h = by (contains (0 ∷ ps) u) refl
  where
    by : (t : Bool) → contains (0 ∷ ps) u ≡ t → nat_eq b 1 ≡ t
    by true e = eq-eqb b 1 (h.0 ((contains_passed 0 ps u).0 e))
    by false e = ap (λ (k : ℕ). nat_eq k 1) (h.1 (λ on. let t : contains (0 ∷ ps) u ≡ true = (contains_passed 0 ps u).1 on in let f : false ≡ true = sym e ∙ t in absurd cc))

marks_are : (es : List Event) (burdens : Burdens) (marks ps : List ℕ) → length marks ≡ length es → AreMarksOf es burdens 0 marks → IsPath es burdens 0 (length es) ps
    → (u : ℕ) → u ≤ length es → is_marked marks u ≡ contains (0 ∷ ps) u
marks_are es burdens marks ps long h path u le =
    elim (cases_lt u (length marks)) [
      | inl lt ↦
          let b : ℕ = slice_index_or marks u 1 in
          let at : IsMark ps (0 + u) b = h u b (slice_get-get_or marks u 1 lt) ps path in
          mark_is ps u b (subst (λ (k : ℕ). IsMark ps k b) (let z : 0 + u ≡ u = omega arith in z) at)
      | inr ge ↦
          let end : length es ≡ u = omega (arith, long) in
          let on : On 0 ps u = subst (λ (k : ℕ). On 0 ps k) end (walk_ends es burdens 0 ps (length es) path.0 path.1) in
          let t : contains (0 ∷ ps) u ≡ true = (contains_passed 0 ps u).1 on in
          ap (λ (k : ℕ). nat_eq k 1) (get_or_past marks u 1 ge) ∙ sym t
    ]

counts_same : (es : List Event) (on off : ℕ → Bool) → ((u : ℕ) → u ≤ length es → on u ≡ off u) → (site : ℕ) → counts es on site ≡ counts es off site
counts_same es on off same site = ap (λ (k : ℕ). with_past k into) past ∙ ap (λ (k : ℕ). with_past (count_where (passed off) (length es)) k) came
  where
    passed : (ℕ → Bool) → ℕ → Bool
    passed p u = spawns_by site (event_at es u) && (p u && not (p (suc u)))

    entered : (ℕ → Bool) → ℕ → Bool
    entered p u = spawns_by site (event_at es u) && (p u && p (suc u))

    into : ℕ
    into = count_where (entered on) (length es)

    with_past : ℕ → ℕ → SiteCounts
    with_past k j = record { calls = (counts es on site).calls; spawns = (counts es on site).spawns; past = k; into = j }

    two : (f : Bool → Bool → Bool) (u : ℕ) → u < length es → f (on u) (on (suc u)) ≡ f (off u) (off (suc u))
    two f u lt = ap (λ (b : Bool). f b (on (suc u))) (same u (omega arith)) ∙ ap (f (off u)) (same (suc u) (omega arith))

    past : count_where (passed on) (length es) ≡ count_where (passed off) (length es)
    past = sum-same (passed on) (passed off) (λ _. 1) (λ _. 1) (length es) (λ u lt. two (λ a b. spawns_by site (event_at es u) && (a && not b)) u lt) (λ u lt t. refl)

    came : count_where (entered on) (length es) ≡ count_where (entered off) (length es)
    came = sum-same (entered on) (entered off) (λ _. 1) (λ _. 1) (length es) (λ u lt. two (λ a b. spawns_by site (event_at es u) && (a && b)) u lt) (λ u lt t. refl)

pub path_counts : (es : List Event) (burdens : Burdens) (marks ps : List ℕ) → length marks ≡ length es → AreMarksOf es burdens 0 marks → IsPath es burdens 0 (length es) ps
    → (site : ℕ) → counts es (is_marked marks) site ≡ counts es (contains (0 ∷ ps)) site
path_counts es burdens marks ps long h path site = counts_same es (is_marked marks) (contains (0 ∷ ps)) (marks_are es burdens marks ps long h path) site
