-- Parts that cover a range, with one more at their end.
use Rattle.std.proofs.Common.{◌≡◌, ℕ, suc, ◌+◌, ◌-◌, ◌*◌, ◌/◌, ◌<◌, ◌≤◌, List, [], ◌∷◌, ◌++◌, length, map, take, get_or, sym, ap, subst, ◌∙◌, refl, arith, inl, inr}
use Rattle.std.proofs.lemmas.Bool.{cases_eq}
use Rattle.std.proofs.lemmas.List.{map-append, take_more}
use Rattle.std.proofs.lemmas.Nat.{le-div}
use Rattle.std.proofs.Math.Nat.{div-mul-le_self, mul-div_cancel_left}
use Rattle.std.proofs.Math.Seq.{get_or-append_seam}
use Rattle.std.proofs.lemmas.List.{get_or_append_left}
use Rattle.spp_event.specs.Recordings.{Recording}
use Rattle.spp_cut.specs.Parts.{PartOf, part_of, Cover}

pub cover_more : (t : Recording) (number from mid end : ℕ) (ps : List PartOf) → Cover t number from ps mid → mid ≤ end
    → Cover t number from (ps ++ part_of t (number + length ps) mid (end - mid) ∷ []) end
cover_more t number from mid end [] h le =
    let z : number + 0 ≡ number = omega arith in
    let e : from + (end - mid) ≡ end = omega arith in
    (refl, z, sym h, e)
cover_more t number from mid end (p ∷ ps) h le =
    let n : suc number + length ps ≡ number + suc (length ps) = omega arith in (
      h.0,
      h.1,
      h.2,
      subst (λ k. Cover t (suc number) (from + p.count) (ps ++ part_of t k mid (end - mid) ∷ []) end) n
          (cover_more t (suc number) (from + p.count) mid end ps h.3 le),
    )

-- the same of all parts so far
pub covered : (t : Recording) (n mid end : ℕ) (ps qs : List PartOf) → length ps ≡ n → Cover t 0 0 ps mid → mid ≤ end
    → qs ≡ ps ++ part_of t n mid (end - mid) ∷ [] → Cover t 0 0 qs end
covered t n mid end ps qs len h le is =
    let n_is : 0 + length ps ≡ n = omega arith in
    subst (λ l. Cover t 0 0 l end) (ap (λ k. ps ++ part_of t k mid (end - mid) ∷ []) n_is ∙ sym is) (cover_more t 0 0 mid end ps h le)

-- where the parts begin, with one more
pub begins_more : (t : Recording) (n first cut d : ℕ) (cuts : List ℕ) (ps qs : List PartOf) → n < length cuts → get_or cuts n 0 ≡ cut
    → map (λ p. p.first) ps ++ first ∷ [] ≡ 0 ∷ take n cuts → qs ≡ ps ++ part_of t n first d ∷ []
    → map (λ p. p.first) qs ++ cut ∷ [] ≡ 0 ∷ take (n + 1) cuts
begins_more t n first cut d cuts ps qs lt is h more =
    ap (λ l. map (λ p. p.first) l ++ cut ∷ []) more
    ∙ ap (λ l. l ++ cut ∷ []) (map-append (λ p. p.first) ps (part_of t n first d ∷ []) ∙ h)
    ∙ ap (λ c. 0 ∷ take n cuts ++ c ∷ []) (sym is)
    ∙ ap (λ l. 0 ∷ l) (sym (take_more cuts n 0 lt))

pub first_more : (t : Recording) (n first d : ℕ) (f : ℕ → ℕ) (ps qs : List PartOf) → length ps ≡ n → first ≡ f n
    → ((k : ℕ) (p : PartOf) → k < n → (get_or ps k p).first ≡ f k) → qs ≡ ps ++ part_of t n first d ∷ []
    → (k : ℕ) (p : PartOf) → k < n + 1 → (get_or qs k p).first ≡ f k
first_more t n first d f ps qs len is h more k p lt = elim (cases_eq k n) [
  | inl e ↦
      ap (λ l. (get_or l k p).first) more ∙ ap (λ j. (get_or (ps ++ part_of t n first d ∷ []) j p).first) (e ∙ sym len)
      ∙ ap (λ (x : PartOf). x.first) (get_or-append_seam ps (part_of t n first d) [] p) ∙ is ∙ ap f (sym e)
  | inr e ↦
      ap (λ l. (get_or l k p).first) more
      ∙ ap (λ (x : PartOf). x.first) (get_or_append_left ps (part_of t n first d ∷ []) p k (omega arith))
      ∙ h k p (omega arith)
]

-- even steps rise, and the last is the end
pub steps_rise : (events parts n : ℕ) → 0 < parts → n * events / parts ≤ (n + 1) * events / parts
steps_rise events parts n pos =
    let low : n * events / parts * parts ≤ n * events = div-mul-le_self (n * events) parts in
    let more : (n + 1) * events ≡ n * events + events = grind (arith) in
    le-div (n * events / parts) ((n + 1) * events) parts pos (omega arith)

pub step_ends : (events parts : ℕ) → 0 < parts → parts * events / parts ≡ events
step_ends events parts pos = mul-div_cancel_left events pos
