-- The order in which sites are told.
use Rattle.std.proofs.Common.{◌≡◌, ℕ, ◌+◌, ◌≤◌, ◌<◌, ◌⊎◌, Bool, true, false, cond, List, [], ◌∷◌, length, take, map, sym, ap, subst, ◌∙◌, arith, inl, inr}
use Rattle.std.proofs.Common.{◌++◌, get_or}
use denote.Ref.{Bor}
use denote.Param.Members.{Mut}
use Rattle.std.specs.Fn.{Called, ComparesAs}
use Rattle.std.proofs.lemmas.Fn.{always_returns_same}
use Rattle.std.proofs.lemmas.Bool.{cases_lt, cases_order}
use Rattle.std.proofs.lemmas.List.{take-map, get_or-map, map-id, map-append, append-nil, length-map}
use Rattle.std.proofs.lemmas.List.Elements.{All-push}
use Rattle.std.proofs.lemmas.List.FromFn.{filter_of_map_range_with_len_more}
use Rattle.std.proofs.lemmas.List.Sorted.{IsPermutation-map, All-permutation}
use Rattle.std.specs.List.{All, filter, range_with_len}
use Rattle.std.specs.List.Sorted.{IsPermutation, IsSortedBy}
use Rattle.spp_advice.specs.declared.ranking.Weighed.{Weighed}
use Rattle.spp_advice.specs.Ranking.{rank, AreRanked, AreFirst}
use Rattle.std.specs.Cmp.{nat_cmp_is, IsStrictWeakOrder}
use Rattle.std.specs.declared.cmp.Ordering.{Ordering}
use Rattle.std.specs.Ordering.{nat_cmp, ordering_then, is_lt}
use Rattle.std.specs.declared.cmp.Ordering.TheVariants.{Less, Equal, Greater}

less_is : (x y : ℕ) → x < y → nat_cmp x y ≡ Less
less_is x y h = sym (nat_cmp_is x y Less h)

equal_is : (x y : ℕ) → x ≡ y → nat_cmp x y ≡ Equal
equal_is x y h = sym (nat_cmp_is x y Equal h)

greater_is : (x y : ℕ) → y < x → nat_cmp x y ≡ Greater
greater_is x y h = sym (nat_cmp_is x y Greater h)

-- the site a of weight v is told before the site b of weight w, by the numbers
abbrev pub told : ℕ → ℕ → ℕ → ℕ → Ordering
told v a w b = ordering_then (nat_cmp w v) (nat_cmp a b)

abbrev NotBefore : ℕ → ℕ → ℕ → ℕ → Type 0
NotBefore v a w b = (v < w) ⊎ ((v ≡ w) × (b ≤ a))

not_lt : (o : Ordering) → o ≡ Less → is_lt o ≡ false → ⊥
not_lt o e h = let z : true ≡ false = sym (ap is_lt e) ∙ h in absurd cc

heavier : (v a w b : ℕ) → w < v → told v a w b ≡ Less
heavier v a w b h = ap (λ (o : Ordering). ordering_then o (nat_cmp a b)) (less_is w v h)

lighter : (v a w b : ℕ) → v < w → told v a w b ≡ Greater
lighter v a w b h = ap (λ (o : Ordering). ordering_then o (nat_cmp a b)) (greater_is w v h)

level : (v a w b : ℕ) → v ≡ w → told v a w b ≡ nat_cmp a b
level v a w b h = ap (λ (o : Ordering). ordering_then o (nat_cmp a b)) (equal_is w v (sym h))

not_from : (v a w b : ℕ) → is_lt (told v a w b) ≡ false → NotBefore v a w b
not_from v a w b h =
    elim (cases_order v w) [
      | inl e ↦ elim (cases_lt a b) [ inl l ↦ absurd (not_lt (told v a w b) (level v a w b e ∙ less_is a b l) h) | inr le ↦ inr (e, le) ]
      | inr other ↦ elim other [ inl l ↦ inl l | inr l ↦ absurd (not_lt (told v a w b) (heavier v a w b l) h) ]
    ]

not_to : (v a w b : ℕ) → NotBefore v a w b → is_lt (told v a w b) ≡ false
not_to v a w b (inl l) = ap is_lt (lighter v a w b l)
not_to v a w b (inr h) =
    elim (cases_order a b) [
      | inl e ↦ ap is_lt (level v a w b h.0 ∙ equal_is a b e)
      | inr other ↦ elim other [ inl l ↦ (let z = h.1 in absurd (omega arith)) | inr l ↦ ap is_lt (level v a w b h.0 ∙ greater_is a b l) ]
    ]

chained : (v a w b x c : ℕ) → NotBefore v a w b → NotBefore w b x c → NotBefore v a x c
chained v a w b x c (inl l) (inl m) = inl (omega arith)
chained v a w b x c (inl l) (inr m) = inl (let z = m.0 in omega arith)
chained v a w b x c (inr l) (inl m) = inl (let z = l.0 in omega arith)
chained v a w b x c (inr l) (inr m) = inr ((let y = l.0 in let z = m.0 in omega arith), (let y = l.1 in let z = m.1 in omega arith))

turned : (v a w b : ℕ) → is_lt (told v a w b) ≡ true → NotBefore w b v a
turned v a w b h =
    elim (cases_order v w) [
      | inl e ↦ elim (cases_lt a b) [ inl l ↦ inr (sym e, (omega arith)) | inr le ↦ absurd (both (not_to v a w b (inr (e, le)))) ]
      | inr other ↦ elim other [ inl l ↦ absurd (both (not_to v a w b (inl l))) | inr l ↦ inl l ]
    ]
  where
    both : is_lt (told v a w b) ≡ false → ⊥
    both f = let z : true ≡ false = sym h ∙ f in absurd cc

module _ {X : Type 0} (weight site : X → ℕ) where
  abbrev pub is_told : X → X → Bool
  is_told x y = is_lt (told (weight x) (site x) (weight y) (site y))

  pub told_order : IsStrictWeakOrder is_told
  told_order = record {
    one_way = λ x y h. not_to (weight y) (site y) (weight x) (site x) (turned (weight x) (site x) (weight y) (site y) h);
    chain = λ x y z h k. not_to (weight x) (site x) (weight z) (site z)
        (chained (weight x) (site x) (weight y) (site y) (weight z) (site z) (not_from (weight x) (site x) (weight y) (site y) h) (not_from (weight y) (site y) (weight z) (site z) k));
  }

-- ---- lists of weighed sites

pub met_more : (p : ℕ → Bool) (n : ℕ) → filter p (range_with_len 0 (n + 1)) ≡ filter p (range_with_len 0 n) ++ cond (p n) (n ∷ []) []
met_more p n =
    ap (λ (xs : List ℕ). filter p xs) (sym (map-id (range_with_len 0 (n + 1))))
    ∙ filter_of_map_range_with_len_more p (λ (x : ℕ). x) 0 n n (omega arith)
    ∙ ap (λ (xs : List ℕ). filter p xs ++ cond (p n) (n ∷ []) []) (map-id (range_with_len 0 n))

pub met_pushed : (p : ℕ → Bool) (n : ℕ) (old new : List Weighed) (w : Weighed) → p n ≡ true → w.site ≡ n → new ≡ old ++ w ∷ []
    → map (λ (x : Weighed). x.site) old ≡ filter p (range_with_len 0 n) → map (λ (x : Weighed). x.site) new ≡ filter p (range_with_len 0 (n + 1))
met_pushed p n old new w t at is was =
    ap (λ (xs : List Weighed). map (λ (x : Weighed). x.site) xs) is
    ∙ map-append (λ (x : Weighed). x.site) old (w ∷ [])
    ∙ ap (λ (xs : List ℕ). xs ++ w.site ∷ []) was
    ∙ ap (λ (k : ℕ). filter p (range_with_len 0 n) ++ k ∷ []) at
    ∙ ap (λ (b : Bool). filter p (range_with_len 0 n) ++ cond b (n ∷ []) []) (sym t)
    ∙ sym (met_more p n)

pub met_passed : (p : ℕ → Bool) (n : ℕ) (old : List ℕ) → p n ≡ false → old ≡ filter p (range_with_len 0 n) → old ≡ filter p (range_with_len 0 (n + 1))
met_passed p n old t was =
    was
    ∙ sym (append-nil (filter p (range_with_len 0 n)))
    ∙ ap (λ (b : Bool). filter p (range_with_len 0 n) ++ cond b (n ∷ []) []) (sym t)
    ∙ sym (met_more p n)

pub weights_pushed : (weight : ℕ → ℕ) (old new : List Weighed) (w : Weighed) → w.weight ≡ weight w.site → new ≡ old ++ w ∷ []
    → All (λ (x : Weighed). x.weight ≡ weight x.site) old → All (λ (x : Weighed). x.weight ≡ weight x.site) new
weights_pushed weight old new w at is was =
    subst (λ (xs : List Weighed). All (λ (x : Weighed). x.weight ≡ weight x.site) xs) (sym is) (All-push (λ (x : Weighed). x.weight ≡ weight x.site) old w was at)

-- sorted by their weights, the sites are ranked
ranks_are : (weight : ℕ → ℕ) (a b : Weighed) → a.weight ≡ weight a.site → b.weight ≡ weight b.site
    → is_told (λ (x : Weighed). x.weight) (λ (x : Weighed). x.site) a b ≡ is_lt (rank weight a.site b.site)
ranks_are weight a b h k = ap (λ (v : ℕ). is_lt (told v a.site b.weight b.site)) h ∙ ap (λ (v : ℕ). is_lt (told (weight a.site) a.site v b.site)) k

blank : Weighed
blank = record { site = 0; weight = 0 }

pub sites_ranked : (weight : ℕ → ℕ) (met : List ℕ) (old sorted : List Weighed) → map (λ (x : Weighed). x.site) old ≡ met → All (λ (x : Weighed). x.weight ≡ weight x.site) old
    → IsPermutation old sorted → IsSortedBy (is_told (λ (x : Weighed). x.weight) (λ (x : Weighed). x.site)) sorted
    → AreRanked weight met (map (λ (x : Weighed). x.site) sorted)
sites_ranked weight met old sorted are weights moved up = record {
  are = subst (λ (xs : List ℕ). IsPermutation xs (map (λ (x : Weighed). x.site) sorted)) are (IsPermutation-map (λ (x : Weighed). x.site) old sorted moved);
  order = λ k d le lt. in_order k d (subst (λ (n : ℕ). k + 1 < n) (length-map sorted (λ (x : Weighed). x.site)) lt);
}
  where
    all : All (λ (x : Weighed). x.weight ≡ weight x.site) sorted
    all = All-permutation (λ (x : Weighed). x.weight ≡ weight x.site) old sorted moved weights

    at : (k d : ℕ) → k < length sorted → get_or (map (λ (x : Weighed). x.site) sorted) k d ≡ (get_or sorted k blank).site
    at k d lt = get_or-map (λ (x : Weighed). x.site) sorted k blank d lt

    in_order : (k d : ℕ) → k + 1 < length sorted → is_lt (rank weight (get_or (map (λ (x : Weighed). x.site) sorted) (k + 1) d) (get_or (map (λ (x : Weighed). x.site) sorted) k d)) ≡ false
    in_order k d lt =
        let a : Weighed = get_or sorted (k + 1) blank in
        let b : Weighed = get_or sorted k blank in
        ap (λ (n : ℕ). is_lt (rank weight n (get_or (map (λ (x : Weighed). x.site) sorted) k d))) (at (k + 1) d lt)
        ∙ ap (λ (n : ℕ). is_lt (rank weight a.site n)) (at k d (omega arith))
        ∙ sym (ranks_are weight a b (all (k + 1) blank lt) (all k blank (omega arith)))
        ∙ up k blank (omega arith) lt

-- what a sort gives whose closure compares so
pub told_sorted : {F : Type 0} {g : Mut F (Bor Weighed × (Bor Weighed × Unit {0})) Ordering} {f : F} (xs : List Weighed)
    → ((lt : Weighed → Weighed → Bool) → IsStrictWeakOrder lt → ComparesAs g lt f → IsSortedBy lt xs)
    → ((a : Bor Weighed × (Bor Weighed × Unit {0})) (r : Ordering) (f' : F) → Called g f a r f' → (r ≡ told a.0.now.weight a.0.now.site a.1.0.now.weight a.1.0.now.site) × (f' ≡ f))
    → IsSortedBy (is_told (λ (x : Weighed). x.weight) (λ (x : Weighed). x.site)) xs
told_sorted {g = g} {f = f} xs up h =
    let lt : Weighed → Weighed → Bool = is_told (λ (x : Weighed). x.weight) (λ (x : Weighed). x.site) in
    up lt (told_order (λ (x : Weighed). x.weight) (λ (x : Weighed). x.site)) (always_returns_same g (λ a r. is_lt r ≡ lt a.0.now a.1.0.now) f (λ a r f' k. (ap is_lt (h a r f' k).0, (h a r f' k).1)))

-- the first of them
pub first_are : (weight : ℕ → ℕ) (met : List ℕ) (old sorted cut read : List Weighed) (top : ℕ) (items : List ℕ) → map (λ (x : Weighed). x.site) old ≡ met → All (λ (x : Weighed). x.weight ≡ weight x.site) old
    → IsPermutation old sorted → IsSortedBy (is_told (λ (x : Weighed). x.weight) (λ (x : Weighed). x.site)) sorted → cut ≡ take top sorted → read ≡ cut → items ≡ map (λ (x : Weighed). x.site) read
    → AreFirst weight met top items
first_are weight met old sorted cut read top items are weights moved up is same told = (
  map (λ (x : Weighed). x.site) sorted,
  sites_ranked weight met old sorted are weights moved up,
  told ∙ ap (λ (xs : List Weighed). map (λ (x : Weighed). x.site) xs) (same ∙ is) ∙ sym (take-map (λ (x : Weighed). x.site) top sorted),
)
