-- Reads one after another, from the first on.
use Rattle.std.proofs.Common.{◌≡◌, ◌≢◌, ℕ, ◌+◌, ◌<◌, ◌≤◌, inl, inr, List, [], ◌∷◌, ◌++◌, length, All, Option, None, Some, refl, sym, ◌∙◌, ap, subst, append_assoc, arith, length-append, length-take-le, take}
use Rattle.std.specs.Option.{option_map}
use Rattle.std.proofs.lemmas.List.{append-nil}
use Rattle.std.proofs.lemmas.List.Elements.{All-nil, All-push}
use Rattle.std.specs.Io.KnownBytes.{Keeps, Consumes}
use Rattle.spp_shell.specs.Reading.{Reads, given, IsNoEnd, GaveAll, ReadWithin, PassedBound, KnownAnswer}

module _ {S : Type 0} (answered : S → Option (List ℕ) → S → Type 0) where
  -- n reads gave these bytes, and none was at the end
  abbrev pub SoFar : ℕ → S → List ℕ → S → Type 0
  SoFar n s xs t = (rs : List (Option (List ℕ))) × Reads answered s rs t × All IsNoEnd rs × (xs ≡ given rs) × (length rs ≡ n)

  reads_more : (s m t : S) (rs : List (Option (List ℕ))) (r : Option (List ℕ)) → Reads answered s rs m → answered m r t → Reads answered s (rs ++ r ∷ []) t
  reads_more s m t [] r p q = (t, subst (λ x. answered x r t) p q, refl)
  reads_more s m t (a ∷ rs) r p q = (p.0, p.1, reads_more p.0 m t rs r p.2 q)

  pub so_far_start : (s : S) → SoFar 0 s [] s
  so_far_start s = ([], refl, All-nil IsNoEnd, refl, refl)

given_more : (rs : List (Option (List ℕ))) (ys : List ℕ) → given (rs ++ Some ys ∷ []) ≡ given rs ++ ys
given_more [] ys = append-nil ys
given_more (None ∷ rs) ys = given_more rs ys
given_more (Some xs ∷ rs) ys = ap (λ z. xs ++ z) (given_more rs ys) ∙ sym (append_assoc xs (given rs) ys)

given_same : (rs : List (Option (List ℕ))) → given (rs ++ None ∷ []) ≡ given rs
given_same [] = refl
given_same (None ∷ rs) = given_same rs
given_same (Some xs ∷ rs) = ap (λ z. xs ++ z) (given_same rs)

longer : (rs : List (Option (List ℕ))) (r : Option (List ℕ)) (n : ℕ) → length rs ≡ n → length (rs ++ r ∷ []) ≡ n + 1
longer rs r n e = length-append rs (r ∷ []) ∙ ap (λ k. k + 1) e

module _ {S : Type 0} (answered : S → Option (List ℕ) → S → Type 0) where
  pub so_far_interrupted : (n : ℕ) (s m t : S) (xs : List ℕ) → SoFar answered n s xs m → answered m None t → SoFar answered (n + 1) s xs t
  so_far_interrupted n s m t xs p q =
      (p.0 ++ None ∷ [], reads_more answered s m t p.0 None p.1 q, All-push IsNoEnd p.0 None p.2 tt, p.3 ∙ sym (given_same p.0), longer p.0 None n p.4)

  pub so_far_more : (n : ℕ) (s m t : S) (xs ys : List ℕ) → SoFar answered n s xs m → answered m (Some ys) t → 0 < length ys → SoFar answered (n + 1) s (xs ++ ys) t
  so_far_more n s m t xs ys p q h =
      (p.0 ++ Some ys ∷ [], reads_more answered s m t p.0 (Some ys) p.1 q, All-push IsNoEnd p.0 (Some ys) p.2 h, ap (λ z. z ++ ys) p.3 ∙ sym (given_more p.0 ys), longer p.0 (Some ys) n p.4)

  pub so_far_end : (n turns : ℕ) (s m t : S) (xs : List ℕ) → SoFar answered n s xs m → answered m (Some []) t → n < turns → GaveAll answered turns s xs t
  so_far_end n turns s m t xs p q h = (p.0, reads_more answered s m t p.0 (Some []) p.1 q, p.2, p.3, subst (λ k. k < turns) (sym p.4) h)

  -- so many reads, of which one more is allowed
  pub so_far_within : (n most turns : ℕ) (s t : S) (xs : List ℕ) → SoFar answered n s xs t → length xs ≤ most → n < turns → ReadWithin answered most turns s t
  so_far_within n most turns s t xs p h k = (p.0, p.1, (p.2, subst (λ z. length z ≤ most) p.3 h, subst (λ j. j < turns) (sym p.4) k))

  -- one read more, that brought too many bytes
  pub so_far_long : (n most turns : ℕ) (s m t : S) (xs ys : List ℕ) → SoFar answered n s xs m → length xs ≤ most → n < turns → answered m (Some ys) t
      → most < length (xs ++ ys) → PassedBound answered most turns s t
  so_far_long n most turns s m t xs ys p h k q long =
      inr (
        p.0,
        ys,
        reads_more answered s m t p.0 (Some ys) p.1 q,
        (p.2, subst (λ z. length z ≤ most) p.3 h, subst (λ j. j < turns) (sym p.4) k),
        subst (λ z. most < length (z ++ ys)) p.3 long,
      )

  -- all the reads
  pub so_far_turns : (n most turns : ℕ) (s t : S) (xs : List ℕ) → SoFar answered n s xs t → length xs ≤ most → n ≤ turns → turns ≤ n → PassedBound answered most turns s t
  so_far_turns n most turns s t xs p w h k =
      let e : length p.0 ≡ turns = omega (arith, p.4, h, k) in
      inl (p.0, p.1, p.2, subst (λ z. length z ≤ most) p.3 w, e)

  -- the read that brought too many, as a call of `pull` tells it
  pub so_far_passed : (n most turns : ℕ) (s m t : S) (xs buf : List ℕ) (o : Option ℕ) (k : ℕ) → SoFar answered n s xs m → length xs ≤ most → n < turns
      → answered m (option_map (λ k. take k buf) o) t → o ≡ Some k → most < length (xs ++ take k buf) → PassedBound answered most turns s t
  so_far_passed n most turns s m t xs buf o k p w l q h long =
      so_far_long n most turns s m t xs (take k buf) p w l (subst (λ z. answered m (option_map (λ k. take k buf) z) t) h q) long

  -- a read that was interrupted, as a call of `pull` tells it
  pub so_far_none : (n : ℕ) (s m t : S) (xs buf : List ℕ) (o : Option ℕ) → SoFar answered n s xs m → answered m (option_map (λ k. take k buf) o) t → o ≡ None → SoFar answered (n + 1) s xs t
  so_far_none n s m t xs buf o p q h =
      so_far_interrupted n s m t xs p (subst (λ z. answered m (option_map (λ k. take k buf) z) t) h q)

  -- a read that gave some bytes
  pub so_far_some : (n : ℕ) (s m t : S) (xs buf : List ℕ) (o : Option ℕ) (k : ℕ) → SoFar answered n s xs m → answered m (option_map (λ k. take k buf) o) t → o ≡ Some k → k ≤ length buf → k ≢ 0 → SoFar answered (n + 1) s (xs ++ take k buf) t
  so_far_some n s m t xs buf o k p q h w z =
      let l : length (take k buf) ≡ k = length-take-le k buf w in
      so_far_more n s m t xs (take k buf) p (subst (λ z. answered m (option_map (λ k. take k buf) z) t) h q) (omega (arith, l, z))

  -- a read at the end
  pub so_far_ended : (n turns : ℕ) (s m t : S) (xs buf : List ℕ) (o : Option ℕ) (k : ℕ) → SoFar answered n s xs m → answered m (option_map (λ k. take k buf) o) t → o ≡ Some k → k ≡ 0 → n < turns → GaveAll answered turns s xs t
  so_far_ended n turns s m t xs buf o k p q h z l =
      so_far_end n turns s m t xs p (subst (λ j. answered m (Some (take j buf)) t) z (subst (λ z. answered m (option_map (λ k. take k buf) z) t) h q)) l

known_kept : (o p : Option (List ℕ)) (xs : List ℕ) → o ≡ Some xs → Keeps o p → p ≡ Some xs
known_kept o None xs e k = absurd (let q : Keeps (Some xs) None = subst (λ z. Keeps z None) e k in q)
known_kept o (Some ys) xs e k = let q : Keeps (Some xs) (Some ys) = subst (λ z. Keeps z (Some ys)) e k in ap Some q

known_took : (o p : Option (List ℕ)) (xs ys : List ℕ) → o ≡ Some xs → Consumes o p ys → (zs : List ℕ) × (xs ≡ ys ++ zs) × (p ≡ Some zs)
known_took o None xs ys e k = absurd (let q : Consumes (Some xs) None ys = subst (λ z. Consumes z None ys) e k in q)
known_took o (Some zs) xs ys e k = let q : Consumes (Some xs) (Some zs) ys = subst (λ z. Consumes z (Some zs) ys) e k in (zs, q, refl)

-- where the bytes left are known, the answers up to the end give them all
module _ {S : Type 0} (left : S → Option (List ℕ)) where
  abbrev Known : S → Option (List ℕ) → S → Type 0
  Known a o b = KnownAnswer (left a) o (left b)

  known_end : (s t : S) (o p : Option (List ℕ)) (xs : List ℕ) → o ≡ Some xs → KnownAnswer o (Some []) p → xs ≡ []
  known_end s t o None xs e k = absurd (let q : Consumes (Some xs) None [] = subst (λ z. Consumes z None []) e k.0 in q)
  known_end s t o (Some ys) xs e k =
      let k' : KnownAnswer (Some xs) (Some []) (Some ys) = subst (λ z. KnownAnswer z (Some []) (Some ys)) e k in
      k'.0 ∙ k'.1 refl

  pub known_all : (s t : S) (rs : List (Option (List ℕ))) (xs : List ℕ) → left s ≡ Some xs → Reads Known s (rs ++ Some [] ∷ []) t → xs ≡ given rs
  known_all s t [] xs e p = known_end s t (left s) (left p.0) xs e p.1
  known_all s t (None ∷ rs) xs e p = known_all p.0 t rs xs (known_kept (left s) (left p.0) xs e p.1) p.2
  known_all s t (Some ys ∷ rs) xs e p =
      let q = known_took (left s) (left p.0) xs ys e p.1.0 in
      q.1 ∙ ap (λ z. ys ++ z) (known_all p.0 t rs q.0 q.2 p.2)
