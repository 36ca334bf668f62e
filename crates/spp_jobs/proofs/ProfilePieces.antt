-- The pieces of a profile, joined.
use Rattle.std.proofs.Common.{◌≡◌, ℕ, zero, suc, ◌+◌, ◌-◌, ◌<◌, List, [], ◌∷◌, ◌++◌, length, get_or, take, drop, Result, Ok, Err, IfErr, refl, sym, ap, subst, ◌∙◌, arith}
use Rattle.std.specs.Result.{IsErrAnd}
use Rattle.std.proofs.lemmas.List.Sums.{sum_by-cons}
use Rattle.spp_event.specs.Recordings.{Recording}
use Rattle.spp_frame.specs.declared.profile_fault.ProfileFault.{ProfileFault}
use Rattle.spp_cut.specs.Parts.{PartOf, CutOf, Cover, IsCut, HasFewParts, events_in}
use Rattle.spp_maxplus.specs.declared.state.Burdens.{Burdens}
use Rattle.spp_part.specs.declared.part_profile.PartProfile.{PartProfile}
use Rattle.spp_part.specs.declared.so_far.ProfileSoFar.{ProfileSoFar}
use Rattle.spp_part.specs.Parts.{IsPartProfile, IsSoFar}
use Rattle.spp_book.specs.Jobs.{AreNeighbours, IsJoined}
use Rattle.spp_jobs.specs.declared.profiled.ProfilePiece.{ProfilePiece}
use Rattle.spp_jobs.specs.declared.profiled.ProfilePiece.TheVariants.{Begun, Bad, Later, Spent}
use Rattle.spp_jobs.specs.Names.{profiles, JobOf, spell, parts_in, parts_from, IsNamed}
use Rattle.spp_jobs.specs.Tables.{begin}
use Rattle.spp_jobs.specs.ProfilePieces.{AreProfilesOf, IsPieceOf, IsPiece, Follow, IsReached}
use Rattle.spp_jobs.proofs.Spelling.{same_job}
use Rattle.spp_jobs.proofs.Begins.{part_at}
use Rattle.spp_jobs.proofs.Cuts.{ranges_join, range_one, events_to, begins}

-- the piece is of parts behind the first, and this is what each comes to
abbrev pub IsLater : ProfilePiece → List PartProfile → Type 0
IsLater (Begun r b) xs = ⊥
IsLater (Bad f) xs = ⊥
IsLater (Later parts) xs = parts.items ≡ xs
IsLater Spent xs = ⊥

module _ (a : JobOf) (i k : ℕ) where
  abbrev Told : List PartProfile → Type 0
  Told xs = (0 < i) × AreProfilesOf a.cut.trace a.burdens (parts_from a.cut i k) xs

  of_later : (c : ProfilePiece) (xs : List PartProfile) → IsLater c xs → IsPieceOf a i k c → Told xs
  of_later (Begun r b) xs is of = absurd is
  of_later (Bad f) xs is of = absurd is
  of_later (Later parts) xs is of = subst (λ l. Told l) is of
  of_later Spent xs is of = absurd is

  to_later : (c : ProfilePiece) (xs : List PartProfile) → IsLater c xs → Told xs → IsPieceOf a i k c
  to_later (Begun r b) xs is told = absurd is
  to_later (Bad f) xs is told = absurd is
  to_later (Later parts) xs is told = subst (λ l. Told l) (sym is) told
  to_later Spent xs is told = absurd is

-- ---- what parts come to, one by one

profiles_append : (t : Recording) (b : Burdens) (ps qs : List PartOf) (xs ys : List PartProfile) → AreProfilesOf t b ps xs → AreProfilesOf t b qs ys → AreProfilesOf t b (ps ++ qs) (xs ++ ys)
profiles_append t b [] qs [] ys h k = k
profiles_append t b [] qs (x ∷ xs) ys h k = absurd h
profiles_append t b (p ∷ ps) qs [] ys h k = absurd h
profiles_append t b (p ∷ ps) qs (x ∷ xs) ys h k = (h.0, profiles_append t b ps qs xs ys h.1 k)

follow_from : (t : Recording) (b : Burdens) (number from end : ℕ) (ps : List PartOf) → Cover t number from ps end → (n : ℕ) (xs : List PartProfile)
    → AreProfilesOf t b (take n ps) xs → Follow t b from xs (from + events_in (take n ps))
follow_from t b number from end ps h zero [] are = omega arith
follow_from t b number from end ps h zero (x ∷ xs) are = absurd are
follow_from t b number from end [] h (suc n) [] are = omega arith
follow_from t b number from end [] h (suc n) (x ∷ xs) are = absurd are
follow_from t b number from end (p ∷ ps) h (suc n) [] are = absurd are
follow_from t b number from end (p ∷ ps) h (suc n) (x ∷ xs) are =
    let more : events_in (p ∷ take n ps) ≡ p.count + events_in (take n ps) = sum_by-cons (λ (q : PartOf). q.count) p (take n ps) in
    let to : (from + p.count) + events_in (take n ps) ≡ from + events_in (p ∷ take n ps) = omega arith in (
      p.count,
      subst (λ m. IsPartProfile t b m p.count x) h.2 are.0,
      subst (λ m. Follow t b (from + p.count) xs m) to (follow_from t b (suc number) (from + p.count) end ps h.3 n xs are.1),
    )

cover_drop : (t : Recording) (number from end : ℕ) (ps : List PartOf) → Cover t number from ps end → (j : ℕ) → (m : ℕ) × Cover t m (from + events_in (take j ps)) (drop j ps) end
cover_drop t number from end ps h zero =
    let to : from ≡ from + 0 = omega arith in
    (number, subst (λ m. Cover t number m ps end) to h)
cover_drop t number from end [] h (suc j) =
    let to : from ≡ end = h in
    (number, (let e : from + 0 ≡ end = omega arith in e))
cover_drop t number from end (p ∷ ps) h (suc j) =
    let more : events_in (p ∷ take j ps) ≡ p.count + events_in (take j ps) = sum_by-cons (λ (q : PartOf). q.count) p (take j ps) in
    let to : (from + p.count) + events_in (take j ps) ≡ from + events_in (p ∷ take j ps) = omega arith in
    let rest = cover_drop t (suc number) (from + p.count) end ps h.3 j in
    (rest.0, subst (λ m. Cover t rest.0 m (drop j ps) end) to rest.1)

-- the events of neighbouring parts follow each other
follow : (c : CutOf) → IsCut c → (b : Burdens) (j k : ℕ) → j < k → (xs : List PartProfile) → AreProfilesOf c.trace b (parts_from c j k) xs → Follow c.trace b (begin c j) xs (begin c k)
follow c h b j k lt xs are =
    let end = length c.trace.records in
    let rest = cover_drop c.trace 0 0 end c.parts h j in
    let told = follow_from c.trace b rest.0 (0 + begin c j) end (drop j c.parts) rest.1 (k - j) xs are in
    let from : 0 + begin c j ≡ begin c j = omega arith in
    let next = events_to c.parts j k lt in
    let to : (0 + begin c j) + events_in (parts_from c j k) ≡ begin c k = omega arith in
    subst (λ m. Follow c.trace b (begin c j) xs m) to (subst (λ m. Follow c.trace b m xs ((0 + begin c j) + events_in (parts_from c j k))) from told)

-- ---- one part

pub record IsPartIn (c : CutOf) (k : ℕ) (p : PartOf) : Type 0 where
  pub trace : p.trace ≡ c.trace
  pub first : p.first ≡ begin c k
  pub next : begin c (k + 1) ≡ begin c k + p.count
  pub one : parts_from c k (k + 1) ≡ p ∷ []

pub part_in : (c : CutOf) → IsCut c → (k : ℕ) (p : PartOf) → k < length c.parts → p ≡ get_or c.parts k p → IsPartIn c k p
part_in c h k p lt is =
    let one : parts_from c k (k + 1) ≡ p ∷ [] = range_one c.parts k p lt is in
    let more = events_to c.parts k (k + 1) (omega arith) in
    let count : events_in (parts_from c k (k + 1)) ≡ p.count + events_in [] = ap events_in one ∙ sum_by-cons (λ (q : PartOf). q.count) p [] in
    let none : events_in [] ≡ 0 = refl in
    record {
      trace = ap (λ (q : PartOf). q.trace) is ∙ (part_at c.trace 0 0 (length c.trace.records) c.parts h k p lt).trace;
      first = ap (λ (q : PartOf). q.first) is ∙ begins c h k p lt;
      next = omega arith;
      one = one;
    }

-- what a part behind the first comes to
pub later_one : (j : JobOf) (k : ℕ) (p : PartOf) → IsPartIn j.cut k p → 0 < k → (x : PartProfile) → IsPartProfile p.trace j.burdens p.first p.count x → (c : ProfilePiece) → IsLater c (x ∷ [])
    → IsPieceOf j k (k + 1) c
later_one j k p in_cut some x of c is =
    let here : IsPartProfile j.cut.trace j.burdens p.first p.count x = subst (λ t. IsPartProfile t j.burdens p.first p.count x) in_cut.trace of in
    let one : AreProfilesOf j.cut.trace j.burdens (p ∷ []) (x ∷ []) = (here, tt) in
    to_later j k (k + 1) c (x ∷ []) is (some, subst (λ ps. AreProfilesOf j.cut.trace j.burdens ps (x ∷ [])) (sym in_cut.one) one)

-- what the first one comes to
pub first_one : (c : CutOf) (b : Burdens) (k : ℕ) (p : PartOf) → IsPartIn c k p → k ≡ 0 → (x : PartProfile) → IsPartProfile p.trace b p.first p.count x → IsPartProfile c.trace b 0 p.count x
first_one c b k p in_cut none x of =
    let from : p.first ≡ 0 = in_cut.first ∙ ap (λ n. begin c n) none in
    subst (λ t. IsPartProfile t b 0 p.count x) in_cut.trace (subst (λ n. IsPartProfile p.trace b n p.count x) from of)

pub begun_one : (j : JobOf) (k : ℕ) (p : PartOf) → IsPartIn j.cut k p → k ≡ 0 → (r : ProfileSoFar) → IsSoFar j.cut.trace j.burdens (0 + p.count) r → IsPieceOf j k (k + 1) (Begun r j.burdens)
begun_one j k p in_cut none r of =
    let from : begin j.cut k ≡ 0 = ap (λ n. begin j.cut n) none in
    let next = in_cut.next in
    let to : 0 + p.count ≡ begin j.cut (k + 1) = omega arith in
    (none, refl, subst (λ m. IsSoFar j.cut.trace j.burdens m r) to of)

-- ---- pieces, joined

-- two values of one name are of one job
same_piece : (name : List ℕ) (a : JobOf) → IsNamed profiles name a → (j k : ℕ) (c : ProfilePiece) → IsPiece name j k c → IsPieceOf a j k c
same_piece name a named j k c v = subst (λ x. IsPieceOf x j k c) (same_job profiles name v.0 a v.1 named) v.2

module _ (r : ProfileSoFar) (b : Burdens) (right : ProfilePiece) (xs : List PartProfile) (is : IsLater right xs) where
  -- under the burdens of the job
  so_far_of : (a : JobOf) (i j : ℕ) → IsPieceOf a i j (Begun r b) → IsSoFar a.cut.trace b (begin a.cut j) r
  so_far_of a i j of = subst (λ x. IsSoFar a.cut.trace x (begin a.cut j) r) (sym of.1) of.2

  follow_of : (a : JobOf) → IsCut a.cut → b ≡ a.burdens → (j k : ℕ) → j < k → IsPieceOf a j k right → Follow a.cut.trace b (begin a.cut j) xs (begin a.cut k)
  follow_of a h same j k lt of =
      subst (λ x. Follow a.cut.trace x (begin a.cut j) xs (begin a.cut k)) (sym same) (follow a.cut h a.burdens j k lt xs (of_later a j k right xs is of).1)

  pub can_go_on : AreNeighbours parts_in IsPiece (Begun r b) right → (trace : Recording) × (i : ℕ) × (k : ℕ) × IsSoFar trace b i r × Follow trace b i xs k
  can_go_on n =
      let a = n.7.0 in
      let named = n.7.1 in
      (a.cut.trace, begin a.cut n.2, begin a.cut n.3, so_far_of a n.1 n.2 n.7.2, follow_of a named.cut n.7.2.1 n.2 n.3 n.5 (same_piece n.0 a named n.2 n.3 right n.8))

  reached : (a : JobOf) (i k : ℕ) (both : ProfilePiece) → i ≡ 0 → b ≡ a.burdens → IsReached a.cut.trace b (begin a.cut k) both → IsPieceOf a i k both
  reached a i k (Begun s under) first same h = (first, h.0 ∙ same, subst (λ x. IsSoFar a.cut.trace x (begin a.cut k) s) same h.1)
  reached a i k (Bad f) first same h = (first, h)
  reached a i k (Later parts) first same h = absurd h
  reached a i k Spent first same h = tt

  pub begun_joined : (both : ProfilePiece) → ((trace : Recording) (i k : ℕ) → IsSoFar trace b i r → Follow trace b i xs k → IsReached trace b k both)
      → IsJoined parts_in IsPiece (Begun r b) right both
  begun_joined both tells name i j k low high most of_left of_right =
      let a = of_left.0 in
      let named = of_left.1 in
      let so = so_far_of a i j of_left.2 in
      let rest = follow_of a named.cut of_left.2.1 j k high (same_piece name a named j k right of_right) in
      (a, named, reached a i k both of_left.2.0 of_left.2.1 (tells a.cut.trace (begin a.cut j) (begin a.cut k) so rest))

-- the list of the one and that of the other
pub later_joined : (left right both : ProfilePiece) (xs ys : List PartProfile) → IsLater left xs → IsLater right ys → IsLater both (xs ++ ys) → IsJoined parts_in IsPiece left right both
later_joined left right both xs ys is_left is_right is name i j k low high most of_left of_right =
    let a = of_left.0 in
    let named = of_left.1 in
    let t = a.cut.trace in
    let first = of_later a i j left xs is_left of_left.2 in
    let next = of_later a j k right ys is_right (same_piece name a named j k right of_right) in
    let all : parts_from a.cut i j ++ parts_from a.cut j k ≡ parts_from a.cut i k = ranges_join a.cut.parts i j k low high in
    let told = profiles_append t a.burdens (parts_from a.cut i j) (parts_from a.cut j k) xs ys first.1 next.1 in
    (a, named, to_later a i k both (xs ++ ys) is (first.0, subst (λ ps. AreProfilesOf t a.burdens ps (xs ++ ys)) all told))

-- the error of a call, told on
pub told_on : {X : Type 0} (P : ProfileFault → Type 0) (e : ProfileFault) (x : Result X ProfileFault) → IsErrAnd x (λ f. f ≡ e) → P e → IfErr x P
told_on P e (Ok r) h p = tt
told_on P e (Err f) h p = subst P (sym h) p

-- the value of all parts
pub piece_all : (a : JobOf) → a.kind ≡ profiles → IsCut a.cut → HasFewParts a.cut → (k : ℕ) (c : ProfilePiece) → IsPiece (spell a) 0 k c → IsPieceOf a 0 k c
piece_all a kind h few k c v = same_piece (spell a) a (record { kind_is = kind; named = refl; cut = h; few = few }) 0 k c v
