-- How the runs of a book change.
use Rattle.std.proofs.Common.{◌≡◌, ◌≢◌, ℕ, ◌+◌, ◌-◌, ◌<◌, ◌≤◌, Bool, true, false, Option, None, Some, refl, ap, sym, ◌∙◌, subst, arith, ◌⊎◌, inl, inr}
use Rattle.std.specs.Prelude.{is_some}
use Rattle.std.proofs.lemmas.Bool.{cases_lt, cases_eq}
use Rattle.spp_book.specs.declared.book.Run.{Run}
use Rattle.spp_book.specs.Books.{IsRun, AreRuns}

pub same_some : {X : Type 0} (a b : X) → Some a ≡ Some b → a ≡ b
same_some a b e = cc

-- nothing is both
clash : {P : Type 0} (b : Bool) → b ≡ true → b ≡ false → P
clash b t f = absurd cc

pub no_some : {X P : Type 0} (o : Option X) (x : X) → o ≡ None → o ≡ Some x → P
no_some o x e f = absurd cc

-- x is at n, and nothing else changes
pub record IsSet {X : Type 0} (old new : ℕ → X) (n : ℕ) (x : X) : Type 0 where
  pub here : new n ≡ x
  pub others : (k : ℕ) → k ≢ n → new k ≡ old k

-- a note that is set leaves those that are there
kept_note : (old new : ℕ → Option ℕ) (n x k : ℕ) → IsSet old new n (Some x) → is_some (old k) ≡ true → (k ≡ n) ⊎ (k ≢ n) → is_some (new k) ≡ true
kept_note old new n x k s h (inl e) = ap is_some (ap new e ∙ s.here)
kept_note old new n x k s h (inr e) = ap is_some (s.others k e) ∙ h

-- ---- a run of one part is put in

module _ {C : Type 0} (parts : ℕ) (value : ℕ → ℕ → C → Type 0) (run later : ℕ → Option (Run C)) (note after : ℕ → Option ℕ)
    (are : AreRuns parts value run note) (n : ℕ) (few : n < parts) (fresh : is_some (note n) ≡ false) (r : Run C) (end : r.end ≡ n + 1)
    (is_value : value n (n + 1) r.content) (runs_set : IsSet run later n (Some r)) (notes_set : IsSet note after n (Some n)) where
  -- no run has the part
  outside_by : (f : ℕ) (s : Run C) → run f ≡ Some s → f ≤ n → (n < s.end) ⊎ (s.end ≤ n) → s.end ≤ n
  outside_by f s e le (inl l) = clash (is_some (note n)) ((are.runs f s e).taken n le l) fresh
  outside_by f s e le (inr l) = l

  outside : (f : ℕ) (s : Run C) → run f ≡ Some s → f ≤ n → s.end ≤ n
  outside f s e le = outside_by f s e le (cases_lt n s.end)

  put_here : (f : ℕ) (s : Run C) → f ≡ n → later f ≡ Some s → s ≡ r
  put_here f s e h = same_some s r (sym h ∙ ap later e ∙ runs_set.here)

  put_elsewhere : (f : ℕ) (s : Run C) → f ≢ n → later f ≡ Some s → run f ≡ Some s
  put_elsewhere f s e h = sym (runs_set.others f e) ∙ h

  put_new : IsRun parts value after n r
  put_new = record {
    some = omega (arith, end);
    inside = omega (arith, end);
    content = subst (λ k. value n k r.content) (sym end) is_value;
    noted = ap after (let z : r.end - 1 ≡ n = omega (arith, end) in z) ∙ notes_set.here;
    taken = λ k ge lt. ap is_some (ap after (let z : k ≡ n = omega (arith, end) in z) ∙ notes_set.here);
  }

  put_old : (f : ℕ) (s : Run C) → run f ≡ Some s → IsRun parts value after f s
  put_old f s h =
      let o = are.runs f s h in
      let some = o.some in
      let last : s.end - 1 ≢ n = λ e. clash (is_some (note n)) (ap is_some (ap note (sym e)) ∙ o.taken (s.end - 1) (omega arith) (omega arith)) fresh in
      record {
        some = some;
        inside = o.inside;
        content = o.content;
        noted = notes_set.others (s.end - 1) last ∙ o.noted;
        taken = λ k ge lt. kept_note note after n n k notes_set (o.taken k ge lt) (cases_eq k n);
      }

  put_run : (f : ℕ) (s : Run C) → later f ≡ Some s → (f ≡ n) ⊎ (f ≢ n) → IsRun parts value after f s
  put_run f s h (inl e) = subst (λ t. IsRun parts value after f t) (sym (put_here f s e h)) (subst (λ g. IsRun parts value after g r) (sym e) put_new)
  put_run f s h (inr e) = put_old f s (put_elsewhere f s e h)

  put_apart : (f g : ℕ) (s t : Run C) → later f ≡ Some s → later g ≡ Some t → f < g → (f ≡ n) ⊎ (f ≢ n) → (g ≡ n) ⊎ (g ≢ n) → s.end ≤ g
  put_apart f g s t h i lt (inl e) (inl d) = absurd (omega arith)
  put_apart f g s t h i lt (inl e) (inr d) = let x : s.end ≡ r.end = ap (λ (u : Run C). u.end) (put_here f s e h) in omega (arith, end)
  put_apart f g s t h i lt (inr e) (inl d) = let x = outside f s (put_elsewhere f s e h) (omega arith) in omega arith
  put_apart f g s t h i lt (inr e) (inr d) = are.apart f g s t (put_elsewhere f s e h) (put_elsewhere g t d i) lt

  put_covered : (k : ℕ) → is_some (after k) ≡ true → (k ≡ n) ⊎ (k ≢ n) → (f : ℕ) × (s : Run C) × (later f ≡ Some s) × (f ≤ k) × (k < s.end)
  put_covered k h (inl e) = (n, r, runs_set.here, omega arith, omega (arith, end))
  put_covered k h (inr e) =
      let o = are.covered k (ap is_some (sym (notes_set.others k e)) ∙ h) in
      let other : o.0 ≢ n = λ d. clash (is_some (note n)) ((are.runs o.0 o.1 o.2).taken n (omega (arith, d)) (omega (arith, d, o.3, o.4))) fresh in
      (o.0, o.1, runs_set.others o.0 other ∙ o.2, o.3, o.4)

  pub put_runs : AreRuns parts value later after
  put_runs = record {
    runs = λ f s h. put_run f s h (cases_eq f n);
    apart = λ f g s t h i lt. put_apart f g s t h i lt (cases_eq f n) (cases_eq g n);
    covered = λ k h. put_covered k h (cases_eq k n);
  }

-- ---- two runs become one

module _ {C : Type 0} (parts : ℕ) (value : ℕ → ℕ → C → Type 0) (run later : ℕ → Option (Run C)) (note after : ℕ → Option ℕ)
    (are : AreRuns parts value run note) (f p : ℕ) (left right both : Run C) (is_left : run f ≡ Some left) (is_right : run p ≡ Some right)
    (meet : left.end ≡ p) (end : both.end ≡ right.end) (is_value : value f right.end both.content)
    (here : later f ≡ Some both) (gone : later p ≡ None) (others : (k : ℕ) → k ≢ f → k ≢ p → later k ≡ run k)
    (notes_set : IsSet note after (right.end - 1) (Some f)) where
  l : IsRun parts value note f left
  l = are.runs f left is_left

  r : IsRun parts value note p right
  r = are.runs p right is_right

  one_new : IsRun parts value after f both
  one_new =
      let a = l.some in
      let b = r.some in
      record {
        some = omega (arith, end, meet);
        inside = let c = r.inside in omega (arith, end);
        content = subst (λ k. value f k both.content) (sym end) is_value;
        noted = ap (λ k. after (k - 1)) end ∙ notes_set.here;
        taken = λ k ge lt. kept_note note after (right.end - 1) f k notes_set (by k ge (omega (arith, end)) (cases_lt k p)) (cases_eq k (right.end - 1));
      }
    where
      by : (k : ℕ) → f ≤ k → k < right.end → (k < p) ⊎ (p ≤ k) → is_some (note k) ≡ true
      by k ge lt (inl c) = l.taken k ge (omega (arith, meet))
      by k ge lt (inr c) = r.taken k c lt

  one_old : (g : ℕ) (s : Run C) → run g ≡ Some s → g ≢ f → g ≢ p → IsRun parts value after g s
  one_old g s h d e =
      let o = are.runs g s h in
      let some = o.some in
      record {
        some = some;
        inside = o.inside;
        content = o.content;
        noted = notes_set.others (s.end - 1) (last (cases_lt g p)) ∙ o.noted;
        taken = λ k ge lt. kept_note note after (right.end - 1) f k notes_set (o.taken k ge lt) (cases_eq k (right.end - 1));
      }
    where
      last : (g < p) ⊎ (p ≤ g) → s.end - 1 ≢ right.end - 1
      last (inl c) = let x = are.apart g p s right h is_right c in let a = (are.runs g s h).some in let b = r.some in λ z. absurd (omega arith)
      last (inr c) =
          let x = are.apart p g right s is_right h (let z : p < g = omega (arith, λ (y : g ≡ p). e y) in z) in
          let a = (are.runs g s h).some in
          let b = r.some in
          λ z. absurd (omega arith)

  one_here : (g : ℕ) (s : Run C) → g ≡ f → later g ≡ Some s → s ≡ both
  one_here g s e h = same_some s both (sym h ∙ ap later e ∙ here)

  one_run : (g : ℕ) (s : Run C) → later g ≡ Some s → (g ≡ f) ⊎ (g ≢ f) → (g ≡ p) ⊎ (g ≢ p) → IsRun parts value after g s
  one_run g s h (inl e) q = subst (λ t. IsRun parts value after g t) (sym (one_here g s e h)) (subst (λ k. IsRun parts value after k both) (sym e) one_new)
  one_run g s h (inr e) (inl d) = no_some (later g) s (ap later d ∙ gone) h
  one_run g s h (inr e) (inr d) = one_old g s (sym (others g e d) ∙ h) e d

  one_apart : (g k : ℕ) (s t : Run C) → later g ≡ Some s → later k ≡ Some t → g < k → (g ≡ f) ⊎ (g ≢ f) → (g ≡ p) ⊎ (g ≢ p) → (k ≡ f) ⊎ (k ≢ f) → (k ≡ p) ⊎ (k ≢ p) → s.end ≤ k
  one_apart g k s t h i lt x (inl d) y z = no_some (later g) s (ap later d ∙ gone) h
  one_apart g k s t h i lt x (inr d) y (inl c) = no_some (later k) t (ap later c ∙ gone) i
  one_apart g k s t h i lt (inl e) (inr d) (inl b) (inr c) = absurd (omega arith)
  one_apart g k s t h i lt (inl e) (inr d) (inr b) (inr c) =
      let old : run k ≡ Some t = sym (others k b c) ∙ i in
      let x : s.end ≡ both.end = ap (λ (u : Run C). u.end) (one_here g s e h) in
      let a = are.apart f k left t is_left old (omega arith) in
      let q = are.apart p k right t is_right old (let z : p < k = omega (arith, meet, λ (y : k ≡ p). c y) in z) in
      omega (arith, end)
  one_apart g k s t h i lt (inr e) (inr d) (inl b) (inr c) = let a = are.apart g f s left (sym (others g e d) ∙ h) is_left (omega arith) in omega arith
  one_apart g k s t h i lt (inr e) (inr d) (inr b) (inr c) = are.apart g k s t (sym (others g e d) ∙ h) (sym (others k b c) ∙ i) lt

  -- the note was there before
  was : (k : ℕ) → is_some (after k) ≡ true → (k ≡ right.end - 1) ⊎ (k ≢ right.end - 1) → is_some (note k) ≡ true
  was k h (inl e) = let a = r.some in r.taken k (omega arith) (omega arith)
  was k h (inr e) = ap is_some (sym (notes_set.others k e)) ∙ h

  one_covered : (k : ℕ) → (o : (g : ℕ) × (s : Run C) × (run g ≡ Some s) × (g ≤ k) × (k < s.end)) → (o.0 ≡ f) ⊎ (o.0 ≢ f) → (o.0 ≡ p) ⊎ (o.0 ≢ p)
      → (g : ℕ) × (s : Run C) × (later g ≡ Some s) × (g ≤ k) × (k < s.end)
  one_covered k o (inl e) d =
      let x : o.1.end ≡ left.end = ap (λ (u : Run C). u.end) (same_some o.1 left (sym o.2 ∙ ap run e ∙ is_left)) in
      let a = r.some in
      (f, both, here, omega (arith, e, o.3), omega (arith, x, meet, end, o.4))
  one_covered k o (inr e) (inl d) =
      let x : o.1.end ≡ right.end = ap (λ (u : Run C). u.end) (same_some o.1 right (sym o.2 ∙ ap run d ∙ is_right)) in
      let a = l.some in
      (f, both, here, omega (arith, d, meet, o.3), omega (arith, x, end, o.4))
  one_covered k o (inr e) (inr d) = (o.0, o.1, others o.0 e d ∙ o.2, o.3, o.4)

  pub one_runs : AreRuns parts value later after
  one_runs = record {
    runs = λ g s h. one_run g s h (cases_eq g f) (cases_eq g p);
    apart = λ g k s t h i lt. one_apart g k s t h i lt (cases_eq g f) (cases_eq g p) (cases_eq k f) (cases_eq k p);
    covered = λ k h. let o = are.covered k (was k h (cases_eq k (right.end - 1))) in one_covered k o (cases_eq o.0 f) (cases_eq o.0 p);
  }

-- ---- a run has another content of the same value

module _ {C : Type 0} (parts : ℕ) (value : ℕ → ℕ → C → Type 0) (run later : ℕ → Option (Run C)) (note : ℕ → Option ℕ)
    (are : AreRuns parts value run note) (n : ℕ) (old new : Run C) (is_old : run n ≡ Some old) (end : new.end ≡ old.end)
    (is_value : value n old.end new.content) (runs_set : IsSet run later n (Some new)) where
  -- what the run at g was before
  before : (g : ℕ) (s : Run C) → later g ≡ Some s → (g ≡ n) ⊎ (g ≢ n) → (t : Run C) × (run g ≡ Some t) × (s.end ≡ t.end)
  before g s h (inl e) = (old, ap run e ∙ is_old, ap (λ (u : Run C). u.end) (same_some s new (sym h ∙ ap later e ∙ runs_set.here)) ∙ end)
  before g s h (inr e) = (s, sym (runs_set.others g e) ∙ h, refl)

  again_value : (g : ℕ) (s : Run C) → later g ≡ Some s → (g ≡ n) ⊎ (g ≢ n) → value g s.end s.content
  again_value g s h (inl e) =
      let same : s ≡ new = same_some s new (sym h ∙ ap later e ∙ runs_set.here) in
      subst (λ (u : Run C). value g u.end u.content) (sym same) (subst (λ k. value k new.end new.content) (sym e) (subst (λ k. value n k new.content) (sym end) is_value))
  again_value g s h (inr e) = (are.runs g s (sym (runs_set.others g e) ∙ h)).content

  again_run : (g : ℕ) (s : Run C) → later g ≡ Some s → IsRun parts value note g s
  again_run g s h =
      let b = before g s h (cases_eq g n) in
      let o = are.runs g b.0 b.1 in
      let some = o.some in
      let inside = o.inside in
      record {
        some = omega (arith, b.2);
        inside = omega (arith, b.2);
        content = again_value g s h (cases_eq g n);
        noted = ap (λ k. note (k - 1)) b.2 ∙ o.noted;
        taken = λ k ge lt. o.taken k ge (omega (arith, b.2));
      }

  after_by : (k : ℕ) → (o : (g : ℕ) × (s : Run C) × (run g ≡ Some s) × (g ≤ k) × (k < s.end)) → (o.0 ≡ n) ⊎ (o.0 ≢ n)
      → (g : ℕ) × (s : Run C) × (later g ≡ Some s) × (g ≤ k) × (k < s.end)
  after_by k o (inl e) =
      let x : o.1.end ≡ old.end = ap (λ (u : Run C). u.end) (same_some o.1 old (sym o.2 ∙ ap run e ∙ is_old)) in
      (n, new, runs_set.here, omega (arith, e, o.3), omega (arith, x, end, o.4))
  after_by k o (inr e) = (o.0, o.1, runs_set.others o.0 e ∙ o.2, o.3, o.4)

  pub again_runs : AreRuns parts value later note
  again_runs = record {
    runs = again_run;
    apart = λ f g s t h i lt.
        let a = before f s h (cases_eq f n) in
        let b = before g t i (cases_eq g n) in
        let x = are.apart f g a.0 b.0 a.1 b.1 lt in
        omega (arith, a.2);
    covered = λ k h. let o = are.covered k h in after_by k o (cases_eq o.0 n);
  }

-- ---- nothing changes

module _ {C : Type 0} (parts : ℕ) (value : ℕ → ℕ → C → Type 0) (run later : ℕ → Option (Run C)) (note : ℕ → Option ℕ)
    (are : AreRuns parts value run note) (same : (k : ℕ) → later k ≡ run k) where
  pub same_runs : AreRuns parts value later note
  same_runs = record {
    runs = λ f s h. are.runs f s (sym (same f) ∙ h);
    apart = λ f g s t h i lt. are.apart f g s t (sym (same f) ∙ h) (sym (same g) ∙ i) lt;
    covered = λ k h. let o = are.covered k h in (o.0, o.1, same o.0 ∙ o.2, o.3, o.4);
  }
