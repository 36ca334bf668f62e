-- Numbers that were drawn, counted, and what a pass has put when they ran out.
use Rattle.std.proofs.Common.{◌≡◌, ℕ, zero, suc, ◌+◌, ◌<◌, ◌≤◌, ◌⊎◌, inl, inr, Bool, true, false, ◌||◌, Result, Ok, Err, OnOk, OnErr, List, [], ◌∷◌, ◌++◌, length, length-append, refl, ap, ap₂, sym, subst, ◌∙◌, arith}
use Rattle.std.specs.Prelude.{nat_le, nat_lt, cond, count_by}
use Rattle.std.specs.Result.{result_and}
use Rattle.std.proofs.lemmas.Bool.{cases_Bool}
use Rattle.std.proofs.lemmas.Bool.Decides.{nat_tests}
use Rattle.std.proofs.lemmas.List.Sums.{sum_by-cons, sum_by-append}
use Rattle.spp_book.specs.Counters.{total, has_past, is_one, IsEachBelow}
use Rattle.spp_book.specs.Desks.{PassView}
use Rattle.spp_book.proofs.Totals.{total_append, has_past_append, snoc_same}
use Rattle.spp_crew.specs.Rounds.{parts_drawn, IsDrained, IsBehind}

-- how many of the numbers are below k
abbrev pub below : ℕ → List ℕ → ℕ
below k xs = count_by (λ x. nat_lt x k) xs

cons_below : (k x : ℕ) (xs : List ℕ) → below k (x ∷ xs) ≡ cond (nat_lt x k) 1 0 + below k xs
cons_below k x xs = sum_by-cons (λ y. cond (nat_lt y k) 1 0) x xs

none_below : (xs : List ℕ) → below 0 xs ≡ 0
none_below [] = refl
none_below (x ∷ xs) =
    let c = cons_below 0 x xs in
    let i = none_below xs in
    let z : ◌≡◌ {A = ℕ} (cond (nat_lt x 0) 1 0) 0 = grind (arith, nat_tests) in
    omega (arith, c, i, z)

step_one : (k x : ℕ) → ◌≡◌ {A = ℕ} (cond (nat_lt x (suc k)) 1 0) (cond (nat_lt x k) 1 0 + is_one k x)
step_one k x = grind (arith, nat_tests)

-- those below the next number are those below this one, and this one itself
below_suc : (k : ℕ) (xs : List ℕ) → below (suc k) xs ≡ below k xs + total (is_one k) xs
below_suc k [] = refl
below_suc k (x ∷ xs) =
    let a = cons_below (suc k) x xs in
    let b = cons_below k x xs in
    let i = below_suc k xs in
    let s = step_one k x in
    let r : below (suc k) (x ∷ xs) ≡ below k (x ∷ xs) + (is_one k x + total (is_one k) xs) = omega (arith, a, b, i, s) in r

-- where each number below k is among them once, k of them are below k
below_each : (k : ℕ) (xs : List ℕ) → ((x : ℕ) → x < k → total (is_one x) xs ≡ 1) → below k xs ≡ k
below_each zero xs h = none_below xs
below_each (suc k) xs h =
    let i = below_each k xs (λ x lt. h x (omega arith)) in
    let s = below_suc k xs in
    let o = h k (omega arith) in
    omega (arith, i, s, o)

-- where none is among them twice, at most k are below k
below_few : (k : ℕ) (xs : List ℕ) → ((x : ℕ) → total (is_one x) xs ≤ 1) → below k xs ≤ k
below_few zero xs h = let z = none_below xs in omega (arith, z)
below_few (suc k) xs h =
    let i = below_few k xs h in
    let s = below_suc k xs in
    let o = h k in
    omega (arith, i, s, o)

all_step : (parts x : ℕ) (b : Bool) → (nat_le parts x || b) ≡ false → ◌≡◌ {A = ℕ} (cond (nat_lt x parts) 1 0) 1
all_step parts x b h = grind (arith, nat_tests)

rest_step : (a b : Bool) → (a || b) ≡ false → b ≡ false
rest_step true b h = absurd cc
rest_step false b h = h

-- where none is past the parts, all are below them
pub all_below : (parts : ℕ) (xs : List ℕ) → has_past parts xs ≡ false → below parts xs ≡ length xs
all_below parts [] h = refl
all_below parts (x ∷ xs) h =
    let c = cons_below parts x xs in
    let o = all_step parts x (has_past parts xs) h in
    let i = all_below parts xs (rest_step (nat_le parts x) (has_past parts xs) h) in
    omega (arith, c, o, i)

-- Numbers of parts, none of them twice.
pub record AreApart (parts : ℕ) (xs : List ℕ) : Type 0 where
  pub inside : has_past parts xs ≡ false
  pub once : (x : ℕ) → total (is_one x) xs ≤ 1

one_more : (x n here : ℕ) → (x ≡ n → here ≡ 0) → here ≤ 1 → here + (is_one x n + 0) ≤ 1
one_more x n here new few = grind (arith, nat_tests, new)

-- a new one leaves them apart
pub more_apart : (parts n : ℕ) (xs : List ℕ) → AreApart parts xs → n < parts → total (is_one n) xs ≡ 0 → AreApart parts (xs ++ n ∷ [])
more_apart parts n xs apart lt new = record {
  inside = sym (snoc_same parts xs n false (sym apart.inside) lt);
  once = λ x.
      let t = total_append (is_one x) xs (n ∷ []) in
      let m = one_more x n (total (is_one x) xs) (λ e. subst (λ y. total (is_one y) xs ≡ 0) (sym e) new) (apart.once x) in
      omega (arith, t, m);
}

-- there are at most as many as parts
pub few_apart : (parts : ℕ) (xs : List ℕ) → AreApart parts xs → length xs ≤ parts
few_apart parts xs apart =
    let a = all_below parts xs apart.inside in
    let f = below_few parts xs apart.once in
    omega (arith, a, f)

pub below_append : (parts : ℕ) (xs ys : List ℕ) → below parts (xs ++ ys) ≡ below parts xs + below parts ys
below_append parts xs ys = sum_by-append (λ y. cond (nat_lt y parts) 1 0) xs ys

or_right : (a b : Bool) → (a || b) ≡ true → a ≡ false → b ≡ true
or_right true b h e = absurd cc
or_right false b h e = h

-- a number past the parts, where there is one
past_one : (parts : ℕ) (xs : List ℕ) → has_past parts xs ≡ true → (x : ℕ) × (parts ≤ x) × (0 < total (is_one x) xs)
past_one parts [] h = absurd (let z : false ≡ true = h in cc)
past_one parts (x ∷ xs) h = past_at parts x xs (cases_Bool (nat_le parts x)) h (past_one parts xs)
  where
    is_past : (parts x : ℕ) → nat_le parts x ≡ true → parts ≤ x
    is_past parts x e = grind (arith, nat_tests)

    one : (x : ℕ) → ◌≡◌ {A = ℕ} (is_one x x) 1
    one x = grind (arith, nat_tests)

    past_at : (parts x : ℕ) (xs : List ℕ) → (nat_le parts x ≡ true) ⊎ (nat_le parts x ≡ false) → (nat_le parts x || has_past parts xs) ≡ true
        → (has_past parts xs ≡ true → (y : ℕ) × (parts ≤ y) × (0 < total (is_one y) xs)) → (y : ℕ) × (parts ≤ y) × (0 < total (is_one y) (x ∷ xs))
    past_at parts x xs (inl e) h rest = (x, is_past parts x e, (let o = one x in let r : 0 < is_one x x + total (is_one x) xs = omega (arith, o) in r))
    past_at parts x xs (inr e) h rest =
        let p = rest (or_right (nat_le parts x) (has_past parts xs) h e) in
        let some = p.2 in
        (p.0, p.1, (let r : 0 < is_one p.0 x + total (is_one p.0) xs = omega (arith, some) in r))

below_is : (x n : ℕ) → 0 < cond (nat_lt x n) 1 0 → x < n
below_is x n h = grind (arith, nat_tests)

is_below : (x n : ℕ) → x < n → ◌≡◌ {A = ℕ} (cond (nat_lt x n) 1 0) 1
is_below x n h = grind (arith, nat_tests)

-- where the numbers below some n were drawn, each once, and one past the parts, then all parts were
pub all_drawn : (parts n : ℕ) (xs : List ℕ) → IsEachBelow n xs → has_past parts xs ≡ true → below parts xs ≡ parts
all_drawn parts n xs each h =
    let p = past_one parts xs h in
    let is = each p.0 in
    let some = p.2 in
    let low = p.1 in
    let lt = below_is p.0 n (omega (arith, is, some)) in
    below_each parts xs (λ x l. each x ∙ is_below x n (omega (arith, l, low, lt)))

-- ---- drained passes

not_below : (parts n : ℕ) → nat_le parts n ≡ true → ◌≡◌ {A = ℕ} (cond (nat_lt n parts) 1 0) 0
not_below parts n h = grind (arith, nat_tests)

last_past : (a b : Bool) → a ≡ false → (a || (b || false)) ≡ true → b ≡ true
last_past true b e h = absurd cc
last_past false true e h = refl
last_past false false e h = absurd cc

-- the draw that finds no part drains a pass whose pieces were all put
pub drained_now : (p : PassView) (xs : List ℕ) (n : ℕ) → p.drawn ≡ xs ++ n ∷ [] → has_past p.parts xs ≡ false → has_past p.parts p.drawn ≡ true → p.share ≡ length xs → IsDrained p
drained_now p xs n drawn open_yet done put =
    let split = has_past_append p.parts xs (n ∷ []) in
    let both = sym split ∙ (ap (has_past p.parts) (sym drawn) ∙ done) in
    let none = not_below p.parts n (last_past (has_past p.parts xs) (nat_le p.parts n) open_yet both) in
    let all = all_below p.parts xs open_yet in
    let more = below_append p.parts xs (n ∷ []) in
    let last = cons_below p.parts n [] in
    let nil : below p.parts [] ≡ 0 = refl in
    let is = ap (below p.parts) drawn in
    record { finished = done; put = omega (arith, put, none, all, more, last, nil, is) }

-- two drained passes are drained together
drained_both : (a b c : PassView) → a.parts ≡ b.parts → c.parts ≡ a.parts → c.drawn ≡ a.drawn ++ b.drawn → c.share ≡ a.share + b.share → IsDrained a → IsDrained b → IsDrained c
drained_both a b c same parts drawn share one two =
    let join = has_past_append a.parts a.drawn b.drawn in
    let first = ap (λ t. t || has_past a.parts b.drawn) one.finished in
    let theirs : b.share ≡ below a.parts b.drawn = subst (λ n. b.share ≡ below n b.drawn) (sym same) two.put in
    let more = below_append a.parts a.drawn b.drawn in
    let done : has_past a.parts c.drawn ≡ true = ap (has_past a.parts) drawn ∙ (join ∙ first) in
    let is : below a.parts c.drawn ≡ below a.parts (a.drawn ++ b.drawn) = ap (below a.parts) drawn in
    let put : c.share ≡ below a.parts c.drawn = omega (arith, share, one.put, theirs, more, is) in
    record {
      finished = subst (λ n. has_past n c.drawn ≡ true) (sym parts) done;
      put = subst (λ n. c.share ≡ below n c.drawn) (sym parts) put;
    }

pub drained_together : {E : Type 0} (we they : Result Unit E) (a b c : PassView) → a.parts ≡ b.parts → c.parts ≡ a.parts → c.drawn ≡ a.drawn ++ b.drawn → c.share ≡ a.share + b.share
    → OnOk we (IsDrained a) → OnOk they (IsDrained b) → OnOk (result_and we they) (IsDrained c)
drained_together (Ok x) (Ok y) a b c same parts drawn share one two = drained_both a b c same parts drawn share one two
drained_together (Ok x) (Err e) a b c same parts drawn share one two = tt
drained_together (Err e) they a b c same parts drawn share one two = tt

-- a pass that holds no number past the parts, and of the last of them no piece, is behind
pub behind_now : (p : PassView) (xs : List ℕ) (n : ℕ) → p.drawn ≡ xs ++ n ∷ [] → has_past p.parts p.drawn ≡ false → p.share ≡ length xs → IsBehind p
behind_now p xs n drawn inside put =
    let all = all_below p.parts p.drawn inside in
    let long = ap length drawn in
    let append = length-append xs (n ∷ []) in
    omega (arith, all, long, append, put)

-- a fact is one of an error too
pub on_err : {A E : Type 0} (r : Result A E) (P : Type 0) → P → OnErr r P
on_err (Ok x) P p = tt
on_err (Err e) P p = p

-- the parts that were drawn with two passes together
drawn_both : (a b c : PassView) → a.parts ≡ b.parts → c.parts ≡ a.parts → c.drawn ≡ a.drawn ++ b.drawn → parts_drawn c ≡ parts_drawn a + parts_drawn b
drawn_both a b c same parts drawn =
    let more = below_append a.parts a.drawn b.drawn in
    let is : below c.parts c.drawn ≡ below a.parts (a.drawn ++ b.drawn) = ap₂ below parts drawn in
    let theirs : below b.parts b.drawn ≡ below a.parts b.drawn = ap (λ n. below n b.drawn) (sym same) in
    omega (arith, more, is, theirs)

-- where one of two passes is behind, and the other is behind or drained, they are behind together
pub behind_together : {E : Type 0} (we they : Result Unit E) (a b c : PassView) → a.parts ≡ b.parts → c.parts ≡ a.parts → c.drawn ≡ a.drawn ++ b.drawn → c.share ≡ a.share + b.share
    → OnOk we (IsDrained a) → OnErr we (IsBehind a) → OnOk they (IsDrained b) → OnErr they (IsBehind b) → OnErr (result_and we they) (IsBehind c)
behind_together (Ok x) (Ok y) a b c same parts drawn share done behind other_done other_behind = tt
behind_together (Ok x) (Err e) a b c same parts drawn share done behind other_done other_behind =
    let both = drawn_both a b c same parts drawn in
    omega (arith, both, share, done.put, other_behind)
behind_together (Err e) (Ok y) a b c same parts drawn share done behind other_done other_behind =
    let both = drawn_both a b c same parts drawn in
    omega (arith, both, share, other_done.put, behind)
behind_together (Err e) (Err f) a b c same parts drawn share done behind other_done other_behind =
    let both = drawn_both a b c same parts drawn in
    omega (arith, both, share, behind, other_behind)

-- with all numbers that were drawn, a drained pass has a piece of each part
pub all_put : (p : PassView) (n : ℕ) → IsEachBelow n p.drawn → IsDrained p → p.share ≡ p.parts
all_put p n each is = is.put ∙ all_drawn p.parts n p.drawn each is.finished
