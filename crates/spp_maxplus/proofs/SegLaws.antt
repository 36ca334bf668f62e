-- The laws of lists of one frame's strands, children and syncs, one after the other, told by their three values.
use Rattle.std.proofs.Common.{◌≡◌, ℕ, ◌+◌, ◌≤◌, max, cond, nat_lt, Bool, true, false, Option, Some, None, refl, sym, ◌∙◌, ap, arith, add_assoc, add-zero, zero-add}
use Rattle.std.proofs.lemmas.Bool.Decides.{nat_tests}
use Rattle.std.proofs.lemmas.Option.{some_pair_parts}
use Rattle.spp_maxplus.specs.declared.state.State.{State}
use Rattle.spp_maxplus.specs.declared.seg.Seg.{Seg}
use Rattle.spp_maxplus.specs.Candidate.{greatest, better, shifted}
use Rattle.spp_maxplus.specs.declared.state.Burdens.{Burdens}
use Rattle.spp_maxplus.specs.State.{after_strand, after_call, after_spawn, after_sync}
use Rattle.spp_maxplus.specs.Seg.{act, idle, along, spawned, synced, then, peak, rise}

pub shifted_zero : (o : Option (ℕ × ℕ)) → shifted 0 o ≡ o
shifted_zero None = refl
shifted_zero (Some c) = grind arith

pub shifted-shifted : (m n : ℕ) (o : Option (ℕ × ℕ)) → shifted m (shifted n o) ≡ shifted (m + n) o
shifted-shifted m n None = refl
shifted-shifted m n (Some c) = ap (λ k. Some (k, c.1)) (sym (add_assoc m n c.0))

pub better_none : (o : Option (ℕ × ℕ)) → better o None ≡ o
better_none None = refl
better_none (Some c) = refl

cond_shift : (b c : Bool) (n : ℕ) (x y : ℕ × ℕ) → b ≡ c → shifted n (cond b (Some x) (Some y)) ≡ cond c (Some (n + x.0, x.1)) (Some (n + y.0, y.1))
cond_shift true true n x y h = refl
cond_shift false false n x y h = refl
cond_shift true false n x y h = cc
cond_shift false true n x y h = cc

lt_shift : (n a b : ℕ) → nat_lt a b ≡ nat_lt (n + a) (n + b)
lt_shift n a b = grind (arith, nat_tests)

pub shifted-better : (n : ℕ) (o p : Option (ℕ × ℕ)) → shifted n (better o p) ≡ better (shifted n o) (shifted n p)
shifted-better n None p = refl
shifted-better n (Some c) None = refl
shifted-better n (Some c) (Some d) = cond_shift (nat_lt c.0 d.0) (nat_lt (n + c.0) (n + d.0)) n d c (lt_shift n c.0 d.0)

better3 : (a b c : ℕ × ℕ) → better (better (Some a) (Some b)) (Some c) ≡ better (Some a) (better (Some b) (Some c))
better3 a b c = grind (arith, nat_tests)

pub better_assoc : (o p q : Option (ℕ × ℕ)) → better (better o p) q ≡ better o (better p q)
better_assoc None p q = refl
better_assoc (Some a) None q = refl
better_assoc (Some a) (Some b) None = better_none _
better_assoc (Some a) (Some b) (Some c) = better3 a b c

greatest_pick : (n : ℕ) (a b : ℕ × ℕ) → greatest n (better (Some a) (Some b)) ≡ max (max n a.0) b.0
greatest_pick n a b = grind (arith, nat_tests)

pub greatest-better : (n : ℕ) (o p : Option (ℕ × ℕ)) → greatest n (better o p) ≡ greatest (greatest n o) p
greatest-better n None p = refl
greatest-better n (Some c) None = refl
greatest-better n (Some c) (Some d) = greatest_pick n c d

pub greatest-shifted : (n h : ℕ) (o : Option (ℕ × ℕ)) → greatest (n + h) (shifted n o) ≡ n + greatest h o
greatest-shifted n h None = refl
greatest-shifted n h (Some c) = omega arith

-- ---- one after the other

-- the parts of a Seg as arguments, so that each case computes
abbrev seg : Option ℕ → ℕ → Option (ℕ × ℕ) → Seg
seg h n o = record { head = h; add = n; offer = o }

same_seg : (h : Option ℕ) (m n : ℕ) (o p : Option (ℕ × ℕ)) → m ≡ n → o ≡ p → seg h m o ≡ seg h n p
same_seg h m n o p d e = cc

same_head : (k l m n : ℕ) (o p : Option (ℕ × ℕ)) → k ≡ l → m ≡ n → o ≡ p → seg (Some k) m o ≡ seg (Some l) n p
same_head k l m n o p c d e = cc

-- what three add, where none of the last two has a head
offers3 : (x y : ℕ) (o p q : Option (ℕ × ℕ)) → better (better o (shifted x p)) (shifted (x + y) q) ≡ better o (shifted x (better p (shifted y q)))
offers3 x y o p q = rw (shifted-better, shifted-shifted, better_assoc)

-- the greatest weight from a sync to a later one, by one in between
most3 : (x y h : ℕ) (o p : Option (ℕ × ℕ)) → greatest (x + y + h) (better o (shifted x p)) ≡ greatest (x + greatest (y + h) p) o
most3 x y h None None = omega arith
most3 x y h None (Some d) = omega arith
most3 x y h (Some c) None = omega arith
most3 x y h (Some c) (Some d) = greatest_pick (x + y + h) c (x + d.0, d.1) ∙ omega arith

most_from : (m y c : ℕ) (p : Option (ℕ × ℕ)) → greatest (m + y + c) (shifted m p) ≡ m + greatest (y + c) p
most_from m y c p = ap (λ k. greatest k (shifted m p)) (add_assoc m y c) ∙ greatest-shifted m (y + c) p

headed_at : (a : ℕ) (m n z : ℕ) (q : Option (ℕ × ℕ)) → m ≡ n → seg (Some a) (m + z) (shifted m q) ≡ seg (Some a) (n + z) (shifted n q)
headed_at a m n z q e = cc

assoc : (ha hb hc : Option ℕ) (x y z : ℕ) (o p q : Option (ℕ × ℕ)) → then (then (seg ha x o) (seg hb y p)) (seg hc z q) ≡ then (seg ha x o) (then (seg hb y p) (seg hc z q))
assoc ha None None x y z o p q = same_seg ha _ _ _ _ (add_assoc x y z) (offers3 x y o p q)
assoc None None (Some c) x y z o p q = same_head _ _ z z q q (most3 x y c o p) refl refl
assoc (Some a) None (Some c) x y z o p q = headed_at a _ _ z q (most3 x y c o p)
assoc None (Some b) None x y z o p q = refl
assoc (Some a) (Some b) None x y z o p q =
    let m = greatest (x + b) o in
    same_seg (Some a) _ _ _ _ (add_assoc m y z) (sym (shifted-better m p (shifted y q) ∙ ap (better (shifted m p)) (shifted-shifted m y q)))
assoc None (Some b) (Some c) x y z o p q = refl
assoc (Some a) (Some b) (Some c) x y z o p q =
    let m = greatest (x + b) o in
    let n = greatest (y + c) p in
    headed_at a _ _ z q (most_from m y c p)
    ∙ same_seg (Some a) _ _ _ _ (add_assoc m n z) (sym (shifted-shifted m n q))

pub then_assoc : (a b c : Seg) → then (then a b) c ≡ then a (then b c)
then_assoc a b c = assoc a.head b.head c.head a.add b.add c.add a.offer b.offer c.offer

pub then_idle : (a : Seg) → then a idle ≡ a
then_idle a = same_seg a.head _ _ _ _ (add-zero a.add) (better_none a.offer)

idle_by : (h : Option ℕ) (n : ℕ) (o : Option (ℕ × ℕ)) → then idle (seg h n o) ≡ seg h n o
idle_by None n o = same_seg None _ _ _ _ (zero-add n) (shifted_zero o)
idle_by (Some h) n o = same_head _ _ n n o o (zero-add h) refl refl

pub idle_then : (a : Seg) → then idle a ≡ a
idle_then a = idle_by a.head a.add a.offer

-- a state as what happened since the frame's start
abbrev past : State → Seg
past x = seg (Some 0) x.spine x.child

abbrev present : Seg → State
present a = record { spine = a.add; child = a.offer }

past-act : (h : Option ℕ) (n : ℕ) (o : Option (ℕ × ℕ)) (x : State) → past (act (seg h n o) x) ≡ then (past x) (seg h n o)
past-act None n o x = refl
past-act (Some h) n o x = refl

pub past_then : (a : Seg) (x : State) → past (act a x) ≡ then (past x) a
past_then a x = past-act a.head a.add a.offer x

pub act_idle : (x : State) → act idle x ≡ x
act_idle x = ap present (past_then idle x ∙ then_idle (past x))

pub act-then : (a b : Seg) (x : State) → act (then a b) x ≡ act b (act a x)
act-then a b x =
    ap present (past_then (then a b) x ∙ sym (then_assoc (past x) a b) ∙ ap (λ p. then p b) (sym (past_then a x)) ∙ sym (past_then b (act a x)))

-- the weight of a candidate
abbrev weight : Option (ℕ × ℕ) → ℕ
weight None = 0
weight (Some c) = c.0

pub greatest_is : (n : ℕ) (o : Option (ℕ × ℕ)) → greatest n o ≡ max n (weight o)
greatest_is n None = omega arith
greatest_is n (Some c) = refl

weight-better : (o p : Option (ℕ × ℕ)) → weight (better o p) ≤ max (weight o) (weight p)
weight-better None p = omega arith
weight-better (Some a) None = omega arith
weight-better (Some a) (Some b) = let e = greatest_pick 0 a b in let f = greatest_is 0 (better (Some a) (Some b)) in omega arith

weight-shifted : (n : ℕ) (o : Option (ℕ × ℕ)) → weight (shifted n o) ≤ n + weight o
weight-shifted n None = omega arith
weight-shifted n (Some c) = omega arith

rise_by : (ha hb : Option ℕ) (x y : ℕ) (o p : Option (ℕ × ℕ)) → rise (then (seg ha x o) (seg hb y p)) ≤ rise (seg ha x o) + rise (seg hb y p)
rise_by ha None x y o p =
    omega (arith, greatest_is (x + y) (better o (shifted x p)), greatest_is x o, greatest_is y p, weight-better o (shifted x p), weight-shifted x p)
rise_by None (Some h) x y o p =
    omega (arith, greatest_is (x + h) o, greatest_is x o, greatest_is y p)
rise_by (Some k) (Some h) x y o p =
    let m = greatest (x + h) o in
    omega (arith, greatest_is (m + y) (shifted m p), greatest_is (x + h) o, greatest_is x o, greatest_is y p, weight-shifted m p)

pub rise-then : (a b : Seg) → rise (then a b) ≤ rise a + rise b
rise-then a b = rise_by a.head b.head a.add b.add a.offer b.offer

peak_by : (h : Option ℕ) (n : ℕ) (o : Option (ℕ × ℕ)) (x : State) → peak (act (seg h n o) x) ≤ peak x + rise (seg h n o)
peak_by h n o x = omega (arith, ap rise (past-act h n o x), rise_by (Some 0) h x.spine n x.child o)

pub peak-act : (a : Seg) (x : State) → peak (act a x) ≤ peak x + rise a
peak-act a x = peak_by a.head a.add a.offer x

-- two Segs that act alike are one

pub exact_headless : (m n : ℕ) (o p : Option (ℕ × ℕ)) → ((x : State) → act (seg None m o) x ≡ act (seg None n p) x) → seg None m o ≡ seg None n p
exact_headless m n o p h =
    let e = h (record { spine = 0; child = None }) in
    same_seg None m n o p (omega (arith, ap (λ (s : State). s.spine) e)) (sym (shifted_zero o) ∙ (ap (λ (s : State). s.child) e ∙ shifted_zero p))

-- each Seg of one event does what the event does
pub act-strand : (count : ℕ) (x : State) → act (along count) x ≡ after_strand count x
act-strand count x = ap (λ c. record { spine = x.spine + count; child = c }) (better_none x.child)

pub act-call : (g : ℕ) (x : State) → act (along g) x ≡ after_call g x
act-call g x = ap (λ c. record { spine = x.spine + g; child = c }) (better_none x.child)

pub act-spawn : (at g : ℕ) (burden : Burdens) (x : State) → act (spawned at g burden) x ≡ after_spawn at g burden x
act-spawn at g burden x =
    refl

sync_at : (n : ℕ) (o : Option (ℕ × ℕ)) → act synced (record { spine = n; child = o }) ≡ after_sync (record { spine = n; child = o })
sync_at n o = ap (λ k. record { spine = k; child = None }) (add-zero (greatest (n + 0) o) ∙ ap (λ k. greatest k o) (add-zero n))

pub act-sync : (x : State) → act synced x ≡ after_sync x
act-sync x = sync_at x.spine x.child

pair_same : (m n a b : ℕ) → m ≡ n → a ≡ b → ◌≡◌ {A = Option (ℕ × ℕ)} (Some (m, a)) (Some (n, b))
pair_same m n a b d e = cc

shifted_cancel : (h k : ℕ) (o p : Option (ℕ × ℕ)) → h ≡ k → shifted h o ≡ shifted k p → o ≡ p
shifted_cancel h k None None d e = refl
shifted_cancel h k None (Some c) d e = cc
shifted_cancel h k (Some c) None d e = cc
shifted_cancel h k (Some a) (Some b) d e =
    let q = some_pair_parts (h + a.0) (k + b.0) a.1 b.1 e in
    let x = q.0 in
    pair_same a.0 b.0 a.1 b.1 (omega arith) q.1

exact_headed : (h k m n : ℕ) (o p : Option (ℕ × ℕ)) → ((x : State) → act (seg (Some h) m o) x ≡ act (seg (Some k) n p) x) → seg (Some h) m o ≡ seg (Some k) n p
exact_headed h k m n o p f =
    let a = ap (λ (s : State). s.spine) (f (record { spine = 0; child = None })) in
    let b = ap (λ (s : State). s.spine) (f (record { spine = 0; child = Some (h + k, 0) })) in
    let c = ap (λ (s : State). s.child) (f (record { spine = 0; child = None })) in
    let same : m ≡ n = omega (arith, b) in
    let heads : h ≡ k = omega (arith, a, same) in
    same_head h k m n o p heads same (shifted_cancel (0 + h) (0 + k) o p (omega (arith, heads)) c)

exact_mixed : (h m n : ℕ) (o p : Option (ℕ × ℕ)) → ((x : State) → act (seg None m o) x ≡ act (seg (Some h) n p) x) → ⊥
exact_mixed h m n o p f =
    let a = ap (λ (s : State). s.spine) (f (record { spine = 0; child = Some (m + 1, 0) })) in
    omega (arith, a)

exact_by : (g h : Option ℕ) (m n : ℕ) (o p : Option (ℕ × ℕ)) → ((x : State) → act (seg g m o) x ≡ act (seg h n p) x) → seg g m o ≡ seg h n p
exact_by None None m n o p f = exact_headless m n o p f
exact_by None (Some h) m n o p f = absurd (exact_mixed h m n o p f)
exact_by (Some h) None m n o p f = absurd (exact_mixed h n m p o (λ x. sym (f x)))
exact_by (Some h) (Some k) m n o p f = exact_headed h k m n o p f

-- two Segs that act alike are equal
pub exact : (a b : Seg) → ((x : State) → act a x ≡ act b x) → a ≡ b
exact a b f = exact_by a.head b.head a.add b.add a.offer b.offer f
