-- Frames, their owners and their joins, as loops find them; and tables that loops fill.
use Rattle.std.proofs.Common.{◌≡◌, ℕ, zero, suc, ◌+◌, ◌-◌, ◌≤◌, ◌<◌, Bool, true, false, ◌&&◌, refl, arith, sym, ◌∙◌, ap, ap₂, subst, inl, inr, List, [], ◌∷◌, ◌++◌, length, Some, nat_eq, nat_le, get_or}
use Rattle.std.specs.Prelude.{slice_get}
use Rattle.std.proofs.lemmas.Bool.{cases_lt, both_ways, and_parts, and_from, eqb-true, eq-eqb, le-leb, leb-true, false_from_ne_true}
use Rattle.std.proofs.lemmas.Option.{get_or_from_slice_get, slice_get-get_or}
use Rattle.std.proofs.lemmas.List.{length_push}
use Rattle.spp_event.specs.declared.records.Event.{Event}
use Rattle.spp_event.specs.declared.records.Event.TheVariants.{Strand, Call, Spawn, Ret, Sync}
use Rattle.spp_dag.specs.Ranges.{least_from}
use Rattle.spp_dag.specs.Trace.{event_at, opens, returns, syncs, spawns, depth, is_frame, closing, partner, owner, join}
use Rattle.spp_dag.proofs.Ranges.{least_from_spec, greatest_is, greatest_to_spec, count_below}
use Rattle.spp_dag.proofs.Depth.{closes, depth_counts}
use Rattle.spp_reference.specs.Dags.{Lists}

-- a frame that begins at j holds k
abbrev pub holds : List Event → ℕ → ℕ → Bool
holds es k j = is_frame es j && nat_le k (closing es j)

-- the frame that owns s waits at k
abbrev pub waits : List Event → ℕ → ℕ → Bool
waits es s k = syncs (event_at es k) && nat_eq (owner es k) (owner es s)

-- the first that passes, or the end
least_is : (p : ℕ → Bool) (k n m : ℕ) → k ≤ m → m ≤ n → (m < n → p m ≡ true) → ((j : ℕ) → k ≤ j → j < m → p j ≡ false) → least_from p k n ≡ m
least_is p k n m a b e f =
    let s = least_from_spec p k n (omega arith) in
    let lower : m ≤ least_from p k n = elim (cases_lt (least_from p k n) m) [
      | inl l ↦ absurd (both_ways (p (least_from p k n)) (f (least_from p k n) s.lower l) (s.passes (omega arith)))
      | inr g ↦ g
    ] in
    let upper : least_from p k n ≤ m = elim (cases_lt m (least_from p k n)) [
      | inl l ↦ absurd (both_ways (p m) (s.before m a l) (e (let z = s.upper in omega arith)))
      | inr g ↦ g
    ] in
    omega arith

-- the event that is read at a position
pub event_read : (es ds : List Event) (u : ℕ) (e : Event) → ds ≡ es → u < length es → get_or ds u (Strand 0) ≡ e → event_at es u ≡ Some e
event_read es ds u e q l r = slice_get-get_or es u (Strand 0) l ∙ ap (λ xs. Some (get_or xs u (Strand 0))) (sym q) ∙ ap Some r

pub no_return : (e : Event) → (e ≡ Ret → ⊥) → returns (Some e) ≡ false
no_return (Strand n) h = refl
no_return (Call s f) h = refl
no_return (Spawn s f) h = refl
no_return Ret h = absurd (h refl)
no_return Sync h = refl

pub spawn_spawns : (e : Event) (s f : ℕ) → e ≡ Spawn s f → spawns (Some e) ≡ true
spawn_spawns e s f q = ap (λ x. spawns (Some x)) q

pub no_spawn : (e : Event) → ((s f : ℕ) → e ≡ Spawn s f → ⊥) → spawns (Some e) ≡ false
no_spawn (Strand n) h = refl
no_spawn (Call s f) h = refl
no_spawn (Spawn s f) h = absurd (h s f refl)
no_spawn Ret h = refl
no_spawn Sync h = refl

-- the first position that closes the frame opened at i
pub partner_found : (es : List Event) (i at : ℕ) → suc i ≤ at → at ≤ length es → (at < length es → closes es i at ≡ true)
    → ((j : ℕ) → suc i ≤ j → j < at → closes es i j ≡ false) → at ≡ partner es i
partner_found es i at a b e f = sym (least_is (closes es i) (suc i) (length es) at a b e f)

pub closes_true : (es : List Event) (i at : ℕ) → returns (event_at es at) ≡ true → depth es (at + 1) ≡ depth es i → closes es i at ≡ true
closes_true es i at e f = and_from _ _ e (eq-eqb (depth es (suc at)) (depth es i) (ap (depth es) (let q : suc at ≡ at + 1 = omega arith in q) ∙ f))

pub not_closes-return : (es : List Event) (i at : ℕ) → returns (event_at es at) ≡ false → closes es i at ≡ false
not_closes-return es i at e = false_from_ne_true _ (λ t. both_ways _ e (and_parts _ _ t).0)

pub not_closes-depth : (es : List Event) (i at : ℕ) → (depth es (at + 1) ≡ depth es i → ⊥) → closes es i at ≡ false
not_closes-depth es i at d = false_from_ne_true _ (λ t. d (ap (depth es) (let q : at + 1 ≡ suc at = omega arith in q) ∙ eqb-true (depth es (suc at)) (depth es i) (and_parts (returns (event_at es at)) _ t).1))

-- one more number
pub one_more : (p : ℕ → Bool) (low at : ℕ) → ((j : ℕ) → low ≤ j → j < at → p j ≡ false) → p at ≡ false → (j : ℕ) → low ≤ j → j < at + 1 → p j ≡ false
one_more p low at h e j a b = elim (cases_lt j at) [ inl l ↦ h j a l | inr g ↦ subst (λ x. p x ≡ false) (let q : at ≡ j = omega arith in q) e ]

pub waits_true : (es : List Event) (s at : ℕ) → syncs (event_at es at) ≡ true → owner es at ≡ owner es s → waits es s at ≡ true
waits_true es s at e f = and_from _ _ e (eq-eqb _ _ f)

pub not_waits-sync : (es : List Event) (s at : ℕ) → syncs (event_at es at) ≡ false → waits es s at ≡ false
not_waits-sync es s at e = false_from_ne_true _ (λ t. both_ways _ e (and_parts _ _ t).0)

pub not_waits-owner : (es : List Event) (s at : ℕ) → (owner es at ≡ owner es s → ⊥) → waits es s at ≡ false
not_waits-owner es s at d = false_from_ne_true _ (λ t. d (eqb-true _ _ (and_parts _ _ t).1))

pub join_found : (es : List Event) (s at : ℕ) → suc (partner es s) ≤ at → at ≤ length es → (at < length es → waits es s at ≡ true)
    → ((j : ℕ) → suc (partner es s) ≤ j → j < at → waits es s j ≡ false) → at ≡ join es s
join_found es s at a b e f = sym (least_is (waits es s) (suc (partner es s)) (length es) at a b e f)

pub child_closing : (es : List Event) (s : ℕ) → closing es (s + 1) ≡ partner es s
child_closing es s = ap (closing es) (let q : s + 1 ≡ suc s = omega arith in q)

-- ---- owners

-- of tables that list a function
pub listed_at : (n : ℕ) (f : ℕ → ℕ) (xs : List ℕ) (i : ℕ) → Lists n f xs → i < n → get_or xs i 0 ≡ f i
listed_at n f xs i h l = get_or_from_slice_get xs i (f i) 0 (h.1 i l)

pub owner_found : (es : List Event) (k m : ℕ) → m ≤ k → (0 < m → holds es k m ≡ true) → ((j : ℕ) → m < j → j ≤ k → holds es k j ≡ false) → m ≡ owner es k
owner_found es k m a e f = sym (greatest_is (holds es k) k m a e (λ j l b t. both_ways _ (f j l b) t))

pub holds_true : (es : List Event) (k j : ℕ) → is_frame es j ≡ true → k ≤ closing es j → holds es k j ≡ true
holds_true es k j e l = and_from _ _ e (le-leb _ _ l)

pub not_holds-frame : (es : List Event) (k j : ℕ) → is_frame es j ≡ false → holds es k j ≡ false
not_holds-frame es k j e = false_from_ne_true _ (λ t. both_ways _ e (and_parts _ _ t).0)

pub not_holds-closing : (es : List Event) (k j : ℕ) → closing es j < k → holds es k j ≡ false
not_holds-closing es k j l = false_from_ne_true _ (λ t. let z : k ≤ closing es j = leb-true _ _ (and_parts (is_frame es j) _ t).1 in absurd (omega arith))

pub one_less : (p : ℕ → Bool) (k before : ℕ) → before < k → ((j : ℕ) → k - before < j → j ≤ k → p j ≡ false) → p (k - before) ≡ false → (j : ℕ) → k - (before + 1) < j → j ≤ k → p j ≡ false
one_less p k before l h e j a b = elim (cases_lt (k - before) j) [ inl m ↦ h j m b | inr g ↦ subst (λ x. p x ≡ false) (let q : k - before ≡ j = omega arith in q) e ]

-- ---- tables

before_push : (xs ys : List ℕ) (i : ℕ) → i < length xs → slice_get (xs ++ ys) i ≡ slice_get xs i
before_push [] ys i l = absurd (omega arith)
before_push (x ∷ xs) ys zero l = refl
before_push (x ∷ xs) ys (suc i) l = before_push xs ys i (omega arith)

at_push : (xs : List ℕ) (x : ℕ) → slice_get (xs ++ x ∷ []) (length xs) ≡ Some x
at_push [] x = refl
at_push (y ∷ xs) x = at_push xs x

pub lists_more : (n : ℕ) (f : ℕ → ℕ) (xs : List ℕ) (x : ℕ) → Lists n f xs → x ≡ f n → Lists (n + 1) f (xs ++ x ∷ [])
lists_more n f xs x h e = (
  (let z = length_push xs x in let y = h.0 in omega arith),
  λ i l. elim (cases_lt i n) [
    | inl m ↦ before_push xs (x ∷ []) i (let y = h.0 in omega arith) ∙ h.1 i m
    | inr g ↦
        let q : length xs ≡ i = (let y = h.0 in omega arith) in
        let r : n ≡ i = omega arith in
        subst (λ k. slice_get (xs ++ x ∷ []) k ≡ Some x) q (at_push xs x) ∙ ap Some (e ∙ ap f r)
  ],
)

-- ---- depth

pub depth_found : (es : List Event) (i at opened closed : ℕ) → at ≡ i → opened ≡ count_below (λ k. opens (event_at es k)) at
    → closed ≡ count_below (λ k. returns (event_at es k)) at → opened - closed ≡ depth es i
depth_found es i at opened closed q e f =
    ap₂ (λ (x y : ℕ). x - y) e f
    ∙ ap (λ k. count_below (λ k. opens (event_at es k)) k - count_below (λ k. returns (event_at es k)) k) q
    ∙ sym (depth_counts es i)

pub owner_le : (es : List Event) (k : ℕ) → owner es k ≤ k
owner_le es k = (greatest_to_spec (holds es k) k).upper
