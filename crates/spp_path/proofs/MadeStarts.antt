-- The starts of a path, made one after the other.
use Rattle.std.proofs.Common.{◌≡◌, ℕ, zero, suc, ◌+◌, ◌≤◌, ◌<◌, Bool, false, refl, arith, sym, ◌∙◌, ap, subst, ◌⊎◌, inl, inr, List, [], ◌∷◌, ◌++◌, length, slice_get, slice_index_or, Some}
use Rattle.std.proofs.lemmas.Bool.{cases_lt}
use Rattle.std.proofs.lemmas.List.{length_push, get_or_append_left, get_or_push}
use Rattle.std.proofs.lemmas.Option.{slice_get_within, slice_get-get_or, get_or_from_slice_get}
use Rattle.spp_dag.specs.declared.stack.EntryFrame.{EntryFrame}
use Rattle.spp_stack.specs.declared.stacks.Start.{Start}
use Rattle.spp_stack.specs.declared.node.Node.{Node}
use Rattle.spp_stack.specs.Chain.{Stacks, IsChain}
use Rattle.spp_path.specs.declared.settling.Onward.{Onward}
use Rattle.spp_path.specs.declared.settled.PathStart.{PathStart}
use Rattle.spp_path.specs.Settling.{runs_on}
use Rattle.spp_path.specs.Settled.{position, at_of, IsSplit, AreSoundStarts}
use Rattle.spp_path.specs.Placing.{IsOver, Permits, Comes, Agrees, AreRisingTo, IsPathStart}
use Rattle.spp_path.proofs.Above.{parted}

-- what is in a list with one more at its end
pub push_cases : {X : Type 0} (xs : List X) (v x : X) (m : ℕ) → slice_get (xs ++ v ∷ []) m ≡ Some x → (slice_get xs m ≡ Some x) ⊎ ((m ≡ length xs) × (v ≡ x))
push_cases xs v x m e =
    let w = slice_get_within (xs ++ v ∷ []) m x e in
    let n = length_push xs v in
    let at = get_or_from_slice_get (xs ++ v ∷ []) m x x e in
    elim (cases_lt m (length xs)) [
      | inl l ↦ inl (slice_get-get_or xs m x l ∙ ap Some (sym (get_or_append_left xs (v ∷ []) x m l) ∙ at))
      | inr l ↦
          let q : m ≡ length xs = omega arith in
          inr (q, sym (get_or_push xs v x m (sym q)) ∙ at)
    ]

module _ (s : Stacks) (onwards : List Onward) (spawns : List ℕ) where
  -- positions don't fall
  rising_far : AreRisingTo s → (k m : ℕ) → k ≤ m → m < length s.starts → position s k ≤ position s m
  rising_far r k zero l b = let z : k ≡ 0 = omega arith in subst (λ x. position s k ≤ position s x) z (let y : position s k ≤ position s k = omega arith in y)
  rising_far r k (suc m) l b = elim (cases_lt m k) [
    | inl x ↦ (let z : k ≡ suc m = omega arith in subst (λ y. position s k ≤ position s y) z (let y : position s k ≤ position s k = omega arith in y))
    | inr x ↦ (let a = rising_far r k m x (omega arith) in let c = r m b in omega arith)
  ]

  -- the first k are made, and so many of the spawns lie before the last of these
  pub record Built (k before : ℕ) (starts : List PathStart) : Type 0 where
    pub count : length starts ≡ k
    pub most : before ≤ length spawns
    pub grown : (j : ℕ) (p : PathStart) → slice_get starts j ≡ Some p → p.before ≤ before
    pub lower : AreRisingTo s → (m : ℕ) → k ≤ m → m < length s.starts → (i : ℕ) → i < before → slice_index_or spawns i 0 < position s m
    pub sound : AreSoundStarts s spawns starts
    pub each : (enters : EntryFrame → Bool) → Agrees enters s onwards → AreRisingTo s → (j : ℕ) (onward : Onward) (p : PathStart)
        → slice_get onwards j ≡ Some onward → slice_get starts j ≡ Some p → IsPathStart enters s spawns j onward p

  -- what is found for the next
  pub record Next (k before : ℕ) (start : Start) (onward : Onward) (p : PathStart) : Type 0 where
    pub start_is : slice_get s.starts k ≡ Some start
    pub onward_is : slice_get onwards k ≡ Some onward
    pub grows : before ≤ p.before
    pub most : p.before ≤ length spawns
    pub lower : (i : ℕ) → before ≤ i → i < p.before → slice_index_or spawns i 0 < start.at
    pub upper : p.before < length spawns → start.at ≤ slice_index_or spawns p.before 0
    pub there : p.live < length s.nodes
    pub structure : IsOver (λ f. false) s.nodes start.top p.live
    pub over : (enters : EntryFrame → Bool) → Agrees enters s onwards → IsOver enters s.nodes start.top p.live
    pub comes : Comes s.nodes onward p.live
    pub running : p.running ≡ runs_on onward

  module _ (k before : ℕ) (starts : List PathStart) (b : Built k before starts) (start : Start) (onward : Onward) (p : PathStart) (n : Next k before start onward p) where
    at : position s k ≡ start.at
    at = ap at_of n.start_is

    inside : k < length s.starts
    inside = slice_get_within s.starts k start n.start_is

    low : AreRisingTo s → (m : ℕ) → k ≤ m → m < length s.starts → (i : ℕ) → i < p.before → slice_index_or spawns i 0 < position s m
    low r m l x i y = elim (cases_lt i before) [
      | inl z ↦ b.lower r m l x i z
      | inr z ↦ (let a = n.lower i z y in let c = rising_far r k m l x in omega (arith, at))
    ]

    is_start : (enters : EntryFrame → Bool) → Agrees enters s onwards → AreRisingTo s → IsPathStart enters s spawns k onward p
    is_start enters agrees r = record {
      over = λ st e. subst (λ (x : Start). IsOver enters s.nodes x.top p.live) (let z : Some start ≡ Some st = sym n.start_is ∙ e in let y : start ≡ st = cc in y) (n.over enters agrees);
      comes = n.comes;
      running = n.running;
      some = n.most;
      lower = λ i l. low r k (let z : k ≤ k = omega arith in z) inside i l;
      upper = λ l. let a = n.upper l in omega (arith, at);
    }

    pub built_next : Built (k + 1) p.before (starts ++ p ∷ [])
    built_next =
        let len = length_push starts p in
        let c = b.count in
        record {
          count = omega arith;
          most = n.most;
          grown = λ j q e. elim (push_cases starts p q j e) [
            | inl x ↦ (let z = b.grown j q x in let y = n.grows in omega arith)
            | inr x ↦ subst (λ (y : PathStart). y.before ≤ p.before) x.1 (let z : p.before ≤ p.before = omega arith in z)
          ];
          lower = λ r m l x i y. low r m (omega arith) x i y;
          sound = record {
            within = λ j q e. elim (push_cases starts p q j e) [
              | inl x ↦ b.sound.within j q x
              | inr x ↦ subst (λ (y : PathStart). (y.before ≤ length spawns) × (y.live < length s.nodes)) x.1 (n.most, n.there)
            ];
            rising = λ j q t e f. elim (push_cases starts p t (suc j) f) [
              | inl x ↦ elim (push_cases starts p q j e) [
                | inl y ↦ b.sound.rising j q t y x
                | inr y ↦ absurd (let z = slice_get_within starts (suc j) t x in omega (arith, y.0))
              ]
              | inr x ↦ elim (push_cases starts p q j e) [
                | inl y ↦ subst (λ (u : PathStart). q.before ≤ u.before) x.1 (let z = b.grown j q y in let w = n.grows in omega arith)
                | inr y ↦ absurd (omega (arith, x.0, y.0))
              ]
            ];
            split = λ j st q e f. elim (push_cases starts p q j f) [
              | inl x ↦ b.sound.split j st q e x
              | inr x ↦ λ fs c.
                  let here : slice_get s.starts k ≡ Some st = subst (λ y. slice_get s.starts y ≡ Some st) (let z : j ≡ k = omega (arith, x.0) in z) e in
                  let same : start ≡ st = (let z : Some start ≡ Some st = sym n.start_is ∙ here in cc) in
                  let live : p.live ≡ q.live = ap (λ (y : PathStart). y.live) x.1 in
                  let o = n.structure in
                  let t = parted s.nodes (Some start.top) fs o.0 p.live (subst (λ (y : Start). IsChain s.nodes (Some y.top) fs) (sym same) c) o.1 in
                  subst (λ (y : Start). IsSplit s.nodes y.top q.live fs) same
                  (subst (λ y. IsSplit s.nodes start.top y fs) live (record { outs = o.0; ks = t.ks; are = t.are; above = o.1 }))
            ];
          };
          each = λ enters agrees r j ow q e f. elim (push_cases starts p q j f) [
            | inl x ↦ b.each enters agrees r j ow q e x
            | inr x ↦
                let j_is : k ≡ j = (let z : j ≡ length starts = x.0 in omega arith) in
                let here : slice_get onwards k ≡ Some ow = subst (λ y. slice_get onwards y ≡ Some ow) (sym j_is) e in
                let same : onward ≡ ow = (let z : Some onward ≡ Some ow = sym n.onward_is ∙ here in cc) in
                subst (λ y. IsPathStart enters s spawns y ow q) j_is
                (subst (λ y. IsPathStart enters s spawns k y q) same
                (subst (λ (y : PathStart). IsPathStart enters s spawns k onward y) x.1 (is_start enters agrees r)))
          ];
        }

  -- none is made yet
  pub built_first : Built 0 0 []
  built_first = record {
    count = refl;
    most = (let z : 0 ≤ length spawns = omega arith in z);
    grown = λ j p e. cc;
    lower = λ r m l x i y. absurd (let z : i < 0 = y in omega arith);
    sound = record { within = λ j p e. cc; rising = λ j p q e f. cc; split = λ j st p e f. cc };
    each = λ enters agrees r j ow p e f. cc;
  }

-- where nodes and the top are the same under other names
pub permits_at : (enters : EntryFrame → Bool) (s : Stacks) (onwards : List Onward) (k : ℕ) (start : Start) (onward : Onward) → slice_get s.starts k ≡ Some start → slice_get onwards k ≡ Some onward
    → (nodes : List Node) → nodes ≡ s.nodes → (top : ℕ) → top ≡ start.top → Agrees enters s onwards → Permits enters nodes onward top
permits_at enters s onwards k start onward a b nodes e top f agrees =
    subst (λ (x : List Node). Permits enters x onward top) (sym e) (subst (λ t. Permits enters s.nodes onward t) (sym f) (agrees k start onward a b))

pub comes_at : (nodes other : List Node) (onward : Onward) (live : ℕ) → nodes ≡ other → Comes nodes onward live → Comes other onward live
comes_at nodes other onward live e h = subst (λ (x : List Node). Comes x onward live) e h

pub over_at : (enters : EntryFrame → Bool) (nodes other : List Node) (top t live : ℕ) → nodes ≡ other → top ≡ t → IsOver enters nodes top live → IsOver enters other t live
over_at enters nodes other top t live e f h = subst (λ x. IsOver enters other x live) f (subst (λ (x : List Node). IsOver enters x top live) e h)
