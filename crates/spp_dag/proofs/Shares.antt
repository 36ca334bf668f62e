-- The shares of ranges add up to the rows.
use Rattle.std.proofs.Common.{◌≡◌, ℕ, zero, suc, ◌+◌, ◌≤◌, ◌<◌, Bool, true, false, cond, ◌&&◌, refl, arith, sym, ◌∙◌, ap, ap₂, ◌⊎◌, inl, inr, List, [], ◌∷◌, length, Option, Some, None, nat_le, nat_lt, nat_eq}
use Rattle.std.proofs.lemmas.Option.{slice_get_past}
use Rattle.spp_event.specs.declared.records.Event.TheVariants.{Strand, Call, Spawn, Ret, Sync}
use Rattle.std.proofs.lemmas.Bool.{cond-false, false_from_ne_true, leb-true, ltb-true, ne_eqb, cases_eq, both_ways, and_parts, and_left, and_right}
use Rattle.spp_event.specs.declared.records.Event.{Event}
use Rattle.spp_dag.specs.declared.row.Row.{Row}
use Rattle.spp_dag.specs.Trace.{event_at, weight, weight_of, opens, closing, owner, IsWellFormed}
use Rattle.spp_dag.specs.Ranges.{sum_where, within}
use Rattle.spp_dag.specs.Rows.{site_of, same_site, is_top_site, is_top_caller, work, is_of, row}
use Rattle.spp_dag.specs.Shares.{share, shares, AreEnds, plus, zero_row}
use Rattle.spp_dag.specs.Laws.{own_row, SharesAdd, SharesMakeRows, EndIsRoots}
use Rattle.spp_dag.proofs.Ranges.{IsLeast}
use Rattle.spp_dag.proofs.Depth.{partner_spec, closes, closed}
use Rattle.spp_dag.proofs.Sums.{sum-split, sum-none, sum-one, within-split, within_all, within_at, within_other, sum-same}

-- a frame ends at or before the end
pub closing_le : (es : List Event) (f : ℕ) → f < suc (length es) → closing es f < suc (length es)
closing_le es zero l = omega arith
closing_le es (suc o) l =
    let spec : IsLeast (closes es o) (suc o) (length es) (closing es (suc o)) = partner_spec es o (omega arith) in
    omega (arith, spec.upper)

pub same_rows : (a b : Row) → a.count ≡ b.count → a.local ≡ b.local → a.site_count ≡ b.site_count → a.site_work ≡ b.site_work → a.site_span ≡ b.site_span
    → a.caller_count ≡ b.caller_count → a.caller_work ≡ b.caller_work → a.caller_span ≡ b.caller_span → a ≡ b
same_rows a b c l sc sw ss cc' cw cs = λ i. record {
  count = c i;
  local = l i;
  site_count = sc i;
  site_work = sw i;
  site_span = ss i;
  caller_count = cc' i;
  caller_work = cw i;
  caller_span = cs i;
}

-- a third test after a range
swapped : (a b c : Bool) → ((a && b) && c) ≡ ((a && c) && b)
swapped true true true = refl
swapped true true false = refl
swapped true false true = refl
swapped true false false = refl
swapped false b c = refl

module _ (es : List Event) (root : ℕ) (span : ℕ → ℕ) (on : ℕ → Bool) (key : Option ℕ) where
  -- frames that close in a range, and are of a third kind
  closing-split : (mark : ℕ → Bool) (value : ℕ → ℕ) (n from mid to : ℕ) → from ≤ mid → mid ≤ to
      → sum_where (λ f. ((on f && is_of es key f) && within from to (closing es f)) && mark f) value n
      ≡ sum_where (λ f. ((on f && is_of es key f) && within from mid (closing es f)) && mark f) value n
      + sum_where (λ f. ((on f && is_of es key f) && within mid to (closing es f)) && mark f) value n
  closing-split mark value n from mid to a b =
      sum-split _ _ _ value n (λ f l.
      let x : Bool = on f && is_of es key f in
      let w = within-split from mid to (closing es f) a b (x && mark f) (value f) in
      let e = ap (λ t. cond t (value f) 0) (swapped x (within from to (closing es f)) (mark f)) in
      let g = ap (λ t. cond t (value f) 0) (swapped x (within from mid (closing es f)) (mark f)) in
      let h = ap (λ t. cond t (value f) 0) (swapped x (within mid to (closing es f)) (mark f)) in
      e ∙ (w ∙ sym (ap₂ (λ s t. s + t) g h)))

  -- the shares of two neighbouring ranges add up to the share of both
  pub shares_add : (from mid to : ℕ) → from ≤ mid → mid ≤ to
      → share es root span on key from to ≡ plus (share es root span on key from mid) (share es root span on key mid to)
  shares_add from mid to a b =
      let n : ℕ = suc (length es) in
      let one : ℕ → ℕ = λ _. 1 in
      same_rows _ _
      (sum-split _ _ _ one n (λ f l. within-split from mid to (closing es f) a b (on f && is_of es key f) 1))
      (sum-split _ _ _ (weight es) n (λ k l. within-split from mid to k a b (on k && is_of es key (owner es k)) (weight es k)))
      (closing-split (is_top_site es) one n from mid to a b)
      (closing-split (is_top_site es) (work es) n from mid to a b)
      (closing-split (is_top_site es) span n from mid to a b)
      (closing-split (is_top_caller es root) one n from mid to a b)
      (closing-split (is_top_caller es root) (work es) n from mid to a b)
      (closing-split (is_top_caller es root) span n from mid to a b)

module _ (es : List Event) (root : ℕ) (span : ℕ → ℕ) (on : ℕ → Bool) (key : Option ℕ) where
  -- the whole range leaves no frame and no position out
  closing_in : (f : ℕ) → f < suc (length es) → (a : Bool) → (a && within 0 (suc (length es)) (closing es f)) ≡ a
  closing_in f l false = refl
  closing_in f l true = within_all (suc (length es)) (closing es f) (closing_le es f l)

  closing_mark : (mark : ℕ → Bool) (f : ℕ) → f < suc (length es) → (a : Bool) → ((a && within 0 (suc (length es)) (closing es f)) && mark f) ≡ (a && mark f)
  closing_mark mark f l a = ap (λ b. b && mark f) (closing_in f l a)

  place_in : (k : ℕ) → k < suc (length es) → (a : Bool) → (a && within 0 (suc (length es)) k) ≡ a
  place_in k l false = refl
  place_in k l true = within_all (suc (length es)) k l

  -- the share of all positions and the end is the row
  pub share_all : share es root span on key 0 (suc (length es)) ≡ row es root span on key
  share_all =
      let n : ℕ = suc (length es) in
      let frames : ℕ → Bool = λ f. on f && is_of es key f in
      same_rows _ _
      (sum-same _ _ _ _ n (λ f l. closing_in f l (frames f)) (λ f l e. refl))
      (sum-same _ _ _ _ n (λ k l. place_in k l (on k && is_of es key (owner es k))) (λ f l e. refl))
      (sum-same _ _ _ _ n (λ f l. closing_mark (is_top_site es) f l (frames f)) (λ f l e. refl))
      (sum-same _ _ _ _ n (λ f l. closing_mark (is_top_site es) f l (frames f)) (λ f l e. refl))
      (sum-same _ _ _ _ n (λ f l. closing_mark (is_top_site es) f l (frames f)) (λ f l e. refl))
      (sum-same _ _ _ _ n (λ f l. closing_mark (is_top_caller es root) f l (frames f)) (λ f l e. refl))
      (sum-same _ _ _ _ n (λ f l. closing_mark (is_top_caller es root) f l (frames f)) (λ f l e. refl))
      (sum-same _ _ _ _ n (λ f l. closing_mark (is_top_caller es root) f l (frames f)) (λ f l e. refl))

  -- a cut's parts and the end
  pub share_end : row es root span on key ≡ plus (share es root span on key 0 (length es)) (share es root span on key (length es) (suc (length es)))
  share_end = sym share_all ∙ shares_add es root span on key 0 (length es) (suc (length es)) (let z : 0 ≤ length es = omega arith in z) (let z : length es ≤ suc (length es) = omega arith in z)

-- an empty range
nothing : (i : ℕ) (a : Bool) (k : ℕ) → (a && within i i k) ≡ false
nothing i a k = false_from_ne_true (a && within i i k) (λ e.
    let both = and_parts a (within i i k) e in
    let w = and_parts (nat_le i k) (nat_lt k i) both.1 in
    let x = leb-true i k w.0 in
    let y = ltb-true k i w.1 in
    omega arith)

nothing_marked : (i : ℕ) (a m : Bool) (k : ℕ) → ((a && within i i k) && m) ≡ false
nothing_marked i a m k = and_left (a && within i i k) m (nothing i a k)

module _ (es : List Event) (root : ℕ) (span : ℕ → ℕ) (on : ℕ → Bool) (key : Option ℕ) where
  share_none : (i : ℕ) → share es root span on key i i ≡ zero_row
  share_none i =
      let n : ℕ = suc (length es) in
      same_rows _ zero_row
      (sum-none _ _ n (λ f l. nothing i (on f && is_of es key f) (closing es f)))
      (sum-none _ _ n (λ k l. nothing i (on k && is_of es key (owner es k)) k))
      (sum-none _ _ n (λ f l. nothing_marked i (on f && is_of es key f) (is_top_site es f) (closing es f)))
      (sum-none _ _ n (λ f l. nothing_marked i (on f && is_of es key f) (is_top_site es f) (closing es f)))
      (sum-none _ _ n (λ f l. nothing_marked i (on f && is_of es key f) (is_top_site es f) (closing es f)))
      (sum-none _ _ n (λ f l. nothing_marked i (on f && is_of es key f) (is_top_caller es root f) (closing es f)))
      (sum-none _ _ n (λ f l. nothing_marked i (on f && is_of es key f) (is_top_caller es root f) (closing es f)))
      (sum-none _ _ n (λ f l. nothing_marked i (on f && is_of es key f) (is_top_caller es root f) (closing es f)))

  ends_rise : (from : ℕ) (ends : List ℕ) (last : ℕ) → AreEnds from ends last → from ≤ last
  ends_rise from [] last h = omega arith
  ends_rise from (end ∷ ends) last h = let r = ends_rise end ends last h.1 in let a = h.0 in omega arith

  -- the shares of one range after another are the share of all
  shares_are : (from : ℕ) (ends : List ℕ) (last : ℕ) → AreEnds from ends last → shares es root span on key from ends ≡ share es root span on key from last
  shares_are from [] last h = sym (share_none from) ∙ ap (share es root span on key from) h
  shares_are from (end ∷ ends) last h =
      ap (plus (share es root span on key from end)) (shares_are end ends last h.1)
      ∙ sym (shares_add es root span on key from end last h.0 (ends_rise end ends last h.1))

  pub cut_row : (ends : List ℕ) → AreEnds 0 ends (length es)
      → row es root span on key ≡ plus (shares es root span on key 0 ends) (share es root span on key (length es) (suc (length es)))
  cut_row ends h = share_end es root span on key ∙ ap (λ r. plus r (share es root span on key (length es) (suc (length es)))) (sym (shares_are 0 ends (length es) h))

-- ---- the share of the end

pub site_opens : (e : Option Event) (s : Option ℕ) → same_site (site_of e) s ≡ true → opens e ≡ true
site_opens None s h = cc
site_opens (Some (Strand n)) s h = cc
site_opens (Some (Call a f)) s h = refl
site_opens (Some (Spawn a f)) s h = refl
site_opens (Some Ret) s h = cc
site_opens (Some Sync) s h = cc

zero_either : (b : Bool) (n : ℕ) → n ≡ 0 → cond b n 0 ≡ 0
zero_either true n e = e
zero_either false n e = refl

and_all : (b : Bool) → (b && true) ≡ b
and_all true = refl
and_all false = refl

end_weight : (es : List Event) → weight es (length es) ≡ 0
end_weight es = ap weight_of (slice_get_past es (length es) (let z : length es ≤ length es = omega arith in z))

module _ (es : List Event) (wf : IsWellFormed es) (root : ℕ) (span : ℕ → ℕ) (on : ℕ → Bool) where
  abbrev N : ℕ
  N = length es

  -- only the root closes there
  inner_closes : (o : ℕ) → opens (event_at es o) ≡ true → within N (suc N) (closing es (suc o)) ≡ false
  inner_closes o t = within_other N (closing es (suc o)) (λ e. let z = (closed es wf o t).within in omega arith)

  no_site : (site f : ℕ) (a : Bool) → ((a && is_of es (Some site) f) && within N (suc N) (closing es f)) ≡ false
  no_site site f a = false_from_ne_true _ (λ e.
      let h = and_parts (a && is_of es (Some site) f) (within N (suc N) (closing es f)) e in
      let g = and_parts a (is_of es (Some site) f) h.0 in
      by f g.1 h.1)
    where
      by : (g : ℕ) → is_of es (Some site) g ≡ true → within N (suc N) (closing es g) ≡ true → ⊥
      by zero x y = cc
      by (suc o) x y = both_ways (within N (suc N) (closing es (suc o))) (inner_closes o (site_opens (event_at es o) (Some site) x)) y

  -- the end holds no strand
  no_weight : (p : ℕ → Bool) (k : ℕ) → cond (p k && within N (suc N) k) (weight es k) 0 ≡ 0
  no_weight p k = by (cases_eq k N)
    where
      by : (k ≡ N) ⊎ (k ≡ N → ⊥) → cond (p k && within N (suc N) k) (weight es k) 0 ≡ 0
      by (inl e) = zero_either (p k && within N (suc N) k) (weight es k) (ap (weight es) e ∙ end_weight es)
      by (inr d) = cond-false {A = ℕ} (p k && within N (suc N) k) (weight es k) 0 (and_right (p k) (within N (suc N) k) (within_other N k d))

  no_local : (p : ℕ → Bool) (n : ℕ) → sum_where (λ k. p k && within N (suc N) k) (weight es) n ≡ 0
  no_local p zero = refl
  no_local p (suc n) = let a = no_local p n in let b = no_weight p n in omega arith

  site_end : (site : ℕ) → share es root span on (Some site) N (suc N) ≡ zero_row
  site_end site =
      let n : ℕ = suc N in
      let none = λ (f : ℕ) (l : f < n). no_site site f (on f) in
      let marked = λ (m : ℕ → Bool) (f : ℕ) (l : f < n). and_left ((on f && is_of es (Some site) f) && within N (suc N) (closing es f)) (m f) (no_site site f (on f)) in
      same_rows _ zero_row
      (sum-none _ _ n none)
      (no_local (λ k. on k && is_of es (Some site) (owner es k)) n)
      (sum-none _ _ n (marked (is_top_site es)))
      (sum-none _ _ n (marked (is_top_site es)))
      (sum-none _ _ n (marked (is_top_site es)))
      (sum-none _ _ n (marked (is_top_caller es root)))
      (sum-none _ _ n (marked (is_top_caller es root)))
      (sum-none _ _ n (marked (is_top_caller es root)))

  -- of the frames of the root's row, the root alone
  abbrev is_end : ℕ → Bool
  is_end f = (on f && is_of es None f) && within N (suc N) (closing es f)

  only_root : (f : ℕ) → (f ≡ 0 → ⊥) → is_end f ≡ false
  only_root f d = and_left (on f && is_of es None f) (within N (suc N) (closing es f)) (and_right (on f) (nat_eq f 0) (ne_eqb f 0 d))

  root_ends : is_end 0 ≡ on 0
  root_ends = by (on 0)
    where
      by : (b : Bool) → ((b && true) && within N (suc N) N) ≡ b
      by true = within_at N
      by false = refl

  -- a sum over it
  sums : (mark : ℕ → Bool) (v : ℕ → ℕ) → mark 0 ≡ true → sum_where (λ f. is_end f && mark f) v (suc N) ≡ cond (on 0) (v 0) 0
  sums mark v m =
      sum-one (λ f. is_end f && mark f) v (suc N) 0 (omega arith) (λ f l d. and_left (is_end f) (mark f) (only_root f d))
      ∙ ap (λ b. cond b (v 0) 0) (ap₂ (λ a b. a && b) root_ends m ∙ and_all (on 0))

  count_sums : sum_where is_end (λ _. 1) (suc N) ≡ cond (on 0) 1 0
  count_sums = sum-one is_end (λ _. 1) (suc N) 0 (omega arith) (λ f l d. only_root f d) ∙ ap (λ b. cond b 1 0) root_ends

  root_end : share es root span on None N (suc N) ≡ cond (on 0) (own_row es span) zero_row
  root_end =
      same_rows _ (parts (on 0))
      count_sums
      (no_local (λ k. on k && is_of es None (owner es k)) (suc N))
      (sums (is_top_site es) (λ _. 1) refl) (sums (is_top_site es) (work es) refl) (sums (is_top_site es) span refl)
      (sums (is_top_caller es root) (λ _. 1) refl) (sums (is_top_caller es root) (work es) refl) (sums (is_top_caller es root) span refl)
      ∙ whole (on 0)
    where
      parts : Bool → Row
      parts b = record {
        count = cond b 1 0;
        local = 0;
        site_count = cond b 1 0;
        site_work = cond b (work es 0) 0;
        site_span = cond b (span 0) 0;
        caller_count = cond b 1 0;
        caller_work = cond b (work es 0) 0;
        caller_span = cond b (span 0) 0;
      }

      whole : (b : Bool) → parts b ≡ cond b (own_row es span) zero_row
      whole true = refl
      whole false = refl

pub shares_law : SharesAdd
shares_law es root span on key from mid end a b = shares_add es root span on key from mid end a b

pub cut_law : SharesMakeRows
cut_law es root span on key ends h = cut_row es root span on key ends h

pub end_law : EndIsRoots
end_law es wf root span on = (root_end es wf root span on, λ site. site_end es wf root span on site)
