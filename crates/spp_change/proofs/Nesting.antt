-- A changed run nests as the run does.
use Rattle.std.proofs.Common.{◌≡◌, ℕ, zero, suc, ◌+◌, Bool, true, false, cond, nat_eq, List, [], ◌∷◌, length, take, Option, Some, Ok, Err, refl, sym, ap, ap₂, ◌∙◌, arith}
use Rattle.std.specs.Prelude.{slice_get}
use Rattle.std.specs.List.{count_by, sum_by}
use Rattle.std.proofs.lemmas.List.Sums.{sum_by-cons}
use Rattle.spp_event.specs.declared.records.Event.{Event}
use Rattle.spp_event.specs.declared.records.Event.TheVariants.{Strand, Call, Spawn, Ret, Sync}
use Rattle.spp_event.specs.Recordings.{Record}
use Rattle.spp_frame.specs.Nesting.{opens_frame, closes_frame, weight, depth, wrong, wrong_at}
use Rattle.spp_change.specs.declared.change.Change.{Change}
use Rattle.spp_change.specs.declared.change.Change.TheVariants.{Faster, Called, Spawned}
use Rattle.spp_change.specs.Changed.{changed_event, changed_record, changed_from, changed, sites_after, innermost}
use Rattle.spp_change.specs.Laws.{ChangedIsAsLong, ChangedIsWellFormed, ChangedKeepsFault, CalledKeepsWork, SpawnedKeepsWork}

-- ---- what holds of a spawn and of a call holds of either by a choice

of_choice : {A : Type 0} (f : Record → A) (b : Bool) (x y : Event) (z : A) → f (Ok x) ≡ z → f (Ok y) ≡ z → f (Ok (cond b x y)) ≡ z
of_choice f true x y z p q = p
of_choice f false x y z p q = q

-- what tells no strands apart, nor calls from spawns, sees no change
module _ {A : Type 0} (f : Record → A) (strands : (m n : ℕ) → f (Ok (Strand m)) ≡ f (Ok (Strand n))) (opens : (s u : ℕ) → f (Ok (Call s u)) ≡ f (Ok (Spawn s u))) where
  unseen_event : (change : Change) (by : Option ℕ) (e : Event) → f (Ok (changed_event change by e)) ≡ f (Ok e)
  unseen_event (Faster site k) by (Strand n) = strands _ n
  unseen_event (Faster site k) by (Call s u) = refl
  unseen_event (Faster site k) by (Spawn s u) = refl
  unseen_event (Faster site k) by Ret = refl
  unseen_event (Faster site k) by Sync = refl
  unseen_event (Called site) by (Strand n) = refl
  unseen_event (Called site) by (Call s u) = refl
  unseen_event (Called site) by (Spawn s u) = of_choice f (nat_eq s site) (Call s u) (Spawn s u) (f (Ok (Spawn s u))) (opens s u) refl
  unseen_event (Called site) by Ret = refl
  unseen_event (Called site) by Sync = refl
  unseen_event (Spawned site) by (Strand n) = refl
  unseen_event (Spawned site) by (Call s u) = of_choice f (nat_eq s site) (Spawn s u) (Call s u) (f (Ok (Call s u))) (sym (opens s u)) refl
  unseen_event (Spawned site) by (Spawn s u) = refl
  unseen_event (Spawned site) by Ret = refl
  unseen_event (Spawned site) by Sync = refl

  unseen : (change : Change) (by : Option ℕ) (r : Record) → f (changed_record change by r) ≡ f r
  unseen change by (Ok e) = unseen_event change by e
  unseen change by (Err why) = refl

-- the change opens and closes the same frames
pub sites_same : (change : Change) (by : Option ℕ) (e : Event) (sites : List ℕ) → sites_after (Ok (changed_event change by e)) sites ≡ sites_after (Ok e) sites
sites_same change by e sites = unseen_event (λ r. sites_after r sites) (λ m n. refl) (λ s u. refl) change by e

-- ---- its lists

pub long : (change : Change) (sites : List ℕ) (rs : List Record) → length (changed_from change sites rs) ≡ length rs
long change sites [] = refl
long change sites (r ∷ rs) = ap (λ n. suc n) (long change (sites_after r sites) rs)

taken : (change : Change) (i : ℕ) (sites : List ℕ) (rs : List Record) → take i (changed_from change sites rs) ≡ changed_from change sites (take i rs)
taken change zero sites rs = refl
taken change (suc i) sites [] = refl
taken change (suc i) sites (r ∷ rs) = ap (λ xs. changed_record change (innermost sites) r ∷ xs) (taken change i (sites_after r sites) rs)

-- a sum over the records stays where each summand does
summed : (f : Record → ℕ) (change : Change) → ((by : Option ℕ) (r : Record) → f (changed_record change by r) ≡ f r)
    → (sites : List ℕ) (rs : List Record) → sum_by f (changed_from change sites rs) ≡ sum_by f rs
summed f change same sites [] = refl
summed f change same sites (r ∷ rs) =
    sum_by-cons f (changed_record change (innermost sites) r) (changed_from change (sites_after r sites) rs)
    ∙ ap₂ (λ m n. m + n) (same (innermost sites) r) (summed f change same (sites_after r sites) rs)
    ∙ sym (sum_by-cons f r rs)

depth_same : (change : Change) (rs : List Record) (i : ℕ) → depth (changed change rs) i ≡ depth rs i
depth_same change rs i =
    let o : count_by opens_frame (take i (changed change rs)) ≡ count_by opens_frame (take i rs) =
    ap (λ xs. count_by opens_frame xs) (taken change i [] rs) ∙ summed (λ r. cond (opens_frame r) 1 0) change (unseen (λ r. cond (opens_frame r) 1 0) (λ m n. refl) (λ s u. refl) change) [] (take i rs) in
    let c : count_by closes_frame (take i (changed change rs)) ≡ count_by closes_frame (take i rs) =
    ap (λ xs. count_by closes_frame xs) (taken change i [] rs) ∙ summed (λ r. cond (closes_frame r) 1 0) change (unseen (λ r. cond (closes_frame r) 1 0) (λ m n. refl) (λ s u. refl) change) [] (take i rs) in
    omega arith

-- ---- what is wrong

wrong_opens : (d s u : ℕ) → wrong (Some (Ok (Call s u))) d ≡ wrong (Some (Ok (Spawn s u))) d
wrong_opens zero s u = refl
wrong_opens (suc d) s u = refl

wrong_strands : (d m n : ℕ) → wrong (Some (Ok (Strand m))) d ≡ wrong (Some (Ok (Strand n))) d
wrong_strands zero m n = refl
wrong_strands (suc d) m n = refl

wrong_same : (change : Change) (d : ℕ) (sites : List ℕ) (rs : List Record) (i : ℕ) → wrong (slice_get (changed_from change sites rs) i) d ≡ wrong (slice_get rs i) d
wrong_same change d sites [] i = refl
wrong_same change d sites (r ∷ rs) zero = unseen (λ x. wrong (Some x) d) (wrong_strands d) (wrong_opens d) change (innermost sites) r
wrong_same change d sites (r ∷ rs) (suc i) = wrong_same change d (sites_after r sites) rs i

pub wrong_at_same : (change : Change) (rs : List Record) (i : ℕ) → wrong_at (changed change rs) i ≡ wrong_at rs i
wrong_at_same change rs i =
    wrong_same change (depth (changed change rs) i) [] rs i ∙ ap (wrong (slice_get rs i)) (depth_same change rs i)

-- ---- the laws

pub is_as_long : ChangedIsAsLong
is_as_long change rs = long change [] rs

pub is_well_formed : ChangedIsWellFormed
is_well_formed change rs formed i lt = wrong_at_same change rs i ∙ formed i (omega (arith, long change [] rs))

pub keeps_fault : ChangedKeepsFault
keeps_fault change rs f =
    let n = long change [] rs in (
      λ b. let l = b.within in record {
        within = omega arith;
        is_wrong = sym (wrong_at_same change rs f.at) ∙ b.is_wrong;
        first = λ i lt. sym (wrong_at_same change rs i) ∙ b.first i lt;
      },
      λ b. let l = b.within in record {
        within = omega arith;
        is_wrong = wrong_at_same change rs f.at ∙ b.is_wrong;
        first = λ i lt. wrong_at_same change rs i ∙ b.first i lt;
      },
    )

called_weight : (site : ℕ) (by : Option ℕ) (r : Record) → weight (changed_record (Called site) by r) ≡ weight r
called_weight site by (Ok (Strand n)) = refl
called_weight site by (Ok (Call s u)) = refl
called_weight site by (Ok (Spawn s u)) = of_choice weight (nat_eq s site) (Call s u) (Spawn s u) 0 refl refl
called_weight site by (Ok Ret) = refl
called_weight site by (Ok Sync) = refl
called_weight site by (Err why) = refl

spawned_weight : (site : ℕ) (by : Option ℕ) (r : Record) → weight (changed_record (Spawned site) by r) ≡ weight r
spawned_weight site by (Ok (Strand n)) = refl
spawned_weight site by (Ok (Call s u)) = of_choice weight (nat_eq s site) (Spawn s u) (Call s u) 0 refl refl
spawned_weight site by (Ok (Spawn s u)) = refl
spawned_weight site by (Ok Ret) = refl
spawned_weight site by (Ok Sync) = refl
spawned_weight site by (Err why) = refl

pub called_keeps_work : CalledKeepsWork
called_keeps_work site rs = summed weight (Called site) (called_weight site) [] rs

pub spawned_keeps_work : SpawnedKeepsWork
spawned_keeps_work site rs = summed weight (Spawned site) (spawned_weight site) [] rs
