-- The events of bytes that stand one behind the other, of either version.
use Rattle.std.proofs.Common.{◌≡◌, ℕ, ◌+◌, ◌-◌, ◌≤◌, ◌<◌, ◌⊎◌, Bool, true, false, nat_le, if◌then◌else◌, List, [], ◌∷◌, ◌++◌, length, get_or, slice_get, Err, refl, sym, ap, ◌∙◌, arith, inl, inr}
use Rattle.std.proofs.lemmas.Bool.{cases_lt}
use Rattle.std.proofs.lemmas.List.{length-append, get_or_append_left, get_or-append_right, get_or_past, ext_get_or}
use Rattle.spp_event.specs.declared.records.EventFault.TheVariants.{Truncated}
use Rattle.spp_event.specs.declared.version.Version.{Version}
use Rattle.spp_event.specs.declared.version.Version.TheVariants.{One, Two}
use Rattle.spp_event.specs.Items.{in_front, items, read_item}
use Rattle.spp_event.specs.Recordings.{item, records_of, record_at, count_in, filled, room}
use Rattle.spp_event.specs.Places.{GoesOn, IsJoint}
use Rattle.spp_event.proofs.ItemPlaces.{starts_by, one_item}
use Rattle.spp_event.proofs.ItemsRead.{no_item}
use Rattle.spp_event.proofs.JoinedRecords.{records_joined, first_truncated}
use Rattle.spp_event.proofs.RecordPlaces.{length-records_of, record_at-records_of}

-- ---- the items of both are those of all

front_joined : (b : ℕ) (x : List ℕ) (xs its : List (List ℕ)) → in_front b ((x ∷ xs) ++ its) ≡ in_front b (x ∷ xs) ++ its
front_joined b x xs its = by (nat_le 128 (get_or x 0 0))
  where
    by : (t : Bool) → (if t then (b ∷ []) ∷ x ∷ (xs ++ its) else (b ∷ x) ∷ (xs ++ its)) ≡ (if t then (b ∷ []) ∷ x ∷ xs else (b ∷ x) ∷ xs) ++ its
    by true = refl
    by false = refl

items_behind : (xs ys : List ℕ) → GoesOn ys → items (xs ++ ys) ≡ items xs ++ items ys
items_behind [] ys on = refl
items_behind (x ∷ []) ys on = one_item x [] ys tt on
items_behind (x ∷ c ∷ cs) ys on =
    let s = starts_by c (items cs) in
    ap (in_front x) (items_behind (c ∷ cs) ys on ∙ ap (λ (l : List (List ℕ)). l ++ items ys) s.are)
    ∙ front_joined x s.first s.others (items ys)
    ∙ ap (λ (l : List (List ℕ)). in_front x l ++ items ys) (sym s.are)

pub items_joined : (xs ys : List ℕ) → IsJoint Two xs ys → items (xs ++ ys) ≡ items xs ++ items ys
items_joined xs ys (inr on) = items_behind xs ys on
items_joined [] ys (inl none) = refl
items_joined (x ∷ xs) ys (inl none) = absurd (omega (arith, none))

-- ---- the events

-- whole events are as many as they have room for
pub whole_counted : (v : Version) (n : ℕ) (xs : List ℕ) → filled v xs ≡ room v n → count_in v xs ≡ n
whole_counted One n xs whole = omega arith
whole_counted Two n xs whole = whole

-- those of both are those of all
pub filled_joined : (v : Version) (n k : ℕ) (xs ys : List ℕ) → IsJoint v xs ys → filled v xs ≡ room v n → filled v ys ≡ room v k → filled v (xs ++ ys) ≡ room v (n + k)
filled_joined One n k xs ys joint first second = omega (arith, length-append xs ys)
filled_joined Two n k xs ys joint first second = omega (arith, ap (λ (l : List (List ℕ)). length l) (items_joined xs ys joint), length-append (items xs) (items ys), first, second)

-- the items of both, one by one
module _ (sites funcs : ℕ) (xs ys : List ℕ) (joint : IsJoint Two xs ys) where
  item_before : (i : ℕ) → i < length (items xs) → item (xs ++ ys) i ≡ item xs i
  item_before i lt = ap (λ (l : List (List ℕ)). get_or l i []) (items_joined xs ys joint) ∙ get_or_append_left (items xs) (items ys) [] i lt

  item_behind : (n i : ℕ) → length (items xs) ≡ n → n ≤ i → item (xs ++ ys) i ≡ item ys (i - n)
  item_behind n i is le = ap (λ (l : List (List ℕ)). get_or l i []) (items_joined xs ys joint) ∙ get_or-append_right (items xs) (items ys) n i [] is le

  items_said : (n k : ℕ) → length (items xs) ≡ n → records_of Two sites funcs n xs ++ records_of Two sites funcs k ys ≡ records_of Two sites funcs (n + k) (xs ++ ys)
  items_said n k is =
      let first = length-records_of Two sites funcs n xs in
      let second = length-records_of Two sites funcs k ys in
      let all = length-records_of Two sites funcs (n + k) (xs ++ ys) in
      let both = length-append (records_of Two sites funcs n xs) (records_of Two sites funcs k ys) in
      ext_get_or (Err Truncated) (records_of Two sites funcs n xs ++ records_of Two sites funcs k ys) (records_of Two sites funcs (n + k) (xs ++ ys)) (omega arith) (λ i lt. each i (omega arith))
    where
      each : (i : ℕ) → i < n + k → get_or (records_of Two sites funcs n xs ++ records_of Two sites funcs k ys) i (Err Truncated) ≡ get_or (records_of Two sites funcs (n + k) (xs ++ ys)) i (Err Truncated)
      each i lt =
          let first = length-records_of Two sites funcs n xs in
          let there = record_at-records_of Two sites funcs (n + k) (xs ++ ys) i lt in
          elim (cases_lt i n) [
            | inl l ↦
                get_or_append_left (records_of Two sites funcs n xs) (records_of Two sites funcs k ys) (Err Truncated) i (omega arith)
                ∙ record_at-records_of Two sites funcs n xs i l
                ∙ ap (read_item sites funcs) (sym (item_before i (omega arith)))
                ∙ sym there
            | inr l ↦
                get_or-append_right (records_of Two sites funcs n xs) (records_of Two sites funcs k ys) n i (Err Truncated) first l
                ∙ record_at-records_of Two sites funcs k ys (i - n) (omega arith)
                ∙ ap (read_item sites funcs) (sym (item_behind n i is l))
                ∙ sym there
          ]

pub events_joined : (v : Version) (sites funcs n k : ℕ) (xs ys : List ℕ) → IsJoint v xs ys → filled v xs ≡ room v n
    → records_of v sites funcs n xs ++ records_of v sites funcs k ys ≡ records_of v sites funcs (n + k) (xs ++ ys)
events_joined One sites funcs n k xs ys joint whole = records_joined sites funcs n k xs ys whole
events_joined Two sites funcs n k xs ys joint whole = items_said sites funcs xs ys joint n k whole

-- ---- what may stand behind bytes

-- behind bytes stand the first of others, and then these
pub joint_first : (v : Version) (xs ys zs : List ℕ) → IsJoint v xs (ys ++ zs) → IsJoint v xs ys
joint_first One xs ys zs joint = tt
joint_first Two xs ys zs (inl none) = inl none
joint_first Two xs [] zs (inr on) = inr tt
joint_first Two xs (y ∷ ys) zs (inr on) = inr on

pub joint_moved : (v : Version) (xs ys zs : List ℕ) → IsJoint v xs (ys ++ zs) → IsJoint v ys zs → IsJoint v (xs ++ ys) zs
joint_moved One xs ys zs joint next = tt
joint_moved Two xs ys zs joint (inr on) = inr on
joint_moved Two xs ys zs (inl none) (inl nothing) = inl (omega (arith, length-append xs ys, none, nothing))
joint_moved Two xs [] zs (inr on) (inl nothing) = inr on
joint_moved Two xs (y ∷ ys) zs (inr on) (inl nothing) = absurd (omega (arith, nothing))

-- more bytes come behind some
pub joint_more : (v : Version) (xs ys zs : List ℕ) → (length xs ≡ 0) ⊎ (0 < length ys) → IsJoint v xs ys → IsJoint v xs (ys ++ zs)
joint_more One xs ys zs some joint = tt
joint_more Two xs ys zs some (inl none) = inl none
joint_more Two xs ys zs (inl none) (inr on) = inl none
joint_more Two xs [] zs (inr some) (inr on) = absurd (omega (arith, some))
joint_more Two xs (y ∷ ys) zs (inr some) (inr on) = inr on

pub none_joint : (v : Version) (ys : List ℕ) → IsJoint v [] ys
none_joint One ys = tt
none_joint Two ys = inl refl

-- what stands for the first event of bytes that have no whole one
pub events_cut : (v : Version) (sites funcs k : ℕ) (ys : List ℕ) → 0 < k → count_in v ys ≡ 0 → record_at (records_of v sites funcs k ys) 0 ≡ Err Truncated
events_cut One sites funcs k ys some none = first_truncated sites funcs k ys some (omega (arith, none))
events_cut Two sites funcs k ys some none =
    record_at-records_of Two sites funcs k ys 0 some
    ∙ no_item sites funcs (item ys 0) (ap (λ (l : List ℕ). slice_get l 0) (get_or_past (items ys) 0 [] (omega (arith, none))))
