-- The items of events, one behind the other, are a body with these items; and a body is its items, one behind the other.
use Rattle.std.proofs.Common.{◌≡◌, ℕ, suc, ◌+◌, ◌/◌, ◌%◌, ◌<◌, ◌≤◌, Bool, true, false, nat_le, if◌then◌else◌, List, [], ◌∷◌, ◌++◌, length, get_or, Ok, refl, sym, ap, ap₂, subst, ◌∙◌, arith}
use Rattle.std.specs.List.{flat_map, AllByRecursion}
use Rattle.std.specs.Int.Digits.{digits_of, AllBelowBase}
use Rattle.std.proofs.lemmas.Int.Digits.{all_below_base_digits_of}
use Rattle.std.proofs.lemmas.List.Concat.{flat_map-cons}
use Rattle.spp_event.specs.declared.records.Event.{Event}
use Rattle.spp_event.specs.declared.records.Event.TheVariants.{Strand, Call, Spawn, Ret, Sync}
use Rattle.spp_event.specs.Items.{operand, item_of, in_front, items, read_item}
use Rattle.spp_event.specs.Laws.{ItemsAreParted}
use Rattle.spp_event.specs.Places.{GoesOn}
use Rattle.spp_event.proofs.ItemPlaces.{one_item, low_more}
use Rattle.spp_event.proofs.ItemsRead.{no_item, whole_item}

abbrev AreLow : List ℕ → Type 0
AreLow bs = AllByRecursion (λ b. b < 128) bs

low_digits : (ds : List ℕ) → AllBelowBase 64 ds → AreLow ds
low_digits [] h = tt
low_digits (d ∷ ds) h = let k = h.0 in (omega arith, low_digits ds h.1)

low_operand : (n : ℕ) → AreLow (operand n)
low_operand n = low_more (digits_of 64 (n / 64)) (64 + n % 64) (low_digits (digits_of 64 (n / 64)) (all_below_base_digits_of 64 (n / 64) (omega arith))) (omega arith)

low_both : (xs ys : List ℕ) → AreLow xs → AreLow ys → AreLow (xs ++ ys)
low_both [] ys h k = k
low_both (x ∷ xs) ys h k = (h.0, low_both xs ys h.1 k)

-- an item begins with a byte of 128 or more, and goes on with lesser ones
pub record Shape (item : List ℕ) : Type 0 where
  pub lead : ℕ
  pub rest : List ℕ
  pub is : item ≡ lead ∷ rest
  pub high : 128 ≤ lead
  pub low : AllByRecursion (λ b. b < 128) rest

pub shape : (e : Event) → Shape (item_of e)
shape (Strand count) = record { lead = 128; rest = operand count; is = refl; high = omega arith; low = low_operand count }
shape (Call site func) = record { lead = 129; rest = operand site ++ operand func; is = refl; high = omega arith; low = low_both (operand site) (operand func) (low_operand site) (low_operand func) }
shape (Spawn site func) = record { lead = 130; rest = operand site ++ operand func; is = refl; high = omega arith; low = low_both (operand site) (operand func) (low_operand site) (low_operand func) }
shape Ret = record { lead = 131; rest = []; is = refl; high = omega arith; low = tt }
shape Sync = record { lead = 132; rest = []; is = refl; high = omega arith; low = tt }

goes_on : (es : List Event) → GoesOn (flat_map item_of es)
goes_on [] = tt
goes_on (e ∷ es) =
    let s = shape e in
    subst GoesOn (sym (flat_map-cons item_of e es ∙ ap (λ (l : List ℕ). l ++ flat_map item_of es) s.is)) s.high

pub items_are_parted : ItemsAreParted
items_are_parted [] = refl
items_are_parted (e ∷ es) =
    let s = shape e in
    ap items (flat_map-cons item_of e es ∙ ap (λ (l : List ℕ). l ++ flat_map item_of es) s.is)
    ∙ one_item s.lead s.rest (flat_map item_of es) s.low (goes_on es)
    ∙ ap₂ (λ (x : List ℕ) (xs : List (List ℕ)). x ∷ xs) (sym s.is) (items_are_parted es)

-- ---- a body is its items

abbrev joined : List (List ℕ) → List ℕ
joined its = flat_map (λ (x : List ℕ). x) its

joined_front : (b : ℕ) (its : List (List ℕ)) → joined (in_front b its) ≡ b ∷ joined its
joined_front b [] = refl
joined_front b (x ∷ xs) = by (nat_le 128 (get_or x 0 0))
  where
    by : (t : Bool) → joined (if t then (b ∷ []) ∷ x ∷ xs else (b ∷ x) ∷ xs) ≡ b ∷ joined (x ∷ xs)
    by true = flat_map-cons (λ (y : List ℕ). y) (b ∷ []) (x ∷ xs)
    by false = flat_map-cons (λ (y : List ℕ). y) (b ∷ x) xs ∙ ap (λ (l : List ℕ). b ∷ l) (sym (flat_map-cons (λ (y : List ℕ). y) x xs))

items_joined : (body : List ℕ) → joined (items body) ≡ body
items_joined [] = refl
items_joined (b ∷ bs) = joined_front b (items bs) ∙ ap (λ (l : List ℕ). b ∷ l) (items_joined bs)

-- items that read as events are those of the events
are_items : (sites funcs : ℕ) (its : List (List ℕ)) (es : List Event) → length its ≤ length es
    → ((i : ℕ) → i < length es → read_item sites funcs (get_or its i []) ≡ Ok (get_or es i Ret)) → joined its ≡ flat_map item_of es
are_items sites funcs [] [] le h = refl
are_items sites funcs [] (e ∷ es) le h = absurd (let z = sym (no_item sites funcs [] refl) ∙ h 0 (omega arith) in cc)
are_items sites funcs (x ∷ its) [] le h = absurd (omega arith)
are_items sites funcs (x ∷ its) (e ∷ es) le h =
    flat_map-cons (λ (y : List ℕ). y) x its
    ∙ ap₂ (λ (a b : List ℕ). a ++ b) (whole_item sites funcs x e (h 0 (omega arith))).0 (are_items sites funcs its es (omega arith) (λ i l. h (suc i) (omega arith)))
    ∙ sym (flat_map-cons item_of e es)

pub body_of_items : (sites funcs : ℕ) (body : List ℕ) (es : List Event) → length (items body) ≤ length es
    → ((i : ℕ) → i < length es → read_item sites funcs (get_or (items body) i []) ≡ Ok (get_or es i Ret)) → body ≡ flat_map item_of es
body_of_items sites funcs body es le h = sym (items_joined body) ∙ are_items sites funcs (items body) es le h
