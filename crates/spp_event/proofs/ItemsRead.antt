-- What is spelled as an item is read as that event, and other bytes are refused.
use Rattle.std.proofs.Common.{◌≡◌, ℕ, ◌^◌, ◌<◌, ◌≤◌, Bool, true, false, ◌&&◌, ◌||◌, nat_lt, if◌then◌else◌, List, [], ◌∷◌, ◌++◌, slice_get, Option, Some, None, Result, Ok, Err, IsOk, refl, sym, ap, subst, ◌∙◌, arith}
use Rattle.std.specs.Str.{bytes_eq}
use Rattle.std.proofs.lemmas.Bool.{lt-ltb, le-ltb, ltb-true}
use Rattle.std.proofs.lemmas.List.{append-nil}
use Rattle.std.proofs.lemmas.Slice.Eq.{bytes_eq-Decides}
use Rattle.spp_event.specs.declared.records.Event.{Event}
use Rattle.spp_event.specs.declared.records.Event.TheVariants.{Strand, Call, Spawn, Ret, Sync}
use Rattle.spp_event.specs.declared.records.EventFault.{EventFault}
use Rattle.spp_event.specs.declared.records.EventFault.TheVariants.{Truncated, Tag, Operand, Site, Func}
use Rattle.spp_event.specs.Records.{names_site, names_func, IsEvent, IsEventOf}
use Rattle.spp_event.specs.Items.{operand, item_of, numbers, event_by, is_event, within_trace, judged, read_item}
use Rattle.spp_event.specs.Laws.{OneItem, ItemIsRead, ReadIsItem}
use Rattle.spp_event.proofs.ItemNumbers.{numbers_operand}

both : {a b : Bool} → a ≡ true → b ≡ true → (a && b) ≡ true
both p q = cc

split : (a b : Bool) → (a && b) ≡ true → (a ≡ true) × (b ≡ true)
split true true h = (refl, refl)
split true false h = absurd cc
split false b h = absurd cc

parts : (site func : ℕ) → (nat_lt site (2 ^ 32) && nat_lt func (2 ^ 32)) ≡ true → (site < 2 ^ 32) × (func < 2 ^ 32)
parts site func h = let p = split (nat_lt site (2 ^ 32)) (nat_lt func (2 ^ 32)) h in (ltb-true site (2 ^ 32) p.0, ltb-true func (2 ^ 32) p.1)

fits : (e : Event) → IsEvent e → is_event e ≡ true
fits (Strand count) h = lt-ltb count (2 ^ 64) h
fits (Call site func) h = both (lt-ltb site (2 ^ 32) h.0) (lt-ltb func (2 ^ 32) h.1)
fits (Spawn site func) h = both (lt-ltb site (2 ^ 32) h.0) (lt-ltb func (2 ^ 32) h.1)
fits Ret h = refl
fits Sync h = refl

fit : (e : Event) → is_event e ≡ true → IsEvent e
fit (Strand count) h = ltb-true count (2 ^ 64) h
fit (Call site func) h = parts site func h
fit (Spawn site func) h = parts site func h
fit Ret h = tt
fit Sync h = tt

-- it is the tag of no event
abbrev pub no_tag : ℕ → Bool
no_tag lead = nat_lt lead 128 || nat_lt 132 lead

two : (n m : ℕ) → numbers 0 (operand n ++ operand m) ≡ n ∷ m ∷ []
two n m = numbers_operand n (operand m) ∙ ap (λ (l : List ℕ). n ∷ l) (ap (λ (l : List ℕ). numbers 0 l) (sym (append-nil (operand m))) ∙ numbers_operand m [])

-- the numbers of an item say its event
says : (e : Event) (lead : ℕ) (rest : List ℕ) → item_of e ≡ lead ∷ rest → (no_tag lead ≡ false) × (event_by lead (numbers 0 rest) ≡ Some e)
says (Strand count) lead rest h =
    let l : 128 ≡ lead = cc in let r : operand count ≡ rest = cc in
    (ap no_tag (sym l), sym (ap (λ (k : ℕ). event_by k (numbers 0 rest)) l) ∙ ap (λ (x : List ℕ). event_by 128 (numbers 0 x)) (sym r ∙ sym (append-nil (operand count))) ∙ ap (event_by 128) (numbers_operand count []))
says (Call site func) lead rest h =
    let l : 129 ≡ lead = cc in let r : operand site ++ operand func ≡ rest = cc in
    (ap no_tag (sym l), sym (ap (λ (k : ℕ). event_by k (numbers 0 rest)) l) ∙ ap (λ (x : List ℕ). event_by 129 (numbers 0 x)) (sym r) ∙ ap (event_by 129) (two site func))
says (Spawn site func) lead rest h =
    let l : 130 ≡ lead = cc in let r : operand site ++ operand func ≡ rest = cc in
    (ap no_tag (sym l), sym (ap (λ (k : ℕ). event_by k (numbers 0 rest)) l) ∙ ap (λ (x : List ℕ). event_by 130 (numbers 0 x)) (sym r) ∙ ap (event_by 130) (two site func))
says Ret lead rest h = let l : 131 ≡ lead = cc in let r : [] ≡ rest = cc in (ap no_tag (sym l), sym (ap (λ (k : ℕ). event_by k (numbers 0 rest)) l) ∙ ap (λ (x : List ℕ). event_by 131 (numbers 0 x)) (sym r))
says Sync lead rest h = let l : 132 ≡ lead = cc in let r : [] ≡ rest = cc in (ap no_tag (sym l), sym (ap (λ (k : ℕ). event_by k (numbers 0 rest)) l) ∙ ap (λ (x : List ℕ). event_by 132 (numbers 0 x)) (sym r))

-- what has a tag
tagged : (sites funcs lead : ℕ) (rest : List ℕ) → no_tag lead ≡ false → read_item sites funcs (lead ∷ rest) ≡ judged sites funcs (lead ∷ rest) (event_by lead (numbers 0 rest))
unfolding read_item
tagged sites funcs lead rest h = ap (λ (t : Bool). if t then Err Tag else judged sites funcs (lead ∷ rest) (event_by lead (numbers 0 rest))) h

-- what is spelled is read
pub spelled_item : (sites funcs : ℕ) (item : List ℕ) (e : Event) → IsEvent e → item ≡ item_of e → read_item sites funcs item ≡ within_trace sites funcs e
spelled_item sites funcs [] (Strand count) h is = absurd cc
spelled_item sites funcs [] (Call site func) h is = absurd cc
spelled_item sites funcs [] (Spawn site func) h is = absurd cc
spelled_item sites funcs [] Ret h is = absurd cc
spelled_item sites funcs [] Sync h is = absurd cc
spelled_item sites funcs (lead ∷ rest) e h is =
    let s = says e lead rest (sym is) in
    let same : bytes_eq (lead ∷ rest) (item_of e) ≡ true = (bytes_eq-Decides (lead ∷ rest) (item_of e)).1 is in
    tagged sites funcs lead rest s.0
    ∙ ap (λ (o : Option Event). judged sites funcs (lead ∷ rest) o) s.1
    ∙ ap (λ (t : Bool). if t then within_trace sites funcs e else Err Operand) (both same (fits e h))

-- what isn't there, or has no tag
pub no_item : (sites funcs : ℕ) (item : List ℕ) → slice_get item 0 ≡ None → read_item sites funcs item ≡ Err Truncated
unfolding read_item
no_item sites funcs [] h = refl
no_item sites funcs (lead ∷ rest) h = absurd cc

pub untagged : (sites funcs : ℕ) (item : List ℕ) (lead : ℕ) → slice_get item 0 ≡ Some lead → no_tag lead ≡ true → read_item sites funcs item ≡ Err Tag
unfolding read_item
untagged sites funcs [] lead is h = absurd cc
untagged sites funcs (b ∷ rest) lead is h =
    let same : b ≡ lead = cc in
    ap (λ (t : Bool). if t then Err Tag else judged sites funcs (b ∷ rest) (event_by b (numbers 0 rest))) (ap no_tag same ∙ h)

pub below_tags : (lead : ℕ) → lead < 128 → no_tag lead ≡ true
below_tags lead h = ap (λ (t : Bool). t || nat_lt 132 lead) (lt-ltb lead 128 h)

pub above_tags : (lead : ℕ) → 132 < lead → no_tag lead ≡ true
above_tags lead h = ap (λ (t : Bool). t || nat_lt 132 lead) (le-ltb lead 128 (omega arith)) ∙ lt-ltb 132 lead h

pub among_tags : (lead : ℕ) → 128 ≤ lead → lead ≤ 132 → no_tag lead ≡ false
among_tags lead h k = ap (λ (t : Bool). t || nat_lt 132 lead) (le-ltb lead 128 h) ∙ le-ltb 132 lead k

-- what has a tag and is the item of no event
pub unspelled_item : (sites funcs : ℕ) (item : List ℕ) (lead : ℕ) → slice_get item 0 ≡ Some lead → no_tag lead ≡ false
    → ((e : Event) → IsEvent e → item ≡ item_of e → ⊥) → read_item sites funcs item ≡ Err Operand
unspelled_item sites funcs [] lead is h none = absurd cc
unspelled_item sites funcs (b ∷ rest) lead is h none =
    let same : b ≡ lead = cc in
    tagged sites funcs b rest (ap no_tag same ∙ h) ∙ by_event (event_by b (numbers 0 rest))
  where
    by_test : (e : Event) (t : Bool) → t ≡ (bytes_eq (b ∷ rest) (item_of e) && is_event e) → (if t then within_trace sites funcs e else Err Operand) ≡ Err Operand
    by_test e false p = refl
    by_test e true p = let q = split (bytes_eq (b ∷ rest) (item_of e)) (is_event e) (sym p) in absurd (none e (fit e q.1) ((bytes_eq-Decides (b ∷ rest) (item_of e)).0 q.0))

    by_event : (o : Option Event) → judged sites funcs (b ∷ rest) o ≡ Err Operand
    by_event None = refl
    by_event (Some e) = by_test e (bytes_eq (b ∷ rest) (item_of e) && is_event e) refl

-- ---- the laws

of_trace : (sites funcs : ℕ) (e : Event) → sites ≤ 2 ^ 32 → funcs ≤ 2 ^ 32 → IsEventOf sites funcs e → IsEvent e
of_trace sites funcs (Strand count) s f h = h
of_trace sites funcs (Call site func) s f h = (omega (arith, h.0), omega (arith, h.1))
of_trace sites funcs (Spawn site func) s f h = (omega (arith, h.0), omega (arith, h.1))
of_trace sites funcs Ret s f h = tt
of_trace sites funcs Sync s f h = tt

is_within : (sites funcs : ℕ) (e : Event) → IsEventOf sites funcs e → within_trace sites funcs e ≡ Ok e
is_within sites funcs (Strand count) h = refl
is_within sites funcs (Call site func) h = rw (lt-ltb site sites h.0, lt-ltb func funcs h.1) refl
is_within sites funcs (Spawn site func) h = rw (lt-ltb site sites h.0, lt-ltb func funcs h.1) refl
is_within sites funcs Ret h = refl
is_within sites funcs Sync h = refl

pub item_is_read : ItemIsRead
item_is_read sites funcs e s f h = spelled_item sites funcs (item_of e) e (of_trace sites funcs e s f h) refl ∙ is_within sites funcs e h

within_says : (sites funcs : ℕ) (d e : Event) → IsEvent d → within_trace sites funcs d ≡ Ok e → (d ≡ e) × IsEventOf sites funcs e
within_says sites funcs (Strand count) e fits h = let same : Strand count ≡ e = cc in (same, subst (IsEventOf sites funcs) same fits)
within_says sites funcs (Call site func) e fits h = by (nat_lt site sites) (nat_lt func funcs) refl refl h
  where
    by : (a b : Bool) → nat_lt site sites ≡ a → nat_lt func funcs ≡ b → (if a then (if b then Ok (Call site func) else Err Func) else Err Site) ≡ Ok e → (Call site func ≡ e) × IsEventOf sites funcs e
    by true true p q g = let same : Call site func ≡ e = cc in (same, subst (IsEventOf sites funcs) same (ltb-true site sites p, ltb-true func funcs q))
    by true false p q g = absurd cc
    by false b p q g = absurd cc
within_says sites funcs (Spawn site func) e fits h = by (nat_lt site sites) (nat_lt func funcs) refl refl h
  where
    by : (a b : Bool) → nat_lt site sites ≡ a → nat_lt func funcs ≡ b → (if a then (if b then Ok (Spawn site func) else Err Func) else Err Site) ≡ Ok e → (Spawn site func ≡ e) × IsEventOf sites funcs e
    by true true p q g = let same : Spawn site func ≡ e = cc in (same, subst (IsEventOf sites funcs) same (ltb-true site sites p, ltb-true func funcs q))
    by true false p q g = absurd cc
    by false b p q g = absurd cc
within_says sites funcs Ret e fits h = let same : Ret ≡ e = cc in (same, subst (IsEventOf sites funcs) same tt)
within_says sites funcs Sync e fits h = let same : Sync ≡ e = cc in (same, subst (IsEventOf sites funcs) same tt)

-- what is read is the item of an event that fits and that the trace can hold
pub whole_item : (sites funcs : ℕ) (item : List ℕ) (e : Event) → read_item sites funcs item ≡ Ok e → (item ≡ item_of e) × IsEventOf sites funcs e × IsEvent e
unfolding read_item
whole_item sites funcs [] e h = absurd cc
whole_item sites funcs (lead ∷ rest) e h = by_tag (no_tag lead) h
  where
    by_test : (d : Event) (t : Bool) → t ≡ (bytes_eq (lead ∷ rest) (item_of d) && is_event d) → (if t then within_trace sites funcs d else Err Operand) ≡ Ok e → ((lead ∷ rest) ≡ item_of e) × IsEventOf sites funcs e × IsEvent e
    by_test d false p g = absurd cc
    by_test d true p g =
        let q = split (bytes_eq (lead ∷ rest) (item_of d)) (is_event d) (sym p) in
        let w = within_says sites funcs d e (fit d q.1) g in
        ((bytes_eq-Decides (lead ∷ rest) (item_of d)).0 q.0 ∙ ap item_of w.0, w.1, subst IsEvent w.0 (fit d q.1))

    by_event : (o : Option Event) → judged sites funcs (lead ∷ rest) o ≡ Ok e → ((lead ∷ rest) ≡ item_of e) × IsEventOf sites funcs e × IsEvent e
    by_event None g = absurd cc
    by_event (Some d) g = by_test d (bytes_eq (lead ∷ rest) (item_of d) && is_event d) refl g

    by_tag : (t : Bool) → (if t then Err Tag else judged sites funcs (lead ∷ rest) (event_by lead (numbers 0 rest))) ≡ Ok e → ((lead ∷ rest) ≡ item_of e) × IsEventOf sites funcs e × IsEvent e
    by_tag true g = absurd cc
    by_tag false g = by_event (event_by lead (numbers 0 rest)) g

pub read_is_item : ReadIsItem
read_is_item sites funcs item e h = let w = whole_item sites funcs item e h in (w.0, w.1)

-- a known event is the one that its item says
pub known_item : (sites funcs : ℕ) (item : List ℕ) (e : Event) → IsEvent e → item ≡ item_of e → IsOk (read_item sites funcs item) → read_item sites funcs item ≡ Ok e
known_item sites funcs item e fits is ok =
    let w = spelled_item sites funcs item e fits is in
    w ∙ by (names_site sites e) (names_func funcs e) (subst (λ (r : Result Event EventFault). IsOk r) w ok)
  where
    by : (a b : Bool) → IsOk (if a then (if b then Ok e else Err Func) else Err Site) → (if a then (if b then Ok e else Err Func) else Err Site) ≡ Ok e
    by true true h = refl
    by true false h = absurd (let z : false ≡ true = h in cc)
    by false b h = absurd (let z : false ≡ true = h in cc)

same_ok : (d e : Event) (x : Result Event EventFault) → x ≡ Ok d → x ≡ Ok e → d ≡ e
same_ok d e x p q = cc

widest : (e : Event) → IsEvent e → IsEventOf (2 ^ 32) (2 ^ 32) e
widest (Strand count) h = h
widest (Call site func) h = h
widest (Spawn site func) h = h
widest Ret h = tt
widest Sync h = tt

pub one_item_each : OneItem
one_item_each d e p q same =
    same_ok d e (read_item (2 ^ 32) (2 ^ 32) (item_of d)) (item_is_read (2 ^ 32) (2 ^ 32) d (omega arith) (omega arith) (widest d p))
    (ap (λ (r : List ℕ). read_item (2 ^ 32) (2 ^ 32) r) same ∙ item_is_read (2 ^ 32) (2 ^ 32) e (omega arith) (omega arith) (widest e q))
