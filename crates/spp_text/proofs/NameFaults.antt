-- A line that declares a function, a site or the root function is refused with the fault that it has.
use Rattle.std.proofs.Common.{◌≡◌, ◌≢◌, ◌⊎◌, ℕ, zero, suc, ◌≤◌, ◌<◌, Bool, true, false, ◌||◌, cond, ltb, leb, Option, Some, None, List, [], ◌∷◌, length, get_or, Ok, Err, refl, sym, ap, subst, ◌∙◌, inl, inr, arith}
use Rattle.std.specs.Prelude.{Contains, is_some, map}
use Rattle.std.specs.List.{list_any}
use Rattle.std.specs.Str.{bytes_eq}
use Rattle.std.proofs.lemmas.Bool.{ltb-true, ltb-false, leb-true, leb-false, lt-leb, le-leb, lt-ltb, or_left, or_right}
use Rattle.std.proofs.lemmas.Map.Views.{Contains-from_any}
use Rattle.std.proofs.lemmas.Slice.Eq.{bytes_eq-Decides}
use Rattle.spp_event.specs.declared.records.Event.{Event}
use Rattle.spp_event.specs.Header.{IsName, root_name}
use Rattle.spp_event.specs.Checks.{is_name, is_taken}
use Rattle.spp_event.proofs.GoodNames.{is_name_decides}
use Rattle.spp_text.specs.declared.fault.TextWhy.{TextWhy}
use Rattle.spp_text.specs.declared.fault.TextWhy.TheVariants.{Word, Count, Number, Name, SameName, Limits, Late, Root, NoFunc, Site, Func, Memory}
use Rattle.spp_text.specs.Reading.{Said, has_event, number_in, read_func, read_site, set_root, read_root}
use Rattle.spp_text.specs.LineFaults.{HasEvent, HasNoEvent, numbers, IsFuncFault, IsSiteFault, IsRootFault}
use Rattle.spp_text.proofs.LineAdds.{with_func, with_site, with_root}

-- ---- tests and what they decide

pub not_both : (b : Bool) → b ≡ true → b ≡ false → ⊥
not_both b e f = let both : true ≡ false = sym e ∙ f in absurd cc

pub is_false : (b : Bool) → (b ≡ true → ⊥) → b ≡ false
is_false true n = absurd (n refl)
is_false false n = refl

pub nothing_in : {X : Type 0} (xs : List X) → length xs ≤ 0 → xs ≡ []
nothing_in [] le = refl
nothing_in (x ∷ xs) le = absurd (omega arith)

pub some_in : {X : Type 0} (xs : List X) → xs ≢ [] → 0 < length xs
some_in [] n = absurd (n refl)
some_in (x ∷ xs) n = omega arith

pub none_in : {X : Type 0} (xs : List X) → 0 < length xs → xs ≢ []
none_in [] lt e = absurd (omega arith)
none_in (x ∷ xs) lt e = absurd cc

pub event_came : (s : Said) → has_event s ≡ true → HasEvent s
event_came s e = none_in s.events (ltb-true 0 (length s.events) e)

pub no_event_came : (s : Said) → has_event s ≡ false → HasNoEvent s
no_event_came s e = nothing_in s.events (ltb-false 0 (length s.events) e)

pub with_event_there : (s : Said) → HasEvent s → has_event s ≡ true
with_event_there s n = lt-ltb 0 (length s.events) (some_in s.events n)

pub with_no_event : (s : Said) → HasNoEvent s → has_event s ≡ false
with_no_event s e = ap (λ (es : List Event). ltb 0 (length es)) e

bad_name : (name : List ℕ) → is_name name ≡ false → ¬ IsName name
bad_name name e n = not_both (is_name name) ((is_name_decides name).1 n) e

name_is_bad : (name : List ℕ) → ¬ IsName name → is_name name ≡ false
name_is_bad name n = is_false (is_name name) (λ e. n ((is_name_decides name).0 e))

one_of : (a b : Bool) → (a || b) ≡ true → (a ≡ true) ⊎ (b ≡ true)
one_of true b e = inl refl
one_of false b e = inr e

taken_before : (names : List (List ℕ)) (name : List ℕ) → is_taken names name ≡ true → (name ≡ root_name) ⊎ Contains names name
taken_before names name e = elim (one_of (bytes_eq name root_name) (list_any (λ n. bytes_eq name n) names) e) [
  | inl r ↦ inl ((bytes_eq-Decides name root_name).0 r)
  | inr a ↦ inr (Contains-from_any (λ x y h. (bytes_eq-Decides x y).0 h) name names a)
]

any_at : (name : List ℕ) (names : List (List ℕ)) (k : ℕ) → k < length names → get_or names k name ≡ name → list_any (λ n. bytes_eq name n) names ≡ true
any_at name [] k lt e = absurd (omega arith)
any_at name (n ∷ names) zero lt e = or_left (bytes_eq name n) (list_any (λ n. bytes_eq name n) names) ((bytes_eq-Decides name n).1 (sym e))
any_at name (n ∷ names) (suc k) lt e = or_right (bytes_eq name n) (list_any (λ n. bytes_eq name n) names) (any_at name names k (omega arith) e)

is_taken_again : (names : List (List ℕ)) (name : List ℕ) → (name ≡ root_name) ⊎ Contains names name → is_taken names name ≡ true
is_taken_again names name (inl r) = or_left (bytes_eq name root_name) (list_any (λ n. bytes_eq name n) names) ((bytes_eq-Decides name root_name).1 r)
is_taken_again names name (inr c) = or_right (bytes_eq name root_name) (list_any (λ n. bytes_eq name n) names) (any_at name names c.0 c.1 c.2)

-- ---- functions

pub func_fault : (s : Said) (name : List ℕ) (why : TextWhy) → read_func s name ≡ Err why → IsFuncFault s name why
unfolding read_func
func_fault s name why = by_tests (has_event s) refl (leb 65536 (length s.funcs)) refl (is_name name) refl
  where
    by_tests : (late : Bool) → has_event s ≡ late → (full : Bool) → leb 65536 (length s.funcs) ≡ full → (good : Bool) → is_name name ≡ good
        → cond late (Err Late) (cond full (Err Limits) (cond good (Ok (with_func s name)) (Err Name))) ≡ Err why → IsFuncFault s name why
    by_tests true a full b good c h =
        let same : Late ≡ why = cc in
        subst (λ (w : TextWhy). IsFuncFault s name w) same (event_came s a)
    by_tests false a true b good c h =
        let same : Limits ≡ why = cc in
        subst (λ (w : TextWhy). IsFuncFault s name w) same (no_event_came s a, leb-true 65536 (length s.funcs) b)
    by_tests false a false b false c h =
        let same : Name ≡ why = cc in
        subst (λ (w : TextWhy). IsFuncFault s name w) same (no_event_came s a, leb-false 65536 (length s.funcs) b, bad_name name c)
    by_tests false a false b true c h = absurd cc

pub func_refused : (s : Said) (name : List ℕ) (why : TextWhy) → IsFuncFault s name why → read_func s name ≡ Err why
unfolding read_func
func_refused s name Late h = rw (with_event_there s h) refl
func_refused s name Limits h = rw (with_no_event s h.0, le-leb 65536 (length s.funcs) h.1) refl
func_refused s name Name h = rw (with_no_event s h.0, lt-leb 65536 (length s.funcs) h.1, name_is_bad name h.2) refl
func_refused s name SameName h = absurd h
func_refused s name Word h = absurd h
func_refused s name Count h = absurd h
func_refused s name Number h = absurd h
func_refused s name Root h = absurd h
func_refused s name NoFunc h = absurd h
func_refused s name Site h = absurd h
func_refused s name Func h = absurd h
func_refused s name Memory h = absurd h

-- ---- sites

pub site_fault : (s : Said) (name : List ℕ) (why : TextWhy) → read_site s name ≡ Err why → IsSiteFault s name why
unfolding read_site
site_fault s name why = by_tests (has_event s) refl (leb 65536 (length s.sites)) refl (is_name name) refl (is_taken s.sites name) refl
  where
    by_tests : (late : Bool) → has_event s ≡ late → (full : Bool) → leb 65536 (length s.sites) ≡ full → (good : Bool) → is_name name ≡ good → (taken : Bool) → is_taken s.sites name ≡ taken
        → cond late (Err Late) (cond full (Err Limits) (cond good (cond taken (Err SameName) (Ok (with_site s name))) (Err Name))) ≡ Err why → IsSiteFault s name why
    by_tests true a full b good c taken d h =
        let same : Late ≡ why = cc in
        subst (λ (w : TextWhy). IsSiteFault s name w) same (event_came s a)
    by_tests false a true b good c taken d h =
        let same : Limits ≡ why = cc in
        subst (λ (w : TextWhy). IsSiteFault s name w) same (no_event_came s a, leb-true 65536 (length s.sites) b)
    by_tests false a false b false c taken d h =
        let same : Name ≡ why = cc in
        subst (λ (w : TextWhy). IsSiteFault s name w) same (no_event_came s a, leb-false 65536 (length s.sites) b, bad_name name c)
    by_tests false a false b true c true d h =
        let same : SameName ≡ why = cc in
        subst (λ (w : TextWhy). IsSiteFault s name w) same (no_event_came s a, leb-false 65536 (length s.sites) b, (is_name_decides name).0 c, taken_before s.sites name d)
    by_tests false a false b true c false d h = absurd cc

pub site_refused : (s : Said) (name : List ℕ) (why : TextWhy) → IsSiteFault s name why → read_site s name ≡ Err why
unfolding read_site
site_refused s name Late h = rw (with_event_there s h) refl
site_refused s name Limits h = rw (with_no_event s h.0, le-leb 65536 (length s.sites) h.1) refl
site_refused s name Name h = rw (with_no_event s h.0, lt-leb 65536 (length s.sites) h.1, name_is_bad name h.2) refl
site_refused s name SameName h = rw (with_no_event s h.0, lt-leb 65536 (length s.sites) h.1, (is_name_decides name).1 h.2, is_taken_again s.sites name h.3) refl
site_refused s name Word h = absurd h
site_refused s name Count h = absurd h
site_refused s name Number h = absurd h
site_refused s name Root h = absurd h
site_refused s name NoFunc h = absurd h
site_refused s name Site h = absurd h
site_refused s name Func h = absurd h
site_refused s name Memory h = absurd h

-- ---- the root function

named_before : (root : Option ℕ) → is_some root ≡ true → root ≢ None
named_before None e = absurd cc
named_before (Some n) e = λ f. absurd cc

is_named : (root : Option ℕ) → root ≢ None → is_some root ≡ true
is_named None n = absurd (n refl)
is_named (Some m) n = refl

root_set_fault : (s : Said) (w : List ℕ) (o : Option ℕ) (why : TextWhy) → number_in 4294967295 w ≡ o → set_root s o ≡ Err why → IsRootFault s (w ∷ []) why
root_set_fault s w None why e h =
    let same : Number ≡ why = cc in
    subst (λ (y : TextWhy). IsRootFault s (w ∷ []) y) same (ap (λ (o : Option ℕ). o ∷ []) e)
root_set_fault s w (Some n) why e h = by_tests (has_event s) refl (is_some s.root) refl h
  where
    by_tests : (late : Bool) → has_event s ≡ late → (named : Bool) → is_some s.root ≡ named
        → cond late (Err Late) (cond named (Err Root) (Ok (with_root s (Some n)))) ≡ Err why → IsRootFault s (w ∷ []) why
    by_tests true a named b h =
        let same : Late ≡ why = cc in
        subst (λ (y : TextWhy). IsRootFault s (w ∷ []) y) same (n, ap (λ (o : Option ℕ). o ∷ []) e, event_came s a)
    by_tests false a true b h =
        let same : Root ≡ why = cc in
        subst (λ (y : TextWhy). IsRootFault s (w ∷ []) y) same (n, ap (λ (o : Option ℕ). o ∷ []) e, no_event_came s a, named_before s.root b)
    by_tests false a false b h = absurd cc

not_one : (n : ℕ) → n ≢ 1 → (s : Said) (others : List (List ℕ)) (why : TextWhy) → length others ≡ n → Count ≡ why → IsRootFault s others why
not_one n ne s others why len same = subst (λ (y : TextWhy). IsRootFault s others y) same (λ e. ne (sym len ∙ e))

pub root_fault : (s : Said) (others : List (List ℕ)) (why : TextWhy) → read_root s others ≡ Err why → IsRootFault s others why
unfolding read_root
root_fault s [] why h = not_one 0 (λ e. absurd (omega arith)) s [] why refl cc
root_fault s (w ∷ []) why h = root_set_fault s w (number_in 4294967295 w) why refl h
root_fault s (w ∷ v ∷ more) why h = not_one (length (w ∷ v ∷ more)) (λ e. absurd (omega arith)) s (w ∷ v ∷ more) why refl cc

-- one word alone
pub one_word : {Y : Type 0} (f : List ℕ → Y) (others : List (List ℕ)) (y : Y) → map f others ≡ y ∷ [] → (w : List ℕ) × (others ≡ w ∷ []) × (f w ≡ y)
one_word f [] y e = absurd cc
one_word f (w ∷ []) y e = (w, refl, cc)
one_word f (w ∷ v ∷ more) y e = absurd cc

root_of : (s : Said) (others : List (List ℕ)) (o : Option ℕ) → numbers 4294967295 others ≡ o ∷ [] → read_root s others ≡ set_root s o
unfolding read_root
root_of s others o e =
    let a = one_word (number_in 4294967295) others o e in
    ap (read_root s) a.1 ∙ ap (set_root s) a.2

pub root_refused : (s : Said) (others : List (List ℕ)) (why : TextWhy) → IsRootFault s others why → read_root s others ≡ Err why
unfolding read_root
root_refused s [] Count h = refl
root_refused s (w ∷ []) Count h = absurd (h refl)
root_refused s (w ∷ v ∷ more) Count h = refl
root_refused s others Number h = root_of s others None h
root_refused s others Late h = root_of s others (Some h.0) h.1 ∙ rw (with_event_there s h.2) refl
root_refused s others Root h = root_of s others (Some h.0) h.1 ∙ rw (with_no_event s h.2, is_named s.root h.3) refl
root_refused s others Word h = absurd h
root_refused s others Name h = absurd h
root_refused s others SameName h = absurd h
root_refused s others Limits h = absurd h
root_refused s others NoFunc h = absurd h
root_refused s others Site h = absurd h
root_refused s others Func h = absurd h
root_refused s others Memory h = absurd h
