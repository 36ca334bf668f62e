-- A line that is read adds what it says by itself to what the lines before it have said.
use Rattle.std.proofs.Common.{◌≡◌, ℕ, Bool, true, false, ◌||◌, not, cond, Option, Some, None, List, [], ◌∷◌, ◌++◌, take, drop, codes, length, leb, Result, Ok, Err, refl, sym, subst, append-nil}
use Rattle.std.specs.Prelude.{is_some, option_to_list}
use Rattle.std.specs.Str.{bytes_eq}
use Rattle.std.proofs.lemmas.Slice.Eq.{bytes_eq-Decides}
use Rattle.spp_event.specs.declared.records.Event.{Event}
use Rattle.spp_event.specs.Records.{names_site, names_func}
use Rattle.spp_event.specs.Checks.{is_taken}
use Rattle.spp_text.specs.declared.fault.TextWhy.{TextWhy}
use Rattle.spp_text.specs.declared.fault.TextWhy.TheVariants.{Name, SameName, Limits, Late, Root, Site, Func}
use Rattle.spp_event.specs.Checks.{is_name}
use Rattle.spp_text.specs.Reading.{Said, begins_with, words, number_in, event_in, has_event, read_func, read_site, set_root, read_root, add_event, opening_fault, add_read, read_event, read_words, read_line}
use Rattle.spp_text.specs.LineKinds.{func_on, site_on, root_in, root_on, good_event, event_spelled, event_on}

-- what is said then is what was said before, and these
pub record Adds (s : Said) (func site : Option (List ℕ)) (number : Option ℕ) (event : Option Event) (t : Said) : Type 0 where
  pub funcs : t.funcs ≡ s.funcs ++ option_to_list func
  pub sites : t.sites ≡ s.sites ++ option_to_list site
  pub root : option_to_list t.root ≡ option_to_list s.root ++ option_to_list number
  pub events : t.events ≡ s.events ++ option_to_list event

-- ---- one thing more

abbrev pub with_func : Said → List ℕ → Said
with_func s name = record { funcs = s.funcs ++ name ∷ []; sites = s.sites; root = s.root; events = s.events }

abbrev pub with_site : Said → List ℕ → Said
with_site s name = record { funcs = s.funcs; sites = s.sites ++ name ∷ []; root = s.root; events = s.events }

abbrev pub with_root : Said → Option ℕ → Said
with_root s root = record { funcs = s.funcs; sites = s.sites; root = root; events = s.events }

abbrev pub with_event : Said → Event → Said
with_event s e = record { funcs = s.funcs; sites = s.sites; root = s.root; events = s.events ++ e ∷ [] }

-- a line that says nothing
adds_none : (s t : Said) → s ≡ t → Adds s None None None None t
adds_none s t e = subst (λ (u : Said). Adds s None None None None u) e
    (record { funcs = sym (append-nil s.funcs); sites = sym (append-nil s.sites); root = sym (append-nil (option_to_list s.root)); events = sym (append-nil s.events) })

adds_func : (s t : Said) (name : List ℕ) → read_func s name ≡ Ok t → Adds s (Some name) None None None t
unfolding read_func
adds_func s t name = by_tests (has_event s) (leb 65536 (length s.funcs)) (is_name name)
  where
    by_tests : (late full good : Bool) → cond late (Err Late) (cond full (Err Limits) (cond good (Ok (with_func s name)) (Err Name))) ≡ Ok t → Adds s (Some name) None None None t
    by_tests true full good e = absurd cc
    by_tests false true good e = absurd cc
    by_tests false false false e = absurd cc
    by_tests false false true e =
        let same : with_func s name ≡ t = cc in
        subst (λ (u : Said). Adds s (Some name) None None None u) same
        (record { funcs = refl; sites = sym (append-nil s.sites); root = sym (append-nil (option_to_list s.root)); events = sym (append-nil s.events) })

adds_site : (s t : Said) (name : List ℕ) → read_site s name ≡ Ok t → Adds s None (Some name) None None t
unfolding read_site
adds_site s t name = by_tests (has_event s) (leb 65536 (length s.sites)) (is_name name) (is_taken s.sites name)
  where
    by_tests : (late full good taken : Bool) → cond late (Err Late) (cond full (Err Limits) (cond good (cond taken (Err SameName) (Ok (with_site s name))) (Err Name))) ≡ Ok t → Adds s None (Some name) None None t
    by_tests true full good taken e = absurd cc
    by_tests false true good taken e = absurd cc
    by_tests false false false taken e = absurd cc
    by_tests false false true true e = absurd cc
    by_tests false false true false e =
        let same : with_site s name ≡ t = cc in
        subst (λ (u : Said). Adds s None (Some name) None None u) same
        (record { funcs = sym (append-nil s.funcs); sites = refl; root = sym (append-nil (option_to_list s.root)); events = sym (append-nil s.events) })

-- a root is set only where there was none
adds_root : (s t : Said) (n : Option ℕ) → set_root s n ≡ Ok t → Adds s None None n None t
adds_root s t None e = absurd cc
adds_root s t (Some n) e = by_tests s.root (has_event s) e
  where
    by_tests : (root : Option ℕ) (late : Bool) → cond late (Err Late) (cond (is_some root) (Err Root) (Ok (with_root s (Some n)))) ≡ Ok t → Adds (with_root s root) None None (Some n) None t
    by_tests root true e = absurd cc
    by_tests (Some m) false e = absurd cc
    by_tests None false e =
        let same : with_root s (Some n) ≡ t = cc in
        subst (λ (u : Said). Adds (with_root s None) None None (Some n) None u) same
        (record { funcs = sym (append-nil s.funcs); sites = sym (append-nil s.sites); root = refl; events = sym (append-nil s.events) })

adds_event : (s t : Said) (e : Event) → add_event s e ≡ Ok t → Adds s None None None (Some e) t
unfolding add_event
adds_event s t e = by_tests (leb 268435456 (length s.events)) (names_site (length s.sites) e) (names_func (length s.funcs) e)
  where
    by_tests : (full site func : Bool) → cond full (Err Limits) (cond site (cond func (Ok (with_event s e)) (Err Func)) (Err Site)) ≡ Ok t → Adds s None None None (Some e) t
    by_tests true site func h = absurd cc
    by_tests false false func h = absurd cc
    by_tests false true false h = absurd cc
    by_tests false true true h =
        let same : with_event s e ≡ t = cc in
        subst (λ (u : Said). Adds s None None None (Some e) u) same
        (record { funcs = sym (append-nil s.funcs); sites = sym (append-nil s.sites); root = sym (append-nil (option_to_list s.root)); events = refl })

-- ---- lines that are read word by word

adds_read : (s t : Said) (r : Option (Result Event TextWhy)) → read_event s r ≡ Ok t → Adds s None None None (good_event r) t
adds_read s t None h = absurd cc
adds_read s t (Some r) h = by_missing (opening_fault s) r h
  where
    by_missing : (missing : Option TextWhy) (r : Result Event TextWhy) → add_read s missing r ≡ Ok t → Adds s None None None (good_event (Some r)) t
    by_missing (Some why) r h = absurd cc
    by_missing None (Err why) h = absurd cc
    by_missing None (Ok e) h = adds_event s t e h

-- the word `root` is no word of an event
no_event : (word : List ℕ) (ws : List (List ℕ)) → bytes_eq word (codes "root") ≡ true → event_spelled (word ∷ ws) ≡ None
unfolding event_in
no_event word ws e =
    let is : word ≡ codes "root" = (bytes_eq-Decides word (codes "root")).0 e in
    subst (λ (w : List ℕ). event_spelled (w ∷ ws) ≡ None) (sym is) refl

no_root : (word : List ℕ) (ws : List (List ℕ)) → bytes_eq word (codes "root") ≡ false → root_in (word ∷ ws) ≡ None
no_root word [] e = refl
no_root word (n ∷ []) e = rw e refl
no_root word (n ∷ m ∷ more) e = refl

adds_root_words : (s t : Said) (word : List ℕ) (ws : List (List ℕ)) → bytes_eq word (codes "root") ≡ true → read_root s ws ≡ Ok t → Adds s None None (root_in (word ∷ ws)) None t
unfolding read_root
adds_root_words s t word [] e h = absurd cc
adds_root_words s t word (n ∷ []) e h = rw e (adds_root s t (number_in 4294967295 n) h)
adds_root_words s t word (n ∷ m ∷ more) e h = absurd cc

adds_words : (s t : Said) (ws : List (List ℕ)) → read_words s ws ≡ Ok t → Adds s None None (root_in ws) (event_spelled ws) t
adds_words s t [] h = adds_none s t cc
adds_words s t (word ∷ ws) h = by_word (bytes_eq word (codes "root")) refl h
  where
    by_word : (b : Bool) → bytes_eq word (codes "root") ≡ b → cond b (read_root s ws) (read_event s (event_in word ws)) ≡ Ok t → Adds s None None (root_in (word ∷ ws)) (event_spelled (word ∷ ws)) t
    by_word true e h = subst (λ (o : Option Event). Adds s None None (root_in (word ∷ ws)) o t) (sym (no_event word ws e)) (adds_root_words s t word ws e h)
    by_word false e h = subst (λ (o : Option ℕ). Adds s None None o (event_spelled (word ∷ ws)) t) (sym (no_root word ws e)) (adds_read s t (event_in word ws) h)

-- ---- any line

-- no line declares a function and a site
not_both : (line : List ℕ) → begins_with (codes "func ") line ≡ true → begins_with (codes "site ") line ≡ false
not_both line e =
    let is : take 5 line ≡ codes "func " = (bytes_eq-Decides (take 5 line) (codes "func ")).0 e in
    subst (λ (front : List ℕ). bytes_eq front (codes "site ") ≡ false) (sym is) refl

pub line_adds : (s t : Said) (line : List ℕ) → read_line s line ≡ Ok t → Adds s (func_on line) (site_on line) (root_on line) (event_on line) t
unfolding read_line
line_adds s t line = by_kind (begins_with (codes "func ") line) (begins_with (codes "site ") line) (begins_with (codes "#") line) (not_both line)
  where
    name : List ℕ
    name = drop 5 line

    ws : List (List ℕ)
    ws = words line

    by_kind : (func site comment : Bool) → (func ≡ true → site ≡ false)
        → cond func (read_func s name) (cond site (read_site s name) (cond comment (Ok s) (read_words s ws))) ≡ Ok t
        → Adds s (cond func (Some name) None) (cond site (Some name) None) (cond (not (func || site || comment)) (root_in ws) None) (cond (not (func || site || comment)) (event_spelled ws) None) t
    by_kind true true comment apart h = let both : true ≡ false = apart refl in absurd cc
    by_kind true false comment apart h = adds_func s t name h
    by_kind false true comment apart h = adds_site s t name h
    by_kind false false true apart h = adds_none s t cc
    by_kind false false false apart h = adds_words s t ws h
