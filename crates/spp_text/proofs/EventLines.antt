-- The line that names the root and those of events say what is there.
use Rattle.std.proofs.Common.{◌≡◌, ℕ, ◌+◌, ◌≤◌, ◌<◌, ◌^◌, Bool, true, false, cond, nat_lt, Some, None, List, [], ◌∷◌, ◌++◌, length, codes, decimal, Ok, refl, sym, ap, ◌∙◌, append_assoc, arith}
use Rattle.std.specs.List.{flat_map, AllByRecursion}
use Rattle.std.specs.Int.{is_in_range}
use Rattle.std.proofs.lemmas.Bool.{lt-ltb, lt-leb, ne_eqb}
use Rattle.std.proofs.lemmas.List.{length-append}
use Rattle.std.proofs.lemmas.List.Folds.{list_all-append}
use Rattle.spp_event.specs.declared.records.Event.{Event}
use Rattle.spp_event.specs.declared.records.Event.TheVariants.{Strand, Call, Spawn, Ret, Sync}
use Rattle.spp_event.specs.Records.{IsEventOf, names_site, names_func}
use Rattle.spp_event.specs.Checks.{is_printable}
use Rattle.spp_text.specs.Text.{event_line}
use Rattle.spp_text.specs.Reading.{Said, read_root, read_line, read_words, event_in, read_event, opening_fault, add_event, add_read}
use Rattle.spp_text.proofs.LinesInTurn.{SaysAfter, none_left, next_says}
use Rattle.spp_text.proofs.WordsAndNumbers.{decimal_printable, number_of_decimal, last_number, two_numbers}
use Rattle.spp_text.proofs.NameLines.{declared}

-- what has been said up to these events
abbrev pub opened : List (List ℕ) → List (List ℕ) → ℕ → List Event → Said
opened funcs sites root events = record { funcs = funcs; sites = sites; root = Some root; events = events }

pub root_read : (funcs sites : List (List ℕ)) (root : ℕ) → root ≤ 65536 → read_line (declared funcs sites) (codes "root " ++ decimal root) ≡ Ok (opened funcs sites root [])
unfolding read_line read_root
root_read funcs sites root le =
    ap (read_words (declared funcs sites)) (last_number (codes "root") root refl (omega arith) (omega arith))
    ∙ rw (number_of_decimal 4294967295 root (omega arith) (omega arith)) refl

-- ---- events

-- the line of an event, without its line feed
line_of : Event → List ℕ
line_of (Strand count) = codes "strand " ++ decimal count
line_of (Call site func) = codes "call " ++ (decimal site ++ 32 ∷ decimal func)
line_of (Spawn site func) = codes "spawn " ++ (decimal site ++ 32 ∷ decimal func)
line_of Ret = codes "return"
line_of Sync = codes "sync"

is_line : (e : Event) → event_line e ≡ line_of e ++ 10 ∷ []
unfolding line_of
is_line (Strand count) = refl
is_line (Call site func) = ap (λ (t : List ℕ). codes "call " ++ t) (sym (append_assoc (decimal site) (32 ∷ decimal func) (10 ∷ [])))
is_line (Spawn site func) = ap (λ (t : List ℕ). codes "spawn " ++ t) (sym (append_assoc (decimal site) (32 ∷ decimal func) (10 ∷ [])))
is_line Ret = refl
is_line Sync = refl

numbers_printable : (m n : ℕ) → m < 2 ^ 64 → n < 2 ^ 64 → is_printable (decimal m ++ 32 ∷ decimal n) ≡ true
numbers_printable m n h k = list_all-append (λ b. is_in_range 32 126 b) (decimal m) (32 ∷ decimal n) ∙ rw (decimal_printable m h, decimal_printable n k) refl

line_printable : (sites funcs : ℕ) (e : Event) → sites ≤ 65536 → funcs ≤ 65536 → IsEventOf sites funcs e → is_printable (line_of e) ≡ true
unfolding line_of
line_printable sites funcs (Strand count) p q h = decimal_printable count h
line_printable sites funcs (Call site func) p q h = let a = h.0 in let b = h.1 in numbers_printable site func (omega arith) (omega arith)
line_printable sites funcs (Spawn site func) p q h = let a = h.0 in let b = h.1 in numbers_printable site func (omega arith) (omega arith)
line_printable sites funcs Ret p q h = refl
line_printable sites funcs Sync p q h = refl

-- the line of an event is read as the event
event_read : (sites funcs : ℕ) (s : Said) (e : Event) → sites ≤ 65536 → funcs ≤ 65536 → IsEventOf sites funcs e → read_line s (line_of e) ≡ read_event s (Some (Ok e))
unfolding line_of read_line event_in
event_read sites funcs s (Strand count) p q h =
    ap (read_words s) (last_number (codes "strand") count refl (omega arith) h) ∙ rw (number_of_decimal 18446744073709551615 count h (omega arith)) refl
event_read sites funcs s (Call site func) p q h =
    let a = h.0 in let b = h.1 in
    ap (read_words s) (two_numbers (codes "call") site func refl (omega arith) (omega arith) (omega arith))
    ∙ rw (number_of_decimal 4294967295 site (omega arith) (omega arith), number_of_decimal 4294967295 func (omega arith) (omega arith)) refl
event_read sites funcs s (Spawn site func) p q h =
    let a = h.0 in let b = h.1 in
    ap (read_words s) (two_numbers (codes "spawn") site func refl (omega arith) (omega arith) (omega arith))
    ∙ rw (number_of_decimal 4294967295 site (omega arith) (omega arith), number_of_decimal 4294967295 func (omega arith) (omega arith)) refl
event_read sites funcs s Ret p q h = refl
event_read sites funcs s Sync p q h = refl

site_named : (sites funcs : ℕ) (e : Event) → IsEventOf sites funcs e → names_site sites e ≡ true
site_named sites funcs (Strand count) h = refl
site_named sites funcs (Call site func) h = lt-ltb site sites h.0
site_named sites funcs (Spawn site func) h = lt-ltb site sites h.0
site_named sites funcs Ret h = refl
site_named sites funcs Sync h = refl

func_named : (sites funcs : ℕ) (e : Event) → IsEventOf sites funcs e → names_func funcs e ≡ true
func_named sites funcs (Strand count) h = refl
func_named sites funcs (Call site func) h = lt-ltb func funcs h.1
func_named sites funcs (Spawn site func) h = lt-ltb func funcs h.1
func_named sites funcs Ret h = refl
func_named sites funcs Sync h = refl

same_both : {A : Type 0} (b : Bool) (x : A) → cond b x x ≡ x
same_both true x = refl
same_both false x = refl

pub opened_well : (funcs sites : List (List ℕ)) (root : ℕ) (events : List Event) → root < length funcs → opening_fault (opened funcs sites root events) ≡ None
unfolding opening_fault
opened_well funcs sites root events lt = rw (ne_eqb (length funcs) 0 (λ h. omega arith), lt-leb (length funcs) root lt) (same_both (nat_lt 0 (length events)) None)

event_added : (funcs sites : List (List ℕ)) (root : ℕ) (done : List Event) (e : Event) → root < length funcs → length done < 268435456 → IsEventOf (length sites) (length funcs) e
    → read_event (opened funcs sites root done) (Some (Ok e)) ≡ Ok (opened funcs sites root (done ++ e ∷ []))
unfolding add_event
event_added funcs sites root done e r lt h =
    ap (λ (o : _). add_read (opened funcs sites root done) o (Ok e)) (opened_well funcs sites root done r)
    ∙ rw (lt-leb 268435456 (length done) lt, site_named (length sites) (length funcs) e h, func_named (length sites) (length funcs) e h) refl

pub events_say : (more done : List Event) (funcs sites : List (List ℕ)) (root : ℕ) (rest : List ℕ) (u : Said)
    → root < length funcs → length funcs ≤ 65536 → length sites ≤ 65536 → AllByRecursion (IsEventOf (length sites) (length funcs)) more → length done + length more ≤ 268435456
    → SaysAfter (opened funcs sites root (done ++ more)) rest u → SaysAfter (opened funcs sites root done) (flat_map event_line more ++ rest) u
events_say [] done funcs sites root rest u r p q h le = none_left (opened funcs sites root) done rest u
events_say (e ∷ more) done funcs sites root rest u r p q h le =
    next_says event_line (opened funcs sites root) done e more (line_of e) rest u (is_line e) (line_printable (length sites) (length funcs) e q p h.0)
    (event_read (length sites) (length funcs) (opened funcs sites root done) e q p h.0 ∙ event_added funcs sites root done e r (omega arith) h.0)
    (events_say more (done ++ e ∷ []) funcs sites root rest u r p q h.1 (omega (arith, length-append done (e ∷ []))))
