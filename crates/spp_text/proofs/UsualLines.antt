-- The lines of events, as they stand at the front of a text.
use Rattle.std.proofs.Common.{◌≡◌, ℕ, ◌≤◌, Bool, true, false, ◌||◌, nat_eq, nat_le, Some, List, [], ◌∷◌, ◌++◌, codes, Ok, refl, sym, ap, ◌∙◌, append_assoc, arith}
use Rattle.std.specs.Int.{is_in_range}
use Rattle.std.specs.List.{list_all}
use Rattle.std.proofs.lemmas.Bool.{and_parts, and_from}
use Rattle.std.proofs.lemmas.List.Folds.{list_all-append}
use Rattle.spp_event.specs.declared.records.Event.{Event}
use Rattle.spp_event.specs.declared.records.Event.TheVariants.{Strand, Call, Spawn, Ret, Sync}
use Rattle.spp_event.specs.Records.{IsEvent}
use Rattle.spp_event.specs.Checks.{is_printable}
use Rattle.spp_text.specs.Reading.{Said, number_in, words, read_words, read_event, event_in}
use Rattle.spp_text.specs.LineKinds.{is_in_words}
use Rattle.spp_text.specs.Usual.{AreDigitsOf, IsLineEnd, IsNumberLine, AreNumbersLine, is_plain, IsEventFront}
use Rattle.spp_text.proofs.WordsAndNumbers.{digits_printable, number_of_digits, last_digits, two_of_digits}

or_true : (b : Bool) → b || true ≡ true
or_true true = refl
or_true false = refl

-- printable bytes are plain
printable_plain : (bs : List ℕ) → is_printable bs ≡ true → list_all is_plain bs ≡ true
printable_plain [] e = refl
printable_plain (b ∷ bs) e =
    let p = and_parts (is_in_range 32 126 b) (is_printable bs) e in
    let low = and_parts (nat_le 32 b) (nat_le b 126) p.0 in
    and_from (is_plain b) (list_all is_plain bs) (rw low.0 (or_true (nat_eq b 9))) (printable_plain bs p.1)

-- a printable line of words that stands at the front, and is read as the event
is_event_front : (text line end rest : List ℕ) (event : Event) → text ≡ line ++ end → IsLineEnd end rest → is_printable line ≡ true → is_in_words line ≡ true
    → ((s : Said) → read_words s (words line) ≡ read_event s (Some (Ok event))) → IsEvent event → IsEventFront text event rest
is_event_front text line end rest event is ends p other read fits = record {
  line = line;
  end = end;
  parts = is;
  ends = ends;
  plain = printable_plain line p;
  in_words = other;
  read = read;
  fits = fits;
}

number_is : (most n : ℕ) (digits : List ℕ) → AreDigitsOf digits n → n ≤ most → number_in most digits ≡ Some n
number_is most n digits d le = number_of_digits most digits d.each d.some (omega (arith, d.value)) ∙ ap (λ (m : ℕ). Some m) d.value

strand_read : (s : Said) (digits : List ℕ) (count : ℕ) → AreDigitsOf digits count → read_words s (words (codes "strand " ++ digits)) ≡ read_event s (Some (Ok (Strand count)))
unfolding event_in
strand_read s digits count d =
    let fits = d.fits in
    ap (read_words s) (last_digits (codes "strand") digits refl (omega arith) d.each d.some)
    ∙ rw (number_is 18446744073709551615 count digits d (omega arith)) refl

pub strand_line : (text after rest : List ℕ) (count : ℕ) → text ≡ codes "strand " ++ after → IsNumberLine after count rest → IsEventFront text (Strand count) rest
strand_line text after rest count is n =
    let end = n.0 in
    let digits = n.1.0 in
    is_event_front text (codes "strand " ++ digits) end rest (Strand count)
    (is ∙ ap (λ (t : List ℕ). codes "strand " ++ t) n.1.2 ∙ sym (append_assoc (codes "strand ") digits end))
    n.2
    (digits_printable digits n.1.1.each)
    refl
    (λ s. strand_read s digits count n.1.1)
    n.1.1.fits

-- the words behind the first of a line that opens a frame
operands_printable : (first second : List ℕ) (m n : ℕ) → AreDigitsOf first m → AreDigitsOf second n → is_printable (first ++ 32 ∷ second) ≡ true
operands_printable first second m n d e = list_all-append (λ b. is_in_range 32 126 b) first (32 ∷ second) ∙ rw (digits_printable first d.each, digits_printable second e.each) refl

-- what follows the first word of such a line
operands_split : (front text after others end first second : List ℕ) → text ≡ front ++ after → after ≡ first ++ 32 ∷ others → others ≡ second ++ end → text ≡ (front ++ (first ++ 32 ∷ second)) ++ end
operands_split front text after others end first second a b c =
    a
    ∙ ap (λ (t : List ℕ). front ++ t) (b ∙ ap (λ (t : List ℕ). first ++ 32 ∷ t) c ∙ sym (append_assoc first (32 ∷ second) end))
    ∙ sym (append_assoc front (first ++ 32 ∷ second) end)

call_read : (s : Said) (first second : List ℕ) (site func : ℕ) → AreDigitsOf first site → AreDigitsOf second func → site ≤ 4294967295 → func ≤ 4294967295
    → read_words s (words (codes "call " ++ (first ++ 32 ∷ second))) ≡ read_event s (Some (Ok (Call site func)))
unfolding event_in
call_read s first second site func d e p q =
    ap (read_words s) (two_of_digits (codes "call") first second refl (omega arith) d.each d.some e.each e.some)
    ∙ rw (number_is 4294967295 site first d p, number_is 4294967295 func second e q) refl

spawn_read : (s : Said) (first second : List ℕ) (site func : ℕ) → AreDigitsOf first site → AreDigitsOf second func → site ≤ 4294967295 → func ≤ 4294967295
    → read_words s (words (codes "spawn " ++ (first ++ 32 ∷ second))) ≡ read_event s (Some (Ok (Spawn site func)))
unfolding event_in
spawn_read s first second site func d e p q =
    ap (read_words s) (two_of_digits (codes "spawn") first second refl (omega arith) d.each d.some e.each e.some)
    ∙ rw (number_is 4294967295 site first d p, number_is 4294967295 func second e q) refl

pub call_line : (text after rest : List ℕ) (site func : ℕ) → text ≡ codes "call " ++ after → AreNumbersLine after site func rest → IsEventFront text (Call site func) rest
call_line text after rest site func is n =
    let first = n.first.0 in
    let end = n.second.0 in
    let second = n.second.1.0 in
    let p = n.few in
    let q = n.less in
    is_event_front text (codes "call " ++ (first ++ 32 ∷ second)) end rest (Call site func)
    (operands_split (codes "call ") text after n.others end first second is n.first.2 n.second.1.2)
    n.second.2
    (operands_printable first second site func n.first.1 n.second.1.1)
    refl
    (λ s. call_read s first second site func n.first.1 n.second.1.1 p q)
    (omega arith, omega arith)

pub spawn_line : (text after rest : List ℕ) (site func : ℕ) → text ≡ codes "spawn " ++ after → AreNumbersLine after site func rest → IsEventFront text (Spawn site func) rest
spawn_line text after rest site func is n =
    let first = n.first.0 in
    let end = n.second.0 in
    let second = n.second.1.0 in
    let p = n.few in
    let q = n.less in
    is_event_front text (codes "spawn " ++ (first ++ 32 ∷ second)) end rest (Spawn site func)
    (operands_split (codes "spawn ") text after n.others end first second is n.first.2 n.second.1.2)
    n.second.2
    (operands_printable first second site func n.first.1 n.second.1.1)
    refl
    (λ s. spawn_read s first second site func n.first.1 n.second.1.1 p q)
    (omega arith, omega arith)

ret_read : (s : Said) → read_words s (words (codes "return")) ≡ read_event s (Some (Ok Ret))
unfolding event_in
ret_read s = refl

sync_read : (s : Said) → read_words s (words (codes "sync")) ≡ read_event s (Some (Ok Sync))
unfolding event_in
sync_read s = refl

pub ret_line : (text end rest : List ℕ) → text ≡ codes "return" ++ end → IsLineEnd end rest → IsEventFront text Ret rest
ret_line text end rest is ends = is_event_front text (codes "return") end rest Ret is ends refl refl ret_read tt

pub sync_line : (text end rest : List ℕ) → text ≡ codes "sync" ++ end → IsLineEnd end rest → IsEventFront text Sync rest
sync_line text end rest is ends = is_event_front text (codes "sync") end rest Sync is ends refl refl sync_read tt
