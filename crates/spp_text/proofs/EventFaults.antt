-- A line of an event, or of no word that a line may begin with, is refused with the fault that it has; and the end.
use Rattle.std.proofs.Common.{◌≡◌, ◌≢◌, ◌⊎◌, ℕ, zero, suc, ◌<◌, Bool, true, false, cond, eqb, leb, Option, Some, None, List, [], ◌∷◌, length, get_or, codes, Result, Ok, Err, refl, sym, ap, subst, ◌∙◌, inl, inr, arith}
use Rattle.std.specs.Prelude.{Contains, map, unwrap_or}
use Rattle.std.specs.Str.{bytes_eq}
use Rattle.std.proofs.lemmas.Bool.{leb-true, leb-false, lt-leb, le-leb, eqb-true, eqb-false, eq-eqb, ne_eqb}
use Rattle.std.proofs.lemmas.Slice.Eq.{bytes_eq-Decides}
use Rattle.spp_event.specs.declared.records.Event.{Event}
use Rattle.spp_event.specs.declared.records.Event.TheVariants.{Strand, Call, Spawn, Ret, Sync}
use Rattle.spp_event.specs.Records.{names_site, names_func}
use Rattle.spp_text.specs.declared.fault.TextWhy.{TextWhy}
use Rattle.spp_text.specs.declared.fault.TextWhy.TheVariants.{Word, Count, Number, Name, SameName, Limits, Late, Root, NoFunc, Site, Func, Memory}
use Rattle.spp_text.specs.Reading.{Said, has_event, number_in, strand_of, opened_of, strand_words, open_words, lone_words, event_in, opening_fault, add_event, add_read, read_event}
use Rattle.spp_text.specs.LineFaults.{IsOpened, IsOpeningFault, numbers, IsEventWord, AreWordsOf, IsEventFault}
use Rattle.spp_text.specs.Laws.{EndFaultIsTold}
use Rattle.spp_text.proofs.LineAdds.{with_event}
use Rattle.spp_text.proofs.NameFaults.{is_false, nothing_in, event_came, no_event_came, with_event_there, with_no_event, one_word}

-- ---- what is missing before the first event

end_fault : (s : Said) (why : TextWhy) → opening_fault s ≡ Some why → IsOpeningFault s why
unfolding opening_fault
end_fault s why = by_tests (has_event s) refl (eqb (length s.funcs) 0) refl (leb (length s.funcs) (unwrap_or s.root 0)) refl
  where
    by_tests : (some : Bool) → has_event s ≡ some → (none : Bool) → eqb (length s.funcs) 0 ≡ none → (past : Bool) → leb (length s.funcs) (unwrap_or s.root 0) ≡ past
        → cond some None (cond none (Some NoFunc) (cond past (Some Root) None)) ≡ Some why → IsOpeningFault s why
    by_tests true a none b past c h = absurd cc
    by_tests false a true b past c h =
        let same : NoFunc ≡ why = cc in
        let zero_long = eqb-true (length s.funcs) 0 b in
        subst (λ (w : TextWhy). IsOpeningFault s w) same (no_event_came s a, nothing_in s.funcs (omega arith))
    by_tests false a false b true c h =
        let same : Root ≡ why = cc in
        subst (λ (w : TextWhy). IsOpeningFault s w) same (no_event_came s a, (λ e. eqb-false (length s.funcs) 0 b (ap (λ (l : List (List ℕ)). length l) e)), leb-true (length s.funcs) (unwrap_or s.root 0) c)
    by_tests false a false b false c h = absurd cc

end_refused : (s : Said) (why : TextWhy) → IsOpeningFault s why → opening_fault s ≡ Some why
unfolding opening_fault
end_refused s NoFunc h = rw (with_no_event s h.0, eq-eqb (length s.funcs) 0 (ap (λ (l : List (List ℕ)). length l) h.1)) refl
end_refused s Root h = rw (with_no_event s h.0, ne_eqb (length s.funcs) 0 (λ e. h.1 (nothing_in s.funcs (omega arith))), le-leb (length s.funcs) (unwrap_or s.root 0) h.2) refl
end_refused s Word h = absurd h
end_refused s Count h = absurd h
end_refused s Number h = absurd h
end_refused s Name h = absurd h
end_refused s SameName h = absurd h
end_refused s Limits h = absurd h
end_refused s Late h = absurd h
end_refused s Site h = absurd h
end_refused s Func h = absurd h
end_refused s Memory h = absurd h

pub end_fault_is_told : EndFaultIsTold
end_fault_is_told s why = (end_fault s why, end_refused s why)

nothing_missing : (s : Said) → opening_fault s ≡ None → IsOpened s
unfolding opening_fault
nothing_missing s = by_tests (has_event s) refl (eqb (length s.funcs) 0) refl (leb (length s.funcs) (unwrap_or s.root 0)) refl
  where
    by_tests : (some : Bool) → has_event s ≡ some → (none : Bool) → eqb (length s.funcs) 0 ≡ none → (past : Bool) → leb (length s.funcs) (unwrap_or s.root 0) ≡ past
        → cond some None (cond none (Some NoFunc) (cond past (Some Root) None)) ≡ None → IsOpened s
    by_tests true a none b past c h = inl (event_came s a)
    by_tests false a true b past c h = absurd cc
    by_tests false a false b true c h = absurd cc
    by_tests false a false b false c h = inr (leb-false (length s.funcs) (unwrap_or s.root 0) c)

either_none : {A : Type 0} (b : Bool) (x : A) → cond b x x ≡ x
either_none true x = refl
either_none false x = refl

opened_again : (s : Said) → IsOpened s → opening_fault s ≡ None
unfolding opening_fault
opened_again s (inl h) = rw (with_event_there s h) refl
opened_again s (inr lt) = rw (ne_eqb (length s.funcs) 0 (λ e. omega arith), lt-leb (length s.funcs) (unwrap_or s.root 0) lt) (either_none (has_event s) None)

-- ---- the words of events

-- what the answer says of the words
abbrev IsReadAs : List ℕ → List (List ℕ) → Option (Result Event TextWhy) → Type 0
IsReadAs word ws None = (count most : ℕ) → IsEventWord word count most → ⊥
IsReadAs word ws (Some (Ok e)) = AreWordsOf e word ws
IsReadAs word ws (Some (Err Count)) = (count : ℕ) × (most : ℕ) × IsEventWord word count most × (length ws ≢ count)
IsReadAs word ws (Some (Err Number)) = (count : ℕ) × (most : ℕ) × IsEventWord word count most × (length ws ≡ count) × Contains (numbers most ws) None
IsReadAs word ws (Some (Err _)) = ⊥

first_none : (x : Option ℕ) (xs : List (Option ℕ)) → x ≡ None → Contains (x ∷ xs) None
first_none x xs e = (0, omega arith, e)

second_none : (x y : Option ℕ) → y ≡ None → Contains (x ∷ y ∷ []) None
second_none x y e = (1, omega arith, e)

strand_read : (word : List ℕ) (ws : List (List ℕ)) → word ≡ codes "strand" → IsReadAs word ws (Some (strand_words ws))
strand_read word [] is = (1, 18446744073709551615, inl (is, refl, refl), λ e. absurd (omega arith))
strand_read word (n ∷ []) is = by_number (number_in 18446744073709551615 n) refl
  where
    by_number : (o : Option ℕ) → number_in 18446744073709551615 n ≡ o → IsReadAs word (n ∷ []) (Some (strand_of o))
    by_number (Some k) e = (is, ap (λ (o : Option ℕ). o ∷ []) e)
    by_number None e = (1, 18446744073709551615, inl (is, refl, refl), refl, first_none (number_in 18446744073709551615 n) [] e)
strand_read word (n ∷ m ∷ more) is = (1, 18446744073709551615, inl (is, refl, refl), λ e. absurd (omega arith))

-- the words of a call or a spawn
opened_read : (event : ℕ → ℕ → Event) (word : List ℕ) (ws : List (List ℕ)) → IsEventWord word 2 4294967295
    → ((site func : ℕ) → numbers 4294967295 ws ≡ Some site ∷ Some func ∷ [] → AreWordsOf (event site func) word ws) → IsReadAs word ws (Some (open_words event ws))
opened_read event word [] is good = (2, 4294967295, is, λ e. absurd (omega arith))
opened_read event word (a ∷ []) is good = (2, 4294967295, is, λ e. absurd (omega arith))
opened_read event word (a ∷ b ∷ []) is good = by_numbers (number_in 4294967295 a) refl (number_in 4294967295 b) refl
  where
    by_numbers : (x : Option ℕ) → number_in 4294967295 a ≡ x → (y : Option ℕ) → number_in 4294967295 b ≡ y → IsReadAs word (a ∷ b ∷ []) (Some (opened_of event x y))
    by_numbers (Some site) e (Some func) f = good site func (ap (λ (o : Option ℕ). o ∷ number_in 4294967295 b ∷ []) e ∙ ap (λ (o : Option ℕ). Some site ∷ o ∷ []) f)
    by_numbers None e y f = (2, 4294967295, is, refl, first_none (number_in 4294967295 a) (number_in 4294967295 b ∷ []) e)
    by_numbers (Some site) e None f = (2, 4294967295, is, refl, second_none (number_in 4294967295 a) (number_in 4294967295 b) f)
opened_read event word (a ∷ b ∷ c ∷ more) is good = (2, 4294967295, is, λ e. absurd (omega arith))

lone_read : (e : Event) (word : List ℕ) (ws : List (List ℕ)) → IsEventWord word 0 0 → (ws ≡ [] → AreWordsOf e word ws) → IsReadAs word ws (Some (lone_words e ws))
lone_read e word [] is good = good refl
lone_read e word (w ∷ more) is good = (0, 0, is, λ f. absurd (omega arith))

is_not : (word w : List ℕ) → bytes_eq word w ≡ false → word ≡ w → ⊥
is_not word w e same = let both : true ≡ false = sym ((bytes_eq-Decides word w).1 same) ∙ e in absurd cc

read_as : (word : List ℕ) (ws : List (List ℕ)) → IsReadAs word ws (event_in word ws)
unfolding event_in
read_as word ws = by_word (bytes_eq word (codes "strand")) refl (bytes_eq word (codes "call")) refl (bytes_eq word (codes "spawn")) refl (bytes_eq word (codes "return")) refl (bytes_eq word (codes "sync")) refl
  where
    by_word : (a : Bool) → bytes_eq word (codes "strand") ≡ a → (b : Bool) → bytes_eq word (codes "call") ≡ b → (c : Bool) → bytes_eq word (codes "spawn") ≡ c → (d : Bool) → bytes_eq word (codes "return") ≡ d → (e : Bool) → bytes_eq word (codes "sync") ≡ e
        → IsReadAs word ws (cond a (Some (strand_words ws)) (cond b (Some (open_words Call ws)) (cond c (Some (open_words Spawn ws)) (cond d (Some (lone_words Ret ws)) (cond e (Some (lone_words Sync ws)) None)))))
    by_word true is b f c g d h e i = strand_read word ws ((bytes_eq-Decides word (codes "strand")).0 is)
    by_word false n true is c g d h e i =
        let word_is = (bytes_eq-Decides word (codes "call")).0 is in
        opened_read Call word ws (inr (inl (word_is, refl, refl))) (λ site func numbers_are. (word_is, numbers_are))
    by_word false n false m true is d h e i =
        let word_is = (bytes_eq-Decides word (codes "spawn")).0 is in
        opened_read Spawn word ws (inr (inr (inl (word_is, refl, refl)))) (λ site func numbers_are. (word_is, numbers_are))
    by_word false n false m false l true is e i =
        let word_is = (bytes_eq-Decides word (codes "return")).0 is in
        lone_read Ret word ws (inr (inr (inr (inl (word_is, refl, refl))))) (λ none. (word_is, none))
    by_word false n false m false l false k true is =
        let word_is = (bytes_eq-Decides word (codes "sync")).0 is in
        lone_read Sync word ws (inr (inr (inr (inr (word_is, refl, refl))))) (λ none. (word_is, none))
    by_word false n false m false l false k false j = λ count most is. none_of is
      where
        none_of : {count most : ℕ} → IsEventWord word count most → ⊥
        none_of (inl h) = is_not word (codes "strand") n h.0
        none_of (inr (inl h)) = is_not word (codes "call") m h.0
        none_of (inr (inr (inl h))) = is_not word (codes "spawn") l h.0
        none_of (inr (inr (inr (inl h)))) = is_not word (codes "return") k h.0
        none_of (inr (inr (inr (inr h)))) = is_not word (codes "sync") j h.0

-- ---- and back

two_words : {Y : Type 0} (f : List ℕ → Y) (others : List (List ℕ)) (x y : Y) → map f others ≡ x ∷ y ∷ [] → (v : List ℕ) × (w : List ℕ) × (others ≡ v ∷ w ∷ []) × (f v ≡ x) × (f w ≡ y)
two_words f [] x y e = absurd cc
two_words f (v ∷ []) x y e = absurd cc
two_words f (v ∷ w ∷ []) x y e = (v, w, refl, cc, cc)
two_words f (v ∷ w ∷ u ∷ more) x y e = absurd cc

opened_told : (event : ℕ → ℕ → Event) (ws : List (List ℕ)) (site func : ℕ) → numbers 4294967295 ws ≡ Some site ∷ Some func ∷ [] → open_words event ws ≡ Ok (event site func)
opened_told event ws site func h =
    let a = two_words (number_in 4294967295) ws (Some site) (Some func) h in
    ap (open_words event) a.2 ∙ ap (λ (o : Option ℕ). opened_of event o (number_in 4294967295 a.1)) a.3 ∙ ap (opened_of event (Some site)) a.4

event_told : (e : Event) (word : List ℕ) (ws : List (List ℕ)) → AreWordsOf e word ws → event_in word ws ≡ Some (Ok e)
unfolding event_in
event_told (Strand count) word ws h =
    let a = one_word (number_in 18446744073709551615) ws (Some count) h.1 in
    ap (λ (w : List ℕ). event_in w ws) h.0 ∙ ap (λ (l : List (List ℕ)). Some (strand_words l)) a.1 ∙ ap (λ (o : Option ℕ). Some (strand_of o)) a.2
event_told (Call site func) word ws h = ap (λ (w : List ℕ). event_in w ws) h.0 ∙ ap (λ (r : Result Event TextWhy). Some r) (opened_told Call ws site func h.1)
event_told (Spawn site func) word ws h = ap (λ (w : List ℕ). event_in w ws) h.0 ∙ ap (λ (r : Result Event TextWhy). Some r) (opened_told Spawn ws site func h.1)
event_told Ret word ws h = ap (λ (w : List ℕ). event_in w ws) h.0 ∙ ap (λ (l : List (List ℕ)). Some (lone_words Ret l)) h.1
event_told Sync word ws h = ap (λ (w : List ℕ). event_in w ws) h.0 ∙ ap (λ (l : List (List ℕ)). Some (lone_words Sync l)) h.1

-- what is read behind the first word of an event
behind : (word : List ℕ) (count most : ℕ) (ws : List (List ℕ)) → IsEventWord word count most → Result Event TextWhy
behind word count most ws (inl h) = strand_words ws
behind word count most ws (inr (inl h)) = open_words Call ws
behind word count most ws (inr (inr (inl h))) = open_words Spawn ws
behind word count most ws (inr (inr (inr (inl h)))) = lone_words Ret ws
behind word count most ws (inr (inr (inr (inr h)))) = lone_words Sync ws

is_behind : (word : List ℕ) (count most : ℕ) (ws : List (List ℕ)) → (is : IsEventWord word count most) → event_in word ws ≡ Some (behind word count most ws is)
unfolding event_in behind
is_behind word count most ws (inl h) = ap (λ (w : List ℕ). event_in w ws) h.0
is_behind word count most ws (inr (inl h)) = ap (λ (w : List ℕ). event_in w ws) h.0
is_behind word count most ws (inr (inr (inl h))) = ap (λ (w : List ℕ). event_in w ws) h.0
is_behind word count most ws (inr (inr (inr (inl h)))) = ap (λ (w : List ℕ). event_in w ws) h.0
is_behind word count most ws (inr (inr (inr (inr h)))) = ap (λ (w : List ℕ). event_in w ws) h.0

strand_count : (ws : List (List ℕ)) → length ws ≢ 1 → strand_words ws ≡ Err Count
strand_count [] n = refl
strand_count (a ∷ []) n = absurd (n refl)
strand_count (a ∷ b ∷ more) n = refl

opened_count : (event : ℕ → ℕ → Event) (ws : List (List ℕ)) → length ws ≢ 2 → open_words event ws ≡ Err Count
opened_count event [] n = refl
opened_count event (a ∷ []) n = refl
opened_count event (a ∷ b ∷ []) n = absurd (n refl)
opened_count event (a ∷ b ∷ c ∷ more) n = refl

lone_count : (e : Event) (ws : List (List ℕ)) → length ws ≢ 0 → lone_words e ws ≡ Err Count
lone_count e [] n = absurd (n refl)
lone_count e (a ∷ more) n = refl

count_behind : (word : List ℕ) (count most : ℕ) (ws : List (List ℕ)) → (is : IsEventWord word count most) → length ws ≢ count → behind word count most ws is ≡ Err Count
unfolding behind
count_behind word count most ws (inl h) n = strand_count ws (λ e. n (e ∙ sym h.1))
count_behind word count most ws (inr (inl h)) n = opened_count Call ws (λ e. n (e ∙ sym h.1))
count_behind word count most ws (inr (inr (inl h))) n = opened_count Spawn ws (λ e. n (e ∙ sym h.1))
count_behind word count most ws (inr (inr (inr (inl h)))) n = lone_count Ret ws (λ e. n (e ∙ sym h.1))
count_behind word count most ws (inr (inr (inr (inr h)))) n = lone_count Sync ws (λ e. n (e ∙ sym h.1))

only_at : (x : Option ℕ) (k : ℕ) → k < 1 → get_or (x ∷ []) k None ≡ None → x ≡ None
only_at x zero lt e = e
only_at x (suc k) lt e = absurd (omega arith)

one_at : (x y : Option ℕ) (k : ℕ) → k < 2 → get_or (x ∷ y ∷ []) k None ≡ None → (x ≡ None) ⊎ (y ≡ None)
one_at x y zero lt e = inl e
one_at x y (suc zero) lt e = inr e
one_at x y (suc (suc k)) lt e = absurd (omega arith)

strand_number : (ws : List (List ℕ)) → length ws ≡ 1 → Contains (numbers 18446744073709551615 ws) None → strand_words ws ≡ Err Number
strand_number [] n c = absurd (omega arith)
strand_number (a ∷ []) n c = ap strand_of (only_at (number_in 18446744073709551615 a) c.0 c.1 c.2)
strand_number (a ∷ b ∷ more) n c = absurd (omega arith)

no_func : (event : ℕ → ℕ → Event) (x : Option ℕ) → opened_of event x None ≡ Err Number
no_func event None = refl
no_func event (Some site) = refl

opened_number : (event : ℕ → ℕ → Event) (ws : List (List ℕ)) → length ws ≡ 2 → Contains (numbers 4294967295 ws) None → open_words event ws ≡ Err Number
opened_number event [] n c = absurd (omega arith)
opened_number event (a ∷ []) n c = absurd (omega arith)
opened_number event (a ∷ b ∷ []) n c = by_which (one_at (number_in 4294967295 a) (number_in 4294967295 b) c.0 c.1 c.2)
  where
    by_which : (number_in 4294967295 a ≡ None) ⊎ (number_in 4294967295 b ≡ None) → opened_of event (number_in 4294967295 a) (number_in 4294967295 b) ≡ Err Number
    by_which (inl e) = ap (λ (o : Option ℕ). opened_of event o (number_in 4294967295 b)) e
    by_which (inr e) = ap (opened_of event (number_in 4294967295 a)) e ∙ no_func event (number_in 4294967295 a)
opened_number event (a ∷ b ∷ d ∷ more) n c = absurd (omega arith)

lone_number : {Y : Type 0} (most : ℕ) (ws : List (List ℕ)) → length ws ≡ 0 → Contains (numbers most ws) None → Y
lone_number most [] n c = let lt = c.1 in absurd (omega arith)
lone_number most (a ∷ more) n c = absurd (omega arith)

number_behind : (word : List ℕ) (count most : ℕ) (ws : List (List ℕ)) → (is : IsEventWord word count most) → length ws ≡ count → Contains (numbers most ws) None → behind word count most ws is ≡ Err Number
unfolding behind
number_behind word count most ws (inl h) n c = strand_number ws (n ∙ h.1) (subst (λ (m : ℕ). Contains (numbers m ws) None) h.2 c)
number_behind word count most ws (inr (inl h)) n c = opened_number Call ws (n ∙ h.1) (subst (λ (m : ℕ). Contains (numbers m ws) None) h.2 c)
number_behind word count most ws (inr (inr (inl h))) n c = opened_number Spawn ws (n ∙ h.1) (subst (λ (m : ℕ). Contains (numbers m ws) None) h.2 c)
number_behind word count most ws (inr (inr (inr (inl h)))) n c = lone_number most ws (n ∙ h.1) c
number_behind word count most ws (inr (inr (inr (inr h)))) n c = lone_number most ws (n ∙ h.1) c

other_word : (word w : List ℕ) → (word ≡ w → ⊥) → bytes_eq word w ≡ false
other_word word w n = is_false (bytes_eq word w) (λ e. n ((bytes_eq-Decides word w).0 e))

no_event_told : (word : List ℕ) (ws : List (List ℕ)) → ((count most : ℕ) → IsEventWord word count most → ⊥) → event_in word ws ≡ None
unfolding event_in
no_event_told word ws n = rw (
  other_word word (codes "strand") (λ e. n 1 18446744073709551615 (inl (e, refl, refl))),
  other_word word (codes "call") (λ e. n 2 4294967295 (inr (inl (e, refl, refl)))),
  other_word word (codes "spawn") (λ e. n 2 4294967295 (inr (inr (inl (e, refl, refl))))),
  other_word word (codes "return") (λ e. n 0 0 (inr (inr (inr (inl (e, refl, refl)))))),
  other_word word (codes "sync") (λ e. n 0 0 (inr (inr (inr (inr (e, refl, refl)))))),
) refl

-- ---- the line of an event

-- the first word of an event's words
known_word : (word : List ℕ) (ws : List (List ℕ)) (r : Result Event TextWhy) → IsReadAs word ws (Some r) → (count : ℕ) × (most : ℕ) × IsEventWord word count most
known_word word ws (Ok (Strand count)) h = (1, 18446744073709551615, inl (h.0, refl, refl))
known_word word ws (Ok (Call site func)) h = (2, 4294967295, inr (inl (h.0, refl, refl)))
known_word word ws (Ok (Spawn site func)) h = (2, 4294967295, inr (inr (inl (h.0, refl, refl))))
known_word word ws (Ok Ret) h = (0, 0, inr (inr (inr (inl (h.0, refl, refl)))))
known_word word ws (Ok Sync) h = (0, 0, inr (inr (inr (inr (h.0, refl, refl)))))
known_word word ws (Err Count) h = (h.0, h.1, h.2)
known_word word ws (Err Number) h = (h.0, h.1, h.2)
known_word word ws (Err Word) h = absurd h
known_word word ws (Err Name) h = absurd h
known_word word ws (Err SameName) h = absurd h
known_word word ws (Err Limits) h = absurd h
known_word word ws (Err Late) h = absurd h
known_word word ws (Err Root) h = absurd h
known_word word ws (Err NoFunc) h = absurd h
known_word word ws (Err Site) h = absurd h
known_word word ws (Err Func) h = absurd h
known_word word ws (Err Memory) h = absurd h

missing_fault : (s : Said) (word : List ℕ) (ws : List (List ℕ)) (why : TextWhy) → (count : ℕ) × (most : ℕ) × IsEventWord word count most → IsOpeningFault s why → IsEventFault s word ws why
missing_fault s word ws NoFunc k h = (k.0, k.1, k.2, h)
missing_fault s word ws Root k h = (k.0, k.1, k.2, h)
missing_fault s word ws Word k h = absurd h
missing_fault s word ws Count k h = absurd h
missing_fault s word ws Number k h = absurd h
missing_fault s word ws Name k h = absurd h
missing_fault s word ws SameName k h = absurd h
missing_fault s word ws Limits k h = absurd h
missing_fault s word ws Late k h = absurd h
missing_fault s word ws Site k h = absurd h
missing_fault s word ws Func k h = absurd h
missing_fault s word ws Memory k h = absurd h

bad_words : (s : Said) (word : List ℕ) (ws : List (List ℕ)) (why : TextWhy) → IsReadAs word ws (Some (Err why)) → IsOpened s → IsEventFault s word ws why
bad_words s word ws Count h o = (h.0, h.1, h.2, o, h.3)
bad_words s word ws Number h o = (h.0, h.1, h.2, o, h.3, h.4)
bad_words s word ws Word h o = absurd h
bad_words s word ws Name h o = absurd h
bad_words s word ws SameName h o = absurd h
bad_words s word ws Limits h o = absurd h
bad_words s word ws Late h o = absurd h
bad_words s word ws Root h o = absurd h
bad_words s word ws NoFunc h o = absurd h
bad_words s word ws Site h o = absurd h
bad_words s word ws Func h o = absurd h
bad_words s word ws Memory h o = absurd h

bad_event : (s : Said) (word : List ℕ) (ws : List (List ℕ)) (e : Event) (why : TextWhy) → AreWordsOf e word ws → IsOpened s → add_event s e ≡ Err why → IsEventFault s word ws why
unfolding add_event
bad_event s word ws e why is o = by_tests (leb 268435456 (length s.events)) refl (names_site (length s.sites) e) refl (names_func (length s.funcs) e) refl
  where
    by_tests : (full : Bool) → leb 268435456 (length s.events) ≡ full → (site : Bool) → names_site (length s.sites) e ≡ site → (func : Bool) → names_func (length s.funcs) e ≡ func
        → cond full (Err Limits) (cond site (cond func (Ok (with_event s e)) (Err Func)) (Err Site)) ≡ Err why → IsEventFault s word ws why
    by_tests true a site b func c h =
        let same : Limits ≡ why = cc in
        subst (λ (w : TextWhy). IsEventFault s word ws w) same (e, is, o, leb-true 268435456 (length s.events) a)
    by_tests false a false b func c h =
        let same : Site ≡ why = cc in
        subst (λ (w : TextWhy). IsEventFault s word ws w) same (e, is, o, leb-false 268435456 (length s.events) a, b)
    by_tests false a true b false c h =
        let same : Func ≡ why = cc in
        subst (λ (w : TextWhy). IsEventFault s word ws w) same (e, is, o, leb-false 268435456 (length s.events) a, b, c)
    by_tests false a true b true c h = absurd cc

pub event_fault : (s : Said) (word : List ℕ) (ws : List (List ℕ)) (why : TextWhy) → read_event s (event_in word ws) ≡ Err why → IsEventFault s word ws why
event_fault s word ws why = by_read (event_in word ws) (read_as word ws)
  where
    by_missing : (missing : Option TextWhy) → opening_fault s ≡ missing → (r : Result Event TextWhy) → IsReadAs word ws (Some r) → add_read s missing r ≡ Err why → IsEventFault s word ws why
    by_missing (Some w) e r a h =
        let same : w ≡ why = cc in
        subst (λ (y : TextWhy). IsEventFault s word ws y) same (missing_fault s word ws w (known_word word ws r a) (end_fault s w e))
    by_missing None e (Err w) a h =
        let same : w ≡ why = cc in
        subst (λ (y : TextWhy). IsEventFault s word ws y) same (bad_words s word ws w a (nothing_missing s e))
    by_missing None e (Ok event) a h = bad_event s word ws event why a (nothing_missing s e) h

    by_read : (o : Option (Result Event TextWhy)) → IsReadAs word ws o → read_event s o ≡ Err why → IsEventFault s word ws why
    by_read None a h =
        let same : Word ≡ why = cc in
        subst (λ (y : TextWhy). IsEventFault s word ws y) same a
    by_read (Some r) a h = by_missing (opening_fault s) refl r a h

-- ---- and back

read_missing : (s : Said) (word : List ℕ) (ws : List (List ℕ)) (why : TextWhy) → (count : ℕ) × (most : ℕ) × IsEventWord word count most → IsOpeningFault s why → read_event s (event_in word ws) ≡ Err why
read_missing s word ws why k h =
    ap (read_event s) (is_behind word k.0 k.1 ws k.2) ∙ ap (λ (m : Option TextWhy). add_read s m (behind word k.0 k.1 ws k.2)) (end_refused s why h)

read_bad : (s : Said) (word : List ℕ) (ws : List (List ℕ)) (why : TextWhy) (count most : ℕ) → (is : IsEventWord word count most) → IsOpened s → behind word count most ws is ≡ Err why → read_event s (event_in word ws) ≡ Err why
read_bad s word ws why count most is o e =
    ap (read_event s) (is_behind word count most ws is)
    ∙ ap (λ (m : Option TextWhy). add_read s m (behind word count most ws is)) (opened_again s o)
    ∙ ap (add_read s None) e

read_good : (s : Said) (word : List ℕ) (ws : List (List ℕ)) (e : Event) → AreWordsOf e word ws → IsOpened s → read_event s (event_in word ws) ≡ add_event s e
read_good s word ws e is o =
    ap (read_event s) (event_told e word ws is)
    ∙ ap (λ (m : Option TextWhy). add_read s m (Ok e)) (opened_again s o)

pub event_refused : (s : Said) (word : List ℕ) (ws : List (List ℕ)) (why : TextWhy) → IsEventFault s word ws why → read_event s (event_in word ws) ≡ Err why
unfolding add_event
event_refused s word ws Word h = ap (read_event s) (no_event_told word ws h)
event_refused s word ws NoFunc h = read_missing s word ws NoFunc (h.0, h.1, h.2) h.3
event_refused s word ws Root h = read_missing s word ws Root (h.0, h.1, h.2) h.3
event_refused s word ws Count h = read_bad s word ws Count h.0 h.1 h.2 h.3 (count_behind word h.0 h.1 ws h.2 h.4)
event_refused s word ws Number h = read_bad s word ws Number h.0 h.1 h.2 h.3 (number_behind word h.0 h.1 ws h.2 h.4 h.5)
event_refused s word ws Limits h = read_good s word ws h.0 h.1 h.2 ∙ rw (le-leb 268435456 (length s.events) h.3) refl
event_refused s word ws Site h = read_good s word ws h.0 h.1 h.2 ∙ rw (lt-leb 268435456 (length s.events) h.3, h.4) refl
event_refused s word ws Func h = read_good s word ws h.0 h.1 h.2 ∙ rw (lt-leb 268435456 (length s.events) h.3, h.4, h.5) refl
event_refused s word ws Name h = absurd h
event_refused s word ws SameName h = absurd h
event_refused s word ws Late h = absurd h
event_refused s word ws Memory h = absurd h
