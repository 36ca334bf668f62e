-- Reading line by line.
use Rattle.std.proofs.Common.{◌≡◌, ◌≢◌, ◌⊎◌, inl, inr, ℕ, zero, suc, ◌+◌, ◌≤◌, min, Option, Result, Ok, Err, List, [], ◌∷◌, ◌++◌, length, take, drop, refl, sym, ap, subst, ◌∙◌, append_assoc, append-nil, arith}
use Rattle.std.specs.Str.Lines.{lines}
use Rattle.std.proofs.Math.Seq.{take-append_seam, drop-append_seam}
use Rattle.std.proofs.lemmas.List.{take-append-drop, length-append, length-drop, length-take-le}
use Rattle.spp_text.specs.declared.fault.TextFault.{TextFault}
use Rattle.spp_text.specs.declared.fault.TextWhy.{TextWhy}
use Rattle.spp_text.specs.declared.fault.TextWhy.TheVariants.{Word, Count, Number, Name, SameName, Limits, Late, Root, NoFunc, Site, Func, Memory}
use Rattle.spp_text.specs.Reading.{Said, nothing, read_line, read_lines, read_text, go_on, at_end, opening_fault}
use Rattle.spp_text.specs.declared.text_draft.TextDraft.{TextDraft}
use Rattle.spp_text.specs.TextDrafts.{AreWholeLines, IsDraftOf, IsFirstFault}
use Rattle.spp_text.proofs.LinesApart.{lines_apart}
use Rattle.spp_text.specs.Parsed.{IsWhy, IsTextFault, SaysSoFar, IsLineReached}

-- what was told where it isn't want of memory
pub why_is : {T : Type 0} (why : TextWhy) (read : Result T TextWhy) → IsWhy why read → why ≢ Memory → read ≡ Err why
why_is Word read h n = h
why_is Count read h n = h
why_is Number read h n = h
why_is Name read h n = h
why_is SameName read h n = h
why_is Limits read h n = h
why_is Late read h n = h
why_is Root read h n = h
why_is NoFunc read h n = h
why_is Site read h n = h
why_is Func read h n = h
why_is Memory read h n = absurd (n refl)

-- what stands at the front of the lines that are left
left_within : (ls more : List (List ℕ)) (n : ℕ) (line : List ℕ) → drop n ls ≡ line ∷ more → suc n ≤ length ls
left_within [] more zero line e = absurd cc
left_within [] more (suc n) line e = absurd cc
left_within (l ∷ ls) more zero line e = omega arith
left_within (l ∷ ls) more (suc n) line e = let rest = left_within ls more n line e in omega arith

left_then : (ls more : List (List ℕ)) (n : ℕ) (line : List ℕ) → drop n ls ≡ line ∷ more → drop (suc n) ls ≡ more
left_then [] more zero line e = absurd cc
left_then [] more (suc n) line e = absurd cc
left_then (l ∷ ls) more zero line e = cc
left_then (l ∷ ls) more (suc n) line e = left_then ls more n line e

-- one line more is read without a fault
so_far_more : (ls more : List (List ℕ)) (n : ℕ) (s t u : Said) (line : List ℕ) → drop n ls ≡ line ∷ more → SaysSoFar s (take n ls) t → read_line t line ≡ Ok u → SaysSoFar s (take (suc n) ls) u
so_far_more [] more zero s t u line is h e = absurd cc
so_far_more [] more (suc n) s t u line is h e = absurd cc
so_far_more (l ∷ ls) more zero s t u line is same e =
    let here : l ≡ line = cc in
    (u, ap (λ (v : Said). read_line v l) same ∙ ap (read_line t) here ∙ e, refl)
so_far_more (l ∷ ls) more (suc n) s t u line is h e = (h.0, h.1, so_far_more ls more n h.0 t u line is h.2 e)

-- lines of the text are read without a fault, then s has been said, the next line has that number, and the lines of what
-- is left are to come
pub record IsReadTo (text left : List ℕ) (number : ℕ) (s : Said) : Type 0 where
  pub count : ℕ
  pub within : count ≤ length (lines text)
  pub rest : drop count (lines text) ≡ lines left
  pub counted : number ≡ min (suc count) 4294967295
  pub so_far : SaysSoFar nothing (take count (lines text)) s
  pub read : read_lines s (suc count) (lines left) ≡ read_text text

pub read_to_start : (text : List ℕ) → IsReadTo text text 1 nothing
read_to_start text = record { count = 0; within = omega arith; rest = refl; counted = refl; so_far = refl; read = refl }

pub read_to_next : (text left others : List ℕ) (number next : ℕ) (s t : Said) (line : List ℕ) → IsReadTo text left number s → lines left ≡ line ∷ lines others → read_line s line ≡ Ok t → next ≡ min (number + 1) 4294967295 → IsReadTo text others next t
read_to_next text left others number next s t line r first e up = record {
  count = suc r.count;
  within = left_within (lines text) (lines others) r.count line (r.rest ∙ first);
  rest = left_then (lines text) (lines others) r.count line (r.rest ∙ first);
  counted = omega (arith, r.counted, up);
  so_far = so_far_more (lines text) (lines others) r.count nothing s t line (r.rest ∙ first) r.so_far e;
  read = sym (ap (read_lines s (suc r.count)) first ∙ ap (λ (a : Result Said TextWhy). go_on (suc r.count) a (λ u. read_lines u (suc (suc r.count)) (lines others))) e) ∙ r.read;
}

-- the first lines are read, and then the others
read_after : (s t : Said) (ls more : List (List ℕ)) (n : ℕ) → SaysSoFar s ls t → read_lines s n (ls ++ more) ≡ read_lines t (n + length ls) more
read_after s t [] more n same =
    let at : n ≡ n + 0 = omega arith in
    ap (λ (u : Said). read_lines u n more) same ∙ ap (λ (k : ℕ). read_lines t k more) at
read_after s t (l ∷ ls) more n h =
    let at : suc n + length ls ≡ n + length (l ∷ ls) = omega arith in
    ap (λ (a : Result Said TextWhy). go_on n a (λ u. read_lines u (suc n) (ls ++ more))) h.1
    ∙ read_after h.0 t ls more (suc n) h.2
    ∙ ap (λ (k : ℕ). read_lines t k more) at

-- the lines of a text that ends a line or isn't followed by anything
lines_with : (text more : List ℕ) → AreWholeLines text ⊎ (more ≡ []) → lines (text ++ more) ≡ lines text ++ lines more
lines_with text more (inl ends) = lines_apart text more ends
lines_with text more (inr none) = rw none (ap lines (append-nil text) ∙ sym (append-nil (lines text)))

-- the first fault is told, whatever follows the line that has it
pub read_to_fault : (text left others : List ℕ) (number : ℕ) (s : Said) (line : List ℕ) (why : TextWhy) → IsReadTo text left number s → lines left ≡ line ∷ lines others → read_line s line ≡ Err why
    → (more : List ℕ) → AreWholeLines text ⊎ (more ≡ []) → read_text (text ++ more) ≡ Err (record { line = number; why = why })
read_to_fault text left others number s line why r first e more ends =
    let ls = lines text in
    let read = take r.count ls in
    let parts : ls ≡ read ++ (line ∷ lines others) = sym (take-append-drop r.count ls) ∙ ap (λ (l : List (List ℕ)). read ++ l) (r.rest ∙ first) in
    let at : suc r.count ≡ 1 + length read = omega (arith, length-take-le r.count ls r.within) in
    ap (read_lines nothing 1) (lines_with text more ends ∙ ap (λ (l : List (List ℕ)). l ++ lines more) parts ∙ append_assoc read (line ∷ lines others) (lines more))
    ∙ read_after nothing s read ((line ∷ lines others) ++ lines more) 1 r.so_far
    ∙ ap (λ (k : ℕ). read_lines s k ((line ∷ lines others) ++ lines more)) (sym at)
    ∙ ap (λ (a : Result Said TextWhy). go_on (suc r.count) a (λ u. read_lines u (suc (suc r.count)) (lines others ++ lines more))) e
    ∙ ap (λ (n : ℕ). Err (record { line = n; why = why })) (sym r.counted)

pub read_to_end : (text : List ℕ) (number : ℕ) (s : Said) → (r : IsReadTo text [] number s) → (missing : Option TextWhy) → opening_fault s ≡ missing → read_text text ≡ at_end s (suc r.count) missing
read_to_end text number s r missing e = sym r.read ∙ ap (at_end s (suc r.count)) e

pub line_reached : (text left : List ℕ) (number : ℕ) (s : Said) → IsReadTo text left number s → IsLineReached text number
line_reached text left number s r = (r.count, s, r.within, r.so_far, r.counted)

-- nothing follows the text
pub fault_of_whole : (text : List ℕ) (fault : TextFault) → IsFirstFault text fault → IsTextFault text fault
fault_of_whole text fault first known = ap read_text (sym (append-nil text)) ∙ first known [] (inr refl)

-- ---- lines that came before

-- the lines of what follows are still to come
pub read_from : (come : TextDraft) (before text : List ℕ) → IsDraftOf come before → AreWholeLines before → IsReadTo (before ++ text) text come.number come.draft
read_from come before text h ends =
    let apart = lines_apart before text ends in
    let at : 1 + length (lines before) ≡ suc (length (lines before)) = omega arith in
    record {
      count = length (lines before);
      within = rw apart (omega (arith, length-append (lines before) (lines text)));
      rest = rw apart (drop-append_seam (lines before) (lines text));
      counted = h.next;
      so_far = rw (apart, take-append_seam (lines before) (lines text)) h.said;
      read = sym (ap (read_lines nothing 1) apart ∙ read_after nothing come.draft (lines before) (lines text) 1 h.said ∙ ap (λ (n : ℕ). read_lines come.draft n (lines text)) at);
    }

-- all have come
pub all_come : (come : TextDraft) (text left : List ℕ) → IsReadTo text left come.number come.draft → left ≡ [] → IsDraftOf come text
all_come come text left r none =
    let ls = lines text in
    let end : drop r.count ls ≡ [] = r.rest ∙ ap lines none in
    let all : take r.count ls ≡ ls = sym (append-nil (take r.count ls)) ∙ ap (λ (l : List (List ℕ)). take r.count ls ++ l) (sym end) ∙ take-append-drop r.count ls in
    let count : r.count ≡ length ls = omega (arith, r.within, ap length end, length-drop r.count ls) in
    record {
      said = subst (λ (l : List (List ℕ)). SaysSoFar nothing l come.draft) all r.so_far;
      next = r.counted ∙ ap (λ (n : ℕ). min (suc n) 4294967295) count;
    }

-- and no more is to come
pub read_to_all : (come : TextDraft) (text : List ℕ) → IsDraftOf come text → IsReadTo text [] come.number come.draft
read_to_all come text h =
    let ls = lines text in
    let at : 1 + length ls ≡ suc (length ls) = omega arith in
    record {
      count = length ls;
      within = omega arith;
      rest = drop_all ls;
      counted = h.next;
      so_far = subst (λ (l : List (List ℕ)). SaysSoFar nothing l come.draft) (sym (take_all ls)) h.said;
      read = sym (ap (read_lines nothing 1) (sym (append-nil ls)) ∙ read_after nothing come.draft ls [] 1 h.said ∙ ap (λ (n : ℕ). read_lines come.draft n []) at);
    }
  where
    drop_all : (ls : List (List ℕ)) → drop (length ls) ls ≡ []
    drop_all [] = refl
    drop_all (l ∷ ls) = drop_all ls

    take_all : (ls : List (List ℕ)) → take (length ls) ls ≡ ls
    take_all [] = refl
    take_all (l ∷ ls) = ap (λ (t : List (List ℕ)). l ∷ t) (take_all ls)
