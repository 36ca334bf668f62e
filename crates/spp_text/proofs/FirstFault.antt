-- The fault of a text is that of its least line that has one, or of its end.
use Rattle.std.proofs.Common.{◌≡◌, ℕ, zero, suc, ◌+◌, min, Option, Some, None, List, [], ◌∷◌, take, Result, Ok, Err, refl, sym, ap, ◌∙◌, inl, inr, arith}
use Rattle.std.specs.Str.Lines.{lines}
use Rattle.spp_text.specs.declared.fault.TextWhy.{TextWhy}
use Rattle.spp_text.specs.declared.fault.TextFault.{TextFault}
use Rattle.spp_text.specs.Reading.{Said, nothing, read_line, fault_at, at_end, go_on, read_lines, opening_fault}
use Rattle.spp_text.specs.Parsed.{SaysSoFar}
use Rattle.spp_text.specs.Laws.{FaultIsNext, FaultIsOnItsLine}

-- reading these lines, of which the first has that number, has that fault after n of them
abbrev FaultAfter : Said → ℕ → List (List ℕ) → TextFault → Type 0
FaultAfter s number ls fault = (n : ℕ) × (t : Said) × SaysSoFar s (take n ls) t × FaultIsNext ls n t fault.why × (fault.line ≡ min (number + n) 4294967295)

-- the same with one line more at the front
one_earlier : (l : List ℕ) (ls : List (List ℕ)) (n : ℕ) (t : Said) (why : TextWhy) → FaultIsNext ls n t why → FaultIsNext (l ∷ ls) (suc n) t why
one_earlier l ls n t why (inl h) = let lt = h.0 in inl (omega arith, h.1)
one_earlier l ls n t why (inr h) = let e = h.0 in inr (omega arith, h.1)

-- the same without the line at the front
one_later : (l : List ℕ) (ls : List (List ℕ)) (n : ℕ) (t : Said) (why : TextWhy) → FaultIsNext (l ∷ ls) (suc n) t why → FaultIsNext ls n t why
one_later l ls n t why (inl h) = let lt = h.0 in inl (omega arith, h.1)
one_later l ls n t why (inr h) = let e = h.0 in inr (omega arith, h.1)

-- the number counted from one line later is the same
same_number : (number n k : ℕ) → k ≡ min (suc number + n) 4294967295 → k ≡ min (number + suc n) 4294967295
same_number number n k e = let sum : suc number + n ≡ number + suc n = omega arith in e ∙ ap (λ (m : ℕ). min m 4294967295) sum

-- lines that are read with a fault stop so
fault_found : (ls : List (List ℕ)) (s : Said) (number : ℕ) (fault : TextFault) → read_lines s number ls ≡ Err fault → FaultAfter s number ls fault
fault_found [] s number fault h = by_missing (opening_fault s) refl h
  where
    by_missing : (missing : Option TextWhy) → opening_fault s ≡ missing → at_end s number missing ≡ Err fault → FaultAfter s number [] fault
    by_missing None e h = absurd cc
    by_missing (Some why) e h =
        let same : fault ≡ fault_at number why = cc in
        (0, s, refl, inr (refl, e ∙ ap (λ (f : TextFault). Some f.why) (sym same)), ap (λ (f : TextFault). f.line) same ∙ ap (λ (m : ℕ). min m 4294967295) (omega arith))
fault_found (l ∷ ls) s number fault h = by_line (read_line s l) refl (λ u. fault_found ls u (suc number) fault) h
  where
    by_line : (r : Result Said TextWhy) → read_line s l ≡ r → ((u : Said) → read_lines u (suc number) ls ≡ Err fault → FaultAfter u (suc number) ls fault) → go_on number r (λ u. read_lines u (suc number) ls) ≡ Err fault → FaultAfter s number (l ∷ ls) fault
    by_line (Err why) e more h =
        let same : fault ≡ fault_at number why = cc in
        (0, s, refl, inl (omega arith, e ∙ ap (λ (f : TextFault). Err f.why) (sym same)), ap (λ (f : TextFault). f.line) same ∙ ap (λ (m : ℕ). min m 4294967295) (omega arith))
    by_line (Ok u) e more h =
        let found = more u h in
        (suc found.0, found.1, (u, e, found.2), one_earlier l ls found.0 found.1 fault.why found.3, same_number number found.0 fault.line found.4)

-- a fault by its parts
fault_is : (fault : TextFault) (number : ℕ) → fault.line ≡ min (number + 0) 4294967295 → fault_at number fault.why ≡ fault
fault_is fault number h =
    let same : number + 0 ≡ number = omega arith in
    ap (λ (n : ℕ). record { line = n; why = fault.why }) (sym (h ∙ ap (λ (m : ℕ). min m 4294967295) same))

-- lines that stop so are read with that fault
fault_told : (ls : List (List ℕ)) (n : ℕ) (s t : Said) (number : ℕ) (fault : TextFault)
    → SaysSoFar s (take n ls) t → FaultIsNext ls n t fault.why → fault.line ≡ min (number + n) 4294967295 → read_lines s number ls ≡ Err fault
fault_told [] zero s t number fault same (inl h) line = let lt = h.0 in absurd (omega arith)
fault_told [] zero s t number fault same (inr h) line =
    ap (at_end s number) (ap opening_fault same ∙ h.1) ∙ ap (λ (f : TextFault). Err f) (fault_is fault number line)
fault_told [] (suc n) s t number fault so_far (inl h) line = let lt = h.0 in absurd (omega arith)
fault_told [] (suc n) s t number fault so_far (inr h) line = let e = h.0 in absurd (omega arith)
fault_told (l ∷ ls) zero s t number fault same (inl h) line =
    ap (λ (r : _). go_on number r (λ u. read_lines u (suc number) ls)) (ap (λ (u : Said). read_line u l) same ∙ h.1) ∙ ap (λ (f : TextFault). Err f) (fault_is fault number line)
fault_told (l ∷ ls) zero s t number fault same (inr h) line = let e = h.0 in absurd (omega arith)
fault_told (l ∷ ls) (suc n) s t number fault so_far next line =
    let number_is : min (number + suc n) 4294967295 ≡ min (suc number + n) 4294967295 = sym (same_number number n (min (suc number + n) 4294967295) refl) in
    ap (λ (r : _). go_on number r (λ u. read_lines u (suc number) ls)) so_far.1
    ∙ fault_told ls n so_far.0 t (suc number) fault so_far.2 (one_later l ls n t fault.why next) (line ∙ number_is)

pub fault_is_on_its_line : FaultIsOnItsLine
fault_is_on_its_line text fault =
    let one_more : (n : ℕ) → min (1 + n) 4294967295 ≡ min (suc n) 4294967295 = λ n. let sum : 1 + n ≡ suc n = omega arith in ap (λ (m : ℕ). min m 4294967295) sum in (
      λ h. let found = fault_found (lines text) nothing 1 fault h in (found.0, found.1, found.2, found.3, found.4 ∙ one_more found.0),
      λ a. fault_told (lines text) a.0 nothing a.1 1 fault a.2 a.3 (a.4 ∙ sym (one_more a.0)),
    )
