-- A text that comes in parts, each but the last of whole lines: where it isn't UTF-8, and on which line that is.
use Rattle.std.proofs.Common.{◌≡◌, ◌⊎◌, ◌+◌, ◌-◌, ◌≤◌, ◌<◌, ℕ, List, [], ◌∷◌, ◌++◌, length, take, drop, get_or, min, cond, sym, ap, subst, ◌∙◌, append_assoc, append-nil, arith, inl, inr}
use Rattle.std.specs.Prelude.{IsUtf8, count_by}
use Rattle.std.specs.Str.{IsValidUpTo, IsCharBoundary}
use Rattle.std.proofs.Math.Seq.{take-append_seam, take-append-add, drop-append_seam, get_or-append_seam}
use Rattle.std.proofs.lemmas.Bool.{cases_lt}
use Rattle.std.proofs.lemmas.List.{length-append, take-append-le, take-append-drop, take-take, get_or-append-add, get_or_append_left}
use Rattle.std.proofs.lemmas.List.Sums.{sum_by-append}
use Rattle.std.proofs.lemmas.Str.{IsUtf8-append, IsUtf8-take, IsUtf8-drop, IsCharBoundary-from_take, IsCharBoundary-after_ascii}
use Rattle.spp_text.specs.TextDrafts.{AreWholeLines}
use Rattle.spp_text.proofs.LinesInTurn.{is_feed}
use Rattle.spp_shell.specs.Encode.{end_line}

-- the last byte of bytes, where they end a line behind others
last_is_feed : (before bytes : List ℕ) → AreWholeLines (before ++ bytes) → 0 < length bytes → get_or bytes (length bytes - 1) 0 ≡ 10
last_is_feed before bytes (inl none) some = absurd (omega (arith, ap length none, length-append before bytes, some))
last_is_feed before bytes (inr (front, is)) some =
    let at : length before + (length bytes - 1) ≡ length front = omega (arith, ap length is, length-append before bytes, length-append front (10 ∷ []), some) in
    sym (get_or-append-add before bytes (length bytes - 1) 0)
    ∙ ap (λ (k : ℕ). get_or (before ++ bytes) k 0) at
    ∙ ap (λ (l : List ℕ). get_or l (length front) 0) is
    ∙ get_or-append_seam front 10 [] 0

-- no longer front of bytes is UTF-8, whatever follows them where they end a line
not_longer : (bytes more : List ℕ) (n k : ℕ) → IsValidUpTo bytes n → n < k → (get_or bytes (length bytes - 1) 0 ≡ 10) ⊎ (more ≡ []) → ¬ (IsUtf8 (take k (bytes ++ more)))
not_longer bytes more n k v lt (inr none) good =
    v.longest k lt (subst (λ (l : List ℕ). IsUtf8 (take k l)) (ap (λ (l : List ℕ). bytes ++ l) none ∙ append-nil bytes) good)
not_longer bytes more n k v lt (inl feed) good = elim (cases_lt (length bytes) k) [
  | inl past ↦
      let w = take k (bytes ++ more) in
      let short = v.short in
      let at : k ≡ length bytes + (k - length bytes) = omega (arith, past) in
      let parts : w ≡ bytes ++ take (k - length bytes) more = ap (λ (j : ℕ). take j (bytes ++ more)) at ∙ take-append-add bytes more (k - length bytes) in
      let long : length w ≡ length bytes + length (take (k - length bytes) more) = ap length parts ∙ length-append bytes (take (k - length bytes) more) in
      let last : get_or w (length bytes - 1) 0 ≡ 10 = ap (λ (l : List ℕ). get_or l (length bytes - 1) 0) parts ∙ get_or_append_left bytes (take (k - length bytes) more) 0 (length bytes - 1) (omega (arith, short)) ∙ feed in
      let end : (length bytes - 1) + 1 ≡ length bytes = omega (arith, short) in
      let cut : IsCharBoundary w (length bytes) = subst (IsCharBoundary w) end (IsCharBoundary-after_ascii w (length bytes - 1) good (omega (arith, long, short)) (omega (arith, last))) in
      let same : take (length bytes) w ≡ take (length bytes) bytes = ap (take (length bytes)) parts ∙ take-append-le (length bytes) bytes (take (k - length bytes) more) (omega arith) in
      v.longest (length bytes) short (subst IsUtf8 same (IsUtf8-take w (length bytes) good cut))
  | inr within ↦ v.longest k lt (subst IsUtf8 (take-append-le k bytes more (omega (arith, within))) good)
]

-- what comes first of all
pub front_of : (before bytes more : List ℕ) (n : ℕ) → n ≤ length bytes → take (length before + n) ((before ++ bytes) ++ more) ≡ before ++ take n bytes
front_of before bytes more n le =
    ap (take (length before + n)) (append_assoc before bytes more)
    ∙ take-append-add before (bytes ++ more) n
    ∙ ap (λ (l : List ℕ). before ++ l) (take-append-le n bytes more le)

-- where the first bytes that aren't UTF-8 stand in all
pub valid_behind : (before bytes more : List ℕ) (n : ℕ) → IsUtf8 before → IsValidUpTo bytes n → AreWholeLines (before ++ bytes) ⊎ (more ≡ []) → IsValidUpTo ((before ++ bytes) ++ more) (length before + n)
valid_behind before bytes more n utf8 v ends =
    let all = append_assoc before bytes more in
    let within = v.short in
    record {
      short = omega (arith, within, length-append (before ++ bytes) more, length-append before bytes);
      front = subst IsUtf8 (sym (front_of before bytes more n (omega (arith, within)))) (IsUtf8-append before (take n bytes) utf8 v.front);
      longest = λ m lt good.
          let k = m - length before in
          let at : m ≡ length before + k = omega (arith, lt) in
          let rest = take k (bytes ++ more) in
          let parts : take m ((before ++ bytes) ++ more) ≡ before ++ rest = ap (λ (l : List ℕ). take m l) all ∙ ap (λ (j : ℕ). take j (before ++ (bytes ++ more))) at ∙ take-append-add before (bytes ++ more) k in
          let z = before ++ rest in
          let whole : IsUtf8 z = subst IsUtf8 parts good in
          let cut = IsCharBoundary-from_take z (length before) whole (omega (arith, length-append before rest)) (subst IsUtf8 (sym (take-append_seam before rest)) utf8) in
          not_longer bytes more n k v (omega (arith, lt, at)) (last ends) (subst IsUtf8 (drop-append_seam before rest) (IsUtf8-drop z (length before) whole cut));
    }
  where
    last : AreWholeLines (before ++ bytes) ⊎ (more ≡ []) → (get_or bytes (length bytes - 1) 0 ≡ 10) ⊎ (more ≡ [])
    last (inl ends) = inl (last_is_feed before bytes ends (let short = v.short in omega (arith, short)))
    last (inr none) = inr none

-- the line that a text ends on, whose last bytes are these
pub line_behind : (before bytes : List ℕ) (number : ℕ) → number ≡ min (end_line before) 4294967295 → min (number + count_by is_feed bytes) 4294967295 ≡ min (end_line (before ++ bytes)) 4294967295
line_behind before bytes number is =
    let more : end_line (before ++ bytes) ≡ end_line before + count_by is_feed bytes = let e = sum_by-append (λ b. cond (is_feed b) 1 0) before bytes in omega (arith, e) in
    omega (arith, is, more)

-- what came behind the text, cut in two
pub cut_behind : (before came more : List ℕ) (n : ℕ) → (before ++ take n came) ++ (drop n came ++ more) ≡ (before ++ came) ++ more
cut_behind before came more n =
    append_assoc before (take n came) (drop n came ++ more)
    ∙ ap (λ (l : List ℕ). before ++ l) (sym (append_assoc (take n came) (drop n came) more) ∙ ap (λ (l : List ℕ). l ++ more) (take-append-drop n came))
    ∙ sym (append_assoc before came more)

-- the first part was read, and the rest moved to the front
pub moved_behind : (before old new : List ℕ) (filled left : ℕ) → left ≤ filled → take left new ≡ drop (filled - left) (take filled old) → before ++ take filled old ≡ (before ++ take (filled - left) old) ++ take left new
moved_behind before old new filled left le kept =
    let n = filled - left in
    ap (λ (l : List ℕ). before ++ l) (sym (take-append-drop n (take filled old)) ∙ ap (λ (l : List ℕ). l ++ drop n (take filled old)) (take-take n filled old (omega arith)))
    ∙ sym (append_assoc before (take n old) (drop n (take filled old)))
    ∙ ap (λ (l : List ℕ). (before ++ take n old) ++ l) (sym kept)
