-- The part of a rising list that lies in a range.
use Rattle.std.proofs.Common.{◌≡◌, ℕ, ◌+◌, ◌-◌, ◌≤◌, ◌<◌, arith, sym, ◌∙◌, ap, subst, inl, inr, List, length, take, drop, get_or, slice_index_or}
use Rattle.std.specs.Prelude.{Contains}
use Rattle.std.proofs.lemmas.Bool.{cases_lt}
use Rattle.std.proofs.lemmas.List.{take-append-drop, get_or-take, get_or-drop, length-take-le, length-drop, get_or_default}
use Rattle.spp_event.specs.declared.records.Event.{Event}
use Rattle.spp_maxplus.specs.declared.state.Burdens.{Burdens}
use Rattle.spp_dag.specs.ChoiceLists.{AreRising, IsWithin}
use Rattle.spp_path.specs.Entered.{IsEntered, AreEnteredIn}
use Rattle.spp_path.proofs.Rising.{rises, rising_left, rising_right}

-- so many lie below a number
pub record IsCut (xs : List ℕ) (n a : ℕ) : Type 0 where
  pub most : n ≤ length xs
  pub lower : (i : ℕ) → i < n → slice_index_or xs i 0 < a
  pub upper : n < length xs → a ≤ slice_index_or xs n 0

pub cut_entered : (es : List Event) (bd : Burdens) (xs : List ℕ) (n m a b : ℕ) → n ≤ m → b ≤ length es → IsCut xs n a → IsCut xs m b → AreEnteredIn es bd 0 (length es) xs → AreEnteredIn es bd a b (take (m - n) (drop n xs))
cut_entered es bd xs n m a b l most c d h = record {
  rise = rising_left (take (m - n) (drop n xs)) (drop (m - n) (drop n xs)) (subst AreRising (sym (take-append-drop (m - n) (drop n xs)))
      (rising_right (take n xs) (drop n xs) (subst AreRising (sym (take-append-drop n xs)) h.rise)));
  are = λ s. (forth s, back s);
}
  where
    rows : length (take (m - n) (drop n xs)) ≡ m - n
    rows = let z = c.most in let y = d.most in let w = length-drop n xs in length-take-le (m - n) (drop n xs) (omega arith)

    at : (k s : ℕ) → k < m - n → get_or (take (m - n) (drop n xs)) k s ≡ get_or xs (n + k) s
    at k s o = get_or-take (m - n) (drop n xs) k s o ∙ get_or-drop n xs k s

    same : (i s : ℕ) → i < length xs → get_or xs i s ≡ get_or xs i 0
    same i s o = get_or_default xs i s 0 o

    forth : (s : ℕ) → Contains (take (m - n) (drop n xs)) s → IsEntered es bd s × IsWithin a b s
    forth s (k, o, e) =
        let r = rows in
        let y = d.most in
        let o2 : k < m - n = omega arith in
        let is : get_or xs (n + k) s ≡ s = sym (at k s o2) ∙ e in
        let w = same (n + k) s (omega arith) in
        let low : a ≤ get_or xs n 0 = c.upper (omega arith) in
        let high : get_or xs (n + k) 0 < b = d.lower (n + k) (omega arith) in
        let up : get_or xs n 0 ≤ get_or xs (n + k) 0 = elim (cases_lt 0 k) [
          | inl z ↦ (let v = rises xs n (n + k) h.rise (omega arith) (omega arith) in omega arith)
          | inr z ↦ (let q : get_or xs n 0 ≡ get_or xs (n + k) 0 = ap (λ j. get_or xs j 0) (let v : n ≡ n + k = omega arith in v) in omega arith)
        ] in
        let in_all = (h.are s).0 (n + k, (let z : n + k < length xs = omega arith in z), is) in
        (in_all.0, ((let z : a ≤ s = omega (arith, is) in z), (let z : s < b = omega (arith, is) in z)))

    back : (s : ℕ) → IsEntered es bd s × IsWithin a b s → Contains (take (m - n) (drop n xs)) s
    back s (is, (low, high)) =
        let all = (h.are s).1 (is, ((let z : 0 ≤ s = omega arith in z), (let z : s < length es = omega arith in z))) in
        let i = all.0 in
        let inside : i < length xs = all.1 in
        let v : get_or xs i s ≡ s = all.2 in
        let w = same i s inside in
        let from : n ≤ i = elim (cases_lt i n) [ inl z ↦ absurd (let u = c.lower i z in omega (arith, v)) | inr z ↦ z ] in
        let to : i < m = elim (cases_lt i m) [
          | inl z ↦ z
          | inr z ↦ absurd (
              let u : b ≤ get_or xs m 0 = d.upper (omega arith) in
              let up : get_or xs m 0 ≤ get_or xs i 0 = elim (cases_lt m i) [
                | inl y ↦ (let t = rises xs m i h.rise y inside in omega arith)
                | inr y ↦ (let q : get_or xs m 0 ≡ get_or xs i 0 = ap (λ j. get_or xs j 0) (let t : m ≡ i = omega arith in t) in omega arith)
              ] in
              omega (arith, v))
        ] in
        let r = rows in
        let k : i - n < m - n = omega arith in
        (i - n, (let z : i - n < length (take (m - n) (drop n xs)) = omega arith in z), at (i - n) s k ∙ ap (λ j. get_or xs j s) (let t : n + (i - n) ≡ i = omega arith in t) ∙ v)
