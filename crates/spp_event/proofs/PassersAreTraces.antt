-- What passes the checks is a trace.
use Rattle.std.proofs.Common.{◌≡◌, ℕ, ◌+◌, ◌≤◌, ◌<◌, true, not, ltb, leb, ◌&&◌, List, [], ◌++◌, length, take, drop, Ok, refl, sym, ap, subst, ◌∙◌, arith}
use Rattle.std.specs.List.{flat_map, AllByRecursion}
use Rattle.std.specs.Str.{bytes_eq}
use Rattle.std.proofs.lemmas.Bool.{ltb-true, ltb-false, leb-true, leb-false, and_parts, not-false}
use Rattle.std.proofs.lemmas.List.{take-append-drop, length-take, length-drop, drop-drop}
use Rattle.std.proofs.lemmas.Nat.{be_bytes_4}
use Rattle.std.proofs.lemmas.Slice.Eq.{bytes_eq-Decides}
use Rattle.spp_event.specs.declared.header.HeaderFault.TheVariants.{Short, Magic, Limits, RootFunc, Trailing}
use Rattle.spp_event.specs.Records.{word, word_at}
use Rattle.spp_event.specs.Recordings.{Recording, records_of, room, filled}
use Rattle.spp_event.specs.Header.{magic, version_in, name_spelling, header_spelling, IsName, IsTraceOf}
use Rattle.spp_event.specs.Checks.{trace_by, are_limits, funcs_at, sites_at, trace_at}
use Rattle.spp_event.proofs.RecordPlaces.{length-records_of}
use Rattle.spp_event.proofs.TakenFromFront.{IsBytes, IsBytes-drop, IsBytes-take, bind_ok, guard_ok, ok_is, Takes, Takes-then, funcs_take, sites_take}

word_takes : (k j : ℕ) (bytes : List ℕ) → k + 4 ≡ j → j ≤ length bytes → IsBytes bytes → Takes (drop k bytes) (word (word_at bytes k)) (drop j bytes)
word_takes k j bytes e le fits =
    let front : word (word_at bytes k) ≡ take 4 (drop k bytes) = be_bytes_4 (take 4 (drop k bytes)) (word_at bytes k) (omega (arith, length-take 4 (drop k bytes), length-drop k bytes)) (IsBytes-take 4 (drop k bytes) (IsBytes-drop k bytes fits)) refl in
    let after : drop 4 (drop k bytes) ≡ drop j bytes = drop-drop 4 k bytes ∙ ap (λ (i : ℕ). drop i bytes) e in
    record { parts = sym (take-append-drop 4 (drop k bytes)) ∙ ap (λ (l : List ℕ). l ++ drop 4 (drop k bytes)) (sym front) ∙ ap (λ (l : List ℕ). word (word_at bytes k) ++ l) after; rest_fits = IsBytes-drop j bytes fits }

pub record Limit (f s n : ℕ) : Type 0 where
  pub some : 1 ≤ f
  pub funcs : f ≤ 65536
  pub sites : s ≤ 65536
  pub events : n ≤ 268435456

pub limited : (f s n : ℕ) → are_limits f s n ≡ true → Limit f s n
limited f s n e =
    let a = and_parts (ltb 0 f && leb f 65536 && leb s 65536) (leb n 268435456) e in
    let b = and_parts (ltb 0 f && leb f 65536) (leb s 65536) a.0 in
    let c = and_parts (ltb 0 f) (leb f 65536) b.0 in
    let p = ltb-true 0 f c.0 in
    record { some = omega arith; funcs = leb-true f 65536 c.1; sites = leb-true s 65536 b.1; events = leb-true n 268435456 a.1 }

-- the parts of a header, as they are taken one after the other
abbrev parts : ℕ → ℕ → ℕ → Recording → List ℕ
parts f s n t = magic t.version ++ (word f ++ (word s ++ (word t.root ++ (word n ++ (flat_map name_spelling t.funcs ++ flat_map name_spelling t.sites)))))

spelled_of : (t : Recording) (bytes body : List ℕ) (f s n : ℕ) → length t.funcs ≡ f → length t.sites ≡ s → length t.records ≡ n → bytes ≡ parts f s n t ++ body → bytes ≡ header_spelling t ++ body
spelled_of t bytes body f s n p q r e =
    subst (λ (k : ℕ). bytes ≡ parts (length t.funcs) (length t.sites) k t ++ body) (sym r)
    (subst (λ (k : ℕ). bytes ≡ parts (length t.funcs) k n t ++ body) (sym q)
    (subst (λ (k : ℕ). bytes ≡ parts k s n t ++ body) (sym p) e))

pub trace_found : (bytes : List ℕ) (t : Recording) → IsBytes bytes → trace_at bytes ≡ Ok t → IsTraceOf bytes t
unfolding trace_at
trace_found bytes t fits e =
    let v = version_in bytes in
    let a = guard_ok (ltb (length bytes) 24) Short _ t e in
    let b = guard_ok (not (bytes_eq (take 8 bytes) (magic v))) Magic _ t a.1 in
    let l = guard_ok (not (are_limits (word_at bytes 8) (word_at bytes 12) (word_at bytes 20))) Limits _ t b.1 in
    let r = guard_ok (leb (word_at bytes 8) (word_at bytes 16)) RootFunc _ t l.1 in
    let f = bind_ok (funcs_at (word_at bytes 8) [] (drop 24 bytes)) _ t r.1 in
    let s = bind_ok (sites_at (word_at bytes 12) (word_at bytes 8) [] f.0.1) _ t f.2 in
    let g = guard_ok (ltb (room v (word_at bytes 20)) (filled v s.0.1)) Trailing _ t s.2 in
    let long : 24 ≤ length bytes = ltb-false (length bytes) 24 a.0 in
    let lim = limited (word_at bytes 8) (word_at bytes 12) (word_at bytes 20) (not-false _ l.0) in
    let root : word_at bytes 16 < word_at bytes 8 = leb-false (word_at bytes 8) (word_at bytes 16) r.0 in
    let under : filled v s.0.1 ≤ room v (word_at bytes 20) = ltb-false (room v (word_at bytes 20)) (filled v s.0.1) g.0 in
    let is_magic : take 8 bytes ≡ magic v = (bytes_eq-Decides (take 8 bytes) (magic v)).0 (not-false _ b.0) in
    let fr = funcs_take (word_at bytes 8) [] (drop 24 bytes) f.0 (IsBytes-drop 24 bytes fits) f.1 in
    let sr = sites_take (word_at bytes 12) (word_at bytes 8) [] f.0.1 s.0 fr.taken.rest_fits tt s.1 in
    let fn : length f.0.0 ≡ word_at bytes 8 = ap length fr.all ∙ fr.count in
    let sn : length s.0.0 ≡ word_at bytes 12 = ap length sr.0.all ∙ sr.0.count in
    let rn : length (records_of v (length s.0.0) (length f.0.0) (word_at bytes 20) s.0.1) ≡ word_at bytes 20 = length-records_of v (length s.0.0) (length f.0.0) (word_at bytes 20) s.0.1 in
    let t0 : Takes bytes (magic v) (drop 8 bytes) = record { parts = sym (take-append-drop 8 bytes) ∙ ap (λ (x : List ℕ). x ++ drop 8 bytes) is_magic; rest_fits = IsBytes-drop 8 bytes fits } in
    let t1 = word_takes 8 12 bytes refl (omega arith) fits in
    let t2 = word_takes 12 16 bytes refl (omega arith) fits in
    let t3 = word_takes 16 20 bytes refl (omega arith) fits in
    let t4 = word_takes 20 24 bytes refl (omega arith) fits in
    let t5 : Takes (drop 24 bytes) (flat_map name_spelling f.0.0) f.0.1 = subst (λ (x : List (List ℕ)). Takes (drop 24 bytes) (flat_map name_spelling x) f.0.1) (sym fr.all) fr.taken in
    let t6 : Takes f.0.1 (flat_map name_spelling s.0.0) s.0.1 = subst (λ (x : List (List ℕ)). Takes f.0.1 (flat_map name_spelling x) s.0.1) (sym sr.0.all) sr.0.taken in
    let c5 = Takes-then (drop 24 bytes) _ f.0.1 _ s.0.1 t5 t6 in
    let c4 = Takes-then (drop 20 bytes) _ (drop 24 bytes) _ s.0.1 t4 c5 in
    let c3 = Takes-then (drop 16 bytes) _ (drop 20 bytes) _ s.0.1 t3 c4 in
    let c2 = Takes-then (drop 12 bytes) _ (drop 16 bytes) _ s.0.1 t2 c3 in
    let c1 = Takes-then (drop 8 bytes) _ (drop 12 bytes) _ s.0.1 t1 c2 in
    let c0 = Takes-then bytes (magic v) (drop 8 bytes) _ s.0.1 t0 c1 in
    let made : Recording = trace_by v (word_at bytes 16) (word_at bytes 20) f.0.0 s.0.0 s.0.1 in
    let spelled : bytes ≡ header_spelling made ++ s.0.1 = spelled_of made bytes s.0.1 (word_at bytes 8) (word_at bytes 12) (word_at bytes 20) fn sn rn c0.parts in
    let good : IsTraceOf bytes made = record {
      header = spelled;
      limits = record {
        some_func = let p = lim.some in omega arith;
        funcs = let p = lim.funcs in omega arith;
        sites = let p = lim.sites in omega arith;
        root = omega arith;
        events = let p = lim.events in omega arith;
      };
      names = record {
        func_names = subst (λ (x : List (List ℕ)). AllByRecursion IsName x) (sym fr.all) fr.good;
        site_names = subst (λ (x : List (List ℕ)). AllByRecursion IsName x) (sym sr.0.all) sr.0.good;
        apart = sr.1;
      };
      room = subst (λ (k : ℕ). filled v s.0.1 ≤ room v k) (sym rn) under;
      records = ap (λ (k : ℕ). records_of v (length s.0.0) (length f.0.0) k s.0.1) (sym rn);
    } in
    subst (λ (x : Recording). IsTraceOf bytes x) (ok_is made t g.1) good
