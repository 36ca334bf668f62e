-- What is spelled is read, and what is read is spelled so.
use Rattle.std.proofs.Common.{◌≡◌, ℕ, zero, suc, ◌^◌, ◌<◌, ◌≤◌, List, [], ◌∷◌, ◌++◌, length, get_or, Result, Ok, Err, refl, sym, ap, subst, ◌∙◌, arith, inl, inr}
use Rattle.std.specs.Int.{w32, w64, from_be_bytes, to_be_bytes}
use Rattle.std.proofs.lemmas.Bool.{cases_lt, cases_eq}
use Rattle.std.proofs.lemmas.Nat.{be_bytes_4, be_bytes_8, from_be_bytes-to_be_bytes_4, from_be_bytes-to_be_bytes_8}
use Rattle.spp_event.specs.declared.records.Event.{Event}
use Rattle.spp_event.specs.declared.records.Event.TheVariants.{Strand, Call, Spawn, Ret, Sync}
use Rattle.spp_event.specs.declared.records.EventFault.{EventFault}
use Rattle.spp_event.specs.declared.records.EventFault.TheVariants.{Truncated, Tag, Padding, Site, Func}
use Rattle.spp_event.specs.Records.{word, spelling, IsEvent, IsEventOf, read_record}
use Rattle.spp_event.specs.Laws.{OneSpelling, SpelledIsRead, ReadIsSpelled}
use Rattle.spp_event.proofs.RecordsByTag.{whole_as, total, strand_read, call_read, spawn_read, ret_read, sync_read, tag_read}
use Rattle.spp_event.proofs.RecordBytes.{strand_padded_in, strand_in, call_padded_in, call_site_in, call_func_in, call_in, spawn_padded_in, spawn_site_in, spawn_func_in, spawn_in, ret_padded_in, ret_in, sync_padded_in, sync_in}
use Rattle.spp_event.proofs.RecordPlaces.{short}

pub spelled_is_read : SpelledIsRead
spelled_is_read sites funcs (Strand count) s f h = strand_read sites funcs 0 0 0 0 0 0 0 (get_or (to_be_bytes w64 count) 0 0) (get_or (to_be_bytes w64 count) 1 0) (get_or (to_be_bytes w64 count) 2 0) (get_or (to_be_bytes w64 count) 3 0) (get_or (to_be_bytes w64 count) 4 0) (get_or (to_be_bytes w64 count) 5 0) (get_or (to_be_bytes w64 count) 6 0) (get_or (to_be_bytes w64 count) 7 0) refl ∙ ap (λ (n : ℕ). Ok (Strand n)) (from_be_bytes-to_be_bytes_8 count h)
spelled_is_read sites funcs (Call site func) s f h =
    let a : from_be_bytes w32 (word site) ≡ site = from_be_bytes-to_be_bytes_4 site (omega arith) in
    let b : from_be_bytes w32 (word func) ≡ func = from_be_bytes-to_be_bytes_4 func (omega arith) in
    call_read sites funcs 0 0 0 (get_or (to_be_bytes w32 site) 0 0) (get_or (to_be_bytes w32 site) 1 0) (get_or (to_be_bytes w32 site) 2 0) (get_or (to_be_bytes w32 site) 3 0) (get_or (to_be_bytes w32 func) 0 0) (get_or (to_be_bytes w32 func) 1 0) (get_or (to_be_bytes w32 func) 2 0) (get_or (to_be_bytes w32 func) 3 0) 0 0 0 0 refl (subst (λ (n : ℕ). n < sites) (sym a) h.0) (subst (λ (n : ℕ). n < funcs) (sym b) h.1) ∙ ap (λ (n : ℕ). Ok (Call n (from_be_bytes w32 (word func)))) a ∙ ap (λ (n : ℕ). Ok (Call site n)) b
spelled_is_read sites funcs (Spawn site func) s f h =
    let a : from_be_bytes w32 (word site) ≡ site = from_be_bytes-to_be_bytes_4 site (omega arith) in
    let b : from_be_bytes w32 (word func) ≡ func = from_be_bytes-to_be_bytes_4 func (omega arith) in
    spawn_read sites funcs 0 0 0 (get_or (to_be_bytes w32 site) 0 0) (get_or (to_be_bytes w32 site) 1 0) (get_or (to_be_bytes w32 site) 2 0) (get_or (to_be_bytes w32 site) 3 0) (get_or (to_be_bytes w32 func) 0 0) (get_or (to_be_bytes w32 func) 1 0) (get_or (to_be_bytes w32 func) 2 0) (get_or (to_be_bytes w32 func) 3 0) 0 0 0 0 refl (subst (λ (n : ℕ). n < sites) (sym a) h.0) (subst (λ (n : ℕ). n < funcs) (sym b) h.1) ∙ ap (λ (n : ℕ). Ok (Spawn n (from_be_bytes w32 (word func)))) a ∙ ap (λ (n : ℕ). Ok (Spawn site n)) b
spelled_is_read sites funcs Ret s f h = ret_read sites funcs 0 0 0 0 0 0 0 0 0 0 0 0 0 0 0 refl
spelled_is_read sites funcs Sync s f h = sync_read sites funcs 0 0 0 0 0 0 0 0 0 0 0 0 0 0 0 refl

widest : (e : Event) → IsEvent e → IsEventOf (2 ^ 32) (2 ^ 32) e
widest (Strand count) h = h
widest (Call site func) h = h
widest (Spawn site func) h = h
widest Ret h = tt
widest Sync h = tt

same_ok : (d e : Event) (x : Result Event EventFault) → x ≡ Ok d → x ≡ Ok e → d ≡ e
same_ok d e x p q = cc

pub one_spelling : OneSpelling
one_spelling d e p q same =
    same_ok d e (read_record (2 ^ 32) (2 ^ 32) (spelling d)) (spelled_is_read (2 ^ 32) (2 ^ 32) d (omega arith) (omega arith) (widest d p)) (ap (λ (r : List ℕ). read_record (2 ^ 32) (2 ^ 32) r) same ∙ spelled_is_read (2 ^ 32) (2 ^ 32) e (omega arith) (omega arith) (widest e q))

abbrev IsBytes : List ℕ → Type 0
IsBytes r = (i : ℕ) → get_or r i 0 < 256

abbrev Spelled : ℕ → ℕ → List ℕ → Event → Type 0
Spelled sites funcs r e = (r ≡ spelling e) × IsEventOf sites funcs e

as_event : (sites funcs : ℕ) (r : List ℕ) (x : Result Event EventFault) (d e : Event) → x ≡ Ok e → Ok d ≡ x → Spelled sites funcs r d → Spelled sites funcs r e
as_event sites funcs r x d e p q h = let same : d ≡ e = cc in subst (λ (v : Event). Spelled sites funcs r v) same h

no_event : {P : Type 0} (x : Result Event EventFault) (e : Event) (f : EventFault) → x ≡ Ok e → Err f ≡ x → P
no_event x e f p q = absurd cc

back4 : (x0 x1 x2 x3 : ℕ) → x0 < 256 → x1 < 256 → x2 < 256 → x3 < 256 → to_be_bytes w32 (from_be_bytes w32 (x0 ∷ x1 ∷ x2 ∷ x3 ∷ [])) ≡ x0 ∷ x1 ∷ x2 ∷ x3 ∷ []
back4 x0 x1 x2 x3 p0 p1 p2 p3 = be_bytes_4 (x0 ∷ x1 ∷ x2 ∷ x3 ∷ []) (from_be_bytes w32 (x0 ∷ x1 ∷ x2 ∷ x3 ∷ [])) refl (all4 x0 x1 x2 x3 p0 p1 p2 p3) refl
  where
    all4 : (x0 x1 x2 x3 : ℕ) → x0 < 256 → x1 < 256 → x2 < 256 → x3 < 256 → IsBytes (x0 ∷ x1 ∷ x2 ∷ x3 ∷ [])
    all4 x0 x1 x2 x3 p0 p1 p2 p3 zero = p0
    all4 x0 x1 x2 x3 p0 p1 p2 p3 (suc zero) = p1
    all4 x0 x1 x2 x3 p0 p1 p2 p3 (suc (suc zero)) = p2
    all4 x0 x1 x2 x3 p0 p1 p2 p3 (suc (suc (suc zero))) = p3
    all4 x0 x1 x2 x3 p0 p1 p2 p3 (suc (suc (suc (suc i)))) = omega arith

back8 : (x0 x1 x2 x3 x4 x5 x6 x7 : ℕ) → x0 < 256 → x1 < 256 → x2 < 256 → x3 < 256 → x4 < 256 → x5 < 256 → x6 < 256 → x7 < 256 → to_be_bytes w64 (from_be_bytes w64 (x0 ∷ x1 ∷ x2 ∷ x3 ∷ x4 ∷ x5 ∷ x6 ∷ x7 ∷ [])) ≡ x0 ∷ x1 ∷ x2 ∷ x3 ∷ x4 ∷ x5 ∷ x6 ∷ x7 ∷ []
back8 x0 x1 x2 x3 x4 x5 x6 x7 p0 p1 p2 p3 p4 p5 p6 p7 = be_bytes_8 (x0 ∷ x1 ∷ x2 ∷ x3 ∷ x4 ∷ x5 ∷ x6 ∷ x7 ∷ []) (from_be_bytes w64 (x0 ∷ x1 ∷ x2 ∷ x3 ∷ x4 ∷ x5 ∷ x6 ∷ x7 ∷ [])) refl (all8 x0 x1 x2 x3 x4 x5 x6 x7 p0 p1 p2 p3 p4 p5 p6 p7) refl
  where
    all8 : (x0 x1 x2 x3 x4 x5 x6 x7 : ℕ) → x0 < 256 → x1 < 256 → x2 < 256 → x3 < 256 → x4 < 256 → x5 < 256 → x6 < 256 → x7 < 256 → IsBytes (x0 ∷ x1 ∷ x2 ∷ x3 ∷ x4 ∷ x5 ∷ x6 ∷ x7 ∷ [])
    all8 x0 x1 x2 x3 x4 x5 x6 x7 p0 p1 p2 p3 p4 p5 p6 p7 zero = p0
    all8 x0 x1 x2 x3 x4 x5 x6 x7 p0 p1 p2 p3 p4 p5 p6 p7 (suc zero) = p1
    all8 x0 x1 x2 x3 x4 x5 x6 x7 p0 p1 p2 p3 p4 p5 p6 p7 (suc (suc zero)) = p2
    all8 x0 x1 x2 x3 x4 x5 x6 x7 p0 p1 p2 p3 p4 p5 p6 p7 (suc (suc (suc zero))) = p3
    all8 x0 x1 x2 x3 x4 x5 x6 x7 p0 p1 p2 p3 p4 p5 p6 p7 (suc (suc (suc (suc zero)))) = p4
    all8 x0 x1 x2 x3 x4 x5 x6 x7 p0 p1 p2 p3 p4 p5 p6 p7 (suc (suc (suc (suc (suc zero))))) = p5
    all8 x0 x1 x2 x3 x4 x5 x6 x7 p0 p1 p2 p3 p4 p5 p6 p7 (suc (suc (suc (suc (suc (suc zero)))))) = p6
    all8 x0 x1 x2 x3 x4 x5 x6 x7 p0 p1 p2 p3 p4 p5 p6 p7 (suc (suc (suc (suc (suc (suc (suc zero))))))) = p7
    all8 x0 x1 x2 x3 x4 x5 x6 x7 p0 p1 p2 p3 p4 p5 p6 p7 (suc (suc (suc (suc (suc (suc (suc (suc i)))))))) = omega arith

strand_shape : (x1 x2 x3 x4 x5 x6 x7 x8 x9 x10 x11 x12 x13 x14 x15 : ℕ) → x1 ≡ 0 → x2 ≡ 0 → x3 ≡ 0 → x4 ≡ 0 → x5 ≡ 0 → x6 ≡ 0 → x7 ≡ 0 → x8 < 256 → x9 < 256 → x10 < 256 → x11 < 256 → x12 < 256 → x13 < 256 → x14 < 256 → x15 < 256 → 0 ∷ x1 ∷ x2 ∷ x3 ∷ x4 ∷ x5 ∷ x6 ∷ x7 ∷ x8 ∷ x9 ∷ x10 ∷ x11 ∷ x12 ∷ x13 ∷ x14 ∷ x15 ∷ [] ≡ spelling (Strand (from_be_bytes w64 (x8 ∷ x9 ∷ x10 ∷ x11 ∷ x12 ∷ x13 ∷ x14 ∷ x15 ∷ [])))
strand_shape x1 x2 x3 x4 x5 x6 x7 x8 x9 x10 x11 x12 x13 x14 x15 z1 z2 z3 z4 z5 z6 z7 p8 p9 p10 p11 p12 p13 p14 p15 =
    let first : 0 ∷ x1 ∷ x2 ∷ x3 ∷ x4 ∷ x5 ∷ x6 ∷ x7 ∷ x8 ∷ x9 ∷ x10 ∷ x11 ∷ x12 ∷ x13 ∷ x14 ∷ x15 ∷ [] ≡ 0 ∷ 0 ∷ 0 ∷ 0 ∷ 0 ∷ 0 ∷ 0 ∷ 0 ∷ x8 ∷ x9 ∷ x10 ∷ x11 ∷ x12 ∷ x13 ∷ x14 ∷ x15 ∷ [] = cc in
    first ∙ ap (λ (l : List ℕ). 0 ∷ 0 ∷ 0 ∷ 0 ∷ 0 ∷ 0 ∷ 0 ∷ 0 ∷ l) (sym (back8 x8 x9 x10 x11 x12 x13 x14 x15 p8 p9 p10 p11 p12 p13 p14 p15))

call_shape : (x1 x2 x3 x4 x5 x6 x7 x8 x9 x10 x11 x12 x13 x14 x15 : ℕ) → x1 ≡ 0 → x2 ≡ 0 → x3 ≡ 0 → x12 ≡ 0 → x13 ≡ 0 → x14 ≡ 0 → x15 ≡ 0 → x4 < 256 → x5 < 256 → x6 < 256 → x7 < 256 → x8 < 256 → x9 < 256 → x10 < 256 → x11 < 256 → 1 ∷ x1 ∷ x2 ∷ x3 ∷ x4 ∷ x5 ∷ x6 ∷ x7 ∷ x8 ∷ x9 ∷ x10 ∷ x11 ∷ x12 ∷ x13 ∷ x14 ∷ x15 ∷ [] ≡ spelling (Call (from_be_bytes w32 (x4 ∷ x5 ∷ x6 ∷ x7 ∷ [])) (from_be_bytes w32 (x8 ∷ x9 ∷ x10 ∷ x11 ∷ [])))
call_shape x1 x2 x3 x4 x5 x6 x7 x8 x9 x10 x11 x12 x13 x14 x15 z1 z2 z3 z12 z13 z14 z15 p4 p5 p6 p7 p8 p9 p10 p11 =
    let first : 1 ∷ x1 ∷ x2 ∷ x3 ∷ x4 ∷ x5 ∷ x6 ∷ x7 ∷ x8 ∷ x9 ∷ x10 ∷ x11 ∷ x12 ∷ x13 ∷ x14 ∷ x15 ∷ [] ≡ 1 ∷ 0 ∷ 0 ∷ 0 ∷ x4 ∷ x5 ∷ x6 ∷ x7 ∷ x8 ∷ x9 ∷ x10 ∷ x11 ∷ 0 ∷ 0 ∷ 0 ∷ 0 ∷ [] = cc in
    let a = back4 x4 x5 x6 x7 p4 p5 p6 p7 in
    let b = back4 x8 x9 x10 x11 p8 p9 p10 p11 in
    first ∙ ap (λ (l : List ℕ). 1 ∷ 0 ∷ 0 ∷ 0 ∷ l ++ (x8 ∷ x9 ∷ x10 ∷ x11 ∷ []) ++ (0 ∷ 0 ∷ 0 ∷ 0 ∷ [])) (sym a) ∙ ap (λ (l : List ℕ). 1 ∷ 0 ∷ 0 ∷ 0 ∷ word (from_be_bytes w32 (x4 ∷ x5 ∷ x6 ∷ x7 ∷ [])) ++ l ++ (0 ∷ 0 ∷ 0 ∷ 0 ∷ [])) (sym b)

spawn_shape : (x1 x2 x3 x4 x5 x6 x7 x8 x9 x10 x11 x12 x13 x14 x15 : ℕ) → x1 ≡ 0 → x2 ≡ 0 → x3 ≡ 0 → x12 ≡ 0 → x13 ≡ 0 → x14 ≡ 0 → x15 ≡ 0 → x4 < 256 → x5 < 256 → x6 < 256 → x7 < 256 → x8 < 256 → x9 < 256 → x10 < 256 → x11 < 256 → 2 ∷ x1 ∷ x2 ∷ x3 ∷ x4 ∷ x5 ∷ x6 ∷ x7 ∷ x8 ∷ x9 ∷ x10 ∷ x11 ∷ x12 ∷ x13 ∷ x14 ∷ x15 ∷ [] ≡ spelling (Spawn (from_be_bytes w32 (x4 ∷ x5 ∷ x6 ∷ x7 ∷ [])) (from_be_bytes w32 (x8 ∷ x9 ∷ x10 ∷ x11 ∷ [])))
spawn_shape x1 x2 x3 x4 x5 x6 x7 x8 x9 x10 x11 x12 x13 x14 x15 z1 z2 z3 z12 z13 z14 z15 p4 p5 p6 p7 p8 p9 p10 p11 =
    let first : 2 ∷ x1 ∷ x2 ∷ x3 ∷ x4 ∷ x5 ∷ x6 ∷ x7 ∷ x8 ∷ x9 ∷ x10 ∷ x11 ∷ x12 ∷ x13 ∷ x14 ∷ x15 ∷ [] ≡ 2 ∷ 0 ∷ 0 ∷ 0 ∷ x4 ∷ x5 ∷ x6 ∷ x7 ∷ x8 ∷ x9 ∷ x10 ∷ x11 ∷ 0 ∷ 0 ∷ 0 ∷ 0 ∷ [] = cc in
    let a = back4 x4 x5 x6 x7 p4 p5 p6 p7 in
    let b = back4 x8 x9 x10 x11 p8 p9 p10 p11 in
    first ∙ ap (λ (l : List ℕ). 2 ∷ 0 ∷ 0 ∷ 0 ∷ l ++ (x8 ∷ x9 ∷ x10 ∷ x11 ∷ []) ++ (0 ∷ 0 ∷ 0 ∷ 0 ∷ [])) (sym a) ∙ ap (λ (l : List ℕ). 2 ∷ 0 ∷ 0 ∷ 0 ∷ word (from_be_bytes w32 (x4 ∷ x5 ∷ x6 ∷ x7 ∷ [])) ++ l ++ (0 ∷ 0 ∷ 0 ∷ 0 ∷ [])) (sym b)

ret_shape : (x1 x2 x3 x4 x5 x6 x7 x8 x9 x10 x11 x12 x13 x14 x15 : ℕ) → x1 ≡ 0 → x2 ≡ 0 → x3 ≡ 0 → x4 ≡ 0 → x5 ≡ 0 → x6 ≡ 0 → x7 ≡ 0 → x8 ≡ 0 → x9 ≡ 0 → x10 ≡ 0 → x11 ≡ 0 → x12 ≡ 0 → x13 ≡ 0 → x14 ≡ 0 → x15 ≡ 0 → 3 ∷ x1 ∷ x2 ∷ x3 ∷ x4 ∷ x5 ∷ x6 ∷ x7 ∷ x8 ∷ x9 ∷ x10 ∷ x11 ∷ x12 ∷ x13 ∷ x14 ∷ x15 ∷ [] ≡ spelling (Ret)
ret_shape x1 x2 x3 x4 x5 x6 x7 x8 x9 x10 x11 x12 x13 x14 x15 z1 z2 z3 z4 z5 z6 z7 z8 z9 z10 z11 z12 z13 z14 z15 =
    cc

sync_shape : (x1 x2 x3 x4 x5 x6 x7 x8 x9 x10 x11 x12 x13 x14 x15 : ℕ) → x1 ≡ 0 → x2 ≡ 0 → x3 ≡ 0 → x4 ≡ 0 → x5 ≡ 0 → x6 ≡ 0 → x7 ≡ 0 → x8 ≡ 0 → x9 ≡ 0 → x10 ≡ 0 → x11 ≡ 0 → x12 ≡ 0 → x13 ≡ 0 → x14 ≡ 0 → x15 ≡ 0 → 4 ∷ x1 ∷ x2 ∷ x3 ∷ x4 ∷ x5 ∷ x6 ∷ x7 ∷ x8 ∷ x9 ∷ x10 ∷ x11 ∷ x12 ∷ x13 ∷ x14 ∷ x15 ∷ [] ≡ spelling (Sync)
sync_shape x1 x2 x3 x4 x5 x6 x7 x8 x9 x10 x11 x12 x13 x14 x15 z1 z2 z3 z4 z5 z6 z7 z8 z9 z10 z11 z12 z13 z14 z15 =
    cc

-- by whether the bytes that must be zero are
by_padding : (d : Event) (zeros sites funcs : ℕ) (r : List ℕ) (e : Event) → read_record sites funcs r ≡ Ok e
    → (0 < zeros → Err Padding ≡ read_record sites funcs r) → (zeros ≡ 0 → Ok d ≡ read_record sites funcs r) → (zeros ≡ 0 → Spelled sites funcs r d) → Spelled sites funcs r e
by_padding d zeros sites funcs r e ok padded read spelled =
    elim (cases_lt 0 zeros) [
      | inl pos ↦ no_event (read_record sites funcs r) e Padding ok (padded pos)
      | inr none ↦
          let zero : zeros ≡ 0 = omega arith in
          as_event sites funcs r (read_record sites funcs r) d e ok (read zero) (spelled zero)
    ]

-- and, of an event that opens a frame, by whether its site and its function are those of the trace
by_numbers : (event : ℕ → ℕ → Event) (zeros site func sites funcs : ℕ) (r : List ℕ) (e : Event) → read_record sites funcs r ≡ Ok e
    → (0 < zeros → Err Padding ≡ read_record sites funcs r)
    → (zeros ≡ 0 → sites ≤ site → Err Site ≡ read_record sites funcs r)
    → (zeros ≡ 0 → site < sites → funcs ≤ func → Err Func ≡ read_record sites funcs r)
    → (zeros ≡ 0 → site < sites → func < funcs → Ok (event site func) ≡ read_record sites funcs r)
    → (zeros ≡ 0 → site < sites → func < funcs → Spelled sites funcs r (event site func))
    → Spelled sites funcs r e
by_numbers event zeros site func sites funcs r e ok padded no_site no_func read spelled =
    elim (cases_lt site sites) [
      | inl less ↦
          elim (cases_lt func funcs) [
            | inl small ↦ by_padding (event site func) zeros sites funcs r e ok padded (λ zero. read zero less small) (λ zero. spelled zero less small)
            | inr big ↦ elim (cases_lt 0 zeros) [ inl pos ↦ no_event (read_record sites funcs r) e Padding ok (padded pos) | inr none ↦ no_event (read_record sites funcs r) e Func ok (no_func (omega arith) less big) ]
          ]
      | inr big ↦ elim (cases_lt 0 zeros) [ inl pos ↦ no_event (read_record sites funcs r) e Padding ok (padded pos) | inr none ↦ no_event (read_record sites funcs r) e Site ok (no_site (omega arith) big) ]
    ]

-- the site and the function in a record that opens a frame, and what its zero bytes come to
abbrev site_in : List ℕ → ℕ
site_in r = from_be_bytes w32 (get_or r 4 0 ∷ get_or r 5 0 ∷ get_or r 6 0 ∷ get_or r 7 0 ∷ [])

abbrev func_in : List ℕ → ℕ
func_in r = from_be_bytes w32 (get_or r 8 0 ∷ get_or r 9 0 ∷ get_or r 10 0 ∷ get_or r 11 0 ∷ [])

abbrev zeros_in : List ℕ → ℕ
zeros_in r = total (get_or r 1 0 ∷ get_or r 2 0 ∷ get_or r 3 0 ∷ get_or r 12 0 ∷ get_or r 13 0 ∷ get_or r 14 0 ∷ get_or r 15 0 ∷ [])

-- what the bytes behind the tag come to
abbrev rest_in : List ℕ → ℕ
rest_in r = total (get_or r 1 0 ∷ get_or r 2 0 ∷ get_or r 3 0 ∷ get_or r 4 0 ∷ get_or r 5 0 ∷ get_or r 6 0 ∷ get_or r 7 0 ∷ get_or r 8 0 ∷ get_or r 9 0 ∷ get_or r 10 0 ∷ get_or r 11 0 ∷ get_or r 12 0 ∷ get_or r 13 0 ∷ get_or r 14 0 ∷ get_or r 15 0 ∷ [])

strand_spelled : (sites funcs : ℕ) (r : List ℕ) (e : Event) → length r ≡ 16 → IsBytes r → read_record sites funcs r ≡ Ok e → get_or r 0 0 ≡ 0 → Spelled sites funcs r e
strand_spelled sites funcs r e n fits ok tag =
    let f8 = fits 8 in
    let f9 = fits 9 in
    let f10 = fits 10 in
    let f11 = fits 11 in
    let f12 = fits 12 in
    let f13 = fits 13 in
    let f14 = fits 14 in
    let f15 = fits 15 in
    by_padding (Strand (from_be_bytes w64 (get_or r 8 0 ∷ get_or r 9 0 ∷ get_or r 10 0 ∷ get_or r 11 0 ∷ get_or r 12 0 ∷ get_or r 13 0 ∷ get_or r 14 0 ∷ get_or r 15 0 ∷ []))) (total (get_or r 1 0 ∷ get_or r 2 0 ∷ get_or r 3 0 ∷ get_or r 4 0 ∷ get_or r 5 0 ∷ get_or r 6 0 ∷ get_or r 7 0 ∷ [])) sites funcs r e ok (strand_padded_in sites funcs r n tag) (strand_in sites funcs r n tag) (λ zero. (sym (whole_as r 0 n tag) ∙ strand_shape (get_or r 1 0) (get_or r 2 0) (get_or r 3 0) (get_or r 4 0) (get_or r 5 0) (get_or r 6 0) (get_or r 7 0) (get_or r 8 0) (get_or r 9 0) (get_or r 10 0) (get_or r 11 0) (get_or r 12 0) (get_or r 13 0) (get_or r 14 0) (get_or r 15 0) (omega arith) (omega arith) (omega arith) (omega arith) (omega arith) (omega arith) (omega arith) (fits 8) (fits 9) (fits 10) (fits 11) (fits 12) (fits 13) (fits 14) (fits 15), omega arith))

call_spelled : (sites funcs : ℕ) (r : List ℕ) (e : Event) → length r ≡ 16 → IsBytes r → read_record sites funcs r ≡ Ok e → get_or r 0 0 ≡ 1 → Spelled sites funcs r e
call_spelled sites funcs r e n fits ok tag =
    by_numbers Call (zeros_in r) (site_in r) (func_in r) sites funcs r e ok (call_padded_in sites funcs r n tag) (call_site_in sites funcs r n tag) (call_func_in sites funcs r n tag) (call_in sites funcs r n tag) (λ zero less small. (sym (whole_as r 1 n tag) ∙ call_shape (get_or r 1 0) (get_or r 2 0) (get_or r 3 0) (get_or r 4 0) (get_or r 5 0) (get_or r 6 0) (get_or r 7 0) (get_or r 8 0) (get_or r 9 0) (get_or r 10 0) (get_or r 11 0) (get_or r 12 0) (get_or r 13 0) (get_or r 14 0) (get_or r 15 0) (omega arith) (omega arith) (omega arith) (omega arith) (omega arith) (omega arith) (omega arith) (fits 4) (fits 5) (fits 6) (fits 7) (fits 8) (fits 9) (fits 10) (fits 11), (less, small)))

spawn_spelled : (sites funcs : ℕ) (r : List ℕ) (e : Event) → length r ≡ 16 → IsBytes r → read_record sites funcs r ≡ Ok e → get_or r 0 0 ≡ 2 → Spelled sites funcs r e
spawn_spelled sites funcs r e n fits ok tag =
    by_numbers Spawn (zeros_in r) (site_in r) (func_in r) sites funcs r e ok (spawn_padded_in sites funcs r n tag) (spawn_site_in sites funcs r n tag) (spawn_func_in sites funcs r n tag) (spawn_in sites funcs r n tag) (λ zero less small. (sym (whole_as r 2 n tag) ∙ spawn_shape (get_or r 1 0) (get_or r 2 0) (get_or r 3 0) (get_or r 4 0) (get_or r 5 0) (get_or r 6 0) (get_or r 7 0) (get_or r 8 0) (get_or r 9 0) (get_or r 10 0) (get_or r 11 0) (get_or r 12 0) (get_or r 13 0) (get_or r 14 0) (get_or r 15 0) (omega arith) (omega arith) (omega arith) (omega arith) (omega arith) (omega arith) (omega arith) (fits 4) (fits 5) (fits 6) (fits 7) (fits 8) (fits 9) (fits 10) (fits 11), (less, small)))

ret_spelled : (sites funcs : ℕ) (r : List ℕ) (e : Event) → length r ≡ 16 → IsBytes r → read_record sites funcs r ≡ Ok e → get_or r 0 0 ≡ 3 → Spelled sites funcs r e
ret_spelled sites funcs r e n fits ok tag =
    by_padding Ret (rest_in r) sites funcs r e ok (ret_padded_in sites funcs r n tag) (ret_in sites funcs r n tag) (λ zero. (sym (whole_as r 3 n tag) ∙ ret_shape (get_or r 1 0) (get_or r 2 0) (get_or r 3 0) (get_or r 4 0) (get_or r 5 0) (get_or r 6 0) (get_or r 7 0) (get_or r 8 0) (get_or r 9 0) (get_or r 10 0) (get_or r 11 0) (get_or r 12 0) (get_or r 13 0) (get_or r 14 0) (get_or r 15 0) (omega arith) (omega arith) (omega arith) (omega arith) (omega arith) (omega arith) (omega arith) (omega arith) (omega arith) (omega arith) (omega arith) (omega arith) (omega arith) (omega arith) (omega arith), tt))

sync_spelled : (sites funcs : ℕ) (r : List ℕ) (e : Event) → length r ≡ 16 → IsBytes r → read_record sites funcs r ≡ Ok e → get_or r 0 0 ≡ 4 → Spelled sites funcs r e
sync_spelled sites funcs r e n fits ok tag =
    by_padding Sync (rest_in r) sites funcs r e ok (sync_padded_in sites funcs r n tag) (sync_in sites funcs r n tag) (λ zero. (sym (whole_as r 4 n tag) ∙ sync_shape (get_or r 1 0) (get_or r 2 0) (get_or r 3 0) (get_or r 4 0) (get_or r 5 0) (get_or r 6 0) (get_or r 7 0) (get_or r 8 0) (get_or r 9 0) (get_or r 10 0) (get_or r 11 0) (get_or r 12 0) (get_or r 13 0) (get_or r 14 0) (get_or r 15 0) (omega arith) (omega arith) (omega arith) (omega arith) (omega arith) (omega arith) (omega arith) (omega arith) (omega arith) (omega arith) (omega arith) (omega arith) (omega arith) (omega arith) (omega arith), tt))

pub read_is_spelled : ReadIsSpelled
read_is_spelled sites funcs r e long fits ok =
    elim (cases_lt (length r) 16) [
      | inl l ↦ no_event (read_record sites funcs r) e Truncated ok (sym (short sites funcs r l))
      | inr m ↦
          let n : length r ≡ 16 = omega arith in
          elim (cases_eq (get_or r 0 0) 0) [
            | inl t ↦ strand_spelled sites funcs r e n fits ok t
            | inr n0 ↦ elim (cases_eq (get_or r 0 0) 1) [
              | inl t ↦ call_spelled sites funcs r e n fits ok t
              | inr n1 ↦ elim (cases_eq (get_or r 0 0) 2) [
                | inl t ↦ spawn_spelled sites funcs r e n fits ok t
                | inr n2 ↦ elim (cases_eq (get_or r 0 0) 3) [
                  | inl t ↦ ret_spelled sites funcs r e n fits ok t
                  | inr n3 ↦ elim (cases_eq (get_or r 0 0) 4) [
                    | inl t ↦ sync_spelled sites funcs r e n fits ok t
                    | inr n4 ↦ no_event (read_record sites funcs r) e Tag ok (sym (tag_read sites funcs r n (omega arith)))
                  ]
                ]
              ]
            ]
          ]
    ]
