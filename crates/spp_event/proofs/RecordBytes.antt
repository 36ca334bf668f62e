-- The same, of a list of 16 bytes, and the two numbers that the code reads.
use Rattle.std.proofs.Common.{◌≡◌, ℕ, ◌+◌, ◌*◌, ◌/◌, ◌%◌, ◌<◌, ◌≤◌, List, [], ◌∷◌, length, get_or, Ok, Err, sym, subst, arith, bit_and}
use Rattle.std.specs.Int.{w32, w64, from_be_bytes}
use Rattle.std.proofs.lemmas.Nat.{and_mask}
use Rattle.spp_event.specs.declared.records.Event.TheVariants.{Strand, Call, Spawn, Ret, Sync}
use Rattle.spp_event.specs.declared.records.EventFault.TheVariants.{Padding, Site, Func}
use Rattle.spp_event.specs.Records.{read_record}
use Rattle.spp_event.proofs.RecordsByTag.{whole_as, total, strand_padded, strand_read, call_padded, call_site, call_func, call_read, spawn_padded, spawn_site, spawn_func, spawn_read, ret_padded, ret_read, sync_padded, sync_read}

pub strand_padded_in : (sites funcs : ℕ) (r : List ℕ) → length r ≡ 16 → get_or r 0 0 ≡ 0 → 0 < total (get_or r 1 0 ∷ get_or r 2 0 ∷ get_or r 3 0 ∷ get_or r 4 0 ∷ get_or r 5 0 ∷ get_or r 6 0 ∷ get_or r 7 0 ∷ []) → Err Padding ≡ read_record sites funcs r
strand_padded_in sites funcs r n e p = subst (λ (l : List ℕ). Err Padding ≡ read_record sites funcs l) (whole_as r 0 n e) (sym (strand_padded sites funcs (get_or r 1 0) (get_or r 2 0) (get_or r 3 0) (get_or r 4 0) (get_or r 5 0) (get_or r 6 0) (get_or r 7 0) (get_or r 8 0) (get_or r 9 0) (get_or r 10 0) (get_or r 11 0) (get_or r 12 0) (get_or r 13 0) (get_or r 14 0) (get_or r 15 0) p))

pub strand_in : (sites funcs : ℕ) (r : List ℕ) → length r ≡ 16 → get_or r 0 0 ≡ 0 → total (get_or r 1 0 ∷ get_or r 2 0 ∷ get_or r 3 0 ∷ get_or r 4 0 ∷ get_or r 5 0 ∷ get_or r 6 0 ∷ get_or r 7 0 ∷ []) ≡ 0 → Ok (Strand (from_be_bytes w64 (get_or r 8 0 ∷ get_or r 9 0 ∷ get_or r 10 0 ∷ get_or r 11 0 ∷ get_or r 12 0 ∷ get_or r 13 0 ∷ get_or r 14 0 ∷ get_or r 15 0 ∷ []))) ≡ read_record sites funcs r
strand_in sites funcs r n e p = subst (λ (l : List ℕ). Ok (Strand (from_be_bytes w64 (get_or r 8 0 ∷ get_or r 9 0 ∷ get_or r 10 0 ∷ get_or r 11 0 ∷ get_or r 12 0 ∷ get_or r 13 0 ∷ get_or r 14 0 ∷ get_or r 15 0 ∷ []))) ≡ read_record sites funcs l) (whole_as r 0 n e) (sym (strand_read sites funcs (get_or r 1 0) (get_or r 2 0) (get_or r 3 0) (get_or r 4 0) (get_or r 5 0) (get_or r 6 0) (get_or r 7 0) (get_or r 8 0) (get_or r 9 0) (get_or r 10 0) (get_or r 11 0) (get_or r 12 0) (get_or r 13 0) (get_or r 14 0) (get_or r 15 0) p))

pub call_padded_in : (sites funcs : ℕ) (r : List ℕ) → length r ≡ 16 → get_or r 0 0 ≡ 1 → 0 < total (get_or r 1 0 ∷ get_or r 2 0 ∷ get_or r 3 0 ∷ get_or r 12 0 ∷ get_or r 13 0 ∷ get_or r 14 0 ∷ get_or r 15 0 ∷ []) → Err Padding ≡ read_record sites funcs r
call_padded_in sites funcs r n e p = subst (λ (l : List ℕ). Err Padding ≡ read_record sites funcs l) (whole_as r 1 n e) (sym (call_padded sites funcs (get_or r 1 0) (get_or r 2 0) (get_or r 3 0) (get_or r 4 0) (get_or r 5 0) (get_or r 6 0) (get_or r 7 0) (get_or r 8 0) (get_or r 9 0) (get_or r 10 0) (get_or r 11 0) (get_or r 12 0) (get_or r 13 0) (get_or r 14 0) (get_or r 15 0) p))

pub call_site_in : (sites funcs : ℕ) (r : List ℕ) → length r ≡ 16 → get_or r 0 0 ≡ 1 → total (get_or r 1 0 ∷ get_or r 2 0 ∷ get_or r 3 0 ∷ get_or r 12 0 ∷ get_or r 13 0 ∷ get_or r 14 0 ∷ get_or r 15 0 ∷ []) ≡ 0 → sites ≤ from_be_bytes w32 (get_or r 4 0 ∷ get_or r 5 0 ∷ get_or r 6 0 ∷ get_or r 7 0 ∷ []) → Err Site ≡ read_record sites funcs r
call_site_in sites funcs r n e p q = subst (λ (l : List ℕ). Err Site ≡ read_record sites funcs l) (whole_as r 1 n e) (sym (call_site sites funcs (get_or r 1 0) (get_or r 2 0) (get_or r 3 0) (get_or r 4 0) (get_or r 5 0) (get_or r 6 0) (get_or r 7 0) (get_or r 8 0) (get_or r 9 0) (get_or r 10 0) (get_or r 11 0) (get_or r 12 0) (get_or r 13 0) (get_or r 14 0) (get_or r 15 0) p q))

pub call_func_in : (sites funcs : ℕ) (r : List ℕ) → length r ≡ 16 → get_or r 0 0 ≡ 1 → total (get_or r 1 0 ∷ get_or r 2 0 ∷ get_or r 3 0 ∷ get_or r 12 0 ∷ get_or r 13 0 ∷ get_or r 14 0 ∷ get_or r 15 0 ∷ []) ≡ 0 → from_be_bytes w32 (get_or r 4 0 ∷ get_or r 5 0 ∷ get_or r 6 0 ∷ get_or r 7 0 ∷ []) < sites → funcs ≤ from_be_bytes w32 (get_or r 8 0 ∷ get_or r 9 0 ∷ get_or r 10 0 ∷ get_or r 11 0 ∷ []) → Err Func ≡ read_record sites funcs r
call_func_in sites funcs r n e p q s = subst (λ (l : List ℕ). Err Func ≡ read_record sites funcs l) (whole_as r 1 n e) (sym (call_func sites funcs (get_or r 1 0) (get_or r 2 0) (get_or r 3 0) (get_or r 4 0) (get_or r 5 0) (get_or r 6 0) (get_or r 7 0) (get_or r 8 0) (get_or r 9 0) (get_or r 10 0) (get_or r 11 0) (get_or r 12 0) (get_or r 13 0) (get_or r 14 0) (get_or r 15 0) p q s))

pub call_in : (sites funcs : ℕ) (r : List ℕ) → length r ≡ 16 → get_or r 0 0 ≡ 1 → total (get_or r 1 0 ∷ get_or r 2 0 ∷ get_or r 3 0 ∷ get_or r 12 0 ∷ get_or r 13 0 ∷ get_or r 14 0 ∷ get_or r 15 0 ∷ []) ≡ 0 → from_be_bytes w32 (get_or r 4 0 ∷ get_or r 5 0 ∷ get_or r 6 0 ∷ get_or r 7 0 ∷ []) < sites → from_be_bytes w32 (get_or r 8 0 ∷ get_or r 9 0 ∷ get_or r 10 0 ∷ get_or r 11 0 ∷ []) < funcs → Ok (Call (from_be_bytes w32 (get_or r 4 0 ∷ get_or r 5 0 ∷ get_or r 6 0 ∷ get_or r 7 0 ∷ [])) (from_be_bytes w32 (get_or r 8 0 ∷ get_or r 9 0 ∷ get_or r 10 0 ∷ get_or r 11 0 ∷ []))) ≡ read_record sites funcs r
call_in sites funcs r n e p q s = subst (λ (l : List ℕ). Ok (Call (from_be_bytes w32 (get_or r 4 0 ∷ get_or r 5 0 ∷ get_or r 6 0 ∷ get_or r 7 0 ∷ [])) (from_be_bytes w32 (get_or r 8 0 ∷ get_or r 9 0 ∷ get_or r 10 0 ∷ get_or r 11 0 ∷ []))) ≡ read_record sites funcs l) (whole_as r 1 n e) (sym (call_read sites funcs (get_or r 1 0) (get_or r 2 0) (get_or r 3 0) (get_or r 4 0) (get_or r 5 0) (get_or r 6 0) (get_or r 7 0) (get_or r 8 0) (get_or r 9 0) (get_or r 10 0) (get_or r 11 0) (get_or r 12 0) (get_or r 13 0) (get_or r 14 0) (get_or r 15 0) p q s))

pub spawn_padded_in : (sites funcs : ℕ) (r : List ℕ) → length r ≡ 16 → get_or r 0 0 ≡ 2 → 0 < total (get_or r 1 0 ∷ get_or r 2 0 ∷ get_or r 3 0 ∷ get_or r 12 0 ∷ get_or r 13 0 ∷ get_or r 14 0 ∷ get_or r 15 0 ∷ []) → Err Padding ≡ read_record sites funcs r
spawn_padded_in sites funcs r n e p = subst (λ (l : List ℕ). Err Padding ≡ read_record sites funcs l) (whole_as r 2 n e) (sym (spawn_padded sites funcs (get_or r 1 0) (get_or r 2 0) (get_or r 3 0) (get_or r 4 0) (get_or r 5 0) (get_or r 6 0) (get_or r 7 0) (get_or r 8 0) (get_or r 9 0) (get_or r 10 0) (get_or r 11 0) (get_or r 12 0) (get_or r 13 0) (get_or r 14 0) (get_or r 15 0) p))

pub spawn_site_in : (sites funcs : ℕ) (r : List ℕ) → length r ≡ 16 → get_or r 0 0 ≡ 2 → total (get_or r 1 0 ∷ get_or r 2 0 ∷ get_or r 3 0 ∷ get_or r 12 0 ∷ get_or r 13 0 ∷ get_or r 14 0 ∷ get_or r 15 0 ∷ []) ≡ 0 → sites ≤ from_be_bytes w32 (get_or r 4 0 ∷ get_or r 5 0 ∷ get_or r 6 0 ∷ get_or r 7 0 ∷ []) → Err Site ≡ read_record sites funcs r
spawn_site_in sites funcs r n e p q = subst (λ (l : List ℕ). Err Site ≡ read_record sites funcs l) (whole_as r 2 n e) (sym (spawn_site sites funcs (get_or r 1 0) (get_or r 2 0) (get_or r 3 0) (get_or r 4 0) (get_or r 5 0) (get_or r 6 0) (get_or r 7 0) (get_or r 8 0) (get_or r 9 0) (get_or r 10 0) (get_or r 11 0) (get_or r 12 0) (get_or r 13 0) (get_or r 14 0) (get_or r 15 0) p q))

pub spawn_func_in : (sites funcs : ℕ) (r : List ℕ) → length r ≡ 16 → get_or r 0 0 ≡ 2 → total (get_or r 1 0 ∷ get_or r 2 0 ∷ get_or r 3 0 ∷ get_or r 12 0 ∷ get_or r 13 0 ∷ get_or r 14 0 ∷ get_or r 15 0 ∷ []) ≡ 0 → from_be_bytes w32 (get_or r 4 0 ∷ get_or r 5 0 ∷ get_or r 6 0 ∷ get_or r 7 0 ∷ []) < sites → funcs ≤ from_be_bytes w32 (get_or r 8 0 ∷ get_or r 9 0 ∷ get_or r 10 0 ∷ get_or r 11 0 ∷ []) → Err Func ≡ read_record sites funcs r
spawn_func_in sites funcs r n e p q s = subst (λ (l : List ℕ). Err Func ≡ read_record sites funcs l) (whole_as r 2 n e) (sym (spawn_func sites funcs (get_or r 1 0) (get_or r 2 0) (get_or r 3 0) (get_or r 4 0) (get_or r 5 0) (get_or r 6 0) (get_or r 7 0) (get_or r 8 0) (get_or r 9 0) (get_or r 10 0) (get_or r 11 0) (get_or r 12 0) (get_or r 13 0) (get_or r 14 0) (get_or r 15 0) p q s))

pub spawn_in : (sites funcs : ℕ) (r : List ℕ) → length r ≡ 16 → get_or r 0 0 ≡ 2 → total (get_or r 1 0 ∷ get_or r 2 0 ∷ get_or r 3 0 ∷ get_or r 12 0 ∷ get_or r 13 0 ∷ get_or r 14 0 ∷ get_or r 15 0 ∷ []) ≡ 0 → from_be_bytes w32 (get_or r 4 0 ∷ get_or r 5 0 ∷ get_or r 6 0 ∷ get_or r 7 0 ∷ []) < sites → from_be_bytes w32 (get_or r 8 0 ∷ get_or r 9 0 ∷ get_or r 10 0 ∷ get_or r 11 0 ∷ []) < funcs → Ok (Spawn (from_be_bytes w32 (get_or r 4 0 ∷ get_or r 5 0 ∷ get_or r 6 0 ∷ get_or r 7 0 ∷ [])) (from_be_bytes w32 (get_or r 8 0 ∷ get_or r 9 0 ∷ get_or r 10 0 ∷ get_or r 11 0 ∷ []))) ≡ read_record sites funcs r
spawn_in sites funcs r n e p q s = subst (λ (l : List ℕ). Ok (Spawn (from_be_bytes w32 (get_or r 4 0 ∷ get_or r 5 0 ∷ get_or r 6 0 ∷ get_or r 7 0 ∷ [])) (from_be_bytes w32 (get_or r 8 0 ∷ get_or r 9 0 ∷ get_or r 10 0 ∷ get_or r 11 0 ∷ []))) ≡ read_record sites funcs l) (whole_as r 2 n e) (sym (spawn_read sites funcs (get_or r 1 0) (get_or r 2 0) (get_or r 3 0) (get_or r 4 0) (get_or r 5 0) (get_or r 6 0) (get_or r 7 0) (get_or r 8 0) (get_or r 9 0) (get_or r 10 0) (get_or r 11 0) (get_or r 12 0) (get_or r 13 0) (get_or r 14 0) (get_or r 15 0) p q s))

pub ret_padded_in : (sites funcs : ℕ) (r : List ℕ) → length r ≡ 16 → get_or r 0 0 ≡ 3 → 0 < total (get_or r 1 0 ∷ get_or r 2 0 ∷ get_or r 3 0 ∷ get_or r 4 0 ∷ get_or r 5 0 ∷ get_or r 6 0 ∷ get_or r 7 0 ∷ get_or r 8 0 ∷ get_or r 9 0 ∷ get_or r 10 0 ∷ get_or r 11 0 ∷ get_or r 12 0 ∷ get_or r 13 0 ∷ get_or r 14 0 ∷ get_or r 15 0 ∷ []) → Err Padding ≡ read_record sites funcs r
ret_padded_in sites funcs r n e p = subst (λ (l : List ℕ). Err Padding ≡ read_record sites funcs l) (whole_as r 3 n e) (sym (ret_padded sites funcs (get_or r 1 0) (get_or r 2 0) (get_or r 3 0) (get_or r 4 0) (get_or r 5 0) (get_or r 6 0) (get_or r 7 0) (get_or r 8 0) (get_or r 9 0) (get_or r 10 0) (get_or r 11 0) (get_or r 12 0) (get_or r 13 0) (get_or r 14 0) (get_or r 15 0) p))

pub ret_in : (sites funcs : ℕ) (r : List ℕ) → length r ≡ 16 → get_or r 0 0 ≡ 3 → total (get_or r 1 0 ∷ get_or r 2 0 ∷ get_or r 3 0 ∷ get_or r 4 0 ∷ get_or r 5 0 ∷ get_or r 6 0 ∷ get_or r 7 0 ∷ get_or r 8 0 ∷ get_or r 9 0 ∷ get_or r 10 0 ∷ get_or r 11 0 ∷ get_or r 12 0 ∷ get_or r 13 0 ∷ get_or r 14 0 ∷ get_or r 15 0 ∷ []) ≡ 0 → Ok Ret ≡ read_record sites funcs r
ret_in sites funcs r n e p = subst (λ (l : List ℕ). Ok Ret ≡ read_record sites funcs l) (whole_as r 3 n e) (sym (ret_read sites funcs (get_or r 1 0) (get_or r 2 0) (get_or r 3 0) (get_or r 4 0) (get_or r 5 0) (get_or r 6 0) (get_or r 7 0) (get_or r 8 0) (get_or r 9 0) (get_or r 10 0) (get_or r 11 0) (get_or r 12 0) (get_or r 13 0) (get_or r 14 0) (get_or r 15 0) p))

pub sync_padded_in : (sites funcs : ℕ) (r : List ℕ) → length r ≡ 16 → get_or r 0 0 ≡ 4 → 0 < total (get_or r 1 0 ∷ get_or r 2 0 ∷ get_or r 3 0 ∷ get_or r 4 0 ∷ get_or r 5 0 ∷ get_or r 6 0 ∷ get_or r 7 0 ∷ get_or r 8 0 ∷ get_or r 9 0 ∷ get_or r 10 0 ∷ get_or r 11 0 ∷ get_or r 12 0 ∷ get_or r 13 0 ∷ get_or r 14 0 ∷ get_or r 15 0 ∷ []) → Err Padding ≡ read_record sites funcs r
sync_padded_in sites funcs r n e p = subst (λ (l : List ℕ). Err Padding ≡ read_record sites funcs l) (whole_as r 4 n e) (sym (sync_padded sites funcs (get_or r 1 0) (get_or r 2 0) (get_or r 3 0) (get_or r 4 0) (get_or r 5 0) (get_or r 6 0) (get_or r 7 0) (get_or r 8 0) (get_or r 9 0) (get_or r 10 0) (get_or r 11 0) (get_or r 12 0) (get_or r 13 0) (get_or r 14 0) (get_or r 15 0) p))

pub sync_in : (sites funcs : ℕ) (r : List ℕ) → length r ≡ 16 → get_or r 0 0 ≡ 4 → total (get_or r 1 0 ∷ get_or r 2 0 ∷ get_or r 3 0 ∷ get_or r 4 0 ∷ get_or r 5 0 ∷ get_or r 6 0 ∷ get_or r 7 0 ∷ get_or r 8 0 ∷ get_or r 9 0 ∷ get_or r 10 0 ∷ get_or r 11 0 ∷ get_or r 12 0 ∷ get_or r 13 0 ∷ get_or r 14 0 ∷ get_or r 15 0 ∷ []) ≡ 0 → Ok Sync ≡ read_record sites funcs r
sync_in sites funcs r n e p = subst (λ (l : List ℕ). Ok Sync ≡ read_record sites funcs l) (whole_as r 4 n e) (sym (sync_read sites funcs (get_or r 1 0) (get_or r 2 0) (get_or r 3 0) (get_or r 4 0) (get_or r 5 0) (get_or r 6 0) (get_or r 7 0) (get_or r 8 0) (get_or r 9 0) (get_or r 10 0) (get_or r 11 0) (get_or r 12 0) (get_or r 13 0) (get_or r 14 0) (get_or r 15 0) p))

-- the two numbers of 64 bits that the code reads, and what its masks take from them
pub record Halves (r : List ℕ) (front back : ℕ) : Type 0 where
  pub tag : front / 72057594037927936 ≡ get_or r 0 0
  pub head : bit_and (front / 4294967296) 16777215 ≡ get_or r 1 0 * 65536 + get_or r 2 0 * 256 + get_or r 3 0
  pub low : bit_and front 4294967295 ≡ get_or r 4 0 * 16777216 + get_or r 5 0 * 65536 + get_or r 6 0 * 256 + get_or r 7 0
  pub rest : bit_and front 72057594037927935 ≡ get_or r 1 0 * 281474976710656 + get_or r 2 0 * 1099511627776 + get_or r 3 0 * 4294967296 + get_or r 4 0 * 16777216 + get_or r 5 0 * 65536 + get_or r 6 0 * 256 + get_or r 7 0
  pub high : back / 4294967296 ≡ get_or r 8 0 * 16777216 + get_or r 9 0 * 65536 + get_or r 10 0 * 256 + get_or r 11 0
  pub tail : bit_and back 4294967295 ≡ get_or r 12 0 * 16777216 + get_or r 13 0 * 65536 + get_or r 14 0 * 256 + get_or r 15 0

pub halves : (r : List ℕ) (front back : ℕ) → ((i : ℕ) → get_or r i 0 < 256) → front ≡ get_or r 0 0 * 72057594037927936 + get_or r 1 0 * 281474976710656 + get_or r 2 0 * 1099511627776 + get_or r 3 0 * 4294967296 + get_or r 4 0 * 16777216 + get_or r 5 0 * 65536 + get_or r 6 0 * 256 + get_or r 7 0 → back ≡ get_or r 8 0 * 72057594037927936 + get_or r 9 0 * 281474976710656 + get_or r 10 0 * 1099511627776 + get_or r 11 0 * 4294967296 + get_or r 12 0 * 16777216 + get_or r 13 0 * 65536 + get_or r 14 0 * 256 + get_or r 15 0 → Halves r front back
halves r front back fits e d =
    let f0 = fits 0 in let f1 = fits 1 in let f2 = fits 2 in let f3 = fits 3 in let f4 = fits 4 in let f5 = fits 5 in let f6 = fits 6 in let f7 = fits 7 in
    let f8 = fits 8 in let f9 = fits 9 in let f10 = fits 10 in let f11 = fits 11 in let f12 = fits 12 in let f13 = fits 13 in let f14 = fits 14 in let f15 = fits 15 in
    let m1 : bit_and (front / 4294967296) 16777215 ≡ front / 4294967296 % 16777216 = and_mask (front / 4294967296) 24 in
    let m2 : bit_and front 4294967295 ≡ front % 4294967296 = and_mask front 32 in
    let m3 : bit_and front 72057594037927935 ≡ front % 72057594037927936 = and_mask front 56 in
    let m4 : bit_and back 4294967295 ≡ back % 4294967296 = and_mask back 32 in
    record { tag = omega arith; head = omega arith; low = omega arith; rest = omega arith; high = omega arith; tail = omega arith }
