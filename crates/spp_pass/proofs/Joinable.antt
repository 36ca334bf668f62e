-- A stretch can be joined where the run, whose trace it is part of, keeps what it keeps.
use Rattle.std.proofs.Common.{◌≡◌, ℕ, ◌+◌, ◌*◌, ◌<◌, ◌≤◌, ◌^◌, List, [], ◌∷◌, ◌++◌, reverse, map, Option, Some, None, refl, sym, ap, subst, arith}
use Rattle.std.proofs.lemmas.Grind.{reverse_onto}
use Rattle.spp_event.specs.Recordings.{Recording}
use Rattle.spp_maxplus.specs.declared.state.Burdens.{Burdens}
use Rattle.spp_maxplus.specs.Weights.{close}
use Rattle.spp_dag.specs.Shares.{plus}
use Rattle.spp_site.specs.Rows.{Fits}
use Rattle.spp_site.specs.Profiles.{key_row}
use Rattle.spp_site.proofs.RowSums.{low_fits}
use Rattle.spp_pass.specs.declared.counted_frame.CountedFrame.{CountedFrame}
use Rattle.spp_pass.specs.declared.calls.CallRow.{CallRow}
use Rattle.spp_pass.specs.LeanFrames.{plain_sum, burdened_sum}
use Rattle.spp_pass.specs.Passes.{Seen, OnTop}
use Rattle.spp_pass.specs.CallRows.{calls_row, AreCallsBelow}
use Rattle.spp_pass.specs.Stretches.{enclosure, FitsPlace, FitPlaces, FitsJoin, CanJoin, IsJoined}
use Rattle.spp_pass.proofs.Projected.{lean, counted}
use Rattle.spp_pass.proofs.Bounded.{owed, local_le}
use Rattle.spp_pass.proofs.Passed.{Passed}
use Rattle.spp_pass.proofs.Alone.{Alone, IsSince, IsWithin, AllWithin}

-- ---- the outer frame

-- r is the last of these
abbrev pub IsLastOf : CountedFrame → List CountedFrame → Type 0
IsLastOf r [] = ⊥
IsLastOf r (f ∷ []) = f ≡ r
IsLastOf r (f ∷ h ∷ fs) = IsLastOf r (h ∷ fs)

last_append : (xs : List CountedFrame) (r : CountedFrame) → IsLastOf r (xs ++ r ∷ [])
last_append [] r = refl
last_append (x ∷ []) r = refl
last_append (x ∷ y ∷ xs) r = last_append (y ∷ xs) r

-- the frames of a stretch, as they are kept
pub last_of_reverse : (r : CountedFrame) (rs : List CountedFrame) → IsLastOf r (reverse (r ∷ rs))
last_of_reverse r rs = subst (IsLastOf r) (sym (reverse_onto rs r [])) (last_append (reverse rs) r)

last_within : (k w : ℕ) (r : CountedFrame) (fs : List CountedFrame) → IsLastOf r fs → AllWithin k w fs → IsWithin k w r
last_within k w r [] is h = absurd is
last_within k w r (f ∷ []) is h = subst (IsWithin k w) is h.0
last_within k w r (f ∷ x ∷ fs) is h = last_within k w r (x ∷ fs) is h.1

last_plain : (r : CountedFrame) (fs : List CountedFrame) → IsLastOf r fs → close r.plain ≤ plain_sum (map lean fs)
last_plain r [] is = absurd is
last_plain r (f ∷ []) is = let e : close f.plain ≡ close r.plain = ap (λ (x : CountedFrame). close x.plain) is in omega arith
last_plain r (f ∷ x ∷ fs) is = let h = last_plain r (x ∷ fs) is in omega arith

last_burdened : (r : CountedFrame) (fs : List CountedFrame) → IsLastOf r fs → close r.burdened ≤ burdened_sum (map lean fs)
last_burdened r [] is = absurd is
last_burdened r (f ∷ []) is = let e : close f.burdened ≡ close r.burdened = ap (λ (x : CountedFrame). close x.burdened) is in omega arith
last_burdened r (f ∷ x ∷ fs) is = let h = last_burdened r (x ∷ fs) is in omega arith

-- ---- the places

fits_place : (first k : ℕ) (c : Option ℕ) → first + k ≤ 268435456 → IsSince k c → FitsPlace first c
fits_place first k None few h = tt
fits_place first k (Some at) few h = omega arith

fit_places : (before first k w : ℕ) (fs : List CountedFrame) → before + w < 2 ^ 128 → first + k ≤ 268435456 → AllWithin k w fs → FitPlaces before first fs
fit_places before first k w [] fits few h = tt
fit_places before first k w (f ∷ fs) fits few h = (
  (let x = h.0.1 in omega arith),
  (let x = h.0.2 in omega arith),
  fits_place first k f.child few h.0.3,
  fits_place first k f.burdened_child few h.0.4,
  fit_places before first k w fs fits few h.1,
)

-- ---- the whole

pub can_join : (trace : Recording) (burdens : Burdens) (first k i j : ℕ) (a old new : Seen) (calls : List CallRow) (g : CountedFrame) (gs : List CountedFrame) (r : CountedFrame)
    → i ≤ 268435456 → j ≤ 268435456 → first + k ≤ 268435456 → AreCallsBelow 65536 calls → old.frames ≡ g ∷ gs → IsLastOf r a.frames
    → Passed trace burdens 0 i old → Passed trace burdens 0 j new → Alone k a → IsJoined first a.frames a.work calls g gs old new → CanJoin first a.frames r a.work calls old
can_join trace burdens first k i j a old new calls g gs r few_before few short below frames last before after alone joined =
    let p : Passed trace burdens 0 i (record old { frames = g ∷ gs }) = subst (λ (l : List CountedFrame). Passed trace burdens 0 i (record old { frames = l })) frames before in
    let plain : close g.plain + _ ≤ old.work = p.reached.plain in
    let burdened : close g.burdened + _ ≤ old.work + 8589934592 * i = p.reached.burdened in
    let small : old.work ≤ 18446744073709551615 * i = p.reached.small in
    let local : g.local ≤ old.work = local_le i (counted g) (map counted gs) old.open_sites old.open_funcs old.work old.table p.bounded in
    let more : a.work ≤ 18446744073709551615 * k = alone.small in
    let outer = last_within k a.work r a.frames last alone.within in
    let outer_local : r.local ≤ a.work = outer.0 in
    let outer_plain = last_plain r a.frames last in
    let outer_burdened = last_burdened r a.frames last in
    let all_plain = alone.plain in
    let all_burdened = alone.burdened in
    let now : new.work ≤ 18446744073709551615 * j = after.reached.small in
    let weights : FitsJoin r g = record { plain = omega arith; burdened = omega arith; local = omega arith } in
    let rows : (key : Option ℕ) → Fits (plus (key_row old.table key) (calls_row (enclosure g old) calls key)) = λ key.
    low_fits j new.work (plus (key_row old.table key) (calls_row (enclosure g old) calls key)) (owed (map counted new.frames) key) (plus (key_row new.table key) (owed (map counted new.frames) key))
    (ap (λ q. plus q (owed (map counted new.frames) key)) (sym (joined.table key))) (after.bounded.low key) (omega arith) (omega arith) in
    record {
      top = subst (OnTop (λ g. FitsJoin r g × ((key : Option ℕ) → Fits (plus (key_row old.table key) (calls_row (enclosure g old) calls key))))) (sym frames) (weights, rows);
      work = omega arith;
      sites = below;
      places = fit_places old.work first k a.work a.frames (omega arith) short alone.within;
    }
