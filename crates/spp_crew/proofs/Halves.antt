-- The marks of some parts from those of their two halves.
use Rattle.std.proofs.Common.{◌≡◌, ℕ, ◌+◌, ◌-◌, ◌/◌, ◌<◌, ◌≤◌, List, ◌++◌, length, take, drop, Result, Ok, Err, OnOk, sym, ap, subst, ◌∙◌, arith}
use Rattle.spp_event.specs.declared.records.Event.{Event}
use Rattle.spp_event.specs.Recordings.{Recording}
use Rattle.spp_frame.specs.Nesting.{AreEvents}
use Rattle.spp_cut.specs.Parts.{PartOf, CutOf, HasFewParts, events_in}
use Rattle.spp_maxplus.specs.declared.state.Burdens.{Burdens}
use Rattle.spp_stack.specs.Chain.{Stacks}
use Rattle.spp_path.specs.Marks.{AreMarksOf}
use Rattle.spp_path.specs.Settled.{PathOf}
use Rattle.spp_jobs.specs.Paths.{IsSettledOver}
use Rattle.spp_jobs.specs.Names.{parts_from}
use Rattle.spp_jobs.proofs.Cuts.{range_all}
use Rattle.spp_crew.proofs.Marked.{events_parted, events_to, range_events, marks_two}
use Rattle.spp_crew.specs.Marks.{CanMark, AreMarked, AreMarksFrom}

pub ok_also : {X E P Q : Type 0} (x : Result X E) → (P → Q) → OnOk x P → OnOk x Q
ok_also (Ok r) f p = f p
ok_also (Err e) f p = tt

pub half_some : (n : ℕ) → 1 < n → 0 < n / 2
half_some n more = omega arith

pub half_less : (n : ℕ) → 0 < n → n / 2 < n
half_less n some = omega arith

-- what marks one part marks it where it stands among all
pub marked_one : (cut : CutOf) (from : ℕ) (p : PartOf) → p.trace ≡ cut.trace → p.first ≡ events_in (take from cut.parts) → (b : Burdens) (marks : List ℕ)
    → ((es : List Event) → AreEvents p.trace.records es → AreMarksOf es b p.first marks) → AreMarksFrom cut b from marks
marked_one cut from p trace first b marks told es are =
    subst (λ n. AreMarksOf es b n marks) first (told es (subst (λ (x : Recording). AreEvents x.records es) (sym trace) are))

-- what marks both halves marks all
pub marked_both : (cut : CutOf) (path : PathOf) (from middle : ℕ) → from ≤ middle → (xs ys : List ℕ) → length xs ≡ events_in (parts_from cut from middle)
    → AreMarked cut path from xs → AreMarked cut path middle ys → AreMarked cut path from (xs ++ ys)
marked_both cut path from middle le xs ys long left right b settled es are =
    let at = events_to cut from middle le in
    marks_two es b (events_in (take from cut.parts)) (events_in (take middle cut.parts)) xs ys (omega arith) (left b settled es are) (right b settled es are)

-- the two halves can be marked in the bytes that are lent for them
pub halves_can : (cut : CutOf) (s : Stacks) (path : PathOf) (from end : ℕ) (bytes : List ℕ) → CanMark cut s path from end bytes → 1 < end - from
    → (read : List PartOf) → read ≡ cut.parts → (events : ℕ) → events ≡ events_in (take ((end - from) / 2) (take (end - from) (drop from read)))
    → (xs ys : List ℕ) → length xs ≡ events → events + length ys ≡ length bytes
    → CanMark cut s path from (from + (end - from) / 2) xs × CanMark cut s path (from + (end - from) / 2) end ys
halves_can cut s path from end bytes can more read same events is xs ys first second =
    let h = (end - from) / 2 in
    let some : 0 < h = half_some (end - from) more in
    let less : h < end - from = half_less (end - from) (omega arith) in
    let front : events ≡ events_in (parts_from cut from (from + h)) = is ∙ range_events cut read from end h same (omega arith) in
    let all = events_parted cut from (from + h) end (omega arith) (omega arith) in
    let lower : from < end = can.some in
    let whole : length bytes ≡ events_in (parts_from cut from end) = can.bytes in
    let within : end ≤ length cut.parts = can.parts in (
      record { some = omega arith; parts = omega arith; bytes = first ∙ front; settled = can.settled },
      record { some = omega arith; parts = within; bytes = omega arith; settled = can.settled },
    )

-- what holds where the one is good holds, since it is
pub ok_then : {X Y E : Type 0} (P : Type 0) (x : Result X E) (r : X) (y : Result Y E) → x ≡ Ok r → OnOk x P → OnOk y P
ok_then P x r (Ok s) is told = subst (λ z. OnOk z P) is told
ok_then P x r (Err e) is told = tt

pub ok_and : {X E P Q S : Type 0} (x : Result X E) → (P → Q → S) → OnOk x P → OnOk x Q → OnOk x S
ok_and (Ok r) f p q = f p q
ok_and (Err e) f p q = tt

-- all parts can be marked in a byte for each record
pub all_can : (cut : CutOf) (s : Stacks) (path : PathOf) (read : List PartOf) → read ≡ cut.parts → HasFewParts cut → events_in cut.parts ≡ length cut.trace.records
    → (bytes : List ℕ) → length bytes ≡ length cut.trace.records → IsSettledOver cut s path → CanMark cut s path 0 (length read) bytes
all_can cut s path read same few all bytes long over =
    let n : length read ≡ length cut.parts = ap (λ (ps : List PartOf). length ps) same in
    let parts : parts_from cut 0 (length read) ≡ cut.parts = range_all cut.parts (length read) n in
    let some : 0 < length cut.parts = few.0 in
    record {
      some = omega arith;
      parts = omega arith;
      bytes = long ∙ sym all ∙ ap (λ (ps : List PartOf). events_in ps) (sym parts);
      settled = over;
    }
