-- Reading a trace block by block, while its records are gone over.
use Rattle.std.proofs.Common.{◌≡◌, ◌⊎◌, ℕ, ◌+◌, ◌-◌, ◌≤◌, ◌<◌, ◌^◌, Bool, true, false, List, ◌++◌, length, take, drop, Option, refl, sym, ap, subst, ◌∙◌, append-nil, append_assoc, length-append, arith, inl, inr}
use Rattle.std.proofs.lemmas.Bool.{cases_lt}
use Rattle.std.proofs.lemmas.List.{length-take, length-take-le, take-append-drop, take-take}
use Rattle.spp_event.specs.Places.{IsJoint}
use Rattle.spp_event.specs.Recordings.{count_in}
use Rattle.spp_event.specs.declared.version.Version.{Version}
use Rattle.spp_event.specs.declared.version.Version.TheVariants.{Two}
use Rattle.spp_event.proofs.JoinedEvents.{joint_first}
use Rattle.spp_shell.specs.BlockReads.{IsReadTo, IsNextBlock, IsNoBlock}
use Rattle.spp_shell.specs.Devices.{giving_of}
use Rattle.spp_shell.specs.RecordStreams.{AreWhole, HasStreamed, HasGoneOver, CanFollow}
use Rattle.spp_shell.specs.Streams.{HasRead}
use Rattle.spp_shell.specs.declared.block_read.NextBlock.{NextBlock}
use Rattle.spp_shell.specs.declared.reading.ReadFault.{ReadFault}
use Rattle.spp_shell.specs.declared.record_stream.Head.{Head}
use Rattle.spp_shell.proofs.Streams.{began_within, read_first}
use Rattle.spp_shell.proofs.RecordStreams.{none_in, before_rest, gone_over, more_came}

-- the first bytes of a buffer are those that another begins with
pub next_kept : (f k : ℕ) (old new : List ℕ) → f ≤ length old → f ≤ k → take f new ≡ take f old → take (length (take f old)) (take k new) ≡ take f old
next_kept f k old new held le same = ap (λ (n : ℕ). take n (take k new)) (length-take-le f old held) ∙ take-take f k new le ∙ same

pub prefix_kept : (f k : ℕ) (old mid new : List ℕ) → f ≤ k → take k new ≡ take k mid → take f mid ≡ take f old → take f new ≡ take f old
prefix_kept f k old mid new le same kept = sym (take-take f k new le) ∙ ap (λ (l : List ℕ). take f l) same ∙ take-take f k mid le ∙ kept

-- they are no more than it has
pub kept_within : (left items : List ℕ) (k : ℕ) → take (length left) (take k items) ≡ left → length left ≤ k
kept_within left items k kept =
    let a : length (take (length left) (take k items)) ≡ length left = ap (λ (l : List ℕ). length l) kept in
    let b = length-take (length left) (take k items) in
    let c = length-take k items in
    omega (arith, a, b, c)

-- where more bytes are left of an item than of none before it
pub left_open : (before filled w left len b : ℕ) → w ≤ filled → left ≡ filled - w → b ≡ before + w → (before ≡ len) ⊎ (0 < filled) → (0 < filled → w < filled) → (b ≡ len) ⊎ (0 < left)
left_open before filled w left len b le is at (inl front) on = elim (cases_lt 0 filled) [ inl some ↦ inr (omega (arith, le, is, on some)) | inr none ↦ inl (omega (arith, none, front, le, at)) ]
left_open before filled w left len b le is at (inr some) on = inr (omega (arith, le, is, on some))

module _ {S : Type 0} (answered : S → Option (List ℕ) → S → Type 0) (failed : S → S → Type 0) (failures : S → ℕ) where
  -- what was read, up to the end or not, is within the bounds
  pub block_within : (n : ℕ) (s t : S) (xs : List ℕ) (ended : Bool) → n < 2 ^ 33 → IsReadTo answered failed failures n s xs t ended → (giving_of answered failed failures s t).Within
  block_within n s t xs true lt is = inr (xs, is.1 refl)
  block_within n s t xs false lt is = began_within answered failed failures s t xs (read_first answered failed failures n s t xs (is.0 refl) lt)

module _ {V : Type 0} (seen_by : V → ℕ) (has_seen : Version → V → V → List ℕ → Type 0) where
  -- where the first bytes are no events, or too many, none of which was gone over, and the others are left
  pub passed_over : (records : V) (head : Head) (events n w : ℕ) (came rest : List ℕ) → rest ≡ drop w came → n ≡ count_in head.version (take w came)
      → AreWhole head.version (count_in head.version (take w came)) (take w came) → IsJoint head.version (take w came) (drop w came)
      → (w ≡ 0) ⊎ (head.count < events + n) → (events ≤ head.count → seen_by records ≡ events)
      → HasGoneOver seen_by has_seen records records head events (events + n) came rest
  passed_over records head events n w came rest is counted whole joint why count =
      let v = head.version in
      record {
        gone = take w came;
        parts = sym (take-append-drop w came) ∙ ap (λ (l : List ℕ). take w came ++ l) (sym is);
        whole = whole;
        counted = ap (λ (k : ℕ). events + k) counted;
        joint = subst (λ (l : List ℕ). IsJoint v (take w came) l) (sym is) joint;
        count = λ le. elim why [
          | inl none ↦ (let z : n ≡ 0 = counted ∙ ap (λ (k : ℕ). count_in v (take k came)) none ∙ none_in v in omega (arith, z, count (omega (arith, le))))
          | inr many ↦ absurd (omega (arith, le, many))
        ];
        seen = λ le first xs all behind was. elim why [
          | inl none ↦ subst (λ (l : List ℕ). has_seen v first records l) (sym (append-nil xs) ∙ ap (λ (k : ℕ). xs ++ take k came) (sym none)) was
          | inr many ↦ absurd (omega (arith, le, many))
        ];
      }

  module _ (first now then : V) (head : Head) (events behind before b : ℕ) (header rest left all : List ℕ)
      (p : HasStreamed seen_by has_seen first now head events before header rest all) (g : HasGoneOver seen_by has_seen now then head events behind rest left)
      (at : b ≡ before + (length rest - length left)) where
    abbrev pub over : HasStreamed seen_by has_seen first then head behind b header left all
    over = gone_over seen_by has_seen first now head events before header rest all p then behind b left g at

    module _ {S : Type 0} (answered : S → Option (List ℕ) → S → Type 0) (failed : S → S → Type 0) (failures : S → ℕ) (n : ℕ) (old new : S) where
      -- what came so far, told as what went before and what is left
      pub read_before : (s : S) → HasRead answered failed failures n s all old → HasRead answered failed failures n s ((header ++ over.done) ++ left) old
      read_before s h = subst (λ (l : List ℕ). HasRead answered failed failures n s l old) over.parts h

      pub len_before : length (header ++ over.done) ≡ b
      len_before = before_rest seen_by has_seen first then head behind b header left all over

      -- no more could be read
      pub refused_on : (fault : ReadFault) → IsNoBlock answered failed failures b n left old fault new → (s : S) → HasRead answered failed failures n s all old → (giving_of answered failed failures s new).Refused fault
      refused_on fault is s h = is s (header ++ over.done) len_before (read_before s h)

      module _ (due : ℕ) (next : NextBlock) (is : IsNextBlock answered failed failures b due n left old next new) (opens : head.version ≡ Two → (b ≡ head.len) ⊎ (0 < length left)) where
        -- more came
        abbrev pub all_now : List ℕ
        all_now = (header ++ over.done) ++ take next.came.filled next.came.bytes.items

        pub streamed_on : HasStreamed seen_by has_seen first then head behind b header (take next.came.filled next.came.bytes.items) all_now
        streamed_on = more_came seen_by has_seen first then head behind b header left all over (take next.came.filled next.came.bytes.items) is.kept opens

        pub read_to : (s : S) → HasRead answered failed failures n s all old → IsReadTo answered failed failures next.came.reads s all_now new next.ended
        read_to s h = is.read s (header ++ over.done) len_before (read_before s h)

  -- what came, told as whole events behind what went before, and what is left
  module _ (first now : V) (head : Head) (events before : ℕ) (header rest left all : List ℕ) (p : HasStreamed seen_by has_seen first now head events before header rest all) (w : ℕ) where
    pub len_cut : w ≤ length rest → length ((header ++ p.done) ++ take w rest) ≡ before + w
    len_cut le =
        let a = length-append (header ++ p.done) (take w rest) in
        let b = before_rest seen_by has_seen first now head events before header rest all p in
        omega (arith, a, b, length-take-le w rest le)

    pub read_cut : {S : Type 0} (answered : S → Option (List ℕ) → S → Type 0) (failed : S → S → Type 0) (failures : S → ℕ) (n : ℕ) (s t : S) → left ≡ drop w rest
        → HasRead answered failed failures n s all t → HasRead answered failed failures n s (((header ++ p.done) ++ take w rest) ++ left) t
    read_cut answered failed failures n s t is h =
        let d : List ℕ = header ++ p.done in
        let split : all ≡ (d ++ take w rest) ++ left =
        p.parts ∙ ap (λ (l : List ℕ). d ++ l) (sym (take-append-drop w rest)) ∙ sym (append_assoc d (take w rest) (drop w rest)) ∙ ap (λ (l : List ℕ). (d ++ take w rest) ++ l) (sym is) in
        subst (λ (l : List ℕ). HasRead answered failed failures n s l t) split h

  -- whole events of what came, which are no more than the header claims, can be gone over
  pub can_follow : (first now : V) (head : Head) (events before : ℕ) (header rest all : List ℕ) → HasStreamed seen_by has_seen first now head events before header rest all
      → (n w : ℕ) → n ≡ count_in head.version (take w rest) → events + n ≤ head.count → CanFollow seen_by has_seen head.version now n (take w rest)
  can_follow first now head events before header rest all p n w counted le =
      let v = head.version in
      let h = p.is_head in
      let few : events ≤ head.count = omega (arith, le) in
      record {
        counted = counted;
        room = (let c = p.count few in omega (arith, c, le, h.count_is, h.limits.events));
        seen = (
          first,
          p.done,
          subst (λ (k : ℕ). AreWhole v k p.done) (sym (p.count few)) p.whole,
          joint_first v p.done (take w rest) (drop w rest) (subst (λ (l : List ℕ). IsJoint v p.done l) (sym (take-append-drop w rest)) p.joint),
          p.seen few,
        );
      }
