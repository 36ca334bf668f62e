-- How bytes that were read lie in a header, whole events and the rest.
use Rattle.std.proofs.Common.{◌≡◌, ◌⊎◌, ℕ, ◌+◌, ◌-◌, ◌≤◌, ◌<◌, List, [], ◌++◌, length, take, drop, Option, refl, sym, ap, subst, ◌∙◌, append_assoc, append-nil, length-append, arith, inl, inr}
use Rattle.std.proofs.lemmas.List.{take-append-drop}
use Rattle.std.proofs.Math.Seq.{take-length}
use Rattle.spp_event.specs.Recordings.{Record, records_of, count_in}
use Rattle.spp_event.specs.Items.{items}
use Rattle.spp_event.specs.Places.{IsJoint}
use Rattle.spp_event.specs.declared.version.Version.{Version}
use Rattle.spp_event.specs.declared.version.Version.TheVariants.{One, Two}
use Rattle.spp_event.proofs.ItemSamples.{few_begun}
use Rattle.spp_event.proofs.JoinedEvents.{events_joined, filled_joined, joint_first, joint_moved, joint_more, none_joint}
use Rattle.spp_shell.specs.RecordStreams.{AreWhole, HasStreamed, HasGoneOver}
use Rattle.spp_shell.specs.Streams.{HasRead}
use Rattle.spp_shell.specs.declared.record_stream.Head.{Head}

-- the records of bytes that were seen, and of more
pub seen_more : (Seen : List Record → Type 0) (v : Version) (sites funcs n k m : ℕ) (xs ys : List ℕ) → AreWhole v n xs → IsJoint v xs ys → m ≡ n + k → Seen (records_of v sites funcs n xs ++ records_of v sites funcs k ys) → Seen (records_of v sites funcs m (xs ++ ys))
seen_more Seen v sites funcs n k m xs ys whole joint counted seen =
    subst (λ (j : ℕ). Seen (records_of v sites funcs j (xs ++ ys))) (sym counted) (subst (λ (l : List Record). Seen l) (events_joined v sites funcs n k xs ys joint whole) seen)

-- no bytes are no events
pub none_in : (v : Version) → count_in v [] ≡ 0
none_in One = (let z : count_in One [] ≡ 0 = omega arith in z)
none_in Two = refl

pub none_whole : (v : Version) (n : ℕ) → n ≡ 0 → AreWhole v n []
none_whole One n e = omega (arith, e)
none_whole Two n e = sym e

-- events are no more than bytes
pub count_few : (v : Version) (xs : List ℕ) → count_in v xs ≤ length xs
count_few One xs = (let z : count_in One xs ≤ length xs = omega arith in z)
count_few Two xs = subst (λ (l : List ℕ). length (items l) ≤ length xs) (take-length xs) (let few = few_begun xs 0 (length xs) (omega arith) in omega (arith, few))

pub joint_on : (v : Version) (xs ys zs : List ℕ) → (v ≡ Two → (length xs ≡ 0) ⊎ (0 < length ys)) → IsJoint v xs ys → IsJoint v xs (ys ++ zs)
joint_on One xs ys zs some joint = tt
joint_on Two xs ys zs some joint = joint_more Two xs ys zs (some refl) joint

module _ {V : Type 0} (seen_by : V → ℕ) (has_seen : Version → V → V → List ℕ → Type 0) where
  -- where all bytes are left
  pub none_gone : (records : V) (head : Head) (events : ℕ) (bytes : List ℕ) → (events ≤ head.count → seen_by records ≡ events) → HasGoneOver seen_by has_seen records records head events events bytes bytes
  none_gone records head events bytes count =
      record {
        gone = [];
        parts = refl;
        whole = none_whole head.version (count_in head.version []) (none_in head.version);
        counted = omega (arith, none_in head.version);
        joint = none_joint head.version bytes;
        count = count;
        seen = λ le first xs whole joint seen. subst (λ (l : List ℕ). has_seen head.version first records l) (sym (append-nil xs)) seen;
      }

  -- where the first bytes were gone over, and the others are left
  pub whole_gone : (records then : V) (head : Head) (events n w : ℕ) (came rest : List ℕ) → rest ≡ drop w came → n ≡ count_in head.version (take w came)
      → AreWhole head.version (count_in head.version (take w came)) (take w came) → IsJoint head.version (take w came) (drop w came)
      → (events ≤ head.count → seen_by records ≡ events) → seen_by then ≡ seen_by records + n
      → ((first : V) (xs : List ℕ) → AreWhole head.version (seen_by records) xs → IsJoint head.version xs (take w came) → has_seen head.version first records xs → has_seen head.version first then (xs ++ take w came))
      → HasGoneOver seen_by has_seen records then head events (events + n) came rest
  whole_gone records then head events n w came rest is counted whole joint count now_count now_seen =
      let v = head.version in
      record {
        gone = take w came;
        parts = sym (take-append-drop w came) ∙ ap (λ (l : List ℕ). take w came ++ l) (sym is);
        whole = whole;
        counted = ap (λ (k : ℕ). events + k) counted;
        joint = subst (λ (l : List ℕ). IsJoint v (take w came) l) (sym is) joint;
        count = λ le. omega (arith, now_count, count (omega (arith, le)));
        seen = λ le first xs all behind was. now_seen first xs (subst (λ (k : ℕ). AreWhole v k xs) (sym (count (omega (arith, le)))) all)
            (joint_first v xs (take w came) (drop w came) (subst (λ (l : List ℕ). IsJoint v xs l) (sym (take-append-drop w came)) behind)) was;
      }

  module _ (first now : V) (head : Head) (events before : ℕ) (header rest all : List ℕ) (p : HasStreamed seen_by has_seen first now head events before header rest all) where
    pub before_rest : length (header ++ p.done) ≡ before
    before_rest = length-append header p.done ∙ p.before_is

    -- what came so far, where the rest lies in another buffer
    pub read_here : {S : Type 0} (answered : S → Option (List ℕ) → S → Type 0) (failed : S → S → Type 0) (failures : S → ℕ) (n : ℕ) (s t : S) (other : List ℕ) → other ≡ rest
        → HasRead answered failed failures n s all t → HasRead answered failed failures n s ((header ++ p.done) ++ other) t
    read_here answered failed failures n s t other e h =
        subst (λ (l : List ℕ). HasRead answered failed failures n s l t) (p.parts ∙ ap (λ (l : List ℕ). (header ++ p.done) ++ l) (sym e)) h

    -- whole events of the rest have been gone over
    pub gone_over : (then : V) (behind b : ℕ) (left : List ℕ) → HasGoneOver seen_by has_seen now then head events behind rest left → b ≡ before + (length rest - length left) → HasStreamed seen_by has_seen first then head behind b header left all
    gone_over then behind b left g at =
        let d = p.done in
        let joint : IsJoint head.version d (g.gone ++ left) = subst (λ (l : List ℕ). IsJoint head.version d l) g.parts p.joint in
        let lens : length rest ≡ length g.gone + length left = ap (λ (l : List ℕ). length l) g.parts ∙ length-append g.gone left in
        let more = length-append d g.gone in
        let first_joint : IsJoint head.version d g.gone = joint_first head.version d g.gone left joint in
        record {
          done = d ++ g.gone;
          parts = p.parts ∙ ap (λ (l : List ℕ). (header ++ d) ++ l) g.parts ∙ sym (append_assoc (header ++ d) g.gone left) ∙ ap (λ (l : List ℕ). l ++ left) (append_assoc header d g.gone);
          is_head = p.is_head;
          len = p.len;
          before_is = omega (arith, more, at, lens, p.before_is);
          whole = subst (λ (n : ℕ). AreWhole head.version n (d ++ g.gone)) (sym g.counted) (filled_joined head.version events (count_in head.version g.gone) d g.gone first_joint p.whole g.whole);
          joint = joint_moved head.version d g.gone left joint g.joint;
          count = g.count;
          seen = λ le. g.seen le first d p.whole p.joint (p.seen (omega (arith, le, g.counted)));
        }

    -- more bytes have come
    pub more_came : (next : List ℕ) → take (length rest) next ≡ rest → (head.version ≡ Two → (before ≡ head.len) ⊎ (0 < length rest)) → HasStreamed seen_by has_seen first now head events before header next ((header ++ p.done) ++ next)
    more_came next same opens =
        let n = length rest in
        let split : rest ++ drop n next ≡ next = ap (λ (l : List ℕ). l ++ drop n next) (sym same) ∙ take-append-drop n next in
        record {
          done = p.done;
          parts = refl;
          is_head = p.is_head;
          len = p.len;
          before_is = p.before_is;
          whole = p.whole;
          joint = subst (λ (l : List ℕ). IsJoint head.version p.done l) split (joint_on head.version p.done rest (drop n next) (λ is. begun (opens is)) p.joint);
          count = p.count;
          seen = p.seen;
        }
      where
        begun : (before ≡ head.len) ⊎ (0 < length rest) → (length p.done ≡ 0) ⊎ (0 < length rest)
        begun (inl front) = inl (omega (arith, front, p.before_is, p.len))
        begun (inr some) = inr some

    -- it lies in one buffer, and then in another
    pub moved_here : (other mid : List ℕ) → other ≡ rest → mid ≡ other → HasStreamed seen_by has_seen first now head events before header other ((header ++ p.done) ++ mid)
    moved_here other mid e same =
        record {
          done = p.done;
          parts = ap (λ (l : List ℕ). (header ++ p.done) ++ l) same;
          is_head = p.is_head;
          len = p.len;
          before_is = p.before_is;
          whole = p.whole;
          joint = subst (λ (l : List ℕ). IsJoint head.version p.done l) (sym e) p.joint;
          count = p.count;
          seen = p.seen;
        }

    -- the rest lies in another buffer
    pub moved : (other : List ℕ) → other ≡ rest → HasStreamed seen_by has_seen first now head events before header other all
    moved other e = subst (λ (l : List ℕ). HasStreamed seen_by has_seen first now head events before header l all) (sym e) p
