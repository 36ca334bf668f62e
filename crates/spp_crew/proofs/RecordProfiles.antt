-- What blocks of records come to, one behind the other.
use Rattle.std.proofs.Common.{◌≡◌, ℕ, ◌+◌, ◌-◌, ◌≤◌, ◌<◌, List, [], ◌++◌, length, get_or, replicate, Result, Ok, Err, IfOk, IfErr, refl, sym, ap, subst, ◌∙◌, arith, inl, inr}
use Rattle.std.proofs.lemmas.Bool.{cases_lt}
use Rattle.std.proofs.lemmas.List.{length-append, append_assoc, length-replicate, get_or-replicate, get_or_append_left, get_or-append_right}
use Rattle.spp_event.specs.declared.records.EventFault.TheVariants.{Truncated}
use Rattle.spp_event.specs.declared.version.Version.TheVariants.{One}
use Rattle.spp_event.specs.Records.{IsEventOf}
use Rattle.spp_event.specs.Recordings.{Record, Recording, AreEventsOf, record_at}
use Rattle.spp_event.proofs.GoodRecords.{are_events_of}
use Rattle.spp_event.proofs.TakenFromFront.{IsBytes-take}
use Rattle.spp_event.proofs.RecordPlaces.{length-records_of}
use Rattle.spp_frame.specs.Answers.{IsFaultOf}
use Rattle.spp_frame.specs.declared.Fault.{Fault}
use Rattle.spp_frame.specs.declared.profile_fault.ProfileFault.TheVariants.{Bad}
use Rattle.spp_maxplus.specs.declared.state.Burdens.{Burdens}
use Rattle.spp_part.specs.RecordParts.{HasPart}
use Rattle.spp_crew.specs.declared.block.Block.{Block}
use Rattle.spp_crew.specs.declared.block.SoFar.{Ghosts}
use Rattle.spp_crew.specs.declared.joining.Joining.{Joining}
use Rattle.spp_crew.specs.declared.record_head.RecordHead.{RecordHead}
use Rattle.spp_crew.specs.declared.shown.Shown.{Shown}
use Rattle.spp_crew.specs.declared.shown.Shown.TheVariants.{Good, Bad as BadEvent}
use Rattle.spp_crew.specs.Blocks.{IsBlockAt, bytes_of, count_of, records_in}
use Rattle.spp_crew.specs.Joinings.{HasCome, IsShown}
use Rattle.spp_crew.specs.RecordHeads.{IsHead}
use Rattle.spp_crew.specs.RecordFigures.{BeginsAs}
use Rattle.spp_crew.specs.RecordProfiles.{BeginsWith}

-- ---- traces that begin with some records

events_both : (sites funcs : ℕ) (rs ss : List Record) → AreEventsOf sites funcs rs → AreEventsOf sites funcs ss → AreEventsOf sites funcs (rs ++ ss)
events_both sites funcs rs ss left right i lt =
    elim (cases_lt i (length rs)) [
      | inl l ↦ subst (λ (r : Record). IfOk r (IsEventOf sites funcs)) (sym (get_or_append_left rs ss (Err Truncated) i l)) (left i l)
      | inr l ↦
          subst (λ (r : Record). IfOk r (IsEventOf sites funcs)) (sym (get_or-append_right rs ss (length rs) i (Err Truncated) refl l))
          (right (i - length rs) (omega (arith, lt, l, length-append rs ss)))
    ]

events_none : (sites funcs n : ℕ) → AreEventsOf sites funcs (replicate n (Err Truncated))
events_none sites funcs n i lt =
    let none : Record = Err Truncated in
    let cut : record_at (replicate n none) i ≡ none = get_or-replicate n i none none (omega (arith, lt, length-replicate n none)) in
    subst (λ (r : Record). IfOk r (IsEventOf sites funcs)) (sym cut) tt

-- one trace that begins with them, where there are no more than the header claims: the others are cut off
pub sample_of : RecordHead → List Record → Recording
sample_of head rs = record {
  funcs = replicate head.funcs [];
  sites = replicate head.sites [];
  root = head.root;
  records = rs ++ replicate (head.count - length rs) (Err Truncated);
  version = One;
  body = [];
}

module _ (head : RecordHead) (is : IsHead head) (rs : List Record) (good : AreEventsOf head.sites head.funcs rs) (few : length rs ≤ head.count) where
  pub sample_begins : BeginsWith (sample_of head rs) head rs
  unfolding sample_of
  sample_begins =
      let none : List ℕ = [] in
      let cut : Record = Err Truncated in
      let n = head.count - length rs in
      let sites : length (replicate head.sites none) ≡ head.sites = length-replicate head.sites none in
      let funcs : length (replicate head.funcs none) ≡ head.funcs = length-replicate head.funcs none in
      let count : length (rs ++ replicate n cut) ≡ head.count = omega (arith, few, length-append rs (replicate n cut), length-replicate n cut) in
      let events = events_both head.sites head.funcs rs (replicate n cut) good (events_none head.sites head.funcs n) in
      record {
        root_is = refl;
        sites_are = sites;
        funcs_are = funcs;
        count_is = count;
        limits = record {
          some_func = omega (arith, funcs, is.root);
          funcs = omega (arith, funcs, is.funcs);
          sites = omega (arith, sites, is.sites);
          root = omega (arith, funcs, is.root);
          events = omega (arith, count, is.count);
        };
        good = subst (λ (k : ℕ). AreEventsOf k (length (replicate head.funcs none)) (rs ++ replicate n cut)) (sym sites) (subst (λ (k : ℕ). AreEventsOf head.sites k (rs ++ replicate n cut)) (sym funcs) events);
        behind = replicate n cut;
        records = refl;
      }

  -- whichever function the root runs
  pub sample_begins_as : BeginsAs (sample_of head rs) head rs
  unfolding sample_of
  sample_begins_as = sample_begins

module _ (t : Recording) (head : RecordHead) (rs ss : List Record) (h : BeginsWith t head (rs ++ ss)) where
  pub begins_before : BeginsWith t head rs
  begins_before =
      record {
        root_is = h.root_is;
        sites_are = h.sites_are;
        funcs_are = h.funcs_are;
        count_is = h.count_is;
        limits = h.limits;
        good = h.good;
        behind = ss ++ h.behind;
        records = h.records ∙ append_assoc rs ss h.behind;
      }

  pub has_part : HasPart t head.sites head.funcs (length rs) ss
  has_part =
      record {
        sites_are = h.sites_are;
        funcs_are = h.funcs_are;
        few = h.limits.events;
        before = rs;
        behind = h.behind;
        records = h.records ∙ append_assoc rs ss h.behind;
        at = refl;
      }

  -- they are no more than the header claims
  pub begins_within : length rs + length ss ≤ head.count
  begins_within =
      let count = h.count_is in
      let all : length t.records ≡ length ((rs ++ ss) ++ h.behind) = ap (λ (l : List Record). length l) h.records in
      omega (arith, count, all, length-append (rs ++ ss) h.behind, length-append rs ss)

-- ---- what is shown

module _ {A P : Type 0} {G : Ghosts A P} (is_so_far : Recording → Burdens → ℕ → A → Type 0) (t : Recording) (b : Burdens) where
  pub come_if : (k : ℕ) (s : Shown A P G) (j : Joining A P G) → s ≡ Good j → IsShown is_so_far t b k s → HasCome is_so_far t b k j
  come_if k s j is = subst (λ (x : Shown A P G). IsShown is_so_far t b k x) is

  pub fault_if : (k : ℕ) (s : Shown A P G) (f : Fault) → s ≡ BadEvent f → IsShown is_so_far t b k s → IsFaultOf t.records (Bad f)
  fault_if k s f is = subst (λ (x : Shown A P G). IsShown is_so_far t b k x) is

  pub shown_good : (k : ℕ) (s : Shown A P G) (j : Joining A P G) → s ≡ Good j → HasCome is_so_far t b k j → IsShown is_so_far t b k s
  shown_good k s j is = subst (λ (x : Shown A P G). IsShown is_so_far t b k x) (sym is)

  pub shown_bad : (k : ℕ) (s : Shown A P G) (f : Fault) → s ≡ BadEvent f → IsFaultOf t.records (Bad f) → IsShown is_so_far t b k s
  shown_bad k s f is = subst (λ (x : Shown A P G). IsShown is_so_far t b k x) (sym is)

pub events_nil : (sites funcs : ℕ) → AreEventsOf sites funcs []
events_nil sites funcs i lt = absurd (let z : ⊥ = omega (arith, lt) in z)

-- ---- a block more

module _ (block : Block) (rs : List Record) (at : block.first ≡ length rs) where
  pub count_more : block.first + count_of block ≡ length (rs ++ records_in block)
  count_more = omega (arith, at, length-append rs (records_in block), length-records_of block.version block.sites block.funcs (count_of block) (bytes_of block))

  pub good_more : ((i : ℕ) → get_or block.bytes.items i 0 < 256) → AreEventsOf block.sites block.funcs rs → AreEventsOf block.sites block.funcs (rs ++ records_in block)
  good_more fits good = events_both block.sites block.funcs rs (records_in block) good (are_events_of block.version block.sites block.funcs (count_of block) (bytes_of block) (IsBytes-take block.len block.bytes.items fits))

  module _ (t : Recording) (head : RecordHead) (sites : block.sites ≡ head.sites) (funcs : block.funcs ≡ head.funcs) (b : BeginsWith t head (rs ++ records_in block)) where
    -- it stands there in each trace that begins with these
    pub block_at : IsBlockAt t block.burdens block.first block
    block_at =
        let more = records_in block in
        let part : HasPart t head.sites head.funcs (length rs) more = has_part t head rs more b in
        let there : HasPart t block.sites block.funcs (length rs) more = subst (λ (n : ℕ). HasPart t n block.funcs (length rs) more) (sym sites) (subst (λ (n : ℕ). HasPart t head.sites n (length rs) more) (sym funcs) part) in
        record {
          under = refl;
          first = refl;
          part = subst (λ (i : ℕ). HasPart t block.sites block.funcs i more) (sym at) there;
        }

    pub before_block : BeginsWith t head rs
    before_block = begins_before t head rs (records_in block) b

    pub block_within : block.first + count_of block ≤ head.count
    block_within = omega (arith, at, begins_within t head rs (records_in block) b, length-records_of block.version block.sites block.funcs (count_of block) (bytes_of block))

  module _ {A P : Type 0} {G : Ghosts A P} (is_so_far : Recording → Burdens → ℕ → A → Type 0) (s : Shown A P G) where
    -- what is shown of a trace that begins with the records before
    pub shown_before : (t : Recording) → IsShown is_so_far t block.burdens (length rs) s → IsShown is_so_far t block.burdens block.first s
    shown_before t = subst (λ (k : ℕ). IsShown is_so_far t block.burdens k s) (sym at)

    pub shown_behind : (t : Recording) → IsShown is_so_far t block.burdens (block.first + count_of block) s → IsShown is_so_far t block.burdens (length (rs ++ records_in block)) s
    shown_behind t = subst (λ (k : ℕ). IsShown is_so_far t block.burdens k s) count_more

-- ---- the end

module _ {R : Type 0} (is_so_far : Recording → Burdens → ℕ → R → Type 0) (b : Burdens) (r : R) (t : Recording) (head : RecordHead) (before : List Record) (at : ℕ) (count : at ≡ length before) (begins : BeginsWith t head before) (so_far : is_so_far t b (length before) r) where
  -- fewer have come than the header claims
  pub cut_there : (0 < length begins.behind → record_at begins.behind 0 ≡ Err Truncated) → at < head.count
      → is_so_far t b (length before) r × (length before < length t.records) × (record_at t.records (length before) ≡ Err Truncated)
  cut_there cut less =
      let all = begins.count_is in
      let n = length before in
      let some : 0 < length begins.behind = omega (arith, less, count, all, ap (λ (l : List Record). length l) begins.records, length-append before begins.behind) in
      let zero : n - n ≡ 0 = omega arith in
      let first : record_at t.records n ≡ record_at begins.behind 0 =
      ap (λ (l : List Record). record_at l n) begins.records
      ∙ get_or-append_right before begins.behind n n (Err Truncated) refl (omega arith)
      ∙ ap (λ (k : ℕ). record_at begins.behind k) zero in
      (so_far, omega (arith, less, count, all), first ∙ cut some)

  -- as many have come
  pub whole_there : head.count ≤ at → is_so_far t b (length t.records) r
  whole_there most =
      let all = begins.count_is in
      let same : length before ≡ length t.records = omega (arith, most, count, all, ap (λ (l : List Record). length l) begins.records, length-append before begins.behind) in
      subst (λ (k : ℕ). is_so_far t b k r) same so_far

-- what is said of a bad result
pub if_err : {X E : Type 0} {P Q : E → Type 0} (x : Result X E) → ((e : E) → P e → Q e) → IfErr x P → IfErr x Q
if_err (Ok r) f p = tt
if_err (Err e) f p = f e p
