-- The profile of a run whose records came as a stream.
use Rattle.std.proofs.Common.{◌≡◌, ℕ, ◌-◌, ◌≤◌, ◌^◌, List, [], ◌++◌, length, slice_get, Err, IfOk, refl, sym, ap, subst, ◌∙◌, append-nil, append_assoc, length-append, arith, inl, inr}
use Rattle.std.proofs.lemmas.Bool.{cases_lt}
use Rattle.std.proofs.lemmas.List.{get_or_append_left, get_or-append_right, get_or_past}
use Rattle.spp_event.specs.declared.records.EventFault.TheVariants.{Truncated}
use Rattle.spp_event.specs.declared.version.Version.{Version}
use Rattle.spp_event.specs.declared.version.Version.TheVariants.{One, Two}
use Rattle.std.specs.List.{flat_map}
use Rattle.spp_event.specs.Items.{items}
use Rattle.spp_event.specs.Records.{IsEventOf, word}
use Rattle.spp_event.specs.Recordings.{Record, Recording, AreEventsOf, records_of, record_at, read_at, item, count_in, filled, room}
use Rattle.spp_event.specs.Header.{IsTraceOf, magic, name_spelling}
use Rattle.spp_event.specs.Heads.{IsHeadOf}
use Rattle.spp_event.proofs.HeaderLaws.{trace_is_one}
use Rattle.spp_event.proofs.ItemsRead.{no_item}
use Rattle.spp_event.proofs.JoinedEvents.{events_cut}
use Rattle.spp_event.proofs.RecordHeads.{with_body}
use Rattle.spp_event.proofs.RecordPlaces.{length-records_of, record_at-records_of, truncated}
use Rattle.spp_crew.specs.declared.record_head.RecordHead.{RecordHead}
use Rattle.spp_crew.specs.RecordProfiles.{BeginsWith, HasSeen, EndsWith}
use Rattle.spp_shell.specs.Profiled.{IsProfiled, IsRunOf, profiled_by}
use Rattle.spp_shell.specs.RecordStreams.{AreNoMore, HasStreamed}
use Rattle.spp_shell.specs.declared.profiled_records.ProfiledRecords.{ProfiledRecords}
use Rattle.spp_shell.specs.declared.record_stream.Head.{Head}
use Rattle.spp_shell.proofs.Checks.{stream_split, stream_fits, events_few}

-- no bytes have room
pub no_room : (v : Version) (n : ℕ) → filled v [] ≤ room v n
no_room One n = omega arith
no_room Two n = omega arith

abbrev spelled_with : Recording → Version → ℕ → List ℕ
spelled_with t v n = magic v ++ (word (length t.funcs) ++ word (length t.sites) ++ word t.root ++ word n ++ flat_map name_spelling t.funcs ++ flat_map name_spelling t.sites)

module _ (v : Version) (header : List ℕ) (s f n : ℕ) (h : IsHeadOf v header s f n) where
  pub headed : (body : List ℕ) → filled v body ≤ room v n → IsTraceOf (header ++ body) (with_body v h.trace body)
  headed body few =
      let t = h.trace in
      let m : length (with_body v t body).records ≡ length t.records = length-records_of v (length t.sites) (length t.funcs) (length t.records) body in
      record {
        header = ap (λ (l : List ℕ). l ++ body) (h.spelled ∙ ap (λ (w : Version). spelled_with t w (length t.records)) h.version_is ∙ ap (λ (j : ℕ). spelled_with t v j) (sym m));
        limits = record { some_func = h.limits.some_func; funcs = h.limits.funcs; sites = h.limits.sites; root = h.limits.root; events = subst (λ (j : ℕ). j ≤ 2 ^ 28) (sym m) h.limits.events };
        names = record { func_names = h.names.func_names; site_names = h.names.site_names; apart = h.names.apart };
        room = subst (λ (j : ℕ). filled v body ≤ room v j) (sym h.count_is ∙ sym m) few;
        records = ap (λ (j : ℕ). records_of v (length t.sites) (length t.funcs) j body) (sym m);
      }

  pub its_records : (body : List ℕ) → (with_body v h.trace body).records ≡ records_of v s f n body
  its_records body =
      let t = h.trace in
      ap (λ (j : ℕ). records_of v j (length t.funcs) (length t.records) body) h.sites_are ∙ ap (λ (j : ℕ). records_of v s j (length t.records) body) h.funcs_are ∙ ap (λ (j : ℕ). records_of v s f j body) h.count_is

  -- the header alone is that trace without a body
  pub alone : (names : Recording) → IsTraceOf header names → with_body v h.trace [] ≡ names
  alone names is = trace_is_one (header ++ []) (with_body v h.trace []) names (headed [] (no_room v n)) (subst (λ (l : List ℕ). IsTraceOf l names) (sym (append-nil header)) is)

-- where no whole event is left, none of those behind is there
each_cut : (v : Version) (s f : ℕ) (rest : List ℕ) (i : ℕ) → count_in v rest ≡ 0 → read_at v s f rest i ≡ Err Truncated
each_cut One s f rest i cut = truncated s f rest i (omega (arith, cut))
each_cut Two s f rest i cut = no_item s f (item rest i) (ap (λ (l : List ℕ). slice_get l 0) (get_or_past (items rest) i [] (omega (arith, cut))))

-- where no whole event is left, records that are events and what stands for others that are cut off are events
pub good_behind : (v : Version) (sites funcs s f k : ℕ) (rs : List Record) (rest : List ℕ) → AreEventsOf sites funcs rs → count_in v rest ≡ 0 → AreEventsOf sites funcs (rs ++ records_of v s f k rest)
good_behind v sites funcs s f k rs rest good cut i lt =
    let n = length-records_of v s f k rest in
    let both = length-append rs (records_of v s f k rest) in
    elim (cases_lt i (length rs)) [
      | inl l ↦ subst (λ (r : Record). IfOk r (IsEventOf sites funcs)) (sym (get_or_append_left rs (records_of v s f k rest) (Err Truncated) i l)) (good i l)
      | inr l ↦
          let at : record_at (rs ++ records_of v s f k rest) i ≡ Err Truncated =
          get_or-append_right rs (records_of v s f k rest) (length rs) i (Err Truncated) refl l ∙ record_at-records_of v s f k rest (i - length rs) (omega arith) ∙ each_cut v s f rest (i - length rs) cut in
          subst (λ (r : Record). IfOk r (IsEventOf sites funcs)) (sym at) tt
    ]

module _ (first now : ProfiledRecords) (head : Head) (events before_them : ℕ) (header rest bytes : List ℕ) (p : HasStreamed profiled_by IsProfiled first now head events before_them header rest bytes) (names : Recording) (run : IsRunOf names first.profile.head) (is : IsTraceOf header names)
    (cut : count_in head.version rest ≡ 0) (fits : AreNoMore head.count events rest) where
  less : filled head.version (p.done ++ rest) ≤ room head.version head.count
  less = stream_fits profiled_by IsProfiled first now head events before_them header rest bytes p cut fits

  pub some : events ≤ head.count
  some = events_few events head.count rest fits

  pub is_seen : IsProfiled head.version first now p.done
  is_seen = p.seen some

  -- the trace whose bytes came
  abbrev pub came : Recording
  came = with_body head.version p.is_head.trace (p.done ++ rest)

  pub came_is : IsTraceOf bytes came
  came_is = subst (λ (l : List ℕ). IsTraceOf l came) (sym (p.parts ∙ append_assoc header p.done rest)) (headed head.version header head.sites head.funcs head.count p.is_head (p.done ++ rest) less)

  same : with_body head.version p.is_head.trace [] ≡ names
  same = alone head.version header head.sites head.funcs head.count p.is_head names is

  pub came_sites : came.sites ≡ names.sites
  came_sites = ap (λ (t : Recording). t.sites) same

  came_funcs : came.funcs ≡ names.funcs
  came_funcs = ap (λ (t : Recording). t.funcs) same

  numbers : IsRunOf names now.profile.head
  numbers = is_seen.head ∙ run

  pub many : now.profile.head.count ≡ head.count
  many = ap (λ (h : RecordHead). h.count) numbers ∙ sym (ap (λ (t : Recording). length t.records) same) ∙ length-records_of head.version (length p.is_head.trace.sites) (length p.is_head.trace.funcs) (length p.is_head.trace.records) [] ∙ p.is_head.count_is

  sites_are : length came.sites ≡ now.profile.head.sites
  sites_are = ap (λ (l : List (List ℕ)). length l) came_sites ∙ sym (ap (λ (h : RecordHead). h.sites) numbers)

  funcs_are : length came.funcs ≡ now.profile.head.funcs
  funcs_are = ap (λ (l : List (List ℕ)). length l) came_funcs ∙ sym (ap (λ (h : RecordHead). h.funcs) numbers)

  abbrev before : List Record
  before = records_of head.version head.sites head.funcs events p.done

  abbrev behind : List Record
  behind = records_of head.version head.sites head.funcs (head.count - events) rest

  seen : HasSeen now.profile before
  seen = subst (λ (n : ℕ). HasSeen now.profile (records_of head.version head.sites head.funcs n p.done)) (p.count some)
      (subst (λ (i : ℕ). HasSeen now.profile (records_of head.version head.sites i (profiled_by now) p.done)) (sym funcs_are ∙ p.is_head.funcs_are)
      (subst (λ (i : ℕ). HasSeen now.profile (records_of head.version i now.profile.head.funcs (profiled_by now) p.done)) (sym sites_are ∙ p.is_head.sites_are) is_seen.seen))

  all : came.records ≡ before ++ behind
  all = its_records head.version header head.sites head.funcs head.count p.is_head (p.done ++ rest) ∙ stream_split profiled_by IsProfiled first now head events before_them header rest bytes p some

  good : AreEventsOf (length came.sites) (length came.funcs) came.records
  good = subst (λ (rs : List Record). AreEventsOf (length came.sites) (length came.funcs) rs) (sym all)
      (subst (λ (i : ℕ). AreEventsOf i (length came.funcs) (before ++ behind)) (sym sites_are)
      (subst (λ (i : ℕ). AreEventsOf now.profile.head.sites i (before ++ behind)) (sym funcs_are)
      (good_behind head.version now.profile.head.sites now.profile.head.funcs head.sites head.funcs (head.count - events) before rest seen.good cut)))

  abbrev begins : BeginsWith came now.profile.head before
  begins = record {
    root_is = ap (λ (t : Recording). t.root) same ∙ sym (ap (λ (h : RecordHead). h.root) numbers);
    sites_are = sites_are;
    funcs_are = funcs_are;
    count_is = ap (λ (rs : List Record). length rs) (its_records head.version header head.sites head.funcs head.count p.is_head (p.done ++ rest)) ∙ length-records_of head.version head.sites head.funcs head.count (p.done ++ rest) ∙ sym many;
    limits = came_is.limits;
    good = good;
    behind = behind;
    records = all;
  }

  pub ends : EndsWith now.profile came
  ends = record {
    before = before;
    begins = begins;
    seen = seen;
    cut = λ more. events_cut head.version head.sites head.funcs (head.count - events) rest (let n = length-records_of head.version head.sites head.funcs (head.count - events) rest in omega arith) cut;
  }
