-- A trace whose records came as a stream, written in version 2.
use Rattle.std.proofs.Common.{◌≡◌, ℕ, ◌-◌, ◌≤◌, List, [], ◌++◌, length, Result, Ok, Err, refl, sym, ap, subst, ◌∙◌, append-nil, append_assoc, arith}
use Rattle.std.specs.Prelude.{MatchResult}
use Rattle.std.specs.List.{flat_map}
use Rattle.spp_event.specs.declared.migrating.MigrateFault.TheVariants.{Bad}
use Rattle.spp_event.specs.declared.version.Version.{Version}
use Rattle.spp_event.specs.declared.version.Version.TheVariants.{Two}
use Rattle.spp_event.specs.Records.{word}
use Rattle.spp_event.specs.Recordings.{Record, Recording, count_in, filled, room, records_of}
use Rattle.spp_event.specs.Header.{IsTraceOf, header_spelling, magic, name_spelling}
use Rattle.spp_event.specs.Heads.{IsHeadOf}
use Rattle.spp_event.specs.Migrating.{IsMigrateFault, compact}
use Rattle.spp_event.specs.RecordMigrations.{HasSeen, EndsWith}
use Rattle.spp_event.specs.Written.{AreWritten}
use Rattle.spp_event.proofs.JoinedEvents.{events_cut}
use Rattle.spp_event.proofs.RecordHeads.{with_body}
use Rattle.spp_event.proofs.RecordPlaces.{length-records_of}
use Rattle.spp_shell.specs.Migrated.{AreMigrated, IsBegun, migrated_by}
use Rattle.spp_shell.specs.RecordStreams.{AreNoMore, HasStreamed}
use Rattle.spp_shell.specs.declared.migrated_records.MigratedRecords.{MigratedRecords}
use Rattle.spp_shell.specs.declared.record_stream.Head.{Head}
use Rattle.spp_shell.proofs.Checks.{stream_split, stream_fits, events_few}
use Rattle.spp_shell.proofs.StreamProfiles.{no_room, headed, its_records, alone}

-- the header of a trace alone is that trace without a body
pub header_alone : (bytes header : List ℕ) (t : Recording) → IsTraceOf bytes t → header ≡ header_spelling t → IsTraceOf header (with_body t.version t [])
header_alone bytes header t is spelled =
    let h : IsHeadOf t.version header (length t.sites) (length t.funcs) (length t.records) = record {
      trace = t;
      spelled = spelled;
      version_is = refl;
      limits = is.limits;
      names = is.names;
      sites_are = refl;
      funcs_are = refl;
      count_is = refl;
    } in
    subst (λ (l : List ℕ). IsTraceOf l (with_body t.version t [])) (append-nil header) (headed t.version header (length t.sites) (length t.funcs) (length t.records) h [] (no_room t.version (length t.records)))

abbrev spelled_with : List (List ℕ) → List (List ℕ) → ℕ → ℕ → List ℕ
spelled_with funcs sites root n = magic Two ++ (word (length funcs) ++ word (length sites) ++ word root ++ word n ++ flat_map name_spelling funcs ++ flat_map name_spelling sites)

either : {A B : Type 0} (r : Result A B) (P Q : A → Type 0) (E : B → Type 0) → ((x : A) → P x → Q x) → MatchResult r P E → MatchResult r Q E
either (Ok x) P Q E then is = then x is
either (Err e) P Q E then is = is

-- what was begun for a trace is begun for each with that header
module _ (t u : Recording) (funcs : t.funcs ≡ u.funcs) (sites : t.sites ≡ u.sites) (root : t.root ≡ u.root) (count : length t.records ≡ length u.records) where
  same_header : header_spelling (compact t) ≡ header_spelling (compact u)
  same_header =
      ap (λ (l : List (List ℕ)). spelled_with l t.sites t.root (length t.records)) funcs ∙ ap (λ (l : List (List ℕ)). spelled_with u.funcs l t.root (length t.records)) sites
      ∙ ap (λ (n : ℕ). spelled_with u.funcs u.sites n (length t.records)) root ∙ ap (λ (n : ℕ). spelled_with u.funcs u.sites u.root n) count

  none_written : (bytes : List ℕ) → AreWritten t [] bytes → AreWritten u [] bytes
  none_written bytes w = record { good = w.good; within = λ i lt. absurd (omega (arith, lt)); is = w.is ∙ ap (λ (l : List ℕ). l ++ []) same_header }

  pub begun_alike : (first : MigratedRecords) → IsBegun t first → IsBegun u first
  begun_alike first begun = record {
    count = begun.count;
    sites = begun.sites ∙ ap (λ (l : List (List ℕ)). length l) sites;
    funcs = begun.funcs ∙ ap (λ (l : List (List ℕ)). length l) funcs;
    claimed = begun.claimed ∙ count;
    found = either first.migration.written (λ w. AreWritten t [] w.items) (λ w. AreWritten u [] w.items) (λ bad. IsMigrateFault [] (Bad bad.at bad.why)) (λ w is. none_written w.items is) begun.found;
  }

module _ (first now : MigratedRecords) (head : Head) (events before_them : ℕ) (header rest bytes : List ℕ) (p : HasStreamed migrated_by AreMigrated first now head events before_them header rest bytes) (names : Recording) (begun : IsBegun names first) (is : IsTraceOf header names)
    (cut : count_in head.version rest ≡ 0) (fits : AreNoMore head.count events rest) where
  abbrev v : Version
  v = head.version

  less : filled v (p.done ++ rest) ≤ room v head.count
  less = stream_fits migrated_by AreMigrated first now head events before_them header rest bytes p cut fits

  some : events ≤ head.count
  some = events_few events head.count rest fits

  -- the trace whose bytes came
  abbrev pub came : Recording
  came = with_body v p.is_head.trace (p.done ++ rest)

  pub came_is : IsTraceOf bytes came
  came_is = subst (λ (l : List ℕ). IsTraceOf l came) (sym (p.parts ∙ append_assoc header p.done rest)) (headed v header head.sites head.funcs head.count p.is_head (p.done ++ rest) less)

  same : with_body v p.is_head.trace [] ≡ names
  same = alone v header head.sites head.funcs head.count p.is_head names is

  counted : (body : List ℕ) → length (with_body v p.is_head.trace body).records ≡ head.count
  counted body = ap (λ (rs : List Record). length rs) (its_records v header head.sites head.funcs head.count p.is_head body) ∙ length-records_of v head.sites head.funcs head.count body

  its : IsBegun came first
  its = begun_alike (with_body v p.is_head.trace []) came refl refl refl (counted [] ∙ sym (counted (p.done ++ rest))) first (subst (λ (t : Recording). IsBegun t first) (sym same) begun)

  abbrev before : List Record
  before = records_of v head.sites head.funcs events p.done

  abbrev behind : List Record
  behind = records_of v head.sites head.funcs (head.count - events) rest

  seen : HasSeen now.migration came before
  seen = subst (λ (n : ℕ). HasSeen now.migration came (records_of v head.sites head.funcs n p.done)) (p.count some)
      (subst (λ (i : ℕ). HasSeen now.migration came (records_of v head.sites i (migrated_by now) p.done)) p.is_head.funcs_are
      (subst (λ (i : ℕ). HasSeen now.migration came (records_of v i (length came.funcs) (migrated_by now) p.done)) p.is_head.sites_are (p.seen some came its)))

  pub few : migrated_by now ≤ head.count
  few = omega (arith, some, p.count some)

  pub claimed : now.migration.count ≡ head.count
  claimed = seen.claimed ∙ counted (p.done ++ rest)

  pub ends : EndsWith now.migration came
  ends = record {
    limits = came_is.limits;
    names = came_is.names;
    before = before;
    behind = behind;
    all = its_records v header head.sites head.funcs head.count p.is_head (p.done ++ rest) ∙ stream_split migrated_by AreMigrated first now head events before_them header rest bytes p some;
    seen = seen;
    cut = λ more. events_cut v head.sites head.funcs (head.count - events) rest (let n = length-records_of v head.sites head.funcs (head.count - events) rest in omega arith) cut;
  }
