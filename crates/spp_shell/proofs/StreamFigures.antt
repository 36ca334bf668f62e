-- The figures of a run whose records came as a stream.
use Rattle.std.proofs.Common.{◌≡◌, ℕ, ◌-◌, ◌≤◌, List, ◌++◌, length, refl, sym, ap, subst, ◌∙◌, append_assoc, arith}
use Rattle.spp_event.specs.Recordings.{Record, Recording, AreEventsOf, records_of, count_in, filled, room}
use Rattle.spp_event.specs.Header.{IsTraceOf}
use Rattle.spp_event.proofs.JoinedEvents.{events_cut}
use Rattle.spp_event.proofs.RecordHeads.{with_body}
use Rattle.spp_event.proofs.RecordPlaces.{length-records_of}
use Rattle.spp_crew.specs.declared.record_head.RecordHead.{RecordHead}
use Rattle.spp_crew.specs.RecordFigures.{BeginsAs, HasSeen, EndsWith}
use Rattle.spp_shell.specs.Figured.{AreBehind, IsFigured, figured_by}
use Rattle.spp_shell.specs.RecordStreams.{AreNoMore, HasStreamed}
use Rattle.spp_shell.specs.declared.figured_records.FiguredRecords.{FiguredRecords}
use Rattle.spp_shell.specs.declared.record_stream.Head.{Head}
use Rattle.spp_shell.proofs.Checks.{stream_split, stream_fits, events_few}
use Rattle.spp_shell.proofs.StreamProfiles.{headed, its_records, good_behind}

module _ (first now : FiguredRecords) (head : Head) (events before_them : ℕ) (header rest bytes : List ℕ) (p : HasStreamed figured_by IsFigured first now head events before_them header rest bytes) (of : AreBehind head first)
    (cut : count_in head.version rest ≡ 0) (fits : AreNoMore head.count events rest) where
  less : filled head.version (p.done ++ rest) ≤ room head.version head.count
  less = stream_fits figured_by IsFigured first now head events before_them header rest bytes p cut fits

  pub some : events ≤ head.count
  some = events_few events head.count rest fits

  pub is_seen : IsFigured head.version first now p.done
  is_seen = p.seen some

  sites_said : now.figures.head.sites ≡ head.sites
  sites_said = ap (λ (h : RecordHead). h.sites) is_seen.head ∙ of.sites

  funcs_said : now.figures.head.funcs ≡ head.funcs
  funcs_said = ap (λ (h : RecordHead). h.funcs) is_seen.head ∙ of.funcs

  pub many : now.figures.head.count ≡ head.count
  many = ap (λ (h : RecordHead). h.count) is_seen.head ∙ of.count

  abbrev before : List Record
  before = records_of head.version head.sites head.funcs events p.done

  pub seen : HasSeen now.figures before
  seen = subst (λ (n : ℕ). HasSeen now.figures (records_of head.version head.sites head.funcs n p.done)) (p.count some)
      (subst (λ (i : ℕ). HasSeen now.figures (records_of head.version head.sites i (figured_by now) p.done)) funcs_said (subst (λ (i : ℕ). HasSeen now.figures (records_of head.version i now.figures.head.funcs (figured_by now) p.done)) sites_said is_seen.seen))

  -- the trace whose bytes came
  abbrev pub came : Recording
  came = with_body head.version p.is_head.trace (p.done ++ rest)

  pub came_is : IsTraceOf bytes came
  came_is = subst (λ (l : List ℕ). IsTraceOf l came) (sym (p.parts ∙ append_assoc header p.done rest)) (headed head.version header head.sites head.funcs head.count p.is_head (p.done ++ rest) less)

  abbrev behind : List Record
  behind = records_of head.version head.sites head.funcs (head.count - events) rest

  all : came.records ≡ before ++ behind
  all = its_records head.version header head.sites head.funcs head.count p.is_head (p.done ++ rest) ∙ stream_split figured_by IsFigured first now head events before_them header rest bytes p some

  sites_are : length came.sites ≡ now.figures.head.sites
  sites_are = p.is_head.sites_are ∙ sym sites_said

  funcs_are : length came.funcs ≡ now.figures.head.funcs
  funcs_are = p.is_head.funcs_are ∙ sym funcs_said

  good : AreEventsOf (length came.sites) (length came.funcs) came.records
  good = subst (λ (rs : List Record). AreEventsOf (length came.sites) (length came.funcs) rs) (sym all)
      (subst (λ (i : ℕ). AreEventsOf i (length came.funcs) (before ++ behind)) (sym sites_are)
      (subst (λ (i : ℕ). AreEventsOf now.figures.head.sites i (before ++ behind)) (sym funcs_are)
      (good_behind head.version now.figures.head.sites now.figures.head.funcs head.sites head.funcs (head.count - events) before rest seen.good cut)))

  abbrev begins : BeginsAs came now.figures.head before
  begins = record {
    root_is = refl;
    sites_are = sites_are;
    funcs_are = funcs_are;
    count_is = ap (λ (rs : List Record). length rs) (its_records head.version header head.sites head.funcs head.count p.is_head (p.done ++ rest)) ∙ length-records_of head.version head.sites head.funcs head.count (p.done ++ rest) ∙ sym many;
    limits = came_is.limits;
    good = good;
    behind = behind;
    records = all;
  }

  pub ends : EndsWith now.figures came
  ends = record {
    before = before;
    begins = begins;
    seen = seen;
    cut = λ more. events_cut head.version head.sites head.funcs (head.count - events) rest (let n = length-records_of head.version head.sites head.funcs (head.count - events) rest in omega arith) cut;
  }
