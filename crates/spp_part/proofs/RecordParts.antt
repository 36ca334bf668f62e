-- The events of bytes that stand in a trace of either version.
use Rattle.std.proofs.Common.{◌≡◌, ℕ, ◌+◌, ◌-◌, ◌≤◌, ◌<◌, ◌^◌, List, [], ◌++◌, length, get_or, replicate, Ok, Err, IfOk, sym, ap, subst, ◌∙◌, arith}
use Rattle.std.proofs.lemmas.List.{length-append, length-replicate, append-nil, get_or_append_left, get_or-append_right}
use Rattle.spp_event.specs.declared.records.EventFault.TheVariants.{Truncated}
use Rattle.spp_event.specs.declared.version.Version.{Version}
use Rattle.spp_event.specs.declared.records.Event.{Event}
use Rattle.spp_event.specs.Records.{IsEventOf}
use Rattle.spp_event.specs.Recordings.{Record, Recording, read_at, records_of, record_at}
use Rattle.spp_event.proofs.RecordPlaces.{length-records_of, record_at-records_of}
use Rattle.spp_maxplus.specs.declared.state.Burdens.{Burdens}
use Rattle.spp_pass.proofs.Passed.{is_read}
use Rattle.spp_part.specs.States.{IsEventAt}
use Rattle.spp_part.specs.Readings.{InBounds}
use Rattle.spp_part.specs.RecordParts.{HasPart}

module _ (version : Version) (sites funcs n : ℕ) (bytes : List ℕ) where
  abbrev pub part : List Record
  part = records_of version sites funcs n bytes

  abbrev pub Has : Recording → ℕ → Type 0
  Has trace first = HasPart trace sites funcs first part

  module _ (trace : Recording) (first : ℕ) (h : Has trace first) where
    pub part_within : first + n ≤ length trace.records
    part_within =
        let all : length trace.records ≡ length (h.before ++ (part ++ h.behind)) = ap (λ (l : List Record). length l) h.records in
        let a = length-append h.before (part ++ h.behind) in
        let b = length-append part h.behind in
        let c = length-records_of version sites funcs n bytes in
        let d = h.at in
        omega arith

    pub part_bounds : (burdens : Burdens) → burdens.continuation + burdens.join ≤ 8589934592 → sites ≤ 65536 → funcs ≤ 65536 → InBounds trace burdens
    part_bounds burdens light few_sites few_funcs = record {
      light = light;
      short = (let a = h.few in omega arith);
      sites = (let a = h.sites_are in omega arith);
      funcs = (let a = h.funcs_are in omega arith);
    }

    -- the record of the trace is what its bytes say
    pub part_record : (at : ℕ) → at < n → record_at trace.records (first + at) ≡ read_at version sites funcs bytes at
    part_record at lt =
        ap (λ (l : List Record). get_or l (first + at) (Err Truncated)) h.records
        ∙ get_or-append_right h.before (part ++ h.behind) first (first + at) (Err Truncated) h.at (omega arith)
        ∙ ap (λ (k : ℕ). get_or (part ++ h.behind) k (Err Truncated)) (let z : first + at - first ≡ at = omega arith in z)
        ∙ get_or_append_left part h.behind (Err Truncated) at (omega (arith, length-records_of version sites funcs n bytes))
        ∙ record_at-records_of version sites funcs n bytes at lt

    -- and where it is an event, that is the event there
    pub part_event : (at : ℕ) → at < n → (r : Record) → r ≡ read_at version sites funcs bytes at → IfOk r (λ (e : Event). IsEventOf sites funcs e) → (e : Event) → r ≡ Ok e → IsEventAt trace (first + at) e
    part_event at lt r said within e is = is_read trace (first + at) r e (said ∙ sym (part_record at lt))
        (subst (λ k. IfOk r (λ (e : Event). IsEventOf k (length trace.funcs) e)) (sym h.sites_are)
        (subst (λ k. IfOk r (λ (e : Event). IsEventOf sites k e)) (sym h.funcs_are) within))
        is

  -- a trace of these records alone
  abbrev pub part_alone : Recording
  part_alone = record {
    funcs = replicate funcs [];
    sites = replicate sites [];
    root = 0;
    records = part;
    version = version;
    body = bytes;
  }

  pub alone_has : n ≤ 2 ^ 28 → Has part_alone 0
  alone_has few = record {
    sites_are = length-replicate sites [];
    funcs_are = length-replicate funcs [];
    few = (let a = length-records_of version sites funcs n bytes in omega arith);
    before = [];
    behind = [];
    records = sym (append-nil part);
    at = (let z : 0 ≡ 0 = omega arith in z);
  }
