-- What `check` answers of an input.
use Rattle.std.proofs.Common.{◌≡◌, ℕ, ◌+◌, ◌-◌, ◌≤◌, ◌<◌, List, [], ◌∷◌, ◌++◌, length, Result, IfOk, refl, sym, ap, subst, ◌∙◌, append_assoc, length-append, arith, inl, inr}
use Rattle.std.specs.Prelude.{IfErr}
use Rattle.spp_event.specs.declared.header.HeaderFault.TheVariants.{Trailing}
use Rattle.spp_event.specs.declared.version.Version.{Version}
use Rattle.spp_event.specs.declared.version.Version.TheVariants.{One, Two}
use Rattle.spp_event.specs.Items.{items}
use Rattle.spp_event.specs.Places.{IsJoint}
use Rattle.spp_event.specs.Recordings.{records_of, count_in, filled, room}
use Rattle.spp_event.specs.Header.{IsTraceOf, IsHeaderFault}
use Rattle.spp_event.proofs.ItemPlaces.{starts_by}
use Rattle.spp_event.proofs.JoinedEvents.{events_joined, events_cut, filled_joined}
use Rattle.spp_event.proofs.RecordHeads.{head_traced, head_trails}
use Rattle.spp_event.proofs.RecordPlaces.{length-records_of}
use Rattle.spp_frame.specs.RecordChecks.{HasSeen, EndsWith}
use Rattle.spp_shell.specs.Check.{IsCheckText, IsCheckLine, IsOneCheckLine}
use Rattle.spp_shell.specs.Devices.{Giving}
use Rattle.spp_shell.specs.Inputs.{IsInputRefused, TellsRead}
use Rattle.spp_shell.specs.Checked.{IsChecked, checked_by}
use Rattle.spp_shell.specs.RecordStreams.{AreMore, AreNoMore, AreWhole, HasStreamed}
use Rattle.spp_shell.specs.declared.checked_records.CheckedRecords.{CheckedRecords}
use Rattle.spp_shell.specs.Tasks.{IfLine}
use Rattle.spp_shell.specs.declared.place.Place.{Place}
use Rattle.spp_shell.specs.declared.place.Place.TheVariants.{Only}
use Rattle.spp_shell.specs.declared.reading.ReadFault.{ReadFault}
use Rattle.spp_shell.specs.declared.reading.ReadFault.TheVariants.{Device, TooLong, Memory}
use Rattle.spp_shell.specs.declared.record_stream.Head.{Head}
use Rattle.spp_shell.specs.declared.refusal.Refusal.{Refusal}
use Rattle.spp_shell.proofs.Told.{told_of_given, refused_of_given}

-- bytes without an item are none
none_there : (ys : List ℕ) → count_in Two ys ≡ 0 → length ys ≡ 0
none_there [] none = refl
none_there (b ∷ bs) none =
    let s = starts_by b (items bs) in
    absurd (omega (arith, none, ap (λ (l : List (List ℕ)). length l) s.are))

-- whole events, and then less than one, have room or not among so many
trailing : (v : Version) (events count : ℕ) (done rest : List ℕ) → AreWhole v events done → IsJoint v done rest → count_in v rest ≡ 0 → AreMore count events rest → room v count < filled v (done ++ rest)
trailing One events count done rest whole joint cut (inl over) = omega (arith, length-append done rest)
trailing One events count done rest whole joint cut (inr (same, some)) = omega (arith, length-append done rest)
trailing Two events count done rest whole joint cut (inl over) = (let all = filled_joined Two events 0 done rest joint whole cut in omega (arith, all, over))
trailing Two events count done rest whole joint cut (inr (same, some)) = absurd (omega (arith, some, none_there rest cut))

fitting : (v : Version) (events count : ℕ) (done rest : List ℕ) → AreWhole v events done → IsJoint v done rest → count_in v rest ≡ 0 → AreNoMore count events rest → filled v (done ++ rest) ≤ room v count
fitting One events count done rest whole joint cut (inl less) = omega (arith, length-append done rest)
fitting One events count done rest whole joint cut (inr (same, none)) = omega (arith, length-append done rest)
fitting Two events count done rest whole joint cut (inl less) = (let all = filled_joined Two events 0 done rest joint whole cut in omega (arith, all, less))
fitting Two events count done rest whole joint cut (inr (same, none)) = (let all = filled_joined Two events 0 done rest joint whole cut in omega (arith, all, same))

module _ {V : Type 0} (seen_by : V → ℕ) (has_seen : Version → V → V → List ℕ → Type 0) (first now : V) (head : Head) (events before : ℕ) (header rest bytes : List ℕ) (p : HasStreamed seen_by has_seen first now head events before header rest bytes) where
  regrouped : bytes ≡ header ++ (p.done ++ rest)
  regrouped = p.parts ∙ append_assoc header p.done rest

  module _ (cut : count_in head.version rest ≡ 0) where
    -- there is more than the events have room for
    pub stream_trails : AreMore head.count events rest → IsHeaderFault bytes Trailing
    stream_trails over = subst (λ (l : List ℕ). IsHeaderFault l Trailing) (sym regrouped)
        (head_trails head.version header (p.done ++ rest) head.sites head.funcs head.count p.is_head (trailing head.version events head.count p.done rest p.whole p.joint cut over))

    pub stream_fits : AreNoMore head.count events rest → filled head.version (p.done ++ rest) ≤ room head.version head.count
    stream_fits few = fitting head.version events head.count p.done rest p.whole p.joint cut few

    -- there is not, so that it is a trace, and these are its records
    pub stream_traced : AreNoMore head.count events rest → (t : _) × IsTraceOf bytes t × (t.records ≡ records_of head.version head.sites head.funcs head.count (p.done ++ rest))
    stream_traced few =
        let t = head_traced head.version header (p.done ++ rest) head.sites head.funcs head.count p.is_head (stream_fits few) in
        (t.0, subst (λ (l : List ℕ). IsTraceOf l t.0) (sym regrouped) t.1, t.2)

  -- those that were gone over stand first
  pub stream_split : events ≤ head.count → records_of head.version head.sites head.funcs head.count (p.done ++ rest) ≡ records_of head.version head.sites head.funcs events p.done ++ records_of head.version head.sites head.funcs (head.count - events) rest
  stream_split le =
      let k = head.count - events in
      let n : events + k ≡ head.count = omega arith in
      ap (λ (j : ℕ). records_of head.version head.sites head.funcs j (p.done ++ rest)) (sym n) ∙ sym (events_joined head.version head.sites head.funcs events k p.done rest p.joint p.whole)

-- so many events are no more than the header claims
pub events_few : (events count : ℕ) (rest : List ℕ) → AreNoMore count events rest → events ≤ count
events_few events count rest (inl less) = omega (arith, less)
events_few events count rest (inr (same, none)) = omega (arith, same)

-- those that were checked stand first, and the next is cut off
pub stream_ends : (first now : CheckedRecords) (head : Head) (events before : ℕ) (header rest bytes : List ℕ) (p : HasStreamed checked_by IsChecked first now head events before header rest bytes) → first.sites ≡ head.sites → first.funcs ≡ head.funcs
    → count_in head.version rest ≡ 0 → events ≤ head.count → EndsWith now.check (records_of head.version head.sites head.funcs head.count (p.done ++ rest))
stream_ends first now head events before header rest bytes p s f cut le =
    let v = head.version in
    let k = head.count - events in
    let is = p.seen le in
    let m : checked_by now ≡ events = p.count le in
    let sites : now.sites ≡ head.sites = is.sites ∙ s in
    let funcs : now.funcs ≡ head.funcs = is.funcs ∙ f in
    let behind = length-records_of v head.sites head.funcs k rest in
    record {
      before = records_of v head.sites head.funcs events p.done;
      behind = records_of v head.sites head.funcs k rest;
      all = stream_split checked_by IsChecked first now head events before header rest bytes p le;
      seen = subst (λ (n : ℕ). HasSeen now.check (records_of v head.sites head.funcs n p.done)) m
          (subst (λ (i : ℕ). HasSeen now.check (records_of v head.sites i (checked_by now) p.done)) funcs (subst (λ (i : ℕ). HasSeen now.check (records_of v i now.funcs (checked_by now) p.done)) sites is.seen));
      cut = λ some. events_cut v head.sites head.funcs k rest (omega (arith, some, behind)) cut;
    }

-- what could not be read is told as that
pub read_refused : (g : Giving) (place : Place) (LineFor : List ℕ → List ℕ → Type 0) (fault : ReadFault) (told : Refusal) → TellsRead place fault told → g.Refused fault → (g.Refused Memory → g.Within) → IsInputRefused g place LineFor told
read_refused g place LineFor Device told is refused within = subst (λ (r : Refusal). IsInputRefused g place LineFor r) (sym is.1) (Device, is.2, refused)
read_refused g place LineFor TooLong told is refused within = subst (λ (r : Refusal). IsInputRefused g place LineFor r) (sym is.1) (TooLong, is.2, refused)
read_refused g place LineFor Memory told is refused within = subst (λ (r : Refusal). IsInputRefused g place LineFor r) (sym is) (within refused)

-- what is answered for the bytes that an input gave
module _ {T : Type 0} (items : T → List ℕ) (g : Giving) (bytes : List ℕ) (gave : g.Gave bytes) where
  pub check_answered : (r : Result T Refusal) → IfOk r (λ text. IsCheckText (bytes ∷ []) (items text)) → IfOk r (λ text. (bytes : List ℕ) × g.Gave bytes × IsCheckText (bytes ∷ []) (items text))
  check_answered r is = told_of_given g bytes gave (λ bytes text. IsCheckText (bytes ∷ []) (items text)) r is

  pub check_refused : (r : Result T Refusal) → g.Within → IfErr r (λ e. IfLine e (IsCheckLine (bytes ∷ []))) → IfErr r (IsInputRefused g Only IsOneCheckLine)
  check_refused r within is = refused_of_given g bytes gave within Only IsOneCheckLine r is
