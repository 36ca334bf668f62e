-- The bytes that a stream of records has taken.
use Rattle.std.specs.Prelude.{◌≡◌, ◌⊎◌, ℕ, ◌+◌, ◌<◌, ◌≤◌, ◌^◌, List, length, ◌++◌}
use Rattle.spp_event.specs.declared.version.Version.{Version}
use Rattle.spp_event.specs.Recordings.{count_in, filled, room}
use Rattle.spp_event.specs.Heads.{IsHeadOf}
use Rattle.spp_event.specs.Places.{IsJoint}
use Rattle.spp_shell.specs.declared.record_stream.Head.{Head}

-- the bytes are those of n records, or of n items, of which the last may go on
abbrev pub AreWhole : Version → ℕ → List ℕ → Type 0
AreWhole version n bytes = filled version bytes ≡ room version n

-- so many events, and then bytes that are no whole one, are more than a header claims
abbrev pub AreMore : ℕ → ℕ → List ℕ → Type 0
AreMore count events rest = (count < events) ⊎ ((count ≡ events) × (0 < length rest))

-- or they are not
abbrev pub AreNoMore : ℕ → ℕ → List ℕ → Type 0
AreNoMore count events rest = (events < count) ⊎ ((events ≡ count) × (length rest ≡ 0))

module _ {V : Type 0} (seen_by : V → ℕ) (has_seen : Version → V → V → List ℕ → Type 0) where
  -- The bytes are a header, whole events that were gone over, and the rest. Where these events are more than the header claims,
  -- nothing is said of what they show.
  pub record HasStreamed (first now : V) (head : Head) (events before : ℕ) (header rest bytes : List ℕ) : Type 0 where
    pub done : List ℕ
    pub parts : bytes ≡ (header ++ done) ++ rest
    pub is_head : IsHeadOf head.version header head.sites head.funcs head.count
    pub len : length header ≡ head.len
    pub before_is : length header + length done ≡ before
    pub whole : AreWhole head.version events done
    pub joint : IsJoint head.version done rest
    pub count : events ≤ head.count → seen_by now ≡ events
    pub seen : events ≤ head.count → has_seen head.version first now done

  -- of these bytes whole events were gone over, behind so many, and the rest is left
  pub record HasGoneOver (records now : V) (head : Head) (events behind : ℕ) (bytes rest : List ℕ) : Type 0 where
    pub gone : List ℕ
    pub parts : bytes ≡ gone ++ rest
    pub whole : AreWhole head.version (count_in head.version gone) gone
    pub counted : behind ≡ events + count_in head.version gone
    pub joint : IsJoint head.version gone rest
    pub count : behind ≤ head.count → seen_by now ≡ behind
    pub seen : behind ≤ head.count → (first : V) (xs : List ℕ) → AreWhole head.version events xs → IsJoint head.version xs bytes
        → has_seen head.version first records xs → has_seen head.version first now (xs ++ gone)

  -- they can go over these bytes, which are so many whole events
  pub record CanFollow (version : Version) (records : V) (count : ℕ) (bytes : List ℕ) : Type 0 where
    pub counted : count ≡ count_in version bytes
    pub room : seen_by records + count ≤ 2 ^ 28
    pub seen : (first : V) × (xs : List ℕ) × AreWhole version (seen_by records) xs × IsJoint version xs bytes × has_seen version first records xs

  -- they have gone over these bytes
  pub record HasFollowed (version : Version) (records : V) (count : ℕ) (bytes : List ℕ) (now : V) : Type 0 where
    pub counted : seen_by now ≡ seen_by records + count
    pub seen : (first : V) (xs : List ℕ) → AreWhole version (seen_by records) xs → IsJoint version xs bytes → has_seen version first records xs
        → has_seen version first now (xs ++ bytes)
