-- Two summaries as they are kept, one after the other.
use Rattle.std.specs.Prelude.{◌≡◌, ℕ, ◌+◌, ◌-◌, ◌≤◌, ◌<◌, ◌^◌, min, take, drop, reverse, List, [], ◌∷◌, length}
use Rattle.std.specs.VecDeque.{deque_len, deque_capacity}
use Rattle.spp_summary.specs.declared.opens.Open.{Open}
use Rattle.spp_summary.specs.declared.opens.Kept.{Kept}
use Rattle.spp_piece.specs.Bound.{load_frames}
use Rattle.spp_maxplus.specs.declared.state.Burdens.{Burdens}
use Rattle.spp_piece.specs.Summary.{Sum, summary_ops, play_returns}
use Rattle.spp_summary.specs.KeptFrames.{frames_of, AreLaid, frames_inwards, work_within, AreLaidInwards}
use Rattle.spp_summary.specs.Returns.{HasReturnRoom}
use Rattle.spp_summary.specs.declared.storage.Storage.{Storage}

-- the later one's frames, the innermost first, whose outermost is opened where that work has run
abbrev pub raised : ℕ → List Open → List Open
raised gap [] = []
raised gap (o ∷ []) = record o { gap = gap } ∷ []
raised gap (o ∷ p ∷ os) = o ∷ raised gap (p ∷ os)

-- what has run since the innermost frame of both was opened: where the later one has none, the earlier one's
abbrev pub run_on : ℕ → ℕ → List Open → ℕ
run_on next run [] = next
run_on next run (o ∷ os) = run

-- and the work before that
abbrev pub before_on : ℕ → ℕ → ℕ → List Open → ℕ
before_on work low before [] = low
before_on work low before (o ∷ os) = work + before

-- what a later piece does to the frames that are open
abbrev pub went : Burdens → Sum → Sum → Sum
went burdens left right =
    (summary_ops burdens).along right.middle (play_returns (summary_ops burdens) right.returns left)

-- the same but for the room of its lists
pub record SameStorage (p q : Storage) : Type 0 where
  pub returns : q.returns.items ≡ p.returns.items
  pub opens : q.opens.items ≡ p.opens.items
  pub states : q.states.items ≡ p.states.items
  pub middle : q.middle ≡ p.middle
  pub since : q.since ≡ p.since
  pub run : q.run ≡ p.run
  pub before : q.before ≡ p.before
  pub fault : q.fault ≡ p.fault

-- the frames that are left of the earlier one once those have returned
abbrev pub left_of : Storage → Storage → ℕ
left_of p q = deque_len p.opens - length q.returns.items

-- room for the join: in that one of the two which has more frames, and in that one which has more returns
pub record HasRoom (p q : Storage) : Type 0 where
  pub returns : HasReturnRoom (deque_len p.opens) p.returns q.returns
  pub one : deque_len p.states < deque_capacity p.states
  pub left_opens : deque_len q.opens ≤ left_of p q → left_of p q + deque_len q.opens ≤ deque_capacity p.opens
  pub left_states : deque_len q.opens ≤ left_of p q → deque_len p.states + 1 + deque_len q.states ≤ deque_capacity p.states
  pub right_opens : left_of p q < deque_len q.opens → left_of p q + deque_len q.opens ≤ deque_capacity q.opens
  pub right_states : left_of p q < deque_len q.opens → min (deque_len p.states + 1) (left_of p q) + deque_len q.states ≤ deque_capacity q.states

-- what is left to read of the frames: so many of them, and so many kept states
pub record AreRead (run before left : ℕ) (opens : List Open) (kept : ℕ) (states : List Kept) : Type 0 where
  pub laid : AreLaid run before (reverse (take left opens)) (reverse (take kept states)) 0
  pub load : load_frames (frames_of run before (reverse (take left opens)) (reverse (take kept states))) < 2 ^ 127
  pub left_fits : left ≤ length opens
  pub kept_fits : kept ≤ length states

-- what is left to read of the frames from the outermost on, once so many of them and so many kept states were read
pub record AreReadInwards (run before read : ℕ) (opens : List Open) (kept : ℕ) (states : List Kept) : Type 0 where
  pub laid : AreLaidInwards run (drop read opens) (drop kept states)
  pub load : load_frames (frames_inwards run before (drop read opens) (drop kept states)) < 2 ^ 127
  pub work : work_within before (drop read opens) < 2 ^ 128
  pub read_fits : read ≤ length opens
  pub kept_fits : kept ≤ length states
