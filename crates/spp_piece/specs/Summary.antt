-- A summary of any events, however unbalanced.
use Rattle.std.specs.Prelude.{ℕ, ◌+◌, List, [], ◌∷◌, ◌++◌, Result, Option, Some, None}
use Rattle.spp_maxplus.specs.declared.state.Burdens.{Burdens}
use Rattle.spp_event.specs.declared.records.Event.{Event}
use Rattle.spp_event.specs.declared.records.EventFault.{EventFault}
use Rattle.spp_piece.specs.declared.segs.Segs.{Segs}
use Rattle.spp_piece.specs.declared.pieces.Frame.{Frame}
use Rattle.spp_piece.specs.declared.pieces.Unmatched.{Unmatched}
use Rattle.spp_piece.specs.Pair.{act, then, idle, fed}
use Rattle.spp_piece.specs.Stack.{with_states}
use Rattle.spp_piece.specs.Machine.{Ops, events}

-- the unmatched returns in order; what the events after the last one do to the frame that is then the innermost;
-- the frames that are open at the end, the innermost first; the work; the first bad record, after which nothing is read
pub record Sum : Type 0 where
  pub returns : List Unmatched
  pub middle : Segs
  pub frames : List Frame
  pub work : ℕ
  pub fault : Option (ℕ × EventFault)

abbrev pub empty : Sum
empty = record { returns = []; middle = idle; frames = []; work = 0; fault = None }

-- a frame whose work before counts from further back
abbrev pub later : ℕ → Frame → Frame
later work f =
    record { kind = f.kind; at = f.at; site = f.site; func = f.func; before = work + f.before; states = f.states }

-- what an action makes of a summary without a bad record
abbrev pub unless : Option (ℕ × EventFault) → Sum → Sum → Sum
unless None old new = new
unless (Some fault) old new = old

abbrev pub along_by : List Frame → Segs → Sum → Sum
along_by [] g s =
    record { returns = s.returns; middle = then s.middle g; frames = []; work = s.work; fault = s.fault }
along_by (f ∷ fs) g s =
    record { returns = s.returns; middle = s.middle; frames = with_states (act g f.states) f ∷ fs; work = s.work; fault = s.fault }

abbrev pub ret_by : List Frame → Burdens → ℕ → Sum → Sum
ret_by [] burdens at s =
    record {
      returns = s.returns ++ record { segs = s.middle; at = at } ∷ [];
      middle = idle;
      frames = [];
      work = s.work;
      fault = s.fault;
    }
ret_by (f ∷ fs) burdens at s =
    along_by fs (fed burdens f) (record { returns = s.returns; middle = s.middle; frames = fs; work = s.work; fault = s.fault })

abbrev pub pushed : Frame → Sum → Sum
pushed f s =
    record { returns = s.returns; middle = s.middle; frames = later s.work f ∷ s.frames; work = s.work; fault = s.fault }

abbrev pub working : ℕ → Sum → Sum
working n s = record { returns = s.returns; middle = s.middle; frames = s.frames; work = s.work + n; fault = s.fault }

abbrev pub failing : ℕ × EventFault → Sum → Sum
failing q s = record { returns = s.returns; middle = s.middle; frames = s.frames; work = s.work; fault = Some q }

abbrev pub summary_ops : Burdens → Ops Sum
summary_ops burdens =
    record {
      along = λ g s. unless s.fault s (along_by s.frames g s);
      ret = λ at s. unless s.fault s (ret_by s.frames burdens at s);
      push = λ f s. unless s.fault s (pushed f s);
      worked = λ n s. unless s.fault s (working n s);
      fail = λ q s. unless s.fault s (failing q s);
    }

-- the summary of a list of events from a position on
abbrev pub summary_of : Burdens → ℕ → List (Result Event EventFault) → Sum
summary_of burdens first es = events (summary_ops burdens) first es empty

abbrev pub play_returns : {X : Type 0} → Ops X → List Unmatched → X → X
play_returns o [] x = x
play_returns o (r ∷ rs) x = play_returns o rs (o.ret r.at (o.along r.segs x))

abbrev pub play_frames : {X : Type 0} → Ops X → List Frame → X → X
play_frames o [] x = x
play_frames o (f ∷ fs) x = o.push f (play_frames o fs x)

abbrev pub play_fault : {X : Type 0} → Ops X → Option (ℕ × EventFault) → X → X
play_fault o None x = x
play_fault o (Some q) x = o.fail q x

-- what a summary does to a stack, or to the summary of the events before
abbrev pub play : {X : Type 0} → Ops X → Sum → X → X
play o s x =
    play_fault o s.fault (o.worked s.work (play_frames o s.frames (o.along s.middle (play_returns o s.returns x))))

-- the summary of two lists together
abbrev pub joined : Burdens → Sum → Sum → Sum
joined burdens left right = play (summary_ops burdens) right left
