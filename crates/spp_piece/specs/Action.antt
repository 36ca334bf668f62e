-- What a summary does to a stack.
use Rattle.std.specs.Prelude.{◌+◌, ◌∷◌, Result, Ok, Err}
use Rattle.spp_maxplus.specs.declared.state.Burdens.{Burdens}
use Rattle.spp_frame.specs.declared.Why.TheVariants.{Event as Record}
use Rattle.spp_frame.specs.declared.Fault.{Fault}
use Rattle.spp_piece.specs.Pair.{act}
use Rattle.spp_piece.specs.Stack.{Stack, touch, closed_by}
use Rattle.spp_piece.specs.Machine.{Ops}
use Rattle.spp_piece.specs.Summary.{Sum, later, play}

-- nothing follows a fault
abbrev pub going : (Stack → Result Stack Fault) → Result Stack Fault → Result Stack Fault
going next (Ok s) = next s
going next (Err fault) = Err fault

abbrev pub stack_ops : Burdens → Ops (Result Stack Fault)
stack_ops burdens =
    record {
      along = λ g. going (λ s. Ok (touch (act g) s));
      ret = λ at. going (λ s. closed_by s.frames burdens at s);
      push = λ f. going (λ s. Ok (record { frames = later s.work f ∷ s.frames; root = s.root; work = s.work }));
      worked = λ n. going (λ s. Ok (record { frames = s.frames; root = s.root; work = s.work + n }));
      fail = λ q. going (λ _. Err (record { at = q.0; why = Record q.1 }));
    }

-- the stack after the summary's events, or the first fault
abbrev pub action : Burdens → Sum → Result Stack Fault → Result Stack Fault
action burdens s r = play (stack_ops burdens) s r
