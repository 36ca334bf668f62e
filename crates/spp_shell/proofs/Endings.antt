-- What goes with the status of a run, from why it ends.
use Rattle.std.proofs.Common.{◌≡◌, ◌⊎◌, ◌∙◌, ℕ, List, ap, inl, inr, arith}
use Rattle.std.specs.Prelude.{Result, Ok, Err, IfOk, IfErr}
use Rattle.std.specs.String.{string_bytes}
use Rattle.spp_shell.specs.Devices.{Devices, Told, WasRead}
use Rattle.spp_shell.specs.Endings.{EndsBy, EndsRefused, WritingEnds, AnswersWell, RefusesInput, OutputFails, InputFails, MemoryFails}
use Rattle.spp_shell.specs.Inputs.{IsLineOf, IsRefusedBy, IsTroubleOf, IsUnread, StayedWithin}
use Rattle.spp_shell.specs.Troubles.{trouble_line, trouble_status}
use Rattle.spp_shell.specs.declared.place.Place.{Place}
use Rattle.spp_shell.specs.declared.place.Place.TheVariants.{After}
use Rattle.spp_shell.specs.declared.reading.ReadFault.{ReadFault}
use Rattle.spp_shell.specs.declared.reading.ReadFault.TheVariants.{Device, TooLong, Memory}
use Rattle.spp_shell.specs.declared.refusal.Refusal.{Refusal}
use Rattle.spp_shell.specs.declared.refusal.Refusal.TheVariants as refusal
use Rattle.spp_shell.specs.declared.trouble.Trouble.{Trouble}
use Rattle.spp_shell.specs.declared.trouble.Trouble.TheVariants.{NoMemory}

-- an input that could not be read has a status of its own
unread_status : (place : Place) (fault : ReadFault) (trouble : Trouble) → IsTroubleOf place fault trouble → trouble_status trouble ≡ 3
unread_status place Device trouble is = ap trouble_status is
unread_status place TooLong trouble is = ap trouble_status is
unread_status place Memory trouble is = absurd is

module _ (TextFor LineFor : List (List ℕ) → List ℕ → Type 0) (first : Place) (d : Devices) (status : ℕ) where
  -- the whole text went out
  ends_good : status ≡ 0 → AnswersWell TextFor LineFor first d → EndsBy TextFor LineFor first d status
  ends_good is well = record {
    known = inl is;
    good = λ _. well;
    bad_input = λ e. absurd (omega (arith, is, e));
    device = λ e. absurd (omega (arith, is, e));
    memory = λ e. absurd (omega (arith, is, e));
  }

  -- the input is refused
  ends_bad : status ≡ 1 → RefusesInput TextFor LineFor first d → EndsBy TextFor LineFor first d status
  ends_bad is bad = record {
    known = inr (inl is);
    good = λ e. absurd (omega (arith, is, e));
    bad_input = λ _. bad;
    device = λ e. absurd (omega (arith, is, e));
    memory = λ e. absurd (omega (arith, is, e));
  }

  -- a device failed
  ends_failed : status ≡ 3 → OutputFails TextFor LineFor first d ⊎ InputFails TextFor LineFor first d → EndsBy TextFor LineFor first d status
  ends_failed is failed = record {
    known = inr (inr (inl is));
    good = λ e. absurd (omega (arith, is, e));
    bad_input = λ e. absurd (omega (arith, is, e));
    device = λ _. failed;
    memory = λ e. absurd (omega (arith, is, e));
  }

  -- an allocation failed
  ends_out_of_memory : status ≡ 4 → MemoryFails TextFor LineFor first d → EndsBy TextFor LineFor first d status
  ends_out_of_memory is failed = record {
    known = inr (inr (inr is));
    good = λ e. absurd (omega (arith, is, e));
    bad_input = λ e. absurd (omega (arith, is, e));
    device = λ e. absurd (omega (arith, is, e));
    memory = λ _. failed;
  }

  -- there is a text, and it was written, whole or in part
  run_answered : (inputs : List (List ℕ)) (text : List ℕ) → WasRead d.inputs inputs → TextFor inputs text
      → WritingEnds d.out d.err text status → EndsBy TextFor LineFor first d status
  run_answered inputs text read is (inl (good, wrote)) = ends_good good (inputs, text, read, is, wrote)
  run_answered inputs text read is (inr (failed, wrote)) = ends_failed failed (inl (inputs, text, read, is, wrote))

  -- the bytes are refused by a line
  run_refused : (line : List ℕ) → status ≡ 1 → IsLineOf d.inputs LineFor line
      → d.out.Untouched → Told d.err line → EndsBy TextFor LineFor first d status
  run_refused line is refused out told = ends_bad is (line, refused, out, told)

  -- an input could not be read
  run_unread : (trouble : Trouble) → status ≡ trouble_status trouble → IsUnread d.inputs first trouble
      → d.out.Untouched → Told d.err (trouble_line trouble) → EndsBy TextFor LineFor first d status
  run_unread trouble is (inl (fault, of, refused, unused)) out told =
      ends_failed (is ∙ unread_status first fault trouble of) (inr (trouble, inl (fault, of, refused, unused), out, told))
  run_unread trouble is (inr (fault, of, good, refused)) out told =
      ends_failed (is ∙ unread_status After fault trouble of) (inr (trouble, inr (fault, of, good, refused), out, told))

  -- an allocation failed
  run_out_of_memory : status ≡ 4 → StayedWithin d.inputs first
      → d.out.Untouched → Told d.err (trouble_line NoMemory) → EndsBy TextFor LineFor first d status
  run_out_of_memory is within out told = ends_out_of_memory is (within, out, told)

  -- as the answer, or why there is none, goes with it
  pub run_ends : {T : Type 0} (items : T → List ℕ) (answer : Result T Refusal) → IfOk answer (λ text. (inputs : List (List ℕ)) × WasRead d.inputs inputs × TextFor inputs (items text))
      → IfErr answer (IsRefusedBy d.inputs first LineFor) → IfOk answer (λ text. WritingEnds d.out d.err (items text) status) → IfErr answer (λ r. EndsRefused d.out d.err r status)
      → EndsBy TextFor LineFor first d status
  run_ends items (Ok text) (inputs, read, is) why wrote refused = run_answered inputs (items text) read is wrote
  run_ends items (Err (refusal.Line told)) known line wrote (is, out, told_so) = run_refused (string_bytes told) is line out told_so
  run_ends items (Err (refusal.Unread trouble)) known why wrote (is, out, told_so) = run_unread trouble is why out told_so
  run_ends items (Err refusal.Memory) known why wrote (is, out, told_so) = run_out_of_memory is why out told_so
