use Rattle.std.proofs.Common.{◌≡◌, Some}
use Rattle.spp_explain.specs.Lines.{IsTold, line_of}
use Rattle.spp_explain.specs.declared.line.Told.{Told}
use Rattle.spp_explain.specs.declared.line.Told.TheVariants.{Header, Event, Text, NoSite, CannotOpen, CannotRead, TooLong, CannotWrite, Memory}
use Rattle.spp_explain.proofs.line.read_line.Goals as goal

pub returns-in_default : goal.returns-in_default
returns-in_default c = record { known = known }
  where
    known : (t : Told) → IsTold t → c.args.line.now ≡ line_of t → c.read_bad.result ≡ Some t
    known (Header f) told is = c.read_bad.ensures.header f told is
    known (Event f) told is = c.read_bad.ensures.event f told is
    known (Text f) told is = c.read_bad.ensures.text f told is
    known CannotOpen told is = absurd (c.in_default.not-text is)
    known CannotRead told is = absurd (c.in_default.not-text-2 is)
    known TooLong told is = absurd (c.in_default.not-text-3 is)
    known CannotWrite told is = absurd (c.in_default.not-text-4 is)
    known Memory told is = absurd (c.in_default.not-text-5 is)
    known NoSite told is = absurd (c.in_default.not-text-6 is)
