use Rattle.std.proofs.Common.{refl}
use Rattle.spp_shell.proofs.tell_input.tell_bytes.Goals as goal

pub returns-clause-told : goal.returns-clause-told
returns-clause-told g c =
    record {
      trace = c.in_ok-trace.trace;
      profile = c.in_ok-profile.profile;
      is_trace = c.in_ok-trace.ensures.found;
      good = c.in_ok-profile.ensures.good;
      is_profile = c.in_ok-profile.ensures.profile;
      small = c.in_ok-profile.ensures.small;
      is_told = c.in_ok-tell.ensures c.in_ok-trace.trace refl;
    }
