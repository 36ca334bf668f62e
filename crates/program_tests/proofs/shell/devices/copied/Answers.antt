use Rattle.std.proofs.Common.{ap, sym, ◌∙◌, Some}
use Rattle.spp_shell.proofs.Readings.{known_all}
use Rattle.program_tests.proofs.shell.devices.copied.Goals as goal

pub returns-in-Ok : goal.returns-in-Ok
returns-in-Ok c =
    let p = c.in-Ok.ensures.all in
    p.3 ∙ sym (known_all (λ s. Some s.reader.now) _ _ p.0 _ (ap (λ r. Some r.now) c.new-source.ensures.reader) p.1)
