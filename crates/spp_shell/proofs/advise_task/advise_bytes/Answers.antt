use Rattle.std.proofs.Common.{◌≡◌, inl, inr, refl}
use Rattle.spp_shell.specs.Advise.{IsOneAdviseLine, LacksSite, asked_name, no_site_line}
use Rattle.spp_shell.specs.Check.{IsFirstBadLine}
use Rattle.spp_shell.proofs.Advised.{asked_is_there}
use Rattle.spp_shell.proofs.Inputs.{err_again}
use Rattle.spp_shell.proofs.Refusals.{line_then}
use Rattle.spp_shell.proofs.advise_task.advise_bytes.Goals as goal

pub returns-in_err-asked-clause-line : goal.returns-in_err-asked-clause-line
returns-in_err-asked-clause-line g c =
    let trace = c.in_ok-trace.trace in
    let bytes = c.args.bytes.now in
    err_again _ c.in_err-asked.field-0.0 _ c.from_residual-in_err-asked.ensures.1
    (line_then c.in_err-asked.field-0.0 (λ line. LacksSite trace (asked_name c.args.options.now) × (line ≡ no_site_line)) (IsOneAdviseLine c.args.options.now bytes)
    c.in_err-asked.ensures.lacks (λ line is. (bytes, refl, inr (trace, c.in_ok-trace.ensures.found, inl is))))

pub returns-in_err-profile-clause-line : goal.returns-in_err-profile-clause-line
returns-in_err-profile-clause-line g c =
    let trace = c.in_ok-trace.trace in
    let bytes = c.args.bytes.now in
    let there = asked_is_there trace (asked_name c.args.options.now) c.in_ok-asked.asked c.in_ok-asked.ensures.asked in
    err_again _ c.in_err-profile.field-0.0 _ c.from_residual-in_err-profile.ensures.1
    (line_then c.in_err-profile.field-0.0 (IsFirstBadLine trace.records) (IsOneAdviseLine c.args.options.now bytes)
    c.in_err-profile.ensures.line (λ line is. (bytes, refl, inr (trace, c.in_ok-trace.ensures.found, inr (there, is)))))
