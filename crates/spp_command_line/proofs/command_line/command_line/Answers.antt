use Rattle.std.proofs.Common.{◌∙◌, ap, ap₂, true}
use Rattle.std.proofs.lemmas.Result.{IfOk-weaker}
use Rattle.clap.specs.Simple.{App, Shape, app_of_fields, on_top, with_subcommand}
use Rattle.spp_command_line.proofs.command_line.command_line.Goals as goal

-- the settings of the command itself
abbrev versioned : App → App
versioned = on_top (λ (s : Shape). record s { has_version = true })

abbrev wanting : App → App
wanting = on_top (λ (s : Shape). record s { subcommand_required = true })

abbrev with_no_help : App → App
with_no_help = on_top (λ (s : Shape). record s { disable_help_subcommand = true })

abbrev top_of : App → Shape
top_of a = a.top

pub returns : goal.returns
returns c =
    let named = ap app_of_fields c.about.ensures ∙ c.new.ensures.app in
    let told = ap app_of_fields c.version.ensures ∙ ap versioned named in
    let helped = ap app_of_fields c.after_help.ensures ∙ told in
    let wants = ap app_of_fields c.subcommand_required.ensures ∙ ap wanting helped in
    let start = ap app_of_fields c.disable_help_subcommand.ensures ∙ ap with_no_help wants in
    let one = c.in_ok-subcommand.ensures.shape c.in_ok-check.ensures.1 ∙ ap₂ with_subcommand start (ap top_of c.in_ok-check.ensures.0) in
    let two = c.in_ok-subcommand-2.ensures.shape c.in_ok-figures.ensures.1 ∙ ap₂ with_subcommand one (ap top_of c.in_ok-figures.ensures.0) in
    let three = c.in_ok-subcommand-3.ensures.shape c.in_ok-profile.ensures.1 ∙ ap₂ with_subcommand two (ap top_of c.in_ok-profile.ensures.0) in
    let four = c.in_ok-subcommand-4.ensures.shape c.in_ok-advise.ensures.1 ∙ ap₂ with_subcommand three (ap top_of c.in_ok-advise.ensures.0) in
    let five = c.in_ok-subcommand-5.ensures.shape c.in_ok-compare.ensures.1 ∙ ap₂ with_subcommand four (ap top_of c.in_ok-compare.ensures.0) in
    let six = c.in_ok-subcommand-6.ensures.shape c.in_ok-encode.ensures.1 ∙ ap₂ with_subcommand five (ap top_of c.in_ok-encode.ensures.0) in
    IfOk-weaker c.subcommand-7.result _ _
    (λ d h. h.shape c.in_ok-migrate.ensures.1 ∙ ap₂ with_subcommand six (ap top_of c.in_ok-migrate.ensures.0))
    c.subcommand-7.ensures
