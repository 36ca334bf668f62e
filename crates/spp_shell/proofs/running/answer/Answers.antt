use Rattle.std.proofs.Common.{refl}
use Rattle.spp_shell.specs.Check.{IsCheckText, IsCheckLine}
use Rattle.spp_shell.specs.Devices.{Giving, giving_of}
use Rattle.spp_shell.specs.Encode.{IsEncodeText, IsEncodeLine}
use Rattle.spp_shell.specs.Migrate.{IsMigrateText, IsMigrateLine}
use Rattle.spp_shell.specs.Figures.{IsFiguresText}
use Rattle.spp_shell.specs.Profiles.{IsProfileText}
use Rattle.spp_shell.specs.declared.place.Place.TheVariants.{Only}
use Rattle.spp_shell.proofs.Inputs.{answered_by, told_by}
use Rattle.spp_shell.proofs.running.answer.Goals as goal

pub returns-in-Check-clause-text : goal.returns-in-Check-clause-text
returns-in-Check-clause-text g c =
    let first : Giving = giving_of g.S.Source.answered g.S.Source.failed g.S.Source.failures c.args.first.now c.check_input.new.source in
    let second : Giving = giving_of g.T.Source.answered g.T.Source.failed g.T.Source.failures c.args.second.now c.args.second.now in
    rw c.in-Check.is (answered_by (λ text. text.items) first second refl IsCheckText c.check_input.result c.check_input.ensures.text)

pub returns-in-Check-clause-refused : goal.returns-in-Check-clause-refused
returns-in-Check-clause-refused g c =
    let first : Giving = giving_of g.S.Source.answered g.S.Source.failed g.S.Source.failures c.args.first.now c.check_input.new.source in
    let second : Giving = giving_of g.T.Source.answered g.T.Source.failed g.T.Source.failures c.args.second.now c.args.second.now in
    rw c.in-Check.is (told_by (λ text. text.items) first second refl Only IsCheckLine c.check_input.result c.check_input.ensures.refused)

pub returns-in-Figures-clause-text : goal.returns-in-Figures-clause-text
returns-in-Figures-clause-text g c =
    let first : Giving = giving_of g.S.Source.answered g.S.Source.failed g.S.Source.failures c.args.first.now c.figures_input.new.source in
    let second : Giving = giving_of g.T.Source.answered g.T.Source.failed g.T.Source.failures c.args.second.now c.args.second.now in
    rw c.in-Figures.is (answered_by (λ text. text.items) first second refl (IsFiguresText c.args.request.now.burdens) c.figures_input.result c.figures_input.ensures.text)

pub returns-in-Figures-clause-refused : goal.returns-in-Figures-clause-refused
returns-in-Figures-clause-refused g c =
    let first : Giving = giving_of g.S.Source.answered g.S.Source.failed g.S.Source.failures c.args.first.now c.figures_input.new.source in
    let second : Giving = giving_of g.T.Source.answered g.T.Source.failed g.T.Source.failures c.args.second.now c.args.second.now in
    rw c.in-Figures.is (told_by (λ text. text.items) first second refl Only IsCheckLine c.figures_input.result c.figures_input.ensures.refused)

pub returns-in-Profile-clause-text : goal.returns-in-Profile-clause-text
returns-in-Profile-clause-text g c =
    let first : Giving = giving_of g.S.Source.answered g.S.Source.failed g.S.Source.failures c.args.first.now c.answer_profile.new.source in
    let second : Giving = giving_of g.T.Source.answered g.T.Source.failed g.T.Source.failures c.args.second.now c.args.second.now in
    rw c.in-Profile.is (answered_by (λ text. text.items) first second refl (IsProfileText c.args.request.now.burdens c.args.request.now.csv) c.answer_profile.result c.answer_profile.ensures.text)

pub returns-in-Profile-clause-refused : goal.returns-in-Profile-clause-refused
returns-in-Profile-clause-refused g c =
    let first : Giving = giving_of g.S.Source.answered g.S.Source.failed g.S.Source.failures c.args.first.now c.answer_profile.new.source in
    let second : Giving = giving_of g.T.Source.answered g.T.Source.failed g.T.Source.failures c.args.second.now c.args.second.now in
    rw c.in-Profile.is (told_by (λ text. text.items) first second refl Only IsCheckLine c.answer_profile.result c.answer_profile.ensures.refused)

pub returns-in-Encode-clause-text : goal.returns-in-Encode-clause-text
returns-in-Encode-clause-text g c =
    let first : Giving = giving_of g.S.Source.answered g.S.Source.failed g.S.Source.failures c.args.first.now c.encode_input.new.source in
    let second : Giving = giving_of g.T.Source.answered g.T.Source.failed g.T.Source.failures c.args.second.now c.args.second.now in
    rw c.in-Encode.is (answered_by (λ text. text.items) first second refl IsEncodeText c.encode_input.result c.encode_input.ensures.text)

pub returns-in-Encode-clause-refused : goal.returns-in-Encode-clause-refused
returns-in-Encode-clause-refused g c =
    let first : Giving = giving_of g.S.Source.answered g.S.Source.failed g.S.Source.failures c.args.first.now c.encode_input.new.source in
    let second : Giving = giving_of g.T.Source.answered g.T.Source.failed g.T.Source.failures c.args.second.now c.args.second.now in
    rw c.in-Encode.is (told_by (λ text. text.items) first second refl Only IsEncodeLine c.encode_input.result c.encode_input.ensures.refused)

pub returns-in-Migrate-clause-text : goal.returns-in-Migrate-clause-text
returns-in-Migrate-clause-text g c =
    let first : Giving = giving_of g.S.Source.answered g.S.Source.failed g.S.Source.failures c.args.first.now c.migrate_input.new.source in
    let second : Giving = giving_of g.T.Source.answered g.T.Source.failed g.T.Source.failures c.args.second.now c.args.second.now in
    rw c.in-Migrate.is (answered_by (λ text. text.items) first second refl IsMigrateText c.migrate_input.result c.migrate_input.ensures.text)

pub returns-in-Migrate-clause-refused : goal.returns-in-Migrate-clause-refused
returns-in-Migrate-clause-refused g c =
    let first : Giving = giving_of g.S.Source.answered g.S.Source.failed g.S.Source.failures c.args.first.now c.migrate_input.new.source in
    let second : Giving = giving_of g.T.Source.answered g.T.Source.failed g.T.Source.failures c.args.second.now c.args.second.now in
    rw c.in-Migrate.is (told_by (λ text. text.items) first second refl Only IsMigrateLine c.migrate_input.result c.migrate_input.ensures.refused)

pub returns-in-Compare-clause-text : goal.returns-in-Compare-clause-text
returns-in-Compare-clause-text g c = rw c.in-Compare.is c.answer_compare.ensures.text

pub returns-in-Compare-clause-refused : goal.returns-in-Compare-clause-refused
returns-in-Compare-clause-refused g c = rw c.in-Compare.is c.answer_compare.ensures.refused
