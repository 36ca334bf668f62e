use Rattle.std.proofs.Common.{◌≡◌, ◌+◌, ◌<◌, List, [], ◌∷◌, ◌++◌, length, get_or, refl, sym, ap, subst, ◌∙◌, arith}
use Rattle.spp_cut.specs.Parts.{PartOf}
use Rattle.spp_dag.specs.declared.choices.Choices.{Choices}
use Rattle.spp_jobs.proofs.Begins.{part_read, part_got}
use Rattle.spp_jobs.proofs.Entries.{entry_stands}
use Rattle.spp_jobs.specs.Names.{tables, JobOf, spell}
use Rattle.spp_jobs.specs.Tables.{TableTask, IsTabled}
use Rattle.spp_jobs.proofs.Spelling.{parts_told}
use Rattle.spp_jobs.proofs.Tables.{is_run, tabled_one}
use Rattle.spp_jobs.proofs.tabled.TableJobJob.run.Goals as goal

pub run_part-requires : goal.run_part-requires
run_part-requires c =
    let ps : List PartOf = c.self.inside.cut.now.parts in
    let within : c.args.number < length ps = subst (λ (v : TableTask). c.args.number < length v.cut.parts) (sym c.self.view_is)
    (omega (arith, parts_told (record { kind = tables; cut = c.args.self.now.cut; burdens = c.args.self.now.burdens }), c.requires)) in
    let lt : c.args.number < length c.parts.result.now = subst (λ (l : List PartOf). c.args.number < length l) (sym c.parts.ensures.parts) within in
    let got = part_got ps c.parts.result.now c.args.number c.index-parts-at.result c.parts.ensures.parts c.index-parts-at.is lt in
    entry_stands c.self.inside.cut.now c.self.inside.burdens c.self.inside.stacks.now c.self.invariant c.args.number c.index-parts-at.result got c.entry.result c.entry.ensures.entry c.parts.ensures.cut

pub returns : goal.returns
returns c =
    let j : JobOf = record { kind = tables; cut = c.self.inside.cut.now; burdens = c.self.inside.burdens } in
    let ps : List PartOf = c.self.inside.cut.now.parts in
    let within : c.args.number < length ps = subst (λ (v : TableTask). c.args.number < length v.cut.parts) (sym c.self.view_is)
    (omega (arith, parts_told (record { kind = tables; cut = c.args.self.now.cut; burdens = c.args.self.now.burdens }), c.requires)) in
    let lt : c.args.number < length c.parts.result.now = subst (λ (l : List PartOf). c.args.number < length l) (sym c.parts.ensures.parts) within in
    let p = c.index-parts-at.result in
    let at = part_read c.self.inside.cut.now.trace ps c.parts.result.now c.args.number p c.parts.ensures.cut c.parts.ensures.parts c.index-parts-at.is lt in
    let run = is_run c.self.inside.cut.now (c.self.invariant.events, c.self.invariant.are_events, c.self.invariant.well_formed) c.trace.result.now c.trace.ensures c.keeps_limits.ensures.limits c.keeps_limits.ensures.events in
    let choices : c.push_back.new.self.items ≡ c.in_ok-told.told.choices ∷ [] = c.in_ok-push_back.ensures.items ∙ ap (λ (xs : List Choices). xs ++ c.in_ok-told.told.choices ∷ []) c.in_ok-choices.ensures.items in
    let one =
    tabled_one j c.parts.ensures.cut run c.args.number p within (c.index-parts-at.is ∙ ap (λ (l : List PartOf). get_or l c.args.number p) c.parts.ensures.parts) at.trace
    c.in_ok-told.told.share c.in_ok-told.told.choices (λ es are. c.in_ok-told.ensures es are)
    (record { share = c.in_ok-told.told.share; choices = c.push_back.new.self }) refl choices in
    subst (λ (v : TableTask). IsTabled (spell (record { kind = tables; cut = v.cut; burdens = v.burdens })) c.args.number (c.args.number + 1) (record { share = c.in_ok-told.told.share; choices = c.push_back.new.self }))
    c.self.view_is
    (j, record { kind_is = refl; named = refl; cut = c.parts.ensures.cut; few = c.parts.ensures.few }, one)
