use Rattle.std.proofs.Common.{◌<◌, List, length, sym, subst}
use Rattle.spp_cut.specs.Parts.{PartOf}
use Rattle.spp_jobs.proofs.Begins.{part_got}
use Rattle.spp_jobs.proofs.Entries.{entry_stands}
use Rattle.crew_tests.proofs.parts.noted.Goals as goal

pub run_part-requires : goal.run_part-requires
run_part-requires c =
    let ps : List PartOf = c.args.cut.now.parts in
    let lt : c.args.number < length c.parts.result.now = subst (λ (l : List PartOf). c.args.number < length l) (sym c.parts.ensures.parts) c.requires.part in
    let got = part_got ps c.parts.result.now c.args.number c.index-parts-number.result c.parts.ensures.parts c.index-parts-number.is lt in
    entry_stands c.args.cut.now c.args.burdens c.args.stacks.now c.requires.stacks c.args.number c.index-parts-number.result got c.entry.result c.entry.ensures.entry c.parts.ensures.cut
