use Rattle.std.proofs.Common.{◌+◌, sym, ap, subst, ◌∙◌}
use Rattle.spp_piece.specs.Account.{Account}
use Rattle.spp_crew.specs.Blocks.{IsSummaryOfFirst, count_of}
use Rattle.spp_crew.proofs.BlockParts.{summary_with}
use Rattle.spp_crew.proofs.Profiled.{if_ok}
use Rattle.spp_crew.proofs.RecordProfiles.{if_err}
use Rattle.spp_crew.proofs.figured_blocks.both.Goals as goal

pub unless_bad-requires : goal.unless_bad-requires
unless_bad-requires c = ap (λ (s : Account). s.first) c.in-Ok.ensures.ok ∙ ap (λ (s : Account). s.first) c.requires.some.4

pub returns-in-Ok-clause-both : goal.returns-in-Ok-clause-both
returns-in-Ok-clause-both c =
    if_ok c.unless_bad.result (λ s same. λ trace burdens i block left at right. subst (λ (x : Account). IsSummaryOfFirst trace burdens (i + count_of block) x) (sym (same ∙ c.in-Ok.ensures.ok)) (summary_with trace burdens i block at c.args.left c.args.right left right)) c.unless_bad.ensures.same

pub returns-in-Ok-clause-fault : goal.returns-in-Ok-clause-fault
returns-in-Ok-clause-fault c =
    if_err c.unless_bad.result (λ f told. λ trace burdens i block left at right. told trace burdens (i + count_of block) (subst (λ (x : Account). IsSummaryOfFirst trace burdens (i + count_of block) x) (sym c.in-Ok.ensures.ok) (summary_with trace burdens i block at c.args.left c.args.right left right))) c.unless_bad.ensures.fault
