use Rattle.std.proofs.Common.{◌≤◌, arith}
use Rattle.spp_site.specs.Marks.{is_marked}
use Rattle.spp_ways.specs.Pruning.{kept_up_to}
use Rattle.spp_ways.proofs.Pruned.{few_kept}
use Rattle.spp_ways.proofs.kept_rows.KeptRows.of.Goals as goal

pub overflow_add-kept : goal.overflow_add-kept
overflow_add-kept c =
    let less : kept_up_to (is_marked c.args.marks) c.loop-k.k ≤ c.loop-k.k = few_kept (is_marked c.args.marks) c.loop-k.k in
    omega (arith, less, c.loop-k.invariant.kept, c.loop-k-test.true, c.requires.few)
