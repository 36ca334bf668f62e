use Rattle.std.proofs.Common.{ℕ, length, ◌∙◌}
use Rattle.spp_event.specs.declared.version.Version.TheVariants.{Two}
use Rattle.spp_event.specs.Items.{items}
use Rattle.spp_summary.specs.Reading.{so_far}
use Rattle.spp_summary.proofs.ReadAccounts.{account_by}
use Rattle.spp_summary.proofs.summary.Summary.of_items.Goals as goal

pub returns : goal.returns
returns c =
    let n : ℕ = length (items c.args.bytes.now) in
    c.of_reading.ensures
    ∙ account_by Two c.args.sites c.args.funcs c.args.bytes.now c.args.burdens c.args.first n c.items_in-count.result (so_far c.in_ok-reading.reading) c.in_ok-reading.ensures.value c.items_in-count.ensures
