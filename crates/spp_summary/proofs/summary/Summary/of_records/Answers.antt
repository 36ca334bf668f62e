use Rattle.std.proofs.Common.{◌≡◌, ◌/◌, ℕ, length, ◌∙◌, arith}
use Rattle.spp_event.specs.declared.version.Version.TheVariants.{One}
use Rattle.spp_summary.specs.Reading.{so_far}
use Rattle.spp_summary.proofs.ReadAccounts.{account_by}
use Rattle.spp_summary.proofs.summary.Summary.of_records.Goals as goal

pub returns : goal.returns
returns c =
    let n : ℕ = length c.args.bytes.now / 16 in
    c.of_reading.ensures
    ∙ account_by One c.args.sites c.args.funcs c.args.bytes.now c.args.burdens c.args.first n n (so_far c.in_ok-reading.reading) c.in_ok-reading.ensures.value (let z : n ≡ n = omega arith in z)
