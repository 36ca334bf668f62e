use Rattle.std.proofs.Common.{◌≡◌, [], refl}
use Rattle.spp_piece.specs.Account.{account_of}
use Rattle.spp_crew.proofs.RecordProfiles.{events_nil}
use Rattle.spp_crew.proofs.record_figures.RecordFigures.new.Goals as goal

pub returns-clause-seen : goal.returns-clause-seen
returns-clause-seen c =
    let none : c.in_ok-summary.summary ≡ account_of c.args.burdens 0 [] = c.in_ok-summary.ensures in
    record {
      count = refl;
      good = events_nil c.args.head.sites c.args.head.funcs;
      found = λ t b. c.in_ok-behind.ensures.come t c.args.burdens 0 none;
    }
