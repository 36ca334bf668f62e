use Rattle.std.proofs.Common.{Ok}
use Rattle.spp_piece.proofs.Joins.{both_account, joined_summary, joined_assoc}
use Rattle.spp_piece.proofs.Stacks.{action-joined}
use Rattle.spp_piece.proofs.laws.piece_laws.Goals as goal

pub returns : goal.returns
returns c = record {
  account = both_account;
  joined = joined_summary;
  acts = λ burdens left right stack. action-joined burdens left right (Ok stack);
  assoc = joined_assoc;
}
