-- A summary and the storage that keeps it.
use Rattle.spp_summary.specs.declared.storage.Storage.{Storage}
use Rattle.spp_piece.specs.Account.{Account, IsSound}
use Rattle.spp_summary.specs.Storage.{IsLaid}

pub record IsStored (a : Account) (p : Storage) : Type 0 where
  pub sound : IsSound a
  pub laid : IsLaid p
