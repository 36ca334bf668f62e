-- The law of ways.
use Rattle.spp_ways.proofs.Rows.{ways_give_rows}
use Rattle.spp_ways.proofs.laws.way_laws.Goals as goal

pub returns : goal.returns
returns c = record { rows = ways_give_rows }
