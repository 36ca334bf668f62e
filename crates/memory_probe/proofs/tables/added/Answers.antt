use Rattle.memory_probe.proofs.Small.{ten_fits}
use Rattle.memory_probe.proofs.tables.added.Goals as goal

pub add-requires-clause-fits : goal.add-requires-clause-fits
add-requires-clause-fits c = ten_fits c.new-table.result 40000 c.new-table.ensures
