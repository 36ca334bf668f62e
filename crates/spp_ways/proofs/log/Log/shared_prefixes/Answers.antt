use Rattle.std.proofs.Common.{true, false, reverse}
use Rattle.spp_ways.proofs.Leading.{leads_on}
use Rattle.spp_ways.proofs.log.Log.shared_prefixes.Goals as goal

pub common_prefix-plain-requires-clause-one : goal.common_prefix-plain-requires-clause-one
common_prefix-plain-requires-clause-one c = c.requires.along false

pub common_prefix-plain-requires-clause-other : goal.common_prefix-plain-requires-clause-other
common_prefix-plain-requires-clause-other c = c.requires.through false

pub common_prefix-burdened-requires-clause-one : goal.common_prefix-burdened-requires-clause-one
common_prefix-burdened-requires-clause-one c = c.requires.along true

pub common_prefix-burdened-requires-clause-other : goal.common_prefix-burdened-requires-clause-other
common_prefix-burdened-requires-clause-other c = c.requires.through true

pub returns-clause-along : goal.returns-clause-along
returns-clause-along c false =
    leads_on false (reverse c.args.self.now.rows.items) c.args.along.plain c.common_prefix-plain.result c.common_prefix.result c.common_prefix-plain.ensures.one c.common_prefix.ensures.one
returns-clause-along c true =
    leads_on true (reverse c.args.self.now.rows.items) c.args.along.burdened c.common_prefix-burdened.result c.common_prefix-both.result c.common_prefix-burdened.ensures.one c.common_prefix-both.ensures.one

pub returns-clause-through : goal.returns-clause-through
returns-clause-through c false =
    leads_on false (reverse c.args.self.now.rows.items) c.args.through.plain c.common_prefix-plain.result c.common_prefix.result c.common_prefix-plain.ensures.other c.common_prefix.ensures.one
returns-clause-through c true =
    leads_on true (reverse c.args.self.now.rows.items) c.args.through.burdened c.common_prefix-burdened.result c.common_prefix-both.result c.common_prefix-burdened.ensures.other c.common_prefix-both.ensures.one
