use Rattle.std.proofs.Common.{rules}
use Rattle.spp_text.specs.Drafts.{last_events}
use Rattle.spp_text.proofs.draft.Draft.new.Goals as goal

pub invariant_of-result : goal.invariant_of-result
unfolding last_events
invariant_of-result c = search rules

pub returns : goal.returns
unfolding last_events
returns c = search rules
