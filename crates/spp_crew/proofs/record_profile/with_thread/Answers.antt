use Rattle.spp_crew.proofs.record_profile.with_thread.Goals as goal

pub returns-in-Ok-clause-same : goal.returns-in-Ok-clause-same
returns-in-Ok-clause-same g c trace burdens k shown = c.add_thread.ensures.same trace burdens k (c.new_thread.ensures.same trace burdens k shown)
