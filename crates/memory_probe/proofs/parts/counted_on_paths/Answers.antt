use Rattle.std.proofs.Common.{List, sym, subst, ◌∙◌}
use Rattle.spp_maxplus.specs.declared.state.Burdens.{Burdens}
use Rattle.spp_dag.specs.declared.choices.Choices.{Choices}
use Rattle.spp_jobs.specs.Choices.{AreChoicesOf}
use Rattle.spp_crew.proofs.Profiled.{table_of, all_choices}
use Rattle.memory_probe.proofs.parts.counted_on_paths.Goals as goal

pub pathed-requires-clause-choices : goal.pathed-requires-clause-choices
pathed-requires-clause-choices g c es are =
    let three : Burdens = record { continuation = 3; join = 3 } in
    let told = c.in_ok-choices in
    subst (λ (cs : List Choices). AreChoicesOf es three c.args.cut.now.parts cs) (sym (c.deref-2.ensures.value ∙ c.into_vec-choices.ensures.items))
    (all_choices (table_of c.args.cut.now three) c.parts-parts.ensures.cut told.field-0 told.ensures es are)
