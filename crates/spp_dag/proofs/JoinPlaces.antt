-- Where children join.
use Rattle.std.proofs.Common.{◌≡◌, ℕ, ◌<◌, true, List, length}
use Rattle.std.proofs.lemmas.Bool.{and_parts, eqb-true}
use Rattle.spp_event.specs.declared.records.Event.{Event}
use Rattle.spp_dag.specs.Trace.{event_at, opens, syncs, spawns, IsWellFormed, owner, join}
use Rattle.spp_dag.specs.Laws.{Waits}
use Rattle.spp_dag.proofs.Upper.{spawns_opens}
use Rattle.spp_dag.proofs.Crossing.{join_spec}

module _ (es : List Event) (wf : IsWellFormed es) where
  -- a child's join is of the frame that spawned it, where it isn't the end
  pub join_own : (s : ℕ) → opens (event_at es s) ≡ true → join es s < length es → owner es (join es s) ≡ owner es s
  join_own s o l = eqb-true _ _ (and_parts (syncs (event_at es (join es s))) _ ((join_spec es wf s o).passes l)).1

  -- a child joins where its frame waits
  pub join_waits : (s : ℕ) → spawns (event_at es s) ≡ true → Waits es (join es s)
  join_waits s t =
      let spec = join_spec es wf s (spawns_opens (event_at es s) t) in
      (spec.upper, λ l. (and_parts _ _ (spec.passes l)).0)
