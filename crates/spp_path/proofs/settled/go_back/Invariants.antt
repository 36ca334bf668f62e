use Rattle.std.proofs.Common.{◌≡◌, ◌≤◌, ◌+◌, ℕ, List, length, Some}
use Rattle.std.specs.Prelude.{slice_get}
use Rattle.spp_event.specs.declared.records.Event.{Event}
use Rattle.spp_maxplus.specs.declared.state.Burdens.{Burdens}
use Rattle.spp_dag.specs.Dag.{IsPath}
use Rattle.spp_path.specs.declared.settling.Onward.{Onward}
use Rattle.spp_path.specs.Ways.{HasCome, StandsAt}
use Rattle.spp_path.specs.Settled.{position, burdens_under, AreOfRun}
use Rattle.spp_path.proofs.settled.go_back.Given as goal

abbrev pub invariant-loop-part : goal.invariant-loop-part
invariant-loop-part l = record {
  most : l.part ≤ length l.choices;
  count : length l.onwards.items ≡ length l.choices + 1;
  come : (es : List Event) (burdens : Burdens) (root : ℕ) (ps : List ℕ) → AreOfRun es burdens root l.entries l.choices → IsPath es (burdens_under l.under burdens) 0 (length es) ps
      → HasCome es ps (position l.entries l.part) l.way;
  stands : (es : List Event) (burdens : Burdens) (root : ℕ) (ps : List ℕ) → AreOfRun es burdens root l.entries l.choices → IsPath es (burdens_under l.under burdens) 0 (length es) ps
      → (k : ℕ) (onward : Onward) → l.part ≤ k → slice_get l.onwards.items k ≡ Some onward → StandsAt es ps (position l.entries k) onward;
}

abbrev pub decreases-loop-part : goal.decreases-loop-part
decreases-loop-part l = l.part
