use Rattle.std.proofs.Common.{◌≡◌, ℕ, List, length, Some, refl, sym, ap, subst, ◌∙◌}
use Rattle.std.specs.Prelude.{slice_get}
use Rattle.spp_dag.proofs.Ties.{path_exists}
use Rattle.spp_stack.specs.declared.node.Node.{Node}
use Rattle.spp_stack.specs.Chain.{Stacks, IsTree}
use Rattle.spp_path.specs.declared.settling.Onward.{Onward}
use Rattle.spp_path.specs.Entered.{AreEnteredIn}
use Rattle.spp_path.specs.Settled.{burdens_under, IsSettled}
use Rattle.spp_path.proofs.Right.{settled_right}
use Rattle.spp_path.proofs.settled.settle_at.Goals as goal

pub returns-clause-count : goal.returns-clause-count
returns-clause-count c =
    c.in_ok-starts.ensures.count ∙ (ap (λ (x : List Onward). length x) c.deref.ensures.value ∙ c.in_ok-course.ensures.count)

pub returns-clause-settled : goal.returns-clause-settled
returns-clause-settled c es burdens root run =
    let s : Stacks = c.args.entries.now in
    let bd = burdens_under c.args.under burdens in
    let path = path_exists es run.well_formed bd 0 refl in
    let onwards : c.deref.result.now ≡ c.in_ok-course.course.onwards.items = c.deref.ensures.value in
    let spawns : c.deref-2.result.now ≡ c.in_ok-course.course.spawns.items = c.deref-2.ensures.value in
    let many : length c.deref.result.now ≡ length s.starts = ap (λ (x : List Onward). length x) onwards ∙ c.in_ok-course.ensures.count in
    subst (λ (x : List ℕ). IsSettled es bd (record { stacks = s; spawns = x; starts = c.in_ok-starts.starts.items })) spawns
    (settled_right es burdens root s c.args.choices.now run bd path.0 path.1 (subst (λ (x : List Node). IsTree x) c.nodes-nodes.ensures.nodes c.nodes-nodes.ensures.tree)
    c.deref-2.result.now c.in_ok-starts.starts.items c.deref.result.now many c.in_ok-starts.ensures.count
    (subst (λ (x : List ℕ). AreEnteredIn es bd 0 (length es) x) (sym spawns) (c.in_ok-course.ensures.spawns es burdens root run))
    (λ k o e. c.in_ok-course.ensures.onwards es burdens root path.0 run path.1 k o (subst (λ (x : List Onward). slice_get x k ≡ Some o) onwards e))
    (λ enters agrees rises k o q e f. c.in_ok-starts.ensures.starts enters agrees rises k o q e f)
    c.in_ok-starts.ensures.sound.rising)
