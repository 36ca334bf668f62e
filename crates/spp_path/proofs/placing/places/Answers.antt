use Rattle.std.proofs.Common.{rules, ◌≡◌, ◌<◌, ◌+◌, ℕ, Bool, false, List, length, refl, sym, ap, subst, ◌∙◌, arith}
use Rattle.std.specs.Prelude.{slice_index_or}
use Rattle.spp_path.specs.declared.settling.Onward.{Onward}
use Rattle.spp_path.specs.declared.settling.Onward.TheVariants.{Live}
use Rattle.std.proofs.lemmas.Option.{slice_get-get_or}
use Rattle.spp_dag.specs.declared.stack.EntryFrame.{EntryFrame}
use Rattle.spp_stack.specs.Chain.{Stacks}
use Rattle.spp_stack.specs.declared.node.Node.{Node}
use Rattle.spp_stack.specs.declared.stacks.Start.{Start}
use Rattle.spp_path.specs.declared.settled.PathStart.{PathStart}
use Rattle.spp_path.specs.Placing.{Agrees}
use Rattle.spp_path.proofs.MadeStarts.{Built, Next, built_next, permits_at, comes_at, over_at}
use Rattle.spp_path.proofs.placing.places.Goals as goal

pub loop-k-preserved : goal.loop-k-preserved
loop-k-preserved c =
    let i = c.loop-k.invariant in
    let s : Stacks = c.args.entries.now in
    let k : ℕ = c.loop-k.k in
    let lt : k < length s.starts = search rules in
    let start : Start = slice_index_or s.starts k (record { top = 0; at = 0; work = 0 }) in
    let onward : Onward = slice_index_or c.args.onwards.now k Live in
    let start_is = slice_get-get_or s.starts k (record { top = 0; at = 0; work = 0 }) lt in
    let p : PathStart = record { before = c.count_to-before.result; live = c.live-live.result; running = c.runs_on.result } in
    let at = c.at.ensures ∙ (c.entry.ensures.start start start_is).1 in
    let top = c.top.ensures.start start start_is in
    let nodes : c.loop-k.lives.nodes.now ≡ s.nodes = i.nodes in
    let onward_is = slice_get-get_or c.args.onwards.now k Live (omega (arith, lt, c.requires.count)) in
    let permits = λ (enters : EntryFrame → Bool) (agrees : Agrees enters s c.args.onwards.now). permits_at enters s c.args.onwards.now k start onward start_is onward_is c.loop-k.lives.nodes.now nodes c.top.result top agrees in
    let next : Next s c.args.onwards.now c.args.spawns.now k c.loop-k.before start onward p = record {
      start_is = start_is;
      onward_is = onward_is;
      grows = c.count_to-before.ensures.some;
      most = c.count_to-before.ensures.most;
      lower = λ j a b. let z = c.count_to-before.ensures.lower j a b in omega (arith, at);
      upper = λ a. let z = c.count_to-before.ensures.upper a in omega (arith, at);
      there = subst (λ (x : List Node). c.live-live.result < length x) nodes c.live-live.ensures.there;
      structure = over_at (λ f. false) c.loop-k.lives.nodes.now s.nodes c.top.result start.top c.live-live.result nodes top (c.live-live.ensures.over (λ f. false) (λ n outs a node is e. refl) i.structure).0;
      over = λ enters agrees. over_at enters c.loop-k.lives.nodes.now s.nodes c.top.result start.top c.live-live.result nodes top (c.live-live.ensures.over enters (permits enters agrees) (i.known enters agrees)).0;
      comes = comes_at c.loop-k.lives.nodes.now s.nodes onward c.live-live.result nodes c.live-live.ensures.comes;
      running = c.runs_on.ensures;
    } in
    record {
      nodes = ap (λ x. x.now) c.live-live.ensures.nodes ∙ nodes;
      falling = c.live-live.ensures.falling;
      known = λ enters agrees. (c.live-live.ensures.over enters (permits enters agrees) (i.known enters agrees)).1;
      structure = (c.live-live.ensures.over (λ f. false) (λ n outs a node is e. refl) i.structure).1;
      built = subst (λ (x : List PathStart). Built s c.args.onwards.now c.args.spawns.now (k + 1) p.before x) (sym c.in_ok-push.ensures.items) (built_next s c.args.onwards.now c.args.spawns.now k c.loop-k.before c.loop-k.starts.items i.built start onward p next);
    }
