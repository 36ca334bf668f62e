use Rattle.std.proofs.Common.{◌≡◌, length, Some, refl, sym, ap, subst, ◌∙◌, arith}
use Rattle.std.specs.Prelude.{slice_get}
use Rattle.std.proofs.lemmas.Option.{slice_get_read}
use Rattle.spp_stack.specs.declared.stacks.Start.{Start}
use Rattle.spp_stack.specs.Chain.{Stacks, IsChain, IsStart, IsTree, AreLinked}
use Rattle.spp_stack.proofs.stacks.Entries.entry.Goals as goal

start_is : (c : goal.After-nodes) → slice_get c.self.inside.starts.items c.args.k ≡ Some c.index-start.result.now
start_is c =
    let s = c.self.inside.starts in
    slice_get_read s.items _ c.args.k c.index-start.result.now refl (omega (arith, c.requires, ap (λ (z : Stacks). length z.starts) c.self.view_is)) c.index-start.ensures

nodes_are : (c : goal.After-nodes) → c.nodes.result.now ≡ c.self.inside.nodes.items
nodes_are c = c.nodes.ensures.nodes ∙ ap (λ (z : Stacks). z.nodes) (sym c.self.view_is)

pub invariant_of-result : goal.invariant_of-result
invariant_of-result c =
    let e = nodes_are c in
    let lt = c.self.invariant.tops c.args.k c.index-start.result.now (start_is c) in
    record {
      top = omega (arith, lt, ap length e);
      tree = subst (λ l. IsTree l) (sym e) c.self.invariant.tree;
      linked = subst (λ l. AreLinked l) (sym e) c.self.invariant.linked;
    }

pub returns-clause-nodes : goal.returns-clause-nodes
returns-clause-nodes c = c.nodes.ensures.nodes

pub returns-clause-tree : goal.returns-clause-tree
returns-clause-tree c = subst (λ l. IsTree l) (sym (nodes_are c)) c.self.invariant.tree

pub returns-clause-start : goal.returns-clause-start
returns-clause-start c start h =
    let get = start_is c in
    let here : slice_get c.self.inside.starts.items c.args.k ≡ Some start = subst (λ (z : Stacks). slice_get z.starts c.args.k ≡ Some start) (sym c.self.view_is) h in
    let is : c.index-start.result.now ≡ start = cc in
    (ap (λ (z : Start). z.top) is, ap (λ (z : Start). z.at) is)

pub returns-clause-entry : goal.returns-clause-entry
returns-clause-entry c at fs work h =
    let s = c.index-start.result.now in
    let get = start_is c in
    let i = subst (λ (z : Stacks). IsStart z c.args.k at fs work) (sym c.self.view_is) h in
    let got = i.is in
    let is : i.start ≡ s = cc in (
      subst (λ l. IsChain l (Some s.top) fs) (sym (nodes_are c))
          (subst (λ (z : Start). IsChain c.self.inside.nodes.items (Some z.top) fs) is i.chain),
      sym (i.at ∙ ap (λ (z : Start). z.at) is),
      sym (i.work ∙ ap (λ (z : Start). z.work) is),
    )
